-- what the drawing shows, counted
use Rattle.std.proofs.Common.{◌≡◌, length, ap, subst, ◌∙◌, rules}
use Rattle.std.specs.Prelude.{sum_by}
use Rattle.coll_plans.specs.Plans.{family}
use Rattle.coll_draw.specs.declared.arrow.Arrow.{Arrow}
use Rattle.coll_draw.specs.Drawings.{Drawn, IsDrawing, arrows, combinations, steps}
use Rattle.coll_draw.proofs.Counting.{length-arrows, length-combinations, bytes-arrows}
use Rattle.coll_draw.proofs.drawing.Drawing.totals.Goals as goal

pub returns : goal.returns
returns c =
    let d = c.args.self.now in
    let is : IsDrawing d = subst IsDrawing c.self.view_is c.self.invariant in
    let all = steps d.n (family d.sig d.n) in
    let messages : c.self.inside.arrows.items ≡ arrows d.n (family d.sig d.n) =
    ap (λ (x : Drawn). x.arrows) c.self.view_is ∙ is.arrows_are in
    let combined : c.self.inside.combinations.items ≡ combinations d.n (family d.sig d.n) =
    ap (λ (x : Drawn). x.combinations) c.self.view_is ∙ is.combinations_are in
    let message_count : c.len.result ≡ length c.self.inside.arrows.items = search rules in
    let combination_count : c.len-2.result ≡ length c.self.inside.combinations.items = search rules in
    record {
      rounds_are = ap (λ (x : Drawn). x.round_count) c.self.view_is ∙ is.rounds_are;
      exchanges_are = ap (λ (x : Drawn). x.exchange_count) c.self.view_is ∙ is.exchanges_are;
      messages_are = message_count ∙ (ap length messages ∙ length-arrows all);
      bytes_are = c.bytes_of.ensures
          ∙ (ap (sum_by (λ (arrow : Arrow). arrow.len)) (c.deref.ensures.value ∙ messages) ∙ bytes-arrows all);
      combinations_are = combination_count ∙ (ap length combined ∙ length-combinations all);
    }
