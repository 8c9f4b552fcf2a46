-- what the drawing shows, and the theorem of Drawn
use Rattle.std.proofs.Common.{◌≡◌, sym, ap, subst, ◌∙◌}
use Rattle.std.specs.List.{AllByRecursion}
use Rattle.coll_plans.specs.Plans.{family}
use Rattle.coll_draw.specs.Drawings.{Drawn, IsDrawing, arrows}
use Rattle.coll_draw.specs.Laws.{IsMessage}
use Rattle.coll_draw.proofs.Drawn.{drawn_arrows_are_messages}
use Rattle.coll_draw.proofs.drawing.Drawing.arrows.Goals as goal

pub returns-clause-messages : goal.returns-clause-messages
returns-clause-messages c =
    let d = c.args.self.now in
    let is : IsDrawing d = subst IsDrawing c.self.view_is c.self.invariant in
    let shown : c.as_slice.result.now ≡ arrows d.n (family d.sig d.n) =
    c.as_slice.ensures.value ∙ (ap (λ (x : Drawn). x.arrows) c.self.view_is ∙ is.arrows_are) in
    subst (AllByRecursion (IsMessage d.n (family d.sig d.n))) (sym shown)
    (drawn_arrows_are_messages d.sig d.n is.checked is.not_none is.few)
