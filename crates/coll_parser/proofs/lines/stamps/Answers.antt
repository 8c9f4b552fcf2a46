use Rattle.std.proofs.Common.{◌≡◌, ◌+◌, ◌∷◌, [], ap, ◌∙◌, refl, subst, sym, List, ℕ}
use Rattle.std.specs.List.{AllByRecursion}
use Rattle.std.proofs.lemmas.List.{length-append, map-append}
use Rattle.coll_parser.proofs.Lists.{AllByRecursion-push}
use Rattle.coll_parser.specs.Code.{rows_view}
use Rattle.coll_parser.proofs.lines.stamps.Goals as goal

pub loop-init : goal.loop-init
loop-init c = record { count = rw c.new-stamps.ensures.items refl; none = rw c.new-stamps.ensures.items tt }

pub loop-preserved : goal.loop-preserved
loop-preserved c = record {
  count = rw c.in_ok-push.ensures.items (length-append c.loop.stamps.items _ ∙ ap (λ n. n + 1) c.loop.invariant.count);
  none = rw c.in_ok-push.ensures.items
      (subst (AllByRecursion (λ (s : List ℕ). s ≡ [])) (sym (map-append _ c.loop.stamps.items (c.new.result ∷ [])))
      (AllByRecursion-push _ (rows_view c.loop.stamps.items) _ c.loop.invariant.none c.new.ensures.items));
}
