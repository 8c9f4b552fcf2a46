use Rattle.std.proofs.Common.{◌≡◌, ◌+◌, ◌∷◌, [], ap, ◌∙◌, refl, subst, sym, List, map}
use Rattle.std.specs.List.{AllByRecursion}
use Rattle.std.proofs.lemmas.List.{length-append, map-append}
use Rattle.coll_parser.specs.Requests.{Request}
use Rattle.coll_parser.specs.Code.{request_view, requests_view}
use Rattle.coll_parser.proofs.Lists.{AllByRecursion-push}
use Rattle.coll_parser.proofs.history.none.Goals as goal

pub loop-init : goal.loop-init
loop-init c = record { count = rw c.new-ranks.ensures.items refl; none = rw c.new-ranks.ensures.items tt }

pub loop-preserved : goal.loop-preserved
loop-preserved c = record {
  count = rw c.in_ok-push.ensures.items (length-append c.loop.ranks.items _ ∙ ap (λ n. n + 1) c.loop.invariant.count);
  none = rw c.in_ok-push.ensures.items
      (subst (AllByRecursion (λ (s : List Request). s ≡ [])) (sym (map-append _ c.loop.ranks.items (c.new.result ∷ [])))
      (AllByRecursion-push _ (requests_view c.loop.ranks.items) _ c.loop.invariant.none (ap (map request_view) c.new.ensures.items)));
}
