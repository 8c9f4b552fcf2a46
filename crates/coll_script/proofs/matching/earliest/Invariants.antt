use Rattle.std.proofs.Common.{◌≡◌, ℕ, drop}
use Rattle.std.specs.Prelude.{slice_get, None}
use Rattle.coll_script.specs.Matching.{earliest}
use Rattle.coll_script.specs.PostingViews.{lists_view}
use Rattle.coll_script.proofs.matching.earliest.Given as goal

abbrev pub invariant-loop-list : goal.invariant-loop-list
invariant-loop-list l = (place : ℕ)
    → earliest (slice_get l.firsts.items place) place (drop l.list-index (lists_view l.lists)) ≡ earliest None place (lists_view l.lists)
