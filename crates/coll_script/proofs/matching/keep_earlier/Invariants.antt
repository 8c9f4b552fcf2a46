use Rattle.coll_script.specs.PostingViews.{list_view}
use Rattle.coll_script.proofs.Matched.{KeepsUpTo}
use Rattle.coll_script.proofs.matching.keep_earlier.Given as goal

abbrev pub invariant-loop-place : goal.invariant-loop-place
invariant-loop-place l = KeepsUpTo l.place (list_view l.list) l.initial.firsts.items l.firsts.items
