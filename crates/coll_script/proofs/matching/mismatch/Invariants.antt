use Rattle.std.proofs.Common.{◌≡◌, drop}
use Rattle.std.specs.Prelude.{flat_map}
use Rattle.coll_script.specs.Matching.{differing, least, mismatch}
use Rattle.coll_script.specs.PostingViews.{all_lists_view}
use Rattle.coll_script.proofs.matching.mismatch.Given as goal

abbrev pub invariant-loop-lists : goal.invariant-loop-lists
invariant-loop-lists l = least l.line (flat_map differing (drop l.lists-index (all_lists_view l.all))) ≡ mismatch (all_lists_view l.all)
