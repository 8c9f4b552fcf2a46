use Rattle.std.proofs.Common.{◌≡◌, true}
use Rattle.coll_parser.specs.Code.{rows_view}
use Rattle.coll_parser.specs.Histories.{History}
use Rattle.coll_verdict.specs.Checking.{are_apart}
use Rattle.coll_verdict.specs.Code.{AreStood}
use Rattle.coll_cases.specs.Code.{AreRefuted}
use Rattle.coll_cases.proofs.cases.+is_shown.Given as goal

abbrev pub decreases-is_shown : goal.decreases-is_shown
decreases-is_shown l = l.depth

abbrev pub invariant-loop-outcome : goal.invariant-loop-outcome
invariant-loop-outcome l = (h : History) → AreStood h l.fn.ranks.items → rows_view l.setup.groups.now ≡ h.groups → are_apart l.setup.groups.now ≡ true
    → AreStood h l.ranks.items × AreRefuted l.setup.library.now h l.split l.outcome-index
