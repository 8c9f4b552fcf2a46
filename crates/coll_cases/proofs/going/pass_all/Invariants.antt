use Rattle.std.proofs.Common.{◌≡◌, true}
use Rattle.coll_parser.specs.Code.{rows_view}
use Rattle.coll_parser.specs.Histories.{History}
use Rattle.coll_verdict.specs.Checking.{are_apart}
use Rattle.coll_verdict.specs.Code.{AreStood}
use Rattle.coll_cases.specs.Code.{HavePassed}
use Rattle.coll_cases.proofs.going.pass_all.Given as goal

abbrev pub invariant-loop-step : goal.invariant-loop-step
invariant-loop-step l = (h : History) → AreStood h l.fn.ranks.items → rows_view l.setup.groups.now ≡ h.groups → are_apart l.setup.groups.now ≡ true
    → HavePassed l.setup.library.now h l.ranks.items
