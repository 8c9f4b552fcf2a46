use Rattle.coll_parser.specs.Histories.{History}
use Rattle.coll_verdict.specs.Code.{AreStood}
use Rattle.coll_cases.proofs.going.push_all.Given as goal

abbrev pub invariant-loop-step : goal.invariant-loop-step
invariant-loop-step l = (h : History) → AreStood h l.fn.ranks.items → AreStood h l.ranks.items
