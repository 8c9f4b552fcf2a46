use Rattle.std.proofs.Common.{◌≡◌, true}
use Rattle.coll_verdict.specs.Checking.{are_apart}
use Rattle.coll_verdict.specs.Code.{AreStood, CanCome}
use Rattle.coll_verdict.proofs.verdict.all_pass.Given as goal

abbrev pub invariant-loop-rank : goal.invariant-loop-rank
invariant-loop-rank l = record {
  apart : are_apart l.groups ≡ true;
  stood : AreStood l.history l.ranks.items;
  passes : CanCome l.library l.history l.ranks.items;
}
