use Rattle.std.proofs.Common.{◌≡◌, ℕ, map, List, Option}
use Rattle.coll_kinds.specs.declared.refusal.Refusal.{Refusal}
use Rattle.coll_run.specs.declared.rank.Got.{Got}
use Rattle.coll_run.proofs.running.apart.Given as goal

abbrev pub invariant-loop-end : goal.invariant-loop-end
invariant-loop-end g l = record {
  refusals : ◌≡◌ {A = List (Option Refusal)} l.refusals.items (map (λ e. e.refusal) l.yielded);
  spents : ◌≡◌ {A = List (ℕ × ℕ)} l.spents.items (map (λ e. e.spent) l.yielded);
  got : ◌≡◌ {A = List Got} l.all_got.items (map (λ e. e.got) l.yielded);
}
