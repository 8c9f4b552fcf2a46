use Rattle.std.proofs.Common.{◌≡◌, ◌<◌, ℕ, vec_len}
use Rattle.std.specs.Sync.Mutex.{mutex_guard_value}
use Rattle.crossbeam_utils.specs.Padded.{padded_value}
use Rattle.coll_traced.specs.Ranks.{IsIn}
use Rattle.coll_shared.specs.Sleepers.{Wakes}
use Rattle.coll_shared.proofs.combiner.Combiner.call_parked.Given as goal

abbrev pub invariant-loop-rank : goal.invariant-loop-rank
invariant-loop-rank g l = record {
  traced : (mutex_guard_value l.held.locked).traced ≡ (mutex_guard_value l.initial.held.locked).traced;
  woken : Wakes (mutex_guard_value l.initial.held.locked).parked l.initial.held.wake (mutex_guard_value l.held.locked).parked l.held.wake;
  called : (rank : ℕ) → rank < l.rank → rank < vec_len (padded_value l.self.records) → IsIn (mutex_guard_value l.held.locked).parked rank → ⊥;
}
