-- What lies under an engine's lock, from one call to the next, where the ranks of a job carry their lines out, each by calls on its own port.
use Rattle.std.specs.Prelude.{◌≡◌, ◌≤◌, ℕ, List, [], Some, replicate, slice_get, slice_set}
use Rattle.coll_machine.specs.Common.{AreGroups, Machine, MayFinish}
use Rattle.coll_refinement.specs.FreeLocks.{FreeLock}
use Rattle.coll_parser.specs.declared.command.Command.{Command}
use Rattle.coll_verdict.specs.Standings.{Holding, Standing, beginning, carried_out, Carries}
use Rattle.coll_core.specs.BetweenCalls.{BetweenCalls}
use Rattle.coll_core.specs.Configs.{idle}
use Rattle.coll_core.specs.Cores.{Parts, seen, setting, tables}
use Rattle.coll_core.specs.Phases.{AreDoneOnceHeard}
use Rattle.coll_traced.specs.Traced.{Traced}
use Rattle.coll_traced.specs.Waits.{WaitFor, Awake}
use Rattle.coll_deadlock.specs.Lines.{IsInLine}

-- what `TracedCore::knows_core` says of each core under the lock
pub record IsKnown (p : Parts) : Type 0 where
  pub between : BetweenCalls p
  pub free : FreeLock (tables p)
  pub heard : AreDoneOnceHeard p
  pub groups : AreGroups (setting p)

-- the rank's port is awake after the call, as it was before it, or since its wait is over; the others' waits stay
pub record LeavesAwake (old new : List WaitFor) (rank : ℕ) : Type 0 where
  pub own : slice_get new rank ≡ Some Awake
  pub others : (other : ℕ) → (other ≡ rank → ⊥) → slice_get new other ≡ slice_get old other

-- such calls come to it, and the job has come to that
pub data ComesTo (lines : ℕ → List Command) : Traced → Standing → Type 0 where
  -- where the engine was opened all ports are awake, and each rank that has lines has one
  opens : (t : Traced) (n : ℕ)
      → IsKnown t.core
      → seen t.core ≡ idle
      → t.waits ≡ replicate n Awake
      → ((rank : ℕ) → n ≤ rank → lines rank ≡ [])
      → ComesTo lines t beginning
  -- a call carries a rank's next line out, and perhaps a request becomes Done after that
  carries : {t : Traced} {s : Standing} (u : Traced) (rank : ℕ) (c : Command) (mid : Machine) (i : Holding)
      → ComesTo lines t s
      → IsKnown u.core
      → setting u.core ≡ setting t.core
      → slice_get (lines rank) (s.at rank) ≡ Some c
      → Carries (setting t.core) rank (seen t.core) (s.holds rank) c mid i
      → MayFinish (setting t.core) mid (seen u.core)
      → LeavesAwake t.waits u.waits rank
      → ComesTo lines u (carried_out s rank (seen u.core) i)
  -- the engine does an action, hands a combination out or takes it back, or a call is refused: perhaps a request becomes Done
  goes : {t : Traced} {s : Standing} (u : Traced)
      → ComesTo lines t s
      → IsKnown u.core
      → setting u.core ≡ setting t.core
      → MayFinish (setting t.core) (seen t.core) (seen u.core)
      → u.waits ≡ t.waits
      → ComesTo lines u (record s { machine = seen u.core })
  -- it is noted of a rank's port that it waits in the rank's next line, is awake, or has ended, at the rank's end
  notes : {t : Traced} {s : Standing} (u : Traced) (rank : ℕ) (wait : WaitFor)
      → ComesTo lines t s
      → u.core ≡ t.core
      → u.waits ≡ slice_set t.waits rank wait
      → ((c : Command) → slice_get (lines rank) (s.at rank) ≡ Some c → IsInLine s.machine rank (s.holds rank) c wait)
      → ComesTo lines u s
