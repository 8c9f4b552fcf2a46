-- What a job has come to whose ranks carry their lines out by calls on an engine.
use Rattle.std.specs.Prelude.{◌≡◌, ℕ, List, slice_get, Some}
use Rattle.coll_kinds.specs.declared.signature.Signature.{Signature}
use Rattle.coll_machine.specs.Common.{Setting}
use Rattle.coll_plans.specs.Hearings.{hears_here}
use Rattle.coll_parser.specs.declared.command.Command.{Command}
use Rattle.coll_parser.specs.declared.command.Command.TheVariants.{Init}
use Rattle.coll_verdict.specs.Standings.{Standing}
use Rattle.coll_verdict.specs.Stalls.{Waits}
use Rattle.coll_verdict.specs.Waiting.{ReachesBy}
use Rattle.coll_core.specs.Cores.{Parts, seen, setting}

-- a run by this engine's schedules comes to it, and the engine shows its machine
pub record IsRunOf (p : Parts) (lines : ℕ → List Command) (s : Standing) : Type 0 where
  pub machine_is : s.machine ≡ seen p
  pub reached : ReachesBy hears_here (setting p) lines s

-- each rank that isn't at its end is in a call that waits for requests, and none of them can be completed so that it returns
pub record AllWait (g : Setting) (lines : ℕ → List Command) (s : Standing) : Type 0 where
  pub waits : (rank : ℕ) (c : Command) → slice_get (lines rank) (s.at rank) ≡ Some c → Waits g lines s rank c
  pub returns : (rank comm : ℕ) (sig : Signature) → slice_get (lines rank) (s.at rank) ≡ Some (Init comm sig) → ⊥
