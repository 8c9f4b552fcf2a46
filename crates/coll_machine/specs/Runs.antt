-- Runs: calls with their answers, one after the other.
use Rattle.std.specs.Prelude.{◌≡◌, false, List, [], ◌∷◌}
use Rattle.coll_machine.specs.Settings.{Setting}
use Rattle.coll_machine.specs.States.{Machine, nothing}
use Rattle.coll_machine.specs.Calls.{Call, Reply}
use Rattle.coll_machine.specs.Machines.{phased, MachineStep}

-- a call with its answer
pub record Event : Type 0 where
  pub call : Call
  pub reply : Reply

-- each is a step from the machine that the one before left
abbrev pub Runs : Setting → Machine → List Event → Machine → Type 0
Runs g m [] n = m ≡ n
Runs g m (e ∷ es) n = (next : Machine) × MachineStep g m e.call e.reply next × Runs g next es n

-- an engine that was just opened
abbrev pub opened : Machine
opened = phased nothing (λ slot. false)

abbrev pub Run : Setting → List Event → Machine → Type 0
Run g es m = Runs g opened es m
