-- Which traces are legal, and how much of a trace is used or spoken for.
use Rattle.std.specs.Prelude.{◌≡◌, ◌==◌, ◌+◌, ◌≤◌, ℕ, zero, suc, List, [], ◌∷◌, length, Option, Some, None, if◌then◌else◌}
use Rattle.coll_kinds.specs.declared.kind.Mode.TheVariants.{Persistent}
use Rattle.coll_kinds.specs.Sameness.{mode_number}
use Rattle.coll_machine.specs.Settings.{Setting}
use Rattle.coll_machine.specs.States.{Request, State, nothing}
use Rattle.coll_machine.specs.Calls.{Planned}
use Rattle.coll_machine.specs.Entries.{Entry, Posted, Inited, Started, Retired, Freed}
use Rattle.coll_machine.specs.Steps.{Posts, Inits, Starts, Frees, Retires}

-- the entry may come in the one state, and leaves the other
abbrev pub Enters : Setting → State → Entry → State → Type 0
Enters g s (Posted rank t comm place sig bytes) u =
    (plan : Planned) × (plan.sig ≡ sig) × Posts g s rank t comm place plan bytes u
Enters g s (Inited rank t comm place sig) u = (plan : Planned) × (plan.sig ≡ sig) × Inits g s rank t comm place plan u
Enters g s (Started rank t start bytes) u = Starts g s rank t start bytes u
Enters g s (Retired rank t comm place start bytes) u = Retires g s rank t comm place start bytes u
Enters g s (Freed rank t) u = Frees g s rank t u

-- each entry may come after those before it, and together they lead from the one state to the other
abbrev pub Leads : Setting → State → List Entry → State → Type 0
Leads g s [] u = s ≡ u
Leads g s (e ∷ es) u = (next : State) × Enters g s e next × Leads g next es u

-- the sum over the slots below n
abbrev pub over_slots : (Option Request → ℕ) → (ℕ → Option Request) → ℕ → ℕ
over_slots f request zero = 0
over_slots f request (suc n) = over_slots f request n + f (request n)

-- the entries that a request may still bring without a further start: its completion, and a persistent one's free
abbrev pub reserved_for : Option Request → ℕ
reserved_for None = 0
reserved_for (Some q) =
    (if q.active then 1 else 0) + (if mode_number q.mode == mode_number Persistent then 1 else 0)

abbrev pub reserved : Setting → State → ℕ
reserved g s = over_slots reserved_for s.request g.slots

-- a trace that an engine with these limits may have, from its opening to the state that it leads to
pub record LegalTrace (g : Setting) (es : List Entry) (s : State) : Type 0 where
  pub leads : Leads g nothing es s  -- the entries may come one after the other
  pub room : length es + reserved g s ≤ g.trace  -- there is room for them and for all that they speak for
