-- The entries of completions and frees.
use Rattle.std.specs.Prelude.{List, [], ◌∷◌}
use Rattle.std.specs.List.{flat_map}
use Rattle.coll_machine.specs.Common.{Call, Free, Nothing, Outcome, Reply, Retire, Entry, Freed, Retired, Event}

-- the entry of a call with its answer; nothing is said here of other calls
abbrev pub ending : Call → Reply → List Entry
ending (Retire rank t) (Outcome who comm place start bytes) = Retired rank t comm place start bytes ∷ []
ending (Free rank t) Nothing = Freed rank t ∷ []
ending _ _ = []

-- of a run
abbrev pub endings : List Event → List Entry
endings es = flat_map (λ e. ending e.call e.reply) es
