-- Starts of a list of requests, with what shows them.
use Rattle.std.specs.Prelude.{◌≡◌, ℕ, List, [], ◌∷◌, ◌++◌}
use Rattle.coll_complete.specs.Starting.{Begun}
use Rattle.coll_machine.specs.Entries.{Entry}
use Rattle.coll_traced.specs.Calls.{IsStarted}

-- these are the entries of the starts, one of each, in their order
abbrev pub AreStarted : ℕ → List Begun → List Entry → Type 0
AreStarted rank [] [] = Unit {0}
AreStarted rank ((request, bytes) ∷ begun) (e ∷ es) = IsStarted rank request bytes e × AreStarted rank begun es
AreStarted rank [] (e ∷ es) = ⊥
AreStarted rank (b ∷ begun) [] = ⊥

-- they come after those that were there
abbrev pub PushesStarts : ℕ → List Begun → List Entry → List Entry → Type 0
PushesStarts rank begun was is = (es : List Entry) × (is ≡ was ++ es) × AreStarted rank begun es
