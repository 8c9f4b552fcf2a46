-- Outcomes that completions handed out are attested.
use Rattle.std.proofs.Common.{◌≡◌, IsTrue, refl, subst, ℕ, zero, suc, Bool, true, false, cond, List, [], ◌∷◌, arith}
use Rattle.std.specs.Bool.{OnTrue}
use Rattle.std.specs.List.{All, AllByRecursion, AllZip, Contains, filter}
use Rattle.std.proofs.lemmas.List.Elements.{All-from_recursion}
use Rattle.coll_machine.specs.Entries.{Entry, Retired}
use Rattle.coll_core.specs.declared.outcome.Outcome.{Outcome}
use Rattle.coll_report.specs.Attested.{HandedOut, HandsOut, IsAttested, key_of}
use Rattle.coll_report.specs.Traces.{completes_by, completions_of}

there : (y : Entry) (xs : List Entry) (x : Entry) → Contains xs x → Contains (y ∷ xs) x
there y xs x c = (suc c.0, omega (arith, c.1), c.2)

-- what a filter keeps was there
Contains-filter : (p : Entry → Bool) (xs : List Entry) (x : Entry) → Contains (filter p xs) x → Contains xs x
Contains-filter p [] x c = c
Contains-filter p (y ∷ xs) x c = go (p y) (Contains-filter p xs x) c
  where
    go : (b : Bool) → (Contains (filter p xs) x → Contains xs x)
        → Contains (cond b (y ∷ filter p xs) (filter p xs)) x → Contains (y ∷ xs) x
    go true rest (zero, low, at) = (0, omega arith, at)
    go true rest (suc n, low, at) = there y xs x (rest (n, omega (arith, low), at))
    go false rest c = there y xs x (rest c)

abbrev IsAttestedIn : List Entry → Outcome → Type 0
IsAttestedIn all o = IsAttested all o.rank (key_of o) o.bytes

all_attested : (all es : List Entry) (os : List Outcome) → AllZip HandsOut es os
    → ((e : Entry) → Contains es e → Contains all e) → AllByRecursion (IsAttestedIn all) os
all_attested all [] [] h within = tt
all_attested all [] (o ∷ os) h within = absurd h
all_attested all (e ∷ es) [] h within = absurd h
all_attested all (e ∷ es) (o ∷ os) h within = (
  (h.0.0, within (Retired o.rank h.0.0 o.comm o.place o.start o.bytes) (0, omega arith, h.0.1)),
  all_attested all es os h.1 (λ x c. within x (there e es x c)),
)

HandedOut-attested : (es : List Entry) (rank : ℕ) (os : List Outcome) → HandedOut es rank os → All (IsAttestedIn es) os
HandedOut-attested es rank os h =
    All-from_recursion (IsAttestedIn es) os
    (all_attested es (completions_of rank es) os h (λ e. Contains-filter (completes_by rank) es e))

pub attested-by : (answer : Bool) (shown entries : List Entry) (rank : ℕ) (os : List Outcome)
    → (IsTrue answer → HandedOut shown rank os) → shown ≡ entries → OnTrue answer (All (IsAttestedIn entries) os)
attested-by true shown entries rank os h same =
    subst (λ (es : List Entry). All (IsAttestedIn es) os) same (HandedOut-attested shown rank os (h refl))
attested-by false shown entries rank os h same = tt
