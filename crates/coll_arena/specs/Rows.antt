-- Worked rows.
use Rattle.std.specs.Prelude.{◌≡◌, ℕ, [], ◌∷◌, Option, Some, None}
use Rattle.std.proofs.Common.{refl}
use Rattle.coll_arena.specs.Changes.{opened, replaced, retired, taken}
use Rattle.coll_arena.specs.Slots.{Slots, lent}
use Rattle.coll_arena.specs.Totals.{total}

-- four slots, each given out twice at most; three of them are given to requests on Done of communicator 0, list 6
abbrev pub three_done : Slots ℕ
three_done = taken (taken (taken (opened 4 1 2) 0 10 8 6) 1 11 24 6) 2 12 0 6

-- then the request in slot 1 leaves
pub retire_the_named :
    (retired three_done 1).lists ≡ (3 ∷ 1 ∷ []) ∷ [] ∷ [] ∷ [] ∷ [] ∷ [] ∷ (0 ∷ 2 ∷ []) ∷ []
retire_the_named = refl

pub records_kept : (retired three_done 1).records ≡ Some 10 ∷ None ∷ Some 12 ∷ None ∷ []
records_kept = refl

pub lent_before : lent three_done ≡ 32
lent_before = refl

pub lent_after : lent (retired three_done 1) ≡ 8
lent_after = refl

-- a slot that was given out for the last time goes to Worn, list 1
pub retire_wears_out :
    (retired (taken (opened {R = ℕ} 1 1 1) 0 10 8 2) 0).lists ≡ [] ∷ (0 ∷ []) ∷ [] ∷ [] ∷ [] ∷ [] ∷ [] ∷ []
retire_wears_out = refl

-- the request in slot 0 gets another record and goes to Ready, list 2
pub replace_moves :
    (replaced three_done 0 20 2).lists ≡ (3 ∷ []) ∷ [] ∷ (0 ∷ []) ∷ [] ∷ [] ∷ [] ∷ (1 ∷ 2 ∷ []) ∷ []
replace_moves = refl

pub replace_writes : (replaced three_done 0 20 2).records ≡ Some 20 ∷ Some 11 ∷ Some 12 ∷ None ∷ []
replace_writes = refl

-- three requests, each of which counts for its record
abbrev pub worth : Option ℕ → ℕ
worth None = 0
worth (Some record_is) = record_is

pub total_of_three : total worth three_done ≡ 33
total_of_three = refl
