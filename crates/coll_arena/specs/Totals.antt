-- Sums over the slots of an arena.
use Rattle.std.specs.Prelude.{◌≡◌, ℕ, zero, suc, ◌+◌, ◌<◌, Option}
use Rattle.coll_arena.specs.Lookups.{PutsSlot}
use Rattle.coll_arena.specs.Slots.{Slots, count, record_in}

-- the sum over the first n places
abbrev pub sum_to : (ℕ → ℕ) → ℕ → ℕ
sum_to f zero = 0
sum_to f (suc n) = sum_to f n + f n

-- the sum over all slots of what their records count for
abbrev pub total : {R : Type 0} → (Option R → ℕ) → Slots R → ℕ
total worth a = sum_to (λ slot. worth (record_in a slot)) (count a)

-- a change of one slot changes one term of the sum
abbrev pub ChangesTotal : Type 0 → Type 0
ChangesTotal R =
    (worth : Option R → ℕ) (a b : Slots R) (slot generation weight list : ℕ) (found : Option R) →
    PutsSlot a b slot generation weight found list →
    slot < count a →
    total worth b + worth (record_in a slot) ≡ total worth a + worth found
