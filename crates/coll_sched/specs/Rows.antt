-- Worked rows, computed.
use Rattle.std.specs.Prelude.{◌≡◌, ℕ, List, [], ◌∷◌, true, false, refl, cond, ◌==◌}
use Rattle.coll_sched.specs.declared.region.Region.{Region}
use Rattle.coll_sched.specs.declared.action.Action.TheVariants.{Send, Copy, Recv}
use Rattle.coll_sched.specs.Regions.{written, read_of}
use Rattle.coll_sched.specs.Schedules.{exchanges}
use Rattle.coll_sched.specs.Writers.{shares, writers}
use Rattle.coll_sched.specs.Families.{Family, lock_step, result_at, family_exchanges}

abbrev byte_at : ℕ → Region
byte_at k = record { at = k; len = 1 }

-- two bytes are written at place 1 of four
written_in_place : written (1 ∷ 2 ∷ 3 ∷ 4 ∷ []) (record { at = 1; len = 2 }) (8 ∷ 9 ∷ []) ≡ 1 ∷ 8 ∷ 9 ∷ 4 ∷ []
written_in_place = refl

read_in_place : read_of (1 ∷ 2 ∷ 3 ∷ 4 ∷ []) (record { at = 1; len = 2 }) ≡ 2 ∷ 3 ∷ []
read_in_place = refl

-- two members exchange their bytes, both at once, and each keeps the other's
abbrev swapping : Family
swapping r =
    record {
      size = 2;
      input = byte_at 0;
      output = byte_at 1;
      rounds = (Send (cond (r == 0) 1 0) (byte_at 0) ∷ Recv (cond (r == 0) 1 0) (byte_at 1) ∷ []) ∷ [];
    }

abbrev gave : ℕ → List ℕ
gave r = cond (r == 0) (7 ∷ []) (9 ∷ [])

swapped_at_first : result_at swapping gave 0 ≡ 9 ∷ []
swapped_at_first = refl

swapped_at_second : lock_step swapping gave 1 1 ≡ 9 ∷ 7 ∷ []
swapped_at_second = refl

-- a Copy and a Recv of one round: the Copy reads the byte of before the round
abbrev shifting : Family
shifting r =
    record {
      size = 2;
      input = byte_at 0;
      output = byte_at 0;
      rounds = (Send 0 (byte_at 0) ∷ Copy (byte_at 0) (byte_at 1) ∷ []) ∷ (Copy (byte_at 1) (byte_at 0) ∷ []) ∷ [];
    }

one_exchange : exchanges (shifting 0).rounds ≡ 1
one_exchange = refl

one_exchange_of_two : family_exchanges 2 shifting ≡ 1
one_exchange_of_two = refl

-- of two neighbouring copies the second alone writes bytes of a region that begins where the first ends
next_is_apart : shares (byte_at 1) (byte_at 0) ≡ false
next_is_apart = refl

last_is_shared : shares (record { at = 0; len = 2 }) (byte_at 1) ≡ true
last_is_shared = refl

empty_shares_nothing : shares (record { at = 0; len = 2 }) (record { at = 1; len = 0 }) ≡ false
empty_shares_nothing = refl

second_writes :
    writers (byte_at 1) (Copy (byte_at 2) (byte_at 0) ∷ Copy (byte_at 3) (byte_at 1) ∷ [])
    ≡ Copy (byte_at 3) (byte_at 1) ∷ []
second_writes = refl
