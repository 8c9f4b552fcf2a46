-- Worked rows of the long bcast, computed.
use Rattle.std.specs.Prelude.{◌≡◌, true, false, [], ◌∷◌, refl}
use Rattle.coll_sched.specs.declared.action.Action.TheVariants.{Send, Recv}
use Rattle.coll_plans.specs.ChainBcast.{segment_count, segment, relay_of, relay_count, is_long}

four_segments : segment_count 65536 ≡ 4
four_segments = refl

one_more : segment_count 65537 ≡ 5
one_more = refl

second_segment : segment 65537 1 ≡ record { at = 16384; len = 16384 }
second_segment = refl

last_byte : segment 65537 4 ≡ record { at = 65536; len = 1 }
last_byte = refl

-- of three members with root 2 the one with number 1 is member 0: in round 1 it passes on segment 0, and gets segment 1
middle_relays : relay_of 65536 3 2 1 1 ≡ Send 1 (segment 65536 0) ∷ Recv 2 (segment 65536 1) ∷ []
middle_relays = refl

root_begins : relay_of 65536 3 2 0 0 ≡ Send 0 (segment 65536 0) ∷ []
root_begins = refl

middle_ends : relay_of 65536 3 2 4 1 ≡ Send 1 (segment 65536 3) ∷ []
middle_ends = refl

five_rounds : relay_count 3 65536 ≡ 5
five_rounds = refl

long_enough : is_long 2 65536 ≡ true
long_enough = refl

too_short : is_long 64 65535 ≡ false
too_short = refl

alone : is_long 1 524288 ≡ false
alone = refl
