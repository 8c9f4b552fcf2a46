-- The tables of a small engine with a persistent collective, call by call.
use Rattle.std.proofs.Common.{◌≡◌, ℕ, zero, suc, inl, inr, [], ◌∷◌, length, Some, refl, sym, arith}
use Rattle.std.proofs.lemmas.Option.{none-some}
use Rattle.coll_kinds.specs.declared.datatype.Datatype.TheVariants.{U8}
use Rattle.coll_kinds.specs.declared.kind.Mode.TheVariants.{Persistent}
use Rattle.coll_kinds.specs.declared.operation.Op.TheVariants.{Sum}
use Rattle.coll_kinds.specs.Elements.{AreBytes}
use Rattle.coll_sched.specs.declared.action.Action.TheVariants.{Send, Copy, Combine, Recv}
use Rattle.coll_sched.specs.Common.{laid_in, Over, read_of}
use Rattle.coll_plans.specs.Plans.{family}
use Rattle.coll_arena.specs.declared.list_name.ListName.TheVariants.{Free as FreeList, Ready, Running, Idle, Queue, Done}
use Rattle.coll_machine.specs.Rows.{plan, key}
use Rattle.coll_refinement.specs.Requests.{advanced}
use Rattle.coll_refinement.proofs.tables.CallTests.{Acting, Starting, IsLast, Joining, New, Retiring, Waking}
use Rattle.coll_refinement.specs.Sound.{ready, running, queued, done, next}
use Rattle.coll_refinement.specs.Rows.{at, byte, moved, unused}
use Rattle.coll_refinement.specs.StartRows.{sums, first, inited_one, second, inited, given, laid, kept, started, sender, sent, copier, waiting}
use Rattle.coll_refinement.specs.StartRows.{other_given, other_laid, filled, both_started, other, answered, woken, waiter, has_received, combined_to}
use Rattle.coll_refinement.specs.StartRows.{out, combiner, combined, left, InitsFirst, InitsSecond, SecondFrees, WaiterStarts, WaiterSends}
use Rattle.coll_refinement.specs.StartRows.{WaiterWaits, OtherStarts, WaiterWakes, WaiterReceives, CombineGoesOut, WaiterCombines, WaiterRetires}
use Rattle.coll_refinement.specs.StartRows.{StartRowsAreSound}
use Rattle.coll_refinement.proofs.tables.Accepted.{accepted_init, accepted_start}
use Rattle.coll_refinement.proofs.tables.Actions.{compute_keeps, receive_keeps, send_keeps, rehome_keeps}
use Rattle.coll_refinement.proofs.rows.Posts.{away, opens}
use Rattle.coll_refinement.proofs.tables.WholeCalls.{init_keeps, start_keeps, retire_keeps, free_keeps}

-- ---- the schedules

lays : laid_in (family sums 2 0) given ≡ laid
unfolding family
lays = refl

other_lays : laid_in (family sums 2 1) other_given ≡ other_laid
unfolding family
other_lays = refl

first_sends : next 2 sender ≡ Some (Send 1 (byte 1))
unfolding family
first_sends = refl

first_copies : next 2 copier ≡ Some (Copy (byte 0) (byte 2))
unfolding family
first_copies = refl

first_receives : next 2 waiter ≡ Some (Recv 1 (byte 3))
unfolding family
first_receives = refl

first_combines : next 2 combiner ≡ Some (Combine Sum U8 (byte 2) (byte 3) (byte 2))
unfolding family
first_combines = refl

other_sends : next 2 other ≡ Some (Send 0 (byte 0))
unfolding family
other_sends = refl

other_copies : next 2 (advanced other (at 0 1 other_laid)) ≡ Some (Copy (byte 1) (byte 3))
unfolding family
other_copies = refl

round_ends : Over (family sums 2 0) 0 3 1 0
unfolding family
round_ends = inr (0, refl, refl, refl, omega arith, λ y low high. absurd (omega arith))

all_ends : Over (family sums 2 0) 1 1 2 0
unfolding family
all_ends = inr (0, refl, refl, refl, omega arith, λ y low high. absurd (omega arith))

two_rounds : 2 ≡ length (family sums 2 0).rounds
unfolding family
two_rounds = refl

gets : 11 ∷ [] ≡ read_of combined_to (family sums 2 0).output
unfolding family
gets = refl

bytes : AreBytes given
bytes zero = omega arith
bytes (suc zero) = omega arith
bytes (suc (suc i)) = omega arith

other_bytes : AreBytes other_given
other_bytes zero = omega arith
other_bytes (suc zero) = omega arith
other_bytes (suc (suc i)) = omega arith

-- ---- initialisations, and a free

new_first : New unused 0 first 0 Persistent (plan sums 0)
new_first = accepted_init unused 0 0 0 (plan sums 0) opens (omega arith) refl (omega arith) (omega arith) refl

inits_first : InitsFirst
inits_first =
    init_keeps unused 0 first 0 (plan sums 0) (moved unused 0 (Idle 0)) opens new_first refl
    (away unused 0 (Idle 0)) refl

new_second : New inited_one 1 second 1 Persistent (plan sums 1)
new_second =
    accepted_init inited_one 1 0 1 (plan sums 1) inits_first.0 (omega arith) refl (omega arith) (omega arith) refl

inits_second : InitsSecond
inits_second =
    init_keeps inited_one 1 second 1 (plan sums 1) (moved inited_one 1 (Idle 0)) inits_first.0 new_second refl
    (away inited_one 1 (Idle 0)) refl

frees : SecondFrees
frees =
    free_keeps inited 1 second 1 (moved inited 1 FreeList) inits_second.0 refl refl (away inited 1 FreeList)
    (inl (refl, omega arith))

-- ---- rank 0

joins : Joining inited 0 first given (at 0 0 (laid_in (family sums 2 0) given))
joins = accepted_start inited 0 first 0 given inits_second.0 refl bytes refl

comes : Starting inited 0 first given (at 0 0 laid) (moved inited 0 Ready)
comes = record {
  from = at 0 0 (laid_in (family sums 2 0) given);
  joining = joins;
  buf = sym lays;
  over = inl (refl, refl);
  away = away inited 0 Ready;
  stands = ready (Send 1 (byte 1)) refl refl first_sends tt;
}

starts : WaiterStarts
starts = start_keeps inited 0 first 0 given (at 0 0 laid) (moved inited 0 Ready) inits_second.0 refl comes

sends_one : Acting started 0 sender (Send 1 (byte 1)) (at 0 1 laid) (moved started 0 Ready)
sends_one =
    record { here = refl; list = inl refl; next_is = first_sends; over = inl (refl, refl); away = away started 0 Ready }

-- no slot is noted for rank 1 yet
nobody_waits : (j : ℕ) → Waking sent (key 0) 1 j → ⊥
nobody_waits j h = none-some j h.seat

sends : WaiterSends
sends =
    (send_keeps started 0 sender 1 (byte 1) (at 0 1 laid) (moved started 0 Ready) starts.0 sends_one refl
    (ready (Copy (byte 0) (byte 2)) refl refl first_copies tt)).0 nobody_waits

copies_one : Acting sent 0 copier (Copy (byte 0) (byte 2)) (at 0 2 kept) (moved sent 0 (Queue 0))
copies_one = record {
  here = refl;
  list = inl refl;
  next_is = first_copies;
  over = inl (refl, refl);
  away = away sent 0 (Queue 0);
}

waits : WaiterWaits
waits =
    compute_keeps sent 0 copier (Copy (byte 0) (byte 2)) (at 0 2 kept) (moved sent 0 (Queue 0)) sends.0 copies_one tt
    refl (queued 1 (byte 3) refl refl first_receives refl)

-- ---- rank 1

other_joins : Joining waiting 1 second other_given (at 0 0 (laid_in (family sums 2 1) other_given))
other_joins = accepted_start waiting 1 second 1 other_given waits.0 refl other_bytes refl

other_comes : Starting waiting 1 second other_given (at 0 0 other_laid) (moved waiting 1 Ready)
other_comes = record {
  from = at 0 0 (laid_in (family sums 2 1) other_given);
  joining = other_joins;
  buf = sym other_lays;
  over = inl (refl, refl);
  away = away waiting 1 Ready;
  stands = ready (Send 0 (byte 0)) refl refl other_sends tt;
}

other_starts : OtherStarts
other_starts =
    start_keeps waiting 1 second 1 other_given (at 0 0 other_laid) (moved waiting 1 Ready) waits.0 refl other_comes

answers_one : Acting both_started 1 other (Send 0 (byte 0)) (at 0 1 other_laid) (moved both_started 1 Ready)
answers_one = record {
  here = refl;
  list = inl refl;
  next_is = other_sends;
  over = inl (refl, refl);
  away = away both_started 1 Ready;
}

-- rank 0's request is noted, lies on its Queue, and its message is there
wakes : Waking answered (key 0) 0 0
wakes = record {
  req = waiter;
  seat = refl;
  is = refl;
  called = record {
    of = 1;
    into = byte 3;
    active = refl;
    on_queue = refl;
    next_is = first_receives;
    came = λ none. none-some (10 ∷ []) (sym none);
  };
}

wakens : WaiterWakes
wakens =
    (send_keeps both_started 1 other 0 (byte 0) (at 0 1 other_laid) (moved both_started 1 Ready) other_starts.0
    answers_one refl (ready (Copy (byte 1) (byte 3)) refl refl other_copies tt)).1 0 (moved answered 0 Ready) wakes refl
    (away answered 0 Ready)

-- ---- rank 0 goes on

receives_one : Acting woken 0 waiter (Recv 1 (byte 3)) (at 1 0 filled) (moved woken 0 Ready)
receives_one =
    record { here = refl; list = inl refl; next_is = first_receives; over = round_ends; away = away woken 0 Ready }

receives : WaiterReceives
receives =
    receive_keeps woken 0 waiter 1 (byte 3) (10 ∷ []) (at 1 0 filled) (moved woken 0 Ready) wakens.0 receives_one
    refl refl (ready (Combine Sum U8 (byte 2) (byte 3) (byte 2)) refl refl first_combines tt)

goes_out : CombineGoesOut
goes_out =
    rehome_keeps has_received 0 combiner (moved has_received 0 Running) receives.0 refl (λ (e : 2 ≡ 6). omega arith)
    (λ (e : 3 ≡ 6). omega arith) (away has_received 0 Running)
    (running Sum U8 (byte 2) (byte 3) (byte 2) refl refl first_combines)

combines_one :
    Acting out 0 combiner (Combine Sum U8 (byte 2) (byte 3) (byte 2)) (at 2 0 combined_to) (moved out 0 (Done 0))
combines_one =
    record { here = refl; list = inr refl; next_is = first_combines; over = all_ends; away = away out 0 (Done 0) }

combines : WaiterCombines
combines =
    compute_keeps out 0 combiner (Combine Sum U8 (byte 2) (byte 3) (byte 2)) (at 2 0 combined_to) (moved out 0 (Done 0))
    goes_out.0 combines_one tt refl (done refl refl two_rounds)

retires : Retiring combined 0 (advanced combiner (at 2 0 combined_to)) 0 (11 ∷ []) (moved combined 0 (Idle 0))
retires = record {
  here = refl;
  list = refl;
  accepted = refl;
  bytes_is = gets;
  away = away combined 0 (Idle 0);
  left = refl;
}

-- rank 1's slot is still noted
not_last : IsLast left (key 0) → ⊥
not_last h = none-some 1 (sym ((h 1 (omega arith)).1))

rests : WaiterRetires
rests =
    retire_keeps combined 0 (advanced combiner (at 2 0 combined_to)) 0 (11 ∷ []) (moved combined 0 (Idle 0)) combines.0
    retires not_last

pub start_rows_are_sound : StartRowsAreSound
start_rows_are_sound = record {
  inits_first = inits_first;
  inits_second = inits_second;
  frees = frees;
  starts = starts;
  sends = sends;
  waits = waits;
  other_starts = other_starts;
  wakens = wakens;
  receives = receives;
  goes_out = goes_out;
  combines = combines;
  rests = rests;
}
