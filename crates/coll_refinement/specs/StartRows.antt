-- Worked rows: the tables of two ranks with a persistent reduce-scatter. Rank 0 starts and waits, rank 1 starts and
-- wakes it, and rank 0's combination goes out.
use Rattle.std.specs.Prelude.{None, ◌≡◌, ℕ, true, false, List, [], ◌∷◌, Some, refl}
use Rattle.coll_kinds.specs.declared.datatype.Datatype.TheVariants.{U8}
use Rattle.coll_kinds.specs.declared.kind.Kind.TheVariants.{Rsblock}
use Rattle.coll_kinds.specs.declared.kind.Mode.TheVariants.{Persistent}
use Rattle.coll_kinds.specs.declared.operation.Op.TheVariants.{Sum}
use Rattle.coll_kinds.specs.declared.signature.Signature.{Signature}
use Rattle.coll_sched.specs.declared.action.Action.TheVariants.{Combine, Recv}
use Rattle.coll_plans.specs.Plans.{family}
use Rattle.coll_arena.specs.declared.list_name.ListName.TheVariants.{Free as FreeList, Ready, Running, Idle, Queue, Done}
use Rattle.coll_machine.specs.Common.{Init, Start, Retire, Free, Ticketed, Outcome, Nothing, MachineStep, MayFinish, StepsTo, two_ranks, plan, ticket, key}
use Rattle.coll_refinement.specs.Requests.{Live, begun, advanced}
use Rattle.coll_refinement.specs.Tables.{Tables, machine}
use Rattle.coll_refinement.specs.Changes.{posting, joining, acting, leaving, freeing, rehoming, newcomer, delivered, received}
use Rattle.coll_refinement.specs.Remaining.{actions_left}
use Rattle.coll_refinement.specs.Rows.{at, byte, moved, unused}
use Rattle.coll_refinement.specs.Sound.{IsSound, next}

-- the sums of two bytes of each, one for each member
abbrev pub sums : Signature
sums = record { kind = Rsblock; mode = Persistent; root = 0; op = Some Sum; ty = U8; count = 1; each = None }

-- ---- both initialise, and rank 1 might free

abbrev pub first : Live
first = newcomer unused 0 0 (plan sums 0)

abbrev pub inited_one : Tables
inited_one = posting unused 0 first (moved unused 0 (Idle 0))

abbrev pub second : Live
second = newcomer inited_one 0 1 (plan sums 1)

abbrev pub inited : Tables
inited = posting inited_one 1 second (moved inited_one 1 (Idle 0))

abbrev pub freed : Tables
freed = freeing inited 1 (moved inited 1 FreeList)

-- ---- rank 0 starts with 1 and 2: it sends 2, keeps 1 and waits

abbrev pub given : List ℕ
given = 1 ∷ 2 ∷ []

abbrev pub laid : List ℕ
laid = 1 ∷ 2 ∷ 0 ∷ 0 ∷ []

abbrev pub kept : List ℕ
kept = 1 ∷ 2 ∷ 1 ∷ 0 ∷ []

abbrev pub started : Tables
started = joining inited 0 first given (at 0 0 laid) (moved inited 0 Ready)

abbrev pub sender : Live
sender = begun first (at 0 0 laid)

abbrev pub sent : Tables
sent = acting started 0 sender (at 0 1 laid) (delivered started sender 1 (byte 1)) (moved started 0 Ready)

abbrev pub copier : Live
copier = advanced sender (at 0 1 laid)

abbrev pub waiting : Tables
waiting = acting sent 0 copier (at 0 2 kept) sent.mail (moved sent 0 (Queue 0))

-- ---- rank 1 starts with 10 and 20, and sends 10, which rank 0 receives

abbrev pub other_given : List ℕ
other_given = 10 ∷ 20 ∷ []

abbrev pub other_laid : List ℕ
other_laid = 10 ∷ 20 ∷ 0 ∷ 0 ∷ []

abbrev pub filled : List ℕ
filled = 1 ∷ 2 ∷ 1 ∷ 10 ∷ []

abbrev pub both_started : Tables
both_started = joining waiting 1 second other_given (at 0 0 other_laid) (moved waiting 1 Ready)

abbrev pub other : Live
other = begun second (at 0 0 other_laid)

abbrev pub answered : Tables
answered =
    acting both_started 1 other (at 0 1 other_laid) (delivered both_started other 0 (byte 0))
    (moved both_started 1 Ready)

abbrev pub woken : Tables
woken = rehoming answered (moved answered 0 Ready)

abbrev pub waiter : Live
waiter = advanced copier (at 0 2 kept)

abbrev pub has_received : Tables
has_received = acting woken 0 waiter (at 1 0 filled) (received woken waiter 1) (moved woken 0 Ready)

-- ---- its combination goes out and comes back, and it completes its start

abbrev pub combined_to : List ℕ
combined_to = 1 ∷ 2 ∷ 11 ∷ 10 ∷ []

abbrev pub out : Tables
out = rehoming has_received (moved has_received 0 Running)

abbrev pub combiner : Live
combiner = advanced waiter (at 1 0 filled)

abbrev pub combined : Tables
combined = acting out 0 combiner (at 2 0 combined_to) out.mail (moved out 0 (Done 0))

abbrev pub left : Tables
left = leaving combined 0 (advanced combiner (at 2 0 combined_to)) (moved combined 0 (Idle 0))

-- ---- what they have, computed

waits_for_rank_1 : next 2 waiter ≡ Some (Recv 1 (byte 3))
unfolding family
waits_for_rank_1 = refl

then_combines : next 2 combiner ≡ Some (Combine Sum U8 (byte 2) (byte 3) (byte 2))
unfolding family
then_combines = refl

message_that_wakes : woken.mail (key 0) 1 0 0 ≡ Some (10 ∷ [])
message_that_wakes = refl

left_when_started : actions_left started ≡ 4
unfolding family
left_when_started = refl

left_when_waiting : actions_left waiting ≡ 2
unfolding family
left_when_waiting = refl

left_by_rank_1 : actions_left combined ≡ 3
unfolding family
left_by_rank_1 = refl

pending_when_out : (machine out).done 0 ≡ false
pending_when_out = refl

done_when_combined : (machine combined).done 0 ≡ true
done_when_combined = refl

-- ---- each meets the condition, and what leads to it is the machine's

abbrev pub InitsFirst : Type 0
InitsFirst =
    IsSound inited_one
    × MachineStep two_ranks (machine unused) (Init 0 0 (plan sums 0)) (Ticketed (ticket 0 1)) (machine inited_one)

abbrev pub InitsSecond : Type 0
InitsSecond =
    IsSound inited
    × MachineStep two_ranks (machine inited_one) (Init 1 0 (plan sums 1)) (Ticketed (ticket 1 1)) (machine inited)

abbrev pub SecondFrees : Type 0
SecondFrees = IsSound freed × MachineStep two_ranks (machine inited) (Free 1 (ticket 1 1)) Nothing (machine freed)

abbrev pub WaiterStarts : Type 0
WaiterStarts = IsSound started × StepsTo two_ranks (machine inited) (Start 0 (ticket 0 1) given) Nothing (machine started)

abbrev pub WaiterSends : Type 0
WaiterSends = IsSound sent × MayFinish two_ranks (machine started) (machine sent)

abbrev pub WaiterWaits : Type 0
WaiterWaits = IsSound waiting × MayFinish two_ranks (machine sent) (machine waiting)

abbrev pub OtherStarts : Type 0
OtherStarts =
    IsSound both_started
    × StepsTo two_ranks (machine waiting) (Start 1 (ticket 1 1) other_given) Nothing (machine both_started)

abbrev pub WaiterWakes : Type 0
WaiterWakes = IsSound woken × MayFinish two_ranks (machine both_started) (machine woken)

abbrev pub WaiterReceives : Type 0
WaiterReceives = IsSound has_received × MayFinish two_ranks (machine woken) (machine has_received)

abbrev pub CombineGoesOut : Type 0
CombineGoesOut = IsSound out × (machine out ≡ machine has_received)

abbrev pub WaiterCombines : Type 0
WaiterCombines = IsSound combined × MayFinish two_ranks (machine out) (machine combined)

abbrev pub WaiterRetires : Type 0
WaiterRetires =
    IsSound left
    × MachineStep two_ranks (machine combined) (Retire 0 (ticket 0 1)) (Outcome 0 0 0 0 (11 ∷ [])) (machine left)

pub record StartRowsAreSound : Type 0 where
  pub inits_first : InitsFirst
  pub inits_second : InitsSecond
  pub frees : SecondFrees
  pub starts : WaiterStarts
  pub sends : WaiterSends
  pub waits : WaiterWaits
  pub other_starts : OtherStarts
  pub wakens : WaiterWakes
  pub receives : WaiterReceives
  pub goes_out : CombineGoesOut
  pub combines : WaiterCombines
  pub rests : WaiterRetires
