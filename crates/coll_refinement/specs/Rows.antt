-- Worked rows: the tables of two ranks that use one slot. Rank 0 posts a scatter, does its part and completes it before
-- rank 1 posts it.
use Rattle.std.specs.Prelude.{◌≡◌, ℕ, true, false, List, [], ◌∷◌, Some, None, refl}
use Rattle.coll_kinds.specs.declared.datatype.Datatype.TheVariants.{U8}
use Rattle.coll_kinds.specs.declared.kind.Kind.TheVariants.{Scatter}
use Rattle.coll_kinds.specs.declared.kind.Mode.TheVariants.{Once}
use Rattle.coll_kinds.specs.declared.signature.Signature.{Signature}
use Rattle.coll_kinds.specs.Puts.{put}
use Rattle.coll_sched.specs.declared.action.Action.TheVariants.{Send, Copy, Recv}
use Rattle.coll_sched.specs.declared.region.Region.{Region}
use Rattle.coll_sched.specs.Worlds.{Progress}
use Rattle.coll_plans.specs.Plans.{family}
use Rattle.coll_arena.specs.declared.list_name.ListName.{ListName}
use Rattle.coll_arena.specs.declared.list_name.ListName.TheVariants.{Free, Worn, Ready, Done}
use Rattle.coll_arena.specs.ListNames.{number_of}
use Rattle.coll_machine.specs.Common.{Post, Retire, Ticketed, Outcome, MachineStep, MayFinish, StepsTo, two_ranks, plan, ticket, key}
use Rattle.coll_refinement.specs.Requests.{Live, begun, advanced}
use Rattle.coll_refinement.specs.Tables.{Tables, machine, opened}
use Rattle.coll_refinement.specs.Changes.{posting, joining, acting, leaving, dissolving, newcomer, delivered, received}
use Rattle.coll_refinement.specs.Remaining.{actions_left}
use Rattle.coll_refinement.specs.Sound.{IsSound, next}

-- a byte from rank 0 for each
abbrev pub scatter : Signature
scatter = record { kind = Scatter; mode = Once; root = 0; op = None; ty = U8; count = 1; each = None }

abbrev pub at : ℕ → ℕ → List ℕ → Progress
at round index buf = record { round = round; index = index; buf = buf }

abbrev pub byte : ℕ → Region
byte place = record { at = place; len = 1 }

-- the lists with a slot moved to another
abbrev pub moved : Tables → ℕ → ListName → ℕ → ℕ
moved v slot list = put v.home slot (number_of list)

-- ---- rank 0 gives 7 for itself and 8 for rank 1

abbrev pub both : List ℕ
both = 7 ∷ 8 ∷ []

-- its buffer at its first action, and after its last
abbrev pub laid : List ℕ
laid = 0 ∷ both

abbrev pub kept : List ℕ
kept = 7 ∷ both

abbrev pub unused : Tables
unused = opened two_ranks (λ slot. number_of Free)

abbrev pub root : Live
root = newcomer unused 0 0 (plan scatter 0)

abbrev pub posted : Tables
posted = joining (posting unused 0 root (moved unused 0 Ready)) 0 root both (at 0 0 laid) (moved unused 0 Ready)

abbrev pub sender : Live
sender = begun root (at 0 0 laid)

abbrev pub sent : Tables
sent = acting posted 0 sender (at 0 1 laid) (delivered posted sender 1 (byte 2)) (moved posted 0 Ready)

abbrev pub copier : Live
copier = advanced sender (at 0 1 laid)

abbrev pub copied : Tables
copied = acting sent 0 copier (at 1 0 kept) sent.mail (moved sent 0 (Done 0))

abbrev pub left : Tables
left = leaving copied 0 (advanced copier (at 1 0 kept)) (moved copied 0 Free)

-- ---- rank 1, in the slot's second and last generation

abbrev pub late : Live
late = newcomer left 0 1 (plan scatter 1)

abbrev pub posted_late : Tables
posted_late = joining (posting left 0 late (moved left 0 Ready)) 0 late [] (at 0 0 (0 ∷ [])) (moved left 0 Ready)

abbrev pub receiver : Live
receiver = begun late (at 0 0 (0 ∷ []))

abbrev pub received_late : Tables
received_late =
    acting posted_late 0 receiver (at 1 0 (8 ∷ [])) (received posted_late receiver 0) (moved posted_late 0 (Done 0))

abbrev pub over : Tables
over = dissolving (leaving received_late 0 (advanced receiver (at 1 0 (8 ∷ []))) (moved received_late 0 Worn)) (key 0)

-- ---- what they have, computed

root_sends : next 2 sender ≡ Some (Send 1 (byte 2))
unfolding family
root_sends = refl

root_copies : next 2 copier ≡ Some (Copy (byte 1) (byte 0))
unfolding family
root_copies = refl

other_receives : next 2 receiver ≡ Some (Recv 0 (byte 0))
unfolding family
other_receives = refl

pending_when_sent : (machine sent).done 0 ≡ false
pending_when_sent = refl

done_when_copied : (machine copied).done 0 ≡ true
done_when_copied = refl

left_when_posted : actions_left posted ≡ 2
unfolding family
left_when_posted = refl

left_when_sent : actions_left sent ≡ 1
unfolding family
left_when_sent = refl

left_when_copied : actions_left copied ≡ 0
unfolding family
left_when_copied = refl

-- the message and what the root gave are kept when it has left
message_is_kept : left.mail (key 0) 0 1 0 ≡ Some (8 ∷ [])
message_is_kept = refl

message_is_taken : received_late.mail (key 0) 0 1 0 ≡ None
message_is_taken = refl

contribution_is_kept : received_late.given (key 0) 0 ≡ Some both
contribution_is_kept = refl

nothing_is_kept : over.given (key 0) 0 ≡ None
nothing_is_kept = refl

-- ---- each meets the condition, and what leads to it is the machine's

abbrev pub RootPosts : Type 0
RootPosts =
    IsSound posted
    × StepsTo two_ranks (machine unused) (Post 0 0 (plan scatter 0) both) (Ticketed (ticket 0 1)) (machine posted)

abbrev pub RootSends : Type 0
RootSends = IsSound sent × MayFinish two_ranks (machine posted) (machine sent)

abbrev pub RootCopies : Type 0
RootCopies = IsSound copied × MayFinish two_ranks (machine sent) (machine copied)

abbrev pub RootLeaves : Type 0
RootLeaves =
    IsSound left
    × MachineStep two_ranks (machine copied) (Retire 0 (ticket 0 1)) (Outcome 0 0 0 0 (7 ∷ [])) (machine left)

abbrev pub OtherPosts : Type 0
OtherPosts =
    IsSound posted_late
    × StepsTo two_ranks (machine left) (Post 1 0 (plan scatter 1) []) (Ticketed (ticket 0 2)) (machine posted_late)

abbrev pub OtherReceives : Type 0
OtherReceives = IsSound received_late × MayFinish two_ranks (machine posted_late) (machine received_late)

abbrev pub OtherLeaves : Type 0
OtherLeaves =
    IsSound over
    × MachineStep two_ranks (machine received_late) (Retire 1 (ticket 0 2)) (Outcome 1 0 0 0 (8 ∷ [])) (machine over)

abbrev pub RowsAreSound : Type 0
RowsAreSound =
    IsSound unused × RootPosts × RootSends × RootCopies × RootLeaves × OtherPosts × OtherReceives × OtherLeaves
