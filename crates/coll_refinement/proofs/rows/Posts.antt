-- The tables of a small engine, call by call.
use Rattle.std.proofs.Common.{◌≡◌, ℕ, zero, suc, inl, inr, [], ◌∷◌, length, Some, refl, sym, arith}
use Rattle.std.proofs.lemmas.Option.{none-some}
use Rattle.coll_kinds.specs.declared.kind.Mode.TheVariants.{Once}
use Rattle.coll_kinds.specs.Common.{AreBytes, given_len}
use Rattle.coll_kinds.proofs.Puts.{put_other}
use Rattle.coll_sched.specs.declared.action.Action.TheVariants.{Send, Copy, Recv}
use Rattle.coll_sched.specs.Common.{laid_in, Over, read_of}
use Rattle.coll_plans.specs.Plans.{family}
use Rattle.coll_arena.specs.declared.list_name.ListName.{ListName}
use Rattle.coll_arena.specs.declared.list_name.ListName.TheVariants.{Free, Worn, Ready, Done}
use Rattle.coll_arena.specs.ListNames.{number_of}
use Rattle.coll_machine.specs.Rows.{two_ranks, plan, key}
use Rattle.coll_refinement.specs.Requests.{advanced}
use Rattle.coll_refinement.specs.Tables.{Tables}
use Rattle.coll_refinement.specs.Changes.{posting, leaving}
use Rattle.coll_refinement.proofs.tables.CallTests.{Acting, Away, Starting, IsLast, New, Retiring, Waking}
use Rattle.coll_refinement.specs.Sound.{IsSound, ready, done, next}
use Rattle.coll_refinement.specs.Rows.{scatter, both, laid, kept, at, byte, moved, unused, root, posted, sender, sent, copier, copied, left, late}
use Rattle.coll_refinement.specs.Rows.{posted_late, receiver, received_late, RootPosts, RootSends, RootCopies, RootLeaves, OtherPosts, OtherReceives}
use Rattle.coll_refinement.specs.Rows.{OtherLeaves, RowsAreSound}
use Rattle.coll_refinement.proofs.tables.Accepted.{accepted_post}
use Rattle.coll_refinement.proofs.tables.Actions.{compute_keeps, receive_keeps, send_keeps}
use Rattle.coll_refinement.proofs.tables.Finished.{open_keeps}
use Rattle.coll_refinement.proofs.tables.WholeCalls.{post_keeps, retire_keeps, last_retire_keeps}

pub away : (v : Tables) (slot : ℕ) (list : ListName) → Away v slot (moved v slot list)
away v slot list j other = put_other v.home slot (number_of list) j other

-- ---- the schedules

gives : laid_in (family scatter 2 0) both ≡ laid
unfolding family
gives = refl

waits : laid_in (family scatter 2 1) [] ≡ 0 ∷ []
unfolding family
waits = refl

sends : next 2 sender ≡ Some (Send 1 (byte 2))
unfolding family
sends = refl

copies : next 2 copier ≡ Some (Copy (byte 1) (byte 0))
unfolding family
copies = refl

receives : next 2 receiver ≡ Some (Recv 0 (byte 0))
unfolding family
receives = refl

copied_all : Over (family scatter 2 0) 0 2 1 0
unfolding family
copied_all = inr (0, refl, refl, refl, omega arith, λ y low high. absurd (omega arith))

received_all : Over (family scatter 2 1) 0 1 1 0
unfolding family
received_all = inr (0, refl, refl, refl, omega arith, λ y low high. absurd (omega arith))

root_ends : 1 ≡ length (family scatter 2 0).rounds
unfolding family
root_ends = refl

other_ends : 1 ≡ length (family scatter 2 1).rounds
unfolding family
other_ends = refl

root_gets : 7 ∷ [] ≡ read_of kept (family scatter 2 0).output
unfolding family
root_gets = refl

other_gets : 8 ∷ [] ≡ read_of (8 ∷ []) (family scatter 2 1).output
unfolding family
other_gets = refl

two_bytes : AreBytes both
two_bytes zero = omega arith
two_bytes (suc zero) = omega arith
two_bytes (suc (suc i)) = omega arith

no_bytes : AreBytes []
no_bytes i = omega arith

-- ---- rank 0

pub opens : IsSound unused
opens = open_keeps two_ranks (λ slot. number_of Free) (omega arith) (λ i low. refl)

new_root : New unused 0 root 0 Once (plan scatter 0) × (2 ≡ given_len scatter 2 0)
new_root =
    accepted_post unused 0 0 0 (plan scatter 0) both opens (omega arith) refl (omega arith) (omega arith) refl

root_comes :
    Starting (posting unused 0 root (moved unused 0 Ready)) 0 root both (at 0 0 laid) (moved unused 0 Ready)
root_comes = record {
  from = at 0 0 (laid_in (family scatter 2 0) both);
  joining = record { here = refl; inactive = refl; long = new_root.1; are = two_bytes; start = refl };
  buf = sym gives;
  over = inl (refl, refl);
  away = λ j other. refl;
  stands = ready (Send 1 (byte 2)) refl refl sends tt;
}

root_posts : RootPosts
root_posts =
    post_keeps unused 0 root 0 (plan scatter 0) both (at 0 0 laid) (moved unused 0 Ready) opens
    new_root.0 refl (away unused 0 Ready) root_comes

root_sends_one : Acting posted 0 sender (Send 1 (byte 2)) (at 0 1 laid) (moved posted 0 Ready)
root_sends_one =
    record { here = refl; list = inl refl; next_is = sends; over = inl (refl, refl); away = away posted 0 Ready }

-- no slot is noted for rank 1 yet
nobody_waits : (j : ℕ) → Waking sent (key 0) 1 j → ⊥
nobody_waits j h = none-some j h.seat

root_sends : RootSends
root_sends =
    (send_keeps posted 0 sender 1 (byte 2) (at 0 1 laid) (moved posted 0 Ready) root_posts.0 root_sends_one refl
    (ready (Copy (byte 1) (byte 0)) refl refl copies tt)).0 nobody_waits

root_copies_one : Acting sent 0 copier (Copy (byte 1) (byte 0)) (at 1 0 kept) (moved sent 0 (Done 0))
root_copies_one =
    record { here = refl; list = inl refl; next_is = copies; over = copied_all; away = away sent 0 (Done 0) }

root_copies : RootCopies
root_copies =
    compute_keeps sent 0 copier (Copy (byte 1) (byte 0)) (at 1 0 kept) (moved sent 0 (Done 0)) root_sends.0
    root_copies_one tt refl (done refl refl root_ends)

root_retires : Retiring copied 0 (advanced copier (at 1 0 kept)) 0 (7 ∷ []) (moved copied 0 Free)
root_retires = record {
  here = refl;
  list = refl;
  accepted = refl;
  bytes_is = root_gets;
  away = away copied 0 Free;
  left = inl (refl, omega arith);
}

-- rank 1 has given nothing
not_last : IsLast left (key 0) → ⊥
not_last h = (h 1 (omega arith)).0 refl

root_leaves : RootLeaves
root_leaves =
    retire_keeps copied 0 (advanced copier (at 1 0 kept)) 0 (7 ∷ []) (moved copied 0 Free) root_copies.0
    root_retires not_last

-- ---- rank 1

new_late : New left 0 late 1 Once (plan scatter 1) × (0 ≡ given_len scatter 2 1)
new_late =
    accepted_post left 0 0 1 (plan scatter 1) [] root_leaves.0 (omega arith) refl (omega arith) (omega arith) refl

late_comes : Starting (posting left 0 late (moved left 0 Ready)) 0 late [] (at 0 0 (0 ∷ [])) (moved left 0 Ready)
late_comes = record {
  from = at 0 0 (laid_in (family scatter 2 1) []);
  joining = record { here = refl; inactive = refl; long = new_late.1; are = no_bytes; start = refl };
  buf = sym waits;
  over = inl (refl, refl);
  away = λ j other. refl;
  stands = ready (Recv 0 (byte 0)) refl refl receives (λ none. none-some (8 ∷ []) (sym none));
}

other_posts : OtherPosts
other_posts =
    post_keeps left 0 late 1 (plan scatter 1) [] (at 0 0 (0 ∷ [])) (moved left 0 Ready) root_leaves.0 new_late.0 refl
    (away left 0 Ready) late_comes

other_receives_one : Acting posted_late 0 receiver (Recv 0 (byte 0)) (at 1 0 (8 ∷ [])) (moved posted_late 0 (Done 0))
other_receives_one = record {
  here = refl;
  list = inl refl;
  next_is = receives;
  over = received_all;
  away = away posted_late 0 (Done 0);
}

other_receives : OtherReceives
other_receives =
    receive_keeps posted_late 0 receiver 0 (byte 0) (8 ∷ []) (at 1 0 (8 ∷ [])) (moved posted_late 0 (Done 0))
    other_posts.0 other_receives_one refl refl (done refl refl other_ends)

other_retires : Retiring received_late 0 (advanced receiver (at 1 0 (8 ∷ []))) 1 (8 ∷ []) (moved received_late 0 Worn)
other_retires = record {
  here = refl;
  list = refl;
  accepted = refl;
  bytes_is = other_gets;
  away = away received_late 0 Worn;
  left = inr (refl, refl);
}

-- both have given, and no slot is noted
last : IsLast (leaving received_late 0 (advanced receiver (at 1 0 (8 ∷ []))) (moved received_late 0 Worn)) (key 0)
last zero low = ((λ none. none-some both (sym none)), refl)
last (suc zero) low = ((λ none. none-some [] (sym none)), refl)
last (suc (suc m)) low = absurd (omega arith)

other_leaves : OtherLeaves
other_leaves =
    last_retire_keeps received_late 0 (advanced receiver (at 1 0 (8 ∷ []))) 1 (8 ∷ []) (moved received_late 0 Worn)
    other_receives.0 other_retires last

pub rows_are_sound : RowsAreSound
rows_are_sound =
    (opens, root_posts, root_sends, root_copies, root_leaves, other_posts, other_receives, other_leaves)
