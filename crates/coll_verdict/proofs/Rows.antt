-- The worked rows: a run that comes to its end, and stands that are closed.
use Rattle.std.proofs.Common.{◌≡◌, ℕ, suc, ◌<◌, ◌⊎◌, inl, inr, Bool, true, false, ltb, eqb, ◌||◌, List, [], ◌∷◌, length, Option, Some, None, refl}
use Rattle.std.proofs.Common.{sym, ap, subst, ◌∙◌, arith, eqb-true, le-ltb}
use Rattle.std.proofs.lemmas.Bool.{cases_eq, false≢true, and_parts, ltb-true}
use Rattle.std.proofs.lemmas.Option.{none-some, same_Some}
use Rattle.std.specs.Prelude.{slice_get}
use Rattle.coll_kinds.specs.declared.kind.Mode.TheVariants.{Once}
use Rattle.coll_kinds.specs.declared.ticket.Ticket.{Ticket}
use Rattle.coll_kinds.specs.Common.{member_of, is_among, needs, put}
use Rattle.coll_kinds.proofs.Puts.{put_other}
use Rattle.coll_machine.specs.Common.{Setting, group, group_in, size, Request, Machine, nothing, key_of, new_request, created, started, once_more}
use Rattle.coll_machine.specs.Common.{holding, Works, MachineStep, phased, barrier}
use Rattle.coll_machine.specs.Calls as calls
use Rattle.coll_machine.specs.Machines as machine
use Rattle.coll_machine.proofs.Members.{member_at}
use Rattle.coll_parser.specs.declared.command.Command.{Command}
use Rattle.coll_parser.specs.declared.command.Command.TheVariants.{Post, Init, Wait, WaitAll}
use Rattle.coll_verdict.specs.Standings as standings
use Rattle.coll_verdict.specs.Standings.{Standing, Holding, beginning, nothing_made, one_more, holding_at, kept, carried_out, Reaches, Carries}
use Rattle.coll_verdict.specs.Standings.{Completes, AtEnd, is_pending, is_done}
use Rattle.coll_verdict.specs.Stalls.{lines_of, Waits, HasAll, IsStalled}
use Rattle.coll_verdict.specs.Stalls as stalls
use Rattle.coll_verdict.specs.Sketches.{Sketch}
use Rattle.coll_verdict.specs.Stands as stands
use Rattle.coll_verdict.specs.Stands.{Lacks, IsBlocked, sketches, AreClosed}
use Rattle.coll_verdict.specs.Rows.{lone, one_rank, only_ticket, only_request, posted, done, left, crossed, LoneBarrierEnds, CrossedBarriersStall}
use Rattle.coll_verdict.specs.Rows.{CrossedBarriersMayStall, inits, CrossedInitsMayStall, CrossedEmptiesMayEnd}
use Rattle.coll_verdict.proofs.Blocking.{closed_stands_stall}

pub below_one : (P : ℕ → Type 0) → P 0 → (m : ℕ) → m < 1 → P m
below_one P zero m low = let e : m ≡ 0 = omega arith in subst P (sym e) zero

left_or : (b : Bool) → (b || false) ≡ true → b ≡ true
left_or true e = refl
left_or false e = e

pub among_zero : (P : ℕ → Type 0) → P 0 → (q : ℕ) → is_among q (0 ∷ []) ≡ true → P q
among_zero P zero q among = subst P (eqb-true 0 q (left_or (eqb 0 q) among)) zero

given_some : (o : Option (List ℕ)) (a : List ℕ) → o ≡ Some a → o ≡ None → ⊥
given_some o a e none = none-some a (sym none ∙ e)

differ : (a : ℕ) → a ≡ 1 → a ≡ 0 → ⊥
differ a e h = absurd (omega arith)

-- ---- one rank

pub posts : MachineStep one_rank beginning.machine (calls.Post 0 0 (record { sig = barrier; n = 1; member = 0 }) []) (calls.Ticketed only_ticket) posted
posts = machine.post 0 0 0 (record { sig = barrier; n = 1; member = 0 }) [] only_ticket (record {
  member = 0;
  accepted = refl;
  member_is = refl;
  place_is = refl;
  new = record { low = omega arith; spare = refl; unworn = omega arith; next = refl };
  leaves = refl;
})

pub given_all : (m : ℕ) → m < 1 → posted.state.given (key_of only_request 0) m ≡ None → ⊥
given_all m low =
    below_one (λ m. posted.state.given (key_of only_request 0) m ≡ None → ⊥) (given_some (posted.state.given (key_of only_request 0) 0) [] refl) m low

pub needed_all : (m : ℕ) → needs barrier 1 0 m ≡ true → posted.state.given (key_of only_request 0) m ≡ None → ⊥
needed_all m need =
    below_one (λ m. posted.state.given (key_of only_request 0) m ≡ None → ⊥)
    (given_some (posted.state.given (key_of only_request 0) 0) [] refl) m (ltb-true m 1 (and_parts (ltb m 1) true need).0)

finishes : MachineStep one_rank posted calls.Finish calls.Nothing done
finishes = machine.finish 0 (record {
  request = once_more only_request;
  sig = barrier;
  start = 0;
  is = refl;
  pending = refl;
  ready = record { active = refl; start_is = refl; sig_is = refl; needed = needed_all };
  leaves = refl;
})

gone : (m : ℕ) → Works (holding posted.state 0 None) (key_of only_request 0) m → ⊥
gone m w = go (cases_eq w.slot 0)
  where
    go : (w.slot ≡ 0) ⊎ (w.slot ≡ 0 → ⊥) → ⊥
    go (inl e) = none-some w.request (ap (holding posted.state 0 None).request (sym e) ∙ w.is)
    go (inr d) =
        none-some w.request (sym (put_other posted.state.request 0 None w.slot d
        ∙ (put_other (put nothing.request 0 (Some only_request)) 0 (Some (once_more only_request)) w.slot d
        ∙ put_other nothing.request 0 (Some only_request) w.slot d)) ∙ w.is)

pub leaves : MachineStep one_rank done (calls.Retire 0 only_ticket) (calls.Outcome 0 0 0 0 []) left
leaves = machine.retire 0 only_ticket 0 0 0 [] (record {
  request = once_more only_request;
  sig = barrier;
  accepted = refl;
  is = refl;
  comm_is = refl;
  place_is = refl;
  ready = record { active = refl; start_is = refl; sig_is = refl; needed = needed_all };
  bytes_is = refl;
  leaves = inl (
    λ m low. (
      below_one (λ m. posted.state.given (key_of only_request 0) m ≡ None → ⊥)
          (given_some (posted.state.given (key_of only_request 0) 0) [] refl) m low,
      gone m,
    ),
    refl,
  );
}) refl

abbrev pub has_posted : Standing
has_posted = carried_out beginning 0 posted (one_more nothing_made only_ticket)

abbrev pub is_finished : Standing
is_finished = record has_posted { machine = done }

abbrev pub held_last : Holding
held_last = holding_at (one_more nothing_made only_ticket) 0 (kept left.state only_ticket)

abbrev pub has_left : Standing
has_left = carried_out is_finished 0 left held_last

lone_run : Reaches one_rank (lines_of lone) has_left
lone_run =
    standings.goes_on
    (standings.goes_on
    (standings.goes_on standings.begins
    (standings.carries 0 (Post 0 barrier []) refl (standings.post 0 barrier [] (record { sig = barrier; n = 1; member = 0 }) only_ticket refl posts)))
    (standings.finishes finishes))
    (standings.carries 0 (WaitAll (0 ∷ [])) refl
    (standings.wait_all (0 ∷ [])
    (among_zero (λ q. is_pending done ((one_more nothing_made only_ticket).of q) ≡ false) refl)
    (standings.another 0 0 0 0 [] only_ticket refl refl leaves standings.none)
    (among_zero (λ q. is_done left (held_last.of q) ≡ false) refl)))

pub lone_end : AtEnd (lines_of lone) has_left
lone_end rank = go (cases_eq rank 0)
  where
    go : (rank ≡ 0) ⊎ (rank ≡ 0 → ⊥) → has_left.at rank ≡ length (lines_of lone rank)
    go (inl e) = subst (λ rank. has_left.at rank ≡ length (lines_of lone rank)) (sym e) refl
    go (inr d) =
        let none : ltb rank 1 ≡ false = le-ltb rank 1 (omega arith) in
        put_other is_finished.at 0 2 rank d ∙ (put_other beginning.at 0 1 rank d ∙ rw none refl)

pub lone_barrier_ends : LoneBarrierEnds
lone_barrier_ends always = always.stalls one_rank refl has_left lone_run lone_end

-- ---- two ranks

abbrev at_wait : ℕ → ℕ
at_wait rank = 1

abbrev said : ℕ → Sketch
said = sketches (lines_of crossed) at_wait

other_is : (g : Setting) (comm peer other rank : ℕ) → group g comm ≡ 0 ∷ 1 ∷ [] → member_of peer (group g comm) ≡ Some other
    → member_of rank (0 ∷ 1 ∷ []) ≡ Some other → peer ≡ rank
other_is g comm peer other rank groups is own = sym (member_at g comm peer other is).1 ∙ (member_at g comm rank other (ap (member_of rank) groups ∙ own)).1

first_lacks : (g : Setting) → g.groups ≡ crossed.groups → Lacks needs g said 0 0
first_lacks g e = record {
  sig = barrier;
  sig_is = refl;
  member = 0;
  member_is = ap (member_of 0) here;
  other = 1;
  low = subst (λ (group : List ℕ). 1 < length group) (sym here) (omega arith);
  awaited = ap (λ (group : List ℕ). needs barrier (length group) 0 1) here;
  late = λ peer is. subst (λ r. stands.IsLate (said r) 0 0 1) (sym (other_is g 0 peer 1 1 here is refl)) (λ p low comm place. absurd (other_comm p low comm));
}
  where
    here : group g 0 ≡ 0 ∷ 1 ∷ []
    here = ap (λ groups. group_in groups 0) e

    other_comm : (p : ℕ) → p < 1 → (said 1).comm p ≡ 0 → ⊥
    other_comm p low comm = let first : p ≡ 0 = omega arith in differ ((said 1).comm 0) refl (ap (said 1).comm (sym first) ∙ comm)

second_lacks : (g : Setting) → g.groups ≡ crossed.groups → Lacks needs g said 1 0
second_lacks g e = record {
  sig = barrier;
  sig_is = refl;
  member = 1;
  member_is = ap (member_of 1) here;
  other = 0;
  low = subst (λ (group : List ℕ). 0 < length group) (sym here) (omega arith);
  awaited = ap (λ (group : List ℕ). needs barrier (length group) 1 0) here;
  late = λ peer is. subst (λ r. stands.IsLate (said r) 1 0 1) (sym (other_is g 1 peer 0 0 here is refl)) (λ p low comm place. absurd (other_comm p low comm));
}
  where
    here : group g 1 ≡ 0 ∷ 1 ∷ []
    here = ap (λ groups. group_in groups 1) e

    other_comm : (p : ℕ) → p < 1 → (said 0).comm p ≡ 1 → ⊥
    other_comm p low comm = let first : p ≡ 0 = omega arith in differ ((said 0).comm 0) (ap (said 0).comm (sym first) ∙ comm) refl

crossed_closed : (g : Setting) → g.groups ≡ crossed.groups → AreClosed needs g (lines_of crossed) at_wait
crossed_closed g e rank c get = go (cases_eq rank 0) (cases_eq rank 1)
  where
    go : (rank ≡ 0) ⊎ (rank ≡ 0 → ⊥) → (rank ≡ 1) ⊎ (rank ≡ 1 → ⊥) → IsBlocked needs g said rank c
    go (inl x) y =
        let is : Wait 0 ≡ c = same_Some (Wait 0) c (ap (λ r. slice_get (lines_of crossed r) 1) (sym x) ∙ get) in
        subst (λ r. IsBlocked needs g said r c) (sym x) (subst (IsBlocked needs g said 0) is (stands.wait 0 (omega arith) (first_lacks g e)))
    go (inr d) (inl x) =
        let is : Wait 0 ≡ c = same_Some (Wait 0) c (ap (λ r. slice_get (lines_of crossed r) 1) (sym x) ∙ get) in
        subst (λ r. IsBlocked needs g said r c) (sym x) (subst (IsBlocked needs g said 1) is (stands.wait 0 (omega arith) (second_lacks g e)))
    go (inr d) (inr b) =
        let none : ltb rank 2 ≡ false = le-ltb rank 2 (omega arith) in
        absurd (none-some c (rw none at get))

pub crossed_barriers_stall : CrossedBarriersStall
crossed_barriers_stall = record { nonempty = refl; stalls = λ g e. closed_stands_stall g (lines_of crossed) at_wait (crossed_closed g e) (0, omega arith) }

-- ---- the crossed barriers in a run that stalls

abbrev pub two : Setting
two = record { ranks = 2; groups = (0 ∷ 1 ∷ []) ∷ (0 ∷ 1 ∷ []) ∷ []; slots = 2; places = 1; wear = 1; starts = 1; trace = 4 }

abbrev pub first_ticket : Ticket
first_ticket = record { slot = 0; generation = 1 }

abbrev pub second_ticket : Ticket
second_ticket = record { slot = 1; generation = 1 }

abbrev pub first_request : Request
first_request = new_request 0 0 0 0 Once

abbrev pub second_request : Request
second_request = new_request 1 1 1 0 Once

abbrev pub one_posted : Machine
one_posted = phased (started (created nothing first_ticket first_request barrier) 0 first_request []) (λ slot. false)

abbrev pub both_posted : Machine
both_posted = phased (started (created one_posted.state second_ticket second_request barrier) 1 second_request []) (λ slot. false)

pub first_posts : MachineStep two beginning.machine (calls.Post 0 0 (record { sig = barrier; n = 2; member = 0 }) []) (calls.Ticketed first_ticket) one_posted
first_posts = machine.post 0 0 0 (record { sig = barrier; n = 2; member = 0 }) [] first_ticket (record {
  member = 0;
  accepted = refl;
  member_is = refl;
  place_is = refl;
  new = record { low = omega arith; spare = refl; unworn = omega arith; next = refl };
  leaves = refl;
})

pub second_posts : MachineStep two one_posted (calls.Post 1 1 (record { sig = barrier; n = 2; member = 1 }) []) (calls.Ticketed second_ticket) both_posted
second_posts = machine.post 1 1 0 (record { sig = barrier; n = 2; member = 1 }) [] second_ticket (record {
  member = 1;
  accepted = refl;
  member_is = refl;
  place_is = refl;
  new = record { low = omega arith; spare = refl; unworn = omega arith; next = refl };
  leaves = refl;
})

abbrev pub one_at_wait : Standing
one_at_wait = carried_out beginning 0 one_posted (one_more nothing_made first_ticket)

abbrev pub both_at_wait : Standing
both_at_wait = carried_out one_at_wait 1 both_posted (one_more nothing_made second_ticket)

pub crossed_run : Reaches two (lines_of crossed) both_at_wait
crossed_run =
    standings.goes_on
    (standings.goes_on standings.begins
    (standings.carries 0 (Post 0 barrier []) refl (standings.post 0 barrier [] (record { sig = barrier; n = 2; member = 0 }) first_ticket refl first_posts)))
    (standings.carries 1 (Post 1 barrier []) refl (standings.post 1 barrier [] (record { sig = barrier; n = 2; member = 1 }) second_ticket refl second_posts))

pub both_wait : (rank : ℕ) (c : Command) → slice_get (lines_of crossed rank) (both_at_wait.at rank) ≡ Some c → Waits two (lines_of crossed) both_at_wait rank c
both_wait rank c get = go (cases_eq rank 0) (cases_eq rank 1)
  where
    go : (rank ≡ 0) ⊎ (rank ≡ 0 → ⊥) → (rank ≡ 1) ⊎ (rank ≡ 1 → ⊥) → Waits two (lines_of crossed) both_at_wait rank c
    go (inl x) y =
        let is : Wait 0 ≡ c = same_Some (Wait 0) c (ap (λ r. slice_get (lines_of crossed r) (both_at_wait.at r)) (sym x) ∙ get) in
        subst (λ r. Waits two (lines_of crossed) both_at_wait r c) (sym x) (subst (Waits two (lines_of crossed) both_at_wait 0) is (stalls.wait 0 refl))
    go (inr d) (inl x) =
        let is : Wait 0 ≡ c = same_Some (Wait 0) c (ap (λ r. slice_get (lines_of crossed r) (both_at_wait.at r)) (sym x) ∙ get) in
        subst (λ r. Waits two (lines_of crossed) both_at_wait r c) (sym x) (subst (Waits two (lines_of crossed) both_at_wait 1) is (stalls.wait 0 refl))
    go (inr d) (inr b) =
        let none : ltb rank 2 ≡ false = le-ltb rank 2 (omega arith) in
        absurd (none-some c (rw none at get))

-- the member that has not posted has given nothing
lacks_one : (request : Request) (start other : ℕ) (r : Request) → r ≡ request → r.starts ≡ 1 → suc start ≡ request.starts
    → other < size two r.comm → both_posted.state.given (key_of r 0) other ≡ None
    → ((i : ℕ) → i < size two request.comm → both_posted.state.given (key_of request start) i ≡ None → ⊥) → ⊥
lacks_one request start other r same one last low none given =
    let zero : start ≡ 0 = first start request.starts last (ap (λ (r : Request). r.starts) (sym same) ∙ one) in
    given other (subst (λ (r : Request). other < size two r.comm) same low) ((λ z. both_posted.state.given (key_of (sym same z) (zero z)) other) ∙ none)
  where
    first : (a b : ℕ) → suc a ≡ b → b ≡ 1 → a ≡ 0
    first a b e h = omega arith

both_settled : (slot : ℕ) → HasAll two both_posted slot → both_posted.done slot ≡ true
both_settled slot has = absurd (go (cases_eq slot 0) (cases_eq slot 1))
  where
    go : (slot ≡ 0) ⊎ (slot ≡ 0 → ⊥) → (slot ≡ 1) ⊎ (slot ≡ 1 → ⊥) → ⊥
    go (inl x) y =
        lacks_one has.request has.start 1 (once_more first_request)
        (same_Some (once_more first_request) has.request (ap both_posted.state.request (sym x) ∙ has.is)) refl has.last (omega arith) refl has.given
    go (inr d) (inl x) =
        lacks_one has.request has.start 0 (once_more second_request)
        (same_Some (once_more second_request) has.request (ap both_posted.state.request (sym x) ∙ has.is)) refl has.last (omega arith) refl has.given
    go (inr d) (inr b) = none-some has.request (sym (
        put_other (put one_posted.state.request 1 (Some second_request)) 1 (Some (once_more second_request)) slot b
        ∙ (put_other one_posted.state.request 1 (Some second_request) slot b
        ∙ (put_other (put nothing.request 0 (Some first_request)) 0 (Some (once_more first_request)) slot d
        ∙ put_other nothing.request 0 (Some first_request) slot d))) ∙ has.is)

pub crossed_barriers_may_stall : CrossedBarriersMayStall
crossed_barriers_may_stall never =
    never two refl both_at_wait crossed_run
    (record { waits = both_wait; settled = both_settled; early = λ end. ended (both_at_wait.at 0) (length (lines_of crossed 0)) refl refl (end 0) })
  where
    ended : (a b : ℕ) → a ≡ 1 → b ≡ 4 → a ≡ b → ⊥
    ended a b x y e = absurd (omega arith)

-- ---- crossed initialisations, before the first call returns

below_zero : (n : ℕ) → n < 0 → ⊥
below_zero n low = absurd (omega arith)

inits_wait : (rank : ℕ) (c : Command) → slice_get (lines_of inits rank) (beginning.at rank) ≡ Some c → Waits two (lines_of inits) beginning rank c
inits_wait rank c get = go (cases_eq rank 0) (cases_eq rank 1)
  where
    go : (rank ≡ 0) ⊎ (rank ≡ 0 → ⊥) → (rank ≡ 1) ⊎ (rank ≡ 1 → ⊥) → Waits two (lines_of inits) beginning rank c
    go (inl x) y =
        let is : Init 0 barrier ≡ c = same_Some (Init 0 barrier) c (ap (λ r. slice_get (lines_of inits r) 0) (sym x) ∙ get) in
        subst (λ r. Waits two (lines_of inits) beginning r c) (sym x)
        (subst (Waits two (lines_of inits) beginning 0) is (stalls.init 0 barrier 1 1 refl (below_zero 0)))
    go (inr d) (inl x) =
        let is : Init 1 barrier ≡ c = same_Some (Init 1 barrier) c (ap (λ r. slice_get (lines_of inits r) 0) (sym x) ∙ get) in
        subst (λ r. Waits two (lines_of inits) beginning r c) (sym x)
        (subst (Waits two (lines_of inits) beginning 1) is (stalls.init 1 barrier 0 0 refl (below_zero 0)))
    go (inr d) (inr b) =
        let none : ltb rank 2 ≡ false = le-ltb rank 2 (omega arith) in
        absurd (none-some c (rw none at get))

pub crossed_inits_may_stall : CrossedInitsMayStall
crossed_inits_may_stall never = never two refl beginning standings.begins (record {
  waits = inits_wait;
  settled = λ slot has. absurd (none-some has.request has.is);
  early = λ end. ended (beginning.at 0) (length (lines_of inits 0)) refl refl (end 0);
})
  where
    ended : (a b : ℕ) → a ≡ 0 → b ≡ 3 → a ≡ b → ⊥
    ended a b x y e = absurd (omega arith)

-- ---- crossed collectives of no elements

pub crossed_empties_may_end : CrossedEmptiesMayEnd
crossed_empties_may_end always = false≢true always.nonempty
