-- What all ranks hold agrees with what their commands say, and what was given was given by their starts: each step of a
-- job keeps it.
use Rattle.std.proofs.Common.{◌≡◌, ℕ, suc, ◌<◌, ◌⊎◌, inl, inr, Bool, true, false, not, ◌&&◌, cond, eqb, List, [], ◌∷◌, ◌++◌, length, Option, Some}
use Rattle.std.proofs.Common.{None, refl, sym, ap, subst, ◌∙◌, arith, eq-eqb}
use Rattle.std.proofs.lemmas.Bool.{cases_eq, cond-true, false≢true}
use Rattle.std.proofs.lemmas.Option.{none-some, same_Some}
use Rattle.std.specs.Prelude.{slice_get}
use Rattle.coll_kinds.specs.declared.kind.Mode.{Mode}
use Rattle.coll_kinds.specs.declared.kind.Mode.TheVariants.{Once, Persistent}
use Rattle.coll_kinds.specs.declared.signature.Signature.{Signature}
use Rattle.coll_kinds.specs.declared.ticket.Ticket.{Ticket}
use Rattle.coll_kinds.specs.Common.{member_of, is_among, put}
use Rattle.coll_kinds.proofs.Puts.{put_same, put_other, put_cases}
use Rattle.coll_machine.specs.Common.{Setting, group, rank_of, Request, State, Machine, found, key_of, new_request, once_more, started, rested}
use Rattle.coll_machine.specs.Common.{rested_by, Planned, Call, Reply, Posts, Inits, Starts, Frees, Retires, MachineStep, Event, Runs, opened}
use Rattle.coll_machine.specs.declared.key.Key.{Key}
use Rattle.coll_machine.specs.Calls as calls
use Rattle.coll_machine.specs.Machines as steps
use Rattle.coll_machine.specs.Runs.{Run}
use Rattle.coll_machine.proofs.Accepted.{found_is, freed_mine}
use Rattle.coll_machine.proofs.Held.{runs_are_posted}
use Rattle.coll_machine.proofs.Members.{member_at}
use Rattle.coll_parser.specs.declared.command.Command.{Command}
use Rattle.coll_verdict.specs.Standings.{Holding, holding_at, one_more, kept, active_in, is_active, is_done, is_pending, NonePending, NoneDone}
use Rattle.coll_verdict.specs.Standings.{Completes, Carries}
use Rattle.coll_verdict.specs.Standings as standings
use Rattle.coll_verdict.specs.Sketches.{Sketch, making, starting, naming, resting, sketched}
use Rattle.coll_verdict.proofs.Sketched.{Grows, same_grows, making_grows, starting_grows, naming_grows, resting_grows, same_same, same_started, lt_le}
use Rattle.coll_verdict.proofs.Agreeing.{IsLive, Agrees, live_as, Moves, agrees_elsewhere, Makes, agrees_makes, Touches, agrees_touches, agrees_named}
use Rattle.coll_verdict.proofs.Agreeing.{agrees_rests}
use Rattle.coll_verdict.proofs.Changing.{makes_init, makes_post, given_before, Leaves, leaves_retired, leaves_freed, leaves_moves, rests_inactive, kept_is}

-- ---- tests

pub found_at : (s : State) (t : Ticket) (request : Request) → s.generation t.slot ≡ t.generation → s.request t.slot ≡ Some request → found s t ≡ Some request
found_at s t request e is = cond-true (eqb (s.generation t.slot) t.generation) (s.request t.slot) None (eq-eqb (s.generation t.slot) t.generation e) ∙ is

pub unpending : (a d : Bool) → a ≡ true → (a && not d) ≡ false → d ≡ true
unpending true true x e = refl
unpending true false x e = absurd (false≢true (sym e))
unpending false d x e = absurd (false≢true x)

pub undone : (a d : Bool) → a ≡ true → (a && d) ≡ false → d ≡ false
undone true d x e = e
undone false d x e = absurd (false≢true x)

-- ---- what was given

-- some rank that is this member of the communicator has come to the start
pub record Gave (g : Setting) (k : ℕ → Sketch) (key : Key) (member : ℕ) : Type 0 where
  pub rank : ℕ
  pub member_is : member_of rank (group g key.comm) ≡ Some member
  pub q : ℕ
  pub low : q < (k rank).made
  pub comm_is : (k rank).comm q ≡ key.comm
  pub place_is : (k rank).place q ≡ key.place
  pub begun : key.start < (k rank).starts q

pub gave_grows : (g : Setting) (j k : ℕ → Sketch) (key : Key) (member : ℕ) → ((rank : ℕ) → Grows (j rank) (k rank)) → Gave g j key member → Gave g k key member
gave_grows g j k key member grows v = record {
  rank = v.rank;
  member_is = v.member_is;
  q = v.q;
  low = lt_le v.q (j v.rank).made (k v.rank).made v.low (grows v.rank).made;
  comm_is = (grows v.rank).comm v.q v.low ∙ v.comm_is;
  place_is = (grows v.rank).place v.q v.low ∙ v.place_is;
  begun = lt_le key.start ((j v.rank).starts v.q) ((k v.rank).starts v.q) v.begun ((grows v.rank).starts v.q v.low);
}

pub gave_own : (g : Setting) (k : ℕ → Sketch) (rank : ℕ) (j : Sketch) (key : Key) (member q : ℕ) → k rank ≡ j → member_of rank (group g key.comm) ≡ Some member
    → q < j.made → j.comm q ≡ key.comm → j.place q ≡ key.place → key.start < j.starts q → Gave g k key member
gave_own g k rank j key member q e is low comm_is place_is begun = record {
  rank = rank;
  member_is = is;
  q = q;
  low = subst (λ (j : Sketch). q < j.made) (sym e) low;
  comm_is = ap (λ (j : Sketch). j.comm q) e ∙ comm_is;
  place_is = ap (λ (j : Sketch). j.place q) e ∙ place_is;
  begun = subst (λ (j : Sketch). key.start < j.starts q) (sym e) begun;
}

-- ---- all ranks; `up` says of which requests with how many starts it is known that they are active

pub record Tracks (up : ℕ → ℕ → ℕ → Type 0) (g : Setting) (m : Machine) (h : ℕ → Holding) (k : ℕ → Sketch) : Type 0 where
  pub events : List Event
  pub run : Run g events m
  pub agrees : (rank : ℕ) → Agrees (up rank) g m.state rank (h rank) (k rank)
  pub gave : (key : Key) (member : ℕ) (bytes : List ℕ) → m.state.given key member ≡ Some bytes → Gave g k key member

pub runs_push : (g : Setting) (m n last : Machine) (events : List Event) (call : Call) (reply : Reply) → Runs g m events n → MachineStep g n call reply last
    → Runs g m (events ++ record { call = call; reply = reply } ∷ []) last
runs_push g m n last [] call reply r step = (last, subst (λ (m : Machine). MachineStep g m call reply last) (sym r) step, refl)
runs_push g m n last (e ∷ events) call reply r step = (r.0, r.1, runs_push g r.0 n last events call reply r.2 step)

tracked : (up : ℕ → ℕ → ℕ → Type 0) (g : Setting) (m n : Machine) (call : Call) (reply : Reply) (h i : ℕ → Holding) (j k : ℕ → Sketch) (rank : ℕ)
    → Tracks up g m h j → MachineStep g m call reply n
    → Agrees (up rank) g n.state rank (i rank) (k rank)
    → ((r : ℕ) → (r ≡ rank → ⊥) → Agrees (up r) g n.state r (i r) (k r))
    → ((key : Key) (member : ℕ) (bytes : List ℕ) → n.state.given key member ≡ Some bytes → Gave g k key member)
    → Tracks up g n i k
tracked up g m n call reply h i j k rank t step own others gave = record {
  events = t.events ++ record { call = call; reply = reply } ∷ [];
  run = runs_push g opened m n t.events call reply t.run step;
  agrees = λ r. go r (cases_eq r rank);
  gave = gave;
}
  where
    go : (r : ℕ) → (r ≡ rank) ⊎ (r ≡ rank → ⊥) → Agrees (up r) g n.state r (i r) (k r)
    go r (inl e) = subst (λ (r : ℕ). Agrees (up r) g n.state r (i r) (k r)) (sym e) own
    go r (inr d) = others r d

-- ---- the rank that acts, and the others

own_held : (up : ℕ → ℕ → Type 0) (g : Setting) (s : State) (rank : ℕ) (h : ℕ → Holding) (i : Holding) (j : Sketch)
    → Agrees up g s rank i j → Agrees up g s rank (put h rank i rank) j
own_held up g s rank h i j a = subst (λ (i : Holding). Agrees up g s rank i j) (sym (put_same h rank i)) a

own_sketched : (up : ℕ → ℕ → Type 0) (g : Setting) (s : State) (rank : ℕ) (k : ℕ → Sketch) (i : Holding) (j : Sketch)
    → Agrees up g s rank i j → Agrees up g s rank i (put k rank j rank)
own_sketched up g s rank k i j a = subst (λ (j : Sketch). Agrees up g s rank i j) (sym (put_same k rank j)) a

other_held : (up : ℕ → ℕ → Type 0) (g : Setting) (s : State) (r rank : ℕ) (h : ℕ → Holding) (i : Holding) (j : Sketch)
    → (r ≡ rank → ⊥) → Agrees up g s r (h r) j → Agrees up g s r (put h rank i r) j
other_held up g s r rank h i j d a = subst (λ (i : Holding). Agrees up g s r i j) (sym (put_other h rank i r d)) a

other_sketched : (up : ℕ → ℕ → Type 0) (g : Setting) (s : State) (r rank : ℕ) (k : ℕ → Sketch) (i : Holding) (j : Sketch)
    → (r ≡ rank → ⊥) → Agrees up g s r i (k r) → Agrees up g s r i (put k rank j r)
other_sketched up g s r rank k i j d a = subst (λ (j : Sketch). Agrees up g s r i j) (sym (put_other k rank j r d)) a

pub put_grows : (k : ℕ → Sketch) (rank : ℕ) (j : Sketch) → Grows (k rank) j → (r : ℕ) → Grows (k r) (put k rank j r)
put_grows k rank j grows r = go (put_cases k rank j r)
  where
    go : ((r ≡ rank) × (put k rank j r ≡ j)) ⊎ ((r ≡ rank → ⊥) × (put k rank j r ≡ k r)) → Grows (k r) (put k rank j r)
    go (inl a) = subst (λ (j : Sketch). Grows (k r) j) (sym a.1) (subst (λ (r : ℕ). Grows (k r) j) (sym a.0) grows)
    go (inr a) = subst (λ (j : Sketch). Grows (k r) j) (sym a.1) (same_grows (k r))

pub same_rank : (g : Setting) (c i comm member r rank : ℕ) → member_of r (group g c) ≡ Some i
    → member_of rank (group g comm) ≡ Some member → c ≡ comm → i ≡ member → r ≡ rank
same_rank g c i comm member r rank is own x y =
    let same : rank_of g c i ≡ rank_of g comm member = λ z. rank_of g (x z) (y z) in
    sym (member_at g c r i is).1 ∙ (same ∙ (member_at g comm rank member own).1)

lt_of : (a b c d : ℕ) → a ≡ c → b ≡ d → c < d → a < b
lt_of a b c d x y l = omega arith

-- ---- what a step did

pub post_is : (g : Setting) (rank comm : ℕ) (plan : Planned) (given : List ℕ) (t : Ticket) (m n : Machine)
    → MachineStep g m (calls.Post rank comm plan given) (calls.Ticketed t) n
    → (place : ℕ) × Posts g m.state rank t comm place plan given n.state
post_is g rank comm plan given t _ _ (steps.post {s} {u} {done} _ _ place _ _ _ p) = (place, p)

pub init_is : (g : Setting) (rank comm : ℕ) (plan : Planned) (t : Ticket) (m n : Machine) → MachineStep g m (calls.Init rank comm plan) (calls.Ticketed t) n
    → (place : ℕ) × Inits g m.state rank t comm place plan n.state
init_is g rank comm plan t _ _ (steps.init {s} {u} {done} _ _ place _ _ p) = (place, p)

pub start_is : (g : Setting) (rank : ℕ) (t : Ticket) (given : List ℕ) (m n : Machine) → MachineStep g m (calls.Start rank t given) calls.Nothing n
    → (begin : ℕ) × Starts g m.state rank t begin given n.state
start_is g rank t given _ _ (steps.start {s} {u} {done} _ begin _ _ p) = (begin, p)

pub free_is : (g : Setting) (rank : ℕ) (t : Ticket) (m n : Machine) → MachineStep g m (calls.Free rank t) calls.Nothing n → Frees g m.state rank t n.state
free_is g rank t _ _ (steps.free {s} {u} {done} _ _ p) = p

pub retire_is : (g : Setting) (rank who comm place begin : ℕ) (bytes : List ℕ) (t : Ticket) (m n : Machine)
    → MachineStep g m (calls.Retire rank t) (calls.Outcome who comm place begin bytes) n
    → Retires g m.state rank t comm place begin bytes n.state × (m.done t.slot ≡ true)
retire_is g rank who comm place begin bytes t _ _ (steps.retire {s} {u} {done} _ _ _ _ _ _ p d) = (p, d)

pub finish_is : (g : Setting) (m n : Machine) → MachineStep g m calls.Finish calls.Nothing n → n.state ≡ m.state
finish_is g _ _ (steps.finish {m} {done} slot f) = refl

-- ---- a rank makes a request

module _ (up : ℕ → ℕ → ℕ → Type 0) (g : Setting) (m n : Machine) (h : ℕ → Holding) (k : ℕ → Sketch) (rank comm member : ℕ)
    (t : Ticket) (sig : Signature) (starts : ℕ) (active : Bool) (fits : (q : ℕ) → up rank q starts → active ≡ true)
    (tr : Tracks up g m h k) (mk : Makes g m.state n.state rank comm member t sig starts active) where
  abbrev more : ℕ → Sketch
  more = put k rank (making (k rank) comm sig starts)

  abbrev holding_more : ℕ → Holding
  holding_more = put h rank (one_more (h rank) t)

  made_own : Agrees (up rank) g n.state rank (holding_more rank) (more rank)
  made_own = own_held (up rank) g n.state rank h (one_more (h rank) t) (more rank)
      (own_sketched (up rank) g n.state rank k (one_more (h rank) t) (making (k rank) comm sig starts)
      (agrees_makes (up rank) g m.state n.state rank comm member t sig starts active (h rank) (k rank) mk fits (tr.agrees rank)))

  made_others : (r : ℕ) → (r ≡ rank → ⊥) → Agrees (up r) g n.state r (holding_more r) (more r)
  made_others r d =
      other_held (up r) g n.state r rank h (one_more (h rank) t) (more r) d (other_sketched (up r) g n.state r rank k (h r) (making (k rank) comm sig starts) d
      (agrees_elsewhere (up r) g m.state n.state t.slot rank r (h r) (k r) mk.moves (λ request e. absurd (none-some request (sym mk.spare ∙ e))) d
      (λ c i is. ap length (mk.others c i (λ e. d (same_rank g c i comm member r rank is mk.is_member e.0 e.1)))) (tr.agrees r)))

  made_gave : (key : Key) (i : ℕ) (b : List ℕ) → m.state.given key i ≡ Some b → Gave g more key i
  made_gave key i b e =
      gave_grows g k more key i (put_grows k rank (making (k rank) comm sig starts) (making_grows (k rank) comm sig starts)) (tr.gave key i b e)

posted_step : (up : ℕ → ℕ → ℕ → Type 0) (g : Setting) (m n : Machine) (h : ℕ → Holding) (k : ℕ → Sketch) (rank comm : ℕ)
    (plan : Planned) (given : List ℕ) (t : Ticket) → Tracks up g m h k
    → MachineStep g m (calls.Post rank comm plan given) (calls.Ticketed t) n
    → Tracks up g n (put h rank (one_more (h rank) t)) (put k rank (making (k rank) comm plan.sig 1))
posted_step up g m n h k rank comm plan given t tr step = go (post_is g rank comm plan given t m n step)
  where
    go : (place : ℕ) × Posts g m.state rank t comm place plan given n.state
        → Tracks up g n (put h rank (one_more (h rank) t)) (put k rank (making (k rank) comm plan.sig 1))
    go found =
        let mk = makes_post g m.state n.state rank comm found.0 plan given t found.1 in
        tracked up g m n (calls.Post rank comm plan given) (calls.Ticketed t) h (put h rank (one_more (h rank) t)) k
        (put k rank (making (k rank) comm plan.sig 1)) rank tr step
        (made_own up g m n h k rank comm found.1.member t plan.sig 1 true (λ q x. refl) tr mk)
        (made_others up g m n h k rank comm found.1.member t plan.sig 1 true (λ q x. refl) tr mk)
        (λ key i b e. from key i b
        (given_before m.state.given (key_of (new_request rank comm found.1.member found.0 Once) 0) found.1.member given key i
        b (ap (λ (s : State). s.given key i) (sym found.1.leaves) ∙ e)) mk)
      where
        from : (key : Key) (i : ℕ) (b : List ℕ)
            → (m.state.given key i ≡ Some b) ⊎ ((key ≡ key_of (new_request rank comm found.1.member found.0 Once) 0) × (i ≡ found.1.member))
            → Makes g m.state n.state rank comm found.1.member t plan.sig 1 true
            → Gave g (put k rank (making (k rank) comm plan.sig 1)) key i
        from key i b (inl old) mk = made_gave up g m n h k rank comm found.1.member t plan.sig 1 true (λ q x. refl) tr mk key i b old
        from key i b (inr new) mk = gave_own g (put k rank (making (k rank) comm plan.sig 1)) rank (making (k rank) comm plan.sig 1) key i (k rank).made
            (put_same k rank (making (k rank) comm plan.sig 1))
            (ap (λ (key : Key). member_of rank (group g key.comm)) new.0 ∙ (found.1.member_is ∙ ap Some (sym new.1)))
            (below (k rank).made)
            (put_same (k rank).comm (k rank).made comm ∙ ap (λ (key : Key). key.comm) (sym new.0))
            (put_same (k rank).place (k rank).made ((k rank).posted comm)
            ∙ (sym ((tr.agrees rank).posted comm found.1.member found.1.member_is) ∙ (sym found.1.place_is ∙ ap (λ (key : Key). key.place) (sym new.0))))
            (lt_of key.start (put (k rank).starts (k rank).made 1 (k rank).made) 0 1 (ap (λ (key : Key). key.start) new.0)
            (put_same (k rank).starts (k rank).made 1) one)
          where
            below : (n : ℕ) → n < suc n
            below n = omega arith

            one : 0 < 1
            one = omega arith

inited_step : (up : ℕ → ℕ → ℕ → Type 0) (g : Setting) (m n : Machine) (h : ℕ → Holding) (k : ℕ → Sketch) (rank comm : ℕ) (plan : Planned) (t : Ticket)
    → ((q : ℕ) → up rank q 0 → ⊥) → Tracks up g m h k
    → MachineStep g m (calls.Init rank comm plan) (calls.Ticketed t) n
    → Tracks up g n (put h rank (one_more (h rank) t)) (put k rank (making (k rank) comm plan.sig 0))
inited_step up g m n h k rank comm plan t never tr step =
    let found = init_is g rank comm plan t m n step in
    let mk = makes_init g m.state n.state rank comm found.0 plan t found.1 in
    tracked up g m n (calls.Init rank comm plan) (calls.Ticketed t) h (put h rank (one_more (h rank) t)) k
    (put k rank (making (k rank) comm plan.sig 0)) rank tr step
    (made_own up g m n h k rank comm found.1.member t plan.sig 0 false (λ q x. absurd (never q x)) tr mk)
    (made_others up g m n h k rank comm found.1.member t plan.sig 0 false (λ q x. absurd (never q x)) tr mk)
    (λ key i b e. made_gave up g m n h k rank comm found.1.member t plan.sig 0 false (λ q x. absurd (never q x)) tr mk key i b
    (ap (λ (s : State). s.given key i) (sym found.1.leaves) ∙ e))

-- ---- a rank starts a request

above : (n : ℕ) → 0 < suc n
above n = omega arith

started_live : (up : ℕ → ℕ → Type 0) (s : State) (rank : ℕ) (k : Sketch) (q : ℕ) (t : Ticket) (request : Request) (given : List ℕ)
    → IsLive up s rank k q t request → IsLive up (started s t.slot request given) rank (starting k q) q t (once_more request)
started_live up s rank k q t request given l = record {
  current = l.current;
  is = put_same s.request t.slot (Some (once_more request));
  low = l.low;
  rank_is = l.rank_is;
  comm_is = l.comm_is;
  place_is = l.place_is;
  starts_is = ap suc l.starts_is ∙ sym (put_same k.starts q (suc (k.starts q)));
  sig = l.sig;
  sig_is = l.sig_is;
  sketched = l.sketched;
  active = λ e. refl;
  rested = λ e. absurd (false≢true (sym (put_same k.rested q false) ∙ e));
  begun = λ e. above (request.starts);
}

pub started_moves : (s : State) (slot : ℕ) (request : Request) (given : List ℕ) → Moves s (started s slot request given) slot
started_moves s slot request given = record {
  generation = λ i d. refl;
  request = λ i d. put_other s.request slot (Some (once_more request)) i d;
  posts = λ c m place sig e. e;
}

started_touches : (up : ℕ → ℕ → Type 0) (g : Setting) (s : State) (rank : ℕ) (h : Holding) (k : Sketch) (q : ℕ) (t : Ticket)
    (request : Request) (given : List ℕ) → h.of q ≡ Some t → IsLive up s rank k q t request
    → Touches up g s (started s t.slot request given) rank h h k (starting k q) q t
started_touches up g s rank h k q t request given held l = record {
  held = held;
  moves = started_moves s t.slot request given;
  posts = λ c m. refl;
  made = refl;
  others = λ p d. refl;
  sketched_made = refl;
  posted = λ c. refl;
  same = λ p d. same_started k q p d;
  idle = λ e x. none-some t (sym e ∙ held);
  own = λ v e. (same_Some v t (sym e ∙ held), (once_more request, started_live up s rank k q t request given l));
}

started_step : (up : ℕ → ℕ → ℕ → Type 0) (g : Setting) (m n : Machine) (h : ℕ → Holding) (k : ℕ → Sketch) (rank q : ℕ) (given : List ℕ) (t : Ticket)
    → Tracks up g m h k → (h rank).of q ≡ Some t
    → MachineStep g m (calls.Start rank t given) calls.Nothing n
    → Tracks up g n (put h rank (h rank)) (put k rank (starting (k rank) q))
started_step up g m n h k rank q given t tr held step = go (start_is g rank t given m n step)
  where
    go : (begin : ℕ) × Starts g m.state rank t begin given n.state → Tracks up g n (put h rank (h rank)) (put k rank (starting (k rank) q))
    go found =
        tracked up g m n (calls.Start rank t given) calls.Nothing h (put h rank (h rank)) k (put k rank (starting (k rank) q)) rank tr step
        (own_held (up rank) g n.state rank h (h rank) (put k rank (starting (k rank) q) rank)
        (own_sketched (up rank) g n.state rank k (h rank) (starting (k rank) q) own))
        (λ r d. other_held (up r) g n.state r rank h (h rank) (put k rank (starting (k rank) q) r) d
        (other_sketched (up r) g n.state r rank k (h r) (starting (k rank) q) d (other r d)))
        (λ key i b e. from key i b
        (given_before m.state.given (key_of found.1.request found.1.request.starts) found.1.request.member given key i b
        (ap (λ (s : State). s.given key i) (sym found.1.leaves) ∙ e)))
      where
        there : m.state.request t.slot ≡ Some found.1.request
        there = (found_is m.state t found.1.request found.1.is).1

        live : IsLive (up rank) m.state rank (k rank) q t found.1.request
        live = let l = (tr.agrees rank).live q t held in live_as (up rank) m.state rank (k rank) q t l.0 found.1.request l.1 there

        own : Agrees (up rank) g n.state rank (h rank) (starting (k rank) q)
        own = subst (λ (s : State). Agrees (up rank) g s rank (h rank) (starting (k rank) q)) (sym found.1.leaves)
            (agrees_touches (up rank) g m.state (started m.state t.slot found.1.request given) rank (h rank) (h rank) (k rank)
            (starting (k rank) q) q t (started_touches (up rank) g m.state rank (h rank) (k rank) q t found.1.request given held live) (tr.agrees rank))

        owner : (other : Request) → m.state.request t.slot ≡ Some other → other.rank ≡ rank
        owner other e = ap (λ (r : Request). r.rank) (same_Some other found.1.request (sym e ∙ there)) ∙ live.rank_is

        other : (r : ℕ) → (r ≡ rank → ⊥) → Agrees (up r) g n.state r (h r) (k r)
        other r d = subst (λ (s : State). Agrees (up r) g s r (h r) (k r)) (sym found.1.leaves)
            (agrees_elsewhere (up r) g m.state (started m.state t.slot found.1.request given) t.slot rank r (h r) (k r)
            (started_moves m.state t.slot found.1.request given) owner d (λ c i is. refl) (tr.agrees r))

        member_is : member_of rank (group g found.1.request.comm) ≡ Some found.1.request.member
        member_is =
            let p = (runs_are_posted g tr.events m tr.run).posted t.slot found.1.request there in
            ap (λ (r : ℕ). member_of r (group g found.1.request.comm)) (sym live.rank_is) ∙ p.member_is

        from : (key : Key) (i : ℕ) (b : List ℕ)
            → (m.state.given key i ≡ Some b) ⊎ ((key ≡ key_of found.1.request found.1.request.starts) × (i ≡ found.1.request.member))
            → Gave g (put k rank (starting (k rank) q)) key i
        from key i b (inl old) =
            gave_grows g k (put k rank (starting (k rank) q)) key i (put_grows k rank (starting (k rank) q) (starting_grows (k rank) q)) (tr.gave key i b old)
        from key i b (inr new) = gave_own g (put k rank (starting (k rank) q)) rank (starting (k rank) q) key i q
            (put_same k rank (starting (k rank) q))
            (ap (λ (key : Key). member_of rank (group g key.comm)) new.0 ∙ (member_is ∙ ap Some (sym new.1)))
            live.low
            (sym live.comm_is ∙ ap (λ (key : Key). key.comm) (sym new.0))
            (sym live.place_is ∙ ap (λ (key : Key). key.place) (sym new.0))
            (lt_of key.start (put (k rank).starts q (suc ((k rank).starts q)) q) ((k rank).starts q) (suc ((k rank).starts q))
            (ap (λ (key : Key). key.start) new.0 ∙ live.starts_is) (put_same (k rank).starts q (suc ((k rank).starts q))) (below ((k rank).starts q)))
          where
            below : (n : ℕ) → n < suc n
            below n = omega arith

-- ---- a request is completed, or gone

loses : (up : ℕ → ℕ → ℕ → Type 0) (g : Setting) (m n : Machine) (call : Call) (reply : Reply) (h : ℕ → Holding) (x : Holding)
    (k : ℕ → Sketch) (rank q : ℕ) (t : Ticket) (request : Request) (after : Option Request)
    → Tracks up g m (put h rank x) k → MachineStep g m call reply n → (up rank q ((k rank).starts q) → ⊥) → x.of q ≡ Some t
    → m.state.request t.slot ≡ Some request
    → Leaves m.state n.state t.slot after
    → ((other : Request) → after ≡ Some other → after ≡ Some (record request { active = false }))
    → Tracks up g n (put h rank (holding_at x q (kept n.state t))) k
loses up g m n call reply h x k rank q t request after tr step inactive held there lv stays =
    tracked up g m n call reply (put h rank x) (put h rank (holding_at x q (kept n.state t))) k k rank tr step
    (own_held (up rank) g n.state rank h (holding_at x q (kept n.state t)) (k rank)
    (agrees_touches (up rank) g m.state n.state rank x (holding_at x q (kept n.state t)) (k rank) (k rank) q t touches own))
    (λ r d. other_held (up r) g n.state r rank h (holding_at x q (kept n.state t)) (k r) d
    (agrees_elsewhere (up r) g m.state n.state t.slot rank r (h r) (k r) (leaves_moves m.state n.state t.slot after lv) owner
    d (λ c i is. ap length (lv.posts c i)) (other r d)))
    (λ key i b e. tr.gave key i b (lv.given key i b e))
  where
    own : Agrees (up rank) g m.state rank x (k rank)
    own = subst (λ (i : Holding). Agrees (up rank) g m.state rank i (k rank)) (put_same h rank x) (tr.agrees rank)

    other : (r : ℕ) → (r ≡ rank → ⊥) → Agrees (up r) g m.state r (h r) (k r)
    other r d = subst (λ (i : Holding). Agrees (up r) g m.state r i (k r)) (put_other h rank x r d) (tr.agrees r)

    live : IsLive (up rank) m.state rank (k rank) q t request
    live = let l = own.live q t held in live_as (up rank) m.state rank (k rank) q t l.0 request l.1 there

    owner : (other : Request) → m.state.request t.slot ≡ Some other → other.rank ≡ rank
    owner other e = ap (λ (r : Request). r.rank) (same_Some other request (sym e ∙ there)) ∙ live.rank_is

    rested_live : (other : Request) → found n.state t ≡ Some other → IsLive (up rank) n.state rank (k rank) q t (record request { active = false })
    rested_live other e =
        let f = found_is n.state t other e in
        record {
          current = f.0;
          is = lv.is ∙ stays other (sym lv.is ∙ f.1);
          low = live.low;
          rank_is = live.rank_is;
          comm_is = live.comm_is;
          place_is = live.place_is;
          starts_is = live.starts_is;
          sig = live.sig;
          sig_is = ap (λ (list : List Signature). slice_get list request.place) (lv.posts request.comm request.member) ∙ live.sig_is;
          sketched = live.sketched;
          active = λ x. absurd (inactive x);
          rested = λ e. refl;
          begun = λ e. absurd (false≢true e);
        }

    keeps : (v : Ticket) → kept n.state t ≡ Some v → (v ≡ t) × ((request : Request) × IsLive (up rank) n.state rank (k rank) q t request)
    keeps v e = let f = kept_is n.state t v e in (f.0, (record request { active = false }, rested_live f.1.0 f.1.1))

    touches : Touches (up rank) g m.state n.state rank x (holding_at x q (kept n.state t)) (k rank) (k rank) q t
    touches = record {
      held = held;
      moves = leaves_moves m.state n.state t.slot after lv;
      posts = lv.posts;
      made = refl;
      others = λ p d. put_other x.of q (kept n.state t) p d;
      sketched_made = refl;
      posted = λ c. refl;
      same = λ p d. same_same (k rank) p;
      idle = λ e x. inactive x;
      own = λ v e. keeps v (sym (put_same x.of q (kept n.state t)) ∙ e);
    }

-- a function with its own value at a number
pub put_own : {X : Type 0} (f : ℕ → X) (k : ℕ) → put f k (f k) ≡ f
put_own {X} f k = λ z i. at i (put_cases f k (f k) i) z
  where
    at : (i : ℕ) → ((i ≡ k) × (put f k (f k) i ≡ f k)) ⊎ ((i ≡ k → ⊥) × (put f k (f k) i ≡ f i)) → put f k (f k) i ≡ f i
    at i (inl a) = a.1 ∙ ap f (sym a.0)
    at i (inr a) = a.1

pub own_put : (up : ℕ → ℕ → ℕ → Type 0) (g : Setting) (m : Machine) (h : ℕ → Holding) (k : ℕ → Sketch) (rank : ℕ)
    → Tracks up g m h k → Tracks up g m (put h rank (h rank)) k
own_put up g m h k rank tr = subst (λ (h : ℕ → Holding). Tracks up g m h k) (sym (put_own h rank)) tr

-- requests are completed, one after the other
pub data Follows (g : Setting) : Machine → Machine → Type 0 where
  here : {m : Machine} → Follows g m m
  further : {m n last : Machine} (rank comm place begin : ℕ) (bytes : List ℕ) (t : Ticket)
      → MachineStep g m (calls.Retire rank t) (calls.Outcome rank comm place begin bytes) n
      → Follows g n last
      → Follows g m last

-- from there on a request of which it is known that it is active isn't Done
abbrev pub NeverDone : (ℕ → ℕ → ℕ → Type 0) → Setting → Machine → (ℕ → Sketch) → Type 0
NeverDone up g from k = (m : Machine) → Follows g from m → (h : ℕ → Holding) → Tracks up g m h k → (rank q : ℕ) (t : Ticket)
    → (h rank).of q ≡ Some t → m.done t.slot ≡ true → up rank q ((k rank).starts q) → ⊥

pub retired_step : (up : ℕ → ℕ → ℕ → Type 0) (g : Setting) (m n : Machine) (h : ℕ → Holding) (x : Holding) (k : ℕ → Sketch)
    (rank q comm place begin : ℕ) (bytes : List ℕ) (t : Ticket)
    → NeverDone up g m k → Tracks up g m (put h rank x) k → x.of q ≡ Some t
    → MachineStep g m (calls.Retire rank t) (calls.Outcome rank comm place begin bytes) n
    → Tracks up g n (put h rank (holding_at x q (kept n.state t))) k
retired_step up g m n h x k rank q comm place begin bytes t never tr held step =
    let r = retire_is g rank rank comm place begin bytes t m n step in
    let mine : (put h rank x rank).of q ≡ Some t = ap (λ (i : Holding). i.of q) (put_same h rank x) ∙ held in
    loses up g m n (calls.Retire rank t) (calls.Outcome rank comm place begin bytes) h x k rank q t r.0.request
    (rested r.0.request) tr step (never m here (put h rank x) tr rank q t mine r.1) held
    (found_is m.state t r.0.request r.0.is).1 (leaves_retired g m.state n.state rank comm place begin bytes t r.0)
    (λ other e. rests_inactive r.0.request other e)

freed_step : (up : ℕ → ℕ → ℕ → Type 0) (g : Setting) (m n : Machine) (h : ℕ → Holding) (k : ℕ → Sketch) (rank q : ℕ) (t : Ticket)
    → Tracks up g m h k → (h rank).of q ≡ Some t
    → MachineStep g m (calls.Free rank t) calls.Nothing n
    → Tracks up g n (put h rank (holding_at (h rank) q (kept n.state t))) k
freed_step up g m n h k rank q t tr held step =
    let l = (tr.agrees rank).live q t held in
    let p = free_is g rank t m n step in
    let f = freed_mine g m.state rank t p.accepted in
    let same : f.request ≡ l.0 = same_Some f.request l.0 (sym f.is ∙ l.1.is) in
    let idle : l.0.active ≡ false = ap (λ (r : Request). r.active) (sym same) ∙ f.idle_of.idle in
    loses up g m n (calls.Free rank t) calls.Nothing h (h rank) k rank q t l.0 None (own_put up g m h k rank tr) step
    (λ x. false≢true (sym idle ∙ l.1.active x)) held
    l.1.is (leaves_freed g m.state n.state rank t p) (λ other e. absurd (none-some other e))

pub completed : (up : ℕ → ℕ → ℕ → Type 0) (g : Setting) (rank : ℕ) (qs : List ℕ) (h : ℕ → Holding) (k : ℕ → Sketch)
    → (m n : Machine) (x y : Holding) → NeverDone up g m k → Tracks up g m (put h rank x) k → Completes g rank qs m x n y → Tracks up g n (put h rank y) k
completed up g rank qs h k _ _ _ _ never tr standings.none = tr
completed up g rank qs h k _ _ _ _ never tr (standings.another {n = mid} {last = n} {h = x} {i = y} q comm place begin bytes t among held step more) =
    completed up g rank qs h k mid n (holding_at x q (kept mid.state t)) y
    (λ m f. never m (further rank comm place begin bytes t step f)) (retired_step up g _ mid h x k rank q comm place begin bytes t never tr held step) more

-- ---- a rank carries a command out

-- a call names requests
tracks_named : (up : ℕ → ℕ → ℕ → Type 0) (g : Setting) (n : Machine) (h : ℕ → Holding) (k : ℕ → Sketch) (rank : ℕ) (qs : List ℕ)
    → Tracks up g n h k → Tracks up g n h (put k rank (naming (k rank) qs))
tracks_named up g n h k rank qs tr = record {
  events = tr.events;
  run = tr.run;
  agrees = λ r. go r (cases_eq r rank);
  gave = λ key member b e. gave_grows g k (put k rank (naming (k rank) qs)) key member
      (put_grows k rank (naming (k rank) qs) (naming_grows (k rank) qs)) (tr.gave key member b e);
}
  where
    go : (r : ℕ) → (r ≡ rank) ⊎ (r ≡ rank → ⊥) → Agrees (up r) g n.state r (h r) (put k rank (naming (k rank) qs) r)
    go r (inl e) = subst (λ (r : ℕ). Agrees (up r) g n.state r (h r) (put k rank (naming (k rank) qs) r)) (sym e)
        (own_sketched (up rank) g n.state rank k (h rank) (naming (k rank) qs) (agrees_named (up rank) g n.state rank (h rank) (k rank) qs (tr.agrees rank)))
    go r (inr d) = other_sketched (up r) g n.state r rank k (h r) (naming (k rank) qs) d (tr.agrees r)

waited : (up : ℕ → ℕ → ℕ → Type 0) (g : Setting) (m n : Machine) (h : ℕ → Holding) (i : Holding) (k : ℕ → Sketch) (rank : ℕ) (qs : List ℕ)
    → NeverDone up g m k → Tracks up g m h k → Completes g rank qs m (h rank) n i
    → Tracks up g n (put h rank i) (put k rank (naming (k rank) qs))
waited up g m n h i k rank qs never tr done =
    tracks_named up g n (put h rank i) k rank qs (completed up g rank qs h k m n (h rank) i never (own_put up g m h k rank tr) done)

-- what is held and active after completions was so before, and is as Done as it was
pub record WasActive (m n : Machine) (x : Holding) (q : ℕ) (t : Ticket) : Type 0 where
  pub held : x.of q ≡ Some t
  pub active : is_active m (Some t) ≡ true
  pub done : n.done t.slot ≡ m.done t.slot

-- the machine after a completion has nothing active in its slot
inactive_slot : (n : Machine) (t u : Ticket) → u.slot ≡ t.slot → (o : Option Request) → n.state.request t.slot ≡ o
    → active_in o ≡ false → is_active n (Some u) ≡ false
inactive_slot n t u e o is inactive = go (eqb (n.state.generation u.slot) u.generation)
  where
    there : active_in (n.state.request u.slot) ≡ false
    there = ap (λ (slot : ℕ). active_in (n.state.request slot)) e ∙ (ap active_in is ∙ inactive)

    go : (b : Bool) → active_in (cond b (n.state.request u.slot) None) ≡ false
    go true = there
    go false = refl

rested_inactive : (request : Request) → active_in (rested request) ≡ false
rested_inactive request = go request.mode
  where
    go : (mode : Mode) → active_in (rested_by mode request) ≡ false
    go Once = refl
    go Persistent = refl

pub retire_done : (g : Setting) (rank who comm place begin : ℕ) (bytes : List ℕ) (t : Ticket) (m n : Machine)
    → MachineStep g m (calls.Retire rank t) (calls.Outcome who comm place begin bytes) n
    → n.done ≡ put m.done t.slot false
retire_done g rank who comm place begin bytes t _ _ (steps.retire {s} {u} {done} _ _ _ _ _ _ p d) = refl

pub was_active_step : (g : Setting) (rank comm place begin : ℕ) (bytes : List ℕ) (m n : Machine) (x : Holding) (p q : ℕ) (t u : Ticket)
    → MachineStep g m (calls.Retire rank t) (calls.Outcome rank comm place begin bytes) n
    → (holding_at x p (kept n.state t)).of q ≡ Some u → is_active n (Some u) ≡ true → WasActive m n x q u
was_active_step g rank comm place begin bytes m n x p q t u step held active = record {
  held = go (put_cases x.of p (kept n.state t) q);
  active = ap active_in same ∙ active;
  done = ap (λ (f : ℕ → Bool). f u.slot) (retire_done g rank rank comm place begin bytes t m n step) ∙ put_other m.done t.slot false u.slot off;
}
  where
    lv : Leaves m.state n.state t.slot (rested (retire_is g rank rank comm place begin bytes t m n step).0.request)
    lv = leaves_retired g m.state n.state rank comm place begin bytes t (retire_is g rank rank comm place begin bytes t m n step).0

    off : u.slot ≡ t.slot → ⊥
    off e = false≢true (sym (inactive_slot n t u e _ lv.is (rested_inactive (retire_is g rank rank comm place begin bytes t m n step).0.request)) ∙ active)

    same : found m.state u ≡ found n.state u
    same = λ z. cond (eqb (sym (lv.generation u.slot) z) u.generation) (sym (lv.others u.slot off) z) None

    go : ((q ≡ p) × (put x.of p (kept n.state t) q ≡ kept n.state t)) ⊎ ((q ≡ p → ⊥) × (put x.of p (kept n.state t) q ≡ x.of q)) → x.of q ≡ Some u
    go (inl a) = absurd (off (ap (λ (t : Ticket). t.slot) (kept_is n.state t u (sym a.1 ∙ held)).0))
    go (inr a) = sym a.1 ∙ held

was_active : (g : Setting) (rank : ℕ) (qs : List ℕ) (m n : Machine) (x y : Holding) (q : ℕ) (u : Ticket)
    → Completes g rank qs m x n y → y.of q ≡ Some u → is_active n (Some u) ≡ true → WasActive m n x q u
was_active g rank qs _ _ _ _ q u standings.none held active = record { held = held; active = active; done = refl }
was_active g rank qs _ _ _ _ q u (standings.another {m = m} {n = mid} {last = n} {h = x} {i = y} p comm place begin bytes t among mine step more) held active =
    let later = was_active g rank qs mid n (holding_at x p (kept mid.state t)) y q u more held active in
    let now = was_active_step g rank comm place begin bytes m mid x p q t u step later.held later.active in
    record { held = now.held; active = now.active; done = later.done ∙ now.done }

-- a request that was not pending before a wait, and isn't Done after it, is inactive then
waited_inactive : (g : Setting) (rank : ℕ) (qs : List ℕ) (m n : Machine) (x y : Holding) → NonePending m x qs → Completes g rank qs m x n y → NoneDone n y qs
    → (q : ℕ) (t : Ticket) (request : Request) → is_among q qs ≡ true → y.of q ≡ Some t
    → n.state.generation t.slot ≡ t.generation → n.state.request t.slot ≡ Some request → request.active ≡ false
waited_inactive g rank qs m n x y ready done over q t request among held current is = go request.active refl
  where
    go : (b : Bool) → request.active ≡ b → request.active ≡ false
    go false e = e
    go true e =
        let active : is_active n (Some t) ≡ true = ap active_in (found_at n.state t request current is) ∙ e in
        let w = was_active g rank qs m n x y q t done held active in
        let before : m.done t.slot ≡ true = unpending (is_active m (Some t)) (m.done t.slot) w.active (ap (is_pending m) (sym w.held) ∙ ready q among) in
        let after : n.done t.slot ≡ false = undone (is_active n (Some t)) (n.done t.slot) active (ap (is_done n) (sym held) ∙ over q among) in
        absurd (false≢true (sym after ∙ (w.done ∙ before)))

waited_all : (up : ℕ → ℕ → ℕ → Type 0) (g : Setting) (m n : Machine) (h : ℕ → Holding) (i : Holding) (k : ℕ → Sketch) (rank : ℕ) (qs : List ℕ)
    → NeverDone up g m k → Tracks up g m h k
    → NonePending m (h rank) qs → Completes g rank qs m (h rank) n i → NoneDone n i qs
    → Tracks up g n (put h rank i) (put k rank (resting (k rank) qs))
waited_all up g m n h i k rank qs never tr ready done over = record {
  events = after.events;
  run = after.run;
  agrees = λ r. go r (cases_eq r rank);
  gave = λ key member b e. gave_grows g k (put k rank (resting (k rank) qs)) key member
      (put_grows k rank (resting (k rank) qs) (resting_grows (k rank) qs)) (after.gave key member b e);
}
  where
    after : Tracks up g n (put h rank i) k
    after = completed up g rank qs h k m n (h rank) i never (own_put up g m h k rank tr) done

    own : Agrees (up rank) g n.state rank i (k rank)
    own = subst (λ (i : Holding). Agrees (up rank) g n.state rank i (k rank)) (put_same h rank i) (after.agrees rank)

    go : (r : ℕ) → (r ≡ rank) ⊎ (r ≡ rank → ⊥) → Agrees (up r) g n.state r (put h rank i r) (put k rank (resting (k rank) qs) r)
    go r (inl e) = subst (λ (r : ℕ). Agrees (up r) g n.state r (put h rank i r) (put k rank (resting (k rank) qs) r)) (sym e)
        (own_held (up rank) g n.state rank h i (put k rank (resting (k rank) qs) rank) (own_sketched (up rank) g n.state rank k i (resting (k rank) qs)
        (agrees_rests (up rank) g n.state rank i (k rank) qs (waited_inactive g rank qs m n (h rank) i ready done over) own)))
    go r (inr d) = other_sketched (up r) g n.state r rank k (put h rank i r) (resting (k rank) qs) d (after.agrees r)

pub carried : (up : ℕ → ℕ → ℕ → Type 0) (g : Setting) (m : Machine) (h : ℕ → Holding) (k : ℕ → Sketch) (rank : ℕ)
    → ((q : ℕ) → up rank q 0 → ⊥) → NeverDone up g m k → Tracks up g m h k
    → (c : Command) (n : Machine) (i : Holding) → Carries g rank m (h rank) c n i → Tracks up g n (put h rank i) (put k rank (sketched c (k rank)))
carried up g m h k rank none never tr _ _ _ (standings.post {n} comm sig given plan t e step) =
    subst (λ (sig : Signature). Tracks up g n (put h rank (one_more (h rank) t)) (put k rank (making (k rank) comm sig 1))) e
    (posted_step up g m n h k rank comm plan given t tr step)
carried up g m h k rank none never tr _ _ _ (standings.init {n} comm sig plan t e step) =
    subst (λ (sig : Signature). Tracks up g n (put h rank (one_more (h rank) t)) (put k rank (making (k rank) comm sig 0))) e
    (inited_step up g m n h k rank comm plan t none tr step)
carried up g m h k rank none never tr _ _ _ (standings.start {n} q given t held step) = started_step up g m n h k rank q given t tr held step
carried up g m h k rank none never tr _ _ _ (standings.free {n} q t held step) =
    subst (λ (k : ℕ → Sketch). Tracks up g n (put h rank (holding_at (h rank) q (kept n.state t))) k) (sym (put_own k rank))
    (freed_step up g m n h k rank q t tr held step)
carried up g m h k rank none never tr _ _ _ (standings.test {n} {i} q done nothing) = waited up g m n h i k rank (q ∷ []) never tr done
carried up g m h k rank none never tr _ _ _ (standings.wait {n} {i} q ready done over) = waited_all up g m n h i k rank (q ∷ []) never tr ready done over
carried up g m h k rank none never tr _ _ _ (standings.wait_all {n} {i} qs ready done over) = waited_all up g m n h i k rank qs never tr ready done over
carried up g m h k rank none never tr _ _ _ (standings.wait_some {n} {i} qs ready done nothing) = waited up g m n h i k rank qs never tr done
carried up g m h k rank none never tr _ _ _ (standings.wait_for_none qs idle) = tracks_named up g m (put h rank (h rank)) k rank qs (own_put up g m h k rank tr)
carried up g m h k rank none never tr _ _ _ (standings.wait_any {n} qs q comm place begin bytes t among held step) =
    tracks_named up g n (put h rank (holding_at (h rank) q (kept n.state t))) k rank qs
    (retired_step up g m n h (h rank) k rank q comm place begin bytes t never (own_put up g m h k rank tr) held step)

-- a request becomes Done
pub finished : (up : ℕ → ℕ → ℕ → Type 0) (g : Setting) (m n : Machine) (h : ℕ → Holding) (k : ℕ → Sketch) → Tracks up g m h k
    → MachineStep g m calls.Finish calls.Nothing n → Tracks up g n h k
finished up g m n h k tr step =
    let e = finish_is g m n step in
    record {
      events = tr.events ++ record { call = calls.Finish; reply = calls.Nothing } ∷ [];
      run = runs_push g opened m n tr.events calls.Finish calls.Nothing tr.run step;
      agrees = λ rank. subst (λ (s : State). Agrees (up rank) g s rank (h rank) (k rank)) (sym e) (tr.agrees rank);
      gave = λ key i b given. tr.gave key i b (ap (λ (s : State). s.given key i) (sym e) ∙ given);
    }
