-- A run that stalls has passed whatever ranks can pass, so where they can pass to their ends no run stalls.
use Rattle.std.proofs.Common.{◌≡◌, ℕ, zero, suc, ◌<◌, ◌≤◌, ◌⊎◌, inl, inr, Bool, true, false, not, ◌&&◌, ◌||◌, ltb, List, [], ◌∷◌, length, Option}
use Rattle.std.proofs.Common.{Some, None, refl, sym, ap, subst, ◌∙◌, arith, eq-eqb}
use Rattle.std.proofs.lemmas.Bool.{and_parts, not-true, false≢true, ltb-true}
use Rattle.std.proofs.lemmas.Option.{none-some, same_Some, slice_get_within}
use Rattle.std.specs.Prelude.{slice_get}
use Rattle.coll_kinds.specs.declared.signature.Signature.{Signature}
use Rattle.coll_kinds.specs.declared.ticket.Ticket.{Ticket}
use Rattle.coll_kinds.specs.Common.{member_of, is_among, needs, needs_of, put}
use Rattle.coll_kinds.proofs.Puts.{put_cases}
use Rattle.coll_machine.specs.Common.{Setting, group, size, Request, State, Machine, key_of, phased}
use Rattle.coll_machine.proofs.Held.{runs_are_posted}
use Rattle.coll_parser.specs.declared.command.Command.{Command}
use Rattle.coll_parser.specs.declared.command.Command.TheVariants.{Post, Init}
use Rattle.coll_verdict.specs.Standings.{Holding, Standing, beginning, carried_out, active_in, is_active, is_done, is_pending, NoneDone, Completes}
use Rattle.coll_verdict.specs.Standings.{Carries, Steps, Reaches, begins, goes_on, carries, finishes, AtEnd, Each}
use Rattle.coll_verdict.specs.Standings as standings
use Rattle.coll_parser.specs.Histories.{History}
use Rattle.coll_verdict.specs.Stalls.{lines_of, made_by, HasCome, Waits, HasAll, IsStalled, NeverStalls}
use Rattle.coll_verdict.specs.Stalls as stalls
use Rattle.coll_verdict.specs.Sketches.{Sketch, naming, resting, sketched, sketch_at}
use Rattle.coll_verdict.specs.Stands.{sketches}
use Rattle.coll_verdict.specs.Waiting.{Hearing, awaits, HasHeard, StepsBy, ReachesBy, IsStalledBy}
use Rattle.coll_verdict.specs.Waiting as waiting
use Rattle.coll_verdict.specs.Passes.{Rule, everyone, only, HasBegun, IsJoined, Awaits, IsFree, HasSure, CanPass, Passes}
use Rattle.coll_verdict.specs.Passes as passes
use Rattle.coll_verdict.specs.Laws.{PassesDontStall, PassesDontStallBy, AlwaysIsAlwaysBy, NeverIsNeverBy}
use Rattle.coll_verdict.proofs.Sketched.{Grows, naming_grows, resting_grows, sketch_grows, lt_le}
use Rattle.coll_verdict.proofs.Agreeing.{IsLive}
use Rattle.coll_verdict.proofs.Placing.{IsPlaced, sketch_placed, made_more}
use Rattle.coll_verdict.proofs.Tracking.{found_at, undone, Gave, gave_grows, Tracks, NeverDone, put_grows, put_own, own_put, carried, finished}
use Rattle.coll_verdict.proofs.Tracking.{finish_is, retired_step}
use Rattle.coll_verdict.proofs.Keeping.{Began, gave_of, whose, Over, Keeps, keeps_post, keeps_init, keeps_start, keeps_retire, keeps_free}
use Rattle.coll_verdict.proofs.Blocking.{one_more_sketched, finish_of}
use Rattle.coll_verdict.proofs.Sure.{AreSure, carried_sure, finished_sure}

-- nothing is known to be active
abbrev pub NoUp : ℕ → ℕ → ℕ → Type 0
NoUp rank q n = ⊥

pub never_up : (g : Setting) (from : Machine) (k : ℕ → Sketch) → NeverDone NoUp g from k
never_up g from k m f h tr rank q t held done up = up

-- ---- each command keeps what is kept

completed_keeps : (g : Setting) (rank : ℕ) (qs : List ℕ) (h : ℕ → Holding) (k : ℕ → Sketch) (m n : Machine) (x y : Holding)
    → Tracks NoUp g m (put h rank x) k → Keeps g m.state k → Completes g rank qs m x n y → Keeps g n.state k
completed_keeps g rank qs h k _ _ _ _ tr keeps standings.none = keeps
completed_keeps g rank qs h k _ _ _ _ tr keeps
    (standings.another {m = m} {n = mid} {last = n} {h = x} {i = y} q comm place begin bytes t among held step more) =
    completed_keeps g rank qs h k mid n _ y
    (retired_step NoUp g m mid h x k rank q comm place begin bytes t (never_up g m k) tr held step)
    (keeps_retire NoUp g m mid (put h rank x) k rank comm place begin bytes t tr keeps step) more

waited_keeps : (g : Setting) (m n : Machine) (h : ℕ → Holding) (i : Holding) (k : ℕ → Sketch) (rank : ℕ) (qs : List ℕ)
    → Tracks NoUp g m h k → Keeps g m.state k → Completes g rank qs m (h rank) n i → Keeps g n.state k
waited_keeps g m n h i k rank qs tr keeps done = completed_keeps g rank qs h k m n (h rank) i (own_put NoUp g m h k rank tr) keeps done

-- that a call has named requests changes nothing of it
keeps_named : (g : Setting) (s : State) (k : ℕ → Sketch) (rank : ℕ) (qs : List ℕ) → Keeps g s k → Keeps g s (put k rank (naming (k rank) qs))
keeps_named g s k rank qs keeps key i v none = go (whose g k rank (naming (k rank) qs) key i v)
  where
    over : Gave g k key i → Over g s (put k rank (naming (k rank) qs)) key
    over v =
        let o = keeps key i v none in
        record {
          all =
              λ j low. gave_grows g k (put k rank (naming (k rank) qs)) key j
              (put_grows k rank (naming (k rank) qs) (naming_grows (k rank) qs)) (o.all j low);
          left = o.left;
        }

    go : Gave g k key i ⊎ ((member_of rank (group g key.comm) ≡ Some i) × Began (naming (k rank) qs) key) → Over g s (put k rank (naming (k rank) qs)) key
    go (inl v) = over v
    go (inr b) = over (gave_of g k key i rank b.0 (record { q = b.1.q; low = b.1.low; comm_is = b.1.comm_is; place_is = b.1.place_is; begun = b.1.begun }))

-- nor that they have been waited for
keeps_rested : (g : Setting) (s : State) (k : ℕ → Sketch) (rank : ℕ) (qs : List ℕ) → Keeps g s k → Keeps g s (put k rank (resting (k rank) qs))
keeps_rested g s k rank qs keeps key i v none = go (whose g k rank (resting (k rank) qs) key i v)
  where
    over : Gave g k key i → Over g s (put k rank (resting (k rank) qs)) key
    over v =
        let o = keeps key i v none in
        record {
          all =
              λ j low. gave_grows g k (put k rank (resting (k rank) qs)) key j
              (put_grows k rank (resting (k rank) qs) (resting_grows (k rank) qs)) (o.all j low);
          left = o.left;
        }

    go : Gave g k key i ⊎ ((member_of rank (group g key.comm) ≡ Some i) × Began (resting (k rank) qs) key) → Over g s (put k rank (resting (k rank) qs)) key
    go (inl v) = over v
    go (inr b) = over (gave_of g k key i rank b.0 (record { q = b.1.q; low = b.1.low; comm_is = b.1.comm_is; place_is = b.1.place_is; begun = b.1.begun }))

same_keeps : (g : Setting) (s : State) (k : ℕ → Sketch) (rank : ℕ) → Keeps g s k → Keeps g s (put k rank (k rank))
same_keeps g s k rank keeps = subst (λ (k : ℕ → Sketch). Keeps g s k) (sym (put_own k rank)) keeps

carried_keeps : (g : Setting) (m : Machine) (h : ℕ → Holding) (k : ℕ → Sketch) (rank : ℕ) → IsPlaced (k rank) → Tracks NoUp g m h k → Keeps g m.state k
    → (c : Command) (n : Machine) (i : Holding) → Carries g rank m (h rank) c n i → Keeps g n.state (put k rank (sketched c (k rank)))
carried_keeps g m h k rank placed tr keeps _ _ _ (standings.post {n} comm sig given plan t e step) =
    subst (λ (sig : Signature). Keeps g n.state (put k rank (sketched (Post comm sig given) (k rank)))) e
    (keeps_post NoUp g m n h k rank comm plan given t tr placed keeps step)
carried_keeps g m h k rank placed tr keeps _ _ _ (standings.init {n} comm sig plan t e step) =
    subst (λ (sig : Signature). Keeps g n.state (put k rank (sketched (Init comm sig) (k rank)))) e
    (keeps_init NoUp g m n h k rank comm plan t tr placed keeps step)
carried_keeps g m h k rank placed tr keeps _ _ _ (standings.start {n} q given t held step) = keeps_start NoUp g m n h k rank q given t tr placed keeps held step
carried_keeps g m h k rank placed tr keeps _ _ _ (standings.free {n} q t held step) = same_keeps g n.state k rank (keeps_free g m n k rank t keeps step)
carried_keeps g m h k rank placed tr keeps _ _ _ (standings.test {n} {i} q done over) =
    keeps_named g n.state k rank (q ∷ []) (waited_keeps g m n h i k rank (q ∷ []) tr keeps done)
carried_keeps g m h k rank placed tr keeps _ _ _ (standings.wait {n} {i} q ready done over) =
    keeps_rested g n.state k rank (q ∷ []) (waited_keeps g m n h i k rank (q ∷ []) tr keeps done)
carried_keeps g m h k rank placed tr keeps _ _ _ (standings.wait_all {n} {i} qs ready done over) =
    keeps_rested g n.state k rank qs (waited_keeps g m n h i k rank qs tr keeps done)
carried_keeps g m h k rank placed tr keeps _ _ _ (standings.wait_some {n} {i} qs ready done over) =
    keeps_named g n.state k rank qs (waited_keeps g m n h i k rank qs tr keeps done)
carried_keeps g m h k rank placed tr keeps _ _ _ (standings.wait_for_none qs idle) = keeps_named g m.state k rank qs keeps
carried_keeps g m h k rank placed tr keeps _ _ _ (standings.wait_any {n} qs q comm place begin bytes t among held step) =
    keeps_named g n.state k rank qs (keeps_retire NoUp g m n h k rank comm place begin bytes t tr keeps step)

-- ---- runs

pub record IsRun (g : Setting) (lines : ℕ → List Command) (s : Standing) : Type 0 where
  pub tracks : Tracks NoUp g s.machine s.holds (sketches lines s.at)
  pub keeps : Keeps g s.machine.state (sketches lines s.at)
  pub sure : AreSure s.machine s.holds (sketches lines s.at)
  pub most : (rank : ℕ) → s.at rank ≤ length (lines rank)

up_to : (a b c d : ℕ) → d ≡ suc a → a < b → b ≡ c → d ≤ c
up_to a b c d x l y = omega arith

le_at : (a b c : ℕ) → b ≡ a → a ≤ c → b ≤ c
le_at a b c e l = omega arith

module _ (g : Setting) (lines : ℕ → List Command) where
  run_carries : (s : Standing) (rank : ℕ) (c : Command) (n : Machine) (i : Holding) → IsRun g lines s
      → slice_get (lines rank) (s.at rank) ≡ Some c → Carries g rank s.machine (s.holds rank) c n i → IsRun g lines (carried_out s rank n i)
  run_carries s rank c n i w get step = record {
    tracks = subst (λ (k : ℕ → Sketch). Tracks NoUp g n (put s.holds rank i) k) (one_more_sketched lines s.at rank c get)
        (carried NoUp g s.machine s.holds (sketches lines s.at) rank (λ q x. x) (never_up g s.machine (sketches lines s.at)) w.tracks c n i step);
    keeps = subst (λ (k : ℕ → Sketch). Keeps g n.state k) (one_more_sketched lines s.at rank c get)
        (carried_keeps g s.machine s.holds (sketches lines s.at) rank (sketch_placed (lines rank) (s.at rank)) w.tracks w.keeps c n i step);
    sure = subst (λ (k : ℕ → Sketch). AreSure n (put s.holds rank i) k) (one_more_sketched lines s.at rank c get)
        (carried_sure NoUp g s.machine s.holds (sketches lines s.at) rank (never_up g s.machine (sketches lines s.at)) w.tracks w.sure c n i step);
    most = λ r. go r (put_cases s.at rank (suc (s.at rank)) r);
  }
    where
      go : (r : ℕ) → ((r ≡ rank) × (put s.at rank (suc (s.at rank)) r ≡ suc (s.at rank)))
          ⊎ ((r ≡ rank → ⊥) × (put s.at rank (suc (s.at rank)) r ≡ s.at r)) → put s.at rank (suc (s.at rank)) r ≤ length (lines r)
      go r (inl a) =
          up_to (s.at rank) (length (lines rank)) (length (lines r)) (put s.at rank (suc (s.at rank)) r) a.1
          (slice_get_within (lines rank) (s.at rank) c get) (ap (λ (r : ℕ). length (lines r)) (sym a.0))
      go r (inr a) = le_at (s.at r) (put s.at rank (suc (s.at rank)) r) (length (lines r)) a.1 (w.most r)

  run_step : (s u : Standing) → IsRun g lines s → Steps g lines s u → IsRun g lines u
  run_step s _ w (carries {n} {i} rank c get step) = run_carries s rank c n i w get step
  run_step s _ w (finishes {n} step) = record {
    tracks = finished NoUp g s.machine n s.holds (sketches lines s.at) w.tracks step;
    keeps = subst (λ (t : State). Keeps g t (sketches lines s.at)) (sym (finish_is g s.machine n step)) w.keeps;
    sure = finished_sure g s.machine n s.holds (sketches lines s.at) w.sure step;
    most = w.most;
  }

  run_begins : IsRun g lines beginning
  run_begins = record {
    tracks = record {
      events = [];
      run = refl;
      agrees = λ rank. record {
        made = refl;
        idle = λ q e up. up;
        live = λ q t e. absurd (none-some t e);
        apart = λ p q t u e f z. absurd (none-some t e);
        posted = λ comm member is. refl;
      };
      gave = λ key member bytes e. absurd (none-some bytes e);
    };
    keeps = λ key member v none. absurd (low v.q v.low);
    sure = λ rank q s. absurd (low 0 s.begun);
    most = λ rank. omega arith;
  }
    where
      low : (q : ℕ) → q < 0 → ⊥
      low q l = absurd (omega arith)

  pub run_of : (s : Standing) → Reaches g lines s → IsRun g lines s
  run_of _ begins = run_begins
  run_of _ (goes_on {s} {u} r step) = run_step s u (run_of s r) step

-- ---- a run that stalls

pred_of : (n : ℕ) → 0 < n → (p : ℕ) × (suc p ≡ n)
pred_of zero l = absurd (omega arith)
pred_of (suc n) l = (n, refl)

lt_zero : (n : ℕ) → 0 < n → n ≡ 0 → ⊥
lt_zero n l e = absurd (omega arith)

begun_so : (start n starts mine theirs last : ℕ) → suc start ≡ n → n ≡ starts → starts ≡ mine → mine ≤ theirs → theirs ≤ last → start < last
begun_so start n starts mine theirs last a b c d e = omega arith

one_later : (a b : ℕ) → a ≤ b → suc a ≤ suc b
one_later a b low = omega arith

come_later : (p q a b : ℕ) → p ≡ q → q < a → a ≤ b → p < b
come_later p q a b e low more = omega arith

-- what is used of a stall: by the rule what has heard is Done
pub record Stays (rule : Rule) (g : Setting) (lines : ℕ → List Command) (s : Standing) : Type 0 where
  pub waits : (rank : ℕ) (c : Command) → slice_get (lines rank) (s.at rank) ≡ Some c → Waits g lines s rank c
  pub returns : (rank comm : ℕ) (sig : Signature) → slice_get (lines rank) (s.at rank) ≡ Some (Init comm sig) → rule.holds ≡ true
  pub settled : (slot start : ℕ) (q : Request) (sig : Signature) → s.machine.state.request slot ≡ Some q
      → HasHeard rule.hears g s.machine.state q start sig → s.machine.done slot ≡ true

or_left : (a b : Bool) → a ≡ true → (a || b) ≡ true
or_left true b e = refl
or_left false b e = absurd (false≢true e)

or_right : (a b : Bool) → b ≡ true → (a || b) ≡ true
or_right true b e = refl
or_right false b e = e

module _ (rule : Rule) (g : Setting) (lines : ℕ → List Command) (s : Standing) (w : IsRun g lines s) (st : Stays rule g lines s)
    (at : ℕ → ℕ) (before : (r : ℕ) → at r ≤ s.at r) (rank : ℕ) (same : at rank ≡ s.at rank) where
  there : sketches lines at rank ≡ sketches lines s.at rank
  there = ap (sketch_at (lines rank)) same

  grows : (r : ℕ) → Grows (sketches lines at r) (sketches lines s.at r)
  grows r = sketch_grows (lines r) (at r) (s.at r) (before r)

  -- a request that is free isn't active without being Done
  free_ends : (q : ℕ) (t : Ticket) (request : Request)
      → IsLive (NoUp rank) s.machine.state rank (sketches lines s.at rank) q t request → request.active ≡ true
      → s.machine.done t.slot ≡ false → IsFree rule.hears g (sketches lines at) rank q → ⊥
  free_ends q t request l act undone (inl (inl none)) =
      lt_zero request.starts (l.begun act) (l.starts_is ∙ (sym (ap (λ (k : Sketch). k.starts q) there) ∙ none))
  free_ends q t request l act undone (inl (inr rested)) = false≢true (sym (l.rested (sym (ap (λ (k : Sketch). k.rested q) there) ∙ rested)) ∙ act)
  free_ends q t request l act undone (inr joined) = false≢true (sym undone ∙ st.settled t.slot last.0 request l.sig l.is heard)
    where
      last : (p : ℕ) × (suc p ≡ request.starts)
      last = pred_of request.starts (l.begun act)

      comm_is : request.comm ≡ (sketches lines at rank).comm q
      comm_is = l.comm_is ∙ sym (ap (λ (k : Sketch). k.comm q) there)

      place_is : request.place ≡ (sketches lines at rank).place q
      place_is = l.place_is ∙ sym (ap (λ (k : Sketch). k.place q) there)

      came : (i : ℕ) → IsJoined g (sketches lines at) rank q i → Gave g (sketches lines s.at) (key_of request last.0) i
      came i j = record {
        rank = j.peer;
        member_is = ap (λ (c : ℕ). member_of j.peer (group g c)) comm_is ∙ j.member_is;
        q = j.begun.p;
        low = lt_le j.begun.p (sketches lines at j.peer).made (sketches lines s.at j.peer).made j.begun.low (grows j.peer).made;
        comm_is = (grows j.peer).comm j.begun.p j.begun.low ∙ (j.begun.comm_is ∙ sym comm_is);
        place_is = (grows j.peer).place j.begun.p j.begun.low ∙ (j.begun.place_is ∙ sym place_is);
        begun = begun_so last.0 request.starts ((sketches lines s.at rank).starts q) ((sketches lines at rank).starts q)
            ((sketches lines at j.peer).starts j.begun.p) ((sketches lines s.at j.peer).starts j.begun.p)
            last.1 l.starts_is (sym (ap (λ (k : Sketch). k.starts q) there)) j.begun.begun ((grows j.peer).starts j.begun.p j.begun.low);
      }

      member_is : member_of rank (group g ((sketches lines at rank).comm q)) ≡ Some request.member
      member_is =
          let p = (runs_are_posted g w.tracks.events s.machine w.tracks.run).posted t.slot request l.is in
          let seat : member_of request.rank (group g request.comm) ≡ member_of rank (group g ((sketches lines at rank).comm q)) =
          λ z. member_of (l.rank_is z) (group g (comm_is z)) in
          sym seat ∙ p.member_is

      awaited : (i : ℕ) → awaits rule.hears l.sig (size g request.comm) request.member i ≡ true → Awaits rule.hears g (sketches lines at) rank q i
      awaited i e sig member sig_is own =
          let same_sig : sig ≡ l.sig = same_Some sig l.sig (sym sig_is ∙ (ap (λ (k : Sketch). k.sig q) there ∙ l.sketched)) in
          let same_member : member ≡ request.member = same_Some member request.member (sym own ∙ member_is) in
          let so : awaits rule.hears sig (size g ((sketches lines at rank).comm q)) member i ≡ awaits rule.hears l.sig (size g request.comm) request.member i =
          λ z. awaits rule.hears (same_sig z) (size g (sym comm_is z)) (same_member z) i in
          so ∙ e

      given : (i : ℕ) → i < size g request.comm → awaits rule.hears l.sig (size g request.comm) request.member i ≡ true
          → s.machine.state.given (key_of request last.0) i ≡ None → ⊥
      given i low e none =
          (w.keeps (key_of request last.0) i (came i (joined i (subst (λ (c : ℕ). i < size g c) comm_is low) (awaited i e))) none).left
          t.slot request last.0 l.is act last.1 refl

      heard : HasHeard rule.hears g s.machine.state request last.0 l.sig
      heard = record {
        ready = record {
          active = act;
          start_is = last.1;
          sig_is = l.sig_is;
          needed = λ i need none. given i (within i need)
              (or_left (needs l.sig (size g request.comm) request.member i) (rule.hears l.sig (size g request.comm) request.member i) need) none;
        };
        heard = λ i low hears none. given i low
            (or_right (needs l.sig (size g request.comm) request.member i) (rule.hears l.sig (size g request.comm) request.member i) hears) none;
      }
        where
          within : (i : ℕ) → needs l.sig (size g request.comm) request.member i ≡ true → i < size g request.comm
          within i need = ltb-true i (size g request.comm) (and_parts (ltb i (size g request.comm)) (needs_of l.sig.kind l.sig.root request.member i) need).0

  -- so no call that names free requests alone waits
  active_ends : (q : ℕ) → is_active s.machine ((s.holds rank).of q) ≡ true → is_done s.machine ((s.holds rank).of q) ≡ false
      → IsFree rule.hears g (sketches lines at) rank q → ⊥
  active_ends q act over free = go ((s.holds rank).of q) refl
    where
      go : (o : Option Ticket) → (s.holds rank).of q ≡ o → ⊥
      go None e = false≢true (ap (is_active s.machine) (sym e) ∙ act)
      go (Some t) e =
          let l = (w.tracks.agrees rank).live q t e in
          let active : is_active s.machine (Some t) ≡ true = ap (is_active s.machine) (sym e) ∙ act in
          let request_active : l.0.active ≡ true = sym (ap active_in (found_at s.machine.state t l.0 l.1.current l.1.is)) ∙ active in
          free_ends q t l.0 l.1 request_active
          (undone (is_active s.machine (Some t)) (s.machine.done t.slot) active (ap (is_done s.machine) (sym e) ∙ over)) free

  pending_ends : (q : ℕ) → is_pending s.machine ((s.holds rank).of q) ≡ true → IsFree rule.hears g (sketches lines at) rank q → ⊥
  pending_ends q pending free = go ((s.holds rank).of q) refl
    where
      go : (o : Option Ticket) → (s.holds rank).of q ≡ o → ⊥
      go None e = false≢true (ap (is_pending s.machine) (sym e) ∙ pending)
      go (Some t) e =
          let parts = and_parts (is_active s.machine (Some t)) (not (s.machine.done t.slot)) (ap (is_pending s.machine) (sym e) ∙ pending) in
          let idle : s.machine.done t.slot ≡ false = not-true (s.machine.done t.slot) parts.1 in
          let over : is_done s.machine (Some t) ≡ false = both_false (is_active s.machine (Some t)) (s.machine.done t.slot) idle in
          active_ends q (ap (is_active s.machine) e ∙ parts.0) (ap (is_done s.machine) e ∙ over) free
        where
          both_false : (a b : Bool) → b ≡ false → (a && b) ≡ false
          both_false true b e = e
          both_false false b e = refl

  among_one : (q : ℕ) → is_among q (q ∷ []) ≡ true
  among_one q = rw (eq-eqb q q refl) refl

  -- nor one that names a request which is active, and to which all members have come
  some_goes : (qs : List ℕ) (q : ℕ) → is_among q qs ≡ true → is_active s.machine ((s.holds rank).of q) ≡ true
      → NoneDone s.machine (s.holds rank) qs → Each qs (IsFree rule.hears g (sketches lines at) rank) ⊎ HasSure rule.hears g (sketches lines at) rank qs → ⊥
  some_goes qs q among active over (inl free) = active_ends q active (over q among) (free q among)
  some_goes qs q among active over (inr one) =
      active_ends one.q (w.sure rank one.q (record {
        begun = subst (λ (k : Sketch). 0 < k.starts one.q) there one.sure.begun;
        unnamed =
            sym (ap (λ (k : Sketch). k.named one.q) there) ∙ one.sure.unnamed;
      }))
      (over one.q one.among) (inr one.joined)

  -- a member that has come has come
  come : (comm peer : ℕ) → HasCome lines at peer comm (made_by comm (lines rank) (at rank))
      → HasCome lines s.at peer comm (made_by comm (lines rank) (s.at rank))
  come comm peer h =
      come_later (made_by comm (lines rank) (s.at rank)) (made_by comm (lines rank) (at rank))
      (made_by comm (lines peer) (suc (at peer))) (made_by comm (lines peer) (suc (s.at peer)))
      (ap (made_by comm (lines rank)) (sym same)) h
      (made_more comm (lines peer) (suc (at peer)) (suc (s.at peer)) (one_later (at peer) (s.at peer) (before peer)))

  goes : (c : Command) → slice_get (lines rank) (s.at rank) ≡ Some c → Waits g lines s rank c → CanPass rule g lines at rank c → ⊥
  goes _ get (stalls.wait q pending) can = pending_ends q pending (can q (among_one q))
  goes _ get (stalls.wait_all qs q among pending) can = pending_ends q pending (can q among)
  goes _ get (stalls.wait_some qs q among active over) can = some_goes qs q among active over can
  goes _ get (stalls.wait_any qs q among active over) can = some_goes qs q among active over can
  goes _ get (stalls.init comm sig peer member is far) can = far (come comm peer (can (st.returns rank comm sig get) peer member is))

less : (a b : ℕ) → a ≤ b → (a ≡ b → ⊥) → a < b
less a b l d = omega arith

-- it has passed whatever ranks can pass
pub passed_by : (rule : Rule) (g : Setting) (lines : ℕ → List Command) (s : Standing) → IsRun g lines s → Stays rule g lines s
    → (at : ℕ → ℕ) → Passes rule g lines at → (r : ℕ) → at r ≤ s.at r
passed_by rule g lines s w st _ passes.none = λ r. omega arith
passed_by rule g lines s w st _ (passes.one_more {at} rank c before get can) =
    let earlier : (r : ℕ) → at r ≤ s.at r = passed_by rule g lines s w st at before in
    λ r. step earlier r (put_cases at rank (suc (at rank)) r)
  where
    beyond : ((r : ℕ) → at r ≤ s.at r) → at rank < s.at rank
    beyond earlier =
        less (at rank) (s.at rank) (earlier rank)
        (λ e. (let next : slice_get (lines rank) (s.at rank) ≡ Some c =
        ap (slice_get (lines rank)) (sym e) ∙ get in goes rule g lines s w st at earlier rank e c next (st.waits rank c next) can))

    step : ((r : ℕ) → at r ≤ s.at r) → (r : ℕ)
        → ((r ≡ rank) × (put at rank (suc (at rank)) r ≡ suc (at rank))) ⊎ ((r ≡ rank → ⊥) × (put at rank (suc (at rank)) r ≡ at r))
        → put at rank (suc (at rank)) r ≤ s.at r
    step earlier r (inl a) = up_to (at rank) (s.at rank) (s.at r) (put at rank (suc (at rank)) r) a.1 (beyond earlier) (ap s.at (sym a.0))
    step earlier r (inr a) = le_at (at r) (put at rank (suc (at rank)) r) (s.at r) a.1 (earlier r)

both_ways : (a b c : ℕ) → a ≡ c → a ≤ b → b ≤ c → b ≡ c
both_ways a b c e l m = omega arith

module _ (rule : Rule) (g : Setting) (lines : ℕ → List Command) (at : ℕ → ℕ) (passed : Passes rule g lines at)
    (ends : (rank : ℕ) → at rank ≡ length (lines rank)) where
  all_end : (s : Standing) → Reaches g lines s → Stays rule g lines s → AtEnd lines s
  all_end s r st rank =
      let w = run_of g lines s r in
      both_ways (at rank) (s.at rank) (length (lines rank)) (ends rank) (passed_by rule g lines s w st at passed rank) (w.most rank)

pub passes_dont_stall : PassesDontStall
passes_dont_stall g lines at passed ends s r st = st.early (all_end everyone g lines at passed ends s r (record {
  waits = st.waits;
  returns = λ rank comm sig get. refl;
  settled = λ slot start q sig is has. st.settled slot
      (record { request = q; start = start; is = is; active = has.ready.active; last = has.ready.start_is; given = λ i low. has.heard i low refl });
}))

-- ---- each library's runs are some library's

step_is : (hears : Hearing) (g : Setting) (lines : ℕ → List Command) (s u : Standing) → StepsBy hears g lines s u → Steps g lines s u
step_is hears g lines s _ (waiting.carries {n} {i} rank c get step) = carries rank c get step
step_is hears g lines s _ (waiting.finishes slot start q sig is pending has) = finishes (finish_of g s.machine slot start q sig is pending has.ready)

pub reaches_is : (hears : Hearing) (g : Setting) (lines : ℕ → List Command) (s : Standing) → ReachesBy hears g lines s → Reaches g lines s
reaches_is hears g lines _ waiting.begins = begins
reaches_is hears g lines _ (waiting.goes_on {s} {u} r step) = goes_on (reaches_is hears g lines s r) (step_is hears g lines s u step)

pub passes_dont_stall_by : PassesDontStallBy
passes_dont_stall_by hears g lines at passed ends s r st =
    st.early (all_end (only hears) g lines at passed ends s (reaches_is hears g lines s r)
    (record { waits = st.waits; returns = λ rank comm sig get. absurd (st.returns rank comm sig get); settled = st.settled }))

pub always_is_always_by : AlwaysIsAlwaysBy
always_is_always_by hears h always g same s r = always.stalls g same s (reaches_is hears g (lines_of h) s r)

-- what all have given to has heard
pub stalled_is : (hears : Hearing) (g : Setting) (lines : ℕ → List Command) (s : Standing) → Reaches g lines s
    → IsStalledBy hears g lines s → IsStalled g lines s
stalled_is hears g lines s r st = record {
  waits = st.waits;
  settled = λ slot has. (
      let tracks = (run_of g lines s r).tracks in
      let posted = (runs_are_posted g tracks.events s.machine tracks.run).posted slot has.request has.is in
      st.settled slot has.start has.request posted.sig has.is (record {
        ready = record {
          active = has.active;
          start_is = has.last;
          sig_is = posted.sig_is;
          needed = λ m need. has.given m
              (ltb-true m (size g has.request.comm)
              (and_parts (ltb m (size g has.request.comm)) (needs_of posted.sig.kind posted.sig.root has.request.member m) need).0);
        };
        heard = λ p low e. has.given p low;
      }));
  early = st.early;
}

pub never_is_never_by : NeverIsNeverBy
never_is_never_by hears h never g same s r st = let reached =
    reaches_is hears g (lines_of h) s r in never g same s reached (stalled_is hears g (lines_of h) s reached st)
