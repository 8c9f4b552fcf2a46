-- A run that can't go on, though no next call is refused, has stalled or is at its end.
use Rattle.std.proofs.Common.{◌≡◌, ℕ, zero, suc, ◌+◌, ◌<◌, ◌⊎◌, inl, inr, Bool, true, false, eqb, ltb, ◌&&◌, ◌||◌, List, [], ◌∷◌, length, Option}
use Rattle.std.proofs.Common.{Some, None, refl, sym, ap, subst, ◌∙◌, arith, eqb-true, eq-eqb}
use Rattle.std.proofs.lemmas.Bool.{cases_eq, and_parts, false≢true, ltb-true}
use Rattle.std.proofs.lemmas.Option.{none-some, same_Some}
use Rattle.std.specs.Prelude.{slice_get, is_some, is_none}
use Rattle.std.specs.List.{list_any, range_with_len}
use Rattle.coll_kinds.specs.declared.signature.Signature.{Signature}
use Rattle.coll_kinds.specs.declared.ticket.Ticket.{Ticket}
use Rattle.coll_kinds.specs.declared.refusal.Refusal.TheVariants.{NotMember, NotYours, Full}
use Rattle.coll_kinds.specs.Common.{member_of, is_among, needs, needs_of, put}
use Rattle.coll_kinds.proofs.Puts.{put_same}
use Rattle.coll_machine.specs.Common.{Setting, group, size, Request, State, Machine, found, key_of, rested, holding, forgotten, Planned, unless}
use Rattle.coll_machine.specs.Common.{first_of, naming_refusals, refusals, refusal, IsNew, Clears, MachineStep, phased}
use Rattle.coll_machine.specs.Calls as calls
use Rattle.coll_machine.specs.Refusals.{full}
use Rattle.coll_machine.specs.Machines as machine
use Rattle.coll_machine.specs.Laws.{IsHeld}
use Rattle.coll_machine.proofs.Accepted.{all_none, fits}
use Rattle.coll_machine.proofs.Held.{done_is_held, runs_are_posted}
use Rattle.coll_parser.specs.declared.command.Command.{Command}
use Rattle.coll_parser.specs.declared.command.Command.TheVariants.{Post, Init, Start, Wait, Test, Free, WaitAny, WaitSome, WaitAll}
use Rattle.coll_parser.specs.Histories.{History}
use Rattle.coll_verdict.specs.Standings.{Holding, Standing, holding_at, kept, is_active, is_done, is_pending, NoneActive, NonePending, NoneDone}
use Rattle.coll_verdict.specs.Standings.{Completes, Carries, Reaches, carried_out, Each}
use Rattle.coll_verdict.specs.Standings as standings
use Rattle.coll_verdict.specs.Stalls.{lines_of, Waits, HasAll}
use Rattle.coll_verdict.specs.Stalls as stalls
use Rattle.coll_verdict.specs.Sketches.{Sketch}
use Rattle.coll_verdict.specs.Stands.{sketches}
use Rattle.coll_verdict.specs.Lasts.{IsLast, IsAccepted, LastIsStalled, StallsAtLast, EndsAtLast}
use Rattle.coll_verdict.proofs.Listed.{any_among}
use Rattle.coll_verdict.proofs.Agreeing.{IsLive}
use Rattle.coll_verdict.proofs.Tracking.{found_at, Tracks, own_put, retired_step, retire_done, was_active_step}
use Rattle.coll_verdict.proofs.Passing.{NoUp, never_up, run_of}

-- ---- tests

is_false : (b : Bool) → (b ≡ true → ⊥) → b ≡ false
is_false true d = absurd (d refl)
is_false false d = refl

both_true : (a b : Bool) → a ≡ true → b ≡ true → (a && b) ≡ true
both_true true b x e = e
both_true false b x e = x

either : (b : Bool) → (b ≡ true) ⊎ (b ≡ false)
either true = inl refl
either false = inr refl

some_of : {X : Type 0} (o : Option X) → is_some o ≡ true → (x : X) × (o ≡ Some x)
some_of None e = absurd (false≢true e)
some_of (Some x) e = (x, refl)

none_of : {X : Type 0} (o : Option X) → is_none o ≡ true → o ≡ None
none_of None e = refl
none_of (Some x) e = absurd (false≢true e)

any_below : (f : ℕ → Bool) (a n : ℕ) → list_any f (range_with_len a n) ≡ true → (x : ℕ) × (x < a + n) × (f x ≡ true)
any_below f a zero e = absurd (false≢true e)
any_below f a (suc n) e = go (λ e. any_below f (a + 1) n e) (f a) refl e
  where
    go : (list_any f (range_with_len (a + 1) n) ≡ true → (x : ℕ) × (x < (a + 1) + n) × (f x ≡ true)) → (b : Bool) → f a ≡ b
        → (b || list_any f (range_with_len (a + 1) n)) ≡ true → (x : ℕ) × (x < a + suc n) × (f x ≡ true)
    go rest true is e = (a, omega arith, is)
    go rest false is e = let r = rest e in (r.0, omega arith, r.2)

left_or : (a b : Bool) → (a || b) ≡ false → a ≡ false
left_or true b e = e
left_or false b e = refl

right_or : (a b : Bool) → (a || b) ≡ false → b ≡ false
right_or true b e = absurd (false≢true (sym e))
right_or false b e = e

-- where a test holds of none of a list, it doesn't of one among them
none_among : (f : ℕ → Bool) (qs : List ℕ) → list_any f qs ≡ false → (q : ℕ) → is_among q qs ≡ true → f q ≡ false
none_among f [] e q among = absurd (false≢true among)
none_among f (p ∷ qs) e q among = go (λ a. none_among f qs (right_or (f p) (list_any f qs) e) q a) (eqb p q) refl among
  where
    go : (is_among q qs ≡ true → f q ≡ false) → (b : Bool) → eqb p q ≡ b → (b || is_among q qs) ≡ true → f q ≡ false
    go rest true is a = ap f (sym (eqb-true p q is)) ∙ left_or (f p) (list_any f qs) e
    go rest false is a = rest a

some_or_none : (f : ℕ → Bool) (qs : List ℕ) → ((q : ℕ) × (is_among q qs ≡ true) × (f q ≡ true)) ⊎ ((q : ℕ) → is_among q qs ≡ true → f q ≡ false)
some_or_none f qs = go (list_any f qs) refl
  where
    go : (b : Bool) → list_any f qs ≡ b → ((q : ℕ) × (is_among q qs ≡ true) × (f q ≡ true)) ⊎ ((q : ℕ) → is_among q qs ≡ true → f q ≡ false)
    go true e = inl (any_among f qs e)
    go false e = inr (none_among f qs e)

among_first : (q : ℕ) (qs : List ℕ) → is_among q (q ∷ qs) ≡ true
among_first q qs = ap (λ (b : Bool). b || is_among q qs) (eq-eqb q q refl)

among_rest : (p q : ℕ) (qs : List ℕ) → is_among q qs ≡ true → is_among q (p ∷ qs) ≡ true
among_rest p q qs among = go (eqb p q)
  where
    go : (b : Bool) → (b || is_among q qs) ≡ true
    go true = refl
    go false = among

-- what holds of the first, and of each of the rest, holds of each
among_either : (P : ℕ → Type 0) (p : ℕ) (qs : List ℕ) → P p → ((q : ℕ) → is_among q qs ≡ true → P q) → (q : ℕ) → is_among q (p ∷ qs) ≡ true → P q
among_either P p qs first rest q among = go (eqb p q) refl among
  where
    go : (b : Bool) → eqb p q ≡ b → (b || is_among q qs) ≡ true → P q
    go true is a = subst P (eqb-true p q is) first
    go false is a = rest q a

among_only : (P : ℕ → Type 0) (p : ℕ) → P p → (q : ℕ) → is_among q (p ∷ []) ≡ true → P q
among_only P p first = among_either P p [] first (λ q among. absurd (false≢true among))

-- a Done request is named by a ticket
record IsDone (m : Machine) (o : Option Ticket) : Type 0 where
  t : Ticket
  is : o ≡ Some t
  active : is_active m (Some t) ≡ true
  done : m.done t.slot ≡ true

done_is : (m : Machine) (o : Option Ticket) → is_done m o ≡ true → IsDone m o
done_is m None e = absurd (false≢true e)
done_is m (Some t) e =
    let parts = and_parts (is_active m (Some t)) (m.done t.slot) e in
    record { t = t; is = refl; active = parts.0; done = parts.1 }

-- ---- a Done request can be completed

accepted_retire : (g : Setting) (s : State) (rank : ℕ) (t : Ticket) (request : Request) → found s t ≡ Some request
    → request.rank ≡ rank → refusal g s (calls.Retire rank t) ≡ None
accepted_retire g s rank t request is mine =
    ap (λ (o : Option Request). first_of (naming_refusals o rank)) is
    ∙ ap (λ (b : Bool). first_of (None ∷ unless b NotYours ∷ [])) (eq-eqb request.rank rank mine)

module _ (g : Setting) (h : ℕ → Holding) (k : ℕ → Sketch) (rank : ℕ) where
  can_retire : (m : Machine) (x : Holding) (q : ℕ) (t : Ticket) → Tracks NoUp g m (put h rank x) k → x.of q ≡ Some t → m.done t.slot ≡ true
      → ((n : Machine) (comm place start : ℕ) (bytes : List ℕ) → MachineStep g m (calls.Retire rank t) (calls.Outcome rank comm place start bytes) n → ⊥) → ⊥
  can_retire m x q t tr held done never =
      clear (holding m.state t.slot (rested ready.request))
      (inr (λ over. clear (forgotten (holding m.state t.slot (rested ready.request)) (key_of ready.request ready.start)) (inl (over, refl)), refl))
    where
      ready : IsHeld g m.state t.slot
      ready = done_is_held g tr.events m tr.run t.slot done

      live : (request : Request) × IsLive (NoUp rank) m.state rank (k rank) q t request
      live = (tr.agrees rank).live q t (ap (λ (i : Holding). i.of q) (put_same h rank x) ∙ held)

      is : found m.state t ≡ Some ready.request
      is = found_at m.state t ready.request live.1.current ready.is

      mine : ready.request.rank ≡ rank
      mine = ap (λ (r : Request). r.rank) (same_Some ready.request live.0 (sym ready.is ∙ live.1.is)) ∙ live.1.rank_is

      clear : (u : State) → Clears g (holding m.state t.slot (rested ready.request)) (key_of ready.request ready.start) u → ⊥
      clear u leaves = never (phased u (put m.done t.slot false)) ready.request.comm ready.request.place ready.start _
          (machine.retire rank t ready.request.comm ready.request.place ready.start _ (record {
            request = ready.request;
            sig = ready.sig;
            accepted = accepted_retire g m.state rank t ready.request is mine;
            is = is;
            comm_is = refl;
            place_is = refl;
            ready = ready.ready;
            bytes_is = refl;
            leaves = leaves;
          }) done)

  -- what isn't Done before a completion isn't Done after it, nor is what it completed
  done_before : (m n : Machine) (x : Holding) (p q comm place start : ℕ) (bytes : List ℕ) (t : Ticket) → x.of q ≡ Some t
      → MachineStep g m (calls.Retire rank t) (calls.Outcome rank comm place start bytes) n
      → is_done n ((holding_at x q (kept n.state t)).of p) ≡ true → (is_done m (x.of p) ≡ true) × (p ≡ q → ⊥)
  done_before m n x p q comm place start bytes t held step e =
      let d = done_is n ((holding_at x q (kept n.state t)).of p) e in
      let was = was_active_step g rank comm place start bytes m n x q p t d.t step d.is d.active in (
        ap (is_done m) was.held
            ∙ both_true (is_active m (Some d.t)) (m.done d.t.slot) was.active (sym was.done ∙ d.done),
        λ same. over d.t d.done (was.held) same,
      )
    where
      over : (u : Ticket) → n.done u.slot ≡ true → x.of p ≡ Some u → p ≡ q → ⊥
      over u done is same =
          let ticket : u ≡ t = same_Some u t (sym is ∙ (ap x.of same ∙ held)) in
          false≢true (sym (ap (λ (f : ℕ → Bool). f t.slot) (retire_done g rank rank comm place start bytes t m n step) ∙ put_same m.done t.slot false)
          ∙ (ap (λ (v : Ticket). n.done v.slot) (sym ticket) ∙ done))

  -- it can't be that no completions leave none of the rest Done
  abbrev CanComplete : List ℕ → List ℕ → Type 0
  CanComplete all rest = (m : Machine) (x : Holding) → Tracks NoUp g m (put h rank x) k
      → ((n : Machine) (i : Holding) → Completes g rank all m x n i
      → ((q : ℕ) → is_done m (x.of q) ≡ false → is_done n (i.of q) ≡ false) → NoneDone n i rest → ⊥) → ⊥

  complete_first : (all rest : List ℕ) (q : ℕ) → is_among q all ≡ true → CanComplete all rest → CanComplete all (q ∷ rest)
  complete_first all rest q among later m x tr never = go (either (is_done m (x.of q)))
    where
      go : (is_done m (x.of q) ≡ true) ⊎ (is_done m (x.of q) ≡ false) → ⊥
      go (inr e) = later m x tr (λ n i done still over. never n i done still (among_either (λ p. is_done n (i.of p) ≡ false) q rest (still q e) over))
      go (inl e) =
          let d = done_is m (x.of q) e in
          can_retire m x q d.t tr d.is d.done (λ n comm place start bytes step.
          let after = retired_step NoUp g m n h x k rank q comm place start bytes d.t (never_up g m k) tr d.is step in
          later n (holding_at x q (kept n.state d.t)) after (λ last i done still over.
          never last i (standings.another q comm place start bytes d.t among d.is step done)
          (λ p f. still p (is_false (is_done n ((holding_at x q (kept n.state d.t)).of p))
          (λ t. false≢true (sym f ∙ (done_before m n x p q comm place start bytes d.t d.is step t).0))))
          (among_either (λ p. is_done last (i.of p) ≡ false) q rest
          (still q (is_false (is_done n ((holding_at x q (kept n.state d.t)).of q))
          (λ t. (done_before m n x q q comm place start bytes d.t d.is step t).1 refl))) over)))

  can_complete : (all rest : List ℕ) → ((q : ℕ) → is_among q rest ≡ true → is_among q all ≡ true) → CanComplete all rest
  can_complete all [] within = λ m x tr never. never m x standings.none (λ q e. e) (λ q among. absurd (false≢true among))
  can_complete all (q ∷ rest) within =
      complete_first all rest q (within q (among_first q rest)) (can_complete all rest (λ p among. within p (among_rest q p rest among)))

-- ---- accepted calls are steps

spare_slot : (g : Setting) (s : State) → full g s ≡ None → (t : Ticket) × IsNew g s t
spare_slot g s e =
    let any = any_below (λ slot. is_none (s.request slot) && ltb (s.generation slot) g.wear) 0 g.slots (fits _ Full e) in
    let parts = and_parts (is_none (s.request any.0)) (ltb (s.generation any.0) g.wear) any.2 in
    let low : any.0 < g.slots = omega (arith, any.1) in (
      record { slot = any.0; generation = suc (s.generation any.0) },
      record {
        low = low;
        spare = none_of (s.request any.0) parts.0;
        unworn = ltb-true (s.generation any.0) g.wear parts.1;
        next = refl;
      },
    )

-- ---- a run that can't go on

module _ (g : Setting) (lines : ℕ → List Command) (s : Standing) (reached : Reaches g lines s) (last : IsLast g lines s) where
  tracks : Tracks NoUp g s.machine s.holds (sketches lines s.at)
  tracks = (run_of g lines s reached).tracks

  no_carry : (rank : ℕ) (c : Command) → slice_get (lines rank) (s.at rank) ≡ Some c → (n : Machine) (i : Holding)
      → Carries g rank s.machine (s.holds rank) c n i → ⊥
  no_carry rank c get n i step = last (carried_out s rank n i) (standings.carries rank c get step)

  completes : (rank : ℕ) (qs : List ℕ) → ((n : Machine) (i : Holding) → Completes g rank qs s.machine (s.holds rank) n i → NoneDone n i qs → ⊥) → ⊥
  completes rank qs never =
      can_complete g s.holds (sketches lines s.at) rank qs qs (λ q among. among) s.machine (s.holds rank)
      (own_put NoUp g s.machine s.holds (sketches lines s.at) rank tracks) (λ n i done still over. never n i done over)

  no_post : (rank comm : ℕ) (sig : Signature) (given : List ℕ) → slice_get (lines rank) (s.at rank) ≡ Some (Post comm sig given)
      → IsAccepted g s.machine.state rank (s.holds rank) (Post comm sig given) → ⊥
  no_post rank comm sig given get ok =
      let conditions = all_none (refusals g s.machine.state (calls.Post rank comm ok.0 given)) ok.2 in
      let member = some_of (member_of rank (group g comm)) (fits (is_some (member_of rank (group g comm))) (NotMember rank) conditions.1.0) in
      let new = spare_slot g s.machine.state conditions.1.1.1.1.1.1.1.1.0 in
      no_carry rank (Post comm sig given) get _ _ (standings.post comm sig given ok.0 new.0 ok.1 (machine.post rank comm _ ok.0 given new.0 (record {
        member = member.0;
        accepted = ok.2;
        member_is = member.1;
        place_is = refl;
        new = new.1;
        leaves = refl;
      })))

  no_init : (rank comm : ℕ) (sig : Signature) → slice_get (lines rank) (s.at rank) ≡ Some (Init comm sig)
      → IsAccepted g s.machine.state rank (s.holds rank) (Init comm sig) → ⊥
  no_init rank comm sig get ok =
      let conditions = all_none (refusals g s.machine.state (calls.Init rank comm ok.0)) ok.2 in
      let member = some_of (member_of rank (group g comm)) (fits (is_some (member_of rank (group g comm))) (NotMember rank) conditions.1.0) in
      let new = spare_slot g s.machine.state conditions.1.1.1.1.1.1.1.0 in
      no_carry rank (Init comm sig) get _ _ (standings.init comm sig ok.0 new.0 ok.1 (machine.init rank comm _ ok.0 new.0 (record {
        member = member.0;
        accepted = ok.2;
        member_is = member.1;
        place_is = refl;
        new = new.1;
        leaves = refl;
      })))

  no_start : (rank q : ℕ) (given : List ℕ) → slice_get (lines rank) (s.at rank) ≡ Some (Start q given)
      → IsAccepted g s.machine.state rank (s.holds rank) (Start q given) → ⊥
  no_start rank q given get ok =
      let live = (tracks.agrees rank).live q ok.0 ok.1 in
      no_carry rank (Start q given) get _ _ (standings.start q given ok.0 ok.1 (machine.start rank _ ok.0 given (record {
        request = live.0;
        accepted = ok.2;
        is = found_at s.machine.state ok.0 live.0 live.1.current live.1.is;
        start_is = refl;
        leaves = refl;
      })))

  no_free : (rank q : ℕ) → slice_get (lines rank) (s.at rank) ≡ Some (Free q) → IsAccepted g s.machine.state rank (s.holds rank) (Free q) → ⊥
  no_free rank q get ok = no_carry rank (Free q) get _ _ (standings.free q ok.0 ok.1 (machine.free rank ok.0 (record { accepted = ok.2; leaves = refl })))

  wait_waits : (rank q : ℕ) → slice_get (lines rank) (s.at rank) ≡ Some (Wait q) → Waits g lines s rank (Wait q)
  wait_waits rank q get = go (either (is_pending s.machine ((s.holds rank).of q)))
    where
      go : (is_pending s.machine ((s.holds rank).of q) ≡ true) ⊎ (is_pending s.machine ((s.holds rank).of q) ≡ false) → Waits g lines s rank (Wait q)
      go (inl e) = stalls.wait q e
      go (inr e) =
          absurd (completes rank (q ∷ [])
          (λ n i done over. no_carry rank (Wait q) get n i
          (standings.wait q (among_only (λ p. is_pending s.machine ((s.holds rank).of p) ≡ false) q e) done over)))

  all_wait : (rank : ℕ) (qs : List ℕ) → slice_get (lines rank) (s.at rank) ≡ Some (WaitAll qs) → Waits g lines s rank (WaitAll qs)
  all_wait rank qs get = go (some_or_none (λ q. is_pending s.machine ((s.holds rank).of q)) qs)
    where
      go : ((q : ℕ) × (is_among q qs ≡ true) × (is_pending s.machine ((s.holds rank).of q) ≡ true))
          ⊎ ((q : ℕ) → is_among q qs ≡ true → is_pending s.machine ((s.holds rank).of q) ≡ false) → Waits g lines s rank (WaitAll qs)
      go (inl one) = stalls.wait_all qs one.0 one.1 one.2
      go (inr none) = absurd (completes rank qs (λ n i done over. no_carry rank (WaitAll qs) get n i (standings.wait_all qs none done over)))

  -- one that waits until some are Done waits for an active one
  one_active : (rank : ℕ) (qs : List ℕ) → (NoneActive s.machine (s.holds rank) qs → ⊥)
      → (q : ℕ) × (is_among q qs ≡ true) × (is_active s.machine ((s.holds rank).of q) ≡ true)
  one_active rank qs some = go (some_or_none (λ q. is_active s.machine ((s.holds rank).of q)) qs)
    where
      go : ((q : ℕ) × (is_among q qs ≡ true) × (is_active s.machine ((s.holds rank).of q) ≡ true))
          ⊎ ((q : ℕ) → is_among q qs ≡ true → is_active s.machine ((s.holds rank).of q) ≡ false)
          → (q : ℕ) × (is_among q qs ≡ true) × (is_active s.machine ((s.holds rank).of q) ≡ true)
      go (inl one) = one
      go (inr none) = absurd (some none)

  some_wait : (rank : ℕ) (qs : List ℕ) → slice_get (lines rank) (s.at rank) ≡ Some (WaitSome qs) → Waits g lines s rank (WaitSome qs)
  some_wait rank qs get = go (some_or_none (λ q. is_done s.machine ((s.holds rank).of q)) qs)
    where
      go : ((q : ℕ) × (is_among q qs ≡ true) × (is_done s.machine ((s.holds rank).of q) ≡ true))
          ⊎ ((q : ℕ) → is_among q qs ≡ true → is_done s.machine ((s.holds rank).of q) ≡ false) → Waits g lines s rank (WaitSome qs)
      go (inl one) = absurd (completes rank qs (λ n i done over. no_carry rank (WaitSome qs) get n i (standings.wait_some qs (inr one) done over)))
      go (inr none) =
          let one = one_active rank qs
          (λ idle. completes rank qs (λ n i done over. no_carry rank (WaitSome qs) get n i (standings.wait_some qs (inl idle) done over))) in
          stalls.wait_some qs one.0 one.1 one.2 none

  any_waits : (rank : ℕ) (qs : List ℕ) → slice_get (lines rank) (s.at rank) ≡ Some (WaitAny qs) → Waits g lines s rank (WaitAny qs)
  any_waits rank qs get = go (some_or_none (λ q. is_done s.machine ((s.holds rank).of q)) qs)
    where
      go : ((q : ℕ) × (is_among q qs ≡ true) × (is_done s.machine ((s.holds rank).of q) ≡ true))
          ⊎ ((q : ℕ) → is_among q qs ≡ true → is_done s.machine ((s.holds rank).of q) ≡ false) → Waits g lines s rank (WaitAny qs)
      go (inl one) =
          let d = done_is s.machine ((s.holds rank).of one.0) one.2 in
          absurd (can_retire g s.holds (sketches lines s.at) rank s.machine (s.holds rank) one.0 d.t
          (own_put NoUp g s.machine s.holds (sketches lines s.at) rank tracks) d.is d.done (λ n comm place start bytes step.
          no_carry rank (WaitAny qs) get n _ (standings.wait_any qs one.0 comm place start bytes d.t one.1 d.is step)))
      go (inr none) =
          let one = one_active rank qs (λ idle. no_carry rank (WaitAny qs) get s.machine (s.holds rank) (standings.wait_for_none qs idle)) in
          stalls.wait_any qs one.0 one.1 one.2 none

  waits_at_last : (rank : ℕ) (c : Command) → slice_get (lines rank) (s.at rank) ≡ Some c
      → IsAccepted g s.machine.state rank (s.holds rank) c → Waits g lines s rank c
  waits_at_last rank (Post comm sig given) get ok = absurd (no_post rank comm sig given get ok)
  waits_at_last rank (Init comm sig) get ok = absurd (no_init rank comm sig get ok)
  waits_at_last rank (Start q given) get ok = absurd (no_start rank q given get ok)
  waits_at_last rank (Wait q) get ok = wait_waits rank q get
  waits_at_last rank (Test q) get ok = absurd (completes rank (q ∷ []) (λ n i done over. no_carry rank (Test q) get n i (standings.test q done over)))
  waits_at_last rank (Free q) get ok = absurd (no_free rank q get ok)
  waits_at_last rank (WaitAny qs) get ok = any_waits rank qs get
  waits_at_last rank (WaitSome qs) get ok = some_wait rank qs get
  waits_at_last rank (WaitAll qs) get ok = all_wait rank qs get

  settled_at_last : (slot : ℕ) → HasAll g s.machine slot → s.machine.done slot ≡ true
  settled_at_last slot has = go (either (s.machine.done slot))
    where
      go : (s.machine.done slot ≡ true) ⊎ (s.machine.done slot ≡ false) → s.machine.done slot ≡ true
      go (inl e) = e
      go (inr e) =
          let posted = (runs_are_posted g tracks.events s.machine tracks.run).posted slot has.request has.is in
          absurd (last _ (standings.finishes (machine.finish slot (record {
            request = has.request;
            sig = posted.sig;
            start = has.start;
            is = has.is;
            pending = e;
            ready = record {
              active = has.active;
              start_is = has.last;
              sig_is = posted.sig_is;
              needed = λ m need. has.given m
                  (ltb-true m (size g has.request.comm)
                  (and_parts (ltb m (size g has.request.comm)) (needs_of posted.sig.kind posted.sig.root has.request.member m) need).0);
            };
            leaves = refl;
          }))))

pub last_is_stalled : LastIsStalled
last_is_stalled g lines s reached last ok early = record {
  waits = λ rank c get. waits_at_last g lines s reached last rank c get (ok rank c get);
  settled = settled_at_last g lines s reached last;
  early = early;
}

pub stalls_at_last : StallsAtLast
stalls_at_last h always g same s reached last ok = last_is_stalled g (lines_of h) s reached last ok (always.stalls g same s reached)

pub ends_at_last : EndsAtLast
ends_at_last h never g same s reached last ok rank = go (cases_eq (s.at rank) (length (lines_of h rank)))
  where
    go : (s.at rank ≡ length (lines_of h rank)) ⊎ (s.at rank ≡ length (lines_of h rank) → ⊥) → s.at rank ≡ length (lines_of h rank)
    go (inl e) = e
    go (inr d) = absurd (never g same s reached (last_is_stalled g (lines_of h) s reached last ok (λ end. d (end rank))))
