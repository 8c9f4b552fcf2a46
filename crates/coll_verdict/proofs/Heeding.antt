-- What a Done request has waited for has come: each step of a library that waits for it keeps that.
use Rattle.std.proofs.Common.{◌≡◌, ℕ, suc, ◌<◌, ◌⊎◌, inl, inr, Bool, true, false, List, [], ◌∷◌, Option, Some, None, refl, sym, ap, subst, ◌∙◌}
use Rattle.std.proofs.lemmas.Bool.{false≢true}
use Rattle.std.proofs.lemmas.Option.{none-some, same_Some}
use Rattle.std.specs.Prelude.{slice_get}
use Rattle.coll_kinds.specs.declared.signature.Signature.{Signature}
use Rattle.coll_kinds.specs.declared.ticket.Ticket.{Ticket}
use Rattle.coll_kinds.specs.Common.{put}
use Rattle.coll_kinds.proofs.Puts.{put_cases}
use Rattle.coll_machine.specs.Common.{Setting, size, Request, State, Machine, key_of, phased, signature_of, Call, Reply, MachineStep}
use Rattle.coll_machine.specs.Calls as calls
use Rattle.coll_machine.specs.Machines as steps
use Rattle.coll_machine.proofs.Accepted.{found_is, started_mine, freed_mine}
use Rattle.coll_parser.specs.declared.command.Command.{Command}
use Rattle.coll_verdict.specs.Standings.{Holding, Completes, Carries}
use Rattle.coll_verdict.specs.Standings as standings
use Rattle.coll_verdict.specs.Sketches.{Sketch}
use Rattle.coll_verdict.specs.Waiting.{Hearing, HasHeard}
use Rattle.coll_verdict.proofs.Sketched.{Grows, same_grows}
use Rattle.coll_verdict.proofs.Agreeing.{Moves}
use Rattle.coll_verdict.proofs.Changing.{makes_init, makes_post, leaves_retired, leaves_freed, leaves_moves}
use Rattle.coll_verdict.proofs.Tracking.{Gave, gave_grows, Tracks, Follows, here, further, started_moves}

-- the slot's request is active with a start to which all for whom it waits have come
pub record HeardAt (hears : Hearing) (g : Setting) (s : State) (k : ℕ → Sketch) (slot : ℕ) : Type 0 where
  pub request : Request
  pub start : ℕ
  pub sig : Signature
  pub is : s.request slot ≡ Some request
  pub active : request.active ≡ true
  pub start_is : suc start ≡ request.starts
  pub sig_is : signature_of s request ≡ Some sig
  pub heard : (p : ℕ) → p < size g request.comm → hears sig (size g request.comm) request.member p ≡ true → Gave g k (key_of request start) p

-- and so for each that is Done
abbrev pub AreHeard : Hearing → Setting → Machine → (ℕ → Sketch) → Type 0
AreHeard hears g m k = (slot : ℕ) → m.done slot ≡ true → HeardAt hears g m.state k slot

-- ---- steps that make nothing Done

-- what is Done then was Done before, with the same request, and posting lists grow
pub record Stays (m n : Machine) : Type 0 where
  pub done : (i : ℕ) → n.done i ≡ true → m.done i ≡ true
  pub request : (i : ℕ) → n.done i ≡ true → n.state.request i ≡ m.state.request i
  pub posts : (comm member place : ℕ) (sig : Signature) → slice_get (m.state.posts comm member) place ≡ Some sig
      → slice_get (n.state.posts comm member) place ≡ Some sig

same_stays : (m : Machine) → Stays m m
same_stays m = record { done = λ i d. d; request = λ i d. refl; posts = λ comm member place sig e. e }

stays_on : (m n o : Machine) → Stays m n → Stays n o → Stays m o
stays_on m n o a b = record {
  done = λ i d. a.done i (b.done i d);
  request = λ i d. b.request i d ∙ a.request i (b.done i d);
  posts = λ comm member place sig e. b.posts comm member place sig (a.posts comm member place sig e);
}

pub heard_stays : (hears : Hearing) (g : Setting) (m n : Machine) (j k : ℕ → Sketch) → ((r : ℕ) → Grows (j r) (k r)) → Stays m n
    → AreHeard hears g m j → AreHeard hears g n k
heard_stays hears g m n j k grows st heard slot d =
    let h = heard slot (st.done slot d) in
    record {
      request = h.request;
      start = h.start;
      sig = h.sig;
      is = st.request slot d ∙ h.is;
      active = h.active;
      start_is = h.start_is;
      sig_is = st.posts h.request.comm h.request.member h.request.place h.sig h.sig_is;
      heard = λ p low e. gave_grows g j k (key_of h.request h.start) p grows (h.heard p low e);
    }

-- one slot changes, which isn't Done then
moves_stay : (m n : Machine) (slot : ℕ) → Moves m.state n.state slot → ((i : ℕ) → n.done i ≡ true → (i ≡ slot → ⊥) × (m.done i ≡ true)) → Stays m n
moves_stay m n slot moves off = record {
  done = λ i d. (off i d).1;
  request = λ i d. moves.request i (off i d).0;
  posts = moves.posts;
}

module _ (hears : Hearing) (g : Setting) (k : ℕ → Sketch) where
  -- no request stands in a spare slot, and one that is Done is active
  not_spare : (m : Machine) (slot : ℕ) → AreHeard hears g m k → m.state.request slot ≡ None → (i : ℕ) → m.done i ≡ true → (i ≡ slot → ⊥) × (m.done i ≡ true)
  not_spare m slot heard spare i d = (λ e. (let h = heard i d in none-some h.request (sym spare ∙ (ap m.state.request (sym e) ∙ h.is))), d)

  not_idle : (m : Machine) (slot : ℕ) (request : Request) → AreHeard hears g m k → m.state.request slot ≡ Some request
      → request.active ≡ false → (i : ℕ) → m.done i ≡ true → (i ≡ slot → ⊥) × (m.done i ≡ true)
  not_idle m slot request heard is idle i d = (
    λ e. (
        let h = heard i d in
        let same : h.request ≡ request = same_Some h.request request (sym h.is ∙ (ap m.state.request e ∙ is)) in
        false≢true (sym idle ∙ (ap (λ (r : Request). r.active) (sym same) ∙ h.active))),
    d,
  )

  step_stays : (m n : Machine) (call : Call) (reply : Reply) → AreHeard hears g m k → (call ≡ calls.Finish → ⊥) → MachineStep g m call reply n → Stays m n
  step_stays _ _ _ _ heard other (steps.post {s} {u} {done} rank comm place plan bytes t p) =
      let mk = makes_post g s u rank comm place plan bytes t p in
      moves_stay (steps.phased s done) (steps.phased u done) t.slot mk.moves (not_spare (steps.phased s done) t.slot heard mk.spare)
  step_stays _ _ _ _ heard other (steps.init {s} {u} {done} rank comm place plan t p) =
      let mk = makes_init g s u rank comm place plan t p in
      moves_stay (steps.phased s done) (steps.phased u done) t.slot mk.moves (not_spare (steps.phased s done) t.slot heard mk.spare)
  step_stays _ _ _ _ heard other (steps.start {s} {u} {done} rank begin t bytes p) =
      moves_stay (steps.phased s done) (steps.phased u done) t.slot
      (subst (λ (v : State). Moves s v t.slot) (sym p.leaves) (started_moves s t.slot p.request bytes))
      (not_idle (steps.phased s done) t.slot p.request heard (found_is s t p.request p.is).1 (started_mine g s rank t bytes p.request p.is p.accepted).idle)
  step_stays _ _ _ _ heard other (steps.finish {m} {done} slot f) = absurd (other refl)
  step_stays _ _ _ _ heard other (steps.retire {s} {u} {done} rank t comm place begin bytes r d) =
      moves_stay (steps.phased s done) (steps.phased u (put done t.slot false)) t.slot
      (leaves_moves s u t.slot _ (leaves_retired g s u rank comm place begin bytes t r)) (λ i e. off i e (put_cases done t.slot false i))
    where
      off : (i : ℕ) → put done t.slot false i ≡ true
          → ((i ≡ t.slot) × (put done t.slot false i ≡ false)) ⊎ ((i ≡ t.slot → ⊥) × (put done t.slot false i ≡ done i)) → (i ≡ t.slot → ⊥) × (done i ≡ true)
      off i e (inl a) = absurd (false≢true (sym a.1 ∙ e))
      off i e (inr a) = (a.0, sym a.1 ∙ e)
  step_stays _ _ _ _ heard other (steps.wait {m} rank t h d) = same_stays m
  step_stays _ _ _ _ heard other (steps.free {s} {u} {done} rank t p) =
      let f = freed_mine g s rank t p.accepted in
      moves_stay (steps.phased s done) (steps.phased u done) t.slot (leaves_moves s u t.slot None (leaves_freed g s u rank t p))
      (not_idle (steps.phased s done) t.slot f.request heard f.is f.idle_of.idle)
  step_stays _ _ _ _ heard other (steps.refuse {m} call why h) = same_stays m
  step_stays _ _ _ _ heard other (steps.short {m} call takes h) = same_stays m

  retire_stays : (rank comm place begin : ℕ) (bytes : List ℕ) (t : Ticket) (m n : Machine) → AreHeard hears g m k
      → MachineStep g m (calls.Retire rank t) (calls.Outcome rank comm place begin bytes) n → Stays m n
  retire_stays rank comm place begin bytes t m n heard step =
      step_stays m n (calls.Retire rank t) (calls.Outcome rank comm place begin bytes) heard (λ e. absurd cc) step

  completes_stay : (rank : ℕ) (qs : List ℕ) (m n : Machine) (x y : Holding) → AreHeard hears g m k → Completes g rank qs m x n y → Stays m n
  completes_stay rank qs _ _ _ _ heard (standings.none {m} {h}) = same_stays m
  completes_stay rank qs _ _ _ _ heard (standings.another {m = m} {n = mid} {last = n} {h = x} {i = y} q comm place begin bytes t among held step more) =
      let first = retire_stays rank comm place begin bytes t m mid heard step in
      stays_on m mid n first (completes_stay rank qs mid n _ y (heard_stays hears g m mid k k (λ r. same_grows (k r)) first heard) more)

  carries_stay : (rank : ℕ) (m : Machine) (h : Holding) (c : Command) (n : Machine) (i : Holding) → AreHeard hears g m k → Carries g rank m h c n i → Stays m n
  carries_stay rank m h _ _ _ heard (standings.post {n} comm sig given plan t e step) =
      step_stays m n (calls.Post rank comm plan given) (calls.Ticketed t) heard (λ e. absurd cc) step
  carries_stay rank m h _ _ _ heard (standings.init {n} comm sig plan t e step) =
      step_stays m n (calls.Init rank comm plan) (calls.Ticketed t) heard (λ e. absurd cc) step
  carries_stay rank m h _ _ _ heard (standings.start {n} q given t held step) =
      step_stays m n (calls.Start rank t given) calls.Nothing heard (λ e. absurd cc) step
  carries_stay rank m h _ _ _ heard (standings.free {n} q t held step) = step_stays m n (calls.Free rank t) calls.Nothing heard (λ e. absurd cc) step
  carries_stay rank m h _ _ _ heard (standings.test {n} {i} q done over) = completes_stay rank (q ∷ []) m n h i heard done
  carries_stay rank m h _ _ _ heard (standings.wait {n} {i} q ready done over) = completes_stay rank (q ∷ []) m n h i heard done
  carries_stay rank m h _ _ _ heard (standings.wait_all {n} {i} qs ready done over) = completes_stay rank qs m n h i heard done
  carries_stay rank m h _ _ _ heard (standings.wait_some {n} {i} qs ready done over) = completes_stay rank qs m n h i heard done
  carries_stay rank m h _ _ _ heard (standings.wait_for_none qs idle) = same_stays m
  carries_stay rank m h _ _ _ heard (standings.wait_any {n} qs q comm place begin bytes t among held step) =
      retire_stays rank comm place begin bytes t m n heard step

pub followed_heard : (hears : Hearing) (g : Setting) (m n : Machine) (k : ℕ → Sketch) → AreHeard hears g m k → Follows g m n → AreHeard hears g n k
followed_heard hears g _ _ k heard (here {m}) = heard
followed_heard hears g _ _ k heard (further {m} {n} {last} rank comm place begin bytes t step more) =
    followed_heard hears g n last k
    (heard_stays hears g m n k k (λ r. same_grows (k r)) (retire_stays hears g k rank comm place begin bytes t m n heard step) heard) more

pub carried_heard : (hears : Hearing) (g : Setting) (m : Machine) (h : Holding) (j k : ℕ → Sketch) (rank : ℕ)
    → ((r : ℕ) → Grows (j r) (k r)) → AreHeard hears g m j
    → (c : Command) (n : Machine) (i : Holding) → Carries g rank m h c n i → AreHeard hears g n k
carried_heard hears g m h j k rank grows heard c n i step = heard_stays hears g m n j k grows (carries_stay hears g j rank m h c n i heard step) heard

-- ---- a request becomes Done

pub finished_heard : (hears : Hearing) (up : ℕ → ℕ → ℕ → Type 0) (g : Setting) (m : Machine) (h : ℕ → Holding) (k : ℕ → Sketch)
    (slot start : ℕ) (q : Request) (sig : Signature) → Tracks up g m h k → m.state.request slot ≡ Some q
    → HasHeard hears g m.state q start sig → AreHeard hears g m k → AreHeard hears g (phased m.state (put m.done slot true)) k
finished_heard hears up g m h k slot start q sig tr is has heard i d = go (put_cases m.done slot true i)
  where
    gave : (p : ℕ) → (o : Option (List ℕ)) → m.state.given (key_of q start) p ≡ o → (o ≡ None → ⊥) → Gave g k (key_of q start) p
    gave p None e some = absurd (some refl)
    gave p (Some bytes) e some = tr.gave (key_of q start) p bytes e

    new : HeardAt hears g m.state k slot
    new = record {
      request = q;
      start = start;
      sig = sig;
      is = is;
      active = has.ready.active;
      start_is = has.ready.start_is;
      sig_is = has.ready.sig_is;
      heard = λ p low e. gave p (m.state.given (key_of q start) p) refl (has.heard p low e);
    }

    go : ((i ≡ slot) × (put m.done slot true i ≡ true)) ⊎ ((i ≡ slot → ⊥) × (put m.done slot true i ≡ m.done i)) → HeardAt hears g m.state k i
    go (inl a) = subst (λ (i : ℕ). HeardAt hears g m.state k i) (sym a.0) new
    go (inr a) = heard i (sym a.1 ∙ d)

-- nothing is Done as a run begins
pub none_heard : (hears : Hearing) (g : Setting) (m : Machine) (k : ℕ → Sketch) → ((slot : ℕ) → m.done slot ≡ false) → AreHeard hears g m k
none_heard hears g m k none slot d = absurd (false≢true (sym (none slot) ∙ d))
