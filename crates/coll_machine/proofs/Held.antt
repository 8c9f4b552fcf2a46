-- A Done request can be completed, whatever comes between.
use Rattle.std.proofs.Common.{◌≡◌, ℕ, ◌<◌, ◌⊎◌, inl, inr, Bool, true, false, List, [], ◌∷◌, Option, Some, None, refl, sym, ap, subst, ◌∙◌}
use Rattle.std.proofs.lemmas.Option.{none-some, same_Some}
use Rattle.std.proofs.lemmas.Bool.{false≢true}
use Rattle.coll_kinds.specs.declared.kind.Mode.TheVariants.{Once, Persistent}
use Rattle.coll_kinds.specs.declared.signature.Signature.{Signature}
use Rattle.coll_kinds.specs.declared.ticket.Ticket.{Ticket}
use Rattle.coll_kinds.specs.Puts.{put}
use Rattle.coll_kinds.proofs.Puts.{put_same, put_other, put_cases}
use Rattle.coll_machine.specs.Common.{Setting, size, Request, State, Machine, nothing, key_of, put_key, new_request, created, started, rested}
use Rattle.coll_machine.specs.Common.{holding, forgotten, Call, Reply, IsOver, Clears, MachineStep, post, init, start, finish, retire, wait, free}
use Rattle.coll_machine.specs.Common.{refuse, short, Event, Runs, ArePosted}
use Rattle.coll_machine.specs.declared.key.Key.{Key}
use Rattle.coll_machine.specs.Laws.{IsHeld, DoneIsHeld, TracesArePosted, RunsArePosted}
use Rattle.coll_machine.proofs.Puts.{put_key_cases}
use Rattle.coll_machine.proofs.Accepted.{found_is, started_mine, freed_mine}
use Rattle.coll_machine.proofs.Members.{member_at}
use Rattle.coll_machine.proofs.Posted.{still_there, are_nothing, are_led}
use Rattle.coll_machine.proofs.Tracing.{step_of, runs_are_traced}

-- ---- each change keeps it

held_at : (g : Setting) (s u : State) (i : ℕ) → u ≡ s → IsHeld g s i → IsHeld g u i
held_at g s u i e h = subst (λ (s : State). IsHeld g s i) (sym e) h

held_created : (g : Setting) (s : State) (t : Ticket) (q : Request) (sig : Signature) (i : ℕ) → s.request t.slot ≡ None
    → IsHeld g s i → IsHeld g (created s t q sig) i
held_created g s t q sig i spare h = record {
  request = h.request;
  start = h.start;
  sig = h.sig;
  is = put_other s.request t.slot (Some q) i (λ e. none-some h.request (sym spare ∙ (ap s.request (sym e) ∙ h.is))) ∙ h.is;
  ready = record {
    active = h.ready.active;
    start_is = h.ready.start_is;
    sig_is = still_there s t q sig h.request.comm h.request.member h.request.place h.sig h.ready.sig_is;
    needed = h.ready.needed;
  };
}

-- the slot of an inactive request holds none
not_idle : (g : Setting) (s : State) (slot i : ℕ) (q : Request) → s.request slot ≡ Some q → q.active ≡ false → IsHeld g s i → i ≡ slot → ⊥
not_idle g s slot i q here idle h e =
    let same : q ≡ h.request = same_Some q h.request (sym here ∙ (ap s.request (sym e) ∙ h.is)) in
    false≢true (sym idle ∙ (ap (λ (q : Request). q.active) same ∙ h.ready.active))

held_holding : (g : Setting) (s : State) (slot i : ℕ) (o : Option Request) → (i ≡ slot → ⊥) → IsHeld g s i → IsHeld g (holding s slot o) i
held_holding g s slot i o other h = record {
  request = h.request;
  start = h.start;
  sig = h.sig;
  is = put_other s.request slot o i other ∙ h.is;
  ready = record { active = h.ready.active; start_is = h.ready.start_is; sig_is = h.ready.sig_is; needed = h.ready.needed };
}

held_started : (g : Setting) (s : State) (slot i : ℕ) (q : Request) (bytes : List ℕ) → s.request slot ≡ Some q → q.active ≡ false
    → IsHeld g s i → IsHeld g (started s slot q bytes) i
held_started g s slot i q bytes here idle h = record {
  request = h.request;
  start = h.start;
  sig = h.sig;
  is = put_other s.request slot _ i (not_idle g s slot i q here idle h) ∙ h.is;
  ready = record {
    active = h.ready.active;
    start_is = h.ready.start_is;
    sig_is = h.ready.sig_is;
    needed =
        λ m need none. h.ready.needed m need (fewer (key_of h.request h.start) m none);
  };
}
  where
    -- what isn't given now wasn't given before
    fewer : (k : Key) (m : ℕ) → (started s slot q bytes).given k m ≡ None → s.given k m ≡ None
    fewer k m none = go (put_key_cases s.given (key_of q q.starts) (put (s.given (key_of q q.starts)) q.member (Some bytes)) k)
      where
        inner : k ≡ key_of q q.starts → put (s.given (key_of q q.starts)) q.member (Some bytes) m ≡ None
            → ((m ≡ q.member) × (put (s.given (key_of q q.starts)) q.member (Some bytes) m ≡ Some bytes))
            ⊎ ((m ≡ q.member → ⊥) × (put (s.given (key_of q q.starts)) q.member (Some bytes) m ≡ s.given (key_of q q.starts) m)) → s.given k m ≡ None
        inner e f (inl a) = absurd (none-some bytes (sym f ∙ a.1))
        inner e f (inr a) = ap (λ k. s.given k m) e ∙ (sym a.1 ∙ f)

        go : ((k ≡ key_of q q.starts)
            × (put_key s.given (key_of q q.starts) (put (s.given (key_of q q.starts)) q.member (Some bytes)) k
            ≡ put (s.given (key_of q q.starts)) q.member (Some bytes)))
            ⊎ ((k ≡ key_of q q.starts → ⊥) × (put_key s.given (key_of q q.starts) (put (s.given (key_of q q.starts)) q.member (Some bytes)) k ≡ s.given k))
            → s.given k m ≡ None
        go (inl a) = inner a.0 (ap (λ (f : ℕ → Option (List ℕ)). f m) (sym a.1) ∙ none) (put_cases (s.given (key_of q q.starts)) q.member (Some bytes) m)
        go (inr a) = ap (λ (f : ℕ → Option (List ℕ)). f m) (sym a.1) ∙ none

-- a collective that has an active request isn't over
held_forgotten : (g : Setting) (s : State) (k : Key) (i : ℕ) → IsOver g s k → (h : IsHeld g s i)
    → h.request.member < size g h.request.comm → IsHeld g (forgotten s k) i
held_forgotten g s k i over h low = record {
  request = h.request;
  start = h.start;
  sig = h.sig;
  is = h.is;
  ready = record {
    active = h.ready.active;
    start_is = h.ready.start_is;
    sig_is = h.ready.sig_is;
    needed =
        λ m need none. h.ready.needed m need (kept m none (put_key_cases s.given k (λ m. None) (key_of h.request h.start)));
  };
}
  where
    works : key_of h.request h.start ≡ k → ⊥
    works e = (over h.request.member (subst (λ (k : Key). h.request.member < size g k.comm) e low)).1 (record {
      slot = i;
      request = h.request;
      is = h.is;
      active = h.ready.active;
      member_is = refl;
      start = h.start;
      key_is = e;
      last = h.ready.start_is;
    })

    kept : (m : ℕ) → put_key s.given k (λ m. None) (key_of h.request h.start) m ≡ None
        → ((key_of h.request h.start ≡ k) × (put_key s.given k (λ m. None) (key_of h.request h.start) ≡ λ m. None))
        ⊎ ((key_of h.request h.start ≡ k → ⊥) × (put_key s.given k (λ m. None) (key_of h.request h.start) ≡ s.given (key_of h.request h.start)))
        → s.given (key_of h.request h.start) m ≡ None
    kept m none (inl a) = absurd (works a.0)
    kept m none (inr a) = ap (λ (f : ℕ → Option (List ℕ)). f m) (sym a.1) ∙ none

-- ---- each step keeps it

abbrev AreHeld : Setting → Machine → Type 0
AreHeld g m = (i : ℕ) → m.done i ≡ true → IsHeld g m.state i

held_step : (g : Setting) (m n : Machine) (call : Call) (reply : Reply) → ArePosted g m.state → AreHeld g m → MachineStep g m call reply n → AreHeld g n
unfolding held_holding
held_step g _ _ _ _ posted held (post {s} {u} {done} rank comm place plan bytes t p) = λ i d. (
    let q = new_request rank comm p.member place Once in
    held_at g _ u i p.leaves
    (held_started g (created s t q plan.sig) t.slot i q bytes (put_same s.request t.slot (Some q)) refl
    (held_created g s t q plan.sig i p.new.spare (held i d))))
held_step g _ _ _ _ posted held (init {s} {u} {done} rank comm place plan t p) = λ i d.
    held_at g _ u i p.leaves (held_created g s t (new_request rank comm p.member place Persistent) plan.sig i p.new.spare (held i d))
held_step g _ _ _ _ posted held (start {s} {u} {done} rank begin t bytes p) = λ i d.
    held_at g _ u i p.leaves
    (held_started g s t.slot i p.request bytes (found_is s t p.request p.is).1 (started_mine g s rank t bytes p.request p.is p.accepted).idle (held i d))
held_step g _ _ _ _ posted held (finish {m} {done} slot f) = λ i d. go i d (put_cases m.done slot true i)
  where
    go : (i : ℕ) → done i ≡ true → ((i ≡ slot) × (put m.done slot true i ≡ true)) ⊎ ((i ≡ slot → ⊥) × (put m.done slot true i ≡ m.done i)) → IsHeld g m.state i
    go i d (inl a) = record { request = f.request; start = f.start; sig = f.sig; is = ap m.state.request a.0 ∙ f.is; ready = f.ready }
    go i d (inr a) = held i (sym a.1 ∙ (ap (λ (done : ℕ → Bool). done i) (sym f.leaves) ∙ d))
held_step g _ _ _ _ posted held (retire {s} {u} {done} rank t comm place begin bytes r d) = λ i e. go i e (put_cases done t.slot false i)
  where
    left : (i : ℕ) → (i ≡ t.slot → ⊥) → (h : IsHeld g s i) → Clears g (holding s t.slot (rested r.request)) (key_of r.request begin) u → IsHeld g u i
    left i other h (inl a) =
        held_at g _ u i a.1 (held_forgotten g _ (key_of r.request begin) i a.0
        (held_holding g s t.slot i (rested r.request) other h)
        (member_at g h.request.comm h.request.rank h.request.member (posted.posted i h.request h.is).member_is).0)
    left i other h (inr a) = held_at g _ u i a.1 (held_holding g s t.slot i (rested r.request) other h)

    go : (i : ℕ) → put done t.slot false i ≡ true
        → ((i ≡ t.slot) × (put done t.slot false i ≡ false)) ⊎ ((i ≡ t.slot → ⊥) × (put done t.slot false i ≡ done i)) → IsHeld g u i
    go i e (inl a) = absurd (false≢true (sym a.1 ∙ e))
    go i e (inr a) = left i a.0 (held i (sym a.1 ∙ e)) r.leaves
held_step g _ _ _ _ posted held (wait {m} rank t h d) = held
held_step g _ _ _ _ posted held (free {s} {u} {done} rank t p) = λ i d. (
    let f = freed_mine g s rank t p.accepted in
    held_at g _ u i p.leaves (held_holding g s t.slot i None (not_idle g s t.slot i f.request f.is f.idle_of.idle (held i d)) (held i d)))
held_step g _ _ _ _ posted held (refuse {m} call why h) = held
held_step g _ _ _ _ posted held (short {m} call takes h) = held

-- ---- runs

held_runs : (g : Setting) (m n : Machine) (events : List Event) → ArePosted g m.state → AreHeld g m → Runs g m events n → AreHeld g n
held_runs g m n [] posted held r = subst (AreHeld g) r held
held_runs g m n (e ∷ events) posted held r =
    let step = step_of g m r.0 e.call e.reply r.1 in
    held_runs g r.0 n events (are_led g m.state r.0.state step.added posted step.leads) (held_step g m r.0 e.call e.reply posted held r.1) r.2

pub done_is_held : DoneIsHeld
done_is_held g events m r = held_runs g _ m events (are_nothing g) (λ i d. absurd (false≢true d)) r

pub traces_are_posted : TracesArePosted
traces_are_posted g s es l = are_led g nothing s es (are_nothing g) l

pub runs_are_posted : RunsArePosted
runs_are_posted g events m r = let t = runs_are_traced g events m r in are_led g nothing m.state t.0 (are_nothing g) t.2
