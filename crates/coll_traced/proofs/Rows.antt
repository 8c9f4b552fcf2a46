-- An engine without a communicator stays as it was opened.
use Rattle.std.proofs.Common.{◌≡◌, ◌<◌, ◌+◌, ◌++◌, ◌⊎◌, ℕ, Bool, true, false, List, [], ◌∷◌, Contains, length, Option, Some, None}
use Rattle.std.proofs.Common.{inl, inr, refl, sym, ap, subst, ◌∙◌, arith}
use Rattle.std.specs.Prelude.{◌==◌, if◌then◌else◌}
use Rattle.coll_kinds.specs.declared.refusal.Refusal.{Refusal}
use Rattle.coll_kinds.specs.declared.refusal.Refusal.TheVariants.{NoMemory, Stale, TraceFull}
use Rattle.coll_kinds.specs.declared.ticket.Ticket.{Ticket}
use Rattle.coll_machine.specs.Common.{Call, Free, Refused, Reply, Retire, Start, Entry, Posted, Inited, Started, Retired, Freed, MachineStep, post}
use Rattle.coll_machine.specs.Common.{init, start, finish, retire, wait, free, refuse, short, first_of, idle_refusals, naming_refusals, refusal}
use Rattle.coll_machine.specs.Common.{start_refusals, Setting, Machine, Request, State, found, nothing, Enters, Leads, LegalTrace, reserved}
use Rattle.coll_complete.specs.Requests.{free_refusal, list_refusal, refusal_at}
use Rattle.coll_core.specs.Cores.{Parts, seen, setting}
use Rattle.coll_core.specs.Phases.{phase_in, phase_of}
use Rattle.coll_core.specs.declared.phase.Phase.TheVariants.{Pending}
use Rattle.coll_report.specs.Traces.{entries_of}
use Rattle.coll_traced.specs.Closings.{AreEnds, IsFirstBusy, IsObjected, Objects}
use Rattle.coll_traced.specs.Denials.{IsDenied}
use Rattle.coll_traced.specs.Moments.{IsMoment}
use Rattle.coll_traced.specs.Rows.{AnswersCanBeWrong, silent}
use Rattle.coll_traced.specs.Stalls.{IsHeldUp, WasStalledFor}
use Rattle.coll_traced.specs.Traced.{Denies, IsFull, Traced}
use Rattle.coll_traced.specs.Waits.{WaitFor, Awake, ForOne, ForAny, Ended}

either_same : {X : Type 0} (b : Bool) (x : X) → (if b then x else x) ≡ x
either_same true x = refl
either_same false x = refl

found_nothing : (t : Ticket) → found nothing t ≡ None
found_nothing t = either_same (nothing.generation t.slot == t.generation) None

no_request : (t : Ticket) (q : Request) → found nothing t ≡ Some q → ⊥
no_request t q is = let e : None ≡ Some q = sym (found_nothing t) ∙ is in absurd cc

stale : (rank : ℕ) (t : Ticket) → refusal silent nothing (Retire rank t) ≡ Some Stale
stale rank t = ap (λ q. first_of (naming_refusals q rank)) (found_nothing t)

not_freed : (rank : ℕ) (t : Ticket) → refusal silent nothing (Free rank t) ≡ Some Stale
not_freed rank t = ap (λ q. first_of (naming_refusals q rank ++ idle_refusals q)) (found_nothing t)

refused : {X : Type 0} (why : Refusal) (o : Option Refusal) → o ≡ Some why → o ≡ None → X
refused why o is fits = let e : Some why ≡ None = sym is ∙ fits in absurd cc

no_entry : (e : Entry) (u : State) → Enters silent nothing e u → ⊥
no_entry (Posted rank t comm place sig bytes) u h = let e : None ≡ Some h.2.member = h.2.member_is in absurd cc
no_entry (Inited rank t comm place sig) u h = let e : None ≡ Some h.2.member = h.2.member_is in absurd cc
no_entry (Started rank t begin bytes) u p = no_request t p.request p.is
no_entry (Retired rank t comm place begin bytes) u p = no_request t p.request p.is
no_entry (Freed rank t) u p = refused Stale _ (not_freed rank t) p.accepted

only : (es : List Entry) (s : State) → LegalTrace silent es s → (es ≡ []) × (s ≡ nothing)
only [] s l = let e : nothing ≡ s = l.leads in (refl, sym e)
only (e ∷ es) s l = absurd (no_entry e l.leads.0 l.leads.1)

has_no_entry : (es : List Entry) (s : State) → IsMoment silent 1 es s → ⊥
has_no_entry es s m =
    let none : length es ≡ 0 = ap length (only es s m.legal).0 in
    let some = m.has_made in
    absurd (omega (arith, none, some))

-- a refusal of the opening state is one at each moment
not_accepted : (f : State → Option Refusal) (es : List Entry) (s : State) → IsMoment silent 0 es s → f nothing ≡ Some Stale → f s ≡ None → ⊥
not_accepted f es s m is fits =
    let e : Some Stale ≡ None = sym is ∙ (ap f (sym (only es s m.legal).1) ∙ fits) in
    absurd cc

one : (rank : ℕ) (t : Ticket) (es : List Entry) (s : State) → IsMoment silent 0 es s → refusal_at silent s rank (Some t) ≡ None → ⊥
one rank t es s m fits = not_accepted (λ s. refusal_at silent s rank (Some t)) es s m (stale rank t) fits

freed : (rank : ℕ) (t : Ticket) (es : List Entry) (s : State) → IsMoment silent 0 es s → free_refusal silent s rank (Some t) ≡ None → ⊥
freed rank t es s m fits = not_accepted (λ s. free_refusal silent s rank (Some t)) es s m (not_freed rank t) fits

list_stale : (rank : ℕ) (t : Ticket) → list_refusal silent nothing rank (Some t ∷ []) ≡ Some Stale
list_stale rank t = ap (λ q. first_of (first_of (naming_refusals q rank) ∷ [])) (found_nothing t)

listed : (rank : ℕ) (t : Ticket) (es : List Entry) (s : State) → IsMoment silent 0 es s → list_refusal silent s rank (Some t ∷ []) ≡ None → ⊥
listed rank t es s m fits = not_accepted (λ s. list_refusal silent s rank (Some t ∷ [])) es s m (list_stale rank t) fits

not_full : (t : Traced) → setting t.core ≡ silent → LegalTrace silent t.entries (seen t.core).state → IsFull t → ⊥
not_full t set legal full =
    let is = only t.entries (seen t.core).state legal in
    let limit : (setting t.core).trace ≡ 2 = ap (λ (g : Setting). g.trace) set in
    let none : length t.entries ≡ 0 = ap length is.0 in
    let spoken : reserved (setting t.core) (seen t.core).state ≡ 0 = λ z. reserved (set z) (is.1 z) in
    let less : (setting t.core).trace < length t.entries + reserved (setting t.core) (seen t.core).state + 2 = full in
    absurd (omega (arith, limit, none, spoken, less))

-- why a call is refused
abbrev Why : Setting → Machine → Call → Reply → Type 0
Why g m call (Refused why) = (refusal g m.state call ≡ Some why) ⊎ (why ≡ NoMemory)
Why g m call reply = Unit {0}

why_of : (g : Setting) (m n : Machine) (call : Call) (reply : Reply) → MachineStep g m call reply n → Why g m call reply
why_of g _ _ _ _ (post {s} {u} {done} rank comm place plan bytes t h) = tt
why_of g _ _ _ _ (init {s} {u} {done} rank comm place plan t h) = tt
why_of g _ _ _ _ (start {s} {u} {done} rank begin t bytes h) = tt
why_of g _ _ _ _ (finish {m} {done} slot h) = tt
why_of g _ _ _ _ (retire {s} {u} {done} rank t comm place begin bytes h d) = tt
why_of g _ _ _ _ (wait {m} rank t h d) = tt
why_of g _ _ _ _ (free {s} {u} {done} rank t h) = tt
why_of g _ _ _ _ (refuse {m} call why h) = inl h
why_of g _ _ _ _ (short {m} call takes h) = inr refl

not_started : (rank : ℕ) (t : Ticket) (bytes : List ℕ) → refusal silent nothing (Start rank t bytes) ≡ Some Stale
not_started rank t bytes =
    ap (λ q. first_of (naming_refusals q rank ++ idle_refusals q ++ start_refusals silent nothing bytes q)) (found_nothing t)

not_for_room : (rank : ℕ) (t : Ticket) (bytes : List ℕ) (at : Traced) → setting at.core ≡ silent
    → LegalTrace silent at.entries (seen at.core).state
    → (refusal (setting at.core) (seen at.core).state (Start rank t bytes) ≡ Some TraceFull) ⊎ (TraceFull ≡ NoMemory) → ⊥
not_for_room rank t bytes at set legal (inl is) =
    let opening = (only at.entries (seen at.core).state legal).1 in
    let here : refusal (setting at.core) (seen at.core).state (Start rank t bytes) ≡ refusal silent nothing (Start rank t bytes) =
    λ z. refusal (set z) (opening z) (Start rank t bytes) in
    let e : Some TraceFull ≡ Some Stale = sym is ∙ (here ∙ not_started rank t bytes) in
    absurd cc
not_for_room rank t bytes at set legal (inr e) = absurd cc

denied : (rank : ℕ) (t : Ticket) (bytes : List ℕ) → IsDenied silent 0 (Start rank t bytes) TraceFull → ⊥
denied rank t bytes d = go d.denies
  where
    go : Denies d.at (Start rank t bytes) TraceFull → ⊥
    go (inl full) = not_full d.at d.setting_is d.moment.legal full.1
    go (inr (room, inl e)) = absurd cc
    go (inr (room, inr refuses)) =
        not_for_room rank t bytes d.at d.setting_is d.moment.legal
        (why_of (setting d.at.core) (seen d.at.core) (seen d.at.core) (Start rank t bytes) (Refused TraceFull) refuses)

not_busy : (s : State) (rank : ℕ) → s ≡ nothing → IsFirstBusy s rank → ⊥
not_busy s rank is b =
    let e : None ≡ Some b.busy.request = ap (λ (s : State). s.request b.busy.slot) (sym is) ∙ b.busy.is in
    absurd cc

one_end : AreEnds silent.ranks [] ((0, 0) ∷ [])
one_end = record { many = refl; each = its_end }
  where
    its_end : (rank : ℕ) → rank < 1 → Contains {X = ℕ × ℕ} ((0, 0) ∷ []) (rank, entries_of rank [])
    its_end rank lt =
        let zero_is : rank ≡ 0 = omega (arith, lt) in
        let within : 0 < 1 = omega arith in
        subst (λ r. Contains {X = ℕ × ℕ} ((0, 0) ∷ []) (r, entries_of r [])) (sym zero_is) (0, within, refl)

objected : (why : Refusal) → IsObjected silent ((0, 0) ∷ []) why → ⊥
objected why o = go o.objects
  where
    is : (o.at.entries ≡ []) × ((seen o.at.core).state ≡ nothing)
    is = only o.at.entries (seen o.at.core).state o.legal

    ends : AreEnds (setting o.at.core).ranks o.at.entries ((0, 0) ∷ [])
    ends =
        let of_silent = subst (λ es. AreEnds silent.ranks es ((0, 0) ∷ [])) (sym is.0) one_end in
        subst (λ (s : Setting). AreEnds s.ranks o.at.entries ((0, 0) ∷ [])) (sym o.setting_is) of_silent

    go : Objects o.at ((0, 0) ∷ []) why → ⊥
    go (inl busy) = not_busy (seen o.at.core).state busy.0 is.1 busy.2
    go (inr torn) = torn.1 ends

-- a ticket names nothing there
not_pending : (p : Parts) (t : Ticket) → (seen p).state ≡ nothing → phase_in (seen p) t ≡ Some Pending → ⊥
not_pending p t is pending =
    let none : phase_in (seen p) t ≡ None = ap (phase_of (seen p) t) (ap (λ (s : State). found s t) is ∙ found_nothing t) in
    let e : None ≡ Some Pending = sym none ∙ pending in
    absurd cc

not_held_up : (p : Parts) (w : WaitFor) → (seen p).state ≡ nothing → IsHeldUp p w → ⊥
not_held_up p Awake is held = held
not_held_up p (ForOne rank t) is held = not_pending p t is held.1
not_held_up p (ForAny rank ts) is held = not_pending p held.1 is held.4.1
not_held_up p Ended is held = held

stalls_none : (rank : ℕ) (w : WaitFor) → WasStalledFor silent rank w → ⊥
stalls_none rank w was = not_held_up was.at.core w (only was.at.entries (seen was.at.core).state was.legal).1 was.held_up

pub answers_can_be_wrong : AnswersCanBeWrong
answers_can_be_wrong = record {
  has_no_entry = has_no_entry;
  tests_none = (
    (λ rank t new flag o es k. one rank t k.before k.engine.state k.moment k.accepted),
    (λ rank t new any es k. listed rank t k.before k.engine.state k.moment k.accepted),
    (λ rank t new was is flag es k. listed rank t k.before k.engine.state k.moment k.accepted),
    (λ rank t new was is count es k. listed rank t k.before k.engine.state k.moment k.accepted),
  );
  refuses_stale = (
    (λ rank t k. one rank t k.before k.engine.state k.moment (sym k.why_is)),
    (λ rank why k. let e : Some why ≡ None = k.why_is in absurd cc),
    (λ rank t k. listed rank t k.before k.engine.state k.moment (sym k.why_is)),
    (λ rank why k. let e : Some why ≡ None = k.why_is in absurd cc),
    (λ rank t k. freed rank t k.before k.engine.state k.moment (sym k.why_is)),
  );
  free_and_idle = (denied, objected);
  stalls_none = stalls_none;
}
