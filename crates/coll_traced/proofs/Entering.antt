-- What a step of the machine says, by its call and answer.
use Rattle.std.proofs.Common.{◌≡◌, ℕ, inl, inr, true, List, Option, Some, None, refl, sym, ap, subst, ◌∙◌, eqb}
use Rattle.std.proofs.lemmas.Bool.{cond-true, eq-eqb}
use Rattle.coll_kinds.specs.declared.refusal.Refusal.{Refusal}
use Rattle.coll_kinds.specs.declared.refusal.Refusal.TheVariants.{NoMemory}
use Rattle.coll_kinds.specs.declared.ticket.Ticket.{Ticket}
use Rattle.coll_kinds.specs.Puts.{put}
use Rattle.coll_kinds.specs.declared.kind.Mode.TheVariants.{Once, Persistent}
use Rattle.coll_kinds.proofs.Puts.{put_same}
use Rattle.coll_machine.specs.Common.{Setting, State, Machine, Request, found, Planned, Call, new_request, once_more, created, started, MachineStep}
use Rattle.coll_machine.specs.Common.{post, init, start, finish, retire, wait, free, refuse, short, MayFinish, StepsTo, Posts, Inits, Starts, Frees}
use Rattle.coll_machine.specs.Common.{Retires}
use Rattle.coll_machine.specs.Calls as calls
use Rattle.coll_machine.proofs.Accepted.{found_is}

pub record Completes (g : Setting) (m n : Machine) (rank : ℕ) (t : Ticket) (who comm place begin : ℕ) (bytes : List ℕ) : Type 0 where
  pub who_is : who ≡ rank
  pub done : m.done t.slot ≡ true
  pub retires : Retires g m.state rank t comm place begin bytes n.state

abbrev pub Means : Setting → Machine → Machine → Call → calls.Reply → Type 0
Means g m n (calls.Post rank comm plan bytes) (calls.Ticketed t) = (place : ℕ) × Posts g m.state rank t comm place plan bytes n.state
Means g m n (calls.Init rank comm plan) (calls.Ticketed t) = (place : ℕ) × Inits g m.state rank t comm place plan n.state
Means g m n (calls.Start rank t bytes) calls.Nothing = (begin : ℕ) × Starts g m.state rank t begin bytes n.state
Means g m n (calls.Retire rank t) (calls.Outcome who comm place begin bytes) = Completes g m n rank t who comm place begin bytes
Means g m n (calls.Free rank t) calls.Nothing = Frees g m.state rank t n.state
Means g m n calls.Finish calls.Nothing = n.state ≡ m.state
Means g m n call reply = Unit {0}

means_none : (g : Setting) (m : Machine) (call : Call) (why : Refusal) → Means g m m call (calls.Refused why)
means_none g m (calls.Post rank comm plan bytes) why = tt
means_none g m (calls.Init rank comm plan) why = tt
means_none g m (calls.Start rank t bytes) why = tt
means_none g m (calls.Retire rank t) why = tt
means_none g m (calls.Free rank t) why = tt
means_none g m calls.Finish why = tt

pub means : (g : Setting) (m n : Machine) (call : Call) (reply : calls.Reply) → MachineStep g m call reply n → Means g m n call reply
means g _ _ _ _ (post {s} {u} {done} rank comm place plan bytes t h) = (place, h)
means g _ _ _ _ (init {s} {u} {done} rank comm place plan t h) = (place, h)
means g _ _ _ _ (start {s} {u} {done} rank begin t bytes h) = (begin, h)
means g _ _ _ _ (finish {m} {done} slot h) = refl
means g _ _ _ _ (retire {s} {u} {done} rank t comm place begin bytes h d) = record { who_is = refl; done = d; retires = h }
means g _ _ _ _ (wait {m} rank t h d) = tt
means g _ _ _ _ (free {s} {u} {done} rank t h) = h
means g _ _ _ _ (refuse {m} call why h) = means_none g m call why
means g _ _ _ _ (short {m} call takes h) = means_none g m call NoMemory

pub finished : (g : Setting) (m n : Machine) → MayFinish g m n → n.state ≡ m.state
finished g m n (inl e) = ap (λ (k : Machine). k.state) (sym e)
finished g m n (inr step) = means g m n calls.Finish calls.Nothing step

pub posts : (g : Setting) (m n : Machine) (rank comm : ℕ) (plan : Planned) (bytes : List ℕ) (t : Ticket)
    → StepsTo g m (calls.Post rank comm plan bytes) (calls.Ticketed t) n
    → (place : ℕ) × Posts g m.state rank t comm place plan bytes n.state
posts g m n rank comm plan bytes t h =
    let p = means g m h.0 (calls.Post rank comm plan bytes) (calls.Ticketed t) h.1 in
    (p.0, subst (λ (u : State). Posts g m.state rank t comm p.0 plan bytes u) (sym (finished g h.0 n h.2)) p.1)

pub starts : (g : Setting) (m n : Machine) (rank : ℕ) (t : Ticket) (bytes : List ℕ) → StepsTo g m (calls.Start rank t bytes) calls.Nothing n
    → (begin : ℕ) × Starts g m.state rank t begin bytes n.state
starts g m n rank t bytes h =
    let p = means g m h.0 (calls.Start rank t bytes) calls.Nothing h.1 in
    (p.0, subst (λ (u : State). Starts g m.state rank t p.0 bytes u) (sym (finished g h.0 n h.2)) p.1)

-- ---- what the ticket names afterwards

found_there : (s : State) (t : Ticket) (o : Option Request) → s.generation t.slot ≡ t.generation → s.request t.slot ≡ o → found s t ≡ o
found_there s t o generation request = cond-true (eqb (s.generation t.slot) t.generation) (s.request t.slot) None (eq-eqb _ _ generation) ∙ request

pub found_posted : (g : Setting) (s u : State) (rank : ℕ) (t : Ticket) (comm place : ℕ) (plan : Planned) (bytes : List ℕ)
    → (p : Posts g s rank t comm place plan bytes u)
    → found u t ≡ Some (once_more (new_request rank comm p.member place Once))
found_posted g s u rank t comm place plan bytes p =
    let q = new_request rank comm p.member place Once in
    ap (λ (w : State). found w t) p.leaves
    ∙ found_there (started (created s t q plan.sig) t.slot q bytes) t (Some (once_more q))
    (put_same s.generation t.slot t.generation) (put_same (put s.request t.slot (Some q)) t.slot (Some (once_more q)))

pub found_inited : (g : Setting) (s u : State) (rank : ℕ) (t : Ticket) (comm place : ℕ) (plan : Planned) → (p : Inits g s rank t comm place plan u)
    → found u t ≡ Some (new_request rank comm p.member place Persistent)
found_inited g s u rank t comm place plan p =
    let q = new_request rank comm p.member place Persistent in
    ap (λ (w : State). found w t) p.leaves
    ∙ found_there (created s t q plan.sig) t (Some q) (put_same s.generation t.slot t.generation) (put_same s.request t.slot (Some q))

pub found_started : (g : Setting) (s u : State) (rank : ℕ) (t : Ticket) (begin : ℕ) (bytes : List ℕ) → (p : Starts g s rank t begin bytes u)
    → found u t ≡ Some (once_more p.request)
found_started g s u rank t begin bytes p =
    ap (λ (w : State). found w t) p.leaves
    ∙ found_there (started s t.slot p.request bytes) t (Some (once_more p.request)) (found_is s t p.request p.is).0
    (put_same s.request t.slot (Some (once_more p.request)))
