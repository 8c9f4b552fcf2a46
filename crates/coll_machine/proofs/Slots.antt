-- Sums over slots, and live slots.
use Rattle.std.proofs.Common.{◌≡◌, ℕ, zero, suc, ◌+◌, ◌<◌, ◌≤◌, ◌⊎◌, inl, inr, List, [], ◌∷◌, Option, Some, None, refl, sym, ap, subst, ◌∙◌, arith}
use Rattle.std.proofs.lemmas.Option.{none-some}
use Rattle.std.proofs.lemmas.Bool.{cases_eq}
use Rattle.coll_kinds.specs.declared.kind.Mode.TheVariants.{Once, Persistent}
use Rattle.coll_kinds.specs.Puts.{put}
use Rattle.coll_kinds.proofs.Puts.{put_other, put_at, put_cases}
use Rattle.coll_machine.specs.Common.{Setting, Request, State, nothing, key_of, new_request, created, once_more, started, rested, holding, forgotten}
use Rattle.coll_machine.specs.Common.{Clears, Entry, Posted, Inited, Started, Retired, Freed, Enters, Leads, over_slots}
use Rattle.coll_machine.proofs.Accepted.{found_is}

abbrev pub Slots : Type 0
Slots = ℕ → Option Request

over_above : (f : Option Request → ℕ) (request : Slots) (i : ℕ) (o : Option Request) (n : ℕ) → n ≤ i → over_slots f (put request i o) n ≡ over_slots f request n
over_above f request i o zero le = refl
over_above f request i o (suc n) le =
    (λ z. over_above f request i o n (omega arith) z + f (put_other request i o n (λ e. absurd (omega arith)) z))

-- one slot changes
pub over_put : (f : Option Request → ℕ) (request : Slots) (i : ℕ) (o : Option Request) (n : ℕ) → i < n
    → over_slots f (put request i o) n + f (request i) ≡ over_slots f request n + f o
over_put f request i o zero lt = absurd (omega arith)
over_put f request i o (suc n) lt = go (cases_eq i n) (λ low. over_put f request i o n low)
  where
    go : (i ≡ n) ⊎ (i ≡ n → ⊥) → (i < n → over_slots f (put request i o) n + f (request i) ≡ over_slots f request n + f o)
        → (over_slots f (put request i o) n + f (put request i o n)) + f (request i) ≡ (over_slots f request n + f (request n)) + f o
    go (inl e) rest =
        let here : f (put request i o n) ≡ f o = ap f (put_at request i o n (sym e)) in
        let below : over_slots f (put request i o) n ≡ over_slots f request n = over_above f request i o n (omega arith) in
        let same : f (request i) ≡ f (request n) = ap (λ i. f (request i)) e in
        omega arith
    go (inr d) rest =
        let here : f (put request i o n) ≡ f (request n) = ap f (put_other request i o n (λ e. d (sym e))) in
        let low : i < n = omega arith in
        let below : over_slots f (put request i o) n + f (request i) ≡ over_slots f request n + f o = rest low in
        omega arith

-- another measure that is the same of each slot
pub over_same : (f h : Option Request → ℕ) (request : Slots) (n : ℕ) → ((i : ℕ) → f (request i) ≡ h (request i))
    → over_slots f request n ≡ over_slots h request n
over_same f h request zero same = refl
over_same f h request (suc n) same = λ z. over_same f h request n same z + same n z

-- ---- live requests stand in slots below the number of slots

abbrev pub AreLow : Setting → State → Type 0
AreLow g s = (i : ℕ) (q : Request) → s.request i ≡ Some q → i < g.slots

pub low_put : (g : Setting) (request : Slots) (slot : ℕ) (o : Option Request)
    → ((i : ℕ) (q : Request) → request i ≡ Some q → i < g.slots) → ((q : Request) → o ≡ Some q → slot < g.slots)
    → (i : ℕ) (q : Request) → put request slot o i ≡ Some q → i < g.slots
low_put g request slot o low here i q e = go (put_cases request slot o i)
  where
    go : ((i ≡ slot) × (put request slot o i ≡ o)) ⊎ ((i ≡ slot → ⊥) × (put request slot o i ≡ request i)) → i < g.slots
    go (inl a) = subst (λ i. i < g.slots) (sym a.0) (here q (sym a.1 ∙ e))
    go (inr a) = low i q (sym a.1 ∙ e)

low_at : (g : Setting) (s u : State) → u ≡ s → AreLow g s → AreLow g u
low_at g s u e h = subst (AreLow g) (sym e) h

low_enters : (g : Setting) (s u : State) (e : Entry) → AreLow g s → Enters g s e u → AreLow g u
low_enters g s u (Posted rank t comm place sig bytes) low h =
    let p = h.2 in
    let q = new_request rank comm p.member place Once in
    low_at g (started (created s t q h.0.sig) t.slot q bytes) u p.leaves
    (low_put g (put s.request t.slot (Some q)) t.slot (Some (once_more q)) (low_put g s.request t.slot (Some q) low (λ _ _. p.new.low)) (λ _ _. p.new.low))
low_enters g s u (Inited rank t comm place sig) low h =
    let p = h.2 in
    let q = new_request rank comm p.member place Persistent in
    low_at g (created s t q h.0.sig) u p.leaves (low_put g s.request t.slot (Some q) low (λ _ _. p.new.low))
low_enters g s u (Started rank t start bytes) low h =
    low_at g (started s t.slot h.request bytes) u h.leaves
    (low_put g s.request t.slot (Some (once_more h.request)) low (λ _ _. low t.slot h.request (found_is s t h.request h.is).1))
low_enters g s u (Retired rank t comm place start bytes) low h = go h.leaves
  where
    held : AreLow g (holding s t.slot (rested h.request))
    held = low_put g s.request t.slot (rested h.request) low (λ _ _. low t.slot h.request (found_is s t h.request h.is).1)

    go : Clears g (holding s t.slot (rested h.request)) (key_of h.request start) u → AreLow g u
    go (inl a) = low_at g (forgotten (holding s t.slot (rested h.request)) (key_of h.request start)) u a.1 held
    go (inr a) = low_at g (holding s t.slot (rested h.request)) u a.1 held
low_enters g s u (Freed rank t) low h = low_at g (holding s t.slot None) u h.leaves (low_put g s.request t.slot None low (λ q e. absurd (none-some q e)))

low_leads : (g : Setting) (s u : State) (es : List Entry) → AreLow g s → Leads g s es u → AreLow g u
low_leads g s u [] low l = subst (AreLow g) l low
low_leads g s u (e ∷ es) low l = low_leads g l.0 u es (low_enters g s l.0 e low l.1) l.2

pub live_low : (g : Setting) (u : State) (es : List Entry) → Leads g nothing es u → AreLow g u
live_low g u es l = low_leads g nothing u es (λ i q e. absurd (none-some q e)) l
