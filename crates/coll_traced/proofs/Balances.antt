-- A rank has as many active requests as it has posts and starts beyond its completions.
use Rattle.std.proofs.Common.{◌≡◌, ℕ, zero, suc, ◌+◌, ◌<◌, ◌≤◌, ◌⊎◌, inl, inr, Bool, true, false, cond, eqb, List, [], ◌∷◌, ◌++◌, Option, Some, None}
use Rattle.std.proofs.Common.{refl, sym, ap, subst, ◌∙◌, arith}
use Rattle.std.specs.Prelude.{◌&&◌, count_by}
use Rattle.std.proofs.lemmas.Bool.{cases_eq, eqb-true, eq-eqb, and_parts}
use Rattle.std.proofs.lemmas.List.Sums.{sum_by-cons}
use Rattle.coll_kinds.specs.declared.kind.Mode.{Mode}
use Rattle.coll_kinds.specs.declared.kind.Mode.TheVariants.{Once, Persistent}
use Rattle.coll_kinds.specs.Puts.{put}
use Rattle.coll_kinds.proofs.Puts.{put_same}
use Rattle.coll_machine.specs.Common.{Setting, AreGroups, Request, State, nothing, key_of, new_request, once_more, rested, rested_by, holding, Clears}
use Rattle.coll_machine.specs.Common.{Entry, Posted, Inited, Started, Retired, Freed, Enters, Leads, over_slots}
use Rattle.coll_machine.proofs.Accepted.{found_is, started_mine, retired_mine, freed_mine}
use Rattle.coll_machine.proofs.Held.{traces_are_posted}
use Rattle.coll_machine.proofs.Members.{member_at}
use Rattle.coll_machine.proofs.Slots.{Slots, over_put, live_low}
use Rattle.coll_machine.proofs.Tracing.{leads_push}
use Rattle.coll_report.specs.Told.{IsIdle}
use Rattle.coll_report.specs.Traces.{completes_by}
use Rattle.coll_traced.specs.Closings.{IsBusy, begins_by}

abbrev one_if : Bool → ℕ
one_if b = cond b 1 0

abbrev busy_for : ℕ → Option Request → ℕ
busy_for r None = 0
busy_for r (Some q) = one_if (q.active && eqb q.rank r)

abbrev busy : Setting → ℕ → Slots → ℕ
busy g r request = over_slots (busy_for r) request g.slots

-- of an idle and of an active request
when_idle : (r : ℕ) (q : Request) → q.active ≡ false → busy_for r (Some q) ≡ 0
when_idle r q e = ap (λ b. one_if (b && eqb q.rank r)) e

when_active : (r rank : ℕ) (q : Request) → q.active ≡ true → q.rank ≡ rank → busy_for r (Some q) ≡ one_if (eqb rank r)
when_active r rank q e of = λ z. one_if (e z && eqb (of z) r)

when_rested : (r : ℕ) (q : Request) (mode : Mode) → busy_for r (rested_by mode q) ≡ 0
when_rested r q Once = refl
when_rested r q Persistent = refl

changes : (g : Setting) (r : ℕ) (s u : State) (es : List Entry) (e : Entry) → Leads g nothing es s → Enters g s e u
    → busy g r u.request + one_if (completes_by r e) ≡ busy g r s.request + one_if (begins_by r e)
changes g r s u es (Posted rank t comm place sig bytes) l h =
    let p = h.2 in
    let q : Request = new_request rank comm p.member place Once in
    let one : busy g r (put s.request t.slot (Some q)) + busy_for r (s.request t.slot) ≡ busy g r s.request + 0 =
    over_put (busy_for r) s.request t.slot (Some q) g.slots p.new.low in
    let two : busy g r (put (put s.request t.slot (Some q)) t.slot (Some (once_more q))) + busy_for r (put s.request t.slot (Some q) t.slot)
    ≡ busy g r (put s.request t.slot (Some q)) + one_if (eqb rank r) =
    over_put (busy_for r) (put s.request t.slot (Some q)) t.slot (Some (once_more q)) g.slots p.new.low in
    let spare : busy_for r (s.request t.slot) ≡ 0 = ap (busy_for r) p.new.spare in
    let idle : busy_for r (put s.request t.slot (Some q) t.slot) ≡ 0 = ap (busy_for r) (put_same s.request t.slot (Some q)) in
    let leaves : busy g r u.request ≡ busy g r (put (put s.request t.slot (Some q)) t.slot (Some (once_more q))) =
    ap (λ (s : State). busy g r s.request) p.leaves in
    omega arith
changes g r s u es (Inited rank t comm place sig) l h =
    let p = h.2 in
    let q : Request = new_request rank comm p.member place Persistent in
    let one : busy g r (put s.request t.slot (Some q)) + busy_for r (s.request t.slot) ≡ busy g r s.request + 0 =
    over_put (busy_for r) s.request t.slot (Some q) g.slots p.new.low in
    let spare : busy_for r (s.request t.slot) ≡ 0 = ap (busy_for r) p.new.spare in
    let leaves : busy g r u.request ≡ busy g r (put s.request t.slot (Some q)) = ap (λ (s : State). busy g r s.request) p.leaves in
    omega arith
changes g r s u es (Started rank t start bytes) l p =
    let q = p.request in
    let here = (found_is s t q p.is).1 in
    let low = live_low g s es l t.slot q here in
    let mine = started_mine g s rank t bytes q p.is p.accepted in
    let one : busy g r (put s.request t.slot (Some (once_more q))) + busy_for r (s.request t.slot) ≡ busy g r s.request + busy_for r (Some (once_more q)) =
    over_put (busy_for r) s.request t.slot (Some (once_more q)) g.slots low in
    let now : busy_for r (Some (once_more q)) ≡ one_if (eqb rank r) = when_active r rank (once_more q) refl mine.rank_is in
    let idle : busy_for r (s.request t.slot) ≡ 0 = ap (busy_for r) here ∙ when_idle r q mine.idle in
    let leaves : busy g r u.request ≡ busy g r (put s.request t.slot (Some (once_more q))) = ap (λ (s : State). busy g r s.request) p.leaves in
    omega arith
changes g r s u es (Retired rank t comm place start bytes) l p =
    let q = p.request in
    let here = (found_is s t q p.is).1 in
    let low = live_low g s es l t.slot q here in
    let one : busy g r (put s.request t.slot (rested q)) + busy_for r (s.request t.slot) ≡ busy g r s.request + busy_for r (rested q) =
    over_put (busy_for r) s.request t.slot (rested q) g.slots low in
    let was : busy_for r (s.request t.slot) ≡ one_if (eqb rank r) =
    ap (busy_for r) here ∙ when_active r rank q p.ready.active (retired_mine g s rank t q p.is p.accepted) in
    let is : busy_for r (rested q) ≡ 0 = when_rested r q q.mode in
    let leaves : busy g r u.request ≡ busy g r (put s.request t.slot (rested q)) = go p.leaves in
    omega arith
  where
    go : Clears g (holding s t.slot (rested p.request)) (key_of p.request start) u → busy g r u.request ≡ busy g r (put s.request t.slot (rested p.request))
    go (inl a) = ap (λ (s : State). busy g r s.request) a.1
    go (inr a) = ap (λ (s : State). busy g r s.request) a.1
changes g r s u es (Freed rank t) l p =
    let f = freed_mine g s rank t p.accepted in
    let low = live_low g s es l t.slot f.request f.is in
    let one : busy g r (put s.request t.slot None) + busy_for r (s.request t.slot) ≡ busy g r s.request + 0 =
    over_put (busy_for r) s.request t.slot None g.slots low in
    let idle : busy_for r (s.request t.slot) ≡ 0 = ap (busy_for r) f.is ∙ when_idle r f.request f.idle_of.idle in
    let leaves : busy g r u.request ≡ busy g r (put s.request t.slot None) = ap (λ (s : State). busy g r s.request) p.leaves in
    omega arith

-- es led to s
balance_from : (g : Setting) (r : ℕ) (s u : State) (es fs : List Entry) → Leads g nothing es s → Leads g s fs u
    → busy g r u.request + count_by (completes_by r) fs ≡ busy g r s.request + count_by (begins_by r) fs
balance_from g r s u es [] l same = ap (λ (s : State). busy g r s.request + 0) (sym same)
balance_from g r s u es (e ∷ fs) l more =
    let next = more.0 in
    let one : busy g r next.request + one_if (completes_by r e) ≡ busy g r s.request + one_if (begins_by r e) = changes g r s next es e l more.1 in
    let rest : busy g r u.request + count_by (completes_by r) fs ≡ busy g r next.request + count_by (begins_by r) fs =
    balance_from g r next u (es ++ e ∷ []) fs (leads_push g nothing s next es e l more.1) more.2 in
    let ended : count_by (completes_by r) (e ∷ fs) ≡ one_if (completes_by r e) + count_by (completes_by r) fs =
    sum_by-cons (λ e. one_if (completes_by r e)) e fs in
    let begun : count_by (begins_by r) (e ∷ fs) ≡ one_if (begins_by r e) + count_by (begins_by r) fs = sum_by-cons (λ e. one_if (begins_by r e)) e fs in
    omega arith

none_busy : (r n : ℕ) → over_slots (busy_for r) (λ slot. None) n ≡ 0
none_busy r zero = refl
none_busy r (suc n) = λ z. none_busy r n z + 0

balance : (g : Setting) (r : ℕ) (u : State) (es : List Entry) → Leads g nothing es u
    → busy g r u.request + count_by (completes_by r) es ≡ count_by (begins_by r) es
balance g r u es l =
    let from : busy g r u.request + count_by (completes_by r) es ≡ busy g r nothing.request + count_by (begins_by r) es =
    balance_from g r nothing u [] es refl l in
    let none : busy g r nothing.request ≡ 0 = none_busy r g.slots in
    omega arith

-- ---- what the sum tells of the requests

part_of : (f : Option Request → ℕ) (request : Slots) (i n : ℕ) → i < n → f (request i) ≤ over_slots f request n
part_of f request i zero lt = absurd (omega arith)
part_of f request i (suc n) lt = go (cases_eq i n) (λ low. part_of f request i n low)
  where
    go : (i ≡ n) ⊎ (i ≡ n → ⊥) → (i < n → f (request i) ≤ over_slots f request n) → f (request i) ≤ over_slots f request n + f (request n)
    go (inl e) rest = let same : f (request i) ≡ f (request n) = ap (λ i. f (request i)) e in omega arith
    go (inr d) rest = let low : i < n = omega (arith, d, lt) in let part : f (request i) ≤ over_slots f request n = rest low in omega arith

busy_counts : (g : Setting) (r : ℕ) (u : State) (es : List Entry) → Leads g nothing es u → IsBusy u r → 0 < busy g r u.request
busy_counts g r u es l b =
    let low = live_low g u es l b.slot b.request b.is in
    let one : busy_for r (u.request b.slot) ≡ 1 = ap (busy_for r) b.is ∙ (when_active r r b.request b.active b.rank_is ∙ ap one_if (eq-eqb r r refl)) in
    let part : busy_for r (u.request b.slot) ≤ busy g r u.request = part_of (busy_for r) u.request b.slot g.slots low in
    omega arith

counted_busy : (r : ℕ) (u : State) (n : ℕ) → 0 < over_slots (busy_for r) u.request n → IsBusy u r
counted_busy r u zero lt = absurd (omega arith)
counted_busy r u (suc n) lt = go (u.request n) refl
    (λ none. counted_busy r u n
    (let here : busy_for r (u.request n) ≡ 0 = none in let some : 0 < over_slots (busy_for r) u.request n + busy_for r (u.request n) = lt in omega arith))
  where
    at : (q : Request) → u.request n ≡ Some q → (b : Bool) → (q.active && eqb q.rank r) ≡ b → (busy_for r (u.request n) ≡ 0 → IsBusy u r) → IsBusy u r
    at q is true e below = let parts = and_parts _ _ e in record { slot = n; request = q; is = is; rank_is = eqb-true _ _ parts.1; active = parts.0 }
    at q is false e below = below (ap (busy_for r) is ∙ ap one_if e)

    go : (o : Option Request) → u.request n ≡ o → (busy_for r (u.request n) ≡ 0 → IsBusy u r) → IsBusy u r
    go None is below = below (ap (busy_for r) is)
    go (Some q) is below = at q is (q.active && eqb q.rank r) refl below

-- ---- the test

-- a rank whose completions are as many as its posts and starts has no active request
pub balanced : (g : Setting) (r : ℕ) (u : State) (es : List Entry) → Leads g nothing es u
    → count_by (begins_by r) es ≡ count_by (completes_by r) es → IsBusy u r → ⊥
balanced g r u es l same b =
    let sum : busy g r u.request + count_by (completes_by r) es ≡ count_by (begins_by r) es = balance g r u es l in
    let some : 0 < busy g r u.request = busy_counts g r u es l b in
    omega arith

pub unbalanced : (g : Setting) (r : ℕ) (u : State) (es : List Entry) → Leads g nothing es u
    → (count_by (begins_by r) es ≡ count_by (completes_by r) es → ⊥) → IsBusy u r
unbalanced g r u es l other =
    let sum : busy g r u.request + count_by (completes_by r) es ≡ count_by (begins_by r) es = balance g r u es l in
    counted_busy r u g.slots (positive (busy g r u.request) refl sum)
  where
    positive : (n : ℕ) → busy g r u.request ≡ n → busy g r u.request + count_by (completes_by r) es ≡ count_by (begins_by r) es → 0 < busy g r u.request
    positive zero is sum = absurd (other (omega arith))
    positive (suc n) is sum = omega arith

-- requests are of ranks of the engine
live_rank : (g : Setting) (u : State) (es : List Entry) → AreGroups g → Leads g nothing es u → (slot : ℕ) (q : Request)
    → u.request slot ≡ Some q → q.rank < g.ranks
live_rank g u es groups l slot q is =
    let posted = (traces_are_posted g u es l).posted slot q is in
    let at = member_at g q.comm q.rank q.member posted.member_is in
    subst (λ r. r < g.ranks) at.1 ((groups q.comm).below q.member at.0)

pub all_balanced : (g : Setting) (u : State) (es : List Entry) → AreGroups g → Leads g nothing es u
    → ((r : ℕ) → r < g.ranks → count_by (begins_by r) es ≡ count_by (completes_by r) es) → IsIdle u
all_balanced g u es groups l same slot q is = go q.active refl
  where
    go : (b : Bool) → q.active ≡ b → q.active ≡ false
    go false e = e
    go true e = absurd (balanced g q.rank u es l (same q.rank (live_rank g u es groups l slot q is))
        (record { slot = slot; request = q; is = is; rank_is = refl; active = e }))
