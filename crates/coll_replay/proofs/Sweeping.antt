-- What requests are, and those that a completion call completes.
use Rattle.std.proofs.Common.{◌≡◌, ◌⊎◌, inl, inr, ℕ, ◌<◌, Bool, true, false, ◌||◌, eqb, eqb-true, eq-eqb}
use Rattle.std.proofs.Common.{List, [], ◌∷◌, length, get_or, refl, sym, ap, subst, ◌∙◌}
use Rattle.std.proofs.Common.{zero, suc, Result, Ok, Err, arith}
use Rattle.std.proofs.lemmas.Bool.{or_cases, or_left, or_parts, or_right}
use Rattle.std.specs.Prelude.{IfOk, IsTrue}
use Rattle.std.specs.List.{list_any}
use Rattle.coll_kinds.specs.declared.refusal.Refusal.{Refusal}
use Rattle.coll_kinds.specs.Common.{is_among}
use Rattle.coll_machine.specs.Common.{Machine, Setting}
use Rattle.coll_verdict.specs.Standings.{Completes, Holding, holding_at, kept}
use Rattle.coll_verdict.specs.Standings as standings
use Rattle.coll_replay.specs.Calls.{CompletedIf}

-- ---- what some request of a list passes, or none

-- what some request of a list passes, one that is named passes
pub any_among : (f : ℕ → Bool) (qs : List ℕ) → list_any f qs ≡ true → (q : ℕ) × (is_among q qs ≡ true) × (f q ≡ true)
any_among f [] e = absurd cc
any_among f (x ∷ qs) e = go (λ e. any_among f qs e) (f x) refl e
  where
    go : (list_any f qs ≡ true → (q : ℕ) × (is_among q qs ≡ true) × (f q ≡ true)) → (b : Bool) → f x ≡ b → (b || list_any f qs) ≡ true
        → (q : ℕ) × (is_among q (x ∷ qs) ≡ true) × (f q ≡ true)
    go rest true is e = (x, or_left (eqb x x) (is_among x qs) (eq-eqb x x refl), is)
    go rest false is e = let r = rest e in (r.0, or_right (eqb x r.0) (is_among r.0 qs) r.1, r.2)

-- what none of a list passes, none that is named passes
pub none_among : (f : ℕ → Bool) (qs : List ℕ) → list_any f qs ≡ false → (q : ℕ) → is_among q qs ≡ true → f q ≡ false
none_among f [] e q among = absurd cc
none_among f (x ∷ qs) e q among = go (λ e among. none_among f qs e q among) (or_parts (f x) (list_any f qs) e) (or_cases (eqb x q) (is_among q qs) among)
  where
    go : (list_any f qs ≡ false → is_among q qs ≡ true → f q ≡ false) → (f x ≡ false) × (list_any f qs ≡ false)
        → (eqb x q ≡ true) ⊎ (is_among q qs ≡ true) → f q ≡ false
    go rest none (inl same) = ap f (sym (eqb-true x q same)) ∙ none.0
    go rest none (inr among) = rest none.1 among

-- the request at some place of a list is among them
pub among_at : (qs : List ℕ) (i q : ℕ) → i < length qs → q ≡ get_or qs i 0 → is_among q qs ≡ true
among_at [] i q low is = absurd (omega arith)
among_at (x ∷ qs) zero q low is = or_left (eqb x q) (is_among q qs) (eq-eqb x q (sym is))
among_at (x ∷ qs) (suc i) q low is = let less : i < length qs = omega arith in or_right (eqb x q) (is_among q qs) (among_at qs i q less is)

-- ---- the requests that are completed, one after the other

more : (g : Setting) (rank : ℕ) (qs : List ℕ) (m n last : Machine) (h i final : Holding) → Completes g rank qs m h n i
    → Completes g rank qs n i last final → Completes g rank qs m h last final
more g rank qs m _ last h _ final standings.none rest = rest
more g rank qs m _ last h _ final (standings.another {n = mid} {last = n} {i = i} q comm place start bytes t among held step before) rest =
    standings.another q comm place start bytes t among held step
    (more g rank qs mid n last (holding_at h q (kept mid.state t)) i final before rest)

pub completes_if : (b : Bool) (g : Setting) (rank : ℕ) (qs : List ℕ) (q : ℕ) (m n last : Machine) (h i final : Holding)
    → is_among q qs ≡ true → Completes g rank qs m h n i → CompletedIf b g rank q n last i final → Completes g rank qs m h last final
completes_if true g rank qs q m n last h i final among before done =
    more g rank qs m n last h i final before
    (standings.another q done.comm done.place done.start done.bytes done.ticket among done.held done.step
    (subst (λ (h : Holding). Completes g rank qs last (holding_at i q (kept last.state done.ticket)) last h) (sym done.leaves) standings.none))
completes_if false g rank qs q m n last h i final among before same =
    subst (λ (h' : Holding). Completes g rank qs m h last h') (sym same.1) (subst (λ (n' : Machine). Completes g rank qs m h n' i) (sym same.0) before)

-- ---- answers

pub if_so : {X Y : Type 0} (result : Result Bool Refusal) → (X → Y) → IfOk result (λ is_so. IsTrue is_so → X) → IfOk result (λ is_so. IsTrue is_so → Y)
if_so (Ok is_so) f so = λ yes. f (so yes)
if_so (Err why) f so = tt
