-- How many requests of a rank stand on a communicator, counted so far.
use Rattle.std.proofs.Common.{◌≡◌, ℕ, ◌+◌, ◌<◌, ◌≤◌, Bool, true, false, cond, eqb, List, [], ◌∷◌, ◌++◌, take, drop, set, length, refl, ap, sym, ◌∙◌}
use Rattle.std.proofs.Common.{arith, inl, inr}
use Rattle.std.specs.Prelude.{slice_index}
use Rattle.std.proofs.lemmas.Bool.{cases_eq, eq-eqb, ne_eqb}
use Rattle.std.proofs.lemmas.List.{length-append, get_or-set_same, get_or-set_other}
use Rattle.std.proofs.lemmas.List.Elements.{filter-append}
use Rattle.coll_parser.specs.Requests.{Request}
use Rattle.coll_script.specs.Postings.{is_on, posted_on}
use Rattle.coll_script.proofs.Loops.{take-next}

posted-push : (comm : ℕ) (xs : List Request) (p : Request)
    → length (posted_on comm (xs ++ p ∷ [])) ≡ length (posted_on comm xs) + cond (eqb p.comm comm) 1 0
posted-push comm xs p =
    ap length (filter-append (is_on comm) xs (p ∷ [])) ∙ length-append (posted_on comm xs) (posted_on comm (p ∷ []))
    ∙ ap (λ n. length (posted_on comm xs) + n) (one (eqb p.comm comm))
  where
    one : (b : Bool) → length (cond b (p ∷ []) []) ≡ cond b 1 0
    one true = refl
    one false = refl

pub counted-more : (places : List ℕ) (number : ℕ) (requests : List Request) (p : Request) → length places ≡ 16
    → p.comm < 16 → drop number requests ≡ p ∷ drop (number + 1) requests
    → ((comm : ℕ) → comm < 16 → slice_index places comm ≡ length (posted_on comm (take number requests)))
    → (comm : ℕ) → comm < 16
    → slice_index (set places p.comm (slice_index places p.comm + 1)) comm
    ≡ length (posted_on comm (take (number + 1) requests))
counted-more places number requests p len known front counted comm lt =
    let next : length (posted_on comm (take (number + 1) requests))
    ≡ length (posted_on comm (take number requests)) + cond (eqb p.comm comm) 1 0 =
    ap (λ (l : List Request). length (posted_on comm l)) (take-next requests number p front)
    ∙ posted-push comm (take number requests) p in
    elim (cases_eq p.comm comm) [
      | inl e ↦ (let had = counted comm lt in
          let within : p.comm < length places = omega (arith, known, len) in
          ap (slice_index (set places p.comm (slice_index places p.comm + 1))) (sym e)
          ∙ get_or-set_same places p.comm (slice_index places p.comm + 1) 0 within
          ∙ ap (λ c. slice_index places c + 1) e ∙ ap (λ m. m + 1) had
          ∙ sym (next ∙ ap (λ (b : Bool). length (posted_on comm (take number requests)) + cond b 1 0)
          (eq-eqb p.comm comm e)))
      | inr ne ↦ get_or-set_other places p.comm comm (slice_index places p.comm + 1) 0 (λ e. ne (sym e))
          ∙ counted comm lt
          ∙ sym (next ∙ ap (λ (b : Bool). length (posted_on comm (take number requests)) + cond b 1 0)
          (ne_eqb p.comm comm ne)
          ∙ (let nothing : length (posted_on comm (take number requests)) + 0
          ≡ length (posted_on comm (take number requests)) = omega arith in nothing))
    ]

pub length-posted_on : (comm : ℕ) (xs : List Request) → length (posted_on comm xs) ≤ length xs
length-posted_on comm [] = omega arith
length-posted_on comm (x ∷ xs) = turn (is_on comm x) (length-posted_on comm xs)
  where
    turn : (b : Bool) → length (posted_on comm xs) ≤ length xs
        → length (cond b (x ∷ posted_on comm xs) (posted_on comm xs)) ≤ length (x ∷ xs)
    turn true le = omega (arith, le)
    turn false le = omega (arith, le)
