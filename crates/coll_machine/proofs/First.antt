-- The lowest member that has a place, and what it says where no member's signature there differs.
use Rattle.std.proofs.Common.{◌≡◌, ℕ, zero, suc, ◌+◌, ◌<◌, ◌≤◌, ◌⊎◌, inl, inr, List, Option, Some, None, refl, sym, ap, ◌∙◌, arith}
use Rattle.std.specs.Prelude.{slice_get, option_map, option_and_then}
use Rattle.std.specs.Option.{option_or}
use Rattle.std.proofs.lemmas.Option.{none-some}
use Rattle.std.proofs.lemmas.Bool.{cases_eq}
use Rattle.coll_kinds.specs.declared.signature.Signature.{Signature}
use Rattle.coll_kinds.specs.Common.{mismatch_at, same_signature}
use Rattle.coll_kinds.proofs.Sameness.{same_signature-Decides}
use Rattle.coll_machine.specs.Common.{Setting, group, size, rank_of, State, unless, first_there, mismatch_in}
use Rattle.coll_machine.proofs.Accepted.{fits}

pub record There (lists : ℕ → List Signature) (place from n : ℕ) : Type 0 where
  pub member : ℕ
  pub sig : Signature
  pub is : first_there lists place from n ≡ Some (member, sig)
  pub low : member < from + n
  pub has : slice_get (lists member) place ≡ Some sig

-- where one of them has the place, there is a lowest that has it
pub there_is : (lists : ℕ → List Signature) (place from n b : ℕ) (y : Signature) → from ≤ b → b < from + n
    → slice_get (lists b) place ≡ Some y → There lists place from n
there_is lists place from zero b y le lt e = absurd (omega arith)
there_is lists place from (suc n) b y le lt e =
    go (slice_get (lists from) place) refl (cases_eq b from) (λ above. there_is lists place (from + 1) n b y above (omega arith) e)
  where
    go : (o : Option Signature) → slice_get (lists from) place ≡ o → (b ≡ from) ⊎ (b ≡ from → ⊥)
        → (from + 1 ≤ b → There lists place (from + 1) n) → There lists place from (suc n)
    go (Some z) is c rest =
        record {
          member = from;
          sig = z;
          is =
              ap (λ (o : Option Signature). option_or (option_map (λ sig. (from, sig)) o) (first_there lists place (from + 1) n)) is;
          low = omega arith;
          has = is;
        }
    go None is (inl c) rest = absurd (none-some y (sym is ∙ (ap (λ m. slice_get (lists m) place) (sym c) ∙ e)))
    go None is (inr d) rest =
        let r = rest (omega arith) in
        let below : r.member < (from + 1) + n = r.low in
        record {
          member = r.member;
          sig = r.sig;
          is =
              ap (λ (o : Option Signature). option_or (option_map (λ sig. (from, sig)) o) (first_there lists place (from + 1) n)) is ∙ r.is;
          low =
              omega arith;
          has = r.has;
        }

-- without a mismatch the lowest member that has the place has this signature there
pub agrees_with : (g : Setting) (s : State) (comm place b : ℕ) (sig y : Signature)
    → mismatch_in (group g comm) (s.posts comm) place sig ≡ None → b < size g comm → slice_get (s.posts comm b) place ≡ Some y
    → (member : ℕ) × (member < size g comm) × (slice_get (s.posts comm member) place ≡ Some sig)
agrees_with g s comm place b sig y e lt has =
    let t = there_is (s.posts comm) place 0 (size g comm) b y (omega arith) (omega arith) has in
    let low : t.member < 0 + size g comm = t.low in
    let same = fits (same_signature t.sig sig) (mismatch_at place (rank_of g comm t.member) t.sig)
    (ap (λ (o : Option (ℕ × Signature)). option_and_then
    (λ first. unless (same_signature first.1 sig) (mismatch_at place (rank_of g comm first.0) first.1)) o) (sym t.is) ∙ e) in
    (t.member, omega arith, t.has ∙ ap Some ((same_signature-Decides t.sig sig).0 same))
