-- Counts that are read one after another into a row that has room for those of all ranks.
use Rattle.std.proofs.Common.{◌≡◌, ℕ, suc, ◌+◌, ◌-◌, ◌<◌, ◌≤◌, List, [], ◌∷◌, ◌++◌, length, replicate, set, Ok, Err, refl, sym, ap, ◌∙◌, append_assoc, arith}
use Rattle.std.proofs.lemmas.List.{length-append, set_at}
use Rattle.coll_kinds.specs.Limits.{max_ranks}
use Rattle.coll_parser.specs.declared.cause.Cause.{Cause}
use Rattle.coll_parser.specs.Lines.{next, count_in, counts_from, counts}

-- the first i of n counts are read, and 0 stands after them
pub record AreCounted (n i : ℕ) (row : List ℕ) (left words : List (List ℕ)) : Type 0 where
  pub so_far : List ℕ
  pub count : length so_far ≡ i
  pub parts : row ≡ so_far ++ replicate (max_ranks - i) 0
  pub read : counts_from so_far (n - i) left ≡ counts_from [] n words

pub AreCounted-none : (n : ℕ) (words : List (List ℕ)) → AreCounted n 0 (replicate max_ranks 0) words words
AreCounted-none n words = record { so_far = []; count = refl; parts = refl; read = (let all : n - 0 ≡ n = omega arith in rw all refl) }

module _ (n i : ℕ) (row : List ℕ) (left words : List (List ℕ)) (are : AreCounted n i row left words) where
  pub AreCounted-more : (c : ℕ) (behind : List (List ℕ)) → i < n → n ≤ max_ranks → next count_in left ≡ Ok (c, behind)
      → AreCounted n (i + 1) (set row i c) behind words
  AreCounted-more c behind lt few is =
      let one_left : n - i ≡ suc (n - (i + 1)) = omega (arith, lt) in
      let one_free : max_ranks - i ≡ suc (max_ranks - (i + 1)) = omega (arith, lt, few) in
      let step : counts_from are.so_far (n - i) left ≡ counts_from (are.so_far ++ c ∷ []) (n - (i + 1)) behind = rw (one_left, is) refl in
      let row_is : row ≡ are.so_far ++ 0 ∷ replicate (max_ranks - (i + 1)) 0 = are.parts ∙ ap (λ k. are.so_far ++ replicate k 0) one_free in
      record {
        so_far = are.so_far ++ c ∷ [];
        count = length-append are.so_far (c ∷ []) ∙ ap (λ k. k + 1) are.count;
        parts = ap (λ (xs : List ℕ). set xs i c) row_is ∙ set_at are.so_far 0 (replicate (max_ranks - (i + 1)) 0) c i are.count
            ∙ sym (append_assoc are.so_far (c ∷ []) (replicate (max_ranks - (i + 1)) 0));
        read = sym step ∙ are.read;
      }

  -- a word that is no count
  pub AreCounted-stops : (cause : Cause) → i < n → next count_in left ≡ Err cause → counts n words ≡ Err cause
  AreCounted-stops cause lt is =
      let one_left : n - i ≡ suc (n - (i + 1)) = omega (arith, lt) in
      let step : counts_from are.so_far (n - i) left ≡ Err cause = rw (one_left, is) refl in
      let all : counts_from [] n words ≡ Err cause = sym are.read ∙ step in
      rw all refl

  pub AreCounted-all : i ≡ n → counts n words ≡ Ok (row, left)
  AreCounted-all last =
      let none_left : n - i ≡ 0 = omega (arith, last) in
      let step : counts_from are.so_far (n - i) left ≡ Ok (are.so_far, left) = rw none_left refl in
      let all : counts_from [] n words ≡ Ok (are.so_far, left) = sym are.read ∙ step in
      rw all (ap (λ k. Ok (are.so_far ++ replicate (max_ranks - k) 0, left)) (sym last) ∙ ap (λ (xs : List ℕ). Ok (xs, left)) (sym are.parts))
