-- Where a block and a row of each member are small in all, what each member gives and gets is.
use Rattle.std.proofs.Common.{◌≡◌, ℕ, zero, suc, ◌<◌, ◌≤◌, ◌+◌, ◌*◌, ◌==◌, Bool, true, false, cond, List, Option, None, refl, ap, arith, inl, inr}
use Rattle.std.proofs.lemmas.Bool.{and_from, cases_lt, le-leb}
use Rattle.std.proofs.lemmas.Nat.{mul-le}
use Rattle.coll_kinds.specs.declared.kind.Kind.{Kind}
use Rattle.coll_kinds.specs.declared.kind.Kind.TheVariants.{Barrier, Bcast, Gather, Scatter, Allgather, Allgatherv, Alltoall, Reduce, Allreduce}
use Rattle.coll_kinds.specs.declared.kind.Kind.TheVariants.{Rsblock, Scan, Exscan}
use Rattle.coll_kinds.specs.declared.signature.Signature.{Signature}
use Rattle.coll_kinds.specs.Common.{max_len, width, block_len, count_at, row_len, total, given_by, given_len, got_by, got_len, sizes_fit}
use Rattle.coll_kinds.specs.Checks.{size_fits}

either-≤ : (test : Bool) (x y w : ℕ) → x ≤ w → y ≤ w → cond test x y ≤ w
either-≤ true x y w first second = first
either-≤ false x y w first second = second

block-≤ : (n b w : ℕ) → 0 < n → b ≤ n * b + w
block-≤ n b w some = let l = mul-le 1 b n b (omega (arith, some)) (omega arith) in omega (arith, l)

row-≤ : (rows : ℕ → ℕ) (n r : ℕ) → r < n → rows r ≤ total rows n
row-≤ rows zero r low = absurd (omega (arith, low))
row-≤ rows (suc n) r low =
    elim (cases_lt r n) [
      | inl before ↦ let l = row-≤ rows n r before in omega (arith, l)
      | inr last ↦ let same : r ≡ n = omega (arith, last, low) in rw same (omega arith)
    ]

module _ (root n r b : ℕ) (rows : ℕ → ℕ) (low : r < n) where
  some : 0 < n
  some = omega (arith, low)

  abbrev all : ℕ
  all = n * b + total rows n

  given_by-≤ : (kind : Kind) → given_by kind root n r b rows ≤ all
  given_by-≤ Barrier = omega arith
  given_by-≤ Bcast = either-≤ (r == root) b 0 all (block-≤ n b (total rows n) some) (omega arith)
  given_by-≤ Gather = block-≤ n b (total rows n) some
  given_by-≤ Scatter = either-≤ (r == root) (n * b) 0 all (omega arith) (omega arith)
  given_by-≤ Allgather = block-≤ n b (total rows n) some
  given_by-≤ Allgatherv = let l = row-≤ rows n r low in omega (arith, l)
  given_by-≤ Alltoall = omega arith
  given_by-≤ Reduce = block-≤ n b (total rows n) some
  given_by-≤ Allreduce = block-≤ n b (total rows n) some
  given_by-≤ Rsblock = omega arith
  given_by-≤ Scan = block-≤ n b (total rows n) some
  given_by-≤ Exscan = block-≤ n b (total rows n) some

  got_by-≤ : (kind : Kind) → got_by kind root n r b rows ≤ all
  got_by-≤ Barrier = omega arith
  got_by-≤ Bcast = block-≤ n b (total rows n) some
  got_by-≤ Gather = either-≤ (r == root) (n * b) 0 all (omega arith) (omega arith)
  got_by-≤ Scatter = block-≤ n b (total rows n) some
  got_by-≤ Allgather = omega arith
  got_by-≤ Allgatherv = omega arith
  got_by-≤ Alltoall = omega arith
  got_by-≤ Reduce = either-≤ (r == root) b 0 all (block-≤ n b (total rows n) some) (omega arith)
  got_by-≤ Allreduce = block-≤ n b (total rows n) some
  got_by-≤ Rsblock = block-≤ n b (total rows n) some
  got_by-≤ Scan = block-≤ n b (total rows n) some
  got_by-≤ Exscan = either-≤ (r == 0) 0 b all (omega arith) (block-≤ n b (total rows n) some)

module _ (sig : Signature) (n : ℕ) (small : n * block_len sig + total (row_len sig) n ≤ max_len) where
  size_fits-small : (r : ℕ) → r < n → size_fits sig n r ≡ true
  size_fits-small r low =
      let given = given_by-≤ sig.root n r (block_len sig) (row_len sig) low sig.kind in
      let got = got_by-≤ sig.root n r (block_len sig) (row_len sig) low sig.kind in
      and_from _ _ (le-leb (given_len sig n r) max_len (omega (arith, given, small))) (le-leb (got_len sig n r) max_len (omega (arith, got, small)))

  sizes_fit-below : (k : ℕ) → k ≤ n → sizes_fit sig n k ≡ true
  sizes_fit-below zero few = refl
  sizes_fit-below (suc k) few = and_from _ _ (sizes_fit-below k (omega (arith, few))) (size_fits-small k few)

-- where a block and a row of each member are small in all, each size is
pub sizes_fit-small : (sig : Signature) (n : ℕ) → n * block_len sig + total (row_len sig) n ≤ max_len → sizes_fit sig n n ≡ true
sizes_fit-small sig n small = sizes_fit-below sig n small n (omega arith)

-- no rows have no bytes
pub total-none : (sig : Signature) (k : ℕ) → sig.each ≡ None → total (row_len sig) k ≡ 0
total-none sig zero none = refl
total-none sig (suc k) none =
    let row : row_len sig k ≡ 0 * width sig.ty = ap (λ (o : Option (List ℕ)). count_at o k * width sig.ty) none in
    omega (arith, row, total-none sig k none)
