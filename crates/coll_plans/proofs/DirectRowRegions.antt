-- where the rows of members, of different lengths, lie
use Rattle.std.proofs.Common.{◌≡◌, ℕ, zero, suc, ◌+◌, ◌-◌, ◌<◌, ◌≤◌, ◌≢◌, ◌⊎◌, inl, inr, List, [], ◌∷◌, ◌++◌, take, drop, length, sym, ap, ◌∙◌, arith}
use Rattle.std.proofs.lemmas.Bool.{cases_lt}
use Rattle.coll_kinds.specs.Lengths.{total}
use Rattle.coll_ops.specs.Values.{row_of, all_rows}
use Rattle.coll_sched.specs.Regions.{Apart, read_of}
use Rattle.coll_sched.proofs.Builders.{read_split}
use Rattle.coll_plans.specs.DirectFamilies.{row_at}

-- more rows have as many bytes, or more
pub total_grows : (rows : ℕ → ℕ) (k c : ℕ) → total rows k ≤ total rows (k + c)
total_grows rows k zero = let z : k + 0 ≡ k = omega arith in rw z (omega arith)
total_grows rows k (suc c) =
    let rest : total rows k ≤ total rows (k + c) = total_grows rows k c in
    let z : k + suc c ≡ suc (k + c) = omega arith in
    rw z (omega (arith, rest))

-- row i of n ends where all of them end, or before
pub row_within : (rows : ℕ → ℕ) (i n : ℕ) → i < n → total rows i + rows i ≤ total rows n
row_within rows i n h =
    let z : suc i + (n - suc i) ≡ n = omega arith in
    let l : total rows (suc i) ≤ total rows (suc i + (n - suc i)) = total_grows rows (suc i) (n - suc i) in
    let e : total rows (suc i + (n - suc i)) ≡ total rows n = ap (total rows) z in
    omega (arith, l, e)

pub rows_apart : (rows : ℕ → ℕ) (i k : ℕ) → i ≢ k → Apart (row_at rows i) (row_at rows k)
rows_apart rows i k d = go (cases_lt i k)
  where
    go : (i < k) ⊎ (k ≤ i) → Apart (row_at rows i) (row_at rows k)
    go (inl h) m x y z w = let l : total rows i + rows i ≤ total rows k = row_within rows i k h in omega arith
    go (inr h) m x y z w = let l : total rows k + rows k ≤ total rows i = row_within rows k i (omega arith) in omega arith

-- where each row lies in its place, they lie joined
pub read-rows : (rows : ℕ → ℕ) (buf : List ℕ) (given : List (List ℕ)) (k : ℕ)
    → ((i : ℕ) → i < length given → read_of buf (row_at rows (k + i)) ≡ row_of given i)
    → read_of buf (record { at = total rows k; len = total rows (k + length given) - total rows k }) ≡ all_rows given
read-rows rows buf [] k h =
    let z : k + 0 ≡ k = omega arith in
    let e : total rows (k + 0) ≡ total rows k = ap (total rows) z in
    ap (λ l. take l (drop (total rows k) buf)) (let n : total rows (k + 0) - total rows k ≡ 0 = omega (arith, e) in n)
read-rows rows buf (row ∷ given) k h =
    let z : k + 0 ≡ k = omega arith in
    let first : read_of buf (row_at rows k) ≡ row = ap (λ m. read_of buf (row_at rows m)) (sym z) ∙ h 0 (omega arith) in
    let s : k + suc (length given) ≡ suc k + length given = omega arith in
    let all : total rows (k + suc (length given)) ≡ total rows (suc k + length given) = ap (total rows) s in
    let grows : total rows (suc k) ≤ total rows (suc k + length given) = total_grows rows (suc k) (length given) in
    let split : total rows (k + suc (length given)) - total rows k ≡ rows k + (total rows (suc k + length given) - total rows (suc k)) =
    omega (arith, all, grows) in
    ap (λ l. take l (drop (total rows k) buf)) split
    ∙ (read_split buf (total rows k) (rows k) (total rows (suc k + length given) - total rows (suc k))
    ∙ (ap (λ xs. xs ++ read_of buf (record { at = total rows (suc k); len = total rows (suc k + length given) - total rows (suc k) })) first
    ∙ ap (λ xs. row ++ xs) (read-rows rows buf given (suc k)
    (λ i low. ap (λ m. read_of buf (row_at rows m)) (let e : suc k + i ≡ k + suc i = omega arith in e) ∙ h (suc i) (omega arith)))))
