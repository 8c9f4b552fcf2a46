-- regions of several blocks: where they lie, and that what is moved as one region is moved block by block
use Rattle.std.proofs.Common.{◌≡◌, ℕ, ◌+◌, ◌-◌, ◌*◌, ◌<◌, ◌≤◌, List, take, drop, sym, ap, ◌∙◌, arith, drop-drop}
use Rattle.std.proofs.lemmas.List.{drop-take, take-take}
use Rattle.std.proofs.Math.Nat.{add-mul, mul-le-mul_right}
use Rattle.coll_sched.specs.Regions.{Inside, Apart, read_of}
use Rattle.coll_plans.specs.BruckAllgather.{blocks_at}

pub blocks_inside : (b n k c : ℕ) → k + c ≤ n + n → Inside (n * b + n * b) (blocks_at b k c)
blocks_inside b n k c h =
    let l : (k + c) * b ≤ (n + n) * b = mul-le-mul_right b h in
    omega (arith, add-mul k c b, add-mul n n b)

-- blocks that end where the others begin, or before
pub blocks_apart : (b k c l m : ℕ) → k + c ≤ l → Apart (blocks_at b k c) (blocks_at b l m)
blocks_apart b k c l m h i x y z w =
    let e : (k + c) * b ≤ l * b = mul-le-mul_right b h in
    omega (arith, add-mul k c b)

-- a part of a region
read_part : (buf : List ℕ) (a l u m : ℕ) → u + m ≤ l → read_of buf (record { at = a + u; len = m }) ≡ take m (drop u (read_of buf (record { at = a; len = l })))
read_part buf a l u m h =
    let whole : u + (l - u) ≡ l = omega arith in
    sym (ap (λ j. take m (drop u (take j (drop a buf)))) (sym whole)
    ∙ (ap (take m) (drop-take u (l - u) (drop a buf))
    ∙ (take-take m (l - u) (drop u (drop a buf)) (omega arith)
    ∙ ap (take m) (drop-drop u a buf))))

-- block i of them
read_block : (b k c i : ℕ) (buf : List ℕ) → i < c → read_of buf (blocks_at b (k + i) 1) ≡ take (1 * b) (drop (i * b) (read_of buf (blocks_at b k c)))
read_block b k c i buf h =
    let e : (i + 1) * b ≤ c * b = mul-le-mul_right b (let z : i + 1 ≤ c = omega arith in z) in
    ap (λ a. read_of buf (record { at = a; len = 1 * b })) (add-mul k i b)
    ∙ read_part buf (k * b) (c * b) (i * b) (1 * b) (omega (arith, add-mul i 1 b))

-- regions with the same bytes have the same blocks
pub same_block : (b k l c i : ℕ) (xs ys : List ℕ) → i < c → read_of xs (blocks_at b k c) ≡ read_of ys (blocks_at b l c)
    → read_of xs (blocks_at b (k + i) 1) ≡ read_of ys (blocks_at b (l + i) 1)
same_block b k l c i xs ys h e = read_block b k c i xs h ∙ (ap (λ zs. take (1 * b) (drop (i * b) zs)) e ∙ sym (read_block b l c i ys h))
