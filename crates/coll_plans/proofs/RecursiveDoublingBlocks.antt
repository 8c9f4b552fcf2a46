-- the members of a block of corners, whose rows a round's combinations join
use Rattle.std.proofs.Common.{◌≡◌, ℕ, suc, ◌+◌, ◌-◌, ◌*◌, ◌/◌, ◌^◌, ◌<◌, ◌≤◌, ◌⊎◌, inl, inr, None, sym, ap, subst, ◌∙◌, arith, pow_pos}
use Rattle.std.proofs.lemmas.Bool.{cases_lt}
use Rattle.coll_kinds.specs.declared.signature.Signature.{Signature}
use Rattle.coll_kinds.specs.declared.kind.Kind.TheVariants.{Allreduce}
use Rattle.coll_kinds.specs.Common.{broken}
use Rattle.coll_plans.specs.Joins.{JoinsRows}
use Rattle.coll_plans.specs.RecursiveDoublingHypercube.{corner, dimension, extra, lowest}
use Rattle.coll_plans.proofs.RecursiveDoublingHypercube.{corner_in, extra_below, extra_whole, lowest_double, lowest_rises, lowest_single}
use Rattle.coll_plans.proofs.RecursiveDoublingJoins.{block_within}
use Rattle.coll_plans.proofs.RecursiveDoublingAllreduce.{joins_rows}

-- the corners of corner q's block of this size are few, and their members are among n
pub record IsBlock (n e size q : ℕ) : Type 0 where
  pub few : q / size * size + size ≤ 64
  pub rises : lowest e (q / size * size) < lowest e (q / size * size + size)
  pub within : lowest e (q / size * size + size) ≤ n

-- the block of 2 ^ i corners to which member r's corner q belongs
module _ (n r d e i size q : ℕ) (low : r < n) (top : n ≤ 64) (d_is : d ≡ dimension n) (e_is : e ≡ extra n) (step : i ≤ d)
    (size_is : size ≡ 2 ^ i) (q_is : q ≡ corner e r) where
  abbrev begin : ℕ
  begin = q / size * size

  corners : e + 2 ^ d ≡ n
  corners = (λ z. e_is z + 2 ^ d_is z) ∙ extra_whole n (omega (arith, low))

  room : e ≤ 2 ^ d
  room =
      let less : extra n < 2 ^ dimension n = extra_below n (omega (arith, low)) top in
      omega (arith, less, e_is, ap (λ k. 2 ^ k) d_is)

  among : q < 2 ^ d
  among = subst (λ q. q < 2 ^ d) (sym q_is) (corner_in e (2 ^ d) r room (omega (arith, low, corners)))

  block_low : begin + size ≤ 2 ^ d
  block_low = subst (λ s. q / s * s + s ≤ 2 ^ d) (sym size_is) (block_within i d q step among)

  span_within : lowest e (begin + size) ≤ n
  span_within = go (cases_lt (begin + size) e)
    where
      go : (begin + size < e) ⊎ (e ≤ begin + size) → lowest e (begin + size) ≤ n
      go (inl h) = omega (arith, lowest_double e (begin + size) h, block_low, corners, h)
      go (inr h) = omega (arith, lowest_single e (begin + size) h, block_low, corners)

  pub is_block : IsBlock n e size q
  is_block =
      let some : 0 < size = subst (λ s. 0 < s) (sym size_is) (pow_pos i) in
      record { few = omega (arith, block_low, corners, top); rises = lowest_rises e begin (begin + size) (omega (arith, some)); within = span_within }

  pub span_joins : (sig : Signature) (j first last : ℕ) → broken sig n ≡ None → sig.kind ≡ Allreduce → j ≡ suc (i + i)
      → first ≡ lowest e (q / size * size) → last ≡ lowest e (q / size * size + size) → JoinsRows sig n r j first (last - first)
  span_joins sig j first last rules kind round first_is last_is =
      joins_rows sig n r i j first (last - first) rules kind low top (subst (λ d. i ≤ d) d_is step) round
      (first_is ∙ (λ z. lowest (e_is z) (begins z)))
      (let both : first + (last - first) ≡ last = omega (arith, first_is, last_is, is_block.rises) in
      both ∙ (last_is ∙ (λ z. lowest (e_is z) (begins z + size_is z))))
    where
      begins : begin ≡ corner (extra n) r / 2 ^ i * 2 ^ i
      begins = λ z. (q_is ∙ ap (λ e. corner e r) e_is) z / size_is z * size_is z
