-- two rows that are compared a few bytes at a time
use Rattle.std.proofs.Common.{◌≡◌, ℕ, ◌+◌, ◌-◌, ◌≤◌, List, ◌++◌, take, drop, length, min, sym, ap, ◌∙◌, arith}
use Rattle.std.proofs.Math.Seq.{take-add}
use Rattle.coll_sched.specs.declared.region.Region.{Region}
use Rattle.coll_sched.specs.Regions.{read_of}
use Rattle.coll_bytes.proofs.Parts.{read_read}

-- the part of a region after that many of its bytes, and the same places of a row
module _ (buf bytes row : List ℕ) (from part : Region) (done : ℕ) (inside : from.at + from.len ≤ length buf) (within : done + part.len ≤ from.len)
    (at_is : part.at ≡ from.at + done) (row_is : row ≡ read_of bytes (record { at = done; len = part.len })) where
  part_is : read_of buf part ≡ take part.len (drop done (read_of buf from))
  part_is = ap (λ n. take part.len (drop n buf)) at_is ∙ sym (read_read buf from.at from.len done part.len inside within)

  pub same_next : take done (read_of buf from) ≡ take done bytes → read_of buf part ≡ row
      → take (done + part.len) (read_of buf from) ≡ take (done + part.len) bytes
  same_next before same =
      take-add done part.len (read_of buf from)
      ∙ ((λ z. before z ++ (sym part_is ∙ (same ∙ row_is)) z)
      ∙ sym (take-add done part.len bytes))

  -- where the rows are the same, so are their parts
  pub same_few : read_of buf from ≡ bytes → read_of buf part ≡ row
  same_few same = part_is ∙ (ap (λ (b : List ℕ). take part.len (drop done b)) same ∙ sym row_is)

pub within_few : (done len few next : ℕ) → done ≤ len → next ≡ min (len - done) few → done + next ≤ len
within_few done len few next low is = omega arith
