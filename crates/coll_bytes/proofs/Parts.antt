-- regions of regions
use Rattle.std.proofs.Common.{◌≡◌, ℕ, ◌+◌, ◌≤◌, List, take, drop, length, arith, length-drop, length-take}
use Rattle.std.proofs.lemmas.List.{places, same_lists}

-- a region of what a region has is a region of the whole
pub read_read : (block : List ℕ) (at len from count : ℕ) → at + len ≤ length block → from + count ≤ len
    → take count (drop from (take len (drop at block))) ≡ take count (drop (at + from) block)
read_read block at len from count outer inner = same_lists _ _ (simp (length-take, length-drop) (omega arith)) (λ k d l. grind (arith, places))
