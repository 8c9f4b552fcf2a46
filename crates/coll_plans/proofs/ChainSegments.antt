-- segments of a block: where they lie, and that together they are the block
use Rattle.std.proofs.Common.{◌≡◌, ℕ, ◌+◌, ◌-◌, ◌*◌, ◌/◌, ◌%◌, ◌<◌, ◌≤◌, ◌⊎◌, inl, inr, min, List, drop, length, get_or, sym, ap, ◌∙◌, arith}
use Rattle.std.proofs.lemmas.Bool.{cases_lt}
use Rattle.std.proofs.lemmas.List.{same_lists, get_or-take, get_or-drop, take_all}
use Rattle.coll_sched.specs.Regions.{Inside, Apart, read_of, front}
use Rattle.coll_plans.specs.ChainBcast.{segment_count, segment}

pub segment_inside : (b i : ℕ) → i < segment_count b → Inside b (segment b i)
segment_inside b i h = omega arith

pub segments_apart : (b i k : ℕ) → (i ≡ k → ⊥) → Apart (segment b i) (segment b k)
segments_apart b i k d x p q r s = go (cases_lt i k)
  where
    go : (i < k) ⊎ (k ≤ i) → ⊥
    go (inl l) = absurd (omega arith)
    go (inr l) = d (omega arith)

-- a whole buffer
pub read_whole : (b : ℕ) (buf : List ℕ) → length buf ≡ b → read_of buf (front b) ≡ buf
read_whole b buf e = take_all b buf (omega arith)

-- byte k lies in segment k / 16384
at_segment : (b k d : ℕ) (buf : List ℕ) → k < b → get_or (read_of buf (segment b (k / 16384))) (k % 16384) d ≡ get_or buf k d
at_segment b k d buf h =
    get_or-take (min 16384 (b - k / 16384 * 16384)) (drop (k / 16384 * 16384) buf) (k % 16384) d (omega arith)
    ∙ (get_or-drop (k / 16384 * 16384) buf (k % 16384) d
    ∙ ap (λ j. get_or buf j d) (let z : k / 16384 * 16384 + k % 16384 ≡ k = omega arith in z))

-- buffers with the same segments are the same
pub same_segments : (b : ℕ) (xs ys : List ℕ) → length xs ≡ b → length ys ≡ b
    → ((i : ℕ) → i < segment_count b → read_of xs (segment b i) ≡ read_of ys (segment b i)) → xs ≡ ys
same_segments b xs ys x y same = same_lists _ _ (x ∙ sym y) (λ k d l.
    let h : k < b = omega arith in
    sym (at_segment b k d xs h) ∙ (ap (λ zs. get_or zs (k % 16384) d) (same (k / 16384) (omega arith)) ∙ at_segment b k d ys h))
