-- what stands at a place after a write, and in a part
use Rattle.std.proofs.Common.{◌≡◌, ℕ, ◌+◌, ◌-◌, ◌<◌, ◌≤◌, ◌⊎◌, inl, inr, List, ◌++◌, take, drop, length, get_or, max, min, sym, ap, subst, ◌∙◌, arith}
use Rattle.std.proofs.lemmas.List.{places, same_lists, get_or-take, get_or-drop}
use Rattle.std.proofs.lemmas.Bool.{cases_lt}
use Rattle.coll_sched.specs.declared.region.Region.{Region}
use Rattle.coll_sched.specs.Regions.{Apart, read_of, written}
use Rattle.coll_sched.proofs.Buffers.{length_read, length_written, read_apart}
use Rattle.coll_bytes.specs.Overlaps.{IsCommon, Within, seen_from}

-- a place is outside a region, or in it
abbrev pub Outside : Region → ℕ → Type 0
Outside g k = (k < g.at) ⊎ (g.at + g.len ≤ k)

abbrev pub In : Region → ℕ → Type 0
In g k = (g.at ≤ k) × (k < g.at + g.len)

pub side : (g : Region) (k : ℕ) → Outside g k ⊎ In g k
side g k = sides (cases_lt k g.at) (cases_lt k (g.at + g.len))
  where
    sides : (k < g.at) ⊎ (g.at ≤ k) → (k < g.at + g.len) ⊎ (g.at + g.len ≤ k) → Outside g k ⊎ In g k
    sides (inl a) b = inl (inl a)
    sides (inr a) (inl b) = inr (a, b)
    sides (inr a) (inr b) = inl (inr b)

before_write : (buf bytes : List ℕ) (a l k d : ℕ) → a + l ≤ length buf → length bytes ≡ l → k < a
    → get_or (take a buf ++ (bytes ++ drop (a + l) buf)) k d ≡ get_or buf k d
before_write buf bytes a l k d h e x = grind (arith, places)

behind_write : (buf bytes : List ℕ) (a l k d : ℕ) → a + l ≤ length buf → length bytes ≡ l → a + l ≤ k
    → get_or (take a buf ++ (bytes ++ drop (a + l) buf)) k d ≡ get_or buf k d
behind_write buf bytes a l k d h e x = grind (arith, places)

in_write : (buf bytes : List ℕ) (a l k d : ℕ) → a + l ≤ length buf → length bytes ≡ l → a ≤ k → k < a + l
    → get_or (take a buf ++ (bytes ++ drop (a + l) buf)) k d ≡ get_or bytes (k - a) d
in_write buf bytes a l k d h e x y = grind (arith, places)

-- outside the region that is written nothing changes
pub written_outside : (buf : List ℕ) (g : Region) (bytes : List ℕ) (k d : ℕ) → g.at + g.len ≤ length buf → length bytes ≡ g.len
    → Outside g k → get_or (written buf g bytes) k d ≡ get_or buf k d
written_outside buf g bytes k d h e (inl x) = before_write buf bytes g.at g.len k d h e x
written_outside buf g bytes k d h e (inr x) = behind_write buf bytes g.at g.len k d h e x

-- in the region stands what was written
pub written_in : (buf : List ℕ) (g : Region) (bytes : List ℕ) (k d : ℕ) → g.at + g.len ≤ length buf → length bytes ≡ g.len
    → In g k → get_or (written buf g bytes) k d ≡ get_or bytes (k - g.at) d
written_in buf g bytes k d h e (x, y) = in_write buf bytes g.at g.len k d h e x y

pub at_read : (buf : List ℕ) (g : Region) (k d : ℕ) → k < g.len → get_or (read_of buf g) k d ≡ get_or buf (g.at + k) d
at_read buf g k d l = get_or-take g.len (drop g.at buf) k d l ∙ get_or-drop g.at buf k d

-- a region of what was written is a part of that
pub read-written : (buf : List ℕ) (g from : Region) (bytes : List ℕ) → g.at + g.len ≤ length buf → length bytes ≡ g.len
    → Within g from → read_of (written buf g bytes) from ≡ read_of bytes (seen_from g from)
read-written buf g from bytes h e inner =
    same_lists _ _ (left ∙ sym right) (λ k d l. at k d (omega (arith, l, left)))
  where
    left : length (read_of (written buf g bytes) from) ≡ from.len
    left = length_read (written buf g bytes) from (omega (arith, length_written buf g bytes h e, inner.1))

    right : length (read_of bytes (seen_from g from)) ≡ from.len
    right = length_read bytes (seen_from g from) (omega (arith, inner.0, inner.1))

    at : (k d : ℕ) → k < from.len → get_or (read_of (written buf g bytes) from) k d ≡ get_or (read_of bytes (seen_from g from)) k d
    at k d l =
        at_read (written buf g bytes) from k d l
        ∙ (written_in buf g bytes (from.at + k) d h e (omega (arith, inner.0), omega (arith, inner.1, l))
        ∙ (ap (λ i. get_or bytes i d) (omega (arith, inner.0))
        ∙ sym (at_read bytes (seen_from g from) k d l)))

-- what both regions have of what is written into the first, laid over the second, is all that changes there
pub read-overlaid : (buf own out : List ℕ) (g from both : Region) → g.at + g.len ≤ length buf → length own ≡ g.len
    → from.at + from.len ≤ length buf → IsCommon g from both → out ≡ read_of buf from
    → written out (seen_from from both) (read_of own (seen_from g both)) ≡ read_of (written buf g own) from
read-overlaid buf own out g from both h e inside common was =
    same_lists _ _ (left ∙ (lo ∙ sym right)) (λ k d l. at k d (omega (arith, l, left, lo)) (side (seen_from from both) k))
  where
    starts : both.at ≡ max g.at from.at
    starts = common.starts

    ends : both.at + both.len ≡ min (g.at + g.len) (from.at + from.len)
    ends = common.ends

    lo : length out ≡ from.len
    lo = ap length was ∙ length_read buf from inside

    part : length (read_of own (seen_from g both)) ≡ both.len
    part = length_read own (seen_from g both) (omega (arith, e, starts, ends, common.some))

    fits : both.at - from.at + both.len ≤ length out
    fits = omega (arith, lo, starts, ends, common.some)

    left : length (written out (seen_from from both) (read_of own (seen_from g both))) ≡ length out
    left = length_written out (seen_from from both) (read_of own (seen_from g both)) fits part

    right : length (read_of (written buf g own) from) ≡ from.len
    right = length_read (written buf g own) from (omega (arith, length_written buf g own h e, inside))

    old : (k d : ℕ) → k < from.len → get_or out k d ≡ get_or buf (from.at + k) d
    old k d l = ap (λ xs. get_or xs k d) was ∙ at_read buf from k d l

    at : (k d : ℕ) → k < from.len → Outside (seen_from from both) k ⊎ In (seen_from from both) k
        → get_or (written out (seen_from from both) (read_of own (seen_from g both))) k d ≡ get_or (read_of (written buf g own) from) k d
    at k d l (inl (inl x)) =
        written_outside out (seen_from from both) (read_of own (seen_from g both)) k d fits part (inl x)
        ∙ (old k d l
        ∙ (sym (written_outside buf g own (from.at + k) d h e (inl (omega (arith, x, l, starts))))
        ∙ sym (at_read (written buf g own) from k d l)))
    at k d l (inl (inr x)) =
        written_outside out (seen_from from both) (read_of own (seen_from g both)) k d fits part (inr x)
        ∙ (old k d l
        ∙ (sym (written_outside buf g own (from.at + k) d h e (inr (omega (arith, x, l, starts, ends))))
        ∙ sym (at_read (written buf g own) from k d l)))
    at k d l (inr (x, y)) =
        written_in out (seen_from from both) (read_of own (seen_from g both)) k d fits part (x, y)
        ∙ (at_read own (seen_from g both) (k - (both.at - from.at)) d (omega (arith, x, y))
        ∙ (ap (λ i. get_or own i d) (omega (arith, x, y, starts))
        ∙ (sym (written_in buf g own (from.at + k) d h e (omega (arith, x, starts), omega (arith, x, y, starts, ends)))
        ∙ sym (at_read (written buf g own) from k d l))))

-- a region keeps its bytes where what is written shares none with it
pub missed : (buf own out : List ℕ) (place g from : Region) → place ≡ g → g.at + g.len ≤ length buf → length own ≡ g.len
    → Apart place from → from.at + from.len ≤ length buf → out ≡ read_of buf from → out ≡ read_of (written buf g own) from
missed buf own out place g from p h e apart inside was = was ∙ sym (read_apart buf g from own h e (subst (λ r. Apart r from) p apart) inside)

-- read-overlaid by the steps of a copy
pub overlaid : (buf own bytes part out now : List ℕ) (place g from both inner outer : Region) → place ≡ g → own ≡ bytes
    → inner ≡ seen_from place both → part ≡ read_of own inner → outer ≡ seen_from from both → now ≡ written out outer part
    → IsCommon place from both → g.at + g.len ≤ length buf → length bytes ≡ g.len → from.at + from.len ≤ length buf
    → out ≡ read_of buf from → now ≡ read_of (written buf g bytes) from
overlaid buf own bytes part out now place g from both inner outer p o i r f n common h e inside was =
    let read : part ≡ read_of bytes (seen_from g both) =
    r ∙ (ap (λ x. read_of own x) i ∙ (ap (λ xs. read_of xs (seen_from place both)) o ∙ ap (λ x. read_of bytes (seen_from x both)) p)) in
    n
    ∙ (ap (λ x. written out x part) f
    ∙ (ap (λ xs. written out (seen_from from both) xs) read
    ∙ read-overlaid buf bytes out g from both h e inside (subst (λ x. IsCommon x from both) p common) was))
