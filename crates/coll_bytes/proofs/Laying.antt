-- segments laid one over the other
use Rattle.std.proofs.Common.{◌≡◌, ℕ, ◌+◌, ◌<◌, ◌⊎◌, inl, inr, refl, List, [], ◌∷◌, ◌++◌, fold, take, drop, length, get_or, replicate, remove}
use Rattle.std.proofs.Common.{zero, suc, sym, ap, subst, ◌∙◌, arith}
use Rattle.std.proofs.lemmas.List.{length-replicate, same_lists, take_more, get_or_default}
use Rattle.std.proofs.lemmas.List.Elements.{All-append, All-drop, All-take}
use Rattle.std.proofs.lemmas.List.Sums.{fold-append}
use Rattle.std.proofs.Math.Seq.{take-length}
use Rattle.coll_sched.specs.declared.region.Region.{Region}
use Rattle.coll_sched.specs.Regions.{Apart, Inside, read_of, written}
use Rattle.coll_sched.proofs.Buffers.{length_written, read_apart}
use Rattle.coll_bytes.specs.declared.segment.Segment.{Segment}
use Rattle.coll_bytes.specs.Laid.{AllInside, laid, laid_over, place_of, Shows}
use Rattle.coll_bytes.specs.Overlaps.{Within, seen_from}
use Rattle.coll_bytes.proofs.Writes.{In, Outside, read-written, side, written_in, written_outside}

first_inside : (size : ℕ) (x : Segment) (xs : List Segment) → AllInside size (x ∷ xs) → Inside size (place_of x)
first_inside size x xs h = h 0 x (omega arith)

rest_inside : (size : ℕ) (x : Segment) (xs : List Segment) → AllInside size (x ∷ xs) → AllInside size xs
rest_inside size x xs h = λ k d l. h (suc k) d (omega arith)

take_inside : (size n : ℕ) (xs : List Segment) → AllInside size xs → AllInside size (take n xs)
take_inside size n xs h = All-take (λ s. Inside size (place_of s)) n xs h

pub remove_inside : (size : ℕ) (xs : List Segment) (i : ℕ) → AllInside size xs → AllInside size (remove xs i)
remove_inside size xs i h =
    All-append (λ s. Inside size (place_of s)) (take i xs) (drop (suc i) xs) (All-take (λ s. Inside size (place_of s)) i xs h)
    (All-drop (λ s. Inside size (place_of s)) (suc i) xs h)

-- a buffer keeps its length under segments
length_over : (size : ℕ) (buf : List ℕ) (xs : List Segment) → length buf ≡ size → AllInside size xs → length (fold laid_over buf xs) ≡ size
length_over size buf [] e h = e
length_over size buf (x ∷ xs) e h =
    let first : Inside size (place_of x) = first_inside size x xs h in
    length_over size (laid_over buf x) xs (length_written buf (place_of x) x.bytes (omega (arith, e, first)) refl ∙ e) (rest_inside size x xs h)

pub length_laid : (size : ℕ) (xs : List Segment) → AllInside size xs → length (laid size xs) ≡ size
length_laid size xs h = length_over size (replicate size 0) xs (length-replicate size 0) h

-- the whole buffer as a region
pub read_all : (size : ℕ) (xs : List Segment) → AllInside size xs → read_of (laid size xs) (record { at = 0; len = size }) ≡ laid size xs
read_all size xs h = ap (λ n. take n (laid size xs)) (sym (length_laid size xs h)) ∙ take-length (laid size xs)

-- a region of the buffer is one of its size
pub inside_of : (size : ℕ) (xs : List Segment) (now : List ℕ) (g : Region) → laid size xs ≡ now → AllInside size xs → Inside (length now) g → Inside size g
inside_of size xs now g e h inside = omega (arith, ap length e, length_laid size xs h, inside)

-- one segment more of some
pub laid_next : (size : ℕ) (xs : List Segment) (i : ℕ) (s : Segment) → i < length xs → s ≡ get_or xs i s
    → laid size (take (i + 1) xs) ≡ laid_over (laid size (take i xs)) s
laid_next size xs i s l e =
    let next : take (i + 1) xs ≡ take i xs ++ s ∷ [] = take_more xs i s l ∙ ap (λ x. take i xs ++ x ∷ []) (sym e) in
    ap (λ ys. laid size ys) next ∙ fold-append laid_over (replicate size 0) (take i xs) (s ∷ [])

-- one segment more of all
pub laid-push : (size : ℕ) (xs ys : List Segment) (g : Region) (bytes : List ℕ)
    → ys ≡ xs ++ (record { at = g.at; bytes = bytes }) ∷ [] → length bytes ≡ g.len → laid size ys ≡ written (laid size xs) g bytes
laid-push size xs ys g bytes e same =
    ap (λ zs. laid size zs) e
    ∙ (fold-append laid_over (replicate size 0) xs ((record { at = g.at; bytes = bytes }) ∷ [])
    ∙ ap (λ n. written (laid size xs) (record { at = g.at; len = n }) bytes) same)

-- the newest segment of some has the region
pub read_shown : (size : ℕ) (xs : List Segment) (i : ℕ) (s : Segment) (from : Region) → AllInside size xs → i < length xs
    → s ≡ get_or xs i s → Within (place_of s) from → read_of (laid size (take (i + 1) xs)) from ≡ read_of s.bytes (seen_from (place_of s) from)
read_shown size xs i s from h l e inner =
    let its : Inside size (place_of s) = rw e (h i s l) in
    let n : length (laid size (take i xs)) ≡ size = length_laid size (take i xs) (take_inside size i xs h) in
    ap (λ buf. read_of buf from) (laid_next size xs i s l e)
    ∙ read-written (laid size (take i xs)) (place_of s) from s.bytes (omega (arith, n, its)) refl inner

-- the newest segment of some has nothing of the region
pub read_missed : (size : ℕ) (xs : List Segment) (i : ℕ) (s : Segment) (from : Region) → AllInside size xs → Inside size from
    → i < length xs → s ≡ get_or xs i s → Apart (place_of s) from → read_of (laid size (take (i + 1) xs)) from ≡ read_of (laid size (take i xs)) from
read_missed size xs i s from h inside l e apart =
    let its : Inside size (place_of s) = rw e (h i s l) in
    let n : length (laid size (take i xs)) ≡ size = length_laid size (take i xs) (take_inside size i xs h) in
    ap (λ buf. read_of buf from) (laid_next size xs i s l e)
    ∙ read_apart (laid size (take i xs)) (place_of s) from s.bytes (omega (arith, n, its)) refl apart (omega (arith, n, inside))

-- a region as it is with one segment more
pub read_next : (size : ℕ) (xs : List Segment) (i : ℕ) (s : Segment) (from : Region) (out now : List ℕ) → i < length xs
    → s ≡ get_or xs i s → AllInside size xs → Inside size from → out ≡ read_of (laid size (take i xs)) from
    → ((buf : List ℕ) → Inside (length buf) (place_of s) → Inside (length buf) from → out ≡ read_of buf from
    → now ≡ read_of (written buf (place_of s) s.bytes) from) → now ≡ read_of (laid size (take (i + 1) xs)) from
read_next size xs i s from out now l e h inside before step =
    let n : length (laid size (take i xs)) ≡ size = length_laid size (take i xs) (take_inside size i xs h) in
    let its : Inside size (place_of s) = rw e (h i s l) in
    step (laid size (take i xs)) (omega (arith, n, its)) (omega (arith, n, inside)) before ∙ sym (ap (λ buf. read_of buf from) (laid_next size xs i s l e))

-- the same bytes outside a region
abbrev SameOutside : Region → List ℕ → List ℕ → Type 0
SameOutside g u v = (k d : ℕ) → Outside g k → get_or u k d ≡ get_or v k d

-- what differs in a region alone is the same after a write into the region
same_written : (size : ℕ) (g : Region) (u v bytes : List ℕ) → length u ≡ size → length v ≡ size → Inside size g
    → length bytes ≡ g.len → SameOutside g u v → written u g bytes ≡ written v g bytes
same_written size g u v bytes lu lv inside e same =
    same_lists _ _ (length_written u g bytes (omega (arith, lu)) e
    ∙ (lu ∙ (sym lv ∙ sym (length_written v g bytes (omega (arith, lv)) e)))) (λ k d l. at k d (side g k))
  where
    at : (k d : ℕ) → Outside g k ⊎ In g k → get_or (written u g bytes) k d ≡ get_or (written v g bytes) k d
    at k d (inl out) = written_outside u g bytes k d (omega (arith, lu)) e out ∙ (same k d out ∙ sym (written_outside v g bytes k d (omega (arith, lv)) e out))
    at k d (inr is) = written_in u g bytes k d (omega (arith, lu)) e is ∙ sym (written_in v g bytes k d (omega (arith, lv)) e is)

-- it differs in that region alone after another write, too
still_same : (size : ℕ) (g h : Region) (u v bytes : List ℕ) → length u ≡ size → length v ≡ size → Inside size h
    → length bytes ≡ h.len → SameOutside g u v → SameOutside g (written u h bytes) (written v h bytes)
still_same size g h u v bytes lu lv inside e same = λ k d out. at k d out (side h k)
  where
    at : (k d : ℕ) → Outside g k → Outside h k ⊎ In h k → get_or (written u h bytes) k d ≡ get_or (written v h bytes) k d
    at k d out (inl o) = written_outside u h bytes k d (omega (arith, lu)) e o ∙ (same k d out ∙ sym (written_outside v h bytes k d (omega (arith, lv)) e o))
    at k d out (inr is) = written_in u h bytes k d (omega (arith, lu)) e is ∙ sym (written_in v h bytes k d (omega (arith, lv)) e is)

same_over : (size : ℕ) (g : Region) (u v : List ℕ) (xs : List Segment) → length u ≡ size → length v ≡ size → AllInside size xs
    → SameOutside g u v → SameOutside g (fold laid_over u xs) (fold laid_over v xs)
same_over size g u v [] lu lv h same = same
same_over size g u v (x ∷ xs) lu lv h same =
    let first : Inside size (place_of x) = first_inside size x xs h in
    same_over size g (laid_over u x) (laid_over v x) xs
    (length_written u (place_of x) x.bytes (omega (arith, lu, first)) refl ∙ lu)
    (length_written v (place_of x) x.bytes (omega (arith, lv, first)) refl ∙ lv)
    (rest_inside size x xs h)
    (still_same size g (place_of x) u v x.bytes lu lv first refl same)

-- a place outside a region is outside what lies within
outside_within : (g inner : Region) (k : ℕ) → Within g inner → Outside g k → Outside inner k
outside_within g inner k w (inl x) = inl (omega (arith, x, w.0))
outside_within g inner k w (inr x) = inr (omega (arith, x, w.1))

-- without a segment that lies within a region all is the same outside the region
same_without : (size : ℕ) (u : List ℕ) (xs : List Segment) (i : ℕ) (g : Region) → length u ≡ size → AllInside size xs
    → i < length xs → ((d : Segment) → Within g (place_of (get_or xs i d))) → SameOutside g (fold laid_over u (remove xs i)) (fold laid_over u xs)
same_without size u [] i g lu h l w = λ k d out. omega (arith, l)
same_without size u (x ∷ xs) zero g lu h l w =
    let first : Inside size (place_of x) = first_inside size x xs h in
    let here : SameOutside g u (laid_over u x) =
    (λ k d out. sym (written_outside u (place_of x) x.bytes k d (omega (arith, lu, first)) refl (outside_within g (place_of x) k (w x) out))) in
    same_over size g u (laid_over u x) xs lu (length_written u (place_of x) x.bytes (omega (arith, lu, first)) refl ∙ lu) (rest_inside size x xs h) here
same_without size u (x ∷ xs) (suc i) g lu h l w =
    let first : Inside size (place_of x) = first_inside size x xs h in
    same_without size (laid_over u x) xs i g (length_written u (place_of x) x.bytes (omega (arith, lu, first)) refl ∙ lu)
    (rest_inside size x xs h) (omega arith) w

-- a write hides a segment that lies within its region
pub written_hides : (size : ℕ) (xs : List Segment) (i : ℕ) (s : Segment) (g : Region) (bytes : List ℕ) → AllInside size xs
    → Inside size g → i < length xs → s ≡ get_or xs i s → Within g (place_of s) → length bytes ≡ g.len
    → written (laid size (remove xs i)) g bytes ≡ written (laid size xs) g bytes
written_hides size xs i s g bytes h inside l e w same =
    let its : (d : Segment) → s ≡ get_or xs i d = λ d. e ∙ get_or_default xs i s d l in
    same_written size g (laid size (remove xs i)) (laid size xs) bytes
    (length_laid size (remove xs i) (remove_inside size xs i h)) (length_laid size xs h) inside same
    (same_without size (replicate size 0) xs i g (length-replicate size 0) h l (λ d. rw (sym (its d)) w))

-- the segment at an index is one, whatever stands past the end
one_there : (xs : List Segment) (i : ℕ) (s t : Segment) → i < length xs → s ≡ get_or xs i s → t ≡ get_or xs i t → s ≡ t
one_there xs i s t l e f = e ∙ (get_or_default xs i s t l ∙ sym f)

-- the newest segment that has a byte of the region has all of them
pub shows : (size : ℕ) (xs : List Segment) (i j : ℕ) (s : Segment) (place from : Region) → j ≡ i + 1 → AllInside size xs
    → i < length xs → s ≡ get_or xs i s → place ≡ place_of s → Within place from
    → read_of (laid size xs) from ≡ read_of (laid size (take j xs)) from → Shows size xs from i
shows size xs i j s place from next h l e p w same = record { there = l; within = within; reads = reads }
  where
    within : (t : Segment) → t ≡ get_or xs i t → Within (place_of t) from
    within t f = subst (λ u. Within (place_of u) from) (one_there xs i s t l e f) (subst (λ r. Within r from) p w)

    reads : (t : Segment) → t ≡ get_or xs i t → read_of (laid size xs) from ≡ read_of t.bytes (seen_from (place_of t) from)
    reads t f = same ∙ (ap (λ n. read_of (laid size (take n xs)) from) next ∙ read_shown size xs i t from h l f (within t f))

-- past a segment that has nothing of the region
pub passed : (size : ℕ) (xs : List Segment) (i j : ℕ) (s : Segment) (place from : Region) → j ≡ i + 1 → AllInside size xs
    → Inside size from → i < length xs → s ≡ get_or xs i s → place ≡ place_of s → Apart place from
    → read_of (laid size xs) from ≡ read_of (laid size (take j xs)) from → read_of (laid size xs) from ≡ read_of (laid size (take i xs)) from
passed size xs i j s place from next h inside l e p apart same =
    same ∙ (ap (λ n. read_of (laid size (take n xs)) from) next ∙ read_missed size xs i s from h inside l e (subst (λ r. Apart r from) p apart))

-- without one more segment that a write hides
pub hidden_more : (size : ℕ) (old xs ys : List Segment) (i : ℕ) (s : Segment) (place g : Region) → ys ≡ remove xs i
    → AllInside size xs → Inside size g → i < length xs → s ≡ get_or xs i s → place ≡ place_of s → Within g place
    → ((bytes : List ℕ) → length bytes ≡ g.len → written (laid size xs) g bytes ≡ written (laid size old) g bytes)
    → (bytes : List ℕ) → length bytes ≡ g.len → written (laid size ys) g bytes ≡ written (laid size old) g bytes
hidden_more size old xs ys i s place g gone h inside l e p w before bytes same =
    ap (λ zs. written (laid size zs) g bytes) gone
    ∙ (written_hides size xs i s g bytes h inside l e (subst (λ r. Within g r) p w) same ∙ before bytes same)
