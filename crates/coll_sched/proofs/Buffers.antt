-- regions of a buffer, and what a write leaves of them
use Rattle.std.proofs.Common.{◌≡◌, ℕ, ◌+◌, ◌-◌, ◌<◌, ◌≤◌, ◌⊎◌, inl, inr, List, ◌++◌, take, drop, length, get_or, sym, ◌∙◌, arith, length-append}
use Rattle.std.proofs.Common.{length-drop, length-take}
use Rattle.std.proofs.lemmas.List.{places, same_lists, get_or-take, get_or-drop}
use Rattle.std.proofs.lemmas.Bool.{cases_lt}
use Rattle.coll_sched.specs.declared.region.Region.{Region}
use Rattle.coll_sched.specs.Regions.{read_of, written, Apart}

-- apart is symmetric
pub flip : (g h : Region) → Apart g h → Apart h g
flip g h a k x y z w = a k z w x y

pub length_read : (buf : List ℕ) (g : Region) → g.at + g.len ≤ length buf → length (read_of buf g) ≡ g.len
length_read buf g h = simp (length-take, length-drop) (omega arith)

pub length_written : (buf : List ℕ) (g : Region) (bytes : List ℕ) → g.at + g.len ≤ length buf → length bytes ≡ g.len → length (written buf g bytes) ≡ length buf
length_written buf g bytes h e = simp (length-append, length-take, length-drop) (omega arith)

at_written : (buf bytes : List ℕ) (a l k d : ℕ) → a + l ≤ length buf → length bytes ≡ l → ((a ≤ k) → (k < a + l) → ⊥)
    → get_or (take a buf ++ (bytes ++ drop (a + l) buf)) k d ≡ get_or buf k d
at_written buf bytes a l k d h e out = grind (arith, places, cases_lt k a, cases_lt k (a + l))

pub read_apart : (buf : List ℕ) (h g : Region) (bytes : List ℕ) → h.at + h.len ≤ length buf → length bytes ≡ h.len → Apart h g
    → g.at + g.len ≤ length buf → read_of (written buf h bytes) g ≡ read_of buf g
read_apart buf h g bytes inside e apart fits =
    let same : length (written buf h bytes) ≡ length buf = length_written buf h bytes inside e in
    same_lists _ _ (length_read (written buf h bytes) g (omega arith) ∙ sym (length_read buf g fits))
    (λ k d l.
    let k1 : k < g.len = omega (arith, length_read (written buf h bytes) g (omega arith)) in
    get_or-take g.len (drop g.at (written buf h bytes)) k d k1
    ∙ (get_or-drop g.at (written buf h bytes) k d
    ∙ (at_written buf bytes h.at h.len (g.at + k) d inside e (λ x y. apart (g.at + k) x y (omega arith) (omega arith))
    ∙ (sym (get_or-drop g.at buf k d) ∙ sym (get_or-take g.len (drop g.at buf) k d k1)))))

at_within : (buf bytes : List ℕ) (a l k d : ℕ) → a + l ≤ length buf → length bytes ≡ l → a ≤ k → k < a + l
    → get_or (take a buf ++ (bytes ++ drop (a + l) buf)) k d ≡ get_or bytes (k - a) d
at_within buf bytes a l k d h e x y = grind (arith, places, cases_lt k a, cases_lt (k - a) l)

-- two writes apart may be done in either order
pub written_swap : (buf : List ℕ) (g h : Region) (xs ys : List ℕ) → g.at + g.len ≤ length buf → h.at + h.len ≤ length buf
    → length xs ≡ g.len → length ys ≡ h.len → Apart g h → written (written buf g xs) h ys ≡ written (written buf h ys) g xs
written_swap buf g h xs ys gin hin ex ey apart =
    same_lists _ _ (ly ∙ (lg ∙ (sym lh ∙ sym lx))) (λ k d l. at k d (cases_lt k g.at) (cases_lt k (g.at + g.len)) (cases_lt k h.at) (cases_lt k (h.at + h.len)))
  where
    lg : length (written buf g xs) ≡ length buf
    lg = length_written buf g xs gin ex

    lh : length (written buf h ys) ≡ length buf
    lh = length_written buf h ys hin ey

    ly : length (written (written buf g xs) h ys) ≡ length (written buf g xs)
    ly = length_written (written buf g xs) h ys (omega (arith, lg)) ey

    lx : length (written (written buf h ys) g xs) ≡ length (written buf h ys)
    lx = length_written (written buf h ys) g xs (omega (arith, lh)) ex

    out_g : (k d : ℕ) → ((g.at ≤ k) → (k < g.at + g.len) → ⊥) → get_or (written (written buf g xs) h ys) k d ≡ get_or (written (written buf h ys) g xs) k d
    out_g k d out = inner (cases_lt k h.at) (cases_lt k (h.at + h.len))
      where
        outside : ((h.at ≤ k) → (k < h.at + h.len) → ⊥) → get_or (written (written buf g xs) h ys) k d ≡ get_or (written (written buf h ys) g xs) k d
        outside o = at_written (written buf g xs) ys h.at h.len k d (omega (arith, lg)) ey o
            ∙ (at_written buf xs g.at g.len k d gin ex out
            ∙ (sym (at_written buf ys h.at h.len k d hin ey o) ∙ sym (at_written (written buf h ys) xs g.at g.len k d (omega (arith, lh)) ex out)))

        inner : (k < h.at) ⊎ (h.at ≤ k) → (k < h.at + h.len) ⊎ (h.at + h.len ≤ k)
            → get_or (written (written buf g xs) h ys) k d ≡ get_or (written (written buf h ys) g xs) k d
        inner (inl a) b = outside (λ x y. omega arith)
        inner (inr a) (inr b) = outside (λ x y. omega arith)
        inner (inr a) (inl b) =
            at_within (written buf g xs) ys h.at h.len k d (omega (arith, lg)) ey a b
            ∙ (sym (at_within buf ys h.at h.len k d hin ey a b) ∙ sym (at_written (written buf h ys) xs g.at g.len k d (omega (arith, lh)) ex out))

    at : (k d : ℕ) → (k < g.at) ⊎ (g.at ≤ k) → (k < g.at + g.len) ⊎ (g.at + g.len ≤ k) → (k < h.at) ⊎ (h.at ≤ k)
        → (k < h.at + h.len) ⊎ (h.at + h.len ≤ k) → get_or (written (written buf g xs) h ys) k d ≡ get_or (written (written buf h ys) g xs) k d
    at k d (inl a) b x y = out_g k d (λ u v. omega arith)
    at k d (inr a) (inr b) x y = out_g k d (λ u v. omega arith)
    at k d (inr a) (inl b) x y =
        let out : (h.at ≤ k) → (k < h.at + h.len) → ⊥ = λ u v. apart k a b u v in
        at_written (written buf g xs) ys h.at h.len k d (omega (arith, lg)) ey out
        ∙ (at_within buf xs g.at g.len k d gin ex a b ∙ sym (at_within (written buf h ys) xs g.at g.len k d (omega (arith, lh)) ex a b))
