-- Rows that are written or read in parts.
use Rattle.std.proofs.Common.{◌≡◌, ℕ, ◌+◌, ◌-◌, ◌<◌, ◌≤◌, List, [], ◌∷◌, ◌++◌, take, drop, length, min, sym, ap, ◌∙◌, arith}
use Rattle.std.proofs.lemmas.List.{append_assoc, append-nil, drop_at, length-append, length-take-le, take-append-drop, take-append-le, take-take}
use Rattle.std.proofs.lemmas.Grind.{flat_map-append}
use Rattle.coll_sched.specs.declared.region.Region.{Region}
use Rattle.coll_sched.specs.Regions.{read_of, written}
use Rattle.coll_sched.proofs.Builders.{read_split}
use Rattle.coll_ops.specs.Values.{all_rows}

-- one row more
pub all_rows-push : (rows : List (List ℕ)) (row : List ℕ) → all_rows (rows ++ row ∷ []) ≡ all_rows rows ++ row
all_rows-push rows row = flat_map-append (λ (row : List ℕ). row) rows (row ∷ []) ∙ ap (λ xs. all_rows rows ++ xs) (append-nil row)

-- a row is written by its end and its front
module _ (buf xs ys : List ℕ) (a l m : ℕ) (inside : a + (l + m) ≤ length buf) where
  long : length (take (a + l) buf) ≡ a + l
  long = length-take-le (a + l) buf (omega (arith, inside))

  front : take a (written buf (record { at = a + l; len = m }) ys) ≡ take a buf
  front =
      take-append-le a (take (a + l) buf) (ys ++ drop (a + l + m) buf) (omega (arith, long))
      ∙ take-take a (a + l) buf (omega arith)

  behind : drop (a + l) (written buf (record { at = a + l; len = m }) ys) ≡ ys ++ drop (a + l + m) buf
  behind = drop_at (take (a + l) buf) (ys ++ drop (a + l + m) buf) (a + l) long

  pub written_parts : written (written buf (record { at = a + l; len = m }) ys) (record { at = a; len = l }) xs
      ≡ written buf (record { at = a; len = l + m }) (xs ++ ys)
  written_parts =
      let sums : a + l + m ≡ a + (l + m) = omega arith in
      (λ z. front z ++ (xs ++ behind z))
      ∙ ap (λ rest. take a buf ++ rest) (sym (append_assoc xs ys (drop (a + l + m) buf)) ∙ ap (λ k. (xs ++ ys) ++ drop k buf) sums)

-- no bytes change nothing
pub written_none : (buf : List ℕ) (a : ℕ) → written buf (record { at = a; len = 0 }) [] ≡ buf
written_none buf a =
    let sum : a + 0 ≡ a = omega arith in
    ap (λ k. take a buf ++ drop k buf) sum ∙ take-append-drop a buf

-- ---- a region that is read from its front on

module _ (buf : List ℕ) (from part : Region) (done unit : ℕ) (is : part ≡ record { at = from.at + done; len = min (from.len - done) unit })
    (low : done < from.len) (some : 0 < unit) where
  at_is : part.at ≡ from.at + done
  at_is = ap (λ (g : Region). g.at) is

  long_is : part.len ≡ min (from.len - done) unit
  long_is = ap (λ (g : Region). g.len) is

  pub part_within : done + part.len ≤ from.len
  part_within = omega (arith, low, long_is)

  pub part_some : 0 < part.len
  part_some = omega (arith, low, some, long_is)

  pub part_inside : from.at + from.len ≤ length buf → part.at + part.len ≤ length buf
  part_inside inside = omega (arith, part_within, at_is, inside)

  -- the parts so far, and one more
  pub parts_next : (rows : List (List ℕ)) (row : List ℕ) → all_rows rows ≡ read_of buf (record { at = from.at; len = done })
      → row ≡ read_of buf part → all_rows (rows ++ row ∷ []) ≡ read_of buf (record { at = from.at; len = done + part.len })
  parts_next rows row before next =
      all_rows-push rows row
      ∙ ((λ z. before z ++ next z)
      ∙ (ap (λ a. read_of buf (record { at = from.at; len = done }) ++ read_of buf (record { at = a; len = part.len })) at_is
      ∙ sym (read_split buf from.at done part.len)))

-- ---- a region that is written from its end on, part by part

module _ (buf now all : List ℕ) (into : Region) (rows whole : List (List ℕ)) (row : List ℕ) (end : ℕ) (is : whole ≡ rows ++ row ∷ [])
    (end_is : end ≡ length (all_rows whole)) where
  both_long : end ≡ length (all_rows rows) + length row
  both_long = end_is ∙ (ap (λ r. length (all_rows r)) is ∙ (ap length (all_rows-push rows row) ∙ length-append (all_rows rows) row))

  pub row_within : length row ≤ end
  row_within = omega (arith, both_long)

  pub rest_long : end - length row ≡ length (all_rows rows)
  rest_long = omega (arith, both_long)

  pub written_next : into.at + end ≤ length buf
      → written buf (record { at = into.at; len = end }) (all_rows whole) ≡ all
      → now ≡ written buf (record { at = into.at + (end - length row); len = length row }) row
      → written now (record { at = into.at; len = end - length row }) (all_rows rows) ≡ all
  written_next inside before now_is =
      let front : ℕ = end - length row in
      let both : front + length row ≡ end = omega (arith, both_long) in
      let joined : all_rows rows ++ row ≡ all_rows whole = sym (all_rows-push rows row) ∙ ap all_rows (sym is) in
      ap (λ b. written b (record { at = into.at; len = front }) (all_rows rows)) now_is
      ∙ (written_parts buf (all_rows rows) row into.at front (length row) (omega (arith, both, inside))
      ∙ ((λ z. written buf (record { at = into.at; len = both z }) (joined z))
      ∙ before))
