-- each Combine of an allreduce joins the rows of neighbouring members
use Rattle.std.proofs.Common.{◌≡◌, ℕ, zero, suc, ◌+◌, ◌-◌, ◌*◌, ◌/◌, ◌%◌, ◌^◌, ◌<◌, ◌≤◌, Bool, true, false, cond, ltb, List, [], ◌∷◌, ◌++◌, length, slice_get}
use Rattle.std.proofs.Common.{inl, inr, Some, refl, sym, ap, subst, ◌∙◌, arith, pow_pos, mod-lt}
use Rattle.std.proofs.lemmas.Nat.{div-add-mod', pow-add}
use Rattle.std.proofs.lemmas.Option.{none-some, same_Some}
use Rattle.coll_kinds.specs.declared.operation.Op.{Op}
use Rattle.coll_kinds.specs.declared.datatype.Datatype.{Datatype}
use Rattle.coll_ops.specs.Combinations.{combined, combination}
use Rattle.coll_ops.specs.Laws.{IsRow}
use Rattle.coll_sched.specs.declared.action.Action.{Action}
use Rattle.coll_sched.specs.declared.action.Action.TheVariants.{Combine}
use Rattle.coll_sched.specs.declared.region.Region.{Region}
use Rattle.coll_sched.specs.Common.{read_of, front, behind, Family, actions_at, lock_step, IsLawful}
use Rattle.coll_sched.specs.Served.{listing}
use Rattle.coll_sched.proofs.Rounds.{GivenFits}
use Rattle.coll_sched.proofs.Builders.{Has, round_held}
use Rattle.coll_trees.proofs.Columns.{column_of}
use Rattle.coll_trees.proofs.Spans.{span, Associates}
use Rattle.coll_plans.specs.declared.recursive_doubling_fold.FoldPart.{FoldPart}
use Rattle.coll_plans.specs.declared.recursive_doubling_fold.FoldPart.TheVariants.{Lower, Upper, Alone}
use Rattle.coll_plans.specs.RecursiveDoublingHypercube.{fold_part, corner, lowest, mate}
use Rattle.coll_plans.specs.RecursiveDoubling.{fold_gives, fold_joins, swap, exchanges, joins_by, tell, tells, hypercube_rounds, recursive_doubling}
use Rattle.coll_plans.proofs.RecursiveDoublingHypercube.{Leads, block_in, corner_in, lowest-corner}
use Rattle.coll_plans.proofs.RecursiveDoublingRounds.{recursive_doubling-join}
use Rattle.coll_plans.proofs.RecursiveDoublingRanges.{block_holds}

-- a span is the combination of its rows
span-listing : (op : Op) (ty : Datatype) (given : ℕ → List ℕ) (k c : ℕ) → span op ty given k c ≡ combination op ty (listing given k c)
span-listing op ty given k zero = refl
span-listing op ty given k (suc zero) = refl
span-listing op ty given k (suc (suc c)) = ap (combined op ty (given k)) (span-listing op ty given (suc k) (suc c))

pub has_at : (xs : List Action) (i : ℕ) (a : Action) → slice_get xs i ≡ Some a → Has xs a
has_at [] i a h = absurd (none-some a h)
has_at (x ∷ xs) zero a h = inl (same_Some x a h)
has_at (x ∷ xs) (suc i) a h = inr (has_at xs i a h)

-- a Combine of these rounds is the operation of the signature, and writes the first half
record IsJoin (op : Op) (ty : Datatype) (b : ℕ) (o : Op) (t : Datatype) (into : Region) : Type 0 where
  op_is : o ≡ op
  ty_is : t ≡ ty
  into_is : into ≡ front b

module _ (op : Op) (ty : Datatype) (b : ℕ) (o : Op) (t : Datatype) (l m into : Region) where
  one_join : (left right : Region) → Has (Combine op ty left right (front b) ∷ []) (Combine o t l m into) → IsJoin op ty b o t into
  one_join left right (inl h) = record { op_is = cc; ty_is = cc; into_is = cc }
  one_join left right (inr h) = absurd h

  fold_join : (part : FoldPart) → Has (fold_joins op ty b part) (Combine o t l m into) → Leads part × IsJoin op ty b o t into
  fold_join Lower h = (tt, one_join (front b) (behind b) h)
  fold_join Upper h = absurd h
  fold_join Alone h = absurd h

  side_join : (low : Bool)
      → Has (cond low (Combine op ty (front b) (behind b) (front b) ∷ []) (Combine op ty (behind b) (front b) (front b) ∷ [])) (Combine o t l m into)
      → IsJoin op ty b o t into
  side_join true h = one_join (front b) (behind b) h
  side_join false h = one_join (behind b) (front b) h

  exchange_join : (q s : ℕ) (part : FoldPart) → Has (joins_by op ty b q s part) (Combine o t l m into) → Leads part × IsJoin op ty b o t into
  exchange_join q s Lower h = (tt, side_join (ltb (q % (s + s)) s) h)
  exchange_join q s Upper h = absurd h
  exchange_join q s Alone h = (tt, side_join (ltb (q % (s + s)) s) h)

-- the other rounds have no Combine
module _ (b : ℕ) (o : Op) (t : Datatype) (l m into : Region) where
  fold_gives_none : (r : ℕ) (part : FoldPart) → Has (fold_gives b r part) (Combine o t l m into) → ⊥
  fold_gives_none r Lower (inl h) = cc
  fold_gives_none r Lower (inr h) = h
  fold_gives_none r Upper (inl h) = cc
  fold_gives_none r Upper (inr h) = h
  fold_gives_none r Alone h = h

  swap_none : (p : ℕ) → Has (swap b p) (Combine o t l m into) → ⊥
  swap_none p (inl h) = cc
  swap_none p (inr (inl h)) = cc
  swap_none p (inr (inr h)) = h

  exchanges_none : (p : ℕ) (part : FoldPart) → Has (exchanges b p part) (Combine o t l m into) → ⊥
  exchanges_none p Lower h = swap_none p h
  exchanges_none p Upper h = h
  exchanges_none p Alone h = swap_none p h

  tells_none : (r : ℕ) (part : FoldPart) → Has (tells b r part) (Combine o t l m into) → ⊥
  tells_none r Lower (inl h) = cc
  tells_none r Lower (inr h) = h
  tells_none r Upper (inl h) = cc
  tells_none r Upper (inr h) = h
  tells_none r Alone h = h

  -- so a round that has one is round 2 i + 1, for a dimension i or the fold
  exchange_round : (op : Op) (ty : Datatype) (e k c j r : ℕ)
      → Has (column_of (hypercube_rounds op ty b e k c ++ (tell b e ∷ [])) j r) (Combine o t l m into) → (i : ℕ) × (i < c) × (j ≡ suc (i + i))
  exchange_round op ty e k zero zero r h = absurd (tells_none r (fold_part e r) h)
  exchange_round op ty e k zero (suc j) r h = absurd h
  exchange_round op ty e k (suc c) zero r h = absurd (exchanges_none (mate e (2 ^ k) r) (fold_part e r) h)
  exchange_round op ty e k (suc c) (suc zero) r h = (0, omega arith, omega arith)
  exchange_round op ty e k (suc c) (suc (suc j)) r h =
      let rest = exchange_round op ty e (suc k) c j r h in (suc rest.0, omega arith, omega arith)

  pub combining_round : (op : Op) (ty : Datatype) (e d j r : ℕ)
      → Has (column_of (recursive_doubling op ty b e d) j r) (Combine o t l m into) → (i : ℕ) × (i ≤ d) × (j ≡ suc (i + i))
  combining_round op ty e d zero r h = absurd (fold_gives_none r (fold_part e r) h)
  combining_round op ty e d (suc zero) r h = (0, omega arith, omega arith)
  combining_round op ty e d (suc (suc j)) r h =
      let rest = exchange_round op ty e 0 d j r h in (suc rest.0, omega arith, omega arith)

-- the first corner of corner q's block of s
pub block_split : (q s : ℕ) → 0 < s → (q / s * s + q % s ≡ q) × (q % s < s)
block_split q s pos = (div-add-mod' q s, mod-lt q pos)

pub block_within : (i d q : ℕ) → i ≤ d → q < 2 ^ d → q / 2 ^ i * 2 ^ i + 2 ^ i ≤ 2 ^ d
block_within i d q low h =
    let split : 2 ^ (d - i) * 2 ^ i ≡ 2 ^ d =
    sym (pow-add 2 (d - i) i) ∙ ap (λ k. 2 ^ k) (let z : d - i + i ≡ d = omega arith in z) in
    let whole : q / 2 ^ i * 2 ^ i + q % 2 ^ i ≡ q = (block_split q (2 ^ i) (pow_pos i)).0 in
    let within : q / 2 ^ i * 2 ^ i + 2 ^ i ≤ 2 ^ (d - i) * 2 ^ i = block_in (q / 2 ^ i) (2 ^ (d - i)) (2 ^ i) (q % 2 ^ i) (omega (arith, split, whole)) in
    omega (arith, within, split)

-- a family of n members with these rounds
module _ (f : Family) (op : Op) (ty : Datatype) (b n e d : ℕ) (room : e ≤ 2 ^ d) (whole : e + 2 ^ d ≡ n)
    (is : (j r : ℕ) → actions_at f j r ≡ column_of (recursive_doubling op ty b e d) j r) where
  -- in round 2 i + 1 whoever combines acts for a corner
  join_at : (i r : ℕ) (o : Op) (t : Datatype) (l m into : Region) → i ≤ d → Has (actions_at f (suc (i + i)) r) (Combine o t l m into)
      → Leads (fold_part e r) × IsJoin op ty b o t into
  join_at zero r o t l m into low h =
      fold_join op ty b o t l m into (fold_part e r) (subst (λ xs. Has xs (Combine o t l m into)) (is 1 r) h)
  join_at (suc i) r o t l m into low h =
      exchange_join op ty b o t l m into (corner e r) (2 ^ i) (fold_part e r)
      (subst (λ xs. Has xs (Combine o t l m into)) (is (suc (suc (suc (i + i)))) r ∙ recursive_doubling-join op ty b e d i r (omega arith))
      (subst (λ j. Has (actions_at f j r) (Combine o t l m into)) (let z : suc (suc i + suc i) ≡ suc (suc (suc (i + i))) = omega arith in z) h))

  module _ (lawful : IsLawful n f) (assoc : Associates op ty) (given : ℕ → List ℕ) (laid : GivenFits n f given)
      (rows : (p : ℕ) → p < n → IsRow ty (given p) × (length (given p) ≡ b)) (size : (r : ℕ) → r < n → b + b ≤ (f r).size)
      (start : (r : ℕ) → r < n → read_of (lock_step f given 0 r) (front b) ≡ given r) where
    -- and joins the rows of that corner's block of 2 ^ i
    pub joins_block : (i r : ℕ) (o : Op) (t : Datatype) (l m into : Region) → i ≤ d → r < n → Has (actions_at f (suc (i + i)) r) (Combine o t l m into)
        → combined o t (read_of (lock_step f given (suc (i + i)) r) l) (read_of (lock_step f given (suc (i + i)) r) m)
        ≡ combination o t
        (listing given (lowest e (corner e r / 2 ^ i * 2 ^ i))
        (lowest e (corner e r / 2 ^ i * 2 ^ i + 2 ^ i) - lowest e (corner e r / 2 ^ i * 2 ^ i)))
    joins_block i r o t l m into low hr h =
        sym (round_held n f lawful given laid (suc (i + i)) r (Combine o t l m into) into hr h refl)
        ∙ (ap (read_of (lock_step f given (suc (suc (i + i))) r)) join.1.into_is
        ∙ (ap (λ p. read_of (lock_step f given (suc (suc (i + i))) p) (front b)) place
        ∙ (block_holds f op ty b n e d room whole is lawful assoc given laid rows size start i (corner e r / 2 ^ i) a (corner e r % 2 ^ i) low refl
        split.1 (block_within i d (corner e r) low (corner_in e (2 ^ d) r room (omega (arith, hr, whole))))
        ∙ (span-listing op ty given (lowest e a) (lowest e (a + 2 ^ i) - lowest e a)
        ∙ (λ z. combination (sym join.1.op_is z) (sym join.1.ty_is z) (listing given (lowest e a) (lowest e (a + 2 ^ i) - lowest e a)))))))
      where
        a : ℕ
        a = corner e r / 2 ^ i * 2 ^ i

        split : (a + corner e r % 2 ^ i ≡ corner e r) × (corner e r % 2 ^ i < 2 ^ i)
        split = block_split (corner e r) (2 ^ i) (pow_pos i)

        join : Leads (fold_part e r) × IsJoin op ty b o t into
        join = join_at i r o t l m into low h

        place : r ≡ lowest e (a + corner e r % 2 ^ i)
        place = sym (ap (lowest e) split.0 ∙ lowest-corner e r join.0)
