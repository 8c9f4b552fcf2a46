-- Rows that are computed round by round say from whom a member hears.
use Rattle.std.proofs.Common.{◌≡◌, ℕ, zero, suc, ◌+◌, ◌<◌, Bool, true, ◌||◌, List, [], ◌∷◌, length, map, Option, Some, None, Vec, Global, refl, sym}
use Rattle.std.proofs.Common.{ap, subst, ◌∙◌, arith, zero-add, ◌++◌}
use Rattle.std.proofs.lemmas.Option.{none-some, same_Some, slice_get_within}
use Rattle.std.specs.Prelude.{slice_get, IfSome}
use Rattle.std.specs.List.{AllByRecursion, list_any, range_with_len}
use Rattle.coll_kinds.specs.declared.signature.Signature.{Signature}
use Rattle.coll_kinds.specs.Common.{needs}
use Rattle.coll_sched.specs.declared.action.Action.{Action}
use Rattle.coll_sched.specs.declared.action.Action.TheVariants.{Send, Copy, Combine, Recv}
use Rattle.coll_sched.specs.Common.{IsAmong, actions_at}
use Rattle.coll_plans.specs.Plans.{family, Planned}
use Rattle.coll_verdict.specs.Checking.{said_in, is_yes}
use Rattle.coll_verdict.specs.Code.{AreTrue}
use Rattle.coll_plans.specs.Hearings.{hears_from, heard_in, hears_here}
use Rattle.coll_plans.proofs.Hearings.{is_heard}
use Rattle.coll_diagnosis.specs.Hearings.{bit, AreRows, IsHearing, ArePlans, rounds_in, hears_now, row_after, AreRowsAfter}

-- ---- rows

map_at : (f : ℕ → Bool) (a n p : ℕ) → p < n → slice_get (map f (range_with_len a n)) p ≡ Some (f (a + p))
map_at f a zero p low = absurd (omega arith)
map_at f a (suc n) zero low = ap (λ (x : ℕ). Some (f x)) (same a)
  where
    same : (a : ℕ) → a ≡ a + 0
    same a = omega arith
map_at f a (suc n) (suc p) low = map_at f (a + 1) n p (less p n low) ∙ ap (λ (x : ℕ). Some (f x)) (same a p)
  where
    less : (p n : ℕ) → suc p < suc n → p < n
    less p n low = omega arith

    same : (a p : ℕ) → (a + 1) + p ≡ a + suc p
    same a p = omega arith

map_same : (f g : ℕ → Bool) (a n : ℕ) → ((p : ℕ) → p < a + n → f p ≡ g p) → map f (range_with_len a n) ≡ map g (range_with_len a n)
map_same f g a zero same = refl
map_same f g a (suc n) same = λ z. same a (here a n) z ∷ map_same f g (a + 1) n (λ p low. same p (later p a n low)) z
  where
    here : (a n : ℕ) → a < a + suc n
    here a n = omega arith

    later : (p a n : ℕ) → p < (a + 1) + n → p < a + suc n
    later p a n low = omega arith

some_of : {X : Type 0} (xs : List X) (i : ℕ) → i < length xs → (x : X) × (slice_get xs i ≡ Some x)
some_of [] i low = absurd (omega arith)
some_of (x ∷ xs) zero low = (x, refl)
some_of (x ∷ xs) (suc i) low = let less : i < length xs = omega arith in some_of xs i less

some_at : {X : Type 0} (P : X → Type 0) (o : Option X) (x : X) → IfSome o P → o ≡ Some x → P x
some_at P None x h e = absurd (none-some x e)
some_at P (Some y) x h e = subst P (same_Some y x e) h

pub each_more : {X : Type 0} (P : ℕ → X → Type 0) (xs : List X) (x : X) → ((r : ℕ) → IfSome (slice_get xs r) (P r))
    → P (length xs) x → (r : ℕ) → IfSome (slice_get (xs ++ x ∷ []) r) (P r)
each_more P [] x each here zero = here
each_more P [] x each here (suc r) = tt
each_more P (y ∷ xs) x each here zero = each zero
each_more P (y ∷ xs) x each here (suc r) = each_more (λ r. P (suc r)) xs x (λ r. each (suc r)) here r

said_is : (n : ℕ) (holds : ℕ → ℕ → Bool) (rows : List (Vec Bool Global)) → AreRows n holds rows → (r p : ℕ) → r < n → p < n
    → said_in (slice_get rows r) p ≡ Some (holds r p)
said_is n holds rows are r p low less =
    let row = some_of rows r (subst (λ (n : ℕ). r < n) (sym are.size) low) in
    let is : row.0.items ≡ map (holds r) (range_with_len 0 n) =
    some_at (λ row. row.items ≡ map (holds r) (range_with_len 0 n)) (slice_get rows r) row.0 (are.each r) row.1 in
    ap (λ (o : Option (Vec Bool Global)). said_in o p) row.1
    ∙ (ap (λ (bits : List Bool). slice_get bits p) is ∙ (map_at (holds r) 0 n p less ∙ ap (λ (x : ℕ). Some (holds r x)) (zero-add p)))

bit_is : (n : ℕ) (holds : ℕ → ℕ → Bool) (rows : List (Vec Bool Global)) → AreRows n holds rows → (r p : ℕ) → r < n → p < n → bit rows r p ≡ holds r p
bit_is n holds rows are r p low less = ap is_yes (said_is n holds rows are r p low less)

-- ---- a round

any_same : (n : ℕ) (f g : ℕ → Bool) (acts : List Action) → AllByRecursion (IsAmong n) acts → ((q : ℕ) → q < n → f q ≡ g q)
    → list_any (hears_from f) acts ≡ list_any (hears_from g) acts
any_same n f g [] among same = refl
any_same n f g (Send to from ∷ acts) among same = any_same n f g acts among.1 same
any_same n f g (Copy from into ∷ acts) among same = any_same n f g acts among.1 same
any_same n f g (Combine op ty left right into ∷ acts) among same = any_same n f g acts among.1 same
any_same n f g (Recv of into ∷ acts) among same = λ z. same of among.0 z || any_same n f g acts among.1 same z

module _ (sig : Signature) (n : ℕ) (plans : List Planned) (are : ArePlans sig n plans) (j : ℕ)
    (before rows : List (Vec Bool Global)) (was : AreRows n (heard_in (family sig n) j) before) (after : AreRowsAfter plans j before rows) where
  hears_it : (r p : ℕ) → r < n → p < n → hears_now (record { sig = sig; n = n; member = r }) j before p ≡ heard_in (family sig n) (suc j) r p
  hears_it r p low less =
      let planned = are.planned (positive r n low) in
      λ z. bit_is n (heard_in (family sig n) j) before was r p low less z
      || any_same n (λ q. bit before q p) (λ q. heard_in (family sig n) j q p) (actions_at (family sig n) j r) (planned.serves.lawful.peers j r low)
      (λ q less_q. bit_is n (heard_in (family sig n) j) before was q p less_q less) z
    where
      positive : (r n : ℕ) → r < n → 0 < n
      positive r n low = omega arith

  rows_after : AreRows n (heard_in (family sig n) (suc j)) rows
  rows_after = record { size = after.size ∙ are.size; each = λ r. each r (slice_get rows r) refl }
    where
      each : (r : ℕ) (o : Option (Vec Bool Global)) → slice_get rows r ≡ o
          → IfSome o (λ row. row.items ≡ map (heard_in (family sig n) (suc j) r) (range_with_len 0 n))
      each r None e = tt
      each r (Some row) e =
          let low : r < length plans = subst (λ (n : ℕ). r < n) after.size (slice_get_within rows r row e) in
          let less : r < n = subst (λ (n : ℕ). r < n) are.size low in
          let plan = some_of plans r low in
          let plan_is : plan.0 ≡ record { sig = sig; n = n; member = r } =
          some_at (λ p. p ≡ record { sig = sig; n = n; member = r }) (slice_get plans r) plan.0 (are.each r) plan.1 in
          let is : row.items ≡ row_after j before (length plans) (slice_get plans r) =
          some_at (λ row. row.items ≡ row_after j before (length plans) (slice_get plans r)) (slice_get rows r) row (after.each r) e in
          let now : row_after j before (length plans) (slice_get plans r)
          ≡ map (hears_now (record { sig = sig; n = n; member = r }) j before) (range_with_len 0 n) =
          λ z. row_after j before (are.size z) ((plan.1 ∙ ap Some plan_is) z) in
          is ∙ (now ∙ map_same (hears_now (record { sig = sig; n = n; member = r }) j before) (heard_in (family sig n) (suc j) r)
          0 n (λ p below. hears_it r p less (at_zero p n below)))
        where
          at_zero : (p n : ℕ) → p < 0 + n → p < n
          at_zero p n low = omega arith

pub after_is : (sig : Signature) (n : ℕ) (plans : List Planned) → ArePlans sig n plans
    → (j : ℕ) (before rows : List (Vec Bool Global)) → AreRows n (heard_in (family sig n) j) before
    → AreRowsAfter plans j before rows → AreRows n (heard_in (family sig n) (suc j)) rows
after_is sig n plans are j before rows was after = rows_after sig n plans are j before rows was after

-- ---- all rounds

pub hearing_is : (sig : Signature) (n : ℕ) (plans : List Planned) → ArePlans sig n plans
    → (j : ℕ) (rows : List (Vec Bool Global)) → j ≡ rounds_in (slice_get plans 0) → AreRows n (heard_in (family sig n) j) rows → IsHearing sig n rows
hearing_is sig n plans are j rows last was = record { rows_are = record { size = was.size; each = λ r. each r (slice_get rows r) refl }; planned = are.planned }
  where
    each : (r : ℕ) (o : Option (Vec Bool Global)) → slice_get rows r ≡ o → IfSome o (λ row. row.items ≡ map (hears_here sig n r) (range_with_len 0 n))
    each r None e = tt
    each r (Some row) e =
        let low : r < n = subst (λ (n : ℕ). r < n) was.size (slice_get_within rows r row e) in
        let many : 0 < n = omega arith in
        let plan = some_of plans 0 (subst (λ (n : ℕ). 0 < n) (sym are.size) many) in
        let plan_is : plan.0 ≡ record { sig = sig; n = n; member = 0 } =
        some_at (λ p. p ≡ record { sig = sig; n = n; member = 0 }) (slice_get plans 0) plan.0 (are.each 0) plan.1 in
        let rounds : j ≡ length (family sig n r).rounds =
        last ∙ (ap rounds_in (plan.1 ∙ ap Some plan_is) ∙ (are.planned many).serves.lawful.same_rounds 0 r many low) in
        some_at (λ row. row.items ≡ map (heard_in (family sig n) j r) (range_with_len 0 n)) (slice_get rows r) row (was.each r) e
        ∙ ap (λ (j : ℕ). map (heard_in (family sig n) j r) (range_with_len 0 n)) rounds

-- a table of them is true of this engine
pub table_is : (sig : Signature) (n : ℕ) (rows : Vec (Vec Bool Global) Global) → IsHearing sig n rows.items
    → AreTrue hears_here (record { sig = sig; rows = rows })
table_is sig n rows is = record {
  said = λ member other b low e. said member other b low e;
  needed = λ member other low need. needed member other low need;
}
  where
    size : length rows.items ≡ n
    size = is.rows_are.size

    said : (member other : ℕ) (b : Bool) → other < length rows.items → said_in (slice_get rows.items member) other ≡ Some b
        → hears_here sig (length rows.items) member other ≡ b
    said member other b low e = go (slice_get rows.items member) refl e
      where
        go : (o : Option (Vec Bool Global)) → slice_get rows.items member ≡ o → said_in o other ≡ Some b → hears_here sig (length rows.items) member other ≡ b
        go None at e = absurd (none-some b e)
        go (Some row) at e =
            let own : member < n = subst (λ (n : ℕ). member < n) size (slice_get_within rows.items member row at) in
            let told : said_in (slice_get rows.items member) other ≡ Some (hears_here sig n member other) =
            said_is n (hears_here sig n) rows.items is.rows_are member other own (subst (λ (n : ℕ). other < n) size low) in
            ap (λ (n : ℕ). hears_here sig n member other) size
            ∙ same_Some (hears_here sig n member other) b (sym told ∙ (ap (λ (o : Option (Vec Bool Global)). said_in o other) at ∙ e))

    needed : (member other : ℕ) → member < length rows.items → needs sig (length rows.items) member other ≡ true
        → hears_here sig (length rows.items) member other ≡ true
    needed member other low need =
        let own : member < n = subst (λ (n : ℕ). member < n) size low in
        let many : 0 < n = omega arith in
        ap (λ (n : ℕ). hears_here sig n member other) size
        ∙ is_heard (family sig n) (length (family sig n member).rounds) member other
        ((is.planned many).serves.hears member other own (sym (ap (λ (n : ℕ). needs sig n member other) size) ∙ need))
