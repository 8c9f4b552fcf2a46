-- What is listed covers what a call may complete.
use Rattle.std.proofs.Common.{◌≡◌, ℕ, zero, suc, ◌+◌, ◌<◌, ◌⊎◌, inl, inr, Bool, true, false, not, cond, eqb, ltb, ◌&&◌, ◌||◌, List, [], ◌∷◌, ◌++◌, length, take}
use Rattle.std.proofs.Common.{filter, Option, Some, None, Vec, Global, refl, sym, ap, subst, ◌∙◌, arith, get_or, eq-eqb, eqb-true, lt-ltb, add-one}
use Rattle.std.proofs.lemmas.Bool.{and_parts, false≢true, ltb-true, not-true}
use Rattle.std.proofs.lemmas.List.{append-nil}
use Rattle.std.proofs.lemmas.Option.{none-some, same_Some}
use Rattle.std.specs.Prelude.{slice_get, slice_index, IfSome}
use Rattle.coll_kinds.specs.Common.{is_among}
use Rattle.coll_parser.specs.declared.command.Command.TheVariants.{Test, WaitAny, WaitSome}
use Rattle.coll_verdict.specs.declared.known.KnownRequest.{KnownRequest}
use Rattle.coll_verdict.specs.Code.{IsKnown, IsSketch}
use Rattle.coll_verdict.specs.Passes.{IsSure}
use Rattle.coll_verdict.specs.Sketches.{Sketch}
use Rattle.coll_verdict.specs.Standings.{Each}
use Rattle.coll_verdict.proofs.Listed.{any_among, get_at}
use Rattle.coll_cases.specs.Choosing.{may_be_active, may_be_active_in, is_sure, is_sure_in, one_is_sure}
use Rattle.coll_cases.specs.Code.{AreOutcomes, Covers, HasList}
use Rattle.coll_cases.specs.Outcomes.{IsOutcome, MayBeActive, NoneSure}
use Rattle.coll_cases.specs.Outcomes as outcomes
use Rattle.coll_cases.proofs.Amounting.{filter_among}

-- ---- lists of lists

get_longer : {X : Type 0} (xs ys : List X) (i : ℕ) (x : X) → slice_get xs i ≡ Some x → slice_get (xs ++ ys) i ≡ Some x
get_longer [] ys i x e = absurd (none-some x e)
get_longer (y ∷ xs) ys zero x e = e
get_longer (y ∷ xs) ys (suc i) x e = get_longer xs ys i x e

get_last : {X : Type 0} (xs : List X) (x : X) → slice_get (xs ++ x ∷ []) (length xs) ≡ Some x
get_last [] x = refl
get_last (y ∷ xs) x = get_last xs x

pub has_more : (lists more : List (Vec ℕ Global)) (qs : List ℕ) → HasList lists qs → HasList (lists ++ more) qs
has_more lists more qs has = (has.0, has.1, get_longer lists more has.0 has.1 has.2, has.3)

pub has_last : (lists : List (Vec ℕ Global)) (v : Vec ℕ Global) (qs : List ℕ) → v.items ≡ qs → HasList (lists ++ v ∷ []) qs
has_last lists v qs e = (length lists, v, get_last lists v, e)

-- ---- tests

may_be_so : (known : List KnownRequest) (k : Sketch) (q : ℕ) → IsSketch known k → MayBeActive k q → may_be_active known q ≡ true
may_be_so known k q s up = go (slice_get known q) (s.each q)
  where
    both : (a b : Bool) → a ≡ true → b ≡ false → (a && not b) ≡ true
    both true true e f = sym f
    both true false e f = refl
    both false b e f = absurd (false≢true e)

    go : (o : Option KnownRequest) → IfSome o (IsKnown k q) → may_be_active_in o ≡ true
    go None is = refl
    go (Some x) is =
        both (ltb 0 x.starts) x.is_rested (lt-ltb 0 x.starts (subst (λ (n : ℕ). 0 < n) is.starts up.begun)) (sym is.rested ∙ up.unrested)

sure_so : (known : List KnownRequest) (k : Sketch) (q : ℕ) → IsSketch known k → is_sure known q ≡ true → IsSure k q
sure_so known k q s e = go (slice_get known q) (s.each q) e
  where
    go : (o : Option KnownRequest) → IfSome o (IsKnown k q) → is_sure_in o ≡ true → IsSure k q
    go None is e = absurd (false≢true e)
    go (Some x) is e =
        let parts = and_parts (ltb 0 x.starts) (not x.is_named) e in
        record { begun = subst (λ (n : ℕ). 0 < n) (sym is.starts) (ltb-true 0 x.starts parts.0); unnamed = is.named ∙ not-true x.is_named parts.1 }

-- ---- calls

pub test_covers : (known : List KnownRequest) (q : ℕ) (lists : List (Vec ℕ Global)) → HasList lists [] → HasList lists (q ∷ [])
    → AreOutcomes known (Test q) lists
test_covers known q lists empty single = record { choice = refl; covers = λ k s. covers k }
  where
    covers : (k : Sketch) → Covers k (Test q) lists
    covers k _ (outcomes.no _) = empty
    covers k _ (outcomes.yes _ up) = single

either : (b : Bool) → (b ≡ true) ⊎ (b ≡ false)
either true = inl refl
either false = inr refl

pub any_covers : (known : List KnownRequest) (qs : List ℕ) (lists : List (Vec ℕ Global))
    → ((q : ℕ) → is_among q qs ≡ true → may_be_active known q ≡ true → HasList lists (q ∷ []))
    → (one_is_sure known qs ≡ false → HasList lists [])
    → AreOutcomes known (WaitAny qs) lists
any_covers known qs lists singles empty = record { choice = refl; covers = λ k s. covers k s }
  where
    covers : (k : Sketch) → IsSketch known k → Covers k (WaitAny qs) lists
    covers k s _ (outcomes.one _ q among up) = singles q among (may_be_so known k q s up)
    covers k s _ (outcomes.nothing _ none) = go (either (one_is_sure known qs))
      where
        go : (one_is_sure known qs ≡ true) ⊎ (one_is_sure known qs ≡ false) → HasList lists []
        go (inl e) = let one = any_among (is_sure known) qs e in absurd (none one.0 one.1 (sure_so known k one.0 s one.2))
        go (inr e) = empty e

or_right : (a b : Bool) → b ≡ true → (a || b) ≡ true
or_right true b e = refl
or_right false b e = e

among_first : (q : ℕ) (rest : List ℕ) → is_among q (q ∷ rest) ≡ true
among_first q rest = ap (λ (b : Bool). b || is_among q rest) (eq-eqb q q refl)

-- those that pass one test, of those that pass another
filter_twice : (f p : ℕ → Bool) (qs : List ℕ) → Each (filter f qs) (λ q. p q ≡ true) → filter f (filter p qs) ≡ filter f qs
filter_twice f p [] each = refl
filter_twice f p (q ∷ qs) each = go (filter_twice f p qs) (f q) refl each
  where
    both : (b : Bool) → f q ≡ true → filter f (cond b (q ∷ filter p qs) (filter p qs)) ≡ cond b (q ∷ filter f (filter p qs)) (filter f (filter p qs))
    both true is = ap (λ (b : Bool). cond b (q ∷ filter f (filter p qs)) (filter f (filter p qs))) is
    both false is = refl

    neither : (b : Bool) → f q ≡ false → filter f (cond b (q ∷ filter p qs) (filter p qs)) ≡ filter f (filter p qs)
    neither true is = ap (λ (b : Bool). cond b (q ∷ filter f (filter p qs)) (filter f (filter p qs))) is
    neither false is = refl

    go : (Each (filter f qs) (λ q. p q ≡ true) → filter f (filter p qs) ≡ filter f qs)
        → (b : Bool) → f q ≡ b → Each (cond b (q ∷ filter f qs) (filter f qs)) (λ q. p q ≡ true)
        → filter f (cond (p q) (q ∷ filter p qs) (filter p qs)) ≡ cond b (q ∷ filter f qs) (filter f qs)
    go rest true is each =
        both (p q) is
        ∙ (ap (λ (b : Bool). cond b (q ∷ filter f (filter p qs)) (filter f (filter p qs))) (each q (among_first q (filter f qs)))
        ∙ ap (λ (qs : List ℕ). q ∷ qs) (rest (λ r e. each r (or_right (eqb q r) (is_among r (filter f qs)) e))))
    go rest false is each = neither (p q) is ∙ rest each

pub some_covers : (known : List KnownRequest) (qs : List ℕ) (lists : List (Vec ℕ Global))
    → ((f : ℕ → Bool) → HasList lists (filter f (filter (may_be_active known) qs)))
    → AreOutcomes known (WaitSome qs) lists
some_covers known qs lists subsets = record { choice = refl; covers = λ k s. covers k s }
  where
    covers : (k : Sketch) → IsSketch known k → Covers k (WaitSome qs) lists
    covers k s out (outcomes.some _ _ f is each none) =
        let has = subsets f in
        let all : Each (filter f qs) (λ q. may_be_active known q ≡ true) =
        λ q e. may_be_so known k q s (each q (ap (is_among q) is ∙ e)) in
        (has.0, has.1, has.2, has.3 ∙ (filter_twice f (may_be_active known) qs all ∙ sym is))

-- those among which a request that may be active is
pub singles_of : (known : List KnownRequest) (qs active : List ℕ) (lists : List (Vec ℕ Global)) → active ≡ filter (may_be_active known) qs
    → ((q : ℕ) → is_among q active ≡ true → HasList lists (q ∷ []))
    → (q : ℕ) → is_among q qs ≡ true → may_be_active known q ≡ true → HasList lists (q ∷ [])
singles_of known qs active lists is each q among up = each q (ap (is_among q) is ∙ filter_among (may_be_active known) qs q among up)

-- ---- one more item

filter_more : (f : ℕ → Bool) (xs : List ℕ) (i : ℕ) → i < length xs
    → filter f (take (suc i) xs) ≡ filter f (take i xs) ++ cond (f (slice_index xs i)) (slice_index xs i ∷ []) []
filter_more f [] i low = absurd (omega arith)
filter_more f (x ∷ xs) zero low = refl
filter_more f (x ∷ xs) (suc i) low = let less : i < length xs = omega arith in go (filter_more f xs i less) (f x)
  where
    go : filter f (take (suc i) xs) ≡ filter f (take i xs) ++ cond (f (slice_index xs i)) (slice_index xs i ∷ []) []
        → (b : Bool) → cond b (x ∷ filter f (take (suc i) xs)) (filter f (take (suc i) xs))
        ≡ cond b (x ∷ filter f (take i xs)) (filter f (take i xs)) ++ cond (f (slice_index xs i)) (slice_index xs i ∷ []) []
    go rest true = ap (λ (qs : List ℕ). x ∷ qs) rest
    go rest false = rest

among_more : (q : ℕ) (xs : List ℕ) (i : ℕ) → i < length xs → is_among q (take (suc i) xs) ≡ true
    → (is_among q (take i xs) ≡ true) ⊎ (slice_index xs i ≡ q)
among_more q [] i low e = absurd (omega arith)
among_more q (x ∷ xs) zero low e = go (eqb x q) refl e
  where
    go : (b : Bool) → eqb x q ≡ b → (b || false) ≡ true → (is_among q [] ≡ true) ⊎ (x ≡ q)
    go true is e = inr (eqb-true x q is)
    go false is e = inl e
among_more q (x ∷ xs) (suc i) low e = let less : i < length xs = omega arith in go (among_more q xs i less) (eqb x q) e
  where
    go : (is_among q (take (suc i) xs) ≡ true → (is_among q (take i xs) ≡ true) ⊎ (slice_index xs i ≡ q))
        → (b : Bool) → (b || is_among q (take (suc i) xs)) ≡ true → ((b || is_among q (take i xs)) ≡ true) ⊎ (slice_index xs i ≡ q)
    go rest true e = inl refl
    go rest false e = rest e

-- each request alone: of the first ones, and of one more
pub alone_more : (xs : List ℕ) (i : ℕ) (lists : List (Vec ℕ Global)) (v : Vec ℕ Global) (q : ℕ) → i < length xs → v.items ≡ slice_index xs i ∷ []
    → ((q : ℕ) → is_among q (take i xs) ≡ true → HasList lists (q ∷ []))
    → is_among q (take (i + 1) xs) ≡ true → HasList (lists ++ v ∷ []) (q ∷ [])
alone_more xs i lists v q low is each e = go (among_more q xs i low (subst (λ (n : ℕ). is_among q (take n xs) ≡ true) (add-one i) e))
  where
    go : (is_among q (take i xs) ≡ true) ⊎ (slice_index xs i ≡ q) → HasList (lists ++ v ∷ []) (q ∷ [])
    go (inl among) = has_more lists (v ∷ []) (q ∷ []) (each q among)
    go (inr same) = has_last lists v (q ∷ []) (is ∙ ap (λ (x : ℕ). x ∷ []) same)

-- some of the first requests, and of one more
pub subset_more : (f : ℕ → Bool) (xs : List ℕ) (i : ℕ) (olds news : List (Vec ℕ Global)) → i < length xs → HasList olds (filter f (take i xs))
    → ((qs : List ℕ) → HasList olds qs → HasList news qs)
    → ((qs : List ℕ) → HasList olds qs → HasList news (qs ++ slice_index xs i ∷ []))
    → HasList news (filter f (take (i + 1) xs))
subset_more f xs i olds news low has without joined =
    subst (λ (n : ℕ). HasList news (filter f (take n xs))) (sym (add-one i))
    (subst (HasList news) (sym (filter_more f xs i low)) (go (f (slice_index xs i))))
  where
    go : (b : Bool) → HasList news (filter f (take i xs) ++ cond b (slice_index xs i ∷ []) [])
    go true = joined (filter f (take i xs)) has
    go false = subst (HasList news) (sym (append-nil (filter f (take i xs)))) (without (filter f (take i xs)) has)

get_taken : {X : Type 0} (xs : List X) (i j : ℕ) (x : X) → slice_get (take (suc i) xs) j ≡ Some x
    → (slice_get (take i xs) j ≡ Some x) ⊎ (slice_get xs i ≡ Some x)
get_taken [] i j x e = absurd (none-some x e)
get_taken (y ∷ xs) zero zero x e = inr e
get_taken (y ∷ xs) zero (suc j) x e = absurd (none-some x e)
get_taken (y ∷ xs) (suc i) zero x e = inl e
get_taken (y ∷ xs) (suc i) (suc j) x e = get_taken xs i j x e

-- the first lists without and with one more request, and one list more
pub both_more : (lists more : List (Vec ℕ Global)) (i : ℕ) (v copy longer : Vec ℕ Global) (request : ℕ) → i < length lists → v ≡ get_or lists i v
    → copy.items ≡ v.items → longer.items ≡ v.items ++ request ∷ []
    → ((qs : List ℕ) → HasList (take i lists) qs → HasList more qs)
    → ((qs : List ℕ) → HasList (take i lists) qs → HasList more (qs ++ request ∷ []))
    → (qs : List ℕ) → HasList (take (i + 1) lists) qs
    → HasList ((more ++ copy ∷ []) ++ longer ∷ []) qs × HasList ((more ++ copy ∷ []) ++ longer ∷ []) (qs ++ request ∷ [])
both_more lists more i v copy longer request low is same long without joined qs has =
    go (get_taken lists i has.0 has.1 (subst (λ (n : ℕ). slice_get (take n lists) has.0 ≡ Some has.1) (add-one i) has.2))
  where
    go : (slice_get (take i lists) has.0 ≡ Some has.1) ⊎ (slice_get lists i ≡ Some has.1)
        → HasList ((more ++ copy ∷ []) ++ longer ∷ []) qs × HasList ((more ++ copy ∷ []) ++ longer ∷ []) (qs ++ request ∷ [])
    go (inl at) = (
      has_more (more ++ copy ∷ []) (longer ∷ []) qs (has_more more (copy ∷ []) qs (without qs (has.0, has.1, at, has.3))),
      has_more (more ++ copy ∷ []) (longer ∷ []) (qs ++ request ∷ [])
          (has_more more (copy ∷ []) (qs ++ request ∷ []) (joined qs (has.0, has.1, at, has.3))),
    )
    go (inr at) =
        let one : v ≡ has.1 = same_Some v has.1 (sym (get_at lists i v low ∙ ap Some (sym is)) ∙ at) in
        let items : v.items ≡ qs = ap (λ (v : Vec ℕ Global). v.items) one ∙ has.3 in (
          has_more (more ++ copy ∷ []) (longer ∷ []) qs (has_last more copy qs (same ∙ items)),
          has_last (more ++ copy ∷ []) longer (qs ++ request ∷ []) (long ∙ ap (λ (qs : List ℕ). qs ++ request ∷ []) items),
        )
