-- The line of a mismatch is the first one that differs.
use Rattle.std.proofs.Common.{◌≡◌, ℕ, zero, suc, ◌+◌, ◌<◌, ◌≤◌, Bool, true, false, cond, ltb, List, [], ◌∷◌, ◌++◌, ◌⊎◌, Option, Some, None, refl, ap}
use Rattle.std.proofs.Common.{subst, sym, ◌∙◌, arith, inl, inr}
use Rattle.std.specs.Prelude.{slice_get, flat_map}
use Rattle.std.proofs.lemmas.Bool.Decides.{nat_tests}
use Rattle.std.proofs.lemmas.List.Concat.{flat_map-cons}
use Rattle.std.proofs.lemmas.Option.{none-some, same_Some}
use Rattle.coll_kinds.proofs.Sameness.{same_signature-Decides}
use Rattle.coll_parser.specs.Requests.{Request}
use Rattle.coll_script.specs.declared.first.Earliest.{Earliest}
use Rattle.coll_script.specs.Matching.{earliest, agrees, differing_from, differing, lower, least, mismatch}
use Rattle.coll_script.specs.Belonging.{StandsAt, Differs, IsFirstToDiffer, NoneDiffers}
use Rattle.coll_script.proofs.Matches.{least-none, agrees-same}
use Rattle.coll_script.proofs.Earliest.{earliest-is, earliest-le, earliest-some}

-- ---- numbers of a list

abbrev pub Among : ℕ → List ℕ → Type 0
Among x [] = ⊥
Among x (y ∷ ys) = (x ≡ y) ⊎ Among x ys

among-left : (x : ℕ) (xs ys : List ℕ) → Among x xs → Among x (xs ++ ys)
among-left x [] ys h = absurd h
among-left x (y ∷ xs) ys h = elim h [ inl e ↦ inl e | inr later ↦ inr (among-left x xs ys later) ]

among-right : (x : ℕ) (xs ys : List ℕ) → Among x ys → Among x (xs ++ ys)
among-right x [] ys h = h
among-right x (y ∷ xs) ys h = inr (among-right x xs ys h)

among-parts : (x : ℕ) (xs ys : List ℕ) → Among x (xs ++ ys) → Among x xs ⊎ Among x ys
among-parts x [] ys h = inr h
among-parts x (y ∷ xs) ys h = elim h [
  | inl e ↦ inl (inl e)
  | inr later ↦ elim (among-parts x xs ys later) [ inl one ↦ inl (inr one) | inr other ↦ inr other ]
]

record FoundIn (X : Type 0) (f : X → List ℕ) (xs : List X) (line : ℕ) : Type 0 where
  pub at : ℕ
  pub x : X
  pub is : slice_get xs at ≡ Some x
  pub among : Among line (f x)

flat_map-at : {X : Type 0} (f : X → List ℕ) (xs : List X) (line : ℕ) → Among line (flat_map f xs) → FoundIn X f xs line
flat_map-at f [] line h = absurd h
flat_map-at f (x ∷ xs) line h = elim (among-parts line (f x) (flat_map f xs) (subst (Among line) (flat_map-cons f x xs) h)) [
  | inl here ↦ record { at = 0; x = x; is = refl; among = here }
  | inr later ↦ (let found = flat_map-at f xs line later in record { at = suc found.at; x = found.x; is = found.is; among = found.among })
]

flat_map-in : {X : Type 0} (f : X → List ℕ) (xs : List X) (line k : ℕ) (x : X) → slice_get xs k ≡ Some x → Among line (f x) → Among line (flat_map f xs)
flat_map-in f [] line k x is h = absurd (none-some x is)
flat_map-in f (y ∷ xs) line zero x is h =
    subst (Among line) (sym (flat_map-cons f y xs)) (among-left line (f y) (flat_map f xs) (subst (λ z. Among line (f z)) (sym (same_Some y x is)) h))
flat_map-in f (y ∷ xs) line (suc k) x is h =
    subst (Among line) (sym (flat_map-cons f y xs)) (among-right line (f y) (flat_map f xs) (flat_map-in f xs line k x is h))

-- ---- the least number

lowest : (b : Bool) (x l m : ℕ) (xs : List ℕ) → (Some (cond b x l) ≡ Some m) ⊎ Among m xs → (Some l ≡ Some m) ⊎ Among m (x ∷ xs)
lowest b x l m xs (inr later) = inr (inr later)
lowest true x l m xs (inl e) = inr (inl (sym (same_Some x m e)))
lowest false x l m xs (inl e) = inl e

least-is : (o : Option ℕ) (xs : List ℕ) (m : ℕ) → least o xs ≡ Some m → (o ≡ Some m) ⊎ Among m xs
least-is o [] m e = inl e
least-is None (x ∷ xs) m e = elim (least-is (Some x) xs m e) [ inl is ↦ inr (inl (sym (same_Some x m is))) | inr later ↦ inr (inr later) ]
least-is (Some l) (x ∷ xs) m e = lowest (ltb x l) x l m xs (least-is (lower (Some l) x) xs m e)

below-both : (b : Bool) (x l m : ℕ) → ltb x l ≡ b → m ≤ cond b x l → (m ≤ l) × (m ≤ x)
below-both true x l m test le = (let lt : x < l = grind (arith, nat_tests) in omega (arith, lt, le), le)
below-both false x l m test le = (le, let ge : l ≤ x = grind (arith, nat_tests) in omega (arith, ge, le))

least-le : (o : Option ℕ) (xs : List ℕ) (m : ℕ) → least o xs ≡ Some m → ((g : ℕ) → o ≡ Some g → m ≤ g) × ((x : ℕ) → Among x xs → m ≤ x)
least-le o [] m e = (λ g is. (let same : m ≡ g = same_Some m g (sym e ∙ is) in omega (arith, same)), λ x h. absurd h)
least-le None (x ∷ xs) m e =
    let rest = least-le (Some x) xs m e in
    let low = rest.0 x refl in
    (λ g is. absurd (none-some g is), λ y h. elim h [ inl is ↦ omega (arith, low, is) | inr later ↦ rest.1 y later ])
least-le (Some l) (x ∷ xs) m e =
    let rest = least-le (lower (Some l) x) xs m e in
    let low = below-both (ltb x l) x l m refl (rest.0 (cond (ltb x l) x l) refl) in (
      λ g is. (let same : l ≡ g = same_Some l g is in omega (arith, low.0, same)),
      λ y h. elim h [ inl is ↦ omega (arith, low.1, is) | inr later ↦ rest.1 y later ],
    )

-- ---- lines that differ

record DiffersIn (firsts : ℕ → Option Earliest) (place : ℕ) (list : List Request) (line : ℕ) : Type 0 where
  pub at : ℕ
  pub p : Request
  pub is : slice_get list at ≡ Some p
  pub is_line : p.line ≡ line
  pub fails : agrees (firsts (place + at)) p.sig ≡ false

differing_from-at : (firsts : ℕ → Option Earliest) (place : ℕ) (list : List Request) (line : ℕ)
    → Among line (differing_from firsts place list) → DiffersIn firsts place list line
differing_from-at firsts place [] line h = absurd h
differing_from-at firsts place (p ∷ list) line h = turn (agrees (firsts place) p.sig) refl (differing_from-at firsts (place + 1) list line) h
  where
    later : DiffersIn firsts (place + 1) list line → DiffersIn firsts place (p ∷ list) line
    later found =
        let at : place + 1 + found.at ≡ place + suc found.at = omega arith in
        record {
          at = suc found.at;
          p = found.p;
          is = found.is;
          is_line = found.is_line;
          fails =
              ap (λ k. agrees (firsts k) found.p.sig) (sym at) ∙ found.fails;
        }

    turn : (b : Bool) → agrees (firsts place) p.sig ≡ b → (Among line (differing_from firsts (place + 1) list) → DiffersIn firsts (place + 1) list line)
        → Among line (cond b (differing_from firsts (place + 1) list) (p.line ∷ differing_from firsts (place + 1) list))
        → DiffersIn firsts place (p ∷ list) line
    turn true e rest h = later (rest h)
    turn false e rest h = elim h [
      | inl is ↦ (let at : place ≡ place + 0 =
          omega arith in record { at = 0; p = p; is = refl; is_line = sym is; fails = ap (λ k. agrees (firsts k) p.sig) (sym at) ∙ e })
      | inr others ↦ later (rest others)
    ]

differing_from-in : (firsts : ℕ → Option Earliest) (place : ℕ) (list : List Request) (k : ℕ) (p : Request)
    → slice_get list k ≡ Some p → agrees (firsts (place + k)) p.sig ≡ false → Among p.line (differing_from firsts place list)
differing_from-in firsts place [] k p is fails = absurd (none-some p is)
differing_from-in firsts place (q ∷ list) zero p is fails =
    let same : q ≡ p = same_Some q p is in
    let at : place + 0 ≡ place = omega arith in
    let here : agrees (firsts place) q.sig ≡ false =
    ap (λ (r : Request). agrees (firsts place) r.sig) same ∙ ap (λ k. agrees (firsts k) p.sig) (sym at) ∙ fails in
    rw here (inl (ap (λ (r : Request). r.line) (sym same)))
differing_from-in firsts place (q ∷ list) (suc k) p is fails =
    let at : place + suc k ≡ place + 1 + k = omega arith in
    turn (agrees (firsts place) q.sig) (differing_from-in firsts (place + 1) list k p is (ap (λ i. agrees (firsts i) p.sig) (sym at) ∙ fails))
  where
    turn : (b : Bool) → Among p.line (differing_from firsts (place + 1) list)
        → Among p.line (cond b (differing_from firsts (place + 1) list) (q.line ∷ differing_from firsts (place + 1) list))
    turn true h = h
    turn false h = inr h

-- ---- the first line that differs

-- a request that doesn't agree with the earliest is among those that differ
pub among-all : (all : List (List (List Request))) (comm : ℕ) (lists : List (List Request)) (place : ℕ) (p : Request)
    → slice_get all comm ≡ Some lists → StandsAt lists place p → agrees (earliest None place lists) p.sig ≡ false
    → Among p.line (flat_map differing all)
among-all all comm lists place p is stands fails =
    let at : 0 + place ≡ place = omega arith in
    let here = differing_from-in (λ k. earliest None k lists) 0 stands.list place p stands.is_there
    (ap (λ k. agrees (earliest None k lists) p.sig) at ∙ fails) in
    flat_map-in differing all p.line comm lists is
    (flat_map-in (differing_from (λ k. earliest None k lists) 0) lists p.line stands.member stands.list stands.is_list here)

-- one that does not agree differs from the earliest there
differs-from : (all : List (List (List Request))) (comm : ℕ) (lists : List (List Request)) (place : ℕ) (p : Request)
    → slice_get all comm ≡ Some lists → StandsAt lists place p → agrees (earliest None place lists) p.sig ≡ false
    → Differs all p
differs-from all comm lists place p is stands fails =
    let some = earliest-some None place lists p stands in
    elim (earliest-is None place lists some.f some.is) [
      | inl none ↦ absurd (none-some some.f none)
      | inr there ↦ (let first = there.p in
          let line : first.line ≡ some.f.line = ap (λ (f : Earliest). f.line) there.is_first in
          let sig : some.f.sig ≡ first.sig = ap (λ (f : Earliest). f.sig) (sym there.is_first) in
          record {
            comm = comm;
            lists = lists;
            is_comm = is;
            place = place;
            there = stands;
            first = first;
            earliest = record {
              there = there.stands;
              least =
                  λ q at. (let le = (earliest-le None place lists some.f some.is).1 q at in omega (arith, le, line));
            };
            differs = λ same. (let yes : agrees (earliest None place lists) p.sig ≡ true =
                ap (λ (o : Option Earliest). agrees o p.sig) some.is ∙ (same_signature-Decides some.f.sig p.sig).1 (sig ∙ sym same) in
                let no : true ≡ false = sym yes ∙ fails in absurd cc);
          })
    ]

-- of two with different signatures at one place, one doesn't agree
pub one-differs : (o : Option Earliest) (p q : Request) → (p.sig ≡ q.sig → ⊥) → (agrees o p.sig ≡ false) ⊎ (agrees o q.sig ≡ false)
one-differs o p q ne = turn (agrees o p.sig) (agrees o q.sig) refl refl
  where
    turn : (a b : Bool) → agrees o p.sig ≡ a → agrees o q.sig ≡ b → (agrees o p.sig ≡ false) ⊎ (agrees o q.sig ≡ false)
    turn false b one other = inl one
    turn true false one other = inr other
    turn true true one other = absurd (ne (agrees-same o p.sig q.sig one other))

-- a request that differs, or the earliest there, is among those that don't agree
among-differs : (all : List (List (List Request))) (p : Request) → (d : Differs all p)
    → (Among p.line (flat_map differing all)) ⊎ (Among d.first.line (flat_map differing all))
among-differs all p d = elim (one-differs (earliest None d.place d.lists) p d.first d.differs) [
  | inl fails ↦ inl (among-all all d.comm d.lists d.place p d.is_comm d.there fails)
  | inr fails ↦ inr (among-all all d.comm d.lists d.place d.first d.is_comm d.earliest.there fails)
]

pub none-differs : (all : List (List (List Request))) → mismatch all ≡ None → NoneDiffers all
none-differs all e p d =
    let empty = (least-none None (flat_map differing all) e).1 in
    elim (among-differs all p d) [ inl h ↦ subst (Among p.line) empty h | inr h ↦ subst (Among d.first.line) empty h ]

pub first-differs : (all : List (List (List Request))) (line : ℕ) → mismatch all ≡ Some line → IsFirstToDiffer all line
first-differs all line e = elim (least-is None (flat_map differing all) line e) [
  | inl none ↦ absurd (none-some line none)
  | inr among ↦ (let one = flat_map-at differing all line among in
      let two = flat_map-at (differing_from (λ k. earliest None k one.x) 0) one.x line one.among in
      let it = differing_from-at (λ k. earliest None k one.x) 0 two.x line two.among in
      let at : 0 + it.at ≡ it.at = omega arith in
      let stands : StandsAt one.x it.at it.p = record { member = two.at; list = two.x; is_list = two.is; is_there = it.is } in
      record {
        p = it.p;
        is_line = it.is_line;
        differs = differs-from all one.at one.x it.at it.p one.is stands (ap (λ k. agrees (earliest None k one.x) it.p.sig) (sym at) ∙ it.fails);
        first = λ q d. (let least = (least-le None (flat_map differing all) line e).1 in
            elim (among-differs all q d) [
              | inl h ↦ least q.line h
              | inr h ↦ (let low = least d.first.line h in let le = d.earliest.least q d.there in omega (arith, low, le))
            ]);
      })
]
