-- What is judged after the last line, request by request.
use Rattle.std.proofs.Common.{◌≡◌, ℕ, zero, suc, ◌+◌, ◌<◌, ◌≤◌, Bool, true, false, cond, ◌&&◌, eqb, ltb, min, List, [], ◌∷◌, ◌++◌, map, drop, set}
use Rattle.std.proofs.Common.{length, get_or, Option, Some, None, refl, ap, sym, ◌∙◌, arith, inl, inr}
use Rattle.std.specs.Prelude.{slice_get, unwrap_or, flat_map, Vec, vec_len}
use Rattle.std.specs.Global.{Global}
use Rattle.std.specs.Option.{option_map}
use Rattle.std.proofs.lemmas.Bool.Decides.{nat_tests}
use Rattle.coll_parser.specs.declared.request.Request as rust
use Rattle.coll_parser.specs.Code.{request_view}
use Rattle.coll_parser.proofs.Lists.{slice_get-view, slice_get-push_other}
use Rattle.coll_script.specs.PostingViews.{list_view, lists_view}
use Rattle.std.proofs.lemmas.Bool.{cases_eq, cases_lt}
use Rattle.std.proofs.lemmas.List.{length-map, length-set, length-append, length-drop, drop_all}
use Rattle.std.proofs.lemmas.List.Concat.{flat_map-cons}
use Rattle.std.proofs.lemmas.Option.{slice_get_past}
use Rattle.coll_parser.specs.Requests.{Request}
use Rattle.coll_script.specs.declared.first.Earliest.{Earliest}
use Rattle.coll_script.specs.Matching.{first_of, first_at, earlier, earliest, agrees, differing_from, lower, least, started_alike, first_list}
use Rattle.coll_script.specs.Keeping.{IsKept}
use Rattle.coll_script.proofs.Slots.{slice_get-set_same, slice_get-set_other, slice_get-push_same}

-- ---- lines that differ

lower-turn : (b : Bool) (line : Option ℕ) (other : ℕ) (rest : List ℕ) → least (cond b line (lower line other)) rest ≡ least line (cond b rest (other ∷ rest))
lower-turn true line other rest = refl
lower-turn false line other rest = refl

pub differing-more : (firsts : ℕ → Option Earliest) (list : List Request) (place : ℕ) (p : Request) (line next total : Option ℕ)
    → drop place list ≡ p ∷ drop (place + 1) list
    → next ≡ cond (agrees (firsts place) p.sig) line (lower line p.line)
    → least line (differing_from firsts place (drop place list)) ≡ total → least next (differing_from firsts (place + 1) (drop (place + 1) list)) ≡ total
differing-more firsts list place p line next total front made so_far =
    ap (λ (o : Option ℕ). least o (differing_from firsts (place + 1) (drop (place + 1) list))) made
    ∙ lower-turn (agrees (firsts place) p.sig) line p.line (differing_from firsts (place + 1) (drop (place + 1) list))
    ∙ ap (λ (l : List Request). least line (differing_from firsts place l)) (sym front) ∙ so_far

least-append : (line : Option ℕ) (xs ys : List ℕ) → least line (xs ++ ys) ≡ least (least line xs) ys
least-append line [] ys = refl
least-append line (x ∷ xs) ys = least-append (lower line x) xs ys

pub least-more : {X : Type 0} (f : X → List ℕ) (xs : List X) (k : ℕ) (x : X) (line next total : Option ℕ)
    → drop k xs ≡ x ∷ drop (k + 1) xs → next ≡ least line (f x)
    → least line (flat_map f (drop k xs)) ≡ total → least next (flat_map f (drop (k + 1) xs)) ≡ total
least-more {X} f xs k x line next total front made so_far =
    ap (λ (o : Option ℕ). least o (flat_map f (drop (k + 1) xs))) made ∙ sym (least-append line (f x) (flat_map f (drop (k + 1) xs)))
    ∙ ap (least line) (sym (flat_map-cons f x (drop (k + 1) xs))) ∙ ap (λ (l : List X). least line (flat_map f l)) (sym front) ∙ so_far

-- ---- the earliest requests

pub earlier-none : (o : Option Earliest) → earlier o None ≡ o
earlier-none None = refl
earlier-none (Some p) = refl

pub earliest-more : (lists : List (List Request)) (i place : ℕ) (list : List Request) (first next total : Option Earliest)
    → drop i lists ≡ list ∷ drop (i + 1) lists → next ≡ earlier first (first_at list place)
    → earliest first place (drop i lists) ≡ total → earliest next place (drop (i + 1) lists) ≡ total
earliest-more lists i place list first next total front made so_far =
    ap (λ (o : Option Earliest). earliest o place (drop (i + 1) lists)) made ∙ ap (earliest first place) (sym front) ∙ so_far

-- ---- starts

pub started-more : (first list : List Request) (place : ℕ) (p q : Request) (total : Bool)
    → drop place first ≡ p ∷ drop (place + 1) first → drop place list ≡ q ∷ drop (place + 1) list
    → started_alike (drop place first) (drop place list) ≡ total
    → (eqb (length q.starts) (length p.starts) && started_alike (drop (place + 1) first) (drop (place + 1) list)) ≡ total
started-more first list place p q total one other so_far =
    sym (ap (λ (l : List Request). started_alike l (q ∷ drop (place + 1) list)) one) ∙ ap (started_alike (drop place first)) (sym other) ∙ so_far

pub started-short : (first list : List Request) → length list ≤ 0 → started_alike first list ≡ true
started-short [] [] le = refl
started-short (p ∷ first) [] le = refl
started-short first (q ∷ list) le = absurd (omega arith)

-- ---- one more request at a place

kept-there : (b : Bool) (place : ℕ) (p : Earliest) (old : List Earliest) (first : Earliest) → slice_get old place ≡ Some first
    → ltb p.line first.line ≡ b → cond b (Some p) (Some first) ≡ earlier (slice_get old place) (Some p)
kept-there b place p old first some less = rw (some, less) refl

pub IsKept-stays : (place : ℕ) (p first : Earliest) (old : List Earliest) → slice_get old place ≡ Some first → place < length old
    → ltb p.line first.line ≡ false → IsKept place p old old
IsKept-stays place p first old some lt less =
    record { within = lt; there = some ∙ kept-there false place p old first some less; others = λ k ne. refl }

pub IsKept-set : (place : ℕ) (p first : Earliest) (old : List Earliest) → slice_get old place ≡ Some first → place < length old
    → ltb p.line first.line ≡ true → IsKept place p old (set old place p)
IsKept-set place p first old some lt less =
    let len = length-set old place p in
    record {
      within = omega arith;
      there =
          slice_get-set_same old place p lt ∙ kept-there true place p old first some less;
      others = λ k ne. slice_get-set_other old place k p ne;
    }

pub IsKept-push : (place : ℕ) (p : Earliest) (old : List Earliest) → place ≡ length old → IsKept place p old (old ++ p ∷ [])
IsKept-push place p old end =
    let len = length-append old (p ∷ []) in
    let none : slice_get old place ≡ None = slice_get_past old place (omega arith) in
    record {
      within = omega arith;
      there = slice_get-push_same old place p end ∙ rw none refl;
      others =
          λ k ne. slice_get-push_other old k p (λ e. ne (e ∙ sym end));
    }

pub map-set : {X Y : Type 0} (v : X → Y) (xs : List X) (k : ℕ) (x : X) → map v (set xs k x) ≡ set (map v xs) k (v x)
map-set v [] k x = refl
map-set v (y ∷ xs) zero x = refl
map-set {X} {Y} v (y ∷ xs) (suc k) x = ap (λ (l : List Y). v y ∷ l) (map-set v xs k x)

-- the earliest of a list's requests up to a place, and what stands after that place
pub record KeepsUpTo (place : ℕ) (list : List Request) (old new : List Earliest) : Type 0 where
  pub within : place ≤ length new
  pub done : (k : ℕ) → k < place → slice_get new k ≡ earlier (slice_get old k) (first_at list k)
  pub left : (k : ℕ) → place ≤ k → slice_get new k ≡ slice_get old k

pub KeepsUpTo-more : (place : ℕ) (list : List Request) (old new newer : List Earliest) (p : Earliest)
    → first_at list place ≡ Some p → KeepsUpTo place list old new → IsKept place p new newer → KeepsUpTo (place + 1) list old newer
KeepsUpTo-more place list old new newer p here keeps kept = record {
  within = let lt = kept.within in omega arith;
  done = λ k lt. elim (cases_eq k place) [
    | inl e ↦ ap (slice_get newer) e ∙ kept.there
        ∙ ap (λ (o : Option Earliest). earlier o (Some p)) (keeps.left place (omega arith))
        ∙ ap (earlier (slice_get old place)) (sym here) ∙ ap (λ i. earlier (slice_get old i) (first_at list i)) (sym e)
    | inr ne ↦ kept.others k ne ∙ keeps.done k (omega arith)
  ];
  left = λ k le. kept.others k (λ e. omega arith) ∙ keeps.left k (omega arith);
}

first_at-past : (list : List Request) (k : ℕ) → length list ≤ k → first_at list k ≡ None
first_at-past list k le = ap (option_map first_of) (slice_get_past list k le)

pub KeepsUpTo-all : (place : ℕ) (list : List Request) (old new : List Earliest) → length list ≤ place
    → KeepsUpTo place list old new → (k : ℕ) → slice_get new k ≡ earlier (slice_get old k) (first_at list k)
KeepsUpTo-all place list old new le keeps k = elim (cases_lt k place) [
  | inl lt ↦ keeps.done k lt
  | inr ge ↦ keeps.left k ge ∙ sym (earlier-none (slice_get old k)) ∙ ap (earlier (slice_get old k)) (sym (first_at-past list k (omega arith)))
]

-- ---- the first list

pub first_list-view : (lists : List (Vec rust.Request Global)) (list : Vec rust.Request Global) → 0 < length lists
    → list ≡ get_or lists 0 list → first_list (lists_view lists) ≡ list_view list.items
first_list-view lists list some is =
    ap (λ (o : Option (List Request)). unwrap_or o []) (slice_get-view (λ (l : Vec rust.Request Global). list_view l.items) lists 0 list some is)

pub length-list_view : (list : List rust.Request) → length (list_view list) ≡ length list
length-list_view list = length-map list _

pub eqb-view : (one other : List rust.Request) (first : List Request) → first ≡ list_view other
    → eqb (length (list_view one)) (length first) ≡ eqb (length one) (length other)
eqb-view one other first is = ap (λ (l : List Request). eqb (length (list_view one)) (length l)) is ∙ rw (length-list_view one, length-list_view other) refl

pub length-starts : (p q : rust.Request) (n : ℕ) → p ≡ q → n ≡ vec_len q.starts → length (request_view p).starts ≡ n
length-starts p q n is len = length-map p.starts.items _ ∙ ap (λ (r : rust.Request). length r.starts.items) is ∙ omega (arith, q.starts.ok, len)

pub below : (place len end : ℕ) → len ≡ end → place ≤ end → (place ≡ len → ⊥) → place < end
below place len end is le ne = elim (cases_lt place end) [ inl lt ↦ lt | inr ge ↦ absurd (ne (omega arith)) ]

pub eqb-ne : (m n : ℕ) → (m ≡ n → ⊥) → eqb m n ≡ false
eqb-ne m n ne = grind (arith, nat_tests)

started-past : (first list : List Request) (place : ℕ) → length first ≤ place → started_alike (drop place first) (drop place list) ≡ true
started-past first list place le = ap (λ (l : List Request). started_alike l (drop place list)) (drop_all place first le)

pub started-done : (first list : List Request) (place end : ℕ) (total : Bool) → end ≡ min (length first) (length list)
    → end ≤ place → started_alike (drop place first) (drop place list) ≡ total → true ≡ total
started-done first list place end total is le so_far =
    elim (cases_lt place (length first)) [
      | inl lt ↦ (let len = length-drop place list in
          let short : length list ≤ place = omega arith in
          sym (started-short (drop place first) (drop place list) (omega arith)) ∙ so_far)
      | inr ge ↦ sym (started-past first list place ge) ∙ so_far
    ]
