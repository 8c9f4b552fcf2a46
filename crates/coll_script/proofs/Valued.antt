-- Values of a job whose requests are matched.
use Rattle.std.proofs.Common.{◌≡◌, Bool, true, false, eqb, ℕ, ◌+◌, ◌<◌, List, [], ◌∷◌, ◌++◌, drop, length, get_or, Option, Some, None, ap, sym, ◌∙◌}
use Rattle.std.proofs.Common.{append_assoc, arith}
use Rattle.std.specs.Prelude.{slice_get, unwrap_or, Vec}
use Rattle.std.specs.Global.{Global}
use Rattle.std.specs.List.{AllByRecursion}
use Rattle.std.specs.Option.{option_map}
use Rattle.std.proofs.lemmas.List.{length-map}
use Rattle.std.proofs.lemmas.Option.{slice_get-map, slice_get_within, unwrap_or-slice_get, same_Some}
use Rattle.coll_kinds.specs.declared.signature.Signature.{Signature}
use Rattle.coll_kinds.specs.Common.{given_len, broken}
use Rattle.coll_ops.specs.Contributions.{AreGiven}
use Rattle.coll_ops.specs.Values.{row_of}
use Rattle.coll_parser.specs.declared.request.Request as rust
use Rattle.coll_parser.specs.declared.request.Start as rust_start
use Rattle.coll_parser.specs.Requests.{Request}
use Rattle.coll_parser.specs.Code.{request_view, rows_view, givens}
use Rattle.coll_parser.proofs.Lists.{slice_get-view, AllByRecursion-read}
use Rattle.coll_script.specs.Matching.{first_list}
use Rattle.coll_script.specs.Meaning.{given_by, given_at}
use Rattle.coll_script.specs.Outcomes.{place_values, values_from, list_at, HaveStart, AreMatched}
use Rattle.coll_script.specs.PostingViews.{list_view, lists_view}
use Rattle.coll_script.proofs.Matches.{slice_get-list_at}
use Rattle.coll_script.proofs.Matched.{length-list_view}

pub length-lists_view : (lists : List (Vec rust.Request Global)) → length (lists_view lists) ≡ length lists
length-lists_view lists = length-map lists _

pub length-rows_view : (rows : List (Vec ℕ Global)) → length (rows_view rows) ≡ length rows
length-rows_view rows = length-map rows _

pub length-givens : (starts : List rust_start.Start) → length (givens starts) ≡ length starts
length-givens starts = length-map starts _

pub list_at-view : (lists : List (Vec rust.Request Global)) (i : ℕ) (l : Vec rust.Request Global) → i < length lists
    → l ≡ get_or lists i l → list_at (lists_view lists) i ≡ list_view l.items
list_at-view lists i l lt is =
    ap (λ (o : Option (List Request)). unwrap_or o []) (slice_get-view (λ (v : Vec rust.Request Global). list_view v.items) lists i l lt is)

-- the request of a member at a place where each has one with that start
pub have_start-at : (lists : List (Vec rust.Request Global)) (place start i : ℕ) (l : Vec rust.Request Global)
    → HaveStart (lists_view lists) place start → i < length lists → l ≡ get_or lists i l
    → (p : Request) × (slice_get (list_view l.items) place ≡ Some p) × (start < length p.starts)
have_start-at lists place start i l have lt is =
    let within : i < length (lists_view lists) = rw (length-lists_view lists) lt in
    let p = have i within in
    (p.0, ap (λ (list : List Request). slice_get list place) (sym (list_at-view lists i l lt is)) ∙ p.1, p.2)

pub place-within : (list : List rust.Request) (place : ℕ) (p : Request) → slice_get (list_view list) place ≡ Some p → place < length list
place-within list place p e =
    let lt = slice_get_within (list_view list) place p e in
    let len = length-list_view list in omega arith

-- what is read there is that request
pub request-at : (list : List rust.Request) (place : ℕ) (p : Request) (q : rust.Request)
    → slice_get (list_view list) place ≡ Some p → q ≡ get_or list place q → p ≡ request_view q
request-at list place p q e is = same_Some p (request_view q) (sym e ∙ slice_get-view request_view list place q (place-within list place p e) is)

-- ---- lists that are matched

pub HaveStart-matched : (n place start : ℕ) (lists : List (List Request)) (first : Request) → AreMatched n lists
    → slice_get (first_list lists) place ≡ Some first → start < length first.starts → HaveStart lists place start
HaveStart-matched n place start lists first is e lt m below =
    let each = is.each in
    let found = is.accord m place first (omega (arith, below, each)) e in
    let same = found.2.starts in
    (found.0, found.1, omega (arith, same, lt))

first-some : (lists : List (List Request)) (place : ℕ) (first : Request) → slice_get (first_list lists) place ≡ Some first → 0 < length lists
first-some [] place first e = absurd cc
first-some (list ∷ lists) place first e = omega arith

pub broken-matched : (n place : ℕ) (lists : List (List Request)) (first : Request) → AreMatched n lists
    → slice_get (first_list lists) place ≡ Some first → broken first.sig n ≡ None
broken-matched n place lists first is e =
    let some = first-some lists place first e in
    let each = is.each in
    let found = is.accord 0 place first (omega (arith, some, each)) e in
    ap (λ (s : Signature). broken s n) (sym found.2.sig) ∙ found.2.checked

given-length : (n i start : ℕ) (sig : Signature) (p : Request) → start < length p.starts
    → AllByRecursion (λ given. length given ≡ given_len p.sig n i) p.starts → p.sig ≡ sig → length (given_by start (Some p)) ≡ given_len sig n i
given-length n i start sig p lt all same =
    ap length (unwrap_or-slice_get p.starts start [])
    ∙ AllByRecursion-read (λ (given : List ℕ). length given ≡ given_len p.sig n i) p.starts start [] all lt ∙ ap (λ (s : Signature). given_len s n i) same

pub AreGiven-matched : (n place start : ℕ) (lists : List (List Request)) (first : Request) → AreMatched n lists
    → slice_get (first_list lists) place ≡ Some first → start < length first.starts
    → AreGiven first.sig n (given_at lists place start)
AreGiven-matched n place start lists first is e lt = record {
  each = length-map lists _ ∙ is.each;
  long = λ i below.
      let each = is.each in
      let found = is.accord i place first below e in
      let same = found.2.starts in
      let row : row_of (given_at lists place start) i ≡ given_by start (slice_get (list_at lists i) place) =
      ap (λ (o : Option (List ℕ)). unwrap_or o [])
      (slice_get-map (λ (list : List Request). given_by start (slice_get list place)) lists i
      ∙ ap (option_map (λ (list : List Request). given_by start (slice_get list place))) (slice_get-list_at lists i (omega (arith, below, each)))) in
      ap length row ∙ ap (λ (o : Option Request). length (given_by start o)) found.1
      ∙ given-length n i start first.sig found.0 (omega (arith, same, lt)) found.2.given found.2.sig;
}

pub values_from-more : (lists : List (List Request)) (place : ℕ) (requests : List Request) (p : Request)
    (out total : List (List (List (List ℕ)))) (made : List (List (List ℕ))) → drop place requests ≡ p ∷ drop (place + 1) requests
    → made ≡ place_values lists place p → out ++ values_from lists place (drop place requests) ≡ total
    → (out ++ made ∷ []) ++ values_from lists (place + 1) (drop (place + 1) requests) ≡ total
values_from-more lists place requests p out total made front is so_far =
    append_assoc out (made ∷ []) (values_from lists (place + 1) (drop (place + 1) requests))
    ∙ ap (λ (v : List (List (List ℕ))). out ++ v ∷ values_from lists (place + 1) (drop (place + 1) requests)) is
    ∙ ap (λ (rs : List Request). out ++ values_from lists place rs) (sym front) ∙ so_far

pub not-empty : {X : Type 0} (xs : List X) (b : Bool) → b ≡ eqb (length xs) 0 → b ≡ false → 0 < length xs
not-empty [] b is e = absurd (let no : true ≡ false = sym is ∙ e in cc)
not-empty (x ∷ xs) b is e = omega arith
