-- What is printed from the values of a job is its lines.
use Rattle.std.proofs.Common.{◌≡◌, ℕ, zero, suc, ◌+◌, ◌<◌, ◌≤◌, Bool, true, false, cond, not, eqb, List, [], ◌∷◌, ◌++◌, map, take, drop, length}
use Rattle.std.proofs.Common.{get_or, Option, Some, refl, ap, subst, sym, ◌∙◌, append_assoc, arith}
use Rattle.std.specs.Prelude.{slice_get, slice_index, unwrap_or, flat_map, IfSome}
use Rattle.std.specs.List.{range_with_len, enumerate_from, position_or_len, AllByRecursion}
use Rattle.std.specs.Option.{option_map}
use Rattle.std.proofs.lemmas.Bool.{eqb-true, eq-eqb}
use Rattle.std.proofs.lemmas.List.{length-map, length-take, take_at}
use Rattle.std.proofs.lemmas.List.Concat.{flat_map-cons}
use Rattle.std.proofs.lemmas.List.Sums.{prefix_len_stops}
use Rattle.std.proofs.lemmas.List.FromFn.{get_or-map-range_with_len, length-map-range_with_len}
use Rattle.std.proofs.lemmas.Option.{slice_get-map, slice_get-get_or, unwrap_or-slice_get, slice_get_within, same_Some}
use Rattle.coll_kinds.specs.declared.signature.Signature.{Signature}
use Rattle.coll_ops.specs.Values.{row_of, value}
use Rattle.coll_parser.specs.Requests.{Request}
use Rattle.coll_kinds.specs.Groups.{member_of}
use Rattle.coll_parser.proofs.Lists.{AllByRecursion-at}
use Rattle.coll_kinds.proofs.Members.{member_of-place}
use Rattle.coll_script.specs.Postings.{is_on, posted_on, requests_of, postings, postings_from}
use Rattle.coll_script.specs.Matching.{first_list}
use Rattle.coll_script.specs.Meaning.{outcome_line, given_at, request_lines, lists_of, lines_behind, rank_lines}
use Rattle.coll_script.specs.Jobs.{Job}
use Rattle.coll_script.specs.Outcomes.{start_values, place_values, values_from, group_values, list_at, AreMatched}
use Rattle.coll_script.specs.Prints.{printed_request, values_at, printed_behind, HasValues, HaveValues}
use Rattle.coll_script.specs.Scripts.{IsOwned, IsJob}
use Rattle.coll_script.proofs.Loops.{take-next}
use Rattle.coll_script.proofs.Matches.{list_at-postings}

-- ---- the lines of a request

pub row_of-range : (n i : ℕ) (f : ℕ → List ℕ) → i < n → row_of (map f (range_with_len 0 n)) i ≡ f i
row_of-range n i f lt = unwrap_or-slice_get (map f (range_with_len 0 n)) i [] ∙ get_or-map-range_with_len f 0 n i i [] lt (omega arith)

lines-range : (line : ℕ → List ℕ → List ℕ) (f : ℕ → List (List ℕ)) (member : ℕ) (n k : ℕ)
    → flat_map (λ e. line e.0 (row_of e.1 member)) (enumerate_from k (map f (range_with_len k n)))
    ≡ flat_map (λ s. line s (row_of (f s) member)) (range_with_len k n)
lines-range line f member zero k = refl
lines-range line f member (suc n) k =
    flat_map-cons (λ e. line e.0 (row_of e.1 member)) (k, f k) (enumerate_from (k + 1) (map f (range_with_len (k + 1) n)))
    ∙ ap (λ rest. line k (row_of (f k) member) ++ rest) (lines-range line f member n (k + 1))
    ∙ sym (flat_map-cons (λ s. line s (row_of (f s) member)) k (range_with_len (k + 1) n))

pub printed_request-values : (rank number : ℕ) (lists : List (List Request)) (place : ℕ) (p : Request) → p.member < length lists
    → printed_request rank number p (place_values lists place p) ≡ request_lines rank number lists place p
printed_request-values rank number lists place p lt =
    lines-range (λ s row. outcome_line rank number s p.sig.ty row) (start_values lists place p) p.member (length p.starts) 0
    ∙ ap (λ (line : ℕ → List ℕ). flat_map line (range_with_len 0 (length p.starts)))
    (λ i s. outcome_line rank number s p.sig.ty (row_of-range (length lists) p.member (value p.sig (given_at lists place s)) lt i))

-- ---- the request of a rank at its place

-- the k-th of the requests before stands in front
posted-front : (comm : ℕ) (xs : List Request) (q : ℕ) (p : Request) → slice_get xs q ≡ Some p → p.comm ≡ comm
    → slice_get (posted_on comm xs) (length (posted_on comm (take q xs))) ≡ Some p
posted-front comm [] q p e on = absurd cc
posted-front comm (x ∷ xs) zero p e on =
    let same : x ≡ p = same_Some x p e in
    let test : is_on comm x ≡ true = eq-eqb x.comm comm (ap (λ (r : Request). r.comm) same ∙ on) in
    rw test (ap Some same)
posted-front comm (x ∷ xs) (suc q) p e on = later (is_on comm x) (posted-front comm xs q p e on)
  where
    later : (b : Bool) → slice_get (posted_on comm xs) (length (posted_on comm (take q xs))) ≡ Some p
        → slice_get (cond b (x ∷ posted_on comm xs) (posted_on comm xs)) (length (cond b (x ∷ posted_on comm (take q xs)) (posted_on comm (take q xs))))
        ≡ Some p
    later true h = h
    later false h = h

not-false : (b : Bool) → not b ≡ false → b ≡ true
not-false true e = refl
not-false false e = absurd cc

first-passes : (p : ℕ → Bool) (xs : List ℕ) → position_or_len p xs < length xs → p (get_or xs (position_or_len p xs) 0) ≡ true
first-passes p xs lt = not-false (p (get_or xs (position_or_len p xs) 0)) (prefix_len_stops (λ x. not (p x)) xs 0 lt)

position-at : (rank : ℕ) (group : List ℕ) (m : ℕ) → member_of rank group ≡ Some m → (m < length group) × (slice_index group m ≡ rank)
position-at rank group m e =
    let place = member_of-place rank group m e in
    let passes = first-passes (λ r. eqb r rank) group (subst (λ k. k < length group) (sym place.0) place.1) in
    (place.1, eqb-true (get_or group m 0) rank (subst (λ k. eqb (get_or group k 0) rank ≡ true) place.0 passes))

-- ---- the values at a place

pub postings_from-get : (requests : List (List Request)) (comm : ℕ) (groups : List (List ℕ)) (k : ℕ)
    → slice_get (postings_from requests comm groups) k ≡ option_map (postings requests (comm + k)) (slice_get groups k)
postings_from-get requests comm [] k = refl
postings_from-get requests comm (group ∷ groups) zero = let at : comm ≡ comm + 0 = omega arith in ap (λ c. Some (postings requests c group)) at
postings_from-get requests comm (group ∷ groups) (suc k) = let at : comm + 1 + k ≡ comm + suc k =
    omega arith in postings_from-get requests (comm + 1) groups k ∙ ap (λ c. option_map (postings requests c) (slice_get groups k)) at

values_from-get : (lists : List (List Request)) (place : ℕ) (requests : List Request) (k : ℕ)
    → slice_get (values_from lists place requests) k ≡ option_map (place_values lists (place + k)) (slice_get requests k)
values_from-get lists place [] k = refl
values_from-get lists place (p ∷ requests) zero = let at : place ≡ place + 0 = omega arith in ap (λ i. Some (place_values lists i p)) at
values_from-get lists place (p ∷ requests) (suc k) = let at : place + 1 + k ≡ place + suc k =
    omega arith in values_from-get lists (place + 1) requests k ∙ ap (λ i. option_map (place_values lists i) (slice_get requests k)) at

place_values-same : (lists : List (List Request)) (place : ℕ) (p q : Request) → p.sig ≡ q.sig → length p.starts ≡ length q.starts
    → place_values lists place p ≡ place_values lists place q
place_values-same lists place p q sig starts =
    ap (λ (s : Signature). map (λ start. map (value s (given_at lists place start)) (range_with_len 0 (length lists))) (range_with_len 0 (length p.starts))) sig
    ∙ ap (λ n. map (start_values lists place q) (range_with_len 0 n)) starts

rows-long : (f : ℕ → List (List ℕ)) (m n k : ℕ) → ((s : ℕ) → m < length (f s)) → AllByRecursion (λ rows. m < length rows) (map f (range_with_len k n))
rows-long f m zero k long = tt
rows-long f m (suc n) k long = (long k, rows-long f m n (k + 1) long)

-- the values of a rank's request, as they are looked up
pub record IsValued (job : Job) (values : List (List (List (List (List ℕ))))) (p : Request) (place : ℕ) : Type 0 where
  pub member : p.member < length (lists_of job p.comm)
  pub looked_up : values_at values p.comm place ≡ place_values (lists_of job p.comm) place p
  pub has : HasValues values p place

abbrev pub values_of : Job → List (List (List (List (List ℕ))))
values_of job = map group_values (postings_from job.requests 0 job.groups)

pub IsValued-at : (job : Job) → IsJob job → (rank number : ℕ) (p : Request) → slice_get (requests_of job.requests rank) number ≡ Some p
    → IsValued job (values_of job) p (length (posted_on p.comm (take number (requests_of job.requests rank))))
IsValued-at job is rank number p e =
    let mine = requests_of job.requests rank in
    let comm = p.comm in
    let place = length (posted_on comm (take number mine)) in
    let own = AllByRecursion-at (IsOwned job.groups rank) mine number p (is.owned rank) e in
    let group : List ℕ = unwrap_or (slice_get job.groups comm) [] in
    let there : slice_get job.groups comm ≡ Some group =
    slice_get-get_or job.groups comm [] own.known ∙ ap Some (sym (unwrap_or-slice_get job.groups comm [])) in
    let at = position-at rank group p.member (subst (λ (o : Option (List ℕ)). IfSome o (λ g. member_of rank g ≡ Some p.member)) there own.member) in
    let lists = lists_of job comm in
    let len : length lists ≡ length group = length-map group _ in
    let below : p.member < length lists = omega (arith, at.0, len) in
    let found : slice_get (postings_from job.requests 0 job.groups) comm ≡ Some lists =
    postings_from-get job.requests 0 job.groups comm ∙ ap (option_map (postings job.requests (0 + comm))) there
    ∙ ap (λ c. Some (postings job.requests c group)) (let zero_at : 0 + comm ≡ comm = omega arith in zero_at) in
    let matched : AreMatched (length lists) lists =
    AllByRecursion-at (λ (l : List (List Request)). AreMatched (length l) l) (postings_from job.requests 0 job.groups) comm lists is.matched found in
    let list : list_at lists p.member ≡ posted_on comm mine =
    list_at-postings job.requests comm group p.member at.0 ∙ ap (λ r. posted_on comm (requests_of job.requests r)) at.1 in
    let here : slice_get (list_at lists p.member) place ≡ Some p = ap (λ (l : List Request). slice_get l place) list ∙ posted-front comm mine number p e refl in
    let within : place < length (first_list lists) =
    (let lt = slice_get_within (list_at lists p.member) place p here in let same = matched.same_length p.member below in omega (arith, lt, same)) in
    let first : Request = get_or (first_list lists) place p in
    let one : slice_get (first_list lists) place ≡ Some first = slice_get-get_or (first_list lists) place p within in
    let accord = matched.accord p.member place first below one in
    let same : accord.0 ≡ p = same_Some accord.0 p (sym accord.1 ∙ here) in
    let sig : first.sig ≡ p.sig = sym accord.2.sig ∙ ap (λ (q : Request). q.sig) same in
    let starts : length first.starts ≡ length p.starts = sym accord.2.starts ∙ ap (λ (q : Request). length q.starts) same in
    let group_at : slice_get (values_of job) comm ≡ Some (group_values lists) =
    slice_get-map group_values (postings_from job.requests 0 job.groups) comm ∙ ap (option_map group_values) found in
    let place_at : slice_get (group_values lists) place ≡ Some (place_values lists place p) =
    values_from-get lists 0 (first_list lists) place ∙ ap (option_map (place_values lists (0 + place))) one
    ∙ ap (λ i. Some (place_values lists i first)) (let zero_at : 0 + place ≡ place = omega arith in zero_at)
    ∙ ap Some (place_values-same lists place first p sig starts) in
    let looked_up : values_at (values_of job) comm place ≡ place_values lists place p =
    ap (λ (o : Option (List (List (List (List ℕ))))). unwrap_or (slice_get (unwrap_or o []) place) []) group_at
    ∙ ap (λ (o : Option (List (List (List ℕ)))). unwrap_or o []) place_at in
    let lt_place = slice_get_within (group_values lists) place (place_values lists place p) place_at in
    let count : length (place_values lists place p) ≡ length p.starts = length-map-range_with_len (start_values lists place p) 0 (length p.starts) in
    let few = own.few in
    let few_values : length (place_values lists place p) ≤ 4294967295 = omega (arith, count, few) in
    record {
      member = below;
      looked_up = looked_up;
      has = record {
        known = slice_get_within (values_of job) comm (group_values lists) group_at;
        below = subst (λ (o : Option (List (List (List (List ℕ))))). place < length (unwrap_or o [])) (sym group_at) lt_place;
        members = subst (AllByRecursion (λ (rows : List (List ℕ)). p.member < length rows)) (sym looked_up)
            (rows-long (start_values lists place p) p.member (length p.starts) 0
            (λ s. subst (λ n. p.member < n) (sym (length-map-range_with_len (value p.sig (given_at lists place s)) 0 (length lists))) below));
        few = subst (λ (v : List (List (List ℕ))). length v ≤ 4294967295) (sym looked_up) few_values;
      };
    }

-- ---- the lines of a rank

printed-lines : (job : Job) → IsJob job → (rank : ℕ) (before requests : List Request) → before ++ requests ≡ requests_of job.requests rank
    → printed_behind (values_of job) rank before requests ≡ lines_behind job rank before requests
printed-lines job is rank before [] e = refl
printed-lines job is rank before (p ∷ requests) e =
    let mine = requests_of job.requests rank in
    let here : slice_get mine (length before) ≡ Some p = ap (λ (l : List Request). slice_get l (length before)) (sym e) ∙ slice_get-middle before p requests in
    let front : take (length before) mine ≡ before = ap (take (length before)) (sym e) ∙ take_at before (p ∷ requests) (length before) refl in
    let valued : IsValued job (values_of job) p (length (posted_on p.comm before)) =
    subst (λ (l : List Request). IsValued job (values_of job) p (length (posted_on p.comm l))) front (IsValued-at job is rank (length before) p here) in
    let one : printed_request rank (length before) p (values_at (values_of job) p.comm (length (posted_on p.comm before)))
    ≡ request_lines rank (length before) (lists_of job p.comm) (length (posted_on p.comm before)) p =
    ap (printed_request rank (length before) p) valued.looked_up
    ∙ printed_request-values rank (length before) (lists_of job p.comm) (length (posted_on p.comm before)) p valued.member in
    ap (λ text. text ++ printed_behind (values_of job) rank (before ++ p ∷ []) requests) one
    ∙ ap (λ rest. request_lines rank (length before) (lists_of job p.comm) (length (posted_on p.comm before)) p ++ rest)
    (printed-lines job is rank (before ++ p ∷ []) requests (append_assoc before (p ∷ []) requests ∙ e))
  where
    slice_get-middle : {X : Type 0} (xs : List X) (x : X) (ys : List X) → slice_get (xs ++ x ∷ ys) (length xs) ≡ Some x
    slice_get-middle [] x ys = refl
    slice_get-middle (y ∷ xs) x ys = slice_get-middle xs x ys

pub printed-rank_lines : (job : Job) → IsJob job → (rank : ℕ) → printed_behind (values_of job) rank [] (requests_of job.requests rank) ≡ rank_lines job rank
printed-rank_lines job is rank = printed-lines job is rank [] (requests_of job.requests rank) refl

pub HaveValues-rank : (job : Job) → IsJob job → (rank : ℕ) → HaveValues (values_of job) (requests_of job.requests rank)
HaveValues-rank job is rank number p e = (IsValued-at job is rank number p e).has

-- ---- the next request

pub printed-more : (values : List (List (List (List (List ℕ))))) (rank number : ℕ) (requests : List Request) (p : Request) (out total : List ℕ)
    → number < length requests → drop number requests ≡ p ∷ drop (number + 1) requests
    → out ++ printed_behind values rank (take number requests) (drop number requests) ≡ total
    → (out ++ printed_request rank number p (values_at values p.comm (length (posted_on p.comm (take number requests)))))
    ++ printed_behind values rank (take (number + 1) requests) (drop (number + 1) requests) ≡ total
printed-more values rank number requests p out total lt front so_far =
    let len : length (take number requests) ≡ number = (let short = length-take number requests in omega (arith, short, lt)) in
    let here = printed_request rank number p (values_at values p.comm (length (posted_on p.comm (take number requests)))) in
    append_assoc out here (printed_behind values rank (take (number + 1) requests) (drop (number + 1) requests))
    ∙ ap (λ (before : List Request). out ++ (here ++ printed_behind values rank before (drop (number + 1) requests))) (take-next requests number p front)
    ∙ ap (λ n. out ++ (printed_request rank n p (values_at values p.comm (length (posted_on p.comm (take number requests))))
    ++ printed_behind values rank (take number requests ++ p ∷ []) (drop (number + 1) requests))) (sym len)
    ∙ ap (λ (rest : List Request). out ++ printed_behind values rank (take number requests) rest) (sym front) ∙ so_far

-- ---- the values of a job, one list for each communicator

length-postings_from : (requests : List (List Request)) (comm : ℕ) (groups : List (List ℕ)) → length (postings_from requests comm groups) ≡ length groups
length-postings_from requests comm [] = refl
length-postings_from requests comm (group ∷ groups) = ap suc (length-postings_from requests (comm + 1) groups)

pub length-values_of : (job : Job) → length (values_of job) ≡ length job.groups
length-values_of job = length-map (postings_from job.requests 0 job.groups) group_values ∙ length-postings_from job.requests 0 job.groups
