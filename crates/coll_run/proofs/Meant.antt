-- The lines of a run are those of its job.
use Rattle.std.proofs.Common.{◌≤◌, ◌⊎◌, inl, inr, ◌≡◌, ℕ, zero, suc, ◌+◌, ◌<◌, ◌&&◌, Bool, true, false, cond, eqb, List, [], ◌∷◌, ◌++◌, length, take}
use Rattle.std.proofs.Common.{map, Option, Some, None, refl, sym, ap, ◌∙◌, arith, append_assoc}
use Rattle.std.specs.Prelude.{slice_get, unwrap_or, flat_map, option_map}
use Rattle.std.specs.List.{AllByRecursion, count_by, range_with_len}
use Rattle.std.proofs.lemmas.Option.{none-some, slice_get-map}
use Rattle.std.proofs.lemmas.Bool.{eqb-true, and_parts}
use Rattle.std.proofs.lemmas.List.{length-map, take-map}
use Rattle.std.proofs.lemmas.List.Concat.{flat_map-cons}
use Rattle.coll_kinds.specs.Groups.{member_of}
use Rattle.coll_ops.specs.Values.{value}
use Rattle.coll_parser.proofs.Lists.{AllByRecursion-at}
use Rattle.coll_parser.specs.Histories.{History}
use Rattle.coll_parser.specs.Requests.{Request, requests}
use Rattle.coll_parser.specs.Sound.{IsRequest, IsSound}
use Rattle.coll_script.specs.Postings.{posted_on, requests_of}
use Rattle.coll_script.specs.Jobs.{Job, job_of}
use Rattle.coll_script.specs.Meaning as script
use Rattle.coll_script.specs.Meaning.{outcome_line, given_at, lists_of, start_line, request_lines, lines_behind, rank_lines, job_lines}
use Rattle.coll_machine.specs.Common.{Setting, group, Entry, Posted, Inited, Started, Retired, Freed}
use Rattle.coll_machine.specs.declared.key.Key.{Key}
use Rattle.coll_report.specs.Scripts.{Asked, asked, on, at_place, given_by, contributions, value_for, outcome}
use Rattle.coll_report.specs.Told.{HasValue, retires}
use Rattle.coll_report.proofs.Lists.{get_map, placed}
use Rattle.coll_report.proofs.Running.{count_next}
use Rattle.coll_report.specs.Reports.{Closed}
use Rattle.coll_report.specs.Scripted.{Tells}
use Rattle.coll_run.specs.Commands.{as_asked, commands_by}
use Rattle.coll_run.specs.Laws.{RunsMean}
use Rattle.coll_run.specs.Lines.{Handed, bytes_of, further, told, told_from, told_start, told_request, told_behind, told_rank, told_lines}
use Rattle.coll_run.specs.Missing.{JobLacks}
use Rattle.coll_run.specs.Runs.{IsRun}
use Rattle.coll_run.proofs.Asking.{commands_ask, requests_are}
use Rattle.coll_run.proofs.Telling.{runs_tell}

on_map : (comm : ℕ) (xs : List Request) → on comm (map as_asked xs) ≡ map as_asked (posted_on comm xs)
on_map comm [] = refl
on_map comm (p ∷ xs) = go (eqb p.comm comm) (on_map comm xs)
  where
    go : (b : Bool) → on comm (map as_asked xs) ≡ map as_asked (posted_on comm xs)
        → cond b (as_asked p ∷ on comm (map as_asked xs)) (on comm (map as_asked xs))
        ≡ map as_asked (cond b (p ∷ posted_on comm xs) (posted_on comm xs))
    go true h = ap (λ (l : List Asked). as_asked p ∷ l) h
    go false h = h

map-map : {X Y Z : Type 0} (f : Y → Z) (g : X → Y) (xs : List X) → map f (map g xs) ≡ map (λ x. f (g x)) xs
map-map f g [] = refl
map-map {X} {Y} {Z} f g (x ∷ xs) = ap (λ (l : List Z). f (g x) ∷ l) (map-map f g xs)

-- ---- an outcome that stands once is the one found

abbrev key_of : ℕ → ℕ → ℕ → Key
key_of comm place start = record { comm = comm; place = place; start = start }

-- the completion of that start has its value
retired_value : (g : Setting) (requests : ℕ → List Asked) (r c p n : ℕ) (e : Entry) → retires r c p n e ≡ true
    → HasValue g requests e → bytes_of e ≡ outcome g requests r (key_of c p n)
retired_value g requests r c p n (Posted rank t comm place sig bytes) is has = absurd cc
retired_value g requests r c p n (Inited rank t comm place sig) is has = absurd cc
retired_value g requests r c p n (Started rank t start bytes) is has = absurd cc
retired_value g requests r c p n (Freed rank t) is has = absurd cc
retired_value g requests r c p n (Retired rank t comm place start bytes) is has =
    let a = and_parts (eqb rank r) (eqb comm c && (eqb place p && eqb start n)) is in
    let b = and_parts (eqb comm c) (eqb place p && eqb start n) a.1 in
    let d = and_parts (eqb place p) (eqb start n) b.1 in
    let r1 = eqb-true rank r a.0 in
    let c1 = eqb-true comm c b.0 in
    let p1 = eqb-true place p d.0 in
    let n1 = eqb-true start n d.1 in
    has ∙ (λ z. outcome g requests (r1 z) (key_of (c1 z) (p1 z) (n1 z)))

found : (g : Setting) (requests : ℕ → List Asked) (r c p n : ℕ) (es : List Entry) (handed : Handed)
    → AllByRecursion (HasValue g requests) es
    → (handed r c p n ≡ Some (outcome g requests r (key_of c p n))) ⊎ (1 ≤ count_by (retires r c p n) es)
    → told_from handed es r c p n ≡ Some (outcome g requests r (key_of c p n))
found g requests r c p n [] handed all (inl e) = e
found g requests r c p n [] handed all (inr le) = absurd (omega (arith, le))
found g requests r c p n (e ∷ es) handed all so_far =
    go (retires r c p n e) refl (found g requests r c p n es (further e handed) all.1) so_far
  where
    go : (b : Bool) → retires r c p n e ≡ b
        → ((further e handed r c p n ≡ Some (outcome g requests r (key_of c p n))) ⊎ (1 ≤ count_by (retires r c p n) es)
        → told_from (further e handed) es r c p n ≡ Some (outcome g requests r (key_of c p n)))
        → (handed r c p n ≡ Some (outcome g requests r (key_of c p n))) ⊎ (1 ≤ count_by (retires r c p n) (e ∷ es))
        → told_from (further e handed) es r c p n ≡ Some (outcome g requests r (key_of c p n))
    go true is rest h =
        rest (inl (ap (λ t. cond t (Some (bytes_of e)) (handed r c p n)) is
        ∙ ap Some (retired_value g requests r c p n e is all.0)))
    go false is rest (inl h) = rest (inl (ap (λ t. cond t (Some (bytes_of e)) (handed r c p n)) is ∙ h))
    go false is rest (inr h) =
        let z : cond {A = ℕ} (retires r c p n e) 1 0 ≡ 0 = ap {B = ℕ} (λ t. cond t 1 0) is in
        rest (inr (omega (arith, h, z, count_next (retires r c p n) e es)))

-- ---- lists

flat_map_range : (f h : ℕ → List ℕ) (k n : ℕ) → ((i : ℕ) → i < n → f (k + i) ≡ h (k + i))
    → flat_map f (range_with_len k n) ≡ flat_map h (range_with_len k n)
flat_map_range f h k zero same = refl
flat_map_range f h k (suc n) same =
    let here : f k ≡ h k = (let e : k ≡ k + 0 = omega arith in ap f e ∙ (same 0 (omega arith) ∙ ap h (sym e))) in
    let rest : flat_map f (range_with_len (k + 1) n) ≡ flat_map h (range_with_len (k + 1) n) =
    flat_map_range f h (k + 1) n
    (λ i lt. let e : (k + 1) + i ≡ k + suc i = omega arith in ap f e ∙ (same (suc i) (omega arith) ∙ ap h (sym e))) in
    flat_map-cons f k (range_with_len (k + 1) n)
    ∙ ((λ z. here z ++ rest z) ∙ sym (flat_map-cons h k (range_with_len (k + 1) n)))

get_seam : {X : Type 0} (xs : List X) (x : X) (ys : List X) → slice_get (xs ++ x ∷ ys) (length xs) ≡ Some x
get_seam [] x ys = refl
get_seam (y ∷ xs) x ys = get_seam xs x ys

take_seam : {X : Type 0} (xs ys : List X) → take (length xs) (xs ++ ys) ≡ xs
take_seam [] [] = refl
take_seam [] (y ∷ ys) = refl
take_seam {X} (x ∷ xs) ys = ap (λ (l : List X). x ∷ l) (take_seam xs ys)

same_given : (start : ℕ) (o : Option Request) → given_by start (option_map as_asked o) ≡ script.given_by start o
same_given start None = refl
same_given start (Some p) = refl

-- ---- a run of a job

module _ (h : History) (r : Closed) (sound : IsSound h) (run : IsRun h r)
    (tells : Tells r (λ rank. asked (commands_by h rank))) where
  abbrev job : Job
  job = job_of h

  abbrev asks : ℕ → List Asked
  asks = λ rank. asked (commands_by h rank)

  group_is : (comm : ℕ) → group r.setting comm ≡ unwrap_or (slice_get job.groups comm) []
  group_is comm = ap (λ (l : List (List ℕ)). unwrap_or (slice_get l comm) []) run.groups

  -- a rank's requests on a communicator
  at_is : (rank comm place : ℕ) → at_place (asks rank) comm place
      ≡ option_map as_asked (slice_get (posted_on comm (requests_of job.requests rank)) place)
  at_is rank comm place =
      ap (λ (l : List Asked). at_place l comm place) (commands_ask h rank)
      ∙ (ap (λ (l : List Asked). slice_get l place) (on_map comm (requests_of job.requests rank))
      ∙ slice_get-map as_asked (posted_on comm (requests_of job.requests rank)) place)

  given_is : (comm place start : ℕ)
      → contributions r.setting asks (key_of comm place start) ≡ given_at (lists_of job comm) place start
  given_is comm place start =
      (λ z. map (λ rank. (ap (given_by start) (at_is rank comm place)
      ∙ same_given start (slice_get (posted_on comm (requests_of job.requests rank)) place)) z) (group_is comm z))
      ∙ sym (map-map (λ (list : List Request). script.given_by start (slice_get list place))
      (λ rank. posted_on comm (requests_of job.requests rank)) (unwrap_or (slice_get job.groups comm) []))

  module _ (rank : ℕ) (before : List Request) (p : Request) (rest : List Request)
      (whole : before ++ p ∷ rest ≡ requests_of job.requests rank) where
    number : slice_get (requests_of job.requests rank) (length before) ≡ Some p
    number = ap (λ (l : List Request). slice_get l (length before)) (sym whole) ∙ get_seam before p rest

    before_is : length (on p.comm (take (length before) (map as_asked (requests_of job.requests rank))))
        ≡ length (posted_on p.comm before)
    before_is =
        ap (λ (l : List Asked). length (on p.comm l))
        (take-map as_asked (length before) (requests_of job.requests rank))
        ∙ (ap (λ (l : List Request). length (on p.comm (map as_asked (take (length before) l)))) (sym whole)
        ∙ (ap (λ (l : List Request). length (on p.comm (map as_asked l))) (take_seam before (p ∷ rest))
        ∙ (ap (λ (l : List Asked). length l) (on_map p.comm before) ∙ length-map (posted_on p.comm before) as_asked)))

    there : at_place (asks rank) p.comm (length (posted_on p.comm before)) ≡ Some (as_asked p)
    there =
        ap (λ (l : List Asked). at_place l p.comm (length (posted_on p.comm before))) (commands_ask h rank)
        ∙ (ap (λ k. at_place (map as_asked (requests_of job.requests rank)) p.comm k) (sym before_is)
        ∙ placed p.comm (map as_asked (requests_of job.requests rank)) (length before) (as_asked p)
        (get_map as_asked (requests_of job.requests rank) (length before) p number) refl)

    is : IsRequest 1048577 h.groups rank p
    is = AllByRecursion-at (IsRequest 1048577 h.groups rank) (requests_of job.requests rank) (length before) p
        (requests_are h sound rank) number

    member_is : member_of rank (group r.setting p.comm) ≡ Some p.member
    member_is =
        ap (member_of rank) (group_is p.comm ∙ ap (λ (o : Option (List ℕ)). unwrap_or o []) is.known) ∙ is.member

    -- what the trace says of a request's start
    told_is : (start : ℕ) → start < length p.starts
        → told r.entries rank p.comm (length (posted_on p.comm before)) start
        ≡ Some (value p.sig (given_at (lists_of job p.comm) (length (posted_on p.comm before)) start) p.member)
    told_is start lt =
        let place = length (posted_on p.comm before) in
        let counts =
        tells.once rank (key_of p.comm place start) (record { request = as_asked p; is = there; low = lt }) in
        found r.setting asks rank p.comm place start r.entries (λ _ _ _ _. None) tells.values
        (inr (omega (arith, counts)))
        ∙ ap Some
        (ap (λ (o : Option Asked). value_for o (contributions r.setting asks (key_of p.comm place start))
        (unwrap_or (member_of rank (group r.setting p.comm)) 0)) there
        ∙ (λ z. value p.sig (given_is p.comm place start z) (unwrap_or (member_is z) 0)))

    lines_are : told_request (told r.entries) rank (length before) (length (posted_on p.comm before)) p
        ≡ request_lines rank (length before) (lists_of job p.comm) (length (posted_on p.comm before)) p
    lines_are =
        flat_map_range (told_start (told r.entries) rank (length before) (length (posted_on p.comm before)) p)
        (start_line rank (length before) (lists_of job p.comm) (length (posted_on p.comm before)) p) 0 (length p.starts)
        (λ i lt. ap (λ (o : Option (List ℕ)). outcome_line rank (length before) (0 + i) p.sig.ty (unwrap_or o []))
        (told_is (0 + i) (omega (arith, lt))))

  behind_is : (rank : ℕ) (before rest : List Request) → before ++ rest ≡ requests_of job.requests rank
      → told_behind (told r.entries) rank before rest ≡ lines_behind job rank before rest
  behind_is rank before [] whole = refl
  behind_is rank before (p ∷ rest) whole =
      let lines = lines_are rank before p rest whole in
      let more = behind_is rank (before ++ p ∷ []) rest (append_assoc before (p ∷ []) rest ∙ whole) in
      (λ z. lines z ++ more z)

pub lines_mean : (h : History) (r : Closed) → IsSound h → IsRun h r → Tells r (λ rank. asked (commands_by h rank))
    → told_lines (told r.entries) (job_of h) ≡ job_lines (job_of h)
lines_mean h r sound run tells =
    flat_map_range (told_rank (told r.entries) (job_of h)) (rank_lines (job_of h)) 0 (length (requests h))
    (λ i lt. behind_is h r sound run tells (0 + i) [] (requests_of (requests h) (0 + i)) refl)

-- no start of a run lacks its outcome
pub lacks_nothing : (h : History) (r : Closed) → IsSound h → IsRun h r → Tells r (λ rank. asked (commands_by h rank))
    → JobLacks (told r.entries) (job_of h) → ⊥
lacks_nothing h r sound run tells job =
    let l = job.lacks in
    none-some _ (sym l.lacks.none
    ∙ told_is h r sound run tells job.rank l.before l.p l.rest l.whole l.lacks.start l.lacks.low)

pub runs_mean : RunsMean
runs_mean h r sound closed run = lines_mean h r sound run (runs_tell h r closed run)
