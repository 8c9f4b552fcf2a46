-- Where nothing is found after the last line, the requests at each place accord.
use Rattle.std.proofs.Common.{◌≡◌, ℕ, zero, suc, ◌+◌, ◌<◌, Bool, true, false, cond, eqb, List, [], ◌∷◌, ◌++◌, length, get_or, Option, Some, None, Ok}
use Rattle.std.proofs.Common.{Err, refl, ap, subst, sym, ◌∙◌, arith}
use Rattle.std.specs.Prelude.{slice_get, slice_index, unwrap_or, flat_map}
use Rattle.std.specs.List.{list_all, AllByRecursion}
use Rattle.std.specs.Option.{option_map}
use Rattle.std.proofs.lemmas.Bool.{eqb-true, and_parts}
use Rattle.std.proofs.lemmas.List.{length-map}
use Rattle.std.proofs.lemmas.List.Concat.{flat_map-cons}
use Rattle.std.proofs.lemmas.Option.{slice_get-map, slice_get-get_or, unwrap_or-slice_get, slice_get_within, same_Some}
use Rattle.coll_kinds.specs.declared.signature.Signature.{Signature}
use Rattle.coll_kinds.specs.Common.{given_len, broken, IsGroup, member_of}
use Rattle.coll_parser.specs.declared.fault.Fault.{Fault}
use Rattle.coll_parser.specs.Requests.{Request}
use Rattle.coll_parser.specs.Sound.{IsRequest}
use Rattle.coll_parser.proofs.Lists.{AllByRecursion-at}
use Rattle.coll_script.specs.Postings.{is_on, posted_on, requests_of, postings, postings_from}
use Rattle.coll_script.specs.Matching.{earliest, agrees, differing_from, differing, lower, least, mismatch, first_list, have_places, started_alike, have_starts}
use Rattle.coll_parser.specs.Histories.{History}
use Rattle.coll_script.specs.declared.first.Earliest.{Earliest}
use Rattle.coll_script.specs.Jobs.{job_of, all_postings, matched, belonging}
use Rattle.coll_script.specs.Outcomes.{list_at, AreMatched}
use Rattle.coll_kinds.proofs.Sameness.{same_signature-Decides}

-- ---- nothing is found

pub least-none : (o : Option ℕ) (lines : List ℕ) → least o lines ≡ None → (o ≡ None) × (lines ≡ [])
least-none o [] e = (e, refl)
least-none None (line ∷ lines) e = absurd (let found = (least-none (Some line) lines e).0 in cc)
least-none (Some l) (line ∷ lines) e = absurd (let found = (least-none (lower (Some l) line) lines e).0 in cc)

append-nil_parts : {X : Type 0} (xs ys : List X) → xs ++ ys ≡ [] → (xs ≡ []) × (ys ≡ [])
append-nil_parts [] ys e = (refl, e)
append-nil_parts (x ∷ xs) ys e = absurd cc

flat_map-nil : {X Y : Type 0} (f : X → List Y) (xs : List X) → flat_map f xs ≡ [] → AllByRecursion (λ x. f x ≡ []) xs
flat_map-nil f [] e = tt
flat_map-nil f (x ∷ xs) e = let parts = append-nil_parts (f x) (flat_map f xs) (sym (flat_map-cons f x xs) ∙ e) in (parts.0, flat_map-nil f xs parts.1)

pub list_all-each : {X : Type 0} (p : X → Bool) (xs : List X) → list_all p xs ≡ true → AllByRecursion (λ x. p x ≡ true) xs
list_all-each p [] e = tt
list_all-each p (x ∷ xs) e = let parts = and_parts (p x) (list_all p xs) e in (parts.0, list_all-each p xs parts.1)

-- what holds of the job that is answered
pub record AreFitting (all : List (List (List Request))) : Type 0 where
  pub same : AllByRecursion (λ lists. differing lists ≡ []) all
  pub places : AllByRecursion (λ lists. have_places lists ≡ true) all
  pub starts : AllByRecursion (λ lists. have_starts lists ≡ true) all

fitting-from : (all : List (List (List Request))) (line : Option ℕ) (places starts : Bool) → mismatch all ≡ line
    → list_all have_places all ≡ places → list_all have_starts all ≡ starts
    → line ≡ None → places ≡ true → starts ≡ true → AreFitting all
fitting-from all line places starts found one other none has_places has_starts = record {
  same = flat_map-nil differing all (least-none None (flat_map differing all) (found ∙ none)).1;
  places = list_all-each have_places all (one ∙ has_places);
  starts = list_all-each have_starts all (other ∙ has_starts);
}

answered_by : (h made : History) (f g : Fault) (places starts : Bool)
    → cond places (cond starts (Ok h) (Err f)) (Err g) ≡ Ok made → (places ≡ true) × (starts ≡ true)
answered_by h made f g true true e = (refl, refl)
answered_by h made f g true false e = absurd cc
answered_by h made f g false starts e = absurd cc

-- the three tests of an answer
answered : (last : ℕ) (all : List (List (List Request))) (h made : History) (line : Option ℕ) → matched last all h line ≡ Ok made
    → (line ≡ None) × (list_all have_places all ≡ true) × (list_all have_starts all ≡ true)
answered last all h made (Some line) e = absurd cc
answered last all h made None e = let tests = answered_by h made _ _ (list_all have_places all) (list_all have_starts all) e in (refl, tests.0, tests.1)

pub AreFitting-answered : (last : ℕ) (h made : History) → belonging last h ≡ Ok made → AreFitting (all_postings (job_of h))
AreFitting-answered last h made e =
    let all = all_postings (job_of h) in
    let tests = answered last all h made (mismatch all) e in
    fitting-from all (mismatch all) (list_all have_places all) (list_all have_starts all) refl refl refl tests.0 tests.1 tests.2

-- ---- one communicator

agreeing : (b : Bool) (rest : List ℕ) (line : ℕ) → cond b rest (line ∷ rest) ≡ [] → (b ≡ true) × (rest ≡ [])
agreeing true rest line e = (refl, e)
agreeing false rest line e = absurd cc

agrees-at : (firsts : ℕ → Option Earliest) (place k : ℕ) (list : List Request) (p : Request)
    → differing_from firsts place list ≡ [] → slice_get list k ≡ Some p → agrees (firsts (place + k)) p.sig ≡ true
agrees-at firsts place k [] p none e = absurd cc
agrees-at firsts place zero (q ∷ list) p none e =
    let same : q ≡ p = same_Some q p e in
    let at : place ≡ place + 0 = omega arith in
    ap (λ i. agrees (firsts i) p.sig) (sym at) ∙ ap (λ (r : Request). agrees (firsts place) r.sig) (sym same)
    ∙ (agreeing (agrees (firsts place) q.sig) (differing_from firsts (place + 1) list) q.line none).0
agrees-at firsts place (suc k) (q ∷ list) p none e =
    let at : place + 1 + k ≡ place + suc k = omega arith in
    ap (λ i. agrees (firsts i) p.sig) (sym at)
    ∙ agrees-at firsts (place + 1) k list p (agreeing (agrees (firsts place) q.sig) (differing_from firsts (place + 1) list) q.line none).1 e

pub agrees-same : (o : Option Earliest) (sig other : Signature) → agrees o sig ≡ true → agrees o other ≡ true → sig ≡ other
agrees-same None sig other one two = absurd cc
agrees-same (Some first) sig other one two = sym ((same_signature-Decides first.sig sig).0 one) ∙ (same_signature-Decides first.sig other).0 two

pub slice_get-list_at : (lists : List (List Request)) (m : ℕ) → m < length lists → slice_get lists m ≡ Some (list_at lists m)
slice_get-list_at lists m lt = slice_get-get_or lists m [] lt ∙ ap Some (sym (unwrap_or-slice_get lists m []))

-- requests at one place have one signature
sig-same : (lists : List (List Request)) (m k : ℕ) (first p : Request) → differing lists ≡ [] → m < length lists
    → slice_get (first_list lists) k ≡ Some first → slice_get (list_at lists m) k ≡ Some p → p.sig ≡ first.sig
sig-same lists m k first p none lt one other =
    let each = flat_map-nil (differing_from (λ place. earliest None place lists) 0) lists none in
    let here = AllByRecursion-at _ lists m (list_at lists m) each (slice_get-list_at lists m lt) in
    let there = AllByRecursion-at _ lists 0 (first_list lists) each (slice_get-list_at lists 0 (omega arith)) in
    agrees-same (earliest None (0 + k) lists) p.sig first.sig
    (agrees-at (λ place. earliest None place lists) 0 k (list_at lists m) p here other)
    (agrees-at (λ place. earliest None place lists) 0 k (first_list lists) first there one)

pub starts-same : (first list : List Request) (k : ℕ) (p q : Request) → started_alike first list ≡ true
    → slice_get first k ≡ Some p → slice_get list k ≡ Some q → length q.starts ≡ length p.starts
starts-same [] list k p q e one other = absurd cc
starts-same (a ∷ first) [] k p q e one other = absurd cc
starts-same (a ∷ first) (b ∷ list) zero p q e one other =
    let parts = and_parts (eqb (length b.starts) (length a.starts)) (started_alike first list) e in
    ap (λ (r : Request). length r.starts) (sym (same_Some b q other)) ∙ eqb-true (length b.starts) (length a.starts) parts.0
    ∙ ap (λ (r : Request). length r.starts) (same_Some a p one)
starts-same (a ∷ first) (b ∷ list) (suc k) p q e one other =
    starts-same first list k p q (and_parts (eqb (length b.starts) (length a.starts)) (started_alike first list) e).1 one other

-- what is posted on a communicator
posted-turn : (P : Request → Type 0) (comm : ℕ) (q p : Request) (b : Bool) (k : ℕ) (rest : List Request) → is_on comm q ≡ b → P q
    → ((i : ℕ) → slice_get rest i ≡ Some p → P p × (p.comm ≡ comm))
    → slice_get (cond b (q ∷ rest) rest) k ≡ Some p → P p × (p.comm ≡ comm)
posted-turn P comm q p true zero rest on here later e = let same : q ≡ p =
    same_Some q p e in (subst P same here, ap (λ (r : Request). r.comm) (sym same) ∙ eqb-true q.comm comm on)
posted-turn P comm q p true (suc k) rest on here later e = later k e
posted-turn P comm q p false k rest on here later e = later k e

pub posted-at : (P : Request → Type 0) (comm : ℕ) (requests : List Request) (k : ℕ) (p : Request) → AllByRecursion P requests
    → slice_get (posted_on comm requests) k ≡ Some p → P p × (p.comm ≡ comm)
posted-at P comm [] k p all e = absurd cc
posted-at P comm (q ∷ requests) k p all e =
    posted-turn P comm q p (is_on comm q) k (posted_on comm requests) refl all.0 (λ i later. posted-at P comm requests i p all.1 later) e

pub list_at-postings : (requests : List (List Request)) (comm : ℕ) (group : List ℕ) (m : ℕ) → m < length group
    → list_at (postings requests comm group) m ≡ posted_on comm (requests_of requests (slice_index group m))
list_at-postings requests comm group m lt =
    ap (λ (o : Option (List Request)). unwrap_or o [])
    (slice_get-map (λ rank. posted_on comm (requests_of requests rank)) group m
    ∙ ap (option_map (λ rank. posted_on comm (requests_of requests rank))) (slice_get-get_or group m 0 lt))

-- a request of a rank on the communicator of this group
record IsRequestOn (group : List ℕ) (rank : ℕ) (p : Request) : Type 0 where
  pub member : member_of rank group ≡ Some p.member
  pub checked : broken p.sig (length group) ≡ None
  pub given : AllByRecursion (λ given. length given ≡ given_len p.sig (length group) p.member) p.starts

fits-at : (issued : ℕ) (groups : List (List ℕ)) (comm rank : ℕ) (group : List ℕ) (p : Request)
    → slice_get groups comm ≡ Some group → IsRequest issued groups rank p → p.comm ≡ comm → IsRequestOn group rank p
fits-at issued groups comm rank group p here is same =
    let one : is.group ≡ group = same_Some is.group group (sym is.known ∙ ap (slice_get groups) same ∙ here) in
    subst (λ (g : List ℕ). IsRequestOn g rank p) one (record { member = is.member; checked = is.checked; given = is.given })

pub list_all-at : {X : Type 0} (f : X → Bool) (xs : List X) (i : ℕ) (x : X) → list_all f xs ≡ true → slice_get xs i ≡ Some x → f x ≡ true
list_all-at f xs i x e some = AllByRecursion-at (λ y. f y ≡ true) xs i x (list_all-each f xs e) some

-- the posting lists of a communicator whose requests fit
pub AreMatched-postings : (n lines : ℕ) (groups : List (List ℕ)) (requests : List (List Request)) (comm : ℕ) (group : List ℕ)
    → slice_get groups comm ≡ Some group → IsGroup n group
    → ((rank : ℕ) → AllByRecursion (IsRequest lines groups rank) (requests_of requests rank))
    → differing (postings requests comm group) ≡ [] → have_places (postings requests comm group) ≡ true → have_starts (postings requests comm group) ≡ true
    → AreMatched (length (postings requests comm group)) (postings requests comm group)
AreMatched-postings n lines groups requests comm group here is each none places starts =
    let lists = postings requests comm group in
    let len : length lists ≡ length group = length-map group _ in
    let few = is.few in
    let same_length : (m : ℕ) → m < length lists
    → length (list_at lists m) ≡ length (first_list lists) =
    λ m lt. eqb-true (length (list_at lists m)) (length (first_list lists))
    (list_all-at (λ list. eqb (length list) (length (first_list lists))) lists m (list_at lists m) places (slice_get-list_at lists m lt)) in
    record {
      few = omega (arith, len, few);
      each = refl;
      same_length = same_length;
      accord = λ m place first lt one.
          let within : place < length (list_at lists m) =
          (let below = slice_get_within (first_list lists) place first one in let same = same_length m lt in omega (arith, below, same)) in
          let p = get_or (list_at lists m) place first in
          let other : slice_get (list_at lists m) place ≡ Some p = slice_get-get_or (list_at lists m) place first within in
          let mine : m < length group = omega (arith, lt, len) in
          let rank = slice_index group m in
          let found = posted-at (IsRequest lines groups rank) comm (requests_of requests rank) place p (each rank)
          (ap (λ (l : List Request). slice_get l place) (sym (list_at-postings requests comm group m mine)) ∙ other) in
          let on = fits-at lines groups comm rank group p here found.0 found.1 in
          let member : p.member ≡ m = same_Some p.member m (sym on.member ∙ is.found m mine) in (
            p,
            other,
            record {
              member = member;
              sig = sig-same lists m place first p none lt one other;
              starts = starts-same (first_list lists) (list_at lists m) place first p
                  (list_all-at (started_alike (first_list lists)) lists m (list_at lists m) starts (slice_get-list_at lists m lt)) one other;
              checked = ap (λ k. broken p.sig k) len ∙ on.checked;
              given = subst (λ k. AllByRecursion (λ given. length given ≡ given_len p.sig k m) p.starts) (sym len)
                  (subst (λ k. AllByRecursion (λ given. length given ≡ given_len p.sig (length group) k) p.starts) member on.given);
            },
          );
    }

-- ---- all communicators

pub AreMatched-all : (n lines : ℕ) (groups : List (List ℕ)) (requests : List (List Request)) (comm : ℕ) (rest : List (List ℕ))
    → ((k : ℕ) → slice_get groups (comm + k) ≡ slice_get rest k) → AllByRecursion (IsGroup n) rest
    → ((rank : ℕ) → AllByRecursion (IsRequest lines groups rank) (requests_of requests rank))
    → AreFitting (postings_from requests comm rest) → AllByRecursion (λ lists. AreMatched (length lists) lists) (postings_from requests comm rest)
AreMatched-all n lines groups requests comm [] at all each fit = tt
AreMatched-all n lines groups requests comm (group ∷ rest) at all each fit =
    let zero_at : comm ≡ comm + 0 = omega arith in (
      AreMatched-postings n lines groups requests comm group (ap (slice_get groups) zero_at ∙ at 0) all.0 each fit.same.0 fit.places.0 fit.starts.0,
      AreMatched-all n lines groups requests (comm + 1) rest
          (λ k. (let next : comm + 1 + k ≡ comm + suc k = omega arith in ap (slice_get groups) next ∙ at (suc k))) all.1 each
          (record { same = fit.same.1; places = fit.places.1; starts = fit.starts.1 }),
    )
