-- The script of a history after which nothing is found.
use Rattle.std.proofs.Common.{◌≡◌, ℕ, ◌+◌, ◌≤◌, ◌<◌, Bool, true, false, List, [], ◌∷◌, length, map, Option, Some, None, Ok, Err, refl, ap, subst, sym}
use Rattle.std.proofs.Common.{◌∙◌, arith}
use Rattle.std.specs.Prelude.{slice_get, slice_index, unwrap_or, is_some, IfSome, Vec}
use Rattle.std.specs.List.{list_all, AllByRecursion}
use Rattle.std.proofs.lemmas.Option.{slice_get_within}
use Rattle.coll_parser.specs.declared.cause.Cause.TheVariants.{PlaceMismatch, PlaceMissing, StartMissing}
use Rattle.coll_parser.specs.Histories.{History}
use Rattle.coll_parser.specs.Requests.{Request, requests}
use Rattle.coll_parser.specs.declared.request.Request as rust
use Rattle.coll_parser.specs.Code.{request_view, requests_view, rows_view}
use Rattle.coll_parser.proofs.Lists.{AllByRecursion-weaker}
use Rattle.std.specs.Global.{Global}
use Rattle.std.proofs.lemmas.List.{length-map}
use Rattle.coll_kinds.specs.Groups.{member_of, IsGroup}
use Rattle.coll_parser.specs.Sound.{IsRequest, IsSound}
use Rattle.coll_script.specs.Postings.{requests_of, postings_from}
use Rattle.coll_script.specs.Matching.{mismatch, have_places, have_starts}
use Rattle.coll_script.specs.Jobs.{job_of, all_postings, matched, belonging, completed_by, completed}
use Rattle.coll_script.specs.Scripts.{IsOwned, IsJob}
use Rattle.coll_script.proofs.Sections.{length-requests, each_of}
use Rattle.coll_script.proofs.Matches.{AreFitting-answered, AreMatched-all}

owned_from : (groups : List (List ℕ)) (rank : ℕ) (requests : List Request)
    → AllByRecursion (IsRequest 1048577 groups rank) requests → AllByRecursion (IsOwned groups rank) requests
owned_from groups rank [] all = tt
owned_from groups rank (p ∷ requests) all =
    let is = all.0 in
    let few = is.few in (
      record {
        known = slice_get_within groups p.comm is.group is.known;
        member = subst (λ (o : Option (List ℕ)). IfSome o (λ group. member_of rank group ≡ Some p.member)) (sym is.known) is.member;
        few = omega (arith, few);
      },
      owned_from groups rank requests all.1,
    )

pub IsJob-history : (h made : History) (last : ℕ) → IsSound h → belonging last h ≡ Ok made → IsJob (job_of h)
IsJob-history h made last is e =
    let len : length (requests h) ≡ unwrap_or h.ranks 0 = length-requests h in
    let groups : AllByRecursion (IsGroup (length (requests h))) h.groups = subst (λ n. AllByRecursion (IsGroup n) h.groups) (sym len) is.groups in
    let few_ranks = is.few_ranks in
    let each : (rank : ℕ) → AllByRecursion (IsRequest 1048577 h.groups rank) (requests_of (requests h) rank) =
    λ rank. each_of (AllByRecursion (IsRequest 1048577 h.groups rank)) h rank (is.requests rank) tt in
    record {
      few_groups = is.few_groups;
      few_ranks = omega (arith, len, few_ranks);
      groups = groups;
      few_requests = λ rank. each_of (λ (l : List Request). length l ≤ 4096) h rank (is.few_requests rank) (omega arith);
      owned = λ rank. owned_from h.groups rank (requests_of (requests h) rank) (each rank);
      matched = AreMatched-all (length (requests h)) 1048577 h.groups (requests h) 0 h.groups
          (λ k. (let at : 0 + k ≡ k = omega arith in ap (slice_get h.groups) at)) groups each (AreFitting-answered last h made e);
    }

-- ---- what is judged after the last line

pub judged-mismatch : (last line : ℕ) (h : History) (all : List (List (List Request))) (found : Option ℕ)
    → all ≡ all_postings (job_of h) → found ≡ mismatch all → found ≡ Some line
    → belonging last h ≡ Err (record { line = line; cause = PlaceMismatch })
judged-mismatch last line h all found is tested e =
    ap (λ (a : List (List (List Request))). matched last a h (mismatch a)) (sym is) ∙ ap (matched last all h) (sym tested ∙ e)

pub judged-places : (last : ℕ) (h : History) (all : List (List (List Request))) (found : Option ℕ) (places : Bool)
    → all ≡ all_postings (job_of h) → found ≡ mismatch all → found ≡ None
    → places ≡ list_all have_places all → places ≡ false → belonging last h ≡ Err (record { line = last; cause = PlaceMissing })
judged-places last h all found places is tested e place fails =
    let none : mismatch all ≡ None = sym tested ∙ e in
    let missing : list_all have_places all ≡ false = sym place ∙ fails in
    ap (λ (a : List (List (List Request))). matched last a h (mismatch a)) (sym is) ∙ rw (none, missing) refl

pub judged-starts : (last : ℕ) (h : History) (all : List (List (List Request))) (found : Option ℕ) (places starts : Bool)
    → all ≡ all_postings (job_of h) → found ≡ mismatch all → found ≡ None
    → places ≡ list_all have_places all → places ≡ true → starts ≡ list_all have_starts all → starts ≡ false
    → belonging last h ≡ Err (record { line = last; cause = StartMissing })
judged-starts last h all found places starts is tested e place has start fails =
    let none : mismatch all ≡ None = sym tested ∙ e in
    let there : list_all have_places all ≡ true = sym place ∙ has in
    let missing : list_all have_starts all ≡ false = sym start ∙ fails in
    ap (λ (a : List (List (List Request))). matched last a h (mismatch a)) (sym is) ∙ rw (none, there, missing) refl

pub judged-whole : (last : ℕ) (h : History) (all : List (List (List Request))) (found : Option ℕ) (places starts : Bool)
    → all ≡ all_postings (job_of h) → found ≡ mismatch all → found ≡ None
    → places ≡ list_all have_places all → places ≡ true → starts ≡ list_all have_starts all → starts ≡ true → belonging last h ≡ Ok h
judged-whole last h all found places starts is tested e place has start has_starts =
    let none : mismatch all ≡ None = sym tested ∙ e in
    let there : list_all have_places all ≡ true = sym place ∙ has in
    let all_there : list_all have_starts all ≡ true = sym start ∙ has_starts in
    ap (λ (a : List (List (List Request))). matched last a h (mismatch a)) (sym is) ∙ rw (none, there, all_there) refl

-- the number of ranks is known
pub completed-known : (h made : History) (last : ℕ) → is_some h.ranks ≡ true → belonging last h ≡ Ok made → completed last h ≡ Ok made
completed-known h made last known e = known_from h.ranks known e
  where
    known_from : (o : Option ℕ) → is_some o ≡ true → belonging last h ≡ Ok made → completed_by o last h ≡ Ok made
    known_from None none e = absurd cc
    known_from (Some n) none e = e

-- ---- what the code has read

pub postings-view : (h : History) (ranks others : List (Vec rust.Request Global)) (groups : List (Vec ℕ Global)) → ranks ≡ others
    → requests_view others ≡ requests h → rows_view groups ≡ h.groups
    → postings_from (requests_view ranks) 0 (rows_view groups) ≡ all_postings (job_of h)
postings-view h ranks others groups same view rows =
    ap (λ (rs : List (Vec rust.Request Global)). postings_from (requests_view rs) 0 (rows_view groups)) same
    ∙ ap (λ (rs : List (List Request)). postings_from rs 0 (rows_view groups)) view ∙ ap (postings_from (requests h) 0) rows

-- the members of communicators are ranks
pub members-view : (h : History) (ranks others : List (Vec rust.Request Global)) (groups : List (Vec ℕ Global)) → IsSound h
    → ranks ≡ others → requests_view others ≡ requests h → rows_view groups ≡ h.groups
    → AllByRecursion (λ group. (m : ℕ) → m < length group → slice_index group m < length ranks) (rows_view groups)
members-view h ranks others groups is same view rows =
    let count : length ranks ≡ unwrap_or h.ranks 0 =
    ap length same ∙ sym (length-map others (λ requests. map request_view requests.items)) ∙ ap length view ∙ length-requests h in
    subst (AllByRecursion (λ (group : List ℕ). (m : ℕ) → m < length group → slice_index group m < length ranks)) (sym rows)
    (AllByRecursion-weaker (IsGroup (unwrap_or h.ranks 0)) (λ (group : List ℕ). (m : ℕ) → m < length group → slice_index group m < length ranks)
    (λ group it m lt. subst (λ n. slice_index group m < n) (sym count) (it.below m lt)) h.groups is.groups)
