-- What holds of the requests of a history that was read.
use Rattle.std.proofs.Common.{◌≡◌, ℕ, zero, suc, ◌+◌, ◌<◌, ◌≤◌, List, [], ◌∷◌, ◌++◌, length, map, get_or, take, drop, Vec, refl, sym, ap, subst, ◌∙◌}
use Rattle.std.proofs.Common.{arith, append_assoc, Option, Some, None, inl, inr}
use Rattle.std.specs.Prelude.{slice_get, unwrap_or, IfSome}
use Rattle.std.specs.Global.{Global}
use Rattle.std.specs.Option.{option_map}
use Rattle.std.specs.List.{AllByRecursion, range_with_len}
use Rattle.std.proofs.lemmas.Bool.{cases_eq}
use Rattle.std.proofs.lemmas.List.{append-nil, length-append, length-map, map-append}
use Rattle.std.proofs.lemmas.List.Elements.{filter_map-append}
use Rattle.std.proofs.lemmas.Option.{get_or_from_slice_get, slice_get-map, slice_get_within, same_Some}
use Rattle.coll_kinds.specs.declared.signature.Signature.{Signature}
use Rattle.coll_kinds.specs.Common.{given_len, member_of}
use Rattle.coll_parser.specs.declared.command.Command.{Command}
use Rattle.coll_parser.specs.declared.command.Command.TheVariants.{Post, Init, Start, Wait, Test, Free, WaitAny, WaitSome, WaitAll}
use Rattle.coll_parser.specs.declared.issued_command.IssuedCommand.{IssuedCommand}
use Rattle.coll_parser.specs.Histories.{History, Posting, posting, postings, issued_by, group_of}
use Rattle.coll_parser.specs.Requests.{Request, place_on, request, started, changed_at, requests_after, requests_of}
use Rattle.coll_parser.specs.declared.request.Request as rust_request
use Rattle.coll_parser.specs.Code.{request_view, requests_view, IsNamed}
use Rattle.coll_parser.specs.Sound.{IsPosting, MayIssue, AreAllowed, IsHistory, IsRequest, IsSound}
use Rattle.coll_parser.proofs.Lists.{AllByRecursion-push, AllByRecursion-weaker, drop-more, take-more}
use Rattle.coll_parser.proofs.Keeping.{issued-own, issued-other, IfSome-weaker}
use Rattle.coll_parser.proofs.Readers.{count-le}
use Rattle.coll_parser.proofs.Requested.{requests-own, requests-other}

abbrev posting_of : Request → Posting
posting_of p = record { comm = p.comm; sig = p.sig }

IsRequest-later : (issued more : ℕ) (groups : List (List ℕ)) (rank : ℕ) (p : Request) → issued ≤ more
    → IsRequest issued groups rank p → IsRequest more groups rank p
IsRequest-later issued more groups rank p le is =
    record { group = is.group; known = is.known; member = is.member; checked = is.checked; given = is.given; few = omega (arith, is.few, le) }

later-all : (issued more : ℕ) (groups : List (List ℕ)) (rank : ℕ) (requests : List Request) → issued ≤ more
    → AllByRecursion (IsRequest issued groups rank) requests → AllByRecursion (IsRequest more groups rank) requests
later-all issued more groups rank requests le are =
    AllByRecursion-weaker (IsRequest issued groups rank) (IsRequest more groups rank) (λ p is. IsRequest-later issued more groups rank p le is) requests are

-- the number of a rank within the communicator on which it may post
member-is : (groups : List (List ℕ)) (rank comm : ℕ) (group : List ℕ) (member : ℕ) → slice_get groups comm ≡ Some group
    → member_of rank group ≡ Some member → unwrap_or (member_of rank (group_of groups comm)) 0 ≡ member
member-is groups rank comm group member known is =
    ap (λ (g : List ℕ). unwrap_or (member_of rank g) 0) (get_or_from_slice_get groups comm group [] known) ∙ ap (λ (m : Option ℕ). unwrap_or m 0) is

new-request : (issued line : ℕ) (groups : List (List ℕ)) (rank comm place : ℕ) (sig : Signature) → IsPosting groups rank comm sig
    → IsRequest issued groups rank (request groups line rank comm place sig)
new-request issued line groups rank comm place sig is = record {
  group = is.group;
  known = is.known;
  member = is.is_member ∙ ap Some (sym (member-is groups rank comm is.group is.member is.known is.is_member));
  checked = is.checked;
  given = tt;
  few = omega arith;
}

map-changed_same : (q line : ℕ) (given : List ℕ) (requests : List Request)
    → map posting_of (changed_at q (started line given) requests) ≡ map posting_of requests
map-changed_same q line given [] = refl
map-changed_same zero line given (p ∷ requests) = refl
map-changed_same (suc q) line given (p ∷ requests) = ap (λ (ps : List Posting). posting_of p ∷ ps) (map-changed_same q line given requests)

changed-all : (P Q : Request → Type 0) (f : Request → Request) (q : ℕ) (requests : List Request) → ((p : Request) → P p → Q p)
    → ((p : Request) → slice_get requests q ≡ Some p → P p → Q (f p)) → AllByRecursion P requests → AllByRecursion Q (changed_at q f requests)
changed-all P Q f q [] others here are = tt
changed-all P Q f zero (p ∷ requests) others here are = (here p refl are.0, AllByRecursion-weaker P Q others requests are.1)
changed-all P Q f (suc q) (p ∷ requests) others here are = (others p are.0, changed-all P Q f q requests others here are.1)

started-request : (issued line : ℕ) (groups : List (List ℕ)) (rank : ℕ) (given : List ℕ) (p : Request)
    → IsRequest issued groups rank p → length given ≡ given_len p.sig (length (group_of groups p.comm)) (unwrap_or (member_of rank (group_of groups p.comm)) 0)
    → IsRequest (issued + 1) groups rank (started line given p)
started-request issued line groups rank given p is fits =
    let group : group_of groups p.comm ≡ is.group = get_or_from_slice_get groups p.comm is.group [] is.known in
    let due = fits ∙ ap (λ (g : List ℕ). given_len p.sig (length g) (unwrap_or (member_of rank (group_of groups p.comm)) 0))
    group ∙ ap (given_len p.sig (length is.group)) (member-is groups rank p.comm is.group p.member is.known is.member) in
    record {
      group = is.group;
      known = is.known;
      member = is.member;
      checked = is.checked;
      given = AllByRecursion-push _ p.starts given is.given due;
      few = omega (arith, is.few, length-append p.starts (given ∷ []));
    }

abbrev AreRequested : ℕ → List (List ℕ) → ℕ → List Command → List Request → Type 0
AreRequested issued groups rank commands requests = (map posting_of requests ≡ postings commands) × AllByRecursion (IsRequest issued groups rank) requests

posts-nothing : (issued : ℕ) (groups : List (List ℕ)) (rank : ℕ) (commands : List Command) (requests : List Request) (c : Command)
    → posting c ≡ None → AreRequested issued groups rank commands requests → AreRequested (issued + 1) groups rank (commands ++ c ∷ []) requests
posts-nothing issued groups rank commands requests c none are = (
  are.0 ∙ sym (filter_map-append posting commands (c ∷ []) ∙ rw none (append-nil (postings commands))),
  later-all issued (issued + 1) groups rank requests (omega arith) are.1,
)

posts-one : (issued line : ℕ) (groups : List (List ℕ)) (rank : ℕ) (commands : List Command) (requests : List Request) (c : Command) (p : Request)
    → posting c ≡ Some (posting_of p) → IsRequest (issued + 1) groups rank p
    → AreRequested issued groups rank commands requests → AreRequested (issued + 1) groups rank (commands ++ c ∷ []) (requests ++ p ∷ [])
posts-one issued line groups rank commands requests c p posts is are = (
  map-append posting_of requests (p ∷ []) ∙ ap (λ (ps : List Posting). ps ++ posting_of p ∷ []) are.0
      ∙ sym (filter_map-append posting commands (c ∷ []) ∙ rw posts refl),
  AllByRecursion-push (IsRequest (issued + 1) groups rank) requests p (later-all issued (issued + 1) groups rank requests (omega arith) are.1) is,
)

requested-step : (issued line : ℕ) (groups : List (List ℕ)) (rank : ℕ) (commands : List Command) (requests : List Request) (c : Command)
    → MayIssue groups rank commands c → AreRequested issued groups rank commands requests
    → AreRequested (issued + 1) groups rank (commands ++ c ∷ []) (requests_after groups line rank c requests)
requested-step issued line groups rank commands requests (Post comm sig given) may are =
    let p = request groups line rank comm (place_on comm requests) sig in
    let is = new-request issued line groups rank comm (place_on comm requests) sig may.0 in
    posts-one issued line groups rank commands requests (Post comm sig given) (started line given p) refl
    (started-request issued line groups rank given p is may.1) are
requested-step issued line groups rank commands requests (Init comm sig) may are =
    let p = request groups line rank comm (place_on comm requests) sig in
    posts-one issued line groups rank commands requests (Init comm sig) p refl
    (new-request (issued + 1) line groups rank comm (place_on comm requests) sig may) are
requested-step issued line groups rank commands requests (Start q given) may are = (
  map-changed_same q line given requests ∙ (posts-nothing issued groups rank commands requests (Start q given) refl are).0,
  changed-all (IsRequest issued groups rank) (IsRequest (issued + 1) groups rank) (started line given) q requests
      (λ p is. IsRequest-later issued (issued + 1) groups rank p (omega arith) is)
      (λ p at is.
      let there : Some (posting_of p) ≡ Some may.p =
      sym (ap (option_map posting_of) at) ∙ sym (slice_get-map posting_of requests q) ∙ ap (λ (ps : List Posting). slice_get ps q) are.0 ∙ may.known in
      let same : posting_of p ≡ may.p = same_Some (posting_of p) may.p there in
      started-request issued line groups rank given p is
      (may.fits ∙ ap (λ (r : Posting). given_len r.sig (length (group_of groups r.comm))
      (unwrap_or (member_of rank (group_of groups r.comm)) 0)) (sym same)))
      are.1,
)
requested-step issued line groups rank commands requests (Wait q) may are = posts-nothing issued groups rank commands requests (Wait q) refl are
requested-step issued line groups rank commands requests (Test q) may are = posts-nothing issued groups rank commands requests (Test q) refl are
requested-step issued line groups rank commands requests (Free q) may are = posts-nothing issued groups rank commands requests (Free q) refl are
requested-step issued line groups rank commands requests (WaitAny qs) may are = posts-nothing issued groups rank commands requests (WaitAny qs) refl are
requested-step issued line groups rank commands requests (WaitSome qs) may are = posts-nothing issued groups rank commands requests (WaitSome qs) refl are
requested-step issued line groups rank commands requests (WaitAll qs) may are = posts-nothing issued groups rank commands requests (WaitAll qs) refl are

abbrev pub AreAll : List (List ℕ) → List IssuedCommand → Type 0
AreAll groups issued = (rank : ℕ) → AreRequested (length issued) groups rank (issued_by rank issued) (requests_of groups rank issued)

pub all-step : (groups : List (List ℕ)) (issued : List IssuedCommand) (t : IssuedCommand)
    → MayIssue groups t.rank (issued_by t.rank issued) t.command → AreAll groups issued → AreAll groups (issued ++ t ∷ [])
all-step groups issued t may are rank =
    let long : length (issued ++ t ∷ []) ≡ length issued + 1 = length-append issued (t ∷ []) in
    elim (cases_eq rank t.rank) [
      | inl e ↦ rw (e, long, issued-own issued t, requests-own groups issued t)
          (requested-step (length issued) t.line groups t.rank (issued_by t.rank issued) (requests_of groups t.rank issued) t.command may (are t.rank))
      | inr ne ↦ rw (long, issued-other rank issued t ne, requests-other groups rank issued t ne)
          ((are rank).0, later-all (length issued) (length issued + 1) groups rank (requests_of groups rank issued) (omega arith) (are rank).1)
    ]

pub all-allowed : (n : ℕ) (groups : List (List ℕ)) (before issued : List IssuedCommand) → AreAll groups before
    → AreAllowed n groups before issued → AreAll groups (before ++ issued)
all-allowed n groups before [] are allowed = subst (AreAll groups) (sym (append-nil before)) are
all-allowed n groups before (t ∷ issued) are allowed =
    subst (AreAll groups) (append_assoc before (t ∷ []) issued)
    (all-allowed n groups (before ++ t ∷ []) issued (all-step groups before t allowed.0.1 are) allowed.1)

pub IsHistory-sound : (h : History) → IsHistory 1048578 h → IsSound h
IsHistory-sound h is =
    let are = all-allowed (unwrap_or h.ranks 0) h.groups [] h.commands (λ rank. (refl, tt)) is.allowed in
    record {
      few_ranks = is.few_ranks;
      few_groups = is.few_groups;
      groups = is.groups;
      few_requests =
          λ rank. omega (arith, length-map (requests_of h.groups rank h.commands) posting_of, ap length (are rank).0, count-le rank h.commands, is.few);
      requests = λ rank. later-all (length h.commands) 1048577 h.groups rank (requests_of h.groups rank h.commands)
          (omega (arith, is.few_commands)) (are rank).1;
    }

-- ---- one line after another

-- the next command may be issued, and so may those after it
pub next-allowed : (n : ℕ) (groups : List (List ℕ)) (issued : List IssuedCommand) (i : ℕ) (t : IssuedCommand) → i < length issued
    → t ≡ get_or issued i t → AreAllowed n groups (take i issued) (drop i issued)
    → ((t.rank < n) × MayIssue groups t.rank (issued_by t.rank (take i issued)) t.command) × AreAllowed n groups (take i issued ++ t ∷ []) (drop (i + 1) issued)
next-allowed n groups issued i t lt is allowed = subst (AreAllowed n groups (take i issued)) (drop-more issued i t lt is) allowed

pub take-next : (issued : List IssuedCommand) (i : ℕ) (t : IssuedCommand) → i < length issued → t ≡ get_or issued i t
    → take (i + 1) issued ≡ take i issued ++ t ∷ []
take-next issued i t lt is = take-more issued i t lt ∙ ap (λ (u : IssuedCommand). take i issued ++ u ∷ []) (sym is)

named-from : (groups : List (List ℕ)) (rank n : ℕ) (commands : List Command) (c : Command) → length (postings commands) ≡ n
    → MayIssue groups rank commands c → IsNamed n c
named-from groups rank n commands (Post comm sig given) e may = tt
named-from groups rank n commands (Init comm sig) e may = tt
named-from groups rank n commands (Start q given) e may = omega (arith, slice_get_within (postings commands) q may.p may.known, e)
named-from groups rank n commands (Wait q) e may = omega (arith, may, e)
named-from groups rank n commands (Test q) e may = tt
named-from groups rank n commands (Free q) e may = omega (arith, may, e)
named-from groups rank n commands (WaitAny qs) e may = tt
named-from groups rank n commands (WaitSome qs) e may = tt
named-from groups rank n commands (WaitAll qs) e may = rw (← e) may

pub may-name : (groups : List (List ℕ)) (issued : List IssuedCommand) (t : IssuedCommand) (n : ℕ) → AreAll groups issued
    → n ≡ length (requests_of groups t.rank issued) → MayIssue groups t.rank (issued_by t.rank issued) t.command → IsNamed n t.command
may-name groups issued t n are long may =
    named-from groups t.rank n (issued_by t.rank issued) t.command
    (omega (arith, long, length-map (requests_of groups t.rank issued) posting_of, ap length (are t.rank).0)) may

pub views-range : (f : ℕ → List Request) (ranks : List (Vec rust_request.Request Global)) (first : ℕ)
    → ((k : ℕ) → IfSome (slice_get ranks k) (λ v. map request_view v.items ≡ f (first + k))) → requests_view ranks ≡ map f (range_with_len first (length ranks))
views-range f [] first each = refl
views-range f (v ∷ ranks) first each =
    let here : map request_view v.items ≡ f first = each 0 ∙ ap f (omega arith) in
    ap (λ (p : List Request). p ∷ requests_view ranks) here
    ∙ ap (λ (ps : List (List Request)). f first ∷ ps)
    (views-range f ranks (first + 1)
    (λ k. IfSome-weaker (slice_get ranks k) (λ w. map request_view w.items ≡ f (first + suc k))
    (λ w. map request_view w.items ≡ f (first + 1 + k)) (λ w at e. e ∙ ap f (omega arith)) (each (suc k))))
