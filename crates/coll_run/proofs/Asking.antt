-- The requests that the commands of a rank ask for are those that its lines make.
use Rattle.std.proofs.Common.{◌≡◌, ℕ, zero, suc, ◌≤◌, ◌<◌, cond, eqb, List, [], ◌∷◌, ◌++◌, map, length, get_or, Vec, lit≤, refl, sym, ap, ◌∙◌, arith, inl, inr}
use Rattle.std.specs.Prelude.{unwrap_or, fold, filter}
use Rattle.std.specs.List.{AllByRecursion, range_with_len}
use Rattle.std.specs.Global.{Global}
use Rattle.std.proofs.lemmas.Bool.{cases_lt, lt-ltb, le-ltb}
use Rattle.std.proofs.lemmas.List.{length-map, map-append}
use Rattle.std.proofs.lemmas.Option.{slice_get_within}
use Rattle.coll_parser.specs.Histories.{History, commands_of, issued_by, postings}
use Rattle.coll_parser.specs.Requests as history
use Rattle.coll_parser.specs.Requests.{Request, place_on, request, requests, requests_after, started}
use Rattle.coll_parser.specs.Code.{request_view, requests_view}
use Rattle.coll_parser.specs.Sound.{IsRequest, IsSound}
use Rattle.coll_parser.specs.declared.request.Request as rust
use Rattle.coll_parser.specs.declared.command.Command as text
use Rattle.coll_parser.specs.declared.command.Command.TheVariants as line
use Rattle.coll_parser.specs.declared.issued_command.IssuedCommand.{IssuedCommand}
use Rattle.coll_script.specs.Postings.{requests_of}
use Rattle.coll_script.proofs.Sections.{each_of, requests_of-past, requests_of-rank, requests_of-view}
use Rattle.coll_report.specs.Scripts as script
use Rattle.coll_report.specs.Scripts.{Command, Asked, asked, asked_at, asked_from, changed_at, one_more}
use Rattle.coll_run.specs.Commands.{all_traced, as_asked, commands_by, traced}
use Rattle.coll_run.specs.Index.{IsFew}
use Rattle.coll_run.specs.Laws.{CommandsAsk}

start_seen : (n : ℕ) (given : List ℕ) (q : ℕ) (xs : List Request)
    → changed_at q (one_more given) (map as_asked xs) ≡ map as_asked (history.changed_at q (started n given) xs)
start_seen n given q [] = refl
start_seen n given zero (p ∷ xs) = refl
start_seen n given (suc q) (p ∷ xs) = ap (λ (l : List Asked). as_asked p ∷ l) (start_seen n given q xs)

-- one command asks for what its line makes
one_seen : (groups : List (List ℕ)) (n rank : ℕ) (c : text.Command) (xs : List Request)
    → asked_from (map as_asked xs) (traced c ∷ []) ≡ map as_asked (requests_after groups n rank c xs)
one_seen groups n rank (line.Post comm sig given) xs =
    sym (map-append as_asked xs (started n given (request groups n rank comm (place_on comm xs) sig) ∷ []))
one_seen groups n rank (line.Init comm sig) xs =
    sym (map-append as_asked xs (request groups n rank comm (place_on comm xs) sig ∷ []))
one_seen groups n rank (line.Start q given) xs = start_seen n given q xs
one_seen groups n rank (line.Wait q) xs = refl
one_seen groups n rank (line.Test q) xs = refl
one_seen groups n rank (line.Free q) xs = refl
one_seen groups n rank (line.WaitAny qs) xs = refl
one_seen groups n rank (line.WaitSome qs) xs = refl
one_seen groups n rank (line.WaitAll qs) xs = refl

asked_append : (cs more : List Command) (xs : List Asked)
    → asked_from xs (cs ++ more) ≡ asked_from (asked_from xs cs) more
asked_append [] more xs = refl
asked_append (script.Post comm sig given ∷ cs) more xs =
    asked_append cs more (xs ++ asked_at comm sig (given ∷ []) ∷ [])
asked_append (script.Init comm sig ∷ cs) more xs = asked_append cs more (xs ++ asked_at comm sig [] ∷ [])
asked_append (script.Start q given ∷ cs) more xs = asked_append cs more (changed_at q (one_more given) xs)
asked_append (script.Other ∷ cs) more xs = asked_append cs more xs

-- and so do those of all lines
all_seen : (groups : List (List ℕ)) (ts : List IssuedCommand) (xs : List Request)
    → asked_from (map as_asked xs) (all_traced (map (λ t. t.command) ts))
    ≡ map as_asked (fold (λ rs t. requests_after groups t.line t.rank t.command rs) xs ts)
all_seen groups [] xs = refl
all_seen groups (t ∷ ts) xs =
    asked_append (traced t.command ∷ []) (all_traced (map (λ t. t.command) ts)) (map as_asked xs)
    ∙ ap (λ (l : List Asked). asked_from l (all_traced (map (λ t. t.command) ts)))
    (one_seen groups t.line t.rank t.command xs)
    ∙ all_seen groups ts (requests_after groups t.line t.rank t.command xs)

-- the waitall after a section asks for nothing
own : (h : History) (rank : ℕ)
    → asked (all_traced (commands_of h rank)) ≡ map as_asked (history.requests_of h.groups rank h.commands)
own h rank =
    ap asked (map-append traced (issued_by rank h.commands)
    (line.WaitAll (range_with_len 0 (length (postings (issued_by rank h.commands)))) ∷ []))
    ∙ asked_append (all_traced (issued_by rank h.commands)) (script.Other ∷ []) []
    ∙ all_seen h.groups (filter (λ t. eqb t.rank rank) h.commands) []

pub commands_by-rank : (h : History) (rank : ℕ) → rank < unwrap_or h.ranks 0
    → commands_by h rank ≡ all_traced (commands_of h rank)
commands_by-rank h rank lt =
    ap (λ b. cond b (all_traced (commands_of h rank)) []) (lt-ltb rank (unwrap_or h.ranks 0) lt)

pub commands_by-stranger : (h : History) (rank : ℕ) → unwrap_or h.ranks 0 ≤ rank → commands_by h rank ≡ []
commands_by-stranger h rank le =
    ap (λ b. cond b (all_traced (commands_of h rank)) []) (le-ltb rank (unwrap_or h.ranks 0) le)

pub commands_ask : CommandsAsk
commands_ask h rank = elim (cases_lt rank (unwrap_or h.ranks 0)) [
  | inl lt ↦ ap asked (commands_by-rank h rank lt) ∙ own h rank ∙ ap (map as_asked) (sym (requests_of-rank h rank lt))
  | inr le ↦ ap asked (commands_by-stranger h rank le) ∙ ap (map as_asked) (sym (requests_of-past h rank le))
]

-- what holds of a rank's requests
pub requests_are : (h : History) → IsSound h → (rank : ℕ)
    → AllByRecursion (IsRequest 1048577 h.groups rank) (requests_of (requests h) rank)
requests_are h sound rank = each_of (AllByRecursion (IsRequest 1048577 h.groups rank)) h rank (sound.requests rank) tt

pub few_requests : (h : History) → IsSound h → (rank : ℕ) → length (requests_of (requests h) rank) ≤ 4096
few_requests h sound rank = each_of (λ l. length l ≤ 4096) h rank (sound.few_requests rank) (lit≤ tt)

few_from : (h : History) (rank : ℕ) (requests : List Request) → length h.groups ≤ 16
    → AllByRecursion (IsRequest 1048577 h.groups rank) requests → AllByRecursion IsFew requests
few_from h rank [] few all = tt
few_from h rank (p ∷ requests) few all =
    let is = all.0 in
    let known : p.comm < length h.groups = slice_get_within h.groups p.comm is.group is.known in
    let starts = is.few in
    (record { comm = omega (arith, few, known); starts = omega (arith, starts) }, few_from h rank requests few all.1)

pub each_few : (h : History) → IsSound h → (rank : ℕ) → AllByRecursion IsFew (requests_of (requests h) rank)
each_few h sound rank =
    few_from h rank (requests_of (requests h) rank) sound.few_groups (requests_are h sound rank)

-- the requests of a rank, as they lie in memory
pub section-view : (h : History) (ranks : List (Vec rust.Request Global)) (rank : ℕ) (mine : Vec rust.Request Global)
    → rank < length ranks → mine ≡ get_or ranks rank mine → requests_view ranks ≡ requests h
    → map request_view mine.items ≡ requests_of (requests h) rank
section-view h ranks rank mine lt is view =
    requests_of-view ranks rank mine lt is ∙ ap (λ (rs : List (List Request)). requests_of rs rank) view

pub length-view : (h : History) (ranks : List (Vec rust.Request Global)) → requests_view ranks ≡ requests h
    → length ranks ≡ length (requests h)
length-view h ranks view =
    sym (length-map ranks (λ (requests : Vec rust.Request Global). map request_view requests.items))
    ∙ ap (λ (rs : List (List Request)). length rs) view
