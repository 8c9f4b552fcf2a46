-- Lines as far as they are printed.
use Rattle.std.proofs.Common.{◌≡◌, ℕ, ◌+◌, ◌-◌, ◌<◌, List, [], ◌∷◌, ◌++◌, map, take, drop, length, get_or, ap, subst, sym, ◌∙◌, append_assoc, arith}
use Rattle.std.specs.List.{AllByRecursion}
use Rattle.std.proofs.lemmas.List.{length-take, take-append-drop}
use Rattle.coll_parser.proofs.Lists.{AllByRecursion-at, slice_get-view}
use Rattle.coll_parser.specs.Code.{request_view}
use Rattle.coll_parser.specs.declared.request.Request as rust
use Rattle.coll_parser.specs.Requests.{Request}
use Rattle.coll_script.specs.Postings.{posted_on}
use Rattle.coll_script.proofs.Loops.{take-next}
use Rattle.coll_run.specs.Index.{IsFew}
use Rattle.coll_run.specs.Lines.{Handed, told_request, told_behind}
use Rattle.coll_run.specs.Missing.{Lacks, LacksStart}

-- ---- the lines of a rank

pub behind-more : (handed : Handed) (rank number : ℕ) (requests : List Request) (p : Request) (out total : List ℕ)
    → number < length requests → drop number requests ≡ p ∷ drop (number + 1) requests
    → out ++ told_behind handed rank (take number requests) (drop number requests) ≡ total
    → (out ++ told_request handed rank number (length (posted_on p.comm (take number requests))) p)
    ++ told_behind handed rank (take (number + 1) requests) (drop (number + 1) requests) ≡ total
behind-more handed rank number requests p out total lt front so_far =
    let len : length (take number requests) ≡ number =
    (let short = length-take number requests in omega (arith, short, lt)) in
    let place = length (posted_on p.comm (take number requests)) in
    append_assoc out (told_request handed rank number place p)
    (told_behind handed rank (take (number + 1) requests) (drop (number + 1) requests))
    ∙ ap (λ (before : List Request). out ++
    (told_request handed rank number place p ++ told_behind handed rank before (drop (number + 1) requests)))
    (take-next requests number p front)
    ∙ ap (λ n. out ++
    (told_request handed rank n place p ++ told_behind handed rank (take number requests ++ p ∷ [])
    (drop (number + 1) requests))) (sym len)
    ∙ ap (λ (rest : List Request). out ++ told_behind handed rank (take number requests) rest) (sym front)
    ∙ so_far

-- ---- a request of a list of them

pub few-at : (requests : List rust.Request) (number : ℕ) (p : rust.Request) → number < length requests
    → p ≡ get_or requests number p → AllByRecursion IsFew (map request_view requests) → IsFew (request_view p)
few-at requests number p lt is each =
    AllByRecursion-at IsFew (map request_view requests) number (request_view p) each
    (slice_get-view request_view requests number p lt is)

-- ---- what is missing

pub lacks-at : (handed : Handed) (rank number : ℕ) (requests : List Request) (p : Request) (place : ℕ)
    → drop number requests ≡ p ∷ drop (number + 1) requests → place ≡ length (posted_on p.comm (take number requests))
    → LacksStart handed rank place p → Lacks handed rank requests
lacks-at handed rank number requests p place front is lacks = record {
  before = take number requests;
  p = p;
  rest = drop (number + 1) requests;
  whole = ap (λ (rest : List Request). take number requests ++ rest) (sym front) ∙ take-append-drop number requests;
  lacks = subst (λ k. LacksStart handed rank k p) is lacks;
}
