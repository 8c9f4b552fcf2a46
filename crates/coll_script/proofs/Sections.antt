-- The requests of a rank, among those of all ranks of a history.
use Rattle.std.proofs.Common.{◌≡◌, ℕ, ◌≤◌, ◌<◌, List, [], length, map, get_or, Option, subst, ap, sym, ◌∙◌, arith, inl, inr}
use Rattle.std.specs.Prelude.{unwrap_or, Vec}
use Rattle.std.specs.Global.{Global}
use Rattle.std.proofs.lemmas.Bool.{cases_lt}
use Rattle.std.proofs.lemmas.List.FromFn.{get_or-map-range_with_len, length-map-range_with_len}
use Rattle.std.proofs.lemmas.Option.{slice_get_past, unwrap_or-slice_get}
use Rattle.coll_parser.specs.Histories.{History}
use Rattle.coll_parser.specs.Requests as history
use Rattle.coll_parser.specs.Requests.{Request, requests}
use Rattle.coll_parser.specs.Code.{request_view, requests_view}
use Rattle.coll_parser.specs.declared.request.Request as rust
use Rattle.coll_parser.proofs.Lists.{slice_get-view}
use Rattle.coll_script.specs.Postings.{requests_of}

pub length-requests : (h : History) → length (requests h) ≡ unwrap_or h.ranks 0
length-requests h =
    length-map-range_with_len (λ rank. history.requests_of h.groups rank h.commands) 0 (unwrap_or h.ranks 0)

pub requests_of-rank : (h : History) (rank : ℕ) → rank < unwrap_or h.ranks 0
    → requests_of (requests h) rank ≡ history.requests_of h.groups rank h.commands
requests_of-rank h rank lt =
    unwrap_or-slice_get (requests h) rank []
    ∙ get_or-map-range_with_len (λ k. history.requests_of h.groups k h.commands) 0 (unwrap_or h.ranks 0) rank rank [] lt
    (omega arith)

pub requests_of-past : (h : History) (rank : ℕ) → unwrap_or h.ranks 0 ≤ rank → requests_of (requests h) rank ≡ []
requests_of-past h rank le =
    let len = length-requests h in
    ap (λ (o : Option (List Request)). unwrap_or o []) (slice_get_past (requests h) rank (omega (arith, len, le)))

-- what holds of them, and of no requests
pub each_of : (P : List Request → Type 0) (h : History) (rank : ℕ)
    → P (history.requests_of h.groups rank h.commands) → P [] → P (requests_of (requests h) rank)
each_of P h rank here none = elim (cases_lt rank (unwrap_or h.ranks 0)) [
  | inl lt ↦ subst P (sym (requests_of-rank h rank lt)) here
  | inr le ↦ subst P (sym (requests_of-past h rank le)) none
]

-- as they lie in memory
pub requests_of-view : (ranks : List (Vec rust.Request Global)) (rank : ℕ) (mine : Vec rust.Request Global)
    → rank < length ranks → mine ≡ get_or ranks rank mine
    → map request_view mine.items ≡ requests_of (requests_view ranks) rank
requests_of-view ranks rank mine lt is =
    ap (λ (o : Option (List Request)). unwrap_or o [])
    (sym (slice_get-view (λ (requests : Vec rust.Request Global). map request_view requests.items) ranks rank mine lt is))
