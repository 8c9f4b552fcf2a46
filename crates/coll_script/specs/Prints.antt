-- Lines as they are printed from the values that were computed.
use Rattle.std.specs.Prelude.{◌≡◌, ℕ, ◌<◌, ◌≤◌, List, [], ◌∷◌, ◌++◌, length, take, flat_map, slice_get, unwrap_or, Some}
use Rattle.std.specs.List.{enumerate_from, AllByRecursion}
use Rattle.coll_ops.specs.Values.{row_of}
use Rattle.coll_parser.specs.Requests.{Request}
use Rattle.coll_script.specs.Postings.{posted_on}
use Rattle.coll_script.specs.Meaning.{outcome_line}

-- the lines of a request with these values at each start
abbrev pub printed_request : ℕ → ℕ → Request → List (List (List ℕ)) → List ℕ
printed_request rank number p starts =
    flat_map (λ e. outcome_line rank number e.0 p.sig.ty (row_of e.1 p.member)) (enumerate_from 0 starts)

-- the values of a request at a place, of those of all communicators and places
abbrev pub values_at : List (List (List (List (List ℕ)))) → ℕ → ℕ → List (List (List ℕ))
values_at values comm place = unwrap_or (slice_get (unwrap_or (slice_get values comm) []) place) []

-- the lines of a rank's requests after others
abbrev pub printed_behind : List (List (List (List (List ℕ)))) → ℕ → List Request → List Request → List ℕ
printed_behind values rank before [] = []
printed_behind values rank before (p ∷ requests) =
    printed_request rank (length before) p (values_at values p.comm (length (posted_on p.comm before)))
    ++ printed_behind values rank (before ++ p ∷ []) requests

-- there are values of a request at a place, at each start those of all members
pub record HasValues (values : List (List (List (List (List ℕ))))) (p : Request) (place : ℕ) : Type 0 where
  pub known : p.comm < length values
  pub below : place < length (unwrap_or (slice_get values p.comm) [])
  pub members : AllByRecursion (λ rows. p.member < length rows) (values_at values p.comm place)
  pub few : length (values_at values p.comm place) ≤ 4294967295

-- the requests of a rank have values at their places
abbrev pub HaveValues : List (List (List (List (List ℕ)))) → List Request → Type 0
HaveValues values requests =
    (number : ℕ) (p : Request)
    → slice_get requests number ≡ Some p
    → HasValues values p (length (posted_on p.comm (take number requests)))
