-- The posting lists of a communicator: for each member, in member order, its requests there, in the order of their
-- places.
use Rattle.std.specs.Prelude.{ℕ, ◌+◌, ◌==◌, Bool, List, [], ◌∷◌, map, filter, slice_get, unwrap_or}
use Rattle.coll_parser.specs.Requests.{Request}

-- the request was posted or initialised on the communicator
abbrev pub is_on : ℕ → Request → Bool
is_on comm p = p.comm == comm

-- those of a rank's requests that were
abbrev pub posted_on : ℕ → List Request → List Request
posted_on comm requests = filter (is_on comm) requests

-- the requests of a rank, of those of all ranks
abbrev pub requests_of : List (List Request) → ℕ → List Request
requests_of requests rank = unwrap_or (slice_get requests rank) []

-- the posting lists of a communicator that has these ranks as members
abbrev pub postings : List (List Request) → ℕ → List ℕ → List (List Request)
postings requests comm group = map (λ rank. posted_on comm (requests_of requests rank)) group

-- those of the communicators from a number on
abbrev pub postings_from : List (List Request) → ℕ → List (List ℕ) → List (List (List Request))
postings_from requests comm [] = []
postings_from requests comm (group ∷ groups) = postings requests comm group ∷ postings_from requests (comm + 1) groups
