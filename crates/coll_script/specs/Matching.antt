-- Requests at one place of a communicator belong together, so they must have the same signature and mode.
use Rattle.std.specs.Prelude.{ℕ, ◌+◌, ◌==◌, nat_lt, Bool, true, false, ◌&&◌, if◌then◌else◌}
use Rattle.std.specs.Prelude.{List, [], ◌∷◌, length, flat_map, slice_get, Option, Some, None, unwrap_or}
use Rattle.std.specs.List.{list_all}
use Rattle.std.specs.Option.{option_map}
use Rattle.coll_kinds.specs.declared.signature.Signature.{Signature}
use Rattle.coll_kinds.specs.Sameness.{same_signature}
use Rattle.coll_parser.specs.Requests.{Request}
use Rattle.coll_script.specs.declared.first.Earliest.{Earliest}

-- what the requests at a place are compared with
abbrev pub first_of : Request → Earliest
first_of p = record { line = p.line; sig = p.sig }

-- the request at a place of a posting list
abbrev pub first_at : List Request → ℕ → Option Earliest
first_at list place = option_map first_of (slice_get list place)

-- of two, where there are any, the one of the earlier line
abbrev pub earlier : Option Earliest → Option Earliest → Option Earliest
earlier None q = q
earlier (Some p) None = Some p
earlier (Some p) (Some q) = if nat_lt q.line p.line then Some q else Some p

-- the earliest of one, if there is one, and of those at a place of some posting lists
abbrev pub earliest : Option Earliest → ℕ → List (List Request) → Option Earliest
earliest first place [] = first
earliest first place (list ∷ lists) = earliest (earlier first (first_at list place)) place lists

-- the earliest at a place has this signature
abbrev pub agrees : Option Earliest → Signature → Bool
agrees None sig = false
agrees (Some first) sig = same_signature first.sig sig

-- the lines of a member's requests, from a place on, that differ from the earliest at their places
abbrev pub differing_from : (ℕ → Option Earliest) → ℕ → List Request → List ℕ
differing_from firsts place [] = []
differing_from firsts place (p ∷ list) =
    if agrees (firsts place) p.sig then differing_from firsts (place + 1) list
    else p.line ∷ differing_from firsts (place + 1) list

-- those of all members of a communicator
abbrev pub differing : List (List Request) → List ℕ
differing lists = flat_map (differing_from (λ place. earliest None place lists) 0) lists

-- the least of a number, if there is one, and of another
abbrev pub lower : Option ℕ → ℕ → Option ℕ
lower None line = Some line
lower (Some least) line = Some (if nat_lt line least then line else least)

-- the least of a number, if there is one, and of all these
abbrev pub least : Option ℕ → List ℕ → Option ℕ
least first [] = first
least first (line ∷ lines) = least (lower first line) lines

-- the first line whose signature or mode differs from that of the earliest line at its communicator and place
abbrev pub mismatch : List (List (List Request)) → Option ℕ
mismatch all = least None (flat_map differing all)

-- the posting list of the first member
abbrev pub first_list : List (List Request) → List Request
first_list lists = unwrap_or (slice_get lists 0) []

-- each member of a communicator has as many requests there as the first, so none lacks a place that another has
abbrev pub have_places : List (List Request) → Bool
have_places lists = list_all (λ list. length list == length (first_list lists)) lists

-- the requests of two lists have been started equally often, place by place
abbrev pub started_alike : List Request → List Request → Bool
started_alike [] list = true
started_alike (p ∷ first) [] = true
started_alike (p ∷ first) (q ∷ list) = length q.starts == length p.starts && started_alike first list

-- each member has started its requests as often as the first member
abbrev pub have_starts : List (List Request) → Bool
have_starts lists = list_all (started_alike (first_list lists)) lists
