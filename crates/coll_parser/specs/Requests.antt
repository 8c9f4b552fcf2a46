-- The requests of a rank: a post and an init make one each, numbered from 0, and a start gives to one of them.
use Rattle.std.specs.Prelude.{ℕ, zero, suc, ◌==◌, List, [], ◌∷◌, ◌++◌, map, fold, filter, count_by, unwrap_or}
use Rattle.std.specs.List.{range_with_len}
use Rattle.coll_kinds.specs.declared.signature.Signature.{Signature}
use Rattle.coll_kinds.specs.Groups.{member_of}
use Rattle.coll_parser.specs.declared.command.Command.{Command}
use Rattle.coll_parser.specs.declared.command.Command.TheVariants.{Post, Init, Start}
use Rattle.coll_parser.specs.declared.issued_command.IssuedCommand.{IssuedCommand}
use Rattle.coll_parser.specs.Histories.{History, group_of}

-- what a post or an initialisation makes
pub record Request : Type 0 where
  pub line : ℕ  -- the line that makes it
  pub comm : ℕ  -- its communicator
  pub place : ℕ  -- how many requests the rank made there before
  pub member : ℕ  -- its rank's number there
  pub sig : Signature  -- its signature, mode included
  pub starts : List (List ℕ)  -- the rank's contribution at each start; a post is one
  pub lines : List ℕ  -- the line of each start

-- the place of a rank's next request on a communicator, after these
abbrev pub place_on : ℕ → List Request → ℕ
place_on comm requests = count_by (λ p. p.comm == comm) requests

-- the request that a rank's line makes at a place of a communicator, before its first start
abbrev pub request : List (List ℕ) → ℕ → ℕ → ℕ → ℕ → Signature → Request
request groups line rank comm place sig = record {
  line = line;
  comm = comm;
  place = place;
  member = unwrap_or (member_of rank (group_of groups comm)) 0;
  sig = sig;
  starts = [];
  lines = [];
}

-- the list with one place changed
abbrev pub changed_at : {A : Type 0} → ℕ → (A → A) → List A → List A
changed_at k f [] = []
changed_at zero f (x ∷ xs) = f x ∷ xs
changed_at (suc k) f (x ∷ xs) = x ∷ changed_at k f xs

-- the request with one more start, in that line, which gives these bytes
abbrev pub started : ℕ → List ℕ → Request → Request
started line given p = record p { starts = p.starts ++ given ∷ []; lines = p.lines ++ line ∷ [] }

-- the requests of a rank after a command of it, in that line
abbrev pub requests_after : List (List ℕ) → ℕ → ℕ → Command → List Request → List Request
requests_after groups line rank (Post comm sig given) requests =
    requests ++ started line given (request groups line rank comm (place_on comm requests) sig) ∷ []
requests_after groups line rank (Init comm sig) requests =
    requests ++ request groups line rank comm (place_on comm requests) sig ∷ []
requests_after groups line rank (Start q given) requests =
    changed_at q (started line given) requests
requests_after groups line rank command requests = requests

-- the requests of one rank after all its commands
abbrev pub requests_of : List (List ℕ) → ℕ → List IssuedCommand → List Request
requests_of groups rank issued =
    fold (λ requests t. requests_after groups t.line t.rank t.command requests) [] (filter (λ t. t.rank == rank) issued)

-- the requests of each rank
abbrev pub requests : History → List (List Request)
requests h = map (λ rank. requests_of h.groups rank h.commands) (range_with_len 0 (unwrap_or h.ranks 0))
