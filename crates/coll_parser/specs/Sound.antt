-- What holds of every history that was read: what each line says could be said after the lines before it.
use Rattle.std.specs.Prelude.{◌≡◌, ℕ, ◌<◌, ◌≤◌, List, [], ◌∷◌, ◌++◌, length, Some, None, slice_get, unwrap_or, IfSome}
use Rattle.std.specs.List.{AllByRecursion}
use Rattle.coll_kinds.specs.declared.signature.Signature.{Signature}
use Rattle.coll_kinds.specs.Common.{given_len, broken, member_of, IsGroup}
use Rattle.coll_parser.specs.declared.command.Command.{Command}
use Rattle.coll_parser.specs.declared.command.Command.TheVariants.{Post, Init, Start, Wait, Test, Free}
use Rattle.coll_parser.specs.declared.command.Command.TheVariants.{WaitAny, WaitSome, WaitAll}
use Rattle.coll_parser.specs.declared.issued_command.IssuedCommand.{IssuedCommand}
use Rattle.coll_parser.specs.Histories.{History, Posting, postings, issued_by, total}
use Rattle.coll_parser.specs.Lines.{due}
use Rattle.coll_parser.specs.Requests.{Request, requests_of}

-- a rank may post so: it is a member of the communicator, and the signature passes its check
pub record IsPosting (groups : List (List ℕ)) (rank comm : ℕ) (sig : Signature) : Type 0 where
  pub group : List ℕ
  pub known : slice_get groups comm ≡ Some group
  pub member : ℕ
  pub is_member : member_of rank group ≡ Some member
  pub checked : broken sig (length group) ≡ None

-- a start gives what is due to the request that it names
pub record IsStart (groups : List (List ℕ)) (rank : ℕ) (commands : List Command) (q : ℕ) (given : List ℕ) : Type 0 where
  pub p : Posting
  pub known : slice_get (postings commands) q ≡ Some p
  pub fits : length given ≡ due groups rank p.comm p.sig

-- a rank may issue this command after these
abbrev pub MayIssue : List (List ℕ) → ℕ → List Command → Command → Type 0
MayIssue groups rank commands (Post comm sig given) =
    IsPosting groups rank comm sig
    × (length given ≡ due groups rank comm sig)
MayIssue groups rank commands (Init comm sig) = IsPosting groups rank comm sig
MayIssue groups rank commands (Start q given) = IsStart groups rank commands q given
MayIssue groups rank commands (Wait q) = q < length (postings commands)
MayIssue groups rank commands (Test q) = Unit {0}
MayIssue groups rank commands (Free q) = q < length (postings commands)
MayIssue groups rank commands (WaitAny qs) = Unit {0}
MayIssue groups rank commands (WaitSome qs) = Unit {0}
MayIssue groups rank commands (WaitAll qs) = AllByRecursion (λ q. q < length (postings commands)) qs

-- each command is of one of n ranks, which may issue it after those before it
abbrev pub AreAllowed : ℕ → List (List ℕ) → List IssuedCommand → List IssuedCommand → Type 0
AreAllowed n groups before [] = Unit {0}
AreAllowed n groups before (t ∷ issued) =
    ((t.rank < n) × MayIssue groups t.rank (issued_by t.rank before) t.command)
    × AreAllowed n groups (before ++ t ∷ []) issued

-- a history before the line of that number
pub record IsHistory (next : ℕ) (h : History) : Type 0 where
  pub few_ranks : unwrap_or h.ranks 0 ≤ 64
  pub few_groups : length h.groups ≤ 16
  pub groups : AllByRecursion (IsGroup (unwrap_or h.ranks 0)) h.groups
  pub begun : h.ranks ≡ None → h.opened ≡ None
  pub opened : IfSome h.opened (λ rank. rank < unwrap_or h.ranks 0)
  pub early : h.opened ≡ None → h.commands ≡ []
  pub allowed : AreAllowed (unwrap_or h.ranks 0) h.groups [] h.commands
  pub few_commands : length h.commands < next
  pub few : total h.commands ≤ 4096

-- a request of a rank: the signature passes its check, and each start gives as many bytes as it wants
pub record IsRequest (issued : ℕ) (groups : List (List ℕ)) (rank : ℕ) (p : Request) : Type 0 where
  pub group : List ℕ
  pub known : slice_get groups p.comm ≡ Some group
  pub member : member_of rank group ≡ Some p.member
  pub checked : broken p.sig (length group) ≡ None
  pub given : AllByRecursion (λ given. length given ≡ given_len p.sig (length group) p.member) p.starts
  pub few : length p.starts ≤ issued

-- what holds of a history that was read, and of its requests
pub record IsSound (h : History) : Type 0 where
  pub few_ranks : unwrap_or h.ranks 0 ≤ 64
  pub few_groups : length h.groups ≤ 16
  pub groups : AllByRecursion (IsGroup (unwrap_or h.ranks 0)) h.groups
  pub few_requests : (rank : ℕ) → length (requests_of h.groups rank h.commands) ≤ 4096
  pub requests : (rank : ℕ) → AllByRecursion (IsRequest 1048577 h.groups rank) (requests_of h.groups rank h.commands)
