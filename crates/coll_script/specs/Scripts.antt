-- What holds of every job that was read.
use Rattle.std.specs.Prelude.{◌≡◌, ℕ, ◌<◌, ◌≤◌, List, length, Some, slice_get, IfSome}
use Rattle.std.specs.List.{AllByRecursion}
use Rattle.coll_parser.specs.Requests.{Request}
use Rattle.coll_kinds.specs.Groups.{member_of, IsGroup}
use Rattle.coll_script.specs.Postings.{requests_of, postings_from}
use Rattle.coll_script.specs.Outcomes.{AreMatched}
use Rattle.coll_script.specs.Jobs.{Job}

-- a request of a rank on one of the communicators
pub record IsOwned (groups : List (List ℕ)) (rank : ℕ) (p : Request) : Type 0 where
  pub known : p.comm < length groups
  pub member : IfSome (slice_get groups p.comm) (λ group. member_of rank group ≡ Some p.member)
  pub few : length p.starts ≤ 4294967295

-- what holds of every job that was read
pub record IsJob (job : Job) : Type 0 where
  pub few_groups : length job.groups ≤ 16
  pub few_ranks : length job.requests ≤ 64
  pub groups : AllByRecursion (IsGroup (length job.requests)) job.groups
  pub few_requests : (rank : ℕ) → length (requests_of job.requests rank) ≤ 4096
  pub owned : (rank : ℕ) → AllByRecursion (IsOwned job.groups rank) (requests_of job.requests rank)
  pub matched : AllByRecursion (λ lists. AreMatched (length lists) lists) (postings_from job.requests 0 job.groups)
