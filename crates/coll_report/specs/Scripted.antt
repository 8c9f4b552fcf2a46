-- What the report of a closed engine says of outcomes, where each rank did what a script says.
use Rattle.std.specs.Prelude.{◌≡◌, ◌↔◌, ◌<◌, ◌≤◌, ℕ, List, [], count_by}
use Rattle.std.specs.List.{AllByRecursion}
use Rattle.coll_machine.specs.declared.key.Key.{Key}
use Rattle.coll_machine.specs.Reports.{posts_of}
use Rattle.coll_report.specs.Scripts.{Command, Asked, asked, outcome, Says, IsAsked}
use Rattle.coll_report.specs.Told.{HasValue, retires}
use Rattle.coll_report.specs.Attested.{IsAttested}
use Rattle.coll_report.specs.Reports.{Closed, IsClosed}

-- each rank posted, initialised and started what its commands say, in their order, and no one else has commands
pub record Follows (r : Closed) (script : ℕ → List Command) : Type 0 where
  pub says : (rank : ℕ) → rank < r.setting.ranks → Says [] (script rank) (posts_of rank r.entries)
  pub others : (rank : ℕ) → r.setting.ranks ≤ rank → script rank ≡ []

-- an outcome that the script asks for, with the value that the commands of all ranks fix
abbrev pub IsScripted : Closed → (ℕ → List Asked) → ℕ → Key → List ℕ → Type 0
IsScripted r requests rank k bytes =
    IsAsked (requests rank) k.comm k.place k.start × (bytes ≡ outcome r.setting requests rank k)

pub record Tells (r : Closed) (requests : ℕ → List Asked) : Type 0 where
  -- exactly those outcomes were handed out,
  pub attested : (rank : ℕ) (k : Key) (bytes : List ℕ)
      → IsAttested r.entries rank k bytes ↔ IsScripted r requests rank k bytes
  -- each of them once,
  pub once : (rank : ℕ) (k : Key) → IsAsked (requests rank) k.comm k.place k.start
      → count_by (retires rank k.comm k.place k.start) r.entries ≡ 1
  -- and each completion among the entries has that value
  pub values : AllByRecursion (HasValue r.setting requests) r.entries

-- whatever order the ranks acted in
abbrev pub AttestedTells : Type 0
AttestedTells = (r : Closed) (script : ℕ → List Command) → IsClosed r → Follows r script
    → Tells r (λ rank. asked (script rank))
