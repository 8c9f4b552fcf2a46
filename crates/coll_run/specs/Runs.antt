-- When the report of a closed engine is that of a job's run.
use Rattle.std.specs.Prelude.{◌≡◌, ◌<◌, ℕ, [], unwrap_or}
use Rattle.coll_parser.specs.Histories.{History, commands_of}
use Rattle.coll_machine.specs.Reports.{posts_of}
use Rattle.coll_report.specs.Scripts.{Says}
use Rattle.coll_report.specs.Reports.{Closed}
use Rattle.coll_run.specs.Commands.{all_traced}

-- each of n ranks posted, initialised and started what its lines say, one for one and in their order
abbrev pub AllFollow : ℕ → History → Closed → Type 0
AllFollow n h r =
    (rank : ℕ)
    → rank < n
    → Says [] (all_traced (commands_of h rank)) (posts_of rank r.entries)

-- the report is that of a run of the job
pub record IsRun (h : History) (r : Closed) : Type 0 where
  pub ranks : r.setting.ranks ≡ unwrap_or h.ranks 0  -- the engine had the job's ranks
  pub groups : r.setting.groups ≡ h.groups  -- and its communicators
  pub posts : AllFollow (unwrap_or h.ranks 0) h r
