-- How the threads of an engine ended.
use Rattle.std.specs.Prelude.{Bool, List, Option}
use Rattle.coll_kinds.specs.declared.refusal.Refusal.{Refusal}

pub record HowEnded (T : Type 0) : Type 0 where
  pub all_started : Bool  -- each of them could be started
  pub ranks : List T  -- the ends of the ranks' threads, in rising rank
  pub workers : List (Option Refusal)  -- why a progress thread ended before it was to
