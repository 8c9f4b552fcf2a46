-- How a task ends: with an exit status, or with a fault, which has one.
use Rattle.std.specs.Prelude.{◌≡◌, ◌≢◌, ℕ, ◌<◌, ◌≤◌, Bool, true, false, List, Option, Result, Ok, Err, IfErr, IfOk}
use Rattle.std.specs.Io.KnownBytes.{Keeps}
use Rattle.coll_script.specs.Faults.{status_of}
use Rattle.coll_script.specs.Plain.{HasCause}
use Rattle.coll_script.specs.declared.fault.JobFault.{JobFault}
use Rattle.coll_script.specs.declared.fault.JobFault.TheVariants.{Write}
use Rattle.coll_job.specs.Tasks.{IsStatusOf, is_answer, may_write}
use Rattle.coll_job.specs.declared.task.Way.{Way}

-- the exit status
abbrev pub status_in : Result ℕ JobFault → ℕ
status_in (Ok status) = status
status_in (Err fault) = status_of fault

-- what has failed: at status 1 a file that the words name, at a fault the reader or the writer whose fault it is
abbrev pub HasFailed : Result ℕ JobFault → Bool → Bool → Bool → Type 0
HasFailed (Ok status) file reader writer = status ≡ 1 → file ≡ true
HasFailed (Err fault) file reader writer = HasCause fault reader writer

-- standard output holds what it held, but for a status of at most 1 and for a write fault
abbrev pub KeepsUnwritten : Result ℕ JobFault → Option (List ℕ) → Option (List ℕ) → Type 0
KeepsUnwritten (Ok status) old new = 1 < status → Keeps old new
KeepsUnwritten (Err fault) old new = fault ≢ Write → Keeps old new

-- a run or a drawing ends, with a status of at most so many; the flags say what has failed, and then come standard output's bytes before and after
pub record EndsWithin (most : ℕ) (result : Result ℕ JobFault) (file reader writer : Bool) (old new : Option (List ℕ)) : Type 0 where
  pub status : IfOk result (λ status. status ≤ most)
  pub cause : HasFailed result file reader writer
  pub unwritten : KeepsUnwritten result old new

-- a task ends, in the same words; no fault has the status of an answer
pub record EndsTask (way : Way) (result : Result ℕ JobFault) (file reader writer : Bool) (old new : Option (List ℕ)) : Type 0 where
  pub status : IsStatusOf way (status_in result)
  pub unanswered : IfErr result (λ fault. is_answer way (status_of fault) ≡ false)
  pub cause : HasFailed result file reader writer
  pub unwritten : may_write way (status_in result) ≡ false → Keeps old new
