-- Worked rows of which fault is reported.
use Rattle.std.specs.Prelude.{◌≡◌, true, false, [], ◌∷◌, Some, None, refl}
use Rattle.coll_kinds.specs.declared.refusal.Refusal.TheVariants.{Stale, Stalled, NoMemory}
use Rattle.coll_script.specs.declared.fault.JobFault.TheVariants as fault
use Rattle.coll_run.specs.Faults.{fault_of}

-- each thread ended well
pub none_is_told : fault_of true (None ∷ None ∷ []) (None ∷ []) ≡ None
none_is_told = refl

-- a thread couldn't be started
pub missing_thread_is_told : fault_of false (Some NoMemory ∷ []) [] ≡ Some fault.NoThread
missing_thread_is_told = refl

-- rank 0 stalls, since ranks 1 and 2 were refused
pub lowest_other_rank_is_told :
    fault_of true (Some Stalled ∷ Some NoMemory ∷ Some Stale ∷ []) (Some Stale ∷ []) ≡ Some fault.Memory
lowest_other_rank_is_told = refl

-- a progress thread's refusal stands before a stall
pub worker_is_told :
    fault_of true (Some Stalled ∷ Some Stalled ∷ []) (None ∷ Some Stale ∷ []) ≡ Some (fault.Refused Stale)
worker_is_told = refl

pub stall_is_told : fault_of true (None ∷ Some Stalled ∷ []) (None ∷ []) ≡ Some fault.Stalled
stall_is_told = refl
