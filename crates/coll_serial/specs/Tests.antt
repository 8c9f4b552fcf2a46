-- What a test of one request returns.
use Rattle.std.specs.Prelude.{ℕ, Bool, true, false}
use Rattle.coll_serial.specs.declared.test.Test.{Test}
use Rattle.coll_serial.specs.declared.test.Test.TheVariants.{Completed, Inactive, Pending}
use Rattle.coll_core.specs.declared.outcome.Outcome.{Outcome}
use Rattle.coll_serial.specs.declared.taken.Taken.{Taken}
use Rattle.coll_serial.specs.declared.taken.Taken.TheVariants as taken

abbrev pub is_completed : Test → Bool
is_completed Inactive = false
is_completed Pending = false
is_completed (Completed count) = true

-- MPI's flag is false
abbrev pub is_unfinished : Test → Bool
is_unfinished Inactive = false
is_unfinished Pending = true
is_unfinished (Completed count) = false

-- where the request was completed, that many bytes are as is said
abbrev pub IfCompleted : (ℕ → Type 0) → Test → Type 0
IfCompleted P Inactive = Unit {0}
IfCompleted P Pending = Unit {0}
IfCompleted P (Completed count) = P count

-- the same of a test that hands the outcome out
abbrev pub is_taken : Taken → Bool
is_taken taken.Inactive = false
is_taken taken.Pending = false
is_taken (taken.Completed outcome) = true

abbrev pub is_untaken : Taken → Bool
is_untaken taken.Inactive = false
is_untaken taken.Pending = true
is_untaken (taken.Completed outcome) = false

abbrev pub IfTaken : (Outcome → Type 0) → Taken → Type 0
IfTaken P taken.Inactive = Unit {0}
IfTaken P taken.Pending = Unit {0}
IfTaken P (taken.Completed outcome) = P outcome
