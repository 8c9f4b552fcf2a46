-- What completion calls return, without naming what lay under the lock: at a moment of an engine with that setting, which accepted the
-- requests and had at least the entries that the port had made, they are the tests of `coll_complete`, and the receipts are the
-- entries of what they completed.
use Rattle.std.specs.Prelude.{◌≡◌, Bool, true, false, not, ℕ, List, [], length, map, position}
use Rattle.std.specs.Prelude.{Option, Some, None, is_some, IfSome}
use Rattle.std.specs.List.{list_any}
use Rattle.coll_kinds.specs.declared.refusal.Refusal.{Refusal}
use Rattle.coll_kinds.specs.declared.ticket.Ticket.{Ticket}
use Rattle.coll_machine.specs.Common.{Entry, Runs, Setting, Machine}
use Rattle.coll_core.specs.declared.outcome.Outcome.{Outcome}
use Rattle.coll_complete.specs.declared.any.Any.{Any}
use Rattle.coll_complete.specs.declared.any.Any.TheVariants.{Undefined, At}
use Rattle.coll_complete.specs.Anys.{completion_any, is_undefined, left_at, position_of}
use Rattle.coll_complete.specs.Completing.{CompletesDone, Pushes, completion_if, completions, done_positions}
use Rattle.coll_complete.specs.Requests.{free_refusal, is_active, is_done, is_pending, left_of, list_refusal, refusal_at}
use Rattle.coll_traced.specs.Endings.{endings}
use Rattle.coll_traced.specs.Moments.{IsMoment}

-- the test of one request, which is `new` then
pub record TestsOne (g : Setting) (made rank : ℕ) (old new : Option Ticket) (flag : Bool) (outcome : Option Outcome)
    (entries : List Entry) : Type 0 where
  pub before : List Entry
  pub engine : Machine
  pub moment : IsMoment g made before engine.state
  pub after : Machine
  pub accepted : refusal_at g engine.state rank old ≡ None
  pub flag_is : flag ≡ not (is_pending engine old)
  pub outcome_is : is_some outcome ≡ is_done engine old
  pub runs : Runs g engine (completion_if rank old outcome) after
  pub request : new ≡ left_of engine old
  pub entries_are : entries ≡ endings (completion_if rank old outcome)

-- the test of a list for one request
pub record TestsAny (g : Setting) (made rank : ℕ) (old new : List (Option Ticket)) (any : Any) (entries : List Entry) : Type 0 where
  pub before : List Entry
  pub engine : Machine
  pub moment : IsMoment g made before engine.state
  pub after : Machine
  pub accepted : list_refusal g engine.state rank old ≡ None
  pub undefined : is_undefined any ≡ not (list_any (is_active engine) old)
  pub lowest : position_of any ≡ position (is_done engine) old
  pub runs : Runs g engine (completion_any rank old any) after
  pub requests : new ≡ left_at engine (position_of any) old
  pub entries_are : entries ≡ endings (completion_any rank old any)

-- what a wait for one request of a list answers: none where no request is active
abbrev pub any_of : Option (ℕ × Outcome) → Any
any_of None = Undefined
any_of (Some found) = At found.0 found.1

-- all requests of a list that are Done were completed, with these outcomes
pub record CompletesAll (g : Setting) (rank : ℕ) (old new : List (Option Ticket)) (engine : Machine) (entries : List Entry)
    (outs : List (ℕ × Outcome)) : Type 0 where
  pub after : Machine
  pub completes : CompletesDone g rank old engine after outs
  pub requests : new ≡ map (left_of engine) old
  pub entries_are : entries ≡ endings (completions rank old outs)

-- the test of a list for all requests; `was` and `is` are the outcomes before it and after it
pub record TestsAll (g : Setting) (made rank : ℕ) (old new : List (Option Ticket)) (was is : List (ℕ × Outcome)) (flag : Bool)
    (entries : List Entry) : Type 0 where
  pub before : List Entry
  pub engine : Machine
  pub moment : IsMoment g made before engine.state
  pub accepted : list_refusal g engine.state rank old ≡ None
  pub flag_is : flag ≡ not (list_any (is_pending engine) old)
  pub unfinished : flag ≡ false → (new ≡ old) × (is ≡ was) × (entries ≡ [])
  pub completes : flag ≡ true → Pushes was is (CompletesAll g rank old new engine entries)

-- the test of a list for some requests
pub record TestsSome (g : Setting) (made rank : ℕ) (old new : List (Option Ticket)) (was is : List (ℕ × Outcome)) (count : Option ℕ)
    (entries : List Entry) : Type 0 where
  pub before : List Entry
  pub engine : Machine
  pub moment : IsMoment g made before engine.state
  pub accepted : list_refusal g engine.state rank old ≡ None
  pub undefined : is_some count ≡ list_any (is_active engine) old
  pub count_is : IfSome count (λ n. n ≡ length (done_positions engine old))
  pub inactive : is_some count ≡ false → (new ≡ old) × (is ≡ was) × (entries ≡ [])
  pub completes : is_some count ≡ true → Pushes was is (CompletesAll g rank old new engine entries)

-- what the test of a request, or of a list, is refused with, if it is
pub record RefusesOne (g : Setting) (made rank : ℕ) (request : Option Ticket) (why : Option Refusal) : Type 0 where
  pub before : List Entry
  pub engine : Machine
  pub moment : IsMoment g made before engine.state
  pub why_is : why ≡ refusal_at g engine.state rank request

pub record RefusesList (g : Setting) (made rank : ℕ) (list : List (Option Ticket)) (why : Option Refusal) : Type 0 where
  pub before : List Entry
  pub engine : Machine
  pub moment : IsMoment g made before engine.state
  pub why_is : why ≡ list_refusal g engine.state rank list

-- what a free is refused with, if it is
pub record RefusesFree (g : Setting) (made rank : ℕ) (request : Option Ticket) (why : Option Refusal) : Type 0 where
  pub before : List Entry
  pub engine : Machine
  pub moment : IsMoment g made before engine.state
  pub why_is : why ≡ free_refusal g engine.state rank request
