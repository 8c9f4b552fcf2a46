-- A request's record as the engine's tables show it, and what its own steps change.
use Rattle.std.specs.Prelude.{◌≡◌, ◌≢◌, ℕ, List, true, Option, Some, None}
use Rattle.coll_kinds.specs.declared.datatype.Datatype.{Datatype}
use Rattle.coll_kinds.specs.declared.operation.Op.{Op}
use Rattle.coll_arena.specs.declared.list_name.ListName.{ListName}
use Rattle.coll_arena.specs.declared.list_name.ListName.TheVariants.{Free, Worn, Ready, Running, Idle, Queue, Done}
use Rattle.coll_sched.specs.declared.action.Action.TheVariants.{Combine, Recv}
use Rattle.coll_sched.specs.declared.action.Action.{Action}
use Rattle.coll_sched.specs.declared.region.Region.{Region}
use Rattle.coll_sched.specs.Points.{Over, IsPoint}
use Rattle.coll_sched.specs.Schedules.{Parts as Schedule}
use Rattle.coll_sched.specs.Common.{filled, lock_step, read_of}
use Rattle.coll_plans.specs.Joins.{AreRows}
use Rattle.coll_plans.specs.Plans.{family}
use Rattle.coll_refinement.specs.Requests.{Live, advanced}
use Rattle.coll_refinement.specs.Sound.{next}
use Rattle.coll_refinement.specs.Tables.{Mail}
use Rattle.coll_core.specs.declared.request.Request.{Request}

-- the record as an active request; where it lies on its communicator's Idle list it isn't active
abbrev pub shown : Request → Live
shown r = record {
  rank = r.rank;
  comm = r.comm;
  members = r.plan.n;
  member = r.plan.member;
  place = r.place;
  sig = r.plan.sig;
  starts = r.starts;
  active = true;
  round = r.round;
  index = r.index;
  buf = r.buffer;
}

abbrev pub schedule : Live → Schedule
schedule q = family q.sig q.members q.member

-- its next action
abbrev pub next_of : Live → Option Action
next_of q = next q.members q

-- b is a past the actions before that index of its round, and past ends of rounds
pub record PassesEnds (a b : Live) (index : ℕ) : Type 0 where
  pub is : b ≡ advanced a (record { round = b.round; index = b.index; buf = a.buf })
  pub over : Over (schedule a) a.round index b.round b.index
  pub point : IsPoint (schedule a) b.round b.index

-- it waits for a message that has come
pub record CanReceive (mail : Mail) (q : Live) : Type 0 where
  pub of : ℕ
  pub into : Region
  pub next_is : next_of q ≡ Some (Recv of into)
  pub came : mail of q.member q.round ≢ None

-- what its Combine reads is of lock-step over what was given, and each row has its length
pub record ReadsRows (gave : ℕ → Option (List ℕ)) (q : Live) : Type 0 where
  pub rows : AreRows q.sig q.members (filled (family q.sig q.members) gave)
  pub reads : (op : Op) (ty : Datatype) (left right into : Region) → next_of q ≡ Some (Combine op ty left right into)
      → (read_of q.buf left ≡ read_of (lock_step (family q.sig q.members) (filled (family q.sig q.members) gave) q.round q.member) left)
      × (read_of q.buf right ≡ read_of (lock_step (family q.sig q.members) (filled (family q.sig q.members) gave) q.round q.member) right)

-- one of the lists of an active request
abbrev pub IsListOf : ℕ → ListName → Type 0
IsListOf comm Free = ⊥
IsListOf comm Worn = ⊥
IsListOf comm Ready = Unit {0}
IsListOf comm Running = ⊥
IsListOf comm (Idle c) = ⊥
IsListOf comm (Queue c) = c ≡ comm
IsListOf comm (Done c) = c ≡ comm
