-- A live request as the engine has it: what callers can know of it, its signature, and how far its schedule is done.
use Rattle.std.specs.Prelude.{ℕ, zero, suc, Bool, true, false, List, [], Option, Some, None}
use Rattle.coll_kinds.specs.declared.kind.Mode.{Mode}
use Rattle.coll_kinds.specs.declared.kind.Mode.TheVariants.{Once, Persistent}
use Rattle.coll_kinds.specs.declared.signature.Signature.{Signature}
use Rattle.coll_sched.specs.Worlds.{Progress}
use Rattle.coll_machine.specs.declared.key.Key.{Key}
use Rattle.coll_machine.specs.States.{Request}

pub record Live : Type 0 where
  pub rank : ℕ
  pub comm : ℕ
  pub members : ℕ  -- of the communicator
  pub member : ℕ
  pub place : ℕ
  pub sig : Signature
  pub starts : ℕ
  pub active : Bool
  pub round : ℕ  -- the point of its schedule that it has come to, and its buffer there
  pub index : ℕ
  pub buf : List ℕ

abbrev pub before : ℕ → ℕ
before zero = zero
before (suc n) = n

-- the collective of its start of that number, and of its last start: it works on that one while it is active
abbrev pub at : Live → ℕ → Key
at q start = record { comm = q.comm; place = q.place; start = start }

abbrev pub key : Live → Key
key q = record { comm = q.comm; place = q.place; start = before q.starts }

abbrev pub progress : Live → Progress
progress q = record { round = q.round; index = q.index; buf = q.buf }

-- the request at another point
abbrev pub advanced : Live → Progress → Live
advanced q p = record {
  rank = q.rank;
  comm = q.comm;
  members = q.members;
  member = q.member;
  place = q.place;
  sig = q.sig;
  starts = q.starts;
  active = q.active;
  round = p.round;
  index = p.index;
  buf = p.buf;
}

-- the request started again, at this point
abbrev pub begun : Live → Progress → Live
begun q p = record {
  rank = q.rank;
  comm = q.comm;
  members = q.members;
  member = q.member;
  place = q.place;
  sig = q.sig;
  starts = suc q.starts;
  active = true;
  round = p.round;
  index = p.index;
  buf = p.buf;
}

-- what completion leaves of it, by its mode: its buffer was handed out
abbrev pub at_rest : Live → Live
at_rest q = record {
  rank = q.rank;
  comm = q.comm;
  members = q.members;
  member = q.member;
  place = q.place;
  sig = q.sig;
  starts = q.starts;
  active = false;
  round = 0;
  index = 0;
  buf = [];
}

abbrev pub rests_by : Mode → Live → Option Live
rests_by Once q = None
rests_by Persistent q = Some (at_rest q)

abbrev pub rests : Live → Option Live
rests q = rests_by q.sig.mode q

-- what callers can know of it
abbrev pub as_request : Live → Request
as_request q = record {
  rank = q.rank;
  comm = q.comm;
  member = q.member;
  place = q.place;
  mode = q.sig.mode;
  starts = q.starts;
  active = q.active;
}
