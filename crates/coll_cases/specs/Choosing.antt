-- The tests by which it is found what a call may complete.
use Rattle.std.specs.Prelude.{ℕ, nat_lt, Bool, true, false, not, ◌&&◌, List, Option, Some, None, slice_get}
use Rattle.std.specs.List.{list_any}
use Rattle.coll_verdict.specs.declared.known.KnownRequest.{KnownRequest}

-- the request may be active; so may one of which nothing is known
abbrev pub may_be_active_in : Option KnownRequest → Bool
may_be_active_in None = true
may_be_active_in (Some x) = nat_lt 0 x.starts && not x.is_rested

abbrev pub may_be_active : List KnownRequest → ℕ → Bool
may_be_active known q = may_be_active_in (slice_get known q)

-- it is active
abbrev pub is_sure_in : Option KnownRequest → Bool
is_sure_in None = false
is_sure_in (Some x) = nat_lt 0 x.starts && not x.is_named

abbrev pub is_sure : List KnownRequest → ℕ → Bool
is_sure known q = is_sure_in (slice_get known q)

-- one of these is
abbrev pub one_is_sure : List KnownRequest → List ℕ → Bool
one_is_sure known qs = list_any (is_sure known) qs
