-- The plans that are kept.
use Rattle.std.specs.Prelude.{ℕ}
use Rattle.coll_kinds.specs.declared.signature.Signature.{Signature}
use Rattle.coll_plans.specs.Plans.{Planned}

-- a member's plan of a collective of so many members
abbrev pub the_plan : Signature → ℕ → ℕ → Planned
the_plan sig n member = record { sig = sig; n = n; member = member }
