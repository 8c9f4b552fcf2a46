use Rattle.std.proofs.Common.{◌≡◌, ◌<◌, Some, ℕ, slice_index}
use Rattle.coll_kinds.specs.Groups.{member_of}
use Rattle.coll_core.proofs.config.is_group.Given as goal

abbrev pub invariant-loop-member : goal.invariant-loop-member
invariant-loop-member l =
    (m : ℕ) → m < l.member
    → (slice_index l.group m < l.ranks) × (member_of (slice_index l.group m) l.group ≡ Some m)
