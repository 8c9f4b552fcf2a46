-- The bytes that callers lend to an engine: buffers that it holds from a start to its completion.
use Rattle.std.specs.Prelude.{ℕ, Option, Some, None, option_map, unwrap_or, if◌then◌else◌}
use Rattle.coll_kinds.specs.Lengths.{lent}
use Rattle.coll_machine.specs.Settings.{Setting, size}
use Rattle.coll_machine.specs.States.{Request, State, signature_of}
use Rattle.coll_machine.specs.Traces.{over_slots}

-- what a start of the request lends: the bytes that its member gives, and those that it gets
abbrev pub lent_at : Setting → State → Request → ℕ
lent_at g s q = unwrap_or (option_map (λ sig. lent sig (size g q.comm) q.member) (signature_of s q)) 0

-- an inactive request lends nothing
abbrev pub lent_by : Setting → State → Option Request → ℕ
lent_by g s None = 0
lent_by g s (Some q) = if q.active then lent_at g s q else 0

abbrev pub lent_bytes : Setting → State → ℕ
lent_bytes g s = over_slots (lent_by g s) s.request g.slots
