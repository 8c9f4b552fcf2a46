use Rattle.std.proofs.Common.{◌≡◌, ◌<◌, ℕ, Some}
use Rattle.std.specs.Prelude.{slice_get}
use Rattle.coll_serial.specs.Parts.{tickets_of}
use Rattle.coll_serial.proofs.distinct.stands_in.Given as goal

abbrev pub invariant-loop-part : goal.invariant-loop-part
invariant-loop-part l = (k : ℕ) → k < l.part-index → slice_get (tickets_of l.parts) k ≡ Some (Some l.ticket) → ⊥
