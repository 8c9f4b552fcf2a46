use Rattle.std.proofs.Common.{◌≡◌, ◌<◌, ℕ, Some, true}
use Rattle.std.specs.Prelude.{slice_get}
use Rattle.coll_core.specs.Cores.{seen, setting}
use Rattle.coll_complete.specs.Requests.{is_done}
use Rattle.coll_serial.specs.declared.part.Part.{Part}
use Rattle.coll_serial.specs.Lists.{Fits}
use Rattle.coll_serial.specs.Parts.{ticket_of}
use Rattle.coll_serial.proofs.engine.Engine.check_spans.Given as goal

abbrev pub invariant-loop-part : goal.invariant-loop-part
invariant-loop-part l = (k : ℕ) (p : Part) → k < l.part-index → slice_get l.parts k ≡ Some p
    → is_done (seen l.self) (ticket_of p) ≡ true → Fits (setting l.self) (seen l.self).state p l.len
