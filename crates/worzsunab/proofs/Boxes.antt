-- A box of an engine, of a combination, of bytes, and the slots of what it is taken apart into.
use mir.Syntax.{impl, tnil, dnil}
use mathlib.Core.List.{[]}
use Rattle.std.proofs.Common.{◌≡◌, Option, Some, None, true, is_some, refl}
use Rattle.std.proofs.lemmas.Bool.{false≢true}
use denote.Signature.{Slot, plain}
use denote.RawPtr.{RawPtr}
use Rattle.std_alloc.proofs.BoxSteps.Form.{Bx}
use Rattle.std_heap.specs.contracts.Global as heap
use Rattle.std_heap.specs.contracts.GlobalAllocator.TheImpl.{ghosts, dict}
use Rattle.std_heap.proofs.Global.TheLaws as heap_laws
use Rattle.coll_core.specs.contracts.contribution.Contribution as contribution
use Rattle.coll_core.proofs.contribution.Contribution.TheLaws as contribution_laws
use Rattle.coll_serial.specs.contracts.combination.Combination as combination
use Rattle.coll_serial.specs.contracts.engine.Engine as engine
use Rattle.coll_serial.proofs.combination.Combination.TheLaws as combination_laws
use Rattle.coll_serial.proofs.engine.Engine.TheLaws as engine_laws
use Rattle.worzsunab.specs.contracts.parts.Parts as parts
use Rattle.worzsunab.specs.contracts.held.Held as held
use Rattle.worzsunab.specs.contracts.held_bytes.HeldBytes as held_bytes
use Rattle.worzsunab.specs.contracts.held_work.HeldWork as held_work

abbrev pub Boxed : Bx
Boxed = record {
  row = engine.the_row;
  laws = engine_laws.the_row_laws;
  al =
      record { row = heap.the_row; laws = heap_laws.the_row_laws; g = ghosts; d = dict; drops = impl [] tnil dnil };
}

abbrev pub BoxedWork : Bx
BoxedWork = record { row = combination.the_row; laws = combination_laws.the_row_laws; al = Boxed.al }

abbrev pub BoxedBytes : Bx
BoxedBytes = record { row = contribution.the_row; laws = contribution_laws.the_row_laws; al = Boxed.al }

abbrev pub OfParts : Slot 0
OfParts = plain (λ _. parts.the_row engine.the_row heap.the_row ghosts)

abbrev pub OfWorkParts : Slot 0
OfWorkParts = plain (λ _. parts.the_row combination.the_row heap.the_row ghosts)

abbrev pub OfBytesParts : Slot 0
OfBytesParts = plain (λ _. parts.the_row contribution.the_row heap.the_row ghosts)

abbrev pub OfHeld : Slot 0
OfHeld = plain (λ _. held.the_row)

abbrev pub OfHeldWork : Slot 0
OfHeldWork = plain (λ _. held_work.the_row)

abbrev pub OfHeldBytes : Slot 0
OfHeldBytes = plain (λ _. held_bytes.the_row)

pub some_of : {X : Type 0} (o : Option X) → is_some o ≡ true → (x : X) × (o ≡ Some x)
some_of None live = absurd (false≢true live)
some_of (Some x) live = (x, refl)

abbrev pub OfAlloc : Slot 0
OfAlloc = plain (λ _. heap.the_row)

abbrev pub OfPointer : Slot 0
OfPointer = plain (λ _. RawPtr)
