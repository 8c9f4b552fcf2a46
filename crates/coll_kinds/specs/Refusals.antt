-- The numbers of the refusals, which the program prints, and what a mismatch says.
use Rattle.std.specs.Prelude.{ℕ}
use Rattle.coll_kinds.specs.declared.signature.Signature.{Signature}
use Rattle.coll_kinds.specs.declared.refusal.Refusal.{Refusal}
use Rattle.coll_kinds.specs.declared.refusal.Refusal.TheVariants.{BadComm, NotMember, BadSignature, BadLength, Mismatch, Stale, NotYours, Active}
use Rattle.coll_kinds.specs.declared.refusal.Refusal.TheVariants.{NotPersistent, PlacesUsed, StartsUsed, Full, TraceFull, Stalled, StillActive, Torn}
use Rattle.coll_kinds.specs.declared.refusal.Refusal.TheVariants.{NoMemory, BadConfig}

abbrev pub number_of : Refusal → ℕ
number_of (BadComm comm) = 1
number_of (NotMember rank) = 2
number_of (BadSignature cause) = 3
number_of (BadLength want got) = 4
number_of (Mismatch place first kind mode root op ty count) = 5
number_of Stale = 6
number_of NotYours = 7
number_of Active = 8
number_of NotPersistent = 9
number_of PlacesUsed = 10
number_of StartsUsed = 11
number_of Full = 12
number_of TraceFull = 13
number_of Stalled = 14
number_of (StillActive rank) = 15
number_of Torn = 16
number_of NoMemory = 17
number_of (BadConfig field) = 18

-- a mismatch with the signature that the lowest member has there, without the counts of an allgatherv
abbrev pub mismatch_at : ℕ → ℕ → Signature → Refusal
mismatch_at place first sig = Mismatch place first sig.kind sig.mode sig.root sig.op sig.ty sig.count
