-- A refusal's number as a code of 32 bits.
use Rattle.std.proofs.Common.{◌≡◌, ◌∙◌, ℤ, pos, ap, refl, w32, to_z, of_z}
use Rattle.coll_kinds.specs.declared.refusal.Refusal.{Refusal}
use Rattle.coll_kinds.specs.declared.refusal.Refusal.TheVariants.{BadComm, NotMember, BadSignature, BadLength, Mismatch, Stale, NotYours, Active}
use Rattle.coll_kinds.specs.declared.refusal.Refusal.TheVariants.{NotPersistent, PlacesUsed, StartsUsed, Full, TraceFull, Stalled, StillActive, Torn}
use Rattle.coll_kinds.specs.declared.refusal.Refusal.TheVariants.{NoMemory, BadConfig}
use Rattle.coll_kinds.specs.Refusals.{number_of}

kept : (why : Refusal) → to_z w32 (of_z w32 (pos (number_of why))) ≡ pos (number_of why)
kept (BadComm comm) = refl
kept (NotMember rank) = refl
kept (BadSignature cause) = refl
kept (BadLength want got) = refl
kept (Mismatch place first kind mode root op ty count) = refl
kept Stale = refl
kept NotYours = refl
kept Active = refl
kept NotPersistent = refl
kept PlacesUsed = refl
kept StartsUsed = refl
kept Full = refl
kept TraceFull = refl
kept Stalled = refl
kept (StillActive rank) = refl
kept Torn = refl
kept NoMemory = refl
kept (BadConfig field) = refl

pub coded : (why : Refusal) (z : ℤ) → z ≡ pos (number_of why) → to_z w32 (of_z w32 z) ≡ pos (number_of why)
coded why z e = ap (λ (x : ℤ). to_z w32 (of_z w32 x)) e ∙ kept why
