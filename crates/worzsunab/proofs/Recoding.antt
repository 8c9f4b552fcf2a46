-- An answer that is handed on as it is.
use Rattle.std.proofs.Common.{ℤ, Option, ap, w32, to_z, of_z}
use Rattle.coll_kinds.specs.declared.refusal.Refusal.{Refusal}
use Rattle.coll_core.specs.Cores.{Parts}
use Rattle.worzsunab.specs.declared.reason.Reason.{Reason}
use Rattle.worzsunab.specs.Answers.{Answers, closed, done, refused}
use Rattle.worzsunab.proofs.Coding.{coded}

pub recoded : {old new : Option Parts} {had noted : Reason} {code : ℤ} {Kept : Type 0} {Why : Parts → Refusal → Type 0} {Done : Parts → Parts → Type 0}
    → Answers old new had noted code Kept Why Done
    → Answers old new had noted (to_z w32 (of_z w32 code)) Kept Why Done
recoded (closed was is reason same e) = closed was is reason same (ap (λ (z : ℤ). to_z w32 (of_z w32 z)) e)
recoded {code = code} (refused p r why was is same reason left denies e) = refused p r why was is same reason left denies (coded why code e)
recoded (done p r was is set reason does e) = done p r was is set reason does (ap (λ (z : ℤ). to_z w32 (of_z w32 z)) e)
