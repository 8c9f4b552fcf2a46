-- What stands in a place of posting lists, as C reads it.
use Rattle.std.specs.Prelude.{◌≡◌, ℤ, pos, replicate, unwrap_or, Option, Some, None}
use Rattle.coll_kinds.specs.declared.signature.Signature.{Signature}
use Rattle.worzsunab.specs.declared.posted.Posted.{Posted}
use Rattle.worzsunab.specs.Calls.{call_of}
use Rattle.worzsunab.specs.Reasons.{is_persistent}

-- the counts of a collective that has none are 0
abbrev pub posted_of : Signature → Posted
posted_of sig = record {
  call = call_of sig.kind sig.op sig.ty sig.root sig.count;
  persistent = is_persistent sig.mode;
  counts = unwrap_or sig.each (replicate 64 0);
}

-- it is returned, or that there is none
abbrev pub Tells : Option Signature → Posted → Posted → ℤ → Type 0
Tells None was is code = (is ≡ was) × (code ≡ pos 25)
Tells (Some sig) was is code = (is ≡ posted_of sig) × (code ≡ pos 0)
