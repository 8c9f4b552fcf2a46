-- Refusals with their data, as C reads them.
use Rattle.std.specs.Prelude.{ℕ, pos, Bool, true, false}
use Rattle.coll_kinds.specs.declared.kind.Mode.{Mode}
use Rattle.coll_kinds.specs.declared.kind.Mode.TheVariants.{Once, Persistent}
use Rattle.coll_kinds.specs.declared.refusal.ConfigField.{ConfigField}
use Rattle.coll_kinds.specs.declared.refusal.ConfigField.TheVariants.{Groups, Places, Ranks, Slots, Starts, Trace, Wear}
use Rattle.coll_kinds.specs.declared.refusal.Refusal.{Refusal}
use Rattle.coll_kinds.specs.declared.refusal.Refusal.TheVariants.{BadComm, NotMember, BadSignature, BadLength, Mismatch, StillActive, BadConfig}
use Rattle.coll_kinds.specs.declared.refusal.SignatureFault.{SignatureFault}
use Rattle.coll_kinds.specs.declared.refusal.SignatureFault.TheVariants.{Count, Group, Mode as OfMode, Operation, Root, Size}
use Rattle.coll_kinds.specs.Refusals.{number_of}
use Rattle.worzsunab.specs.declared.reason.Reason.{Reason}
use Rattle.worzsunab.specs.Calls.{call_of}

abbrev pub cause_number : SignatureFault → ℕ
cause_number Root = 1
cause_number Operation = 2
cause_number Count = 3
cause_number Size = 4
cause_number OfMode = 5
cause_number Group = 6

abbrev pub field_number : ConfigField → ℕ
field_number Ranks = 1
field_number Groups = 2
field_number Slots = 3
field_number Places = 4
field_number Wear = 5
field_number Starts = 6
field_number Trace = 7

abbrev pub is_persistent : Mode → Bool
is_persistent Once = false
is_persistent Persistent = true

-- that of no refusal: all is 0
abbrev pub no_reason : Reason
no_reason = record {
  code = pos 0;
  rank = 0;
  cause = 0;
  first = 0;
  persistent = false;
  call = record { kind = 0; op = 0; ty = 0; root = 0; count = 0 };
  comm = 0;
  place = 0;
  want = 0;
  got = 0;
}

-- what is known of a refusal beside its number
abbrev pub data_of : Refusal → Reason
data_of (BadComm comm) = record no_reason { comm = comm }
data_of (NotMember rank) = record no_reason { rank = rank }
data_of (BadSignature cause) = record no_reason { cause = cause_number cause }
data_of (BadLength want got) = record no_reason { want = want; got = got }
data_of (Mismatch place first kind mode root op ty count) =
    record no_reason { place = place; first = first; persistent = is_persistent mode; call = call_of kind op ty root count }
data_of (StillActive rank) = record no_reason { rank = rank }
data_of (BadConfig field) = record no_reason { cause = field_number field }
data_of why = no_reason

abbrev pub reason_of : Refusal → Reason
reason_of why = record (data_of why) { code = pos (number_of why) }
