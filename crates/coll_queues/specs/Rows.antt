-- Rows worked by hand. On communicator 0 ranks 5 and 3 are members 0 and 1; rank 3 has posted a bcast, then a barrier.
use Rattle.std.specs.Prelude.{◌≡◌, [], ◌∷◌, Some, None, refl}
use Rattle.coll_kinds.specs.declared.datatype.Datatype.TheVariants.{I32, Byte}
use Rattle.coll_kinds.specs.declared.operation.Op.TheVariants.{Sum}
use Rattle.coll_kinds.specs.declared.kind.Kind.TheVariants.{Allreduce, Barrier, Bcast}
use Rattle.coll_kinds.specs.declared.kind.Mode.TheVariants.{Once, Persistent}
use Rattle.coll_kinds.specs.declared.signature.Signature.{Signature}
use Rattle.coll_kinds.specs.declared.refusal.Refusal.TheVariants.{BadComm, NotMember, BadSignature, PlacesUsed}
use Rattle.coll_kinds.specs.Refusals.{mismatch_at}
use Rattle.coll_kinds.specs.declared.refusal.SignatureFault.TheVariants.{Root}
use Rattle.coll_queues.specs.Postings.{Postings, place_of, signed}
use Rattle.coll_queues.specs.Refusing.{judge_refusal}

abbrev bcast : Signature
bcast = record { kind = Bcast; mode = Once; root = 0; op = None; ty = I32; count = 1; each = None }

abbrev barrier : Signature
barrier = record { kind = Barrier; mode = Once; root = 0; op = None; ty = Byte; count = 0; each = None }

abbrev sum : Signature
sum = record { kind = Allreduce; mode = Once; root = 0; op = Some Sum; ty = I32; count = 1; each = None }

abbrev two_members : Postings
two_members =
    record {
      comms = record { group = 5 ∷ 3 ∷ []; lists = [] ∷ (bcast ∷ barrier ∷ []) ∷ []; room = 4 } ∷ [];
      places = 2;
    }

next_places : (place_of two_members 0 5 ≡ 0) × (place_of two_members 0 3 ≡ 2)
next_places = (refl, refl)

signatures : (signed two_members 0 1 ≡ Some barrier) × (signed two_members 0 2 ≡ None) × (signed two_members 1 0 ≡ None)
signatures = (refl, refl, refl)

-- rank 5's first call is the bcast that rank 3 called first; another one names rank 3, which has that place
late_member : judge_refusal two_members 0 5 bcast ≡ None
late_member = refl

mismatch_names_the_first : judge_refusal two_members 0 5 sum ≡ Some (mismatch_at 0 3 bcast)
mismatch_names_the_first = refl

mode_counts :
    judge_refusal two_members 0 5 (record { kind = Bcast; mode = Persistent; root = 0; op = None; ty = I32; count = 1; each = None })
    ≡ Some (mismatch_at 0 3 bcast)
mode_counts = refl

full_list : judge_refusal two_members 0 3 bcast ≡ Some PlacesUsed
full_list = refl

others : (judge_refusal two_members 1 5 bcast ≡ Some (BadComm 1))
    × (judge_refusal two_members 0 4 bcast ≡ Some (NotMember 4))
others = (refl, refl)

root_first :
    judge_refusal two_members 0 5 (record { kind = Bcast; mode = Once; root = 2; op = None; ty = I32; count = 1; each = None })
    ≡ Some (BadSignature Root)
root_first = refl
