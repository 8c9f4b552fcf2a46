-- The laws that schedules rest on.
use Rattle.std.specs.Prelude.{◌≡◌, ℕ, ◌%◌, ◌<◌, List, length, slice_index, None, IsTrue}
use Rattle.coll_kinds.specs.declared.datatype.Datatype.{Datatype}
use Rattle.coll_kinds.specs.declared.operation.Op.{Op}
use Rattle.coll_kinds.specs.declared.signature.Signature.{Signature}
use Rattle.coll_kinds.specs.Common.{Element, width, IsElement, allowed, broken, needs}
use Rattle.coll_ops.specs.Operations.{applied}
use Rattle.coll_ops.specs.Combinations.{combined}
use Rattle.coll_ops.specs.Values.{value, row_of}

-- every allowed operation is associative on the elements of its type, and its result is one
abbrev pub OperationsAssociate : Type 0
OperationsAssociate = (op : Op) (ty : Datatype) → IsTrue (allowed op ty) →
    (a b c : Element) → IsElement ty a → IsElement ty b → IsElement ty c →
    applied op ty (applied op ty a b) c ≡ applied op ty a (applied op ty b c)

abbrev pub OperationsStay : Type 0
OperationsStay = (op : Op) (ty : Datatype) → IsTrue (allowed op ty) →
    (a b : Element) → IsElement ty a → IsElement ty b → IsElement ty (applied op ty a b)

-- a row of bytes that holds whole elements
pub record IsRow (ty : Datatype) (row : List ℕ) : Type 0 where
  pub whole : length row % width ty ≡ 0
  pub bytes : (i : ℕ) → slice_index row i < 256

-- so is their combination of rows of one length
abbrev pub CombinationsAssociate : Type 0
CombinationsAssociate = (op : Op) (ty : Datatype) → IsTrue (allowed op ty) →
    (a b c : List ℕ) → IsRow ty a → IsRow ty b → IsRow ty c →
    length a ≡ length b → length b ≡ length c →
    combined op ty (combined op ty a b) c ≡ combined op ty a (combined op ty b c)

-- a member's value reads nothing but what the members that it needs gave
abbrev pub ValuesReadNeeds : Type 0
ValuesReadNeeds = (sig : Signature) (n r : ℕ) (given others : List (List ℕ)) → broken sig n ≡ None → r < n →
    length given ≡ n → length others ≡ n →
    ((p : ℕ) → IsTrue (needs sig n r p) → row_of given p ≡ row_of others p) →
    value sig given r ≡ value sig others r
