-- When a request stands before a piece.
use Rattle.std.proofs.Common.{◌≡◌, ◌∙◌, ℕ, Bool, true, List, Some, None, ap, refl, sym, subst}
use Rattle.std.specs.Bool.{Decides}
use Rattle.std.proofs.lemmas.Option.{same_Some}
use Rattle.coll_kinds.specs.declared.datatype.Datatype.{Datatype}
use Rattle.coll_kinds.specs.declared.operation.Op.{Op}
use Rattle.coll_sched.specs.declared.action.Action.{Action}
use Rattle.coll_sched.specs.declared.action.Action.TheVariants.{Send, Copy, Combine, Recv}
use Rattle.coll_sched.specs.declared.region.Region.{Region}
use Rattle.coll_sched.specs.Common.{read_of, Inside, Fits}
use Rattle.coll_refinement.specs.Requests.{Live}
use Rattle.coll_core.specs.Requests.{next_of}
use Rattle.coll_core.specs.Works.{IsOwnResult, Made, Piece, StandsAt, result_of}
use Rattle.coll_ops.specs.Combinations.{combined}
use Rattle.coll_ops.proofs.RowLists.{length-combined}
use Rattle.std.specs.Prelude.{IfSome, Option, length, ◌%◌}
use Rattle.coll_kinds.specs.Elements.{width}
use Rattle.coll_sched.proofs.Buffers.{length_read}

-- the second operand's region
abbrev right_in : Action → Region → Region
right_in (Combine op ty left right into) other = right
right_in (Send to from) other = other
right_in (Copy from into) other = other
right_in (Recv of into) other = other

pub stands_by : (q : Live) (w : Piece) (op : Op) (ty : Datatype) (left right into : Region) (b : Bool)
    → next_of q ≡ Some (Combine op ty left right into)
    → q.round ≡ w.round → q.index ≡ w.index
    → op ≡ w.op → ty ≡ w.ty
    → read_of q.buf left ≡ w.left
    → (l r : List ℕ) → l ≡ read_of q.buf right → r ≡ w.right → Decides b (l ≡ r)
    → (b ≡ true → StandsAt q w) × (StandsAt q w → b ≡ true)
stands_by q w op ty left right into b next round index op_is ty_is left_is l r l_is r_is d = (
  (λ yes. record {
    left = left;
    right = right;
    into = into;
    next_is = next ∙ (λ k. Some (Combine (op_is k) (ty_is k) left right into));
    round_is = round;
    index_is = index;
    left_is = left_is;
    right_is = sym l_is ∙ (d.0 yes ∙ r_is);
  }),
  λ stands. d.1 (l_is ∙ (ap (λ (g : Region). read_of q.buf g) (same stands) ∙ (stands.right_is ∙ sym r_is))),
)
  where
    same : (stands : StandsAt q w) → right ≡ stands.right
    same stands = ap (λ (a : Action). right_in a right) (same_Some _ _ (sym next ∙ stands.next_is))

-- ---- the result of its own operands

-- a piece's result, where the request stands at the piece
pub own_of_piece : (q : Live) (w : Piece) (bytes : List ℕ) → StandsAt q w → bytes ≡ result_of w → IsOwnResult q w bytes
own_of_piece q w bytes stands is = record {
  own = w;
  names = record { ticket_is = refl; round_is = refl; index_is = refl; op_is = refl; ty_is = refl };
  stands = stands;
  is = is;
}

-- the combination of regions of its buffer that was found, where its next action is that
pub own_of_regions : (q : Live) (w : Piece) (op of_op : Op) (ty of_ty : Datatype) (left of_left right of_right into : Region) (cell : List ℕ)
    → next_of q ≡ Some (Combine op ty left right into)
    → q.round ≡ w.round → q.index ≡ w.index
    → (op ≡ w.op) × (ty ≡ w.ty)
    → (of_op ≡ op) × (of_ty ≡ ty) × (of_left ≡ left) × (of_right ≡ right)
    → cell ≡ combined of_op of_ty (read_of q.buf of_left) (read_of q.buf of_right)
    → (found : Option (List ℕ)) → IfSome found (λ bytes. bytes ≡ cell) → IfSome found (IsOwnResult q w)
own_of_regions q w op of_op ty of_ty left of_left right of_right into cell next round index alike same cell_is None h = tt
own_of_regions q w op of_op ty of_ty left of_left right of_right into cell next round index alike same cell_is (Some bytes) bytes_is = record {
  own = record w { left = read_of q.buf left; right = read_of q.buf right };
  names = record { ticket_is = refl; round_is = refl; index_is = refl; op_is = refl; ty_is = refl };
  stands = record {
    left = left;
    right = right;
    into = into;
    next_is = next ∙ (λ k. Some (Combine (alike.0 k) (alike.1 k) left right into));
    round_is = round;
    index_is = index;
    left_is = refl;
    right_is = refl;
  };
  is = bytes_is ∙ (cell_is ∙ (λ k. combined ((same.0 ∙ alike.0) k) ((same.1 ∙ alike.1) k) (read_of q.buf (same.2 k)) (read_of q.buf (same.3 k))));
}

-- ---- the length of a result

abbrev into_len : Action → ℕ → ℕ
into_len (Combine op ty left right into) other = into.len
into_len (Send to from) other = other
into_len (Copy from into) other = other
into_len (Recv of into) other = other

pub result_long : (q : Live) (d : Made) (bytes : List ℕ) (op : Op) (ty : Datatype) (left right into : Region) (size : ℕ)
    → bytes ≡ d.bytes → d.bytes ≡ result_of d.piece
    → (s : StandsAt q d.piece) → next_of q ≡ Some (Combine op ty left right into)
    → length q.buf ≡ size
    → IfSome (next_of q) (λ action. Fits size action)
    → length bytes ≡ into.len
result_long q d bytes op ty left right into size bytes_is is s next long fits =
    ap length (bytes_is ∙ is) ∙ (length-combined d.piece.op d.piece.ty d.piece.left d.piece.right whole ∙ (left_long ∙ same))
  where
    fit : Fits size (Combine d.piece.op d.piece.ty s.left s.right s.into)
    fit = subst (λ (o : Option Action). IfSome o (λ action. Fits size action)) s.next_is fits

    left_long : length d.piece.left ≡ s.into.len
    left_long = ap length (sym s.left_is) ∙ (length_read q.buf s.left (subst (λ n. Inside n s.left) (sym long) fit.0) ∙ fit.3)

    whole : length d.piece.left % width d.piece.ty ≡ 0
    whole = ap (λ n. n % width d.piece.ty) left_long ∙ fit.6

    same : s.into.len ≡ into.len
    same = ap (λ (a : Action). into_len a 0) (same_Some _ _ (sym s.next_is ∙ next))
