-- A combination that is handed out.
use Rattle.std.specs.Prelude.{◌≡◌, ◌≤◌, ◌%◌, ℕ, List, length, IsTrue, Some}
use Rattle.coll_kinds.specs.declared.datatype.Datatype.{Datatype}
use Rattle.coll_kinds.specs.declared.operation.Op.{Op}
use Rattle.coll_kinds.specs.declared.ticket.Ticket.{Ticket}
use Rattle.coll_kinds.specs.Common.{allowed, width}
use Rattle.coll_ops.specs.Combinations.{combined}
use Rattle.coll_sched.specs.declared.action.Action.{Action}
use Rattle.coll_sched.specs.declared.action.Action.TheVariants.{Send, Copy, Combine, Recv}
use Rattle.coll_sched.specs.declared.region.Region.{Region}
use Rattle.coll_sched.specs.Regions.{read_of, written}
use Rattle.coll_refinement.specs.Requests.{Live, advanced}
use Rattle.coll_core.specs.Requests.{next_of}
use Rattle.coll_core.specs.declared.word.TheConstants.{WORD}

-- the request's ticket, the action's round and index, its operation and type, and both operands
pub record Piece : Type 0 where
  pub ticket : Ticket
  pub round : ℕ
  pub index : ℕ
  pub op : Op
  pub ty : Datatype
  pub left : List ℕ
  pub right : List ℕ

-- its operands can be combined
pub record IsPiece (w : Piece) : Type 0 where
  pub allowed_is : IsTrue (allowed w.op w.ty)
  pub same : length w.right ≡ length w.left
  pub whole : length w.left % width w.ty ≡ 0

-- the request's next action is the piece, with these operands
pub record StandsAt (q : Live) (w : Piece) : Type 0 where
  pub left : Region
  pub right : Region
  pub into : Region
  pub next_is : next_of q ≡ Some (Combine w.op w.ty left right into)
  pub round_is : q.round ≡ w.round
  pub index_is : q.index ≡ w.index
  pub left_is : read_of q.buf left ≡ w.left
  pub right_is : read_of q.buf right ≡ w.right

-- a combination of operands of up to eight bytes
abbrev pub IsShort : Action → Type 0
IsShort (Combine op ty left right into) = left.len ≤ WORD
IsShort (Send to from) = ⊥
IsShort (Copy from into) = ⊥
IsShort (Recv of into) = ⊥

abbrev pub result_of : Piece → List ℕ
result_of w = combined w.op w.ty w.left w.right

-- a piece with its result
pub record Made : Type 0 where
  pub piece : Piece
  pub bytes : List ℕ

-- the request's next action is a Combine into a region of that many bytes
pub record Combines (q : Live) (len : ℕ) : Type 0 where
  pub op : Op
  pub ty : Datatype
  pub left : Region
  pub right : Region
  pub into : Region
  pub next_is : next_of q ≡ Some (Combine op ty left right into)
  pub long : len ≡ into.len

-- the two are the same action of one ticket's request, with the same operation and type
pub record NamesSame (v w : Piece) : Type 0 where
  pub ticket_is : v.ticket ≡ w.ticket
  pub round_is : v.round ≡ w.round
  pub index_is : v.index ≡ w.index
  pub op_is : v.op ≡ w.op
  pub ty_is : v.ty ≡ w.ty

-- the request's next action is one that the piece names, and these bytes combine the request's own operands
pub record IsOwnResult (q : Live) (w : Piece) (bytes : List ℕ) : Type 0 where
  pub own : Piece
  pub names : NamesSame own w
  pub stands : StandsAt q own
  pub is : bytes ≡ result_of own

-- the bytes are written into that region
pub record Combined (q r : Live) (bytes : List ℕ) : Type 0 where
  pub op : Op
  pub ty : Datatype
  pub left : Region
  pub right : Region
  pub into : Region
  pub next_is : next_of q ≡ Some (Combine op ty left right into)
  pub is : r ≡ advanced q (record { round = q.round; index = q.index; buf = written q.buf into bytes })
