-- How posting lists and live requests agree. All members call the collectives of a communicator in one order
-- (MPI 4.1, 6.12).
use Rattle.std.specs.Prelude.{◌≡◌, ◌<◌, ℕ, slice_get, Some, None}
use Rattle.coll_kinds.specs.declared.signature.Signature.{Signature}
use Rattle.coll_kinds.specs.Common.{broken, member_of}
use Rattle.coll_machine.specs.Settings.{Setting, group, size}
use Rattle.coll_machine.specs.States.{Request, State, signature_of}

-- a live request stands for an entry of a posting list
pub record IsPosted (g : Setting) (s : State) (q : Request) : Type 0 where
  pub sig : Signature
  pub sig_is : signature_of s q ≡ Some sig  -- the entry at its member's place,
  pub mode_is : sig.mode ≡ q.mode  -- of its mode,
  pub checked : broken sig (size g q.comm) ≡ None  -- which breaks no rule of signatures
  pub member_is : member_of q.rank (group g q.comm) ≡ Some q.member  -- the member is the caller's rank

pub record ArePosted (g : Setting) (s : State) : Type 0 where
  -- the posting lists of two members have the same signature at each place that both have
  pub agree : (comm a b place : ℕ) (x y : Signature) → a < size g comm → b < size g comm
      → slice_get (s.posts comm a) place ≡ Some x → slice_get (s.posts comm b) place ≡ Some y → x ≡ y
  pub posted : (slot : ℕ) (q : Request) → s.request slot ≡ Some q → IsPosted g s q
  -- of one member at one place of a communicator there is at most one live request
  pub alone : (i j : ℕ) (p q : Request) → s.request i ≡ Some p → s.request j ≡ Some q
      → p.comm ≡ q.comm → p.member ≡ q.member → p.place ≡ q.place → i ≡ j
