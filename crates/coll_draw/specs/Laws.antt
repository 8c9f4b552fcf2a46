-- Each arrow is a message: it is sent and received
use Rattle.std.specs.Prelude.{◌≡◌, ◌<◌, ◌≤◌, ℕ, Some, None}
use Rattle.std.specs.List.{AllByRecursion}
use Rattle.coll_kinds.specs.declared.signature.Signature.{Signature}
use Rattle.coll_kinds.specs.Checks.{broken}
use Rattle.coll_sched.specs.Families.{Family, IsLawful, actions_at, out_link, in_link, len_of}
use Rattle.coll_plans.specs.Plans.{family}
use Rattle.coll_draw.specs.declared.arrow.Arrow.{Arrow}
use Rattle.coll_draw.specs.Drawings.{arrows, rounds_of}

-- in its round the sender has a Send to the receiver, and the receiver a Recv of the sender, both of its length
pub record IsMessage (n : ℕ) (f : Family) (arrow : Arrow) : Type 0 where
  pub round_is : arrow.round < rounds_of f
  pub sender_is : arrow.sender < n
  pub receiver_is : arrow.receiver < n
  pub sent : len_of (out_link arrow.receiver (actions_at f arrow.round arrow.sender)) ≡ Some arrow.len
  pub received : len_of (in_link arrow.sender (actions_at f arrow.round arrow.receiver)) ≡ Some arrow.len

-- so it is with all arrows of a lawful family
abbrev pub ArrowsAreMessages : Type 0
ArrowsAreMessages = (n : ℕ) (f : Family) → 0 < n → IsLawful n f → AllByRecursion (IsMessage n f) (arrows n f)

-- so it is with those of every checked signature
abbrev pub DrawnArrowsAreMessages : Type 0
DrawnArrowsAreMessages = (sig : Signature) (n : ℕ)
    → broken sig n ≡ None
    → 0 < n
    → n ≤ 64
    → AllByRecursion (IsMessage n (family sig n)) (arrows n (family sig n))
