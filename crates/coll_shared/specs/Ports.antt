-- What a caller sees of a port, and why no plan or post is made for it.
use Rattle.std.specs.Prelude.{◌≡◌, ◌⊎◌, ℕ, List, length, Option, Some, None}
use Rattle.coll_kinds.specs.declared.refusal.Refusal.{Refusal}
use Rattle.coll_kinds.specs.declared.refusal.Refusal.TheVariants.{BadSignature, NoMemory}
use Rattle.coll_kinds.specs.declared.signature.Signature.{Signature}
use Rattle.coll_kinds.specs.declared.refusal.SignatureFault.{SignatureFault}
use Rattle.coll_kinds.specs.Common.{broken, member_of}
use Rattle.coll_core.specs.declared.offer.Offer.{Offer}
use Rattle.coll_core.specs.Posts.{post_of}
use Rattle.coll_machine.specs.Common.{unseated, Setting, group_in}
use Rattle.coll_traced.specs.Denials.{IsDenied}

pub record Holding : Type 0 where
  pub rank : ℕ
  pub made : ℕ  -- the entries that it put into the trace
  pub groups : List (List ℕ)  -- the ranks of each communicator, in the order of their member numbers

-- why a signature with this fault is planned by nobody; one without is refused for memory alone
abbrev pub IsFault : Option SignatureFault → Refusal → Type 0
IsFault None why = why ≡ NoMemory
IsFault (Some cause) why = why ≡ BadSignature cause

-- why a port has no plan of a collective: it has no place in the communicator, or else the signature is refused
abbrev pub IsUnplanned : Holding → ℕ → Signature → Refusal → Type 0
IsUnplanned p comm sig why =
    (unseated p.groups p.rank comm ≡ Some why)
    ⊎ ((unseated p.groups p.rank comm ≡ None) × IsFault (broken sig (length (group_in p.groups comm))) why)

-- the post of these bytes by the port's plan of the signature was denied
pub record DeniesBytes (g : Setting) (p : Holding) (comm : ℕ) (sig : Signature) (bytes : List ℕ) (why : Refusal) : Type 0 where
  pub offer : Offer
  pub sig_is : offer.plan.sig ≡ sig
  pub n_is : offer.plan.n ≡ length (group_in p.groups comm)
  pub member_is : member_of p.rank (group_in p.groups comm) ≡ Some offer.plan.member
  pub bytes_are : offer.bytes ≡ bytes
  pub denied : IsDenied g p.made (post_of p.rank comm offer) why

-- a port of an engine that was just opened
abbrev pub opened : List (List ℕ) → ℕ → Holding
opened groups rank = record { rank = rank; made = 0; groups = groups }
