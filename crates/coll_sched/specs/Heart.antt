-- The laws of families: what any interleaving of their members keeps of lock-step
use Rattle.std.specs.Prelude.{◌≡◌, ℕ, ◌<◌, ◌≢◌, ◌⊎◌, List, length, slice_get, Some, None}
use Rattle.coll_kinds.specs.declared.operation.Op.{Op}
use Rattle.coll_kinds.specs.declared.datatype.Datatype.{Datatype}
use Rattle.coll_sched.specs.declared.region.Region.{Region}
use Rattle.coll_sched.specs.declared.action.Action.TheVariants.{Send, Combine, Recv}
use Rattle.coll_sched.specs.Regions.{read_of}
use Rattle.coll_sched.specs.Families.{Family, actions_at, lock_step, result_at, Heard, IsLawful}
use Rattle.coll_sched.specs.Worlds.{Progress, World, filled, IsNext, Reached}
use Rattle.coll_sched.specs.Tracks.{total, outs, ins, done_at}

-- what the heart says of a world
pub record Holds (n : ℕ) (f : Family) (w : World) : Type 0 where
  -- a member that has done all its actions has the lock-step result, and all that it needs to have heard have joined
  pub results : (r : ℕ) (p : Progress)
      → w.progress r ≡ Some p
      → p.round ≡ length (f r).rounds
      → (read_of p.buf (f r).output ≡ result_at f (filled f w.given) r)
      × ((s : ℕ) → Heard f (length (f r).rounds) r s → w.given s ≢ None)
  -- the operands of a Combine about to be done are those of lock-step
  pub operands : (r : ℕ) (p : Progress) (op : Op) (ty : Datatype) (a b into : Region)
      → IsNext f w r p (Combine op ty a b into)
      → (read_of p.buf a ≡ read_of (lock_step f (filled f w.given) p.round r) a)
      × (read_of p.buf b ≡ read_of (lock_step f (filled f w.given) p.round r) b)
  -- what a step asks for: the buffer has its size, a message has the length of its region,
  -- and a Send finds no message under its key
  pub sizes : (r : ℕ) (p : Progress) → w.progress r ≡ Some p → length p.buf ≡ (f r).size
  pub takes : (r : ℕ) (p : Progress) (of : ℕ) (into : Region) (bytes : List ℕ)
      → IsNext f w r p (Recv of into)
      → w.mail of r p.round ≡ Some bytes
      → length bytes ≡ into.len
  pub free : (r : ℕ) (p : Progress) (to : ℕ) (from : Region)
      → IsNext f w r p (Send to from)
      → w.mail r to p.round ≡ None
  -- a message that stands is that of a Send done and of a Recv not done
  pub standing_is : (q r j : ℕ) (bytes : List ℕ)
      → q < n
      → w.mail q r j ≡ Some bytes
      → (total (outs r) (done_at f w j q) ≡ 1) × (total (ins q) (done_at f w j r) ≡ 0)

-- no member can go on: each has done all its actions, or waits for a message that isn't there
abbrev pub IsQuiet : Family → World → Type 0
IsQuiet f w =
    (r : ℕ) (p : Progress)
    → w.progress r ≡ Some p
    → (p.round ≡ length (f r).rounds)
    ⊎ ((of : ℕ) × (into : Region)
    × (slice_get (actions_at f p.round r) p.index ≡ Some (Recv of into))
    × (w.mail of r p.round ≡ None))

-- once all have joined, quiet means finished
abbrev pub Finishes : Type 0
Finishes = (n : ℕ) (f : Family)
    → IsLawful n f
    → (w : World)
    → Reached n f w
    → ((r : ℕ) → r < n → w.given r ≢ None)
    → IsQuiet f w
    → (r : ℕ) (p : Progress)
    → w.progress r ≡ Some p
    → p.round ≡ length (f r).rounds

-- and without the others: quiet means finished for a member once all have joined whom it hears
abbrev pub FinishesHeard : Type 0
FinishesHeard = (n : ℕ) (f : Family)
    → IsLawful n f
    → (w : World)
    → Reached n f w
    → IsQuiet f w
    → (r : ℕ) (p : Progress)
    → w.progress r ≡ Some p
    → ((s : ℕ) → Heard f (length (f r).rounds) r s → w.given s ≢ None)
    → p.round ≡ length (f r).rounds

-- the theorem
abbrev pub Heart : Type 0
Heart = (n : ℕ) (f : Family) → IsLawful n f → (w : World) → Reached n f w → Holds n f w
