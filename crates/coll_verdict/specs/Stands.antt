-- Stands, one for each rank, that no run goes beyond: where a rank has carried out as many commands as its stand says,
-- its next one waits for what doesn't come while no rank goes beyond its stand.
use Rattle.std.specs.Prelude.{◌≡◌, ◌⊎◌, ℕ, ◌<◌, true, List, length, slice_get, Some}
use Rattle.coll_kinds.specs.declared.signature.Signature.{Signature}
use Rattle.coll_kinds.specs.Common.{member_of, is_among}
use Rattle.coll_machine.specs.Settings.{Setting, group, size}
use Rattle.coll_parser.specs.declared.command.Command.{Command}
use Rattle.coll_parser.specs.declared.command.Command.TheVariants.{Wait, WaitAny, WaitSome, WaitAll}
use Rattle.coll_verdict.specs.Standings.{Each}
use Rattle.coll_verdict.specs.Sketches.{Sketch, sketch_at}
use Rattle.coll_verdict.specs.Waiting.{Hearing}

-- none of the requests at a place of a communicator was started so often
abbrev pub IsLate : Sketch → ℕ → ℕ → ℕ → Type 0
IsLate k comm place starts = (p : ℕ) → p < k.made → k.comm p ≡ comm → k.place p ≡ place → k.starts p < starts

-- a rank's request can't be Done: it waits for another member, which has not come to its start
pub record Lacks (hears : Hearing) (g : Setting) (k : ℕ → Sketch) (rank q : ℕ) : Type 0 where
  pub sig : Signature
  pub sig_is : (k rank).sig q ≡ Some sig
  pub member : ℕ
  pub member_is : member_of rank (group g ((k rank).comm q)) ≡ Some member
  pub other : ℕ
  pub low : other < size g ((k rank).comm q)
  pub awaited : hears sig (size g ((k rank).comm q)) member other ≡ true
  pub late : (peer : ℕ) → member_of peer (group g ((k rank).comm q)) ≡ Some other
      → IsLate (k peer) ((k rank).comm q) ((k rank).place q) ((k rank).starts q)

-- or it is inactive: it was never started, or a wait for it has ended since
abbrev pub CantBeDone : Hearing → Setting → (ℕ → Sketch) → ℕ → ℕ → Type 0
CantBeDone hears g k rank q = (((k rank).starts q ≡ 0) ⊎ ((k rank).rested q ≡ true)) ⊎ Lacks hears g k rank q

-- a rank can't carry the command out: what it waits for was started and can't be Done
pub data IsBlocked (hears : Hearing) (g : Setting) (k : ℕ → Sketch) (rank : ℕ) : Command → Type 0 where
  wait : (q : ℕ)
      → 0 < (k rank).starts q
      → Lacks hears g k rank q
      → IsBlocked hears g k rank (Wait q)
  wait_all : (qs : List ℕ) (q : ℕ)
      → is_among q qs ≡ true
      → 0 < (k rank).starts q
      → Lacks hears g k rank q
      → IsBlocked hears g k rank (WaitAll qs)
  wait_some : (qs : List ℕ) (q : ℕ)
      → is_among q qs ≡ true
      → 0 < (k rank).starts q
      → Lacks hears g k rank q
      → Each qs (CantBeDone hears g k rank)
      → IsBlocked hears g k rank (WaitSome qs)
  wait_any : (qs : List ℕ) (q : ℕ)
      → is_among q qs ≡ true
      → 0 < (k rank).starts q
      → Lacks hears g k rank q
      → Each qs (CantBeDone hears g k rank)
      → IsBlocked hears g k rank (WaitAny qs)

-- what the commands say before each rank's stand
abbrev pub sketches : (ℕ → List Command) → (ℕ → ℕ) → ℕ → Sketch
sketches lines stands rank = sketch_at (lines rank) (stands rank)

-- each rank that comes to its stand is at its end or can't go on,
abbrev pub AreClosed : Hearing → Setting → (ℕ → List Command) → (ℕ → ℕ) → Type 0
AreClosed hears g lines stands = (rank : ℕ) (c : Command)
    → slice_get (lines rank) (stands rank) ≡ Some c
    → IsBlocked hears g (sketches lines stands) rank c

-- and one isn't at its end
abbrev pub IsShort : (ℕ → List Command) → (ℕ → ℕ) → Type 0
IsShort lines stands = (rank : ℕ) × (stands rank < length (lines rank))
