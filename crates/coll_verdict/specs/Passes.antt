-- An order in which ranks carry their commands out, so that none of them waits: what a run that stalls would have passed.
use Rattle.std.specs.Prelude.{◌≡◌, ◌⊎◌, ℕ, suc, ◌<◌, ◌≤◌, Bool, true, false, List, [], ◌∷◌, slice_get, Some}
use Rattle.coll_kinds.specs.Common.{member_of, is_among, put}
use Rattle.coll_machine.specs.Settings.{Setting, group, size}
use Rattle.coll_parser.specs.declared.command.Command.{Command}
use Rattle.coll_parser.specs.declared.command.Command.TheVariants.{Post, Init, Start, Wait, Test, Free, WaitAny, WaitSome, WaitAll}
use Rattle.coll_kinds.specs.declared.signature.Signature.{Signature}
use Rattle.coll_verdict.specs.Standings.{Each}
use Rattle.coll_verdict.specs.Stalls.{made_by, HasCome}
use Rattle.coll_verdict.specs.Sketches.{Sketch}
use Rattle.coll_verdict.specs.Stands.{sketches}
use Rattle.coll_verdict.specs.Waiting.{Hearing, awaits}

-- a rank has come to that many starts of a place of a communicator
pub record HasBegun (k : Sketch) (comm place starts : ℕ) : Type 0 where
  pub p : ℕ
  pub low : p < k.made
  pub comm_is : k.comm p ≡ comm
  pub place_is : k.place p ≡ place
  pub begun : starts ≤ k.starts p

-- whom a library's calls wait for
pub record Rule : Type 0 where
  pub hears : Hearing
  pub holds : Bool  -- whether an initialisation may wait until all members have come to it

-- for all members, and in initialisations too
abbrev pub everyone : Rule
everyone = record { hears = λ sig n r p. true; holds = true }

-- in no initialisation
abbrev pub only : Hearing → Rule
only hears = record { hears = hears; holds = false }

-- a member of the request's communicator has come to its start
pub record IsJoined (g : Setting) (k : ℕ → Sketch) (rank q : ℕ) (i : ℕ) : Type 0 where
  pub peer : ℕ
  pub member_is : member_of peer (group g ((k rank).comm q)) ≡ Some i
  pub begun : HasBegun (k peer) ((k rank).comm q) ((k rank).place q) ((k rank).starts q)

-- the rank's request waits for that member, or its value rests on it
abbrev pub Awaits : Hearing → Setting → (ℕ → Sketch) → ℕ → ℕ → ℕ → Type 0
Awaits hears g k rank q i = (sig : Signature) (member : ℕ)
    → (k rank).sig q ≡ Some sig
    → member_of rank (group g ((k rank).comm q)) ≡ Some member
    → awaits hears sig (size g ((k rank).comm q)) member i ≡ true

-- so of each member that the request awaits
abbrev pub AreJoined : Hearing → Setting → (ℕ → Sketch) → ℕ → ℕ → Type 0
AreJoined hears g k rank q = (i : ℕ) → i < size g ((k rank).comm q) → Awaits hears g k rank q i → IsJoined g k rank q i

-- no wait for the request goes on: it is inactive, or all that it awaits have come to its start
abbrev pub IsFree : Hearing → Setting → (ℕ → Sketch) → ℕ → ℕ → Type 0
IsFree hears g k rank q = (((k rank).starts q ≡ 0) ⊎ ((k rank).rested q ≡ true)) ⊎ AreJoined hears g k rank q

-- the request is active: it was started, and no call that completes requests has named it since
pub record IsSure (k : Sketch) (q : ℕ) : Type 0 where
  pub begun : 0 < k.starts q
  pub unnamed : k.named q ≡ false

-- one of these requests is active, and all that it awaits have come to its start
pub record HasSure (hears : Hearing) (g : Setting) (k : ℕ → Sketch) (rank : ℕ) (qs : List ℕ) : Type 0 where
  pub q : ℕ
  pub among : is_among q qs ≡ true
  pub sure : IsSure (k rank) q
  pub joined : AreJoined hears g k rank q

-- each member of the communicator has come to the request that the rank makes there next
abbrev pub AllCome : Setting → (ℕ → List Command) → (ℕ → ℕ) → ℕ → ℕ → Type 0
AllCome g lines at rank comm = (peer member : ℕ) → member_of peer (group g comm) ≡ Some member
    → HasCome lines at peer comm (made_by comm (lines rank) (at rank))

-- a wait for all of these goes on, and one for some
abbrev pub AllFree : Hearing → Setting → (ℕ → Sketch) → ℕ → List ℕ → Type 0
AllFree hears g k rank qs = Each qs (IsFree hears g k rank)

abbrev pub SomeFree : Hearing → Setting → (ℕ → Sketch) → ℕ → List ℕ → Type 0
SomeFree hears g k rank qs = AllFree hears g k rank qs ⊎ HasSure hears g k rank qs

-- the rank can carry the command out
abbrev pub CanPass : Rule → Setting → (ℕ → List Command) → (ℕ → ℕ) → ℕ → Command → Type 0
CanPass rule g lines at rank (Post comm sig given) = Unit {0}
CanPass rule g lines at rank (Init comm sig) = rule.holds ≡ true → AllCome g lines at rank comm
CanPass rule g lines at rank (Start q given) = Unit {0}
CanPass rule g lines at rank (Wait q) = AllFree rule.hears g (sketches lines at) rank (q ∷ [])
CanPass rule g lines at rank (Test q) = Unit {0}
CanPass rule g lines at rank (Free q) = Unit {0}
CanPass rule g lines at rank (WaitAny qs) = SomeFree rule.hears g (sketches lines at) rank qs
CanPass rule g lines at rank (WaitSome qs) = SomeFree rule.hears g (sketches lines at) rank qs
CanPass rule g lines at rank (WaitAll qs) = AllFree rule.hears g (sketches lines at) rank qs

-- how many of its commands each rank has carried out, each when it could
pub data Passes (rule : Rule) (g : Setting) (lines : ℕ → List Command) : (ℕ → ℕ) → Type 0 where
  none : Passes rule g lines (λ rank. 0)
  one_more : {at : ℕ → ℕ} (rank : ℕ) (c : Command)
      → Passes rule g lines at
      → slice_get (lines rank) (at rank) ≡ Some c
      → CanPass rule g lines at rank c
      → Passes rule g lines (put at rank (suc (at rank)))
