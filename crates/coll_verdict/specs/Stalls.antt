-- That no run of a job comes to its end, and that none stalls: with every library whose calls succeed.
use Rattle.std.specs.Prelude.{◌≡◌, ◌≢◌, ℕ, zero, suc, ◌+◌, ◌<◌, ◌==◌, nat_lt, Bool, true, false, ◌||◌, List, [], length, slice_get, Option, Some}
use Rattle.std.specs.Prelude.{None, unwrap_or, if◌then◌else◌}
use Rattle.std.specs.List.{list_all, range_with_len}
use Rattle.coll_kinds.specs.declared.signature.Signature.{Signature}
use Rattle.coll_kinds.specs.Common.{is_barrier, has_counts, member_of, is_among, count_at}
use Rattle.coll_machine.specs.Common.{Setting, group, group_in, size, Request, Machine, key_of}
use Rattle.coll_parser.specs.declared.command.Command.{Command}
use Rattle.coll_parser.specs.declared.command.Command.TheVariants.{Post, Init, Start, Wait, Test, Free, WaitAny, WaitSome, WaitAll}
use Rattle.coll_parser.specs.declared.issued_command.IssuedCommand.{IssuedCommand}
use Rattle.coll_parser.specs.Histories.{History, commands_of}
use Rattle.coll_verdict.specs.Standings.{is_active, is_pending, NoneDone, Standing, Reaches, AtEnd}

-- the lines that each rank of a job text says, with the unwritten `waitall` after them; none of what is no rank
abbrev pub lines_of : History → ℕ → List Command
lines_of h rank = if nat_lt rank (unwrap_or h.ranks 0) then commands_of h rank else []

-- ---- no end

-- each member from whom others may need something has elements to give
abbrev pub has_elements : Signature → ℕ → Bool
has_elements sig n =
    if has_counts sig.kind then list_all (λ i. nat_lt 0 (count_at sig.each i)) (range_with_len 0 n)
    else is_barrier sig.kind || nat_lt 0 sig.count

-- of the collective that a command makes on one of these communicators
abbrev pub gives : List (List ℕ) → Command → Bool
gives groups (Post comm sig given) = has_elements sig (length (group_in groups comm))
gives groups (Init comm sig) = has_elements sig (length (group_in groups comm))
gives groups (Start q given) = true
gives groups (Wait q) = true
gives groups (Test q) = true
gives groups (Free q) = true
gives groups (WaitAny qs) = true
gives groups (WaitSome qs) = true
gives groups (WaitAll qs) = true

abbrev pub issues : List (List ℕ) → IssuedCommand → Bool
issues groups issued = gives groups issued.command

-- no contribution is empty, but to a barrier: a library needn't wait for an empty one, and the runs of `Standings` do
abbrev pub NoneEmpty : History → Type 0
NoneEmpty h = list_all (issues h.groups) h.commands ≡ true

-- in no run all ranks come to their ends
abbrev pub AlwaysStalls : Setting → (ℕ → List Command) → Type 0
AlwaysStalls g lines = (s : Standing) → Reaches g lines s → AtEnd lines s → ⊥

-- with every library, whatever its limits are
pub record StallsAlways (h : History) : Type 0 where
  pub nonempty : NoneEmpty h
  pub stalls : (g : Setting) → g.groups ≡ h.groups → AlwaysStalls g (lines_of h)

-- ---- stalls

-- the command makes a request on that communicator
abbrev pub makes_on : ℕ → Command → Bool
makes_on comm (Post c sig given) = c == comm
makes_on comm (Init c sig) = c == comm
makes_on comm (Start q given) = false
makes_on comm (Wait q) = false
makes_on comm (Test q) = false
makes_on comm (Free q) = false
makes_on comm (WaitAny qs) = false
makes_on comm (WaitSome qs) = false
makes_on comm (WaitAll qs) = false

abbrev pub makes_in : ℕ → Option Command → Bool
makes_in comm None = false
makes_in comm (Some c) = makes_on comm c

-- how many requests the first n of these commands make on a communicator
abbrev pub made_by : ℕ → List Command → ℕ → ℕ
made_by comm lines zero = 0
made_by comm lines (suc n) = made_by comm lines n + (if makes_in comm (slice_get lines n) then 1 else 0)

-- a rank has made its request at that place of a communicator, or is at the call that makes it
abbrev pub HasCome : (ℕ → List Command) → (ℕ → ℕ) → ℕ → ℕ → ℕ → Type 0
HasCome lines at rank comm place = place < made_by comm (lines rank) (suc (at rank))

-- a call of a rank that needn't return now. A nonblocking call does (MPI 4.1, 2.4.2), but an initialisation is nonlocal (6.13):
-- a library may let it wait until all members have come to it
pub data Waits (g : Setting) (lines : ℕ → List Command) (s : Standing) (rank : ℕ) : Command → Type 0 where
  wait : (q : ℕ)
      → is_pending s.machine ((s.holds rank).of q) ≡ true
      → Waits g lines s rank (Wait q)
  wait_all : (qs : List ℕ) (q : ℕ)
      → is_among q qs ≡ true
      → is_pending s.machine ((s.holds rank).of q) ≡ true
      → Waits g lines s rank (WaitAll qs)
  wait_some : (qs : List ℕ) (q : ℕ)
      → is_among q qs ≡ true
      → is_active s.machine ((s.holds rank).of q) ≡ true
      → NoneDone s.machine (s.holds rank) qs
      → Waits g lines s rank (WaitSome qs)
  wait_any : (qs : List ℕ) (q : ℕ)
      → is_among q qs ≡ true
      → is_active s.machine ((s.holds rank).of q) ≡ true
      → NoneDone s.machine (s.holds rank) qs
      → Waits g lines s rank (WaitAny qs)
  init : (comm : ℕ) (sig : Signature) (peer member : ℕ)
      → member_of peer (group g comm) ≡ Some member
      → (HasCome lines s.at peer comm (made_by comm (lines rank) (s.at rank)) → ⊥)
      → Waits g lines s rank (Init comm sig)

-- all members have given to the start that the slot's request is active with
pub record HasAll (g : Setting) (m : Machine) (slot : ℕ) : Type 0 where
  pub request : Request
  pub start : ℕ
  pub is : m.state.request slot ≡ Some request
  pub active : request.active ≡ true
  pub last : suc start ≡ request.starts
  pub given : (i : ℕ) → i < size g request.comm → m.state.given (key_of request start) i ≢ None

-- each rank is at its end or waits, though the library has made Done whatever all members have given to
pub record IsStalled (g : Setting) (lines : ℕ → List Command) (s : Standing) : Type 0 where
  pub waits : (rank : ℕ) (c : Command) → slice_get (lines rank) (s.at rank) ≡ Some c → Waits g lines s rank c
  pub settled : (slot : ℕ) → HasAll g s.machine slot → s.machine.done slot ≡ true
  pub early : AtEnd lines s → ⊥

-- no run stalls
abbrev pub NeverStalls : Setting → (ℕ → List Command) → Type 0
NeverStalls g lines = (s : Standing) → Reaches g lines s → IsStalled g lines s → ⊥

-- with any library, whatever its limits are
abbrev pub StallsNever : History → Type 0
StallsNever h = (g : Setting) → g.groups ≡ h.groups → NeverStalls g (lines_of h)
