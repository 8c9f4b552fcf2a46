-- What a call completes whose effect depends on time, and the job in which it completes exactly that.
use Rattle.std.specs.Prelude.{◌≡◌, ℕ, zero, suc, ◌<◌, ◌==◌, Bool, true, false, List, [], ◌∷◌, filter, if◌then◌else◌}
use Rattle.coll_kinds.specs.Common.{is_among}
use Rattle.coll_parser.specs.declared.command.Command.{Command}
use Rattle.coll_parser.specs.declared.command.Command.TheVariants.{Post, Init, Start, Wait, Test, Free, WaitAny, WaitSome, WaitAll}
use Rattle.coll_parser.specs.declared.issued_command.IssuedCommand.{IssuedCommand}
use Rattle.coll_parser.specs.Histories.{History}
use Rattle.coll_verdict.specs.Standings.{Each}
use Rattle.coll_verdict.specs.Sketches.{Sketch}
use Rattle.coll_verdict.specs.Passes.{IsSure}

-- it depends on time what the call completes
abbrev pub is_open : Command → Bool
is_open (Post comm sig given) = false
is_open (Init comm sig) = false
is_open (Start q given) = false
is_open (Wait q) = false
is_open (Test q) = true
is_open (Free q) = false
is_open (WaitAny qs) = true
is_open (WaitSome qs) = true
is_open (WaitAll qs) = false

-- by what its rank's commands say, the request may be active: it was started, and no wait has named it since
pub record MayBeActive (k : Sketch) (q : ℕ) : Type 0 where
  pub begun : 0 < k.starts q
  pub unrested : k.rested q ≡ false

-- of none of these it is known that it is active
abbrev pub NoneSure : Sketch → List ℕ → Type 0
NoneSure k qs = Each qs (λ q. IsSure k q → ⊥)

-- a call may complete exactly these requests, by what its rank's commands before it say
pub data IsOutcome (k : Sketch) : Command → List ℕ → Type 0 where
  -- a test, none or the one that it names
  no : (q : ℕ) → IsOutcome k (Test q) []
  yes : (q : ℕ) → MayBeActive k q → IsOutcome k (Test q) (q ∷ [])
  -- a `waitany`, one of those that it names, or none if none is active
  one : (qs : List ℕ) (q : ℕ) → is_among q qs ≡ true → MayBeActive k q → IsOutcome k (WaitAny qs) (q ∷ [])
  nothing : (qs : List ℕ) → NoneSure k qs → IsOutcome k (WaitAny qs) []
  -- a `waitsome`, some of them, or none if none is active
  some : (qs out : List ℕ) (f : ℕ → Bool) → out ≡ filter f qs
      → Each out (MayBeActive k)
      → (out ≡ [] → NoneSure k qs)
      → IsOutcome k (WaitSome qs) out

-- the commands of all ranks, in which a rank waits for these requests alone in place of its command of that number
abbrev pub fixed_in : ℕ → ℕ → List ℕ → List IssuedCommand → List IssuedCommand
fixed_in rank place qs [] = []
fixed_in rank zero qs (t ∷ issued) = if t.rank == rank then record t { command = WaitAll qs } ∷ issued else t ∷ fixed_in rank zero qs issued
fixed_in rank (suc place) qs (t ∷ issued) = t ∷ fixed_in rank (if t.rank == rank then place else suc place) qs issued

-- the job in which a rank's command of that number completes exactly these
abbrev pub fixed : History → ℕ → ℕ → List ℕ → History
fixed h rank place qs = record h { commands = fixed_in rank place qs h.commands }
