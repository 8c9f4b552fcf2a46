-- What a legal trace says of the outcomes in it, where the ranks did what a script says.
use Rattle.std.specs.Prelude.{◌≡◌, ◌==◌, ◌&&◌, ◌≤◌, ℕ, Bool, false, List, [], Some}
use Rattle.std.specs.List.{AllByRecursion, count_by}
use Rattle.coll_machine.specs.Common.{Setting, AreGroups, Request, State, nothing, Entry, Posted, Inited, Started, Retired, Freed, posts_of, Leads}
use Rattle.coll_report.specs.Scripts.{Command, Asked, asked, outcome, Says, IsAsked}

-- a trace from the opening on, in which each rank posts, initialises and starts what its commands say, in their order
pub record IsTraceOf (g : Setting) (script : ℕ → List Command) (es : List Entry) (u : State) : Type 0 where
  pub groups : AreGroups g  -- no rank is twice in a communicator
  pub leads : Leads g nothing es u  -- the trace is legal
  pub says : (rank : ℕ) → Says [] (script rank) (posts_of rank es)  -- and each rank did as it was told

-- a completion gives out the value that the commands of all ranks fix
abbrev pub HasValue : Setting → (ℕ → List Asked) → Entry → Type 0
HasValue g requests (Posted rank t comm place sig bytes) = Unit {0}
HasValue g requests (Inited rank t comm place sig) = Unit {0}
HasValue g requests (Started rank t start bytes) = Unit {0}
HasValue g requests (Retired rank t comm place start bytes) =
    bytes ≡ outcome g requests rank (record { comm = comm; place = place; start = start })
HasValue g requests (Freed rank t) = Unit {0}

-- whatever order the ranks acted in, each outcome of a legal trace has that value
abbrev pub TracesTell : Type 0
TracesTell = (g : Setting) (script : ℕ → List Command) (es : List Entry) (u : State)
    → IsTraceOf g script es u → AllByRecursion (HasValue g (λ rank. asked (script rank))) es

-- the completion of that start of the rank's request of that place
abbrev pub retires : ℕ → ℕ → ℕ → ℕ → Entry → Bool
retires r c p s (Posted rank t comm place sig bytes) = false
retires r c p s (Inited rank t comm place sig) = false
retires r c p s (Started rank t start bytes) = false
retires r c p s (Retired rank t comm place start bytes) = (rank == r) && ((comm == c) && ((place == p) && (start == s)))
retires r c p s (Freed rank t) = false

-- no request is active
abbrev pub IsIdle : State → Type 0
IsIdle s = (slot : ℕ) (q : Request) → s.request slot ≡ Some q → q.active ≡ false

-- how often each start is completed
pub record Counts (requests : ℕ → List Asked) (es : List Entry) (u : State) : Type 0 where
  -- never twice,
  pub never_twice : (rank comm place start : ℕ) → count_by (retires rank comm place start) es ≤ 1
  -- not without having been asked for,
  pub asked_for : (rank comm place start : ℕ) → (IsAsked (requests rank) comm place start → ⊥)
      → count_by (retires rank comm place start) es ≡ 0
  -- and once where it was asked for and nothing is active at the end
  pub once : IsIdle u → (rank comm place start : ℕ) → IsAsked (requests rank) comm place start
      → count_by (retires rank comm place start) es ≡ 1

abbrev pub TracesCount : Type 0
TracesCount = (g : Setting) (script : ℕ → List Command) (es : List Entry) (u : State)
    → IsTraceOf g script es u → Counts (λ rank. asked (script rank)) es u

-- only ranks post, initialise and start, so a script has to be compared for these alone
abbrev pub StrangersAreSilent : Type 0
StrangersAreSilent = (g : Setting) (es : List Entry) (u : State)
    → AreGroups g → Leads g nothing es u → (rank : ℕ) → g.ranks ≤ rank → posts_of rank es ≡ []
