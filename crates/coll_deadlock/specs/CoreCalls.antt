-- What each call of the core is in a run of a job, by the clauses that its contract has: `p` before it, `r` after it.
use Rattle.std.specs.Prelude.{◌≡◌, ℕ, true, false, List, slice_get, Some}
use Rattle.coll_kinds.specs.declared.ticket.Ticket.{Ticket}
use Rattle.coll_kinds.specs.Common.{is_among}
use Rattle.coll_machine.specs.Common.{MachineStep, StepsTo}
use Rattle.coll_machine.specs.Calls as calls
use Rattle.coll_plans.specs.Plans.{Planned}
use Rattle.coll_parser.specs.declared.command.Command.{Command}
use Rattle.coll_parser.specs.declared.command.Command.TheVariants.{Post, Init, Start, Wait, Test, Free, WaitAny}
use Rattle.coll_verdict.specs.Standings.{Holding, Standing, carried_out, holding_at, is_active, is_done, kept, one_more}
use Rattle.coll_core.specs.declared.offer.Offer.{Offer}
use Rattle.coll_core.specs.Cores.{Parts, seen, setting}
use Rattle.coll_core.specs.Posts.{init_of, post_of}
use Rattle.coll_deadlock.specs.Runs.{IsRunOf}

-- the rank's next line
abbrev pub IsNext : (ℕ → List Command) → Standing → ℕ → Command → Type 0
IsNext lines s rank c = slice_get (lines rank) (s.at rank) ≡ Some c

-- a run went on: the rank has carried its line out, and holds this
abbrev pub CarriesOut : Parts → (ℕ → List Command) → Standing → ℕ → Holding → Type 0
CarriesOut r lines s rank h = IsRunOf r lines (carried_out s rank (seen r) h)

-- what a rank holds where the request of that number and ticket was completed or freed
abbrev pub without : Parts → Holding → ℕ → Ticket → Holding
without r h q t = holding_at h q (kept (seen r).state t)

-- of a run that the core has come to
pub record GoesOnByEach (p r : Parts) (lines : ℕ → List Command) (s : Standing) (rank : ℕ) : Type 0 where
  -- clause `posted` of `Core::post` and `post_laid`,
  pub post : (comm : ℕ) (offer : Offer) (t : Ticket)
      → IsNext lines s rank (Post comm offer.plan.sig offer.bytes)
      → StepsTo (setting p) (seen p) (post_of rank comm offer) (calls.Ticketed t) (seen r)
      → CarriesOut r lines s rank (one_more (s.holds rank) t)
  -- `made` of `init`,
  pub init : (comm : ℕ) (plan : Planned) (t : Ticket)
      → IsNext lines s rank (Init comm plan.sig)
      → MachineStep (setting p) (seen p) (init_of rank comm plan) (calls.Ticketed t) (seen r)
      → CarriesOut r lines s rank (one_more (s.holds rank) t)
  -- `starts` of `start`,
  pub start : (q : ℕ) (t : Ticket) (given : List ℕ)
      → IsNext lines s rank (Start q given)
      → (s.holds rank).of q ≡ Some t
      → StepsTo (setting p) (seen p) (calls.Start rank t given) calls.Nothing (seen r)
      → CarriesOut r lines s rank (s.holds rank)
  -- `frees` of `free`,
  pub free : (q : ℕ) (t : Ticket)
      → IsNext lines s rank (Free q)
      → (s.holds rank).of q ≡ Some t
      → MachineStep (setting p) (seen p) (calls.Free rank t) calls.Nothing (seen r)
      → CarriesOut r lines s rank (without r (s.holds rank) q t)
  -- `completes` and `rank` of `retire`, by which a wait, a test and a wait for any return
  pub wait : (q comm place start : ℕ) (bytes : List ℕ) (t : Ticket)
      → IsNext lines s rank (Wait q)
      → (s.holds rank).of q ≡ Some t
      → MachineStep (setting p) (seen p) (calls.Retire rank t) (calls.Outcome rank comm place start bytes) (seen r)
      → CarriesOut r lines s rank (without r (s.holds rank) q t)
  pub test : (q comm place start : ℕ) (bytes : List ℕ) (t : Ticket)
      → IsNext lines s rank (Test q)
      → (s.holds rank).of q ≡ Some t
      → MachineStep (setting p) (seen p) (calls.Retire rank t) (calls.Outcome rank comm place start bytes) (seen r)
      → CarriesOut r lines s rank (without r (s.holds rank) q t)
  pub wait_any : (qs : List ℕ) (q comm place start : ℕ) (bytes : List ℕ) (t : Ticket)
      → IsNext lines s rank (WaitAny qs)
      → is_among q qs ≡ true
      → (s.holds rank).of q ≡ Some t
      → MachineStep (setting p) (seen p) (calls.Retire rank t) (calls.Outcome rank comm place start bytes) (seen r)
      → CarriesOut r lines s rank (without r (s.holds rank) q t)
  -- a wait for a null or inactive request, and a test of one that isn't Done, return with nothing changed
  pub needless : (q : ℕ)
      → IsNext lines s rank (Wait q)
      → is_active (seen p) ((s.holds rank).of q) ≡ false
      → seen r ≡ seen p
      → CarriesOut r lines s rank (s.holds rank)
  pub undone : (q : ℕ)
      → IsNext lines s rank (Test q)
      → is_done (seen p) ((s.holds rank).of q) ≡ false
      → seen r ≡ seen p
      → CarriesOut r lines s rank (s.holds rank)

-- each call, of each run that a core has come to before it
abbrev pub CallsCarryOut : Parts → Type 0
CallsCarryOut r = (p : Parts) (lines : ℕ → List Command) (s : Standing) (rank : ℕ)
    → IsRunOf p lines s → setting r ≡ setting p → GoesOnByEach p r lines s rank
