-- Where an engine is quiet and each rank at its end or in a wait, the job's run stalls, unless all are at their ends.
use Rattle.std.proofs.Common.{◌≡◌, ◌⊎◌, inl, inr, ℕ, List, length, sym, subst}
use Rattle.std.proofs.lemmas.Bool.{cases_eq}
use Rattle.coll_machine.specs.Common.{Setting, Machine, Call, Reply, MachineStep, ArePosted}
use Rattle.coll_machine.specs.Calls as calls
use Rattle.coll_machine.proofs.Posted.{are_led, are_nothing}
use Rattle.coll_machine.proofs.Tracing.{step_of}
use Rattle.coll_plans.specs.Hearings.{hears_here}
use Rattle.coll_parser.specs.declared.command.Command.{Command}
use Rattle.coll_verdict.specs.Standings.{Holding, Standing, Completes, Carries, AtEnd}
use Rattle.coll_verdict.specs.Standings as standings
use Rattle.coll_verdict.specs.Waiting.{Hearing, ReachesBy, StepsBy}
use Rattle.coll_verdict.specs.Waiting as waiting
use Rattle.coll_verdict.specs.Stalls.{lines_of}
use Rattle.coll_core.specs.Cores.{Parts, setting}
use Rattle.coll_deadlock.specs.Heard.{IsSettled}
use Rattle.coll_deadlock.specs.CoreLaws.{AlwaysHereNeverEnds, NeverHereEnds, QuietIsSettled, QuietStalls}

-- ---- requests of a run were posted

posted_after : (g : Setting) (m n : Machine) (call : Call) (reply : Reply) → MachineStep g m call reply n → ArePosted g m.state → ArePosted g n.state
posted_after g m n call reply step posted = let s = step_of g m n call reply step in are_led g m.state n.state s.added posted s.leads

posted_completed : (g : Setting) (rank : ℕ) (qs : List ℕ) (m n : Machine) (h i : Holding) → Completes g rank qs m h n i
    → ArePosted g m.state → ArePosted g n.state
posted_completed g rank qs m _ h _ standings.none posted = posted
posted_completed g rank qs m _ h _ (standings.another {n} {last} {i} q comm place start bytes t among held step rest) posted =
    posted_completed g rank qs n last (standings.holding_at h q (standings.kept n.state t)) i rest
    (posted_after g m n (calls.Retire rank t) (calls.Outcome rank comm place start bytes) step posted)

posted_carried : (g : Setting) (rank : ℕ) (m n : Machine) (h i : Holding) (c : Command) → Carries g rank m h c n i → ArePosted g m.state → ArePosted g n.state
posted_carried g rank m _ h _ _ (standings.post {n} comm sig given plan t is step) posted =
    posted_after g m n (calls.Post rank comm plan given) (calls.Ticketed t) step posted
posted_carried g rank m _ h _ _ (standings.init {n} comm sig plan t is step) posted =
    posted_after g m n (calls.Init rank comm plan) (calls.Ticketed t) step posted
posted_carried g rank m _ h _ _ (standings.start {n} q given t held step) posted = posted_after g m n (calls.Start rank t given) calls.Nothing step posted
posted_carried g rank m _ h _ _ (standings.free {n} q t held step) posted = posted_after g m n (calls.Free rank t) calls.Nothing step posted
posted_carried g rank m _ h _ _ (standings.test {n} {i} q done over) posted = posted_completed g rank _ m n h i done posted
posted_carried g rank m _ h _ _ (standings.wait {n} {i} q ready done over) posted = posted_completed g rank _ m n h i done posted
posted_carried g rank m _ h _ _ (standings.wait_all {n} {i} qs ready done over) posted = posted_completed g rank qs m n h i done posted
posted_carried g rank m _ h _ _ (standings.wait_some {n} {i} qs ready done over) posted = posted_completed g rank qs m n h i done posted
posted_carried g rank m _ h _ _ (standings.wait_for_none qs none) posted = posted
posted_carried g rank m _ h _ _ (standings.wait_any {n} qs q comm place start bytes t among held step) posted =
    posted_after g m n (calls.Retire rank t) (calls.Outcome rank comm place start bytes) step posted

posted_step : (hears : Hearing) (g : Setting) (lines : ℕ → List Command) (s u : Standing) → StepsBy hears g lines s u
    → ArePosted g s.machine.state → ArePosted g u.machine.state
posted_step hears g lines s _ (waiting.carries {n} {i} rank c get step) posted = posted_carried g rank s.machine n (s.holds rank) i c step posted
posted_step hears g lines s _ (waiting.finishes slot start q sig is pending has) posted = posted

pub reached_posted : (hears : Hearing) (g : Setting) (lines : ℕ → List Command) (s : Standing) → ReachesBy hears g lines s → ArePosted g s.machine.state
reached_posted hears g lines _ waiting.begins = are_nothing g
reached_posted hears g lines _ (waiting.goes_on {s} {u} before step) = posted_step hears g lines s u step (reached_posted hears g lines s before)

-- ---- stalls

module _ (p : Parts) (settles : QuietIsSettled p) where
  pub quiet_stalls : QuietStalls p
  quiet_stalls lines s groups run quiet wait early = record {
    waits = wait.waits;
    returns = wait.returns;
    settled = subst (λ (m : Machine). IsSettled (setting p) m) (sym run.machine_is)
        (settles groups (subst (λ (m : Machine). ArePosted (setting p) m.state) run.machine_is
        (reached_posted hears_here (setting p) lines s run.reached)) quiet);
    early = early;
  }

  pub never_here_ends : NeverHereEnds p
  never_here_ends h s never same groups run quiet wait rank = go (cases_eq (s.at rank) (length (lines_of h rank)))
    where
      go : (s.at rank ≡ length (lines_of h rank)) ⊎ (s.at rank ≡ length (lines_of h rank) → ⊥) → s.at rank ≡ length (lines_of h rank)
      go (inl e) = e
      go (inr d) = absurd (never (setting p) same s run.reached (quiet_stalls (lines_of h) s groups run quiet wait (λ end. d (end rank))))

pub always_here_never_ends : (p : Parts) → AlwaysHereNeverEnds p
always_here_never_ends p h s always same run end = always (setting p) same s run.reached end
