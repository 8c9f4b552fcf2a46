-- Whatever calls come to shows a run of the job, and ports that are in its lines.
use Rattle.std.proofs.Common.{◌≡◌, ℕ, suc, ◌⊎◌, inl, inr, Bool, true, false, List, Some, refl, sym, ap, subst, ◌∙◌}
use Rattle.std.proofs.lemmas.Bool.{cases_eq}
use Rattle.std.specs.Prelude.{slice_get}
use Rattle.coll_kinds.specs.Common.{put}
use Rattle.coll_kinds.proofs.Puts.{put_other}
use Rattle.coll_machine.specs.Common.{Machine, MayFinish, Setting}
use Rattle.coll_plans.specs.Hearings.{hears_here}
use Rattle.coll_parser.specs.declared.command.Command.{Command}
use Rattle.coll_verdict.specs.Standings.{Carries, Holding, Standing, beginning, carried_out}
use Rattle.coll_verdict.specs.Stalls.{lines_of}
use Rattle.coll_verdict.specs.Waiting.{ReachesBy, StepsBy}
use Rattle.coll_verdict.specs.Waiting as waiting
use Rattle.coll_core.specs.declared.stepped.Stepped.{Stepped}
use Rattle.coll_core.specs.declared.stepped.Stepped.TheVariants.{Quiet, Moved, Finished, Out}
use Rattle.coll_core.specs.Cores.{Parts, seen, setting}
use Rattle.coll_core.specs.Steps.{CommitSteps, Finishings, Goes, Steps}
use Rattle.coll_core.specs.Steps as core
use Rattle.coll_core.specs.Works.{Made}
use Rattle.coll_deadlock.specs.Heard.{NoneEarly}
use Rattle.coll_deadlock.specs.Runs.{IsRunOf}
use Rattle.coll_deadlock.proofs.Hearing.{none_early}
use Rattle.coll_deadlock.proofs.Running.{begins_where_opened, finish_is_step, goes_on_by_calls, goes_on_by_steps}
use Rattle.coll_traced.specs.Traced.{Traced}
use Rattle.coll_traced.specs.Waits.{WaitFor, Awake}
use Rattle.coll_deadlock.specs.Lines.{AreAtLines, IsAtLine, awake}
use Rattle.coll_deadlock.specs.Locks.{ComesTo, IsKnown, LeavesAwake, carries, goes, notes, opens}
use Rattle.coll_deadlock.specs.PortLaws.{AlwaysHereIsNoEnd, NoStallUnderLock, StepsMayFinish}
use Rattle.coll_deadlock.proofs.Blocking.{never_here_is_no_stall}
use Rattle.coll_deadlock.proofs.Lining.{noted_at_lines, open_at_lines, stay_at_lines}

record Comes (t : Traced) (lines : ℕ → List Command) (s : Standing) : Type 0 where
  known : IsKnown t.core
  run : IsRunOf t.core lines s
  at : AreAtLines t.waits lines s

early_in : (t u : Traced) → IsKnown u.core → setting u.core ≡ setting t.core → NoneEarly (setting t.core) (seen u.core)
early_in t u known set = subst (λ (g : Setting). NoneEarly g (seen u.core)) set (none_early u.core known.between known.free known.heard)

-- a request becomes Done, or none
finish_at : (g : Setting) (lines : ℕ → List Command) (s : Standing) (m n : Machine) (waits : List WaitFor) → MayFinish g m n
    → NoneEarly g n → ReachesBy hears_here g lines (record s { machine = m })
    → AreAtLines waits lines (record s { machine = m }) → AreAtLines waits lines (record s { machine = n })
finish_at g lines s m n waits (inl e) early r at = subst (λ (m : Machine). AreAtLines waits lines (record s { machine = m })) e at
finish_at g lines s m n waits (inr step) early r at =
    stay_at_lines hears_here g lines (record s { machine = m }) (record s { machine = n }) waits r
    (finish_is_step g n lines (record s { machine = m }) step early) (λ rank. inl refl) at

finishings : (g : Setting) (m n : Machine) → MayFinish g m n → Finishings g m n
finishings g m n (inl e) = subst (λ (n : Machine). Finishings g m n) e core.none
finishings g m n (inr step) = core.more core.none step

-- the rank's port is awake
woken : (lines : ℕ → List Command) (s : Standing) (old new : List WaitFor) (rank : ℕ) → LeavesAwake old new rank
    → AreAtLines old lines s → AreAtLines new lines s
woken lines s old new rank wake at r c get = go (cases_eq r rank)
  where
    go : (r ≡ rank) ⊎ (r ≡ rank → ⊥) → IsAtLine new s.machine r (s.holds r) c
    go (inl same) = record { wait = Awake; is = ap (slice_get new) same ∙ wake.own; in_line = awake c }
    go (inr differs) = let w = at r c get in record { wait = w.wait; is = wake.others r differs ∙ w.is; in_line = w.in_line }

module _ (t u : Traced) (lines : ℕ → List Command) (s : Standing) (b : Comes t lines s) (known : IsKnown u.core) (set : setting u.core ≡ setting t.core) where
  abbrev g : Setting
  g = setting t.core

  module _ (rank : ℕ) (c : Command) (mid : Machine) (i : Holding) (get : slice_get (lines rank) (s.at rank) ≡ Some c)
      (step : Carries g rank (seen t.core) (s.holds rank) c mid i)
      (finish : MayFinish g mid (seen u.core)) (wake : LeavesAwake t.waits u.waits rank) where
    by_line : StepsBy hears_here g lines s (carried_out s rank mid i)
    by_line = waiting.carries rank c get (subst (λ (m : Machine). Carries g rank m (s.holds rank) c mid i) (sym b.run.machine_is) step)

    each : (r : ℕ) → (put s.at rank (suc (s.at rank)) r ≡ s.at r) ⊎ (slice_get u.waits r ≡ Some Awake)
    each r = go (cases_eq r rank)
      where
        go : (r ≡ rank) ⊎ (r ≡ rank → ⊥) → (put s.at rank (suc (s.at rank)) r ≡ s.at r) ⊎ (slice_get u.waits r ≡ Some Awake)
        go (inl same) = inr (ap (slice_get u.waits) same ∙ wake.own)
        go (inr differs) = inl (put_other s.at rank (suc (s.at rank)) r differs)

    carried : Comes u lines (carried_out s rank (seen u.core) i)
    carried = record {
      known = known;
      run = goes_on_by_calls u.core (none_early u.core known.between known.free known.heard) t.core lines s rank c mid i b.run set get step finish;
      at = finish_at g lines (carried_out s rank mid i) mid (seen u.core) u.waits finish (early_in t u known set) (waiting.goes_on b.run.reached by_line)
          (stay_at_lines hears_here g lines s (carried_out s rank mid i) u.waits b.run.reached by_line each (woken lines s t.waits u.waits rank wake b.at));
    }

  gone : MayFinish g (seen t.core) (seen u.core) → u.waits ≡ t.waits → Comes u lines (record s { machine = seen u.core })
  gone finish waits = record {
    known = known;
    run = goes_on_by_steps u.core (none_early u.core known.between known.free known.heard) t.core lines s b.run set
        (finishings g (seen t.core) (seen u.core) finish);
    at = subst (λ (waits : List WaitFor). AreAtLines waits lines (record s { machine = seen u.core })) (sym waits)
        (finish_at g lines s (seen t.core) (seen u.core) t.waits finish (early_in t u known set)
        (subst (λ (m : Machine). ReachesBy hears_here g lines (record s { machine = m })) b.run.machine_is b.run.reached)
        (subst (λ (m : Machine). AreAtLines t.waits lines (record s { machine = m })) b.run.machine_is b.at));
  }

comes : (lines : ℕ → List Command) (t : Traced) (s : Standing) → ComesTo lines t s → Comes t lines s
comes lines _ _ (opens t n known opened waits none) = record {
  known = known;
  run = begins_where_opened t.core lines opened;
  at = subst (λ (waits : List WaitFor). AreAtLines waits lines beginning) (sym waits) (open_at_lines lines n none);
}
comes lines _ _ (carries {t} {s} u rank c mid i before known set get step finish wake) =
    carried t u lines s (comes lines t s before) known set rank c mid i get step finish wake
comes lines _ _ (goes {t} {s} u before known set finish waits) = gone t u lines s (comes lines t s before) known set finish waits
comes lines _ _ (notes {t} {s} u rank wait before same waits line) =
    let b = comes lines t s before in
    record {
      known = subst IsKnown (sym same) b.known;
      run = subst (λ (p : Parts). IsRunOf p lines s) (sym same) b.run;
      at = subst (λ (waits : List WaitFor). AreAtLines waits lines s) (sym waits) (noted_at_lines lines s t.waits rank wait line b.at);
    }

pub no_stall_under_lock : NoStallUnderLock
no_stall_under_lock h t s never same to stalled =
    let c = comes (lines_of h) t s to in
    never_here_is_no_stall t c.known.free c.known.heard c.known.groups h s never same c.run c.at stalled

pub always_here_is_no_end : AlwaysHereIsNoEnd
always_here_is_no_end h t s always same to end = always (setting t.core) same s (comes (lines_of h) t s to).run.reached end

-- ---- what the engine's own steps are

goes_may_finish : (p r : Parts) (finished : Bool) → Goes p r finished → (setting r ≡ setting p) × MayFinish (setting p) (seen p) (seen r)
goes_may_finish p r true step = (step.set, inr step.steps)
goes_may_finish p r false step = (step.set, inl (sym step.steps))

step_may_finish : (p r : Parts) (stepped : Stepped) → Steps p r stepped → (setting r ≡ setting p) × MayFinish (setting p) (seen p) (seen r)
step_may_finish p r Quiet step = (ap setting step, inl (ap seen (sym step)))
step_may_finish p r Moved step = goes_may_finish p r false step.goes
step_may_finish p r Finished step = goes_may_finish p r true step.goes
step_may_finish p r (Out w) step = (step.stays.set, inl (sym step.stays.same))

commit_may_finish : (p r : Parts) (d : Made) (stepped : Stepped) → CommitSteps p r d stepped → (setting r ≡ setting p) × MayFinish (setting p) (seen p) (seen r)
commit_may_finish p r d Quiet step = absurd step
commit_may_finish p r d Moved step = goes_may_finish p r false step.goes
commit_may_finish p r d Finished step = goes_may_finish p r true step.goes
commit_may_finish p r d (Out w) step = absurd step

pub steps_may_finish : StepsMayFinish
steps_may_finish p r = record {
  step = step_may_finish p r;
  commit = commit_may_finish p r;
  abandon = λ w back. (back.stays.set, inl (sym back.stays.same));
}
