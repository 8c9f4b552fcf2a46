-- What an engine's calls and steps are in a run of a job.
use Rattle.std.proofs.Common.{◌≡◌, ◌⊎◌, inl, inr, ℕ, Bool, true, false, List, refl, sym, ap, subst, ◌∙◌}
use Rattle.coll_kinds.specs.Common.{put}
use Rattle.coll_kinds.proofs.Puts.{put_cases, put_same}
use Rattle.coll_machine.specs.Common.{Setting, Machine, MachineStep, MayFinish, Finish, Nothing, phased}
use Rattle.coll_machine.specs.Machines as machines
use Rattle.coll_machine.specs.Steps.{Finishes}
use Rattle.coll_plans.specs.Hearings.{hears_here}
use Rattle.coll_parser.specs.declared.command.Command.{Command}
use Rattle.coll_verdict.specs.Standings.{Standing, carried_out, Carries}
use Rattle.coll_verdict.specs.Waiting.{HasHeard, StepsBy, ReachesBy, goes_on}
use Rattle.coll_verdict.specs.Waiting as waiting
use Rattle.coll_core.specs.declared.stepped.Stepped.TheVariants.{Quiet, Moved, Finished, Out}
use Rattle.coll_core.specs.Cores.{Parts, seen, setting}
use Rattle.coll_core.specs.Steps.{CommitSteps, Finishings, Goes, Steps}
use Rattle.coll_core.specs.Steps as core
use Rattle.coll_deadlock.specs.Heard.{NoneEarly, SlotHasHeard}
use Rattle.coll_deadlock.specs.Runs.{IsRunOf}
use Rattle.coll_deadlock.specs.CoreLaws.{BeginsWhereOpened, FinishIsStep, GoesOnByCalls, GoesOnByCommit, GoesOnByStep, GoesOnBySteps, GoesOnWhereNothingChanges}

-- ---- a Finish

record IsFinish (g : Setting) (m n : Machine) : Type 0 where
  slot : ℕ
  done : ℕ → Bool
  finishes : Finishes g m slot done
  is : n ≡ phased m.state (put m.done slot true)

finish_is : (g : Setting) (m n : Machine) → MachineStep g m Finish Nothing n → IsFinish g m n
finish_is g _ _ (machines.finish {m} {done} slot f) = record { slot = slot; done = done; finishes = f; is = ap (phased m.state) f.leaves }

-- the request that becomes Done has heard, since what is Done after that has
pub finish_is_step : FinishIsStep
finish_is_step g n lines s step early =
    let f = finish_is g s.machine n step in
    let has : SlotHasHeard g s.machine.state f.slot =
    subst (λ (n : Machine). n.done f.slot ≡ true → SlotHasHeard g n.state f.slot) f.is (early f.slot) (put_same s.machine.done f.slot true) in
    subst (λ (n : Machine). StepsBy hears_here g lines s (record s { machine = n })) (sym f.is)
    (waiting.finishes f.slot has.start has.request has.sig has.is f.finishes.pending has.heard)

-- nothing was Done early before it either
none_before : (g : Setting) (m n : Machine) → MachineStep g m Finish Nothing n → NoneEarly g n → NoneEarly g m
none_before g m n step early slot done =
    let f = finish_is g m n step in
    subst (λ (n : Machine). n.done slot ≡ true → SlotHasHeard g n.state slot) f.is (early slot) (still f.slot)
  where
    still : (other : ℕ) → put m.done other true slot ≡ true
    still other = go (put_cases m.done other true slot)
      where
        go : ((slot ≡ other) × (put m.done other true slot ≡ true)) ⊎ ((slot ≡ other → ⊥) × (put m.done other true slot ≡ m.done slot))
            → put m.done other true slot ≡ true
        go (inl a) = a.1
        go (inr a) = a.1 ∙ done

-- ---- a run of a job

pub begins_where_opened : BeginsWhereOpened
begins_where_opened p lines e = record { machine_is = sym e; reached = waiting.begins }

-- the machine that a run comes to may be said in other words
reached_at : (g : Setting) (lines : ℕ → List Command) (s : Standing) (m n : Machine) → m ≡ n
    → ReachesBy hears_here g lines (record s { machine = m }) → ReachesBy hears_here g lines (record s { machine = n })
reached_at g lines s m n e r = subst (λ (m : Machine). ReachesBy hears_here g lines (record s { machine = m })) e r

-- requests become Done, one after the other
many_finish : (g : Setting) (lines : ℕ → List Command) (s : Standing) (m n : Machine) → Finishings g m n → NoneEarly g n
    → ReachesBy hears_here g lines (record s { machine = m })
    → ReachesBy hears_here g lines (record s { machine = n })
many_finish g lines s m _ core.none early r = r
many_finish g lines s m _ (core.more {mid} {n} before step) early r =
    goes_on (many_finish g lines s m mid before (none_before g mid n step early) r) (finish_is_step g n lines (record s { machine = mid }) step early)

may_finish : (g : Setting) (lines : ℕ → List Command) (s : Standing) (m n : Machine) → MayFinish g m n → NoneEarly g n
    → ReachesBy hears_here g lines (record s { machine = m })
    → ReachesBy hears_here g lines (record s { machine = n })
may_finish g lines s m n (inl e) early r = reached_at g lines s m n e r
may_finish g lines s m n (inr step) early r = goes_on r (finish_is_step g n lines (record s { machine = m }) step early)

same_setting : (g f : Setting) (lines : ℕ → List Command) (s : Standing) → f ≡ g → ReachesBy hears_here g lines s → ReachesBy hears_here f lines s
same_setting g f lines s e r = subst (λ (g : Setting). ReachesBy hears_here g lines s) (sym e) r

early_there : (f g : Setting) (n : Machine) → f ≡ g → NoneEarly f n → NoneEarly g n
early_there f g n e early = subst (λ (g : Setting). NoneEarly g n) e early

module _ (r : Parts) (early : NoneEarly (setting r) (seen r)) where
  pub goes_on_by_calls : GoesOnByCalls r
  goes_on_by_calls p lines s rank c mid i run set get step finish = record {
    machine_is = refl;
    reached = same_setting (setting p) (setting r) lines (carried_out s rank (seen r) i) set
        (may_finish (setting p) lines (carried_out s rank mid i) mid (seen r) finish (early_there (setting r) (setting p) (seen r) set early)
        (goes_on run.reached (waiting.carries rank c get
        (subst (λ (m : Machine). Carries (setting p) rank m (s.holds rank) c mid i) (sym run.machine_is) step))));
  }

  pub goes_on_by_steps : GoesOnBySteps r
  goes_on_by_steps p lines s run set steps = record {
    machine_is = refl;
    reached = same_setting (setting p) (setting r) lines (record s { machine = seen r }) set
        (many_finish (setting p) lines s (seen p) (seen r) steps (early_there (setting r) (setting p) (seen r) set early)
        (reached_at (setting p) lines s s.machine (seen p) run.machine_is run.reached));
  }

  stays : (p : Parts) (lines : ℕ → List Command) (s : Standing) → IsRunOf p lines s → setting r ≡ setting p → seen r ≡ seen p
      → IsRunOf r lines (record s { machine = seen r })
  stays p lines s run set same = record {
    machine_is = refl;
    reached = same_setting (setting p) (setting r) lines (record s { machine = seen r }) set
        (reached_at (setting p) lines s s.machine (seen r) (run.machine_is ∙ sym same) run.reached);
  }

  goes : (p : Parts) (lines : ℕ → List Command) (s : Standing) (finished : Bool) → IsRunOf p lines s → Goes p r finished
      → IsRunOf r lines (record s { machine = seen r })
  goes p lines s true run step = goes_on_by_steps p lines s run step.set (core.more core.none step.steps)
  goes p lines s false run step = stays p lines s run step.set step.steps

  pub goes_on_by_step : GoesOnByStep r
  goes_on_by_step p lines s Quiet run step = stays p lines s run (ap setting step) (ap seen step)
  goes_on_by_step p lines s Moved run step = goes p lines s false run step.goes
  goes_on_by_step p lines s Finished run step = goes p lines s true run step.goes
  goes_on_by_step p lines s (Out w) run step = stays p lines s run step.stays.set step.stays.same

  pub goes_on_by_commit : GoesOnByCommit r
  goes_on_by_commit p lines s d Quiet run step = absurd step
  goes_on_by_commit p lines s d Moved run step = goes p lines s false run step.goes
  goes_on_by_commit p lines s d Finished run step = goes p lines s true run step.goes
  goes_on_by_commit p lines s d (Out w) run step = absurd step

  pub goes_on_where_nothing_changes : GoesOnWhereNothingChanges r
  goes_on_where_nothing_changes p lines s run set same = record {
    machine_is = run.machine_is ∙ sym same;
    reached = same_setting (setting p) (setting r) lines s set run.reached;
  }
