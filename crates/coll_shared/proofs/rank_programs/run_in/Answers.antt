use Rattle.std.proofs.Common.{◌≡◌, inl, inr, subst, sym, ◌∙◌}
use Rattle.std.specs.Prelude.{IfOk}
use Rattle.std.proofs.lemmas.Result.{err_from_is_err_and}
use Rattle.coll_traced.specs.Awaiting.{IsSetback}
use Rattle.coll_shared.proofs.RankPrograms.{ended, given_ok, ports_long, ranks_of, set_back}
use Rattle.coll_shared.proofs.rank_programs.run_in.Goals as goal

pub tasks_of-requires : goal.tasks_of-requires
tasks_of-requires g c =
    c.requires.programs ∙ sym (c.in_ok-engine.ports.ok.0 ∙ ports_long _ _ _ c.in_ok-engine.ensures.ports)

pub returns-in_err-ends-clause-refused : goal.returns-in_err-ends-clause-refused
returns-in_err-ends-clause-refused g c =
    let p = err_from_is_err_and c.from_residual-in_err-ends.result c.from_residual-in_err-ends.ensures.1 in
    let why : IsSetback c.in_err-ends.field-0.0 =
    set_back _ _ c.in_err-ends.field-0.0 c.in_ok-run_rank_threads.ensures.setbacks c.in_err-ends.ensures.refused in
    rw p.1 (inr (inl (subst IsSetback (sym p.2) why)))

pub returns-clause-setting : goal.returns-clause-setting
returns-clause-setting g c = subst (λ s. IfOk c.concluded.result (λ r. r.1.setting ≡ s)) c.requires.setting c.concluded.ensures.setting

pub returns-clause-values : goal.returns-clause-values
returns-clause-values g c =
    given_ok g.P.RankProgram.Gives (λ task. task.program) (λ task. task.port.rank) (λ end. end.value) (λ r. r.0.items)
    c.in_ok-tasks.tasks.items c.in_ok-ends.ends.items c.args.programs.items c.concluded.result
    (ended _ _ _ _ _ c.in_ok-run_rank_threads.ensures.ranks c.in_ok-ends.ensures.started c.in_ok-ends.ensures.ranks)
    (ranks_of (λ task. task.port) _ _ c.in_ok-tasks.tasks.items _ c.in_ok-tasks.ensures.ports c.in_ok-engine.ensures.ports)
    c.in_ok-tasks.ensures.programs c.concluded.ensures.values
