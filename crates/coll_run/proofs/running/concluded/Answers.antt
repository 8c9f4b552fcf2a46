use Rattle.std.proofs.Common.{IfOk, All, List, ap, map, subst, ◌∙◌}
use Rattle.coll_report.specs.Attested.{HandedOut}
use Rattle.coll_run.specs.declared.rank.Got.{Got}
use Rattle.coll_run.proofs.running.concluded.Goals as goal

pub returns-in-Ok-close-clause-got : goal.returns-in-Ok-close-clause-got
returns-in-Ok-close-clause-got g c =
    subst
    (λ (all : List Got). IfOk c.judge.result (λ done. All {X = Got} (λ got. HandedOut done.1.entries got.rank got.outcomes.items) all))
    (c.deref-in-Ok-close.ensures.value ∙ (c.in-Ok.ensures.got ∙ ap (map (λ e. e.got)) c.into_parts-all_started.ensures.ranks))
    c.judge.ensures.got
