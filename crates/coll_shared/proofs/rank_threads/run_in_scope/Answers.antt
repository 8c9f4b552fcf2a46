use Rattle.std.proofs.Common.{◌≡◌, List, subst, sym, ◌∙◌}
use Rattle.std.specs.Bool.{OnTrue}
use Rattle.coll_shared.specs.RankThreads.{AreEnds}
use Rattle.coll_shared.proofs.RankThreads.{ends_of_parts, ends_of_tasks, none_of_tasks}
use Rattle.coll_shared.proofs.rank_threads.run_in_scope.Goals.{then-start_ranks, else-start_ranks}
use Rattle.coll_shared.proofs.rank_threads.run_in_scope.Goals as goal

pub returns-clause-ranks : goal.returns-clause-ranks
returns-clause-ranks g c =
    ends_of_parts g.K.RankTask.IsEnd c.args.tasks.items _ _ _ _ c.of.ensures.started c.of.ensures.ranks
    (elim c.if-start_ranks.branch [
      | then-start_ranks w ↦
          ends_of_tasks (λ thread. thread.promise.0.value) g.K.RankTask.IsEnd c.start_ranks.new.threads.items c.args.tasks.items
          c.join_ranks.new.ends.items c.start_ranks.result c.if-start_ranks.all_started w.if-start_ranks.true c.start_ranks.ensures.all
          c.join_ranks.ensures
      | else-start_ranks w ↦ none_of_tasks _ c.if-start_ranks.all_started (w.all_started-is ∙ w.if-start_ranks.false)
    ])
