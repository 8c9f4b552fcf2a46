use Rattle.coll_run.proofs.RankEnds.{ranks_got}
use Rattle.coll_run.proofs.rank.run_ranks.Goals as goal

pub returns-clause-ranks : goal.returns-clause-ranks
returns-clause-ranks g c =
    ranks_got (λ ends. ends.all_started) (λ ends. ends.ranks) (λ end. end.got.rank) (λ task. task.port)
    c.in_ok-tasks.tasks.items c.args.ports.items c.run_rank_threads.result c.in_ok-tasks.ensures c.run_rank_threads.ensures.ranks
