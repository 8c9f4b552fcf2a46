use Rattle.std.proofs.Common.{ap, sym}
use Rattle.coll_run.proofs.RankEnds.{all_ranks}
use Rattle.coll_run.proofs.running.run_in.Goals as goal

pub concluded-requires-clause-ranks : goal.concluded-requires-clause-ranks
concluded-requires-clause-ranks g c =
    all_ranks c.in-Ok.ends.all_started _ _ _ _ c.in_ok-engine.ports.items c.in-Ok.ensures.ranks c.in_ok-engine.ensures.ports
    (sym (ap (λ s. s.ranks) c.requires.setting))
