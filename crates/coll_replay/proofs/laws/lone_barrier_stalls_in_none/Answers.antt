use Rattle.coll_replay.proofs.laws.lone_barrier_stalls_in_none.Goals as goal

pub returns : goal.returns
returns c = λ hears witness. c.lone_barrier_never_stalls_by.ensures hears witness.limits witness.groups witness.standing witness.reached witness.stalled
