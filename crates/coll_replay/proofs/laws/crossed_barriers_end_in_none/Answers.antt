use Rattle.coll_replay.proofs.laws.crossed_barriers_end_in_none.Goals as goal

pub returns : goal.returns
returns c = λ hears witness. c.crossed_barriers_stall_by.ensures hears witness.limits witness.groups witness.standing witness.reached witness.ended
