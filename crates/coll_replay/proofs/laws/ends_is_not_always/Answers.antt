use Rattle.coll_replay.proofs.laws.ends_is_not_always.Goals as goal

pub returns : goal.returns
returns c = λ hears h witness always. always witness.limits witness.groups witness.standing witness.reached witness.ended
