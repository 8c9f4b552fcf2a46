use Rattle.coll_replay.proofs.laws.stalls_is_not_never.Goals as goal

pub returns : goal.returns
returns c = λ hears h witness. record {
  here = λ never. never witness.limits witness.groups witness.standing witness.reached witness.stalled;
  anywhere = λ never. c.never_is_never_by.ensures hears h never witness.limits witness.groups witness.standing witness.reached witness.stalled;
}
