use Rattle.coll_witness.proofs.explaining.run_object.Goals as goal

pub returns : goal.returns
returns c = rw (← c.word-word.ensures, ← c.heading-head.ensures) c.format.ensures.ok
