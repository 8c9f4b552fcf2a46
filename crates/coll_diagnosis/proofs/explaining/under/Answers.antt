use Rattle.coll_diagnosis.proofs.explaining.under.Goals as goal

pub returns-clause-found : goal.returns-clause-found
returns-clause-found c = record {
  standing = c.in_ok-explanation.ensures.shown;
  reading = c.in_ok-explanation.ensures.reading;
  tried = c.in_ok-explanation.ensures.cure;
}
