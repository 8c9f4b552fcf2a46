use Rattle.std.proofs.Common.{refl}
use Rattle.coll_script.proofs.Answering.{HasMeaning-script}
use Rattle.coll_diagnosis.proofs.Meaning.{found-script, means-script}
use Rattle.coll_diagnosis.proofs.explaining.explained.Goals as goal

pub returns-in-Ok-clause-meaning : goal.returns-in-Ok-clause-meaning
returns-in-Ok-clause-meaning c = HasMeaning-script _ _ c.in_ok-script.ensures.read

pub returns-in-Ok-clause-means : goal.returns-in-Ok-clause-means
returns-in-Ok-clause-means c = means-script _ _ _ c.in_ok-script.ensures.read c.in-Ok.ensures.means

pub returns-in-Ok-clause-found : goal.returns-in-Ok-clause-found
returns-in-Ok-clause-found c = found-script _ _ _ _ _ c.in_ok-script.ensures.read (record {
  standing = c.in-Ok.ensures.shown;
  reading = c.in-Ok.ensures.reading;
  tried = c.in-Ok.ensures.cure;
})

pub returns-in-Err-Torn-clause-faults : goal.returns-in-Err-Torn-clause-faults
returns-in-Err-Torn-clause-faults c = HasMeaning-script _ _ c.in_ok-script.ensures.read

pub returns : goal.returns
returns c = record { meaning = tt; means = tt; found = tt; faults = HasMeaning-script _ _ c.in_ok-script.ensures.read; unstalled = refl }
