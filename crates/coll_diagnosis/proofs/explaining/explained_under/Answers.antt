use Rattle.std.proofs.Common.{refl}
use Rattle.coll_script.proofs.Answering.{HasMeaning-script}
use Rattle.coll_diagnosis.proofs.Meaning.{found-script}
use Rattle.coll_diagnosis.proofs.explaining.explained_under.Goals as goal

pub under-requires : goal.under-requires
under-requires c = c.requires _ c.in_ok-script.ensures.read

pub returns-in-Ok-clause-meaning : goal.returns-in-Ok-clause-meaning
returns-in-Ok-clause-meaning c = HasMeaning-script _ _ c.in_ok-script.ensures.read

pub returns-in-Ok-clause-found : goal.returns-in-Ok-clause-found
returns-in-Ok-clause-found c = found-script _ _ _ _ _ c.in_ok-script.ensures.read c.in-Ok.ensures.found

pub returns-in-Err-Torn-clause-faults : goal.returns-in-Err-Torn-clause-faults
returns-in-Err-Torn-clause-faults c = HasMeaning-script _ _ c.in_ok-script.ensures.read

pub returns : goal.returns
returns c = record { meaning = tt; same = tt; found = tt; faults = HasMeaning-script _ _ c.in_ok-script.ensures.read; unstalled = refl }
