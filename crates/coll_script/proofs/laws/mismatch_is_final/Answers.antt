use Rattle.coll_script.proofs.Final.{mismatch-final}
use Rattle.coll_script.proofs.laws.mismatch_is_final.Goals as goal

pub returns : goal.returns
returns c = mismatch-final
