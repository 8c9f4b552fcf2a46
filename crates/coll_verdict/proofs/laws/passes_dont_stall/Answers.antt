use Rattle.coll_verdict.proofs.Passing.{passes_dont_stall}
use Rattle.coll_verdict.proofs.laws.passes_dont_stall.Goals as goal

pub returns : goal.returns
returns c = passes_dont_stall
