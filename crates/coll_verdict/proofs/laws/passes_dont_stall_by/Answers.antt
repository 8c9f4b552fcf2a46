use Rattle.coll_verdict.proofs.Passing.{passes_dont_stall_by}
use Rattle.coll_verdict.proofs.laws.passes_dont_stall_by.Goals as goal

pub returns : goal.returns
returns c = passes_dont_stall_by
