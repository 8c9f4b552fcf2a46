use Rattle.coll_kinds.proofs.Lengths.{lengths_are_small}
use Rattle.coll_kinds.proofs.laws.lengths_are_small.Goals as goal

pub returns : goal.returns
returns c = lengths_are_small
