use Rattle.std.proofs.lemmas.List.{take-replicate}
use Rattle.coll_bytes.specs.declared.bytes.TheConstants.{FEW}
use Rattle.coll_bytes.proofs.composed.composed_few.Goals as goal

pub compose-requires-clause-zeros : goal.compose-requires-clause-zeros
compose-requires-clause-zeros c = take-replicate c.args.from.len FEW 0 c.requires.few
