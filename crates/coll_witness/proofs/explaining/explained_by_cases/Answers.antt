use Rattle.coll_witness.proofs.explaining.explained_by_cases.Goals as goal

pub explained_under-requires : goal.explained_under-requires
explained_under-requires c = rw c.in-Ok-Some.field-0-is at c.in-Ok-Some.ensures
