use Rattle.std.proofs.Common.{inr}
use Rattle.coll_witness.proofs.explaining.explain_text.Goals as goal

pub returns-in-Ok-Some-clause-said : goal.returns-in-Ok-Some-clause-said
returns-in-Ok-Some-clause-said c = let is = rw c.in-Ok-Some.field-0-is at c.in-Ok-Some.ensures in record { of = inr is.says }

pub returns-in-Ok-Some-clause-verdict : goal.returns-in-Ok-Some-clause-verdict
returns-in-Ok-Some-clause-verdict c = let is = rw c.in-Ok-Some.field-0-is at c.in-Ok-Some.ensures in record { of = inr is }
