use Rattle.coll_plans.specs.Plans.{family}
use Rattle.coll_plans.specs.Hearings.{heard_in}
use Rattle.coll_diagnosis.specs.Hearings.{ArePlans, AreRows}
use Rattle.coll_diagnosis.proofs.hearing.heard.Given as goal

abbrev pub invariant-loop-round : goal.invariant-loop-round
invariant-loop-round l = record {
  plans : ArePlans l.fn.sig l.n l.plans.items;
  rows : AreRows l.n (heard_in (family l.fn.sig l.n) l.round) l.rows.items;
}
