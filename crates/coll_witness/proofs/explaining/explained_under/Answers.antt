use Rattle.std.specs.String.{string_bytes}
use Rattle.coll_witness.proofs.Saying.{said-of-all, true-of-all}
use Rattle.coll_witness.proofs.explaining.explained_under.Goals as goal

pub returns-clause-said : goal.returns-clause-said
returns-clause-said c = said-of-all (λ x. x.status) (λ x. string_bytes x.lines) c.args.options c.explain_as.result c.explain_as.ensures.said

pub returns-clause-verdict : goal.returns-clause-verdict
returns-clause-verdict c =
    true-of-all (λ x. x.status) (λ x. string_bytes x.lines) c.args.text.now c.args.options c.explain_as.result c.explain_as.ensures.verdict
