use Rattle.std.proofs.Common.{◌∙◌}
use Rattle.coll_run.proofs.Indexing.{handed-found}
use Rattle.coll_run.proofs.index.find.Goals as goal

pub returns : goal.returns
returns c =
    handed-found c.args.index.now.entries c.args.completion c.copied.result (c.copied.ensures ∙ c.get.ensures.value)
