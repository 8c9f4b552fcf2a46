use Rattle.std.proofs.Common.{◌∙◌}
use Rattle.coll_diagnosis.proofs.Cutting.{tried}
use Rattle.coll_diagnosis.proofs.cure.is_cure.Goals as goal

pub returns : goal.returns
returns c =
    tried c.never_stalls.result c.args.text.now _ c.args.tried c.requires
    (c.deref.ensures.value ∙ c.in_ok-cured.ensures) c.never_stalls.ensures
