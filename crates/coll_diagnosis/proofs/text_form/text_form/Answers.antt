use Rattle.std.specs.String.{string_bytes}
use Rattle.coll_diagnosis.proofs.Heading.{begins-ok}
use Rattle.coll_diagnosis.proofs.text_form.text_form.Goals as goal

pub returns : goal.returns
returns c = begins-ok string_bytes c.after.result _ _ _ c.headline-head.ensures c.after.ensures
