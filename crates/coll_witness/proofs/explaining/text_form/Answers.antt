use Rattle.std.specs.String.{string_bytes}
use Rattle.coll_witness.specs.Findings.{heading}
use Rattle.coll_diagnosis.proofs.Heading.{begins-ok}
use Rattle.coll_witness.proofs.Saying.{begins-itself}
use Rattle.coll_witness.proofs.explaining.text_form.Goals as goal

pub returns : goal.returns
returns c =
    begins-ok string_bytes c.after.result (heading c.args.finding) c.heading-head.result.now _
    (begins-itself (heading c.args.finding) c.heading-head.result.now c.heading-head.ensures) c.after.ensures
