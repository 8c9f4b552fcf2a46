use Rattle.std.proofs.Common.{◌∙◌, ap, length, sym}
use Rattle.coll_bytes.proofs.Laying.{length_laid}
use Rattle.coll_bytes.proofs.segments.Segments.size.Goals as goal

pub returns : goal.returns
returns c = sym (length_laid c.self.inside.size c.self.inside.segments.items c.self.invariant) ∙ ap (λ v. length v.bytes) c.self.view_is
