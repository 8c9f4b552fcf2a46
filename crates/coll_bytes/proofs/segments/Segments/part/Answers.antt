use Rattle.std.proofs.Common.{ap}
use Rattle.coll_bytes.proofs.Laying.{inside_of}
use Rattle.coll_bytes.proofs.segments.Segments.part.Goals as goal

pub holder-requires-clause-inside : goal.holder-requires-clause-inside
holder-requires-clause-inside c =
    inside_of c.self.inside.size c.self.inside.segments.items c.args.self.now.bytes c.args.from (ap (λ v. v.bytes) c.self.view_is) c.self.invariant c.requires

pub composed-requires-clause-inside : goal.composed-requires-clause-inside
composed-requires-clause-inside c =
    inside_of c.self.inside.size c.self.inside.segments.items c.args.self.now.bytes c.args.from (ap (λ v. v.bytes) c.self.view_is) c.self.invariant c.requires
