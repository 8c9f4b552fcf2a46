use Rattle.std.proofs.Common.{ap}
use Rattle.coll_bytes.proofs.Laying.{inside_of}
use Rattle.coll_bytes.proofs.segments.Segments.put.Goals as goal

pub lay-requires-clause-inside : goal.lay-requires-clause-inside
lay-requires-clause-inside c =
    inside_of c.self.inside.size c.self.inside.segments.items c.args.self.now.bytes c.args.region
    (ap (λ v. v.bytes) c.self.view_is) c.self.invariant c.requires.inside
