use Rattle.std.proofs.Common.{◌∙◌, List, length, ap, arith}
use Rattle.coll_sched.specs.declared.region.Region.{Region}
use Rattle.coll_sched.specs.Regions.{read_of}
use Rattle.coll_bytes.specs.declared.segment.Segment.{Segment}
use Rattle.coll_bytes.specs.Laid.{laid}
use Rattle.coll_bytes.proofs.Laying.{length_laid, read_all}
use Rattle.coll_bytes.proofs.segments.Segments.copy_to.Goals as goal

pub compose_in-requires-clause-room : goal.compose_in-requires-clause-room
compose_in-requires-clause-room c =
    let long = length_laid c.self.inside.size c.self.inside.segments.items c.self.invariant in
    let shown = ap (λ v. length v.bytes) c.self.view_is in
    let front_len = ap (λ (g : Region). g.len) c.front-all.ensures in
    omega (arith, long, shown, front_len, c.requires.room)

pub returns : goal.returns
returns c =
    c.compose_in.ensures ∙ ap (λ (xs : List Segment). read_of (laid c.self.inside.size xs) c.front-all.result) c.as_slice.ensures
    ∙ ap (λ (g : Region). read_of (laid c.self.inside.size c.self.inside.segments.items) g) c.front-all.ensures
    ∙ read_all c.self.inside.size c.self.inside.segments.items c.self.invariant ∙ ap (λ v. v.bytes) c.self.view_is
