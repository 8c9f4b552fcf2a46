use Rattle.std.proofs.Common.{◌<◌, arith, length}
use Rattle.coll_lists.proofs.Reading.{node_in, reads_next}
use Rattle.coll_lists.proofs.links.Links.next.Goals as goal

pub index-requires : goal.index-requires
index-requires c =
    let low : c.args.node < length c.self.inside.columns.list.items =
    node_in c.self.inside.columns.next.items c.self.inside.columns.prev.items c.self.inside.columns.list.items
    c.self.inside.columns.len.items _ c.args.self.now c.self.invariant c.self.view_is c.args.node c.requires in
    omega (arith, c.self.invariant.next_len)

pub returns : goal.returns
returns c =
    reads_next c.self.inside.columns.next.items c.self.inside.columns.prev.items c.self.inside.columns.list.items
    c.self.inside.columns.len.items _ c.args.self.now c.self.invariant c.self.view_is c.args.node c.requires _ _ c.index.ensures c.node_at.ensures
