use Rattle.coll_lists.proofs.Reading.{reads_last}
use Rattle.coll_lists.proofs.links.Links.last.Goals as goal

pub returns : goal.returns
returns c =
    reads_last c.self.inside.columns.next.items c.self.inside.columns.prev.items c.self.inside.columns.list.items
    c.self.inside.columns.len.items _ c.args.self.now c.self.invariant c.self.view_is c.args.list c.requires _ _ _
    c.head-head.ensures c.index.ensures c.node_at.ensures
