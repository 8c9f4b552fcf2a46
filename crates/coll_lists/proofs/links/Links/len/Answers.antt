use Rattle.coll_lists.proofs.Reading.{reads_len}
use Rattle.coll_lists.proofs.links.Links.len.Goals as goal

pub returns : goal.returns
returns c =
    reads_len c.self.inside.columns.next.items c.self.inside.columns.prev.items c.self.inside.columns.list.items
    c.self.inside.columns.len.items _ c.args.self.now c.self.invariant c.self.view_is c.args.list c.requires _ c.index.ensures
