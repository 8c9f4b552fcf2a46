use Rattle.std.proofs.Common.{false}
use Rattle.coll_lists.specs.Layouts.{size}
use Rattle.coll_lists.proofs.Values.{lawful-seen}
use Rattle.coll_lists.proofs.Walking.{onward-start}
use Rattle.coll_lists.proofs.links.Links.nodes.Goals as goal

pub invariant_of-result : goal.invariant_of-result
invariant_of-result c = record {
  lawful = lawful-seen c.self.inside.columns.next.items c.self.inside.columns.prev.items c.self.inside.columns.list.items
      c.self.inside.columns.len.items _ c.args.self.now c.self.invariant c.self.view_is;
  in_range = (onward-start (size c.args.self.now) c.args.self.now
      (lawful-seen c.self.inside.columns.next.items c.self.inside.columns.prev.items c.self.inside.columns.list.items
      c.self.inside.columns.len.items _ c.args.self.now c.self.invariant c.self.view_is) false c.args.list c.first-at.result c.requires c.first-at.ensures).1;
}

pub returns : goal.returns
returns c = (onward-start (size c.args.self.now) c.args.self.now
    (lawful-seen c.self.inside.columns.next.items c.self.inside.columns.prev.items c.self.inside.columns.list.items
    c.self.inside.columns.len.items _ c.args.self.now c.self.invariant c.self.view_is) false c.args.list c.first-at.result c.requires c.first-at.ensures).0
