use Rattle.coll_lists.proofs.Changing.{Shows-walks}
use Rattle.coll_lists.proofs.Opening.{Shows-opened}
use Rattle.coll_lists.proofs.Values.{walks-shown}
use Rattle.coll_lists.proofs.links.Links.new.Goals as goal

pub invariant_of-result : goal.invariant_of-result
invariant_of-result c =
    Shows-walks c.in_ok-columns.columns.next.items c.in_ok-columns.columns.prev.items c.in_ok-columns.columns.list.items c.in_ok-columns.columns.len.items _
    (Shows-opened _ _ _ _ c.args.nodes c.args.lists c.requires.some c.requires.room c.in_ok-columns.ensures.next_len
    c.in_ok-columns.ensures.next c.in_ok-columns.ensures.prev_len c.in_ok-columns.ensures.prev c.in_ok-columns.ensures.list c.in_ok-columns.ensures.len)

pub returns-clause-made : goal.returns-clause-made
returns-clause-made c =
    walks-shown c.in_ok-columns.columns.next.items c.in_ok-columns.columns.prev.items c.in_ok-columns.columns.list.items c.in_ok-columns.columns.len.items _
    (Shows-opened _ _ _ _ c.args.nodes c.args.lists c.requires.some c.requires.room c.in_ok-columns.ensures.next_len
    c.in_ok-columns.ensures.next c.in_ok-columns.ensures.prev_len c.in_ok-columns.ensures.prev c.in_ok-columns.ensures.list c.in_ok-columns.ensures.len)
