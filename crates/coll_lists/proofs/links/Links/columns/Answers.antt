use Rattle.std.proofs.Common.{◌<◌, ap, length, subst, sym}
use Rattle.coll_lists.specs.WellLinked.{IsWellLinked}
use Rattle.coll_lists.proofs.Values.{lawful-seen}
use Rattle.coll_lists.proofs.WellLinked.{IsWellLinked-shown}
use Rattle.coll_lists.proofs.links.Links.columns.Goals as goal

pub returns-clause-lawful : goal.returns-clause-lawful
returns-clause-lawful c =
    lawful-seen c.self.inside.columns.next.items c.self.inside.columns.prev.items c.self.inside.columns.list.items
    c.self.inside.columns.len.items _ c.args.self.now c.self.invariant c.self.view_is

pub returns-clause-well_linked : goal.returns-clause-well_linked
returns-clause-well_linked c =
    λ l low. subst (λ z. IsWellLinked c.self.inside.columns z l) c.self.view_is
    (IsWellLinked-shown c.self.inside.columns _ c.self.invariant l (subst (λ z. l < z) (sym (ap length c.self.view_is)) low))
