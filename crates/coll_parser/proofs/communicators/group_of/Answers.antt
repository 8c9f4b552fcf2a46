use Rattle.std.proofs.Common.{◌<◌, length, sym}
use Rattle.std.proofs.lemmas.Bool.{ltb-true}
use Rattle.coll_parser.proofs.Lists.{AllByRecursion-at, slice_get-view}
use Rattle.coll_parser.specs.Code.{rows_view}
use Rattle.coll_parser.proofs.communicators.group_of.Goals as goal

pub returns-in-Some-clause-few : goal.returns-in-Some-clause-few
returns-in-Some-clause-few c =
    let found = c.in-Some.ensures.lookup in
    let within : c.args.comm < length c.args.groups.now = ltb-true _ _ (sym found.0) in
    let at = slice_get-view (λ row. row.items) c.args.groups.now c.args.comm c.in-Some.group.now within found.1 in
    rw c.deref.ensures.value (AllByRecursion-at _ (rows_view c.args.groups.now) c.args.comm _ c.requires at)
