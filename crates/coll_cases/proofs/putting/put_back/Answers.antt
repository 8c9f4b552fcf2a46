use Rattle.std.proofs.Common.{subst}
use Rattle.coll_cases.specs.Code.{Puts}
use Rattle.coll_cases.proofs.Placed.{back_stood}
use Rattle.coll_cases.proofs.putting.put_back.Goals as goal

pub returns : goal.returns
returns c = λ yes h out call stood.
    let puts = subst (Puts c.args.ranks.now.items c.put-is_put.new.ranks.items c.args.split.now.rank c.args.split.now.place) c.in_ok-command.ensures
    (c.put-is_put.ensures yes) in
    back_stood h c.args.split.now.rank c.args.split.now.place c.args.split.now.command out call.get call.choice
    c.args.ranks.now.items c.put-is_put.new.ranks.items puts stood
