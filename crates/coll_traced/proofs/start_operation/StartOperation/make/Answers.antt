use Rattle.std.proofs.Common.{sym, ◌∙◌}
use Rattle.coll_traced.proofs.Places.{last_started}
use Rattle.coll_traced.proofs.start_operation.StartOperation.make.Goals as goal

pub last-requires : goal.last-requires
last-requires g c =
    let e = c.in-Ok.ensures in
    last_started _ _ _ _ _ _ _ _ _ e.entry e.receipt.1 c.last_place-start.ensures c.args.self.shared
