use Rattle.std.proofs.lemmas.Result.{err_from_is_err_and}
use Rattle.coll_core.specs.Cores.{seen, setting}
use Rattle.coll_serial.proofs.Refused.{post_denied}
use Rattle.coll_serial.proofs.engine.Engine.post.Goals as goal

pub returns-in_err-plan-clause-refused : goal.returns-in_err-plan-clause-refused
returns-in_err-plan-clause-refused c =
    let e = err_from_is_err_and c.from_residual.result c.from_residual.ensures.1 in
    rw (e.1, e.2)
    (post_denied (setting c.args.self.now) (seen c.args.self.now) c.args.rank c.args.comm c.args.sig c.args.bytes.now _ c.in_err-plan.ensures.refused)
