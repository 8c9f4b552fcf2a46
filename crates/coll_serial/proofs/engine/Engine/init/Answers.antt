use Rattle.std.proofs.Common.{◌<◌, length, arith}
use Rattle.std.proofs.lemmas.Result.{err_from_is_err_and}
use Rattle.coll_core.specs.Cores.{seen, setting}
use Rattle.coll_core.specs.Posts.{planned}
use Rattle.coll_serial.proofs.Keeping.{kept_inited}
use Rattle.coll_serial.proofs.Measuring.{init_low}
use Rattle.coll_serial.proofs.Refused.{init_denied}
use Rattle.coll_serial.proofs.engine.Engine.init.Goals as goal

pub index_mut-requires : goal.index_mut-requires
index_mut-requires c =
    let p = c.self.inside.core in
    let low : c.in-Ok.ticket.slot < length c.self.inside.outcome_lengths.items =
    init_low (setting p) (seen p) (seen c.init.new.self) c.args.rank c.args.comm (planned c.in_ok-plan.plan) c.in-Ok.ticket
    c.self.inside.outcome_lengths.items c.in-Ok.ensures.made c.self.invariant.measured in
    omega (arith, low, c.self.inside.outcome_lengths.ok)

pub invariant_of-self : goal.invariant_of-self
invariant_of-self c =
    kept_inited c.self.inside.core c.init.new.self c.self.inside.communicators c.self.inside.outcome_lengths.items c.args.rank
    c.args.comm (planned c.in_ok-plan.plan) c.in-Ok.ticket c.outcome_len-outcome_len.result
    c.self.invariant c.in-Ok.ensures.setting c.in-Ok.ensures.made c.outcome_len-outcome_len.ensures

pub returns-in_err-plan-clause-refused : goal.returns-in_err-plan-clause-refused
returns-in_err-plan-clause-refused c =
    let e = err_from_is_err_and c.from_residual.result c.from_residual.ensures.1 in
    rw (e.1, e.2) (init_denied (setting c.args.self.now) (seen c.args.self.now) c.args.rank c.args.comm c.args.sig _ c.in_err-plan.ensures.refused)
