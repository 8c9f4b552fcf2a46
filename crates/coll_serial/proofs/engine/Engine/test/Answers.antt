use Rattle.std.proofs.Common.{length, refl}
use Rattle.coll_core.specs.Cores.{seen, setting}
use Rattle.coll_serial.specs.Calls.{Takes}
use Rattle.coll_serial.proofs.Outcomes.{completed, taken_at}
use Rattle.coll_serial.proofs.engine.Engine.test.Goals as goal

pub lay_out-requires : goal.lay_out-requires
lay_out-requires c =
    let p = c.args.self.now in
    let takes = taken_at (λ outcome. Takes (setting p) (seen p) c.args.rank c.args.request.now (length c.args.out.now) outcome
    (seen c.take.new.self)) c.in_ok-take.field-0 c.in-Completed.outcome c.in-Completed.is c.in_ok-take.ensures.takes in
    rw c.as_slice.ensures takes.within

pub returns-in-Completed-clause-completes : goal.returns-in-Completed-clause-completes
returns-in-Completed-clause-completes c =
    let p = c.args.self.now in let n = seen c.take.new.self in let o = c.in-Completed.outcome in
    let takes = taken_at (λ outcome. Takes (setting p) (seen p) c.args.rank c.args.request.now (length c.args.out.now) outcome n)
    c.in_ok-take.field-0 o c.in-Completed.is c.in_ok-take.ensures.takes in
    completed (setting p) (seen p) n c.args.rank c.args.request.now o (length c.args.out.now) takes c.len.result c.args.out.now
    c.lay_out.new.out c.as_slice.result.now refl c.len.ensures c.as_slice.ensures c.lay_out.ensures
