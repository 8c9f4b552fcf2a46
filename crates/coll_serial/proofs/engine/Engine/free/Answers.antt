use Rattle.coll_serial.proofs.Keeping.{kept_freed}
use Rattle.coll_serial.proofs.engine.Engine.free.Goals as goal

pub invariant_of-self : goal.invariant_of-self
invariant_of-self c =
    kept_freed c.self.inside.core c.request_free.new.core c.self.inside.communicators c.self.inside.outcome_lengths.items c.args.rank c.args.request.now
    c.request_free.new.request c.request_free.result c.self.invariant c.request_free.ensures.setting c.request_free.ensures.frees c.request_free.ensures.err
