use Rattle.std.proofs.Common.{◌∙◌}
use Rattle.coll_core.specs.Cores.{seen, setting}
use Rattle.coll_serial.proofs.Finding.{started_more, stopped_at}
use Rattle.coll_serial.proofs.engine.Engine.start_all.Goals as goal

pub returns-in-Err-clause-stopped : goal.returns-in-Err-clause-stopped
returns-in-Err-clause-stopped c =
    stopped_at (setting c.args.self.now) (setting c.loop-at.self) c.args.rank (seen c.args.self.now) (seen c.loop-at.self)
    (seen c.start.new.self) c.args.parts.now c.args.given.now c.loop-at.at _ c.request.result c.bytes_of.result.now c.in-Err.why
    c.loop-at.invariant.set c.in-Err.ensures.err c.loop-at-test.true c.request.ensures c.bytes_of.ensures
    c.loop-at.invariant.starts c.in-Err.ensures.refused

pub loop-at-preserved : goal.loop-at-preserved
loop-at-preserved c = record {
  set = c.start.ensures.setting ∙ c.loop-at.invariant.set;
  starts =
      started_more (setting c.args.self.now) (setting c.loop-at.self) c.args.rank (seen c.args.self.now) (seen c.loop-at.self)
      (seen c.start.new.self) c.args.parts.now c.args.given.now c.loop-at.at _ c.request.result c.bytes_of.result.now
      c.loop-at.invariant.set c.loop-at-test.true c.request.ensures c.bytes_of.ensures c.loop-at.invariant.starts
      c.in_default.ensures.starts;
}
