use Rattle.std.proofs.Common.{◌≤◌, length}
use Rattle.coll_core.specs.Cores.{seen}
use Rattle.coll_serial.proofs.Keeping.{kept_tested}
use Rattle.coll_serial.proofs.Outcomes.{taken, tested_fits}
use Rattle.coll_serial.proofs.engine.Engine.take.Goals as goal

pub invariant_of-self-2 : goal.invariant_of-self-2
invariant_of-self-2 c =
    kept_tested c.self.inside.core c.test.new.core c.self.inside.communicators c.self.inside.outcome_lengths.items c.args.rank
    c.args.request.now c.in_ok-flag.field-0.outcome c.self.invariant c.in_ok-flag.ensures.setting c.in_ok-flag.ensures.completes

pub returns-clause-takes : goal.returns-clause-takes
returns-clause-takes c =
    let o = c.in-Some.outcome in
    let within : length o.bytes ≤ c.args.room =
    tested_fits c.self.inside.core c.args.self.now c.self.view_is (seen c.test.new.core) c.args.rank c.args.request.now
    c.in_ok-flag.field-0.outcome o c.in-Some.is c.args.room
    c.lock_is_free.ensures c.in_ok-flag.ensures.outcome c.in_ok-flag.ensures.completes c.in_ok-check_room.ensures.room in
    taken c.self.inside.core c.args.self.now c.self.view_is (seen c.test.new.core) c.args.rank c.args.request.now
    c.in_ok-flag.field-0.outcome o c.in-Some.is c.in_ok-flag.ensures.completes c.args.room within
