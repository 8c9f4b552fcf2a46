use Rattle.std.proofs.Common.{◌≡◌, length, arith}
use Rattle.coll_serial.proofs.Keeping.{opened}
use Rattle.coll_serial.proofs.engine.Engine.open.Goals as goal

pub invariant_of-result : goal.invariant_of-result
invariant_of-result c =
    let many : length c.in_ok-outcome_lengths.outcome_lengths.items ≡ c.args.config.slots =
    omega (arith, c.in_ok-outcome_lengths.ensures.len, c.in_ok-outcome_lengths.outcome_lengths.ok) in
    opened c.in_ok-core.core c.in_ok-communicators.communicators c.in_ok-outcome_lengths.outcome_lengths.items c.args.config
    c.in_ok-core.ensures.setting c.in_ok-core.ensures.idle c.in_ok-communicators.ensures.groups many
