use Rattle.std.proofs.Common.{◌<◌, length, arith}
use Rattle.coll_verdict.proofs.Telling.{started_at}
use Rattle.coll_verdict.proofs.known.start.Goals as goal

pub returns : goal.returns
returns c = λ yes k s.
    let low : c.args.q < length c.args.requests.now.items = omega (arith, c.if-q-len.false, c.len.ensures) in
    started_at c.args.requests.now.items k c.args.q c.index_mut-request.result.now low c.index_mut-request.ensures.value s
