use Rattle.std.proofs.Common.{◌<◌, ◌≤◌, length, arith}
use Rattle.coll_verdict.proofs.Telling.{named_at, is_named_beyond}
use Rattle.coll_verdict.proofs.known.name.Goals as goal

pub returns-then-q-len : goal.returns-then-q-len
returns-then-q-len c = λ k s.
    let low : c.args.q < length c.args.requests.now.items = omega (arith, c.if-q-len.true, c.len.ensures) in
    named_at c.args.requests.now.items k c.args.q c.index_mut-request.result.now low c.index_mut-request.ensures.value s

pub returns-else-q-len : goal.returns-else-q-len
returns-else-q-len c = λ k s.
    let far : length c.args.requests.now.items ≤ c.args.q = omega (arith, c.if-q-len.false, c.len.ensures) in
    is_named_beyond c.args.requests.now.items k c.args.q s far
