use Rattle.std.proofs.Common.{◌≡◌, ◌<◌, true, length, sym, ◌∙◌, arith}
use Rattle.coll_verdict.proofs.Ordered.{passed_on}
use Rattle.coll_verdict.proofs.order.pass.Goals as goal

pub returns : goal.returns
returns c = λ yes h s same apart.
    let low : c.args.rank < length c.args.ranks.now.items = omega (arith, c.if-rank-len.false, c.len.ensures) in
    let can : c.can_go_on.result ≡ true = grind arith in
    passed_on c.args.library.now h c.args.ranks.now.items c.as_slice.result.now c.args.groups.now c.args.rank
    c.index_mut-own.result.now c.index.result.now c.go_on.new.own low c.index_mut-own.ensures.value c.index.ensures c.as_slice.ensures.value
    (c.in_ok-has_gone.ensures yes) (sym c.can_go_on.ensures ∙ can) s same apart
