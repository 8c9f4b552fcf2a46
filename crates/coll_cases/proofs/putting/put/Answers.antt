use Rattle.std.proofs.Common.{◌<◌, length, Some, refl, sym, ap, ◌∙◌, arith}
use Rattle.coll_verdict.proofs.Listed.{get_at}
use Rattle.coll_cases.proofs.putting.put.Goals as goal

pub returns : goal.returns
returns c = λ yes.
    let low : c.args.rank < length c.args.ranks.now.items = omega (arith, c.if-rank-len.false, c.len.ensures) in
    record {
      old = c.index_mut-own.result.now;
      new = c.put_in-is_put.new.own;
      at = get_at c.args.ranks.now.items c.args.rank c.index_mut-own.result.now low ∙ ap Some (sym c.index_mut-own.ensures.value);
      is = refl;
      put = c.put_in-is_put.ensures yes;
    }
