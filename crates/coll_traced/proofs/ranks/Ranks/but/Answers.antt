use Rattle.std.proofs.Common.{◌-◌, subst, bit_and}
use Rattle.coll_traced.specs.Ranks.{AreBut}
use Rattle.coll_traced.proofs.RankBits.{but_is}
use Rattle.coll_traced.proofs.ranks.Ranks.but.Goals as goal

pub returns : goal.returns
returns c =
    let left = bit_and c.self.inside.0 (18446744073709551615 - c.others.inside.0) in
    let inside = but_is c.self.inside.0 c.others.inside.0 c.self.invariant c.others.invariant in
    let of_others = subst (λ others. AreBut c.self.inside.0 others left) c.others.view_is inside in
    subst (λ ranks. AreBut ranks c.args.others left) c.self.view_is of_others
