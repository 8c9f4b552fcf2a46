use Rattle.std.proofs.Common.{◌≡◌, length, rules, arith}
use Rattle.std.specs.Vec.Iter.{into_iter_items}
use Rattle.coll_shared.proofs.RankThreads.{joined_all, joined_more, joined_none}
use Rattle.coll_shared.proofs.rank_threads.join_ranks.Goals as goal

pub loop-thread-init : goal.loop-thread-init
loop-thread-init g c = (search rules, search rules, joined_none _ _ _ _ (search rules) c.requires.none)

pub loop-thread-preserved : goal.loop-thread-preserved
loop-thread-preserved g c = (
  search rules,
  search rules,
  joined_more _ _ _ _ _ _ c.in-Some.thread c.join.result c.loop-thread.invariant.2 c.in-Some.ensures.steps.0
      c.push_reserved.ensures.items c.join.ensures,
)

pub returns : goal.returns
returns g c =
    let long : length c.loop-thread.ends.items ≡ length c.args.threads.items =
    omega (arith, c.loop-thread.invariant.0, c.in-None.ensures.steps.0, c.loop-thread.ends.ok.0, c.args.threads.ok.0) in
    joined_all _ _ _ _ c.loop-thread.invariant.2 long
