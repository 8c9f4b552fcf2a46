use Rattle.std.proofs.Common.{◌∙◌}
use Rattle.coll_queues.proofs.Fronts.{agreed, fronts_none, no_posts}
use Rattle.coll_queues.proofs.posting_lists.PostingLists.new.Goals as goal

pub invariant_of-result : goal.invariant_of-result
invariant_of-result c = fronts_none _ _ _ c.len.result c.requires c.new.ensures c.in_ok-lengths.ensures (c.len.ensures ∙ c.args.group.ok.0)

pub returns-clause-empty : goal.returns-clause-empty
returns-clause-empty c = no_posts c.args.group.items _ _ c.new.result.room c.new.ensures

pub returns-clause-agreed : goal.returns-clause-agreed
returns-clause-agreed c = agreed c.args.group.items _ _ c.new.result.room (invariant_of-result c)
