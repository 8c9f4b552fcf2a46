use Rattle.std.proofs.Common.{ap}
use Rattle.coll_queues.proofs.Calls.{groups_kept, has_room, posts_kept, refusals_kept}
use Rattle.coll_queues.proofs.queues.Queues.room.Goals as goal

pub returns-clause-groups : goal.returns-clause-groups
returns-clause-groups c =
    groups_kept _ _ _ c.self.view_is c.args.comm c.args.rank c.number-member.result _ c.requires c.number-member.ensures
    c.index_mut.ensures.value _ c.reserve.ensures.group

pub returns-clause-posts : goal.returns-clause-posts
returns-clause-posts c =
    posts_kept _ _ _ c.self.view_is c.args.comm c.args.rank c.number-member.result _ c.requires c.number-member.ensures
    c.index_mut.ensures.value _ c.reserve.ensures.group c.reserve.ensures.lists

pub returns-clause-room : goal.returns-clause-room
returns-clause-room c =
    has_room _ _ _ c.self.view_is c.args.comm c.args.rank c.number-member.result _ c.requires c.number-member.ensures
    c.index_mut.ensures.value _ c.reserve.ensures.group c.in_ok-reserve.ensures.room

pub returns-clause-refusals : goal.returns-clause-refusals
returns-clause-refusals c =
    refusals_kept _ _ (returns-clause-groups c) (returns-clause-posts c) (ap (λ v. v.places) c.self.view_is)
