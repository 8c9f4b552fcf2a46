use Rattle.std.proofs.Common.{refl}
use Rattle.coll_core.specs.Posts.{post_of}
use Rattle.coll_core.proofs.post.Post.{short_of, still_accepted}
use Rattle.coll_plans.specs.Plans.{family}
use Rattle.coll_core.proofs.between.NoStep.{begins_since}
use Rattle.coll_core.proofs.engine.Core.post_tested.Goals as goal

pub returns-in-Err-clause-refused : goal.returns-in-Err-clause-refused
returns-in-Err-clause-refused c =
    short_of c.args.self.now (post_of c.args.rank c.args.comm c.args.offer) c.in-Err.why refl c.requires.accepted c.in-Err.ensures.refused

pub enter-requires-clause-accepted : goal.enter-requires-clause-accepted
enter-requires-clause-accepted c =
    still_accepted c.args.self.now c.make_room.new.self (post_of c.args.rank c.args.comm c.args.offer) c.make_room.ensures.unchanged c.requires.accepted

pub returns-clause-begins : goal.returns-clause-begins
returns-clause-begins c =
    begins_since c.args.self.now c.make_room.new.self c.enter.new.self c.enter.result.slot
    (family c.args.offer.plan.sig c.args.offer.plan.n c.args.offer.plan.member) c.make_room.ensures.unchanged c.enter.ensures.begins
