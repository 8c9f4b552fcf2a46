use Rattle.std.proofs.Common.{refl, sym}
use Rattle.coll_core.specs.Posts.{init_of}
use Rattle.coll_core.proofs.post.Post.{refused_so, short_of, still_accepted}
use Rattle.coll_core.proofs.between.NoStep.{keeps_since}
use Rattle.coll_core.proofs.engine.Core.init.Goals as goal

pub returns-in-Err-clause-refused : goal.returns-in-Err-clause-refused
returns-in-Err-clause-refused c =
    refused_so c.args.self.now (init_of c.args.rank c.args.comm c.args.plan) c.in-Err.why (sym c.in-Err.ensures)

pub returns-in-Err-make_idle_room-clause-refused : goal.returns-in-Err-make_idle_room-clause-refused
returns-in-Err-make_idle_room-clause-refused c =
    short_of c.args.self.now (init_of c.args.rank c.args.comm c.args.plan) c.in-Err-make_idle_room.why refl
    (sym c.in_default.ensures) c.in-Err-make_idle_room.ensures.refused

pub lay_down-requires-clause-accepted : goal.lay_down-requires-clause-accepted
lay_down-requires-clause-accepted c =
    still_accepted c.args.self.now c.make_idle_room.new.self (init_of c.args.rank c.args.comm c.args.plan)
    c.make_idle_room.ensures.unchanged (sym c.in_default.ensures)

pub returns-clause-progress : goal.returns-clause-progress
returns-clause-progress c =
    keeps_since c.args.self.now c.make_idle_room.new.self c.lay_down.new.self c.lay_down.result.slot
    c.make_idle_room.ensures.unchanged c.lay_down.ensures.progress
