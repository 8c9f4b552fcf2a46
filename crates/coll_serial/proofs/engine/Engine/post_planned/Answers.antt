use Rattle.std.proofs.Common.{◌<◌, length, Option, arith, sym, subst}
use Rattle.coll_kinds.specs.declared.ticket.Ticket.{Ticket}
use Rattle.coll_machine.specs.Common.{Post, StepsTo, Ticketed}
use Rattle.coll_core.specs.Cores.{Parts, seen, setting}
use Rattle.coll_core.specs.Posts.{planned}
use Rattle.coll_serial.specs.Calls.{PostsTo}
use Rattle.coll_serial.proofs.Keeping.{kept_posted}
use Rattle.coll_serial.proofs.Measuring.{post_low}
use Rattle.coll_serial.proofs.engine.Engine.post_planned.Goals as goal

pub index_mut-requires : goal.index_mut-requires
index_mut-requires c =
    let p = c.self.inside.core in
    let low : c.in-Ok.ticket.slot < length c.self.inside.outcome_lengths.items =
    post_low (setting p) (seen p) (seen c.post.new.self) c.args.rank c.args.comm (planned c.args.plan) c.args.bytes
    c.in-Ok.ticket c.self.inside.outcome_lengths.items c.in-Ok.ensures.posted c.self.invariant.measured in
    omega (arith, low, c.self.inside.outcome_lengths.ok)

pub invariant_of-self : goal.invariant_of-self
invariant_of-self c =
    kept_posted c.self.inside.core c.post.new.self c.self.inside.communicators c.self.inside.outcome_lengths.items c.args.rank
    c.args.comm (planned c.args.plan) c.args.bytes c.in-Ok.ticket c.outcome_len-outcome_len.result
    c.self.invariant c.in-Ok.ensures.setting c.in-Ok.ensures.posted c.outcome_len-outcome_len.ensures

pub returns-in-Ok-clause-posted : goal.returns-in-Ok-clause-posted
returns-in-Ok-clause-posted c =
    let call = Post c.args.rank c.args.comm (planned c.args.plan) c.args.bytes in
    let n = seen c.post.new.self in
    let at : StepsTo (setting c.args.self.now) (seen c.args.self.now) call (Ticketed c.in-Ok.ticket) n =
    subst (λ (p : Parts). StepsTo (setting p) (seen p) call (Ticketed c.in-Ok.ticket) n) c.self.view_is c.in-Ok.ensures.posted in
    subst (λ (r : Option Ticket). PostsTo (setting c.args.self.now) (seen c.args.self.now) call n r) (sym c.of.ensures) at
