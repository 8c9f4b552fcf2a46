use Rattle.std.proofs.Common.{ap, arith, refl, subst}
use Rattle.coll_sched.specs.declared.action.Action.TheVariants.{Recv}
use Rattle.coll_core.specs.Cores.{Parts}
use Rattle.coll_core.specs.Steps.{Acts}
use Rattle.coll_core.proofs.step.Act.{can_go_on, parts}
use Rattle.coll_core.proofs.step.Actions.{message_came, message_long, message_taken, received}
use Rattle.coll_core.proofs.between.FirstOfReady.{acts_at}
use Rattle.coll_match.specs.Instances.{LookUps}
use Rattle.coll_core.proofs.engine.Core.receive.Goals as goal

pub receive-requires-clause-fits : goal.receive-requires-clause-fits
receive-requires-clause-fits c =
    let x = c.in-Ok.request.now in
    let at = acts_at _ c.args.self.now c.args.ticket x (Recv c.args.of c.args.into) c.self.view_is c.requires c.in-Ok.ensures.found in
    omega (arith, at.fits, c.is_addressable.ensures)

pub receive-requires-clause-same : goal.receive-requires-clause-same
receive-requires-clause-same c =
    let x = c.in-Ok.request.now in
    let at = acts_at _ c.args.self.now c.args.ticket x (Recv c.args.of c.args.into) c.self.view_is c.requires c.in-Ok.ensures.found in
    message_long _ c.args.ticket x c.args.of c.args.into c.in-Some.message c.self.invariant at
    (message_came c.self.inside.matches x c.args.of c.key-key.result c.member-member.result c.key-key.ensures
    c.member-member.ensures.member c.in-Some.message c.in-Some.ensures.taken)

pub advance-requires : goal.advance-requires
advance-requires c =
    let x = c.in-Ok.request.now in
    let at = acts_at _ c.args.self.now c.args.ticket x (Recv c.args.of c.args.into) c.self.view_is c.requires c.in-Ok.ensures.found in
    can_go_on c.self.inside.arena c.args.ticket x _ _ (Recv c.args.of c.args.into) c.is_sound.ensures at.live
    (record { is = refl; round_is = refl; index_is = refl; buf = refl }) at.comm_in at.round_in at.next_is

pub invariant_of-self : goal.invariant_of-self
invariant_of-self c =
    let x = c.in-Ok.request.now in
    let at = acts_at _ c.args.self.now c.args.ticket x (Recv c.args.of c.args.into) c.self.view_is c.requires c.in-Ok.ensures.found in
    (received c.self.inside.ranks c.self.inside.starts c.self.inside.trace c.self.inside.arena c.advance.new.arena
    c.self.inside.queues c.self.inside.matches c.take.new.self
    c.args.ticket x _ c.args.of c.args.into c.in-Some.message c.receive.new.self c.advance.result c.is_sound.ensures c.self.invariant at
    (record {
      members = (ap (λ (s : LookUps). s.members) c.take.ensures.gone);
      given =
          (ap (λ (s : LookUps). s.given) c.take.ensures.gone);
      seats = (ap (λ (s : LookUps). s.seats) c.take.ensures.gone);
    })
    (message_came c.self.inside.matches x c.args.of c.key-key.result c.member-member.result c.key-key.ensures
    c.member-member.ensures.member c.in-Some.message c.in-Some.ensures.taken)
    (message_taken c.self.inside.matches x c.args.of c.key-key.result c.member-member.result c.key-key.ensures
    c.member-member.ensures.member c.take.new.self (ap (λ (s : LookUps). s.mail) c.take.ensures.gone))
    c.receive.ensures
    (record { is = refl; round_is = refl; index_is = refl; buf = refl }) c.advance.ensures).0

pub returns : goal.returns
returns c =
    let x = c.in-Ok.request.now in
    let at = acts_at _ c.args.self.now c.args.ticket x (Recv c.args.of c.args.into) c.self.view_is c.requires c.in-Ok.ensures.found in
    subst (λ (p : Parts). Acts p
    (parts c.self.inside.ranks c.self.inside.starts c.self.inside.trace c.advance.new.arena c.self.inside.queues c.take.new.self) c.advance.result)
    c.self.view_is
    (received c.self.inside.ranks c.self.inside.starts c.self.inside.trace c.self.inside.arena c.advance.new.arena
    c.self.inside.queues c.self.inside.matches c.take.new.self
    c.args.ticket x _ c.args.of c.args.into c.in-Some.message c.receive.new.self c.advance.result c.is_sound.ensures c.self.invariant at
    (record {
      members = (ap (λ (s : LookUps). s.members) c.take.ensures.gone);
      given =
          (ap (λ (s : LookUps). s.given) c.take.ensures.gone);
      seats = (ap (λ (s : LookUps). s.seats) c.take.ensures.gone);
    })
    (message_came c.self.inside.matches x c.args.of c.key-key.result c.member-member.result c.key-key.ensures
    c.member-member.ensures.member c.in-Some.message c.in-Some.ensures.taken)
    (message_taken c.self.inside.matches x c.args.of c.key-key.result c.member-member.result c.key-key.ensures
    c.member-member.ensures.member c.take.new.self (ap (λ (s : LookUps). s.mail) c.take.ensures.gone))
    c.receive.ensures
    (record { is = refl; round_is = refl; index_is = refl; buf = refl }) c.advance.ensures).1
