use Rattle.std.proofs.Common.{◌∙◌, ap, subst, sym}
use Rattle.coll_sched.specs.declared.action.Action.TheVariants.{Send}
use Rattle.coll_sched.specs.Actions.{Fits}
use Rattle.coll_arena.specs.Slots.{Slots}
use Rattle.coll_core.specs.declared.request.Request.{Request}
use Rattle.coll_core.specs.Advancing.{Brings, HaveLists}
use Rattle.coll_core.specs.Cores.{IsCore, Parts}
use Rattle.coll_core.specs.Requests.{shown}
use Rattle.coll_core.specs.Steps.{Acts}
use Rattle.coll_core.proofs.step.Act.{parts}
use Rattle.coll_core.proofs.step.Actions.{on_err, same_written}
use Rattle.coll_core.proofs.step.Send.{can_go_then, has_given, no_message, sent, stands_sent, stood}
use Rattle.coll_core.proofs.between.FirstOfReady.{acts_at, have_lists}
use Rattle.coll_match.specs.Instances.{LookUps}
use Rattle.coll_refinement.specs.Engines.{Delivers}
use Rattle.coll_core.proofs.engine.Core.send.Goals as goal

pub message-requires : goal.message-requires
message-requires c =
    let at = acts_at _ c.args.self.now c.args.ticket c.in-Ok.request.now (Send c.args.to c.args.from) c.self.view_is c.requires c.in-Ok.ensures.found in
    subst (λ n. Fits n (Send c.args.to c.args.from)) (sym at.filled) at.fits

pub put-requires-clause-joined : goal.put-requires-clause-joined
put-requires-clause-joined c =
    let x = c.in-Ok.request.now in
    let at = acts_at _ c.args.self.now c.args.ticket x (Send c.args.to c.args.from) c.self.view_is c.requires c.in-Ok.ensures.found in
    has_given _ c.args.ticket x c.args.to c.args.from c.self.invariant at c.key-key.result c.member-member.result
    c.key-key.ensures c.member-member.ensures.member

pub put-requires-clause-new : goal.put-requires-clause-new
put-requires-clause-new c =
    let x = c.in-Ok.request.now in
    let at = acts_at _ c.args.self.now c.args.ticket x (Send c.args.to c.args.from) c.self.view_is c.requires c.in-Ok.ensures.found in
    no_message _ c.args.ticket x c.args.to c.args.from c.self.invariant at c.key-key.result c.member-member.result
    c.key-key.ensures c.member-member.ensures.member

pub deliver-requires : goal.deliver-requires
deliver-requires c = record {
  lists = subst HaveLists
      (sym (same_written c.self.inside.arena c.args.ticket.slot c.in-Ok.request.now c.message.new.self c.in-Ok.ensures.found c.message.ensures.same))
      (have_lists (parts c.self.inside.ranks c.self.inside.starts c.self.inside.trace c.self.inside.arena c.self.inside.queues
      c.self.inside.matches) c.self.invariant);
  sent = stands_sent c.self.inside.matches c.put.new.self c.key-key.result c.member-member.result c.args.to
      c.in-Ok.request.now.round c.in_ok-message.message (ap (λ (s : LookUps). s.mail) c.in-Ok-put.ensures.kept);
  seat = c.in-Ok-put.ensures.receiver ∙ ap (λ f. f c.key-key.result c.args.to) (sym (ap (λ (s : LookUps). s.seats) c.in-Ok-put.ensures.kept));
}

pub advance-requires : goal.advance-requires
advance-requires c =
    let x = c.in-Ok.request.now in
    let at = acts_at _ c.args.self.now c.args.ticket x (Send c.args.to c.args.from) c.self.view_is c.requires c.in-Ok.ensures.found in
    can_go_then _ c.deliver.new.arena c.args.ticket x c.args.to c.args.from at
    (stood c.self.inside.arena c.deliver.new.arena c.put.new.self c.key-key.result c.args.to c.args.ticket x at.live at.here
    at.on_ready (subst (λ (a : Slots Request). Delivers shown a c.deliver.new.arena c.put.new.self c.key-key.result
    c.args.to) (same_written c.self.inside.arena c.args.ticket.slot c.in-Ok.request.now c.message.new.self c.in-Ok.ensures.found
    c.message.ensures.same) c.deliver.ensures.delivers))

pub invariant_of-self : goal.invariant_of-self
invariant_of-self c =
    subst (λ (a : Slots Request). IsCore (parts c.self.inside.ranks c.self.inside.starts c.self.inside.trace a c.self.inside.queues c.self.inside.matches))
    (sym (same_written c.self.inside.arena c.args.ticket.slot c.in-Ok.request.now c.message.new.self c.in-Ok.ensures.found
    c.message.ensures.same)) c.self.invariant

pub returns-in_err-message-clause-err : goal.returns-in_err-message-clause-err
returns-in_err-message-clause-err c =
    on_err c.from_residual.result _
    (ap (λ (a : Slots Request). parts c.self.inside.ranks c.self.inside.starts c.self.inside.trace a c.self.inside.queues c.self.inside.matches)
    (same_written c.self.inside.arena c.args.ticket.slot c.in-Ok.request.now c.message.new.self c.in-Ok.ensures.found c.message.ensures.same) ∙ c.self.view_is)

pub invariant_of-self-2 : goal.invariant_of-self-2
invariant_of-self-2 c =
    let x = c.in-Ok.request.now in
    let at = acts_at _ c.args.self.now c.args.ticket x (Send c.args.to c.args.from) c.self.view_is c.requires c.in-Ok.ensures.found in
    (sent c.self.inside.ranks c.self.inside.starts c.self.inside.trace c.self.inside.arena c.deliver.new.arena
    c.advance.new.arena c.self.inside.queues c.self.inside.matches c.put.new.self
    c.args.ticket x c.args.to c.args.from c.key-key.result c.member-member.result c.in_ok-message.message c.advance.result
    c.self.invariant at c.key-key.ensures c.member-member.ensures.member
    c.in_ok-message.ensures.ok
    (record {
      members = (ap (λ (s : LookUps). s.members) c.in-Ok-put.ensures.kept);
      given =
          (ap (λ (s : LookUps). s.given) c.in-Ok-put.ensures.kept);
      seats = (ap (λ (s : LookUps). s.seats) c.in-Ok-put.ensures.kept);
    })
    (ap (λ (s : LookUps). s.mail) c.in-Ok-put.ensures.kept)
    (subst (λ (a : Slots Request). Delivers shown a c.deliver.new.arena c.put.new.self c.key-key.result c.args.to)
    (same_written c.self.inside.arena c.args.ticket.slot c.in-Ok.request.now c.message.new.self c.in-Ok.ensures.found c.message.ensures.same)
    c.deliver.ensures.delivers)
    (subst (λ (a : Slots Request). Brings a c.deliver.new.arena c.put.new.self c.key-key.result c.args.to)
    (same_written c.self.inside.arena c.args.ticket.slot c.in-Ok.request.now c.message.new.self c.in-Ok.ensures.found c.message.ensures.same)
    c.deliver.ensures.others) c.deliver.ensures.running c.deliver.ensures.first c.advance.ensures).0

pub returns-clause-acts : goal.returns-clause-acts
returns-clause-acts c =
    let x = c.in-Ok.request.now in
    let at = acts_at _ c.args.self.now c.args.ticket x (Send c.args.to c.args.from) c.self.view_is c.requires c.in-Ok.ensures.found in
    subst (λ (p : Parts). Acts p
    (parts c.self.inside.ranks c.self.inside.starts c.self.inside.trace c.advance.new.arena c.self.inside.queues c.put.new.self) c.advance.result)
    c.self.view_is
    (sent c.self.inside.ranks c.self.inside.starts c.self.inside.trace c.self.inside.arena c.deliver.new.arena
    c.advance.new.arena c.self.inside.queues c.self.inside.matches c.put.new.self
    c.args.ticket x c.args.to c.args.from c.key-key.result c.member-member.result c.in_ok-message.message c.advance.result
    c.self.invariant at c.key-key.ensures c.member-member.ensures.member
    c.in_ok-message.ensures.ok
    (record {
      members = (ap (λ (s : LookUps). s.members) c.in-Ok-put.ensures.kept);
      given =
          (ap (λ (s : LookUps). s.given) c.in-Ok-put.ensures.kept);
      seats = (ap (λ (s : LookUps). s.seats) c.in-Ok-put.ensures.kept);
    })
    (ap (λ (s : LookUps). s.mail) c.in-Ok-put.ensures.kept)
    (subst (λ (a : Slots Request). Delivers shown a c.deliver.new.arena c.put.new.self c.key-key.result c.args.to)
    (same_written c.self.inside.arena c.args.ticket.slot c.in-Ok.request.now c.message.new.self c.in-Ok.ensures.found c.message.ensures.same)
    c.deliver.ensures.delivers)
    (subst (λ (a : Slots Request). Brings a c.deliver.new.arena c.put.new.self c.key-key.result c.args.to)
    (same_written c.self.inside.arena c.args.ticket.slot c.in-Ok.request.now c.message.new.self c.in-Ok.ensures.found c.message.ensures.same)
    c.deliver.ensures.others) c.deliver.ensures.running c.deliver.ensures.first c.advance.ensures).1
