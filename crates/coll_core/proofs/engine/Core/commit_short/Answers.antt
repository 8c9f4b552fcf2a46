use Rattle.std.proofs.Common.{◌∙◌, ap, refl, subst}
use Rattle.coll_core.specs.Cores.{Parts}
use Rattle.coll_core.specs.Steps.{Commits, IsOut}
use Rattle.coll_core.specs.Works.{Piece}
use Rattle.coll_core.proofs.step.Act.{parts}
use Rattle.coll_core.proofs.commit.Commit.{commit_can_go, commit_steps, committed, out_at}
use Rattle.coll_core.proofs.between.FirstOfReady.{running_acting}
use Rattle.coll_core.proofs.engine.Core.commit_short.Goals as goal

pub write_short-requires-clause-sized : goal.write_short-requires-clause-sized
write_short-requires-clause-sized c =
    let x = c.in-Ok.request.now in
    let t_is = c.ticket-ticket.ensures ∙ ap (λ (w : Piece). w.ticket) c.work-2.ensures in
    let out = out_at _ c.args.self.now c.self.view_is c.args.done.piece c.work.result.now c.work.ensures c.ticket-ticket.result
    t_is x (c.is_short_out.ensures.0 c.if-not-is_short_out.false) c.in-Ok.ensures.found in
    (running_acting _ c.self.invariant c.ticket-ticket.result.slot x c.in-Ok.ensures.found out.runs).filled

pub advance-requires : goal.advance-requires
advance-requires c =
    let x = c.in-Ok.request.now in
    let t_is = c.ticket-ticket.ensures ∙ ap (λ (w : Piece). w.ticket) c.work-2.ensures in
    let out = out_at _ c.args.self.now c.self.view_is c.args.done.piece c.work.result.now c.work.ensures c.ticket-ticket.result
    t_is x (c.is_short_out.ensures.0 c.if-not-is_short_out.false) c.in-Ok.ensures.found in
    commit_can_go c.self.inside.ranks c.self.inside.starts c.self.inside.trace c.self.inside.arena c.self.inside.arena
    c.self.inside.queues c.self.inside.matches
    c.ticket-ticket.result x c.write_short.new.self c.args.done c.is_sound.ensures c.self.invariant out c.write_short.ensures.wrote

pub invariant_of-self : goal.invariant_of-self
invariant_of-self c =
    let x = c.in-Ok.request.now in
    let t_is = c.ticket-ticket.ensures ∙ ap (λ (w : Piece). w.ticket) c.work-2.ensures in
    let out = out_at _ c.args.self.now c.self.view_is c.args.done.piece c.work.result.now c.work.ensures c.ticket-ticket.result
    t_is x (c.is_short_out.ensures.0 c.if-not-is_short_out.false) c.in-Ok.ensures.found in
    (committed c.self.inside.ranks c.self.inside.starts c.self.inside.trace c.self.inside.arena c.advance.new.arena c.self.inside.queues c.self.inside.matches
    c.ticket-ticket.result x c.write_short.new.self c.args.done c.is_sound.ensures c.self.invariant out c.write_short.ensures.wrote c.advance.result
    c.write_short.ensures.combined t_is c.advance.ensures).0

pub returns-clause-out : goal.returns-clause-out
returns-clause-out c =
    (λ yes. subst (λ (w : Piece). IsOut c.args.self.now w) c.work.ensures (c.is_short_out.ensures.0 c.if-not-is_short_out.false), λ out. refl)

pub returns-clause-steps : goal.returns-clause-steps
returns-clause-steps c =
    let x = c.in-Ok.request.now in
    let t_is = c.ticket-ticket.ensures ∙ ap (λ (w : Piece). w.ticket) c.work-2.ensures in
    let out = out_at _ c.args.self.now c.self.view_is c.args.done.piece c.work.result.now c.work.ensures c.ticket-ticket.result
    t_is x (c.is_short_out.ensures.0 c.if-not-is_short_out.false) c.in-Ok.ensures.found in
    commit_steps c.args.self.now
    (parts c.self.inside.ranks c.self.inside.starts c.self.inside.trace c.advance.new.arena c.self.inside.queues c.self.inside.matches)
    c.args.done c.advance.result c.by.result c.by.ensures
    (subst (λ (p : Parts). Commits p
    (parts c.self.inside.ranks c.self.inside.starts c.self.inside.trace c.advance.new.arena c.self.inside.queues c.self.inside.matches)
    c.args.done c.advance.result) c.self.view_is
    (committed c.self.inside.ranks c.self.inside.starts c.self.inside.trace c.self.inside.arena c.advance.new.arena c.self.inside.queues c.self.inside.matches
    c.ticket-ticket.result x c.write_short.new.self c.args.done c.is_sound.ensures c.self.invariant out c.write_short.ensures.wrote c.advance.result
    c.write_short.ensures.combined t_is c.advance.ensures).1)
