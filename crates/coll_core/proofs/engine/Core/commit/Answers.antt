use Rattle.std.proofs.Common.{◌∙◌, ap, refl}
use Rattle.coll_core.specs.Works.{Piece}
use Rattle.coll_core.proofs.step.Act.{parts}
use Rattle.coll_core.proofs.commit.Commit.{commit_can_go, commits_own, committed, own_at, steps_exactly}
use Rattle.coll_core.proofs.between.FirstOfReady.{running_acting}
use Rattle.coll_core.proofs.engine.Core.commit.Goals as goal

pub write-requires-clause-sized : goal.write-requires-clause-sized
write-requires-clause-sized c =
    let x = c.in-Ok.request.now in
    let t_is = c.ticket-ticket.ensures ∙ ap (λ (w : Piece). w.ticket) c.work.ensures in
    let o = own_at _ c.args.self.now c.self.view_is c.args.done.piece c.ticket-ticket.result t_is x c.in-Some.bytes
    c.in-Some.ensures.own c.in-Ok.ensures.found in
    (running_acting _ c.self.invariant c.ticket-ticket.result.slot x c.in-Ok.ensures.found o.out.runs).filled

pub advance-requires : goal.advance-requires
advance-requires c =
    let x = c.in-Ok.request.now in
    let t_is = c.ticket-ticket.ensures ∙ ap (λ (w : Piece). w.ticket) c.work.ensures in
    let o = own_at _ c.args.self.now c.self.view_is c.args.done.piece c.ticket-ticket.result t_is x c.in-Some.bytes
    c.in-Some.ensures.own c.in-Ok.ensures.found in
    commit_can_go c.self.inside.ranks c.self.inside.starts c.self.inside.trace c.self.inside.arena c.self.inside.arena
    c.self.inside.queues c.self.inside.matches
    c.ticket-ticket.result x c.write.new.self (record { piece = o.own; bytes = c.in-Some.bytes }) c.is_sound.ensures c.self.invariant o.out c.write.ensures

pub invariant_of-self : goal.invariant_of-self
invariant_of-self c =
    let x = c.in-Ok.request.now in
    let t_is = c.ticket-ticket.ensures ∙ ap (λ (w : Piece). w.ticket) c.work.ensures in
    let o = own_at _ c.args.self.now c.self.view_is c.args.done.piece c.ticket-ticket.result t_is x c.in-Some.bytes
    c.in-Some.ensures.own c.in-Ok.ensures.found in
    (committed c.self.inside.ranks c.self.inside.starts c.self.inside.trace c.self.inside.arena c.advance.new.arena c.self.inside.queues c.self.inside.matches
    c.ticket-ticket.result x c.write.new.self (record { piece = o.own; bytes = c.in-Some.bytes }) c.is_sound.ensures
    c.self.invariant o.out c.write.ensures c.advance.result o.is o.t_is c.advance.ensures).0

pub returns-clause-own : goal.returns-clause-own
returns-clause-own c =
    let x = c.in-Ok.request.now in
    let t_is = c.ticket-ticket.ensures ∙ ap (λ (w : Piece). w.ticket) c.work.ensures in
    let o = own_at _ c.args.self.now c.self.view_is c.args.done.piece c.ticket-ticket.result t_is x c.in-Some.bytes
    c.in-Some.ensures.own c.in-Ok.ensures.found in
    commits_own _ c.args.self.now
    (parts c.self.inside.ranks c.self.inside.starts c.self.inside.trace c.advance.new.arena c.self.inside.queues c.self.inside.matches)
    c.self.view_is x c.args.done.piece
    c.ticket-ticket.result c.in-Some.bytes c.advance.result c.by.result c.by.ensures o
    (committed c.self.inside.ranks c.self.inside.starts c.self.inside.trace c.self.inside.arena c.advance.new.arena
    c.self.inside.queues c.self.inside.matches
    c.ticket-ticket.result x c.write.new.self (record { piece = o.own; bytes = c.in-Some.bytes }) c.is_sound.ensures
    c.self.invariant o.out c.write.ensures c.advance.result o.is o.t_is c.advance.ensures).1

pub returns-clause-steps : goal.returns-clause-steps
returns-clause-steps c =
    let x = c.in-Ok.request.now in
    let t_is = c.ticket-ticket.ensures ∙ ap (λ (w : Piece). w.ticket) c.work.ensures in
    let o = own_at _ c.args.self.now c.self.view_is c.args.done.piece c.ticket-ticket.result t_is x c.in-Some.bytes
    c.in-Some.ensures.own c.in-Ok.ensures.found in
    steps_exactly _ c.args.self.now
    (parts c.self.inside.ranks c.self.inside.starts c.self.inside.trace c.advance.new.arena c.self.inside.queues c.self.inside.matches)
    c.self.view_is x c.args.done.piece
    c.ticket-ticket.result t_is c.in-Some.bytes c.advance.result c.by.result c.by.ensures o
    (committed c.self.inside.ranks c.self.inside.starts c.self.inside.trace c.self.inside.arena c.advance.new.arena
    c.self.inside.queues c.self.inside.matches
    c.ticket-ticket.result x c.write.new.self (record { piece = o.own; bytes = c.in-Some.bytes }) c.is_sound.ensures
    c.self.invariant o.out c.write.ensures c.advance.result o.is o.t_is c.advance.ensures).1
    c.args.done refl c.result_by.ensures.combined
