use Rattle.std.proofs.Common.{◌∙◌, ap, sym, subst}
use Rattle.coll_arena.specs.Changes.{rewritten, shifted}
use Rattle.coll_arena.specs.Lookups.{IsFirst, PutsSlot}
use Rattle.coll_arena.specs.Slots.{Slots, record_in, weight_of}
use Rattle.coll_refinement.specs.Shown.{Instances}
use Rattle.coll_core.specs.declared.request.Request.{Request}
use Rattle.coll_core.specs.Cores.{IsCore, Parts}
use Rattle.coll_core.specs.Steps.{HandsOut}
use Rattle.coll_core.proofs.step.Act.{parts}
use Rattle.coll_core.proofs.step.Actions.{on_err, same_arena}
use Rattle.coll_core.proofs.step.Combine.{first_filled, hands_out}
use Rattle.coll_core.proofs.step.SharedRows.{first_reads}
use Rattle.coll_core.proofs.between.FirstOfReady.{first_some}
use Rattle.coll_core.proofs.engine.Core.hand_out.Goals as goal

pub work-requires-clause-some : goal.work-requires-clause-some
work-requires-clause-some c =
    first_some _ c.args.self.now c.args.ticket c.in-Ok.request.now c.self.view_is c.self.invariant c.requires.first c.in-Ok.ensures.found

pub work-requires-clause-sized : goal.work-requires-clause-sized
work-requires-clause-sized c =
    first_filled _ c.args.self.now c.args.ticket c.in-Ok.request.now c.self.view_is c.self.invariant c.requires.first c.in-Ok.ensures.found

pub work-requires-clause-rows : goal.work-requires-clause-rows
work-requires-clause-rows c =
    first_reads _ c.args.self.now c.args.ticket c.in-Ok.request.now c.self.view_is c.self.invariant c.requires.first c.in-Ok.ensures.found

-- the request is the same, whoever has its bytes
pub invariant_of-self : goal.invariant_of-self
invariant_of-self c =
    let same = ap (λ (r : Request). rewritten c.self.inside.arena c.args.ticket.slot r) c.work.ensures.same
    ∙ same_arena c.self.inside.arena c.args.ticket.slot c.in-Ok.request.now c.in-Ok.ensures.found in
    subst IsCore
    (λ z. parts c.self.inside.ranks c.self.inside.starts c.self.inside.trace (sym same z) c.self.inside.queues (sym c.work.ensures.matches z)) c.self.invariant

pub returns-in_err-work-clause-err : goal.returns-in_err-work-clause-err
returns-in_err-work-clause-err c =
    let same = ap (λ (r : Request). rewritten c.self.inside.arena c.args.ticket.slot r) c.work.ensures.same
    ∙ same_arena c.self.inside.arena c.args.ticket.slot c.in-Ok.request.now c.in-Ok.ensures.found in
    on_err c.from_residual.result _
    ((λ z. parts c.self.inside.ranks c.self.inside.starts c.self.inside.trace (same z) c.self.inside.queues (c.work.ensures.matches z))
    ∙ c.self.view_is)

pub invariant_of-self-2 : goal.invariant_of-self-2
invariant_of-self-2 c =
    let same = ap (λ (r : Request). rewritten c.self.inside.arena c.args.ticket.slot r) c.work.ensures.same
    ∙ same_arena c.self.inside.arena c.args.ticket.slot c.in-Ok.request.now c.in-Ok.ensures.found in
    subst (λ (m : Instances). IsCore (parts c.self.inside.ranks c.self.inside.starts c.self.inside.trace c.shift.new.self c.self.inside.queues m))
    (sym c.work.ensures.matches)
    (hands_out c.self.inside.ranks c.self.inside.starts c.self.inside.trace c.self.inside.arena c.shift.new.self
    c.self.inside.queues c.self.inside.matches c.args.ticket c.in-Ok.request.now c.in_ok-work.work
    c.in_ok-work.ensures.ticket c.self.invariant
    (subst (λ (p : Parts). IsFirst p.arena 2 c.args.ticket) (sym c.self.view_is) c.requires.first) c.in-Ok.ensures.found c.in_ok-work.ensures.work
    (subst (λ (a : Slots Request). PutsSlot a c.shift.new.self c.args.ticket.slot c.args.ticket.generation
    (weight_of a c.args.ticket.slot) (record_in a c.args.ticket.slot) 3) same c.in-Ok-shift.ensures.puts)
    (c.in-Ok-shift.ensures.shifted ∙ ap (λ (a : Slots Request). shifted a c.args.ticket.slot 3) same)).0

pub returns-clause-out : goal.returns-clause-out
returns-clause-out c =
    let same = ap (λ (r : Request). rewritten c.self.inside.arena c.args.ticket.slot r) c.work.ensures.same
    ∙ same_arena c.self.inside.arena c.args.ticket.slot c.in-Ok.request.now c.in-Ok.ensures.found in
    subst (λ (m : Instances). HandsOut c.args.self.now
    (parts c.self.inside.ranks c.self.inside.starts c.self.inside.trace c.shift.new.self c.self.inside.queues m) c.in_ok-work.work)
    (sym c.work.ensures.matches)
    (subst (λ (p : Parts). HandsOut p
    (parts c.self.inside.ranks c.self.inside.starts c.self.inside.trace c.shift.new.self c.self.inside.queues c.self.inside.matches) c.in_ok-work.work)
    c.self.view_is
    (hands_out c.self.inside.ranks c.self.inside.starts c.self.inside.trace c.self.inside.arena c.shift.new.self
    c.self.inside.queues c.self.inside.matches c.args.ticket c.in-Ok.request.now c.in_ok-work.work
    c.in_ok-work.ensures.ticket c.self.invariant
    (subst (λ (p : Parts). IsFirst p.arena 2 c.args.ticket) (sym c.self.view_is) c.requires.first) c.in-Ok.ensures.found c.in_ok-work.ensures.work
    (subst (λ (a : Slots Request). PutsSlot a c.shift.new.self c.args.ticket.slot c.args.ticket.generation
    (weight_of a c.args.ticket.slot) (record_in a c.args.ticket.slot) 3) same c.in-Ok-shift.ensures.puts)
    (c.in-Ok-shift.ensures.shifted ∙ ap (λ (a : Slots Request). shifted a c.args.ticket.slot 3) same)).1)
