use Rattle.std.proofs.Common.{◌∙◌, ap, sym, subst}
use Rattle.coll_arena.specs.Changes.{rewritten, shifted}
use Rattle.coll_arena.specs.Lookups.{IsFirst, PutsSlot}
use Rattle.coll_arena.specs.Slots.{Slots, record_in, weight_of}
use Rattle.coll_core.specs.declared.request.Request.{Request}
use Rattle.coll_core.specs.Cores.{Parts}
use Rattle.coll_core.specs.Steps.{HandsOut}
use Rattle.coll_core.proofs.step.Act.{parts}
use Rattle.coll_core.proofs.step.Actions.{same_arena}
use Rattle.coll_core.proofs.step.Combine.{hands_out}
use Rattle.coll_core.proofs.between.FirstOfReady.{acts_at}
use Rattle.coll_core.proofs.engine.Core.hand_out_value.Goals as goal

pub short_work-work-requires-clause-next : goal.short_work-work-requires-clause-next
short_work-work-requires-clause-next c =
    (acts_at _ c.args.self.now c.args.ticket c.in-Ok.request.now c.args.action c.self.view_is c.requires.acting c.in-Ok.ensures.found).next_is

pub short_work-work-requires-clause-fits : goal.short_work-work-requires-clause-fits
short_work-work-requires-clause-fits c =
    (acts_at _ c.args.self.now c.args.ticket c.in-Ok.request.now c.args.action c.self.view_is c.requires.acting c.in-Ok.ensures.found).fits

pub short_work-work-requires-clause-sized : goal.short_work-work-requires-clause-sized
short_work-work-requires-clause-sized c =
    (acts_at _ c.args.self.now c.args.ticket c.in-Ok.request.now c.args.action c.self.view_is c.requires.acting c.in-Ok.ensures.found).filled

-- the request is the same, whoever has its bytes
pub invariant_of-self : goal.invariant_of-self
invariant_of-self c =
    let same = ap (λ (r : Request). rewritten c.self.inside.arena c.args.ticket.slot r) c.short_work-work.ensures.same
    ∙ same_arena c.self.inside.arena c.args.ticket.slot c.in-Ok.request.now c.in-Ok.ensures.found in
    (hands_out c.self.inside.ranks c.self.inside.starts c.self.inside.trace c.self.inside.arena c.shift.new.self
    c.self.inside.queues c.self.inside.matches c.args.ticket c.in-Ok.request.now c.short_work-work.result
    c.short_work-work.ensures.ticket c.self.invariant
    (subst (λ (p : Parts). IsFirst p.arena 2 c.args.ticket) (sym c.self.view_is) c.requires.first) c.in-Ok.ensures.found c.short_work-work.ensures.work
    (subst (λ (a : Slots Request). PutsSlot a c.shift.new.self c.args.ticket.slot c.args.ticket.generation
    (weight_of a c.args.ticket.slot) (record_in a c.args.ticket.slot) 3) same c.in-Ok-shift.ensures.puts)
    (c.in-Ok-shift.ensures.shifted ∙ ap (λ (a : Slots Request). shifted a c.args.ticket.slot 3) same)).0

pub returns : goal.returns
returns c =
    let same = ap (λ (r : Request). rewritten c.self.inside.arena c.args.ticket.slot r) c.short_work-work.ensures.same
    ∙ same_arena c.self.inside.arena c.args.ticket.slot c.in-Ok.request.now c.in-Ok.ensures.found in
    subst (λ (p : Parts). HandsOut p
    (parts c.self.inside.ranks c.self.inside.starts c.self.inside.trace c.shift.new.self c.self.inside.queues c.self.inside.matches)
    c.short_work-work.result) c.self.view_is
    (hands_out c.self.inside.ranks c.self.inside.starts c.self.inside.trace c.self.inside.arena c.shift.new.self
    c.self.inside.queues c.self.inside.matches c.args.ticket c.in-Ok.request.now c.short_work-work.result
    c.short_work-work.ensures.ticket c.self.invariant
    (subst (λ (p : Parts). IsFirst p.arena 2 c.args.ticket) (sym c.self.view_is) c.requires.first) c.in-Ok.ensures.found c.short_work-work.ensures.work
    (subst (λ (a : Slots Request). PutsSlot a c.shift.new.self c.args.ticket.slot c.args.ticket.generation
    (weight_of a c.args.ticket.slot) (record_in a c.args.ticket.slot) 3) same c.in-Ok-shift.ensures.puts)
    (c.in-Ok-shift.ensures.shifted ∙ ap (λ (a : Slots Request). shifted a c.args.ticket.slot 3) same)).1
