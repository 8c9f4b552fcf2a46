use Rattle.std.proofs.Common.{◌∙◌, ◌<◌, ◌^◌, ap, refl, sym, subst}
use Rattle.coll_sched.specs.Actions.{Fits}
use Rattle.coll_arena.specs.Slots.{Slots}
use Rattle.coll_core.specs.declared.request.Request.{Request}
use Rattle.coll_core.specs.Cores.{IsCore, Parts}
use Rattle.coll_core.specs.Steps.{Acts}
use Rattle.coll_core.proofs.step.Act.{can_go_on, parts}
use Rattle.coll_core.proofs.step.Actions.{computed, on_err, same_written}
use Rattle.coll_core.proofs.between.FirstOfReady.{acts_at}
use Rattle.coll_core.proofs.engine.Core.compute.Goals as goal

pub act-requires-clause-fits : goal.act-requires-clause-fits
act-requires-clause-fits c =
    let at = acts_at _ c.args.self.now c.args.ticket c.in-Ok.request.now c.args.action c.self.view_is c.requires.acting c.in-Ok.ensures.found in
    subst (λ n. Fits n c.args.action) (sym at.filled) at.fits

pub act-requires-clause-small : goal.act-requires-clause-small
act-requires-clause-small c =
    let at = acts_at _ c.args.self.now c.args.ticket c.in-Ok.request.now c.args.action c.self.view_is c.requires.acting c.in-Ok.ensures.found in
    subst (λ n. n < 2 ^ 32) (sym at.filled) c.is_addressable.ensures

pub invariant_of-self : goal.invariant_of-self
invariant_of-self c =
    let same = same_written c.self.inside.arena c.args.ticket.slot c.in-Ok.request.now c.act.new.self c.in-Ok.ensures.found c.in_err-act.ensures.err in
    subst (λ (a : Slots Request). IsCore (parts c.self.inside.ranks c.self.inside.starts c.self.inside.trace a c.self.inside.queues c.self.inside.matches))
    (sym same) c.self.invariant

pub returns-in_err-act-clause-err : goal.returns-in_err-act-clause-err
returns-in_err-act-clause-err c =
    let same = same_written c.self.inside.arena c.args.ticket.slot c.in-Ok.request.now c.act.new.self c.in-Ok.ensures.found c.in_err-act.ensures.err in
    on_err c.from_residual.result _
    (ap (λ (a : Slots Request). parts c.self.inside.ranks c.self.inside.starts c.self.inside.trace a c.self.inside.queues c.self.inside.matches) same
    ∙ c.self.view_is)

pub advance-requires : goal.advance-requires
advance-requires c =
    let at = acts_at _ c.args.self.now c.args.ticket c.in-Ok.request.now c.args.action c.self.view_is c.requires.acting c.in-Ok.ensures.found in
    can_go_on c.self.inside.arena c.args.ticket c.in-Ok.request.now _ _ c.args.action c.is_sound.ensures at.live
    (record { is = refl; round_is = refl; index_is = refl; buf = refl }) at.comm_in at.round_in at.next_is

pub invariant_of-self-2 : goal.invariant_of-self-2
invariant_of-self-2 c =
    let at = acts_at _ c.args.self.now c.args.ticket c.in-Ok.request.now c.args.action c.self.view_is c.requires.acting c.in-Ok.ensures.found in
    let x = c.in-Ok.request.now in
    (computed c.self.inside.ranks c.self.inside.starts c.self.inside.trace c.self.inside.arena c.advance.new.arena c.self.inside.queues c.self.inside.matches
    c.args.ticket x _ c.args.action c.act.new.self c.advance.result c.is_sound.ensures c.self.invariant at c.requires.local
    c.in_ok-act.ensures.ok
    (record { is = refl; round_is = refl; index_is = refl; buf = refl }) c.advance.ensures).0

pub returns-clause-acts : goal.returns-clause-acts
returns-clause-acts c =
    let at = acts_at _ c.args.self.now c.args.ticket c.in-Ok.request.now c.args.action c.self.view_is c.requires.acting c.in-Ok.ensures.found in
    let x = c.in-Ok.request.now in
    subst (λ (p : Parts). Acts p
    (parts c.self.inside.ranks c.self.inside.starts c.self.inside.trace c.advance.new.arena c.self.inside.queues c.self.inside.matches) c.advance.result)
    c.self.view_is
    (computed c.self.inside.ranks c.self.inside.starts c.self.inside.trace c.self.inside.arena c.advance.new.arena c.self.inside.queues c.self.inside.matches
    c.args.ticket x _ c.args.action c.act.new.self c.advance.result c.is_sound.ensures c.self.invariant at c.requires.local
    c.in_ok-act.ensures.ok
    (record { is = refl; round_is = refl; index_is = refl; buf = refl }) c.advance.ensures).1
