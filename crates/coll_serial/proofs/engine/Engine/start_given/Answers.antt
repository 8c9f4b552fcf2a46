use Rattle.std.proofs.Common.{Option, Some, refl, sym, subst, ◌∙◌}
use Rattle.coll_kinds.specs.declared.ticket.Ticket.{Ticket}
use Rattle.coll_machine.specs.Calls.{Start}
use Rattle.coll_core.specs.Cores.{Parts, seen, setting}
use Rattle.coll_complete.specs.Starting.{StartsAt}
use Rattle.coll_serial.proofs.Keeping.{kept_started}
use Rattle.coll_serial.proofs.Refused.{start_denied}
use Rattle.coll_serial.proofs.engine.Engine.start_given.Goals as goal

pub invariant_of-self-2 : goal.invariant_of-self-2
invariant_of-self-2 c =
    kept_started c.self.inside.core c.start.new.self c.self.inside.communicators c.self.inside.outcome_lengths.items
    (Start c.args.rank c.in-Some.ticket c.args.bytes) c.self.invariant c.in_default-start.ensures.setting c.in_default-start.ensures.starts

pub returns-in-Err-clause-refused : goal.returns-in-Err-clause-refused
returns-in-Err-clause-refused c =
    start_denied c.self.inside.core c.args.self.now c.self.view_is c.args.rank c.args.request.now c.in-Some.ticket
    (sym c.ticket.ensures ∙ c.in-Some.is) c.args.bytes c.args.bytes refl c.in-Err.refused.why c.in-Err.ensures.refused

pub returns-clause-starts : goal.returns-clause-starts
returns-clause-starts c =
    let n = seen c.start.new.self in
    let at : StartsAt (setting c.args.self.now) c.args.rank (seen c.args.self.now) (Some c.in-Some.ticket, c.args.bytes) n =
    subst (λ (p : Parts). StartsAt (setting p) c.args.rank (seen p) (Some c.in-Some.ticket, c.args.bytes) n) c.self.view_is c.in_default-start.ensures.starts in
    subst (λ (r : Option Ticket). StartsAt (setting c.args.self.now) c.args.rank (seen c.args.self.now) (r, c.args.bytes) n)
    (sym (sym c.ticket.ensures ∙ c.in-Some.is)) at
