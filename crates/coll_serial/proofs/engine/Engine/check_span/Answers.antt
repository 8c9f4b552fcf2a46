use Rattle.std.proofs.Common.{◌-◌, ◌∙◌, Some, sym, ap, arith}
use Rattle.coll_core.specs.Cores.{seen, setting}
use Rattle.coll_serial.specs.Parts.{span_len, ticket_of}
use Rattle.coll_serial.proofs.Finding.{fits_at, short_at}
use Rattle.coll_serial.proofs.Keeping.{looked_up}
use Rattle.coll_serial.proofs.Outcomes.{named_low}
use Rattle.coll_serial.proofs.engine.Engine.check_span.Goals as goal

pub returns-then-end-begin-clause-refused : goal.returns-then-end-begin-clause-refused
returns-then-end-begin-clause-refused c =
    let p = c.self.inside.core in
    let lengths = c.self.inside.outcome_lengths.items in
    let t = c.in-Some.ticket in
    let low = named_low (setting p) (seen p) t c.in-Ok-Done.field-0 lengths c.self.invariant.measured c.in-Ok-Done.ensures.phase in
    short_at p c.args.self.now c.self.view_is (ticket_of c.args.part.now) t
    (sym c.request.ensures ∙ (sym c.ticket.ensures ∙ c.in-Some.is)) lengths c.index-want.result.now
    (span_len c.args.part.now c.args.len) (c.span-begin.result.1 - c.span-begin.result.0) c.self.invariant.measured
    (looked_up lengths t.slot c.index-want.result.now low c.index-want.ensures)
    (c.in-Ok-Done.ensures.phase ∙ ap Some c.in-Ok-Done.field-0-is) (omega arith) (omega arith)

pub returns-clause-fits : goal.returns-clause-fits
returns-clause-fits c done none want is =
    let p = c.self.inside.core in
    let lengths = c.self.inside.outcome_lengths.items in
    let t = c.in-Some.ticket in
    let low = named_low (setting p) (seen p) t c.in-Ok-Done.field-0 lengths c.self.invariant.measured c.in-Ok-Done.ensures.phase in
    fits_at p c.args.self.now c.self.view_is (ticket_of c.args.part.now) t
    (sym c.request.ensures ∙ (sym c.ticket.ensures ∙ c.in-Some.is)) lengths c.index-want.result.now
    (span_len c.args.part.now c.args.len) c.self.invariant.measured
    (looked_up lengths t.slot c.index-want.result.now low c.index-want.ensures) (omega arith) want is
