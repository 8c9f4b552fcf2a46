use Rattle.std.proofs.Common.{◌<◌, ◌∙◌, Some, length, sym, ap, arith}
use Rattle.coll_core.specs.Cores.{seen, setting}
use Rattle.coll_serial.proofs.Keeping.{looked_up}
use Rattle.coll_serial.proofs.Outcomes.{denies_short, named_low, room_for}
use Rattle.coll_serial.proofs.engine.Engine.check_room.Goals as goal

pub index-want-requires : goal.index-want-requires
index-want-requires c =
    let p = c.self.inside.core in
    let low : c.in-Some.ticket.slot < length c.self.inside.outcome_lengths.items =
    named_low (setting p) (seen p) c.in-Some.ticket c.in_ok-phase.field-0 c.self.inside.outcome_lengths.items
    c.self.invariant.measured c.in_ok-phase.ensures.phase in
    omega (arith, low, c.self.inside.outcome_lengths.ok)

pub returns-then-room-want-clause-refused : goal.returns-then-room-want-clause-refused
returns-then-room-want-clause-refused c =
    let p = c.self.inside.core in let lengths = c.self.inside.outcome_lengths.items in
    let low = named_low (setting p) (seen p) c.in-Some.ticket c.in_ok-phase.field-0 lengths c.self.invariant.measured c.in_ok-phase.ensures.phase in
    denies_short p c.args.self.now c.self.view_is c.args.rank c.args.request.now c.in-Some.ticket
    (sym c.ticket.ensures ∙ c.in-Some.is) lengths c.index-want.result.now c.args.room
    c.self.invariant.measured (looked_up lengths c.in-Some.ticket.slot c.index-want.result.now low c.index-want.ensures)
    (c.in_ok-phase.ensures.phase ∙ ap Some c.in-Done.is) (omega (arith, c.if-room-want.true))

pub returns-clause-room : goal.returns-clause-room
returns-clause-room c =
    let p = c.self.inside.core in let lengths = c.self.inside.outcome_lengths.items in
    let low = named_low (setting p) (seen p) c.in-Some.ticket c.in_ok-phase.field-0 lengths c.self.invariant.measured c.in_ok-phase.ensures.phase in
    room_for p c.args.self.now c.self.view_is c.args.request.now c.in-Some.ticket (sym c.ticket.ensures ∙ c.in-Some.is) lengths
    c.index-want.result.now c.args.room
    c.self.invariant.measured (looked_up lengths c.in-Some.ticket.slot c.index-want.result.now low c.index-want.ensures) (omega (arith, c.if-room-want.false))
