use Rattle.std.proofs.Common.{ℕ, List, ◌∙◌, subst}
use Rattle.std.specs.Prelude.{IfSome}
use Rattle.coll_arena.specs.Slots.{record_in}
use Rattle.coll_core.specs.Starts.{Begun}
use Rattle.coll_kinds.specs.Elements.{AreBytes}
use Rattle.coll_core.proofs.start.Start.{can_begin, read_as, refused_so, short_so, started_begins, started_core, starts, the_record}
use Rattle.coll_core.proofs.engine.Core.start.Goals as goal

pub returns-in-Err-clause-refused : goal.returns-in-Err-clause-refused
returns-in-Err-clause-refused c =
    refused_so c.args.self.now c.args.rank c.args.ticket c.args.bytes c.in-Err.why
    (read_as c.args.self.now c.args.rank c.args.ticket c.as_slice.result.now c.args.bytes _ c.as_slice.ensures c.in-Err.ensures.refused)

pub returns-in-Err-make_start_room-clause-refused : goal.returns-in-Err-make_start_room-clause-refused
returns-in-Err-make_start_room-clause-refused c =
    short_so c.args.self.now c.args.rank c.args.ticket c.args.bytes c.in-Err-make_start_room.why
    (read_as c.args.self.now c.args.rank c.args.ticket c.as_slice.result.now c.args.bytes _ c.as_slice.ensures c.in_default.ensures.refused)
    c.in-Err-make_start_room.ensures.refused

pub begin-requires-clause-can : goal.begin-requires-clause-can
begin-requires-clause-can c =
    let r = the_record _ c.in_default.ensures.found in
    can_begin
    _ c.args.self.now c.make_start_room.new.self c.self.view_is c.in-Ok.ensures.same c.in-Ok.ensures.arena c.args.ticket c.self.invariant r.0 r.1
    c.in_default.ensures.low c.in-Ok.ensures.room

pub invariant_of-self : goal.invariant_of-self
invariant_of-self c =
    let r = the_record _ c.in_default.ensures.found in
    started_core
    _ c.args.self.now c.make_start_room.new.self c.self.view_is c.in-Ok.ensures.same c.in-Ok.ensures.arena c.args.ticket c.self.invariant r.0 r.1
    c.begin.new.arena c.begin.new.matches c.args.rank c.args.bytes c.in-Ok.buffer
    (read_as c.args.self.now c.args.rank c.args.ticket c.as_slice.result.now c.args.bytes _ c.as_slice.ensures c.in_default.ensures.refused)
    c.in_default.ensures.named (subst AreBytes c.as_slice.ensures c.in_default.ensures.bytes)
    c.in-Ok.ensures.buffer
    (subst (λ (bytes : List ℕ). IfSome (record_in c.self.inside.arena c.args.ticket.slot)
    (λ x. Begun c.self.inside.arena c.begin.new.arena c.self.inside.matches c.begin.new.matches c.args.ticket x bytes c.in-Ok.buffer))
    (c.into_bytes-given.ensures ∙ c.in-Ok.ensures.bytes) c.begin.ensures)

pub returns-clause-starts : goal.returns-clause-starts
returns-clause-starts c =
    let r = the_record _ c.in_default.ensures.found in
    starts
    _ c.args.self.now c.make_start_room.new.self c.self.view_is c.in-Ok.ensures.same c.in-Ok.ensures.arena c.args.ticket c.self.invariant r.0 r.1
    c.begin.new.arena c.begin.new.matches c.args.rank c.args.bytes c.in-Ok.buffer
    (read_as c.args.self.now c.args.rank c.args.ticket c.as_slice.result.now c.args.bytes _ c.as_slice.ensures c.in_default.ensures.refused)
    c.in_default.ensures.named (subst AreBytes c.as_slice.ensures c.in_default.ensures.bytes)
    c.in-Ok.ensures.buffer
    (subst (λ (bytes : List ℕ). IfSome (record_in c.self.inside.arena c.args.ticket.slot)
    (λ x. Begun c.self.inside.arena c.begin.new.arena c.self.inside.matches c.begin.new.matches c.args.ticket x bytes c.in-Ok.buffer))
    (c.into_bytes-given.ensures ∙ c.in-Ok.ensures.bytes) c.begin.ensures)

pub returns-clause-begins : goal.returns-clause-begins
returns-clause-begins c =
    let r = the_record _ c.in_default.ensures.found in
    started_begins
    _ c.args.self.now c.make_start_room.new.self c.self.view_is c.in-Ok.ensures.same c.in-Ok.ensures.arena c.args.ticket c.self.invariant r.0 r.1
    c.begin.new.arena c.begin.new.matches c.args.rank c.args.bytes c.in-Ok.buffer
    (read_as c.args.self.now c.args.rank c.args.ticket c.as_slice.result.now c.args.bytes _ c.as_slice.ensures c.in_default.ensures.refused)
    c.in_default.ensures.named (subst AreBytes c.as_slice.ensures c.in_default.ensures.bytes)
    c.in-Ok.ensures.buffer (subst (λ (bytes : List ℕ). IfSome (record_in c.self.inside.arena c.args.ticket.slot)
    (λ x. Begun c.self.inside.arena c.begin.new.arena c.self.inside.matches c.begin.new.matches c.args.ticket x bytes c.in-Ok.buffer))
    (c.into_bytes-given.ensures ∙ c.in-Ok.ensures.bytes) c.begin.ensures) c.is_sound.ensures
