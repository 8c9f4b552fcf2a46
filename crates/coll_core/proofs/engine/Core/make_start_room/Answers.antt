use Rattle.std.proofs.Common.{◌≡◌, ◌∙◌, ◌<◌, ap, sym, subst}
use Rattle.std.specs.Prelude.{IfSome, length}
use Rattle.coll_kinds.specs.Lengths.{given_len}
use Rattle.coll_machine.specs.Settings.{size}
use Rattle.coll_arena.specs.Slots.{record_in}
use Rattle.coll_match.specs.Instances.{size as room_of}
use Rattle.coll_core.specs.Cores.{Parts, setting}
use Rattle.coll_core.specs.Starts.{next_instance}
use Rattle.coll_core.proofs.start.Room.{has_room, size_is, takes_in}
use Rattle.coll_core.proofs.engine.Core.make_start_room.Goals as goal

pub lay_in-requires : goal.lay_in-requires
lay_in-requires c =
    takes_in _ c.args.ticket.slot c.in-Ok.request.now c.args.bytes.now c.schedule.result.now c.self.invariant c.in-Ok.ensures.found
    (subst (λ p. IfSome (record_in p.arena c.args.ticket.slot) (λ x. length c.args.bytes.now ≡ given_len x.plan.sig x.plan.n x.plan.member))
    (sym c.self.view_is) c.requires.long)
    c.schedule.ensures.schedule

pub make_instance-requires : goal.make_instance-requires
make_instance-requires c =
    size_is _ c.args.ticket.slot c.n-n.result c.in-Ok.request.now c.self.invariant c.in-Ok.ensures.found c.n-n.ensures.n
    ∙ ap (λ (p : Parts). size (setting p) c.in-Ok.request.now.comm) c.self.view_is

pub returns-clause-room : goal.returns-clause-room
returns-clause-room c =
    subst (λ (p : Parts). IfSome (record_in p.arena c.args.ticket.slot) (λ x. x.plan.member < room_of c.make_instance.new.self.matches (next_instance x)))
    c.self.view_is
    (has_room _ c.args.ticket.slot c.n-n.result c.in-Ok.request.now c.self.invariant c.in-Ok.ensures.found c.n-n.ensures.n
    c.make_instance.new.self.matches c.in_ok-make_instance.ensures.room)
