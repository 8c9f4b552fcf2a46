use Rattle.std.proofs.Common.{◌∙◌, ap}
use Rattle.coll_kinds.specs.Lengths.{lent}
use Rattle.coll_match.proofs.Sizes.{joined_gave}
use Rattle.coll_core.proofs.start.Begin.{begun_there, joined}
use Rattle.coll_match.specs.Instances.{LookUps}
use Rattle.coll_core.proofs.engine.starting.begin.Goals as goal

pub seat-requires : goal.seat-requires
seat-requires c =
    joined_gave c.args.matches.now c.join-request.new.self c.key-key.result c.member-member.result c.args.bytes
    (ap (λ (s : LookUps). s.given) c.join-request.ensures)

pub returns : goal.returns
returns c =
    begun_there c.args.arena.now c.reweigh.new.self c.shift.new.self c.args.matches.now c.seat.new.self c.args.ticket
    c.in-Ok.request.now (record c.once_more.new.request { hint = c.join-request.result }) c.args.bytes c.args.buffer
    c.is_sound.ensures c.requires.named c.in-Ok.ensures.found c.once_more.ensures
    c.lent-weight.result c.list-list.result c.key-key.result c.member-member.result
    (c.lent-weight.ensures ∙ (λ z. lent (c.sig.ensures.sig z) (c.n.ensures.n z) (c.member-member.ensures.member z)))
    c.in-Ok-reweigh.ensures.puts c.in-Ok-shift.ensures.puts
    c.key-key.ensures c.member-member.ensures.member
    (joined c.args.matches.now c.join-request.new.self c.seat.new.self c.key-key.result c.member-member.result c.args.ticket.slot c.args.bytes
    (ap (λ (s : LookUps). s.members) c.join-request.ensures) (ap (λ (s : LookUps). s.given) c.join-request.ensures)
    (ap (λ (s : LookUps). s.seats) c.join-request.ensures) (ap (λ (s : LookUps). s.mail) c.join-request.ensures)
    (ap (λ (s : LookUps). s.members) c.seat.ensures) (ap (λ (s : LookUps). s.given) c.seat.ensures)
    (ap (λ (s : LookUps). s.seats) c.seat.ensures) (ap (λ (s : LookUps). s.mail) c.seat.ensures))
    c.list-list.ensures.stands c.list-list.ensures.list c.in-Ok-reweigh.ensures.reweighed c.in-Ok-shift.ensures.shifted
