use Rattle.std.proofs.Common.{◌∙◌, ◌<◌, ℕ, List, Option, length, ap, refl, sym, arith, None}
use Rattle.coll_match.specs.declared.instance.Share.{Share}
use Rattle.coll_sched.specs.Worlds.{put_mail}
use Rattle.coll_match.specs.Held.{contribution_of, given_in, mail_in, seat_in, sent_of, slot_of}
use Rattle.coll_match.proofs.Shares.{mail_past, mail_sent, part_read, parts_kept}
use Rattle.coll_match.proofs.CombinedRows.{known_kept}
use Rattle.coll_match.proofs.instance.Instance.take.Goals as goal

abbrev after : (c : goal.After-self-1) → Share
after c = record { given = c.index_mut.result.now.given; slot = c.index_mut.result.now.slot; mailbox = c.take.new.self }

low : (c : goal.After-self-1) → c.from-sender.result < length c.self.inside.shares.items
low c = omega (arith, c.if-sender-len.false)

pub returns-then-sender-len-clause-mail : goal.returns-then-sender-len-clause-mail
returns-then-sender-len-clause-mail c =
    mail_past c.self.inside.shares.items c.args.self.now c.args.from c.from-sender.result c.args.envelope.to c.args.envelope.round
    c.self.view_is c.from-sender.ensures (omega (arith, c.if-sender-len.true))

pub returns-clause-given : goal.returns-clause-given
returns-clause-given c =
    parts_kept contribution_of c.self.inside.shares.items c.from-sender.result (after c) (low c) c.index_mut.result.now c.index_mut.ensures.value refl
    ∙ ap given_in c.self.view_is

pub returns-clause-seats : goal.returns-clause-seats
returns-clause-seats c =
    parts_kept slot_of c.self.inside.shares.items c.from-sender.result (after c) (low c) c.index_mut.result.now c.index_mut.ensures.value refl
    ∙ ap seat_in c.self.view_is

pub returns-clause-mail : goal.returns-clause-mail
returns-clause-mail c =
    mail_sent c.self.inside.shares.items c.from-sender.result (after c) c.index_mut.result.now (low c) c.index_mut.ensures.value
    c.args.envelope.to c.args.envelope.round None c.take.ensures.sent
    ∙ (λ z. put_mail (mail_in (c.self.view_is z)) (c.from-sender.ensures z) c.args.envelope.to c.args.envelope.round None)

pub invariant_of-self : goal.invariant_of-self
invariant_of-self c =
    known_kept c.self.inside.joined c.self.inside.combined.items c.self.inside.shares.items c.from-sender.result (after c) c.index_mut.result.now
    (low c) c.index_mut.ensures.value refl c.self.invariant

pub returns-clause-taken : goal.returns-clause-taken
returns-clause-taken c =
    c.take.ensures.taken
    ∙ ap (λ (f : ℕ → ℕ → Option (List ℕ)). f c.args.envelope.to c.args.envelope.round)
    (sym (part_read sent_of c.self.inside.shares.items c.from-sender.result (after c) (low c) c.index_mut.result.now c.index_mut.ensures.value))
    ∙ (λ z. mail_in (c.self.view_is z) (c.from-sender.ensures z) c.args.envelope.to c.args.envelope.round)
