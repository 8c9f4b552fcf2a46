use Rattle.std.proofs.Common.{◌∙◌, ◌<◌, length, ap, refl, Some}
use Rattle.coll_match.specs.declared.instance.Share.{Share}
use Rattle.coll_sched.specs.Worlds.{put_mail}
use Rattle.coll_match.specs.Held.{contribution_of, given_in, mail_in, seat_in, slot_of}
use Rattle.coll_match.proofs.Shares.{low_share, mail_sent, parts_kept}
use Rattle.coll_match.proofs.CombinedRows.{known_kept}
use Rattle.coll_match.proofs.instance.Instance.put.Goals as goal

abbrev after : (c : goal.After-seated) → Share
after c = record { given = c.index_mut.result.now.given; slot = c.index_mut.result.now.slot; mailbox = c.put.new.self }

low : (c : goal.After-seated) → c.from.result < length c.self.inside.shares.items
low c = low_share _ _ _ _ c.self.view_is c.requires.member c.from.ensures

pub returns-clause-given : goal.returns-clause-given
returns-clause-given c =
    parts_kept contribution_of c.self.inside.shares.items c.from.result (after c) (low c) c.index_mut.result.now c.index_mut.ensures.value refl
    ∙ ap given_in c.self.view_is

pub returns-clause-seats : goal.returns-clause-seats
returns-clause-seats c =
    parts_kept slot_of c.self.inside.shares.items c.from.result (after c) (low c) c.index_mut.result.now c.index_mut.ensures.value refl
    ∙ ap seat_in c.self.view_is

pub returns-clause-receiver : goal.returns-clause-receiver
returns-clause-receiver c = c.seated.ensures ∙ ap (λ f. f c.args.envelope.to) (returns-clause-seats c)

pub returns-clause-mail : goal.returns-clause-mail
returns-clause-mail c =
    mail_sent c.self.inside.shares.items c.from.result (after c) c.index_mut.result.now (low c) c.index_mut.ensures.value
    c.args.envelope.to c.args.envelope.round (Some c.args.message) c.in_ok-put.ensures.sent
    ∙ (λ z. put_mail (mail_in (c.self.view_is z)) (c.from.ensures z) c.args.envelope.to c.args.envelope.round (Some c.args.message))

pub invariant_of-self : goal.invariant_of-self
invariant_of-self c =
    known_kept c.self.inside.joined c.self.inside.combined.items c.self.inside.shares.items c.from.result
    (record { given = c.index_mut.result.now.given; slot = c.index_mut.result.now.slot; mailbox = c.put.new.self }) c.index_mut.result.now
    (low_share _ _ _ _ c.self.view_is c.requires.member c.from.ensures) c.index_mut.ensures.value refl c.self.invariant

pub invariant_of-self-2 : goal.invariant_of-self-2
invariant_of-self-2 c =
    known_kept c.self.inside.joined c.self.inside.combined.items c.self.inside.shares.items c.from.result
    (record { given = c.index_mut.result.now.given; slot = c.index_mut.result.now.slot; mailbox = c.put.new.self }) c.index_mut.result.now
    (low_share _ _ _ _ c.self.view_is c.requires.member c.from.ensures) c.index_mut.ensures.value refl c.self.invariant
