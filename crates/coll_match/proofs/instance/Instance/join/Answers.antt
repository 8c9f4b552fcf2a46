use Rattle.std.proofs.Common.{◌∙◌, ap, refl, Some}
use Rattle.coll_kinds.specs.Puts.{put}
use Rattle.coll_match.specs.Held.{contribution_of, given_in, mail_in, seat_in, sent_of, slot_of}
use Rattle.coll_match.proofs.Shares.{low_share, parts_kept, parts_set}
use Rattle.coll_match.proofs.CombinedRows.{known_more}
use Rattle.coll_match.proofs.instance.Instance.join.Goals as goal

pub returns-clause-given : goal.returns-clause-given
returns-clause-given c =
    parts_set contribution_of c.self.inside.shares.items c.from.result
    (record { given = Some c.args.bytes; slot = c.index_mut.result.now.slot; mailbox = c.index_mut.result.now.mailbox })
    (low_share _ _ _ _ c.self.view_is c.requires.low c.from.ensures)
    ∙ (λ z. put (given_in (c.self.view_is z)) (c.from.ensures z) (Some c.args.bytes))

pub returns-clause-seats : goal.returns-clause-seats
returns-clause-seats c =
    parts_kept slot_of c.self.inside.shares.items c.from.result
    (record { given = Some c.args.bytes; slot = c.index_mut.result.now.slot; mailbox = c.index_mut.result.now.mailbox })
    (low_share _ _ _ _ c.self.view_is c.requires.low c.from.ensures)
    c.index_mut.result.now c.index_mut.ensures.value refl
    ∙ ap seat_in c.self.view_is

pub returns-clause-mail : goal.returns-clause-mail
returns-clause-mail c =
    parts_kept sent_of c.self.inside.shares.items c.from.result
    (record { given = Some c.args.bytes; slot = c.index_mut.result.now.slot; mailbox = c.index_mut.result.now.mailbox })
    (low_share _ _ _ _ c.self.view_is c.requires.low c.from.ensures)
    c.index_mut.result.now c.index_mut.ensures.value refl
    ∙ ap mail_in c.self.view_is

pub invariant_of-self : goal.invariant_of-self
invariant_of-self c =
    known_more c.self.inside.joined c.self.inside.combined.items c.self.inside.shares.items c.from.result
    (record { given = Some c.args.bytes; slot = c.index_mut.result.now.slot; mailbox = c.index_mut.result.now.mailbox }) c.args.bytes
    (low_share _ _ _ _ c.self.view_is c.requires.low c.from.ensures) refl
    ((λ z. given_in (c.self.view_is z) (c.from.ensures z)) ∙ c.requires.new) c.self.invariant
