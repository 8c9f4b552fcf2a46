use Rattle.std.proofs.Common.{◌∙◌, ap, refl, Some}
use Rattle.coll_kinds.specs.Puts.{put}
use Rattle.coll_match.specs.Held.{contribution_of, given_in, mail_in, seat_in, sent_of, slot_of}
use Rattle.coll_match.proofs.Shares.{low_share, parts_kept, parts_set}
use Rattle.coll_match.proofs.CombinedRows.{known_kept}
use Rattle.coll_match.proofs.instance.Instance.seat.Goals as goal

pub returns-clause-seats : goal.returns-clause-seats
returns-clause-seats c =
    parts_set slot_of c.self.inside.shares.items c.from.result
    (record { given = c.index_mut.result.now.given; slot = Some c.args.slot; mailbox = c.index_mut.result.now.mailbox })
    (low_share _ _ _ _ c.self.view_is c.requires c.from.ensures)
    ∙ (λ z. put (seat_in (c.self.view_is z)) (c.from.ensures z) (Some c.args.slot))

pub returns-clause-given : goal.returns-clause-given
returns-clause-given c =
    parts_kept contribution_of c.self.inside.shares.items c.from.result
    (record { given = c.index_mut.result.now.given; slot = Some c.args.slot; mailbox = c.index_mut.result.now.mailbox })
    (low_share _ _ _ _ c.self.view_is c.requires c.from.ensures)
    c.index_mut.result.now c.index_mut.ensures.value refl
    ∙ ap given_in c.self.view_is

pub returns-clause-mail : goal.returns-clause-mail
returns-clause-mail c =
    parts_kept sent_of c.self.inside.shares.items c.from.result
    (record { given = c.index_mut.result.now.given; slot = Some c.args.slot; mailbox = c.index_mut.result.now.mailbox })
    (low_share _ _ _ _ c.self.view_is c.requires c.from.ensures)
    c.index_mut.result.now c.index_mut.ensures.value refl
    ∙ ap mail_in c.self.view_is

pub invariant_of-self : goal.invariant_of-self
invariant_of-self c =
    known_kept c.self.inside.joined c.self.inside.combined.items c.self.inside.shares.items c.from.result
    (record { given = c.index_mut.result.now.given; slot = Some c.args.slot; mailbox = c.index_mut.result.now.mailbox }) c.index_mut.result.now
    (low_share _ _ _ _ c.self.view_is c.requires c.from.ensures) c.index_mut.ensures.value refl c.self.invariant
