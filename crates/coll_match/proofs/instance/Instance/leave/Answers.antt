use Rattle.std.proofs.Common.{◌≡◌, ◌∙◌, ap, subst, sym, refl, List, map, set, arith, length, None}
use Rattle.coll_kinds.specs.Puts.{put}
use Rattle.coll_match.specs.Held.{HasJoined, Held, contribution_of, given_in, mail_in, seat_in, sent_of, slot_of}
use Rattle.std.specs.List.{list_all}
use Rattle.std.specs.Option.{ForSome}
use Rattle.std.proofs.lemmas.List.{length-map}
use Rattle.coll_match.specs.declared.instance.Share.{Share}
use Rattle.coll_match.specs.Views.{part_of}
use Rattle.coll_match.proofs.Shares.{all_over, has_left, over_all, low_share, parts_kept, parts_set}
use Rattle.coll_match.proofs.CombinedRows.{known_kept}
use Rattle.coll_match.proofs.instance.Instance.leave.Goals as goal

pub returns-clause-seats : goal.returns-clause-seats
returns-clause-seats c =
    parts_set slot_of c.self.inside.shares.items c.from.result
    (record { given = c.index_mut.result.now.given; slot = None; mailbox = c.index_mut.result.now.mailbox })
    (low_share _ _ _ _ c.self.view_is c.requires.low c.from.ensures)
    ∙ (λ z. put (seat_in (c.self.view_is z)) (c.from.ensures z) None)

pub returns-clause-given : goal.returns-clause-given
returns-clause-given c =
    parts_kept contribution_of c.self.inside.shares.items c.from.result
    (record { given = c.index_mut.result.now.given; slot = None; mailbox = c.index_mut.result.now.mailbox })
    (low_share _ _ _ _ c.self.view_is c.requires.low c.from.ensures)
    c.index_mut.result.now c.index_mut.ensures.value refl
    ∙ ap given_in c.self.view_is

pub returns-clause-over : goal.returns-clause-over
returns-clause-over c =
    let shares : List Share =
    set c.self.inside.shares.items c.from.result (record { given = c.index_mut.result.now.given; slot = None; mailbox = c.index_mut.result.now.mailbox }) in
    let is : c.all_have_left.result ≡ list_all has_left shares = c.all_have_left.ensures ∙ ap (list_all has_left) c.deref.ensures.value in
    let count : length (map part_of shares) ≡ length shares = length-map shares part_of in
    (λ left m low. all_over shares (sym is ∙ left) m (omega (arith, low, count)), λ over. is ∙ over_all shares (λ m low. over m (omega (arith, low, count))))

pub returns-clause-mail : goal.returns-clause-mail
returns-clause-mail c =
    parts_kept sent_of c.self.inside.shares.items c.from.result
    (record { given = c.index_mut.result.now.given; slot = None; mailbox = c.index_mut.result.now.mailbox })
    (low_share _ _ _ _ c.self.view_is c.requires.low c.from.ensures)
    c.index_mut.result.now c.index_mut.ensures.value refl
    ∙ ap mail_in c.self.view_is

pub invariant_of-self : goal.invariant_of-self
invariant_of-self c =
    known_kept c.args.joined c.self.inside.combined.items c.self.inside.shares.items c.from.result
    (record { given = c.index_mut.result.now.given; slot = None; mailbox = c.index_mut.result.now.mailbox }) c.index_mut.result.now
    (low_share _ _ _ _ c.self.view_is c.requires.low c.from.ensures) c.index_mut.ensures.value refl
    (subst (λ (h : Held). ForSome c.args.joined (HasJoined h)) (sym c.self.view_is) c.requires.joined, c.self.invariant.1)
