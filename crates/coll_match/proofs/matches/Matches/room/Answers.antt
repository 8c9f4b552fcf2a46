use Rattle.std.proofs.Common.{◌≡◌, ◌∙◌, ap, refl, sym, false}
use Rattle.std.specs.Prelude.{is_some}
use Rattle.coll_match.specs.Instances.{given, mail, seats, standing}
use Rattle.coll_match.proofs.Standing.{given_new, kept_members, mail_new, members_new, seats_new}
use Rattle.coll_match.proofs.matches.Matches.room.Goals as goal

pub returns-else-not-stands-clause-room : goal.returns-else-not-stands-clause-room
returns-else-not-stands-clause-room c =
    ap (λ m. record { members = m; given = given c.args.self.now; seats = seats c.args.self.now; mail = mail c.args.self.now })
    (kept_members _ _ refl c.args.key c.args.n (sym c.stands.ensures ∙ c.if-not-stands.false))

absent : (c : goal.After-drop) → is_some (standing c.self.inside.instances.entries c.args.key) ≡ false
absent c = ap (λ t. is_some (standing t c.args.key)) (c.self.view_is ∙ c.make.ensures.same) ∙ sym c.stands.ensures ∙ c.if-not-stands.true

pub returns-in_ok-insert-clause-room : goal.returns-in_ok-insert-clause-room
returns-in_ok-insert-clause-room c = λ z. record {
  members = members_new _ _ _ (c.self.view_is ∙ c.make.ensures.same) c.args.key c.in_ok-instance.instance (absent c)
      c.in_ok-insert.ensures.updates.0 c.args.n c.in_ok-instance.ensures.members z;
  given = given_new _ _ _ (c.self.view_is ∙ c.make.ensures.same) c.args.key c.in_ok-instance.instance (absent c)
      c.in_ok-insert.ensures.updates.0 c.in_ok-instance.ensures.given z;
  seats = seats_new _ _ _ (c.self.view_is ∙ c.make.ensures.same) c.args.key c.in_ok-instance.instance (absent c)
      c.in_ok-insert.ensures.updates.0 c.in_ok-instance.ensures.seats z;
  mail = mail_new _ _ _ (c.self.view_is ∙ c.make.ensures.same) c.args.key c.in_ok-instance.instance (absent c)
      c.in_ok-insert.ensures.updates.0 c.in_ok-instance.ensures.mail z;
}
