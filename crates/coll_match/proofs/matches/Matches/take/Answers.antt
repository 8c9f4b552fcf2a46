use Rattle.std.proofs.Common.{◌∙◌, ap, refl, sym, None}
use Rattle.std.specs.Prelude.{is_some}
use Rattle.coll_match.specs.Instances.{given, mail_of, members, seats}
use Rattle.coll_match.proofs.Standing.{mail_changed, mail_missing, stands}
use Rattle.coll_match.proofs.matches.Matches.take.Goals as goal

pub returns-in_err-at_mut-clause-gone : goal.returns-in_err-at_mut-clause-gone
returns-in_err-at_mut-clause-gone c =
    let none = mail_missing c.args.self.now c.args.self.now refl c.args.key c.args.from c.args.to c.args.round
    (ap is_some (sym c.in_err-at_mut.ensures.value)) in
    ap (λ m. record { members = members c.args.self.now; given = given c.args.self.now; seats = seats c.args.self.now; mail = m }) none

pub returns-clause-taken : goal.returns-clause-taken
returns-clause-taken c =
    c.take.ensures.taken ∙ ap (λ o. mail_of o c.args.from c.args.to c.args.round)
    (sym (stands c.args.self.now c.args.self.now refl c.args.key c.in_ok-at_mut.field-0.now c.in_ok-at_mut.ensures.value 0))

pub returns-clause-gone : goal.returns-clause-gone
returns-clause-gone c =
    mail_changed c.args.self.now c.args.key c.in_ok-at_mut.field-0.now c.take.new.self c.in_ok-at_mut.ensures.value c.args.from c.args.to c.args.round None
    c.take.ensures.members c.take.ensures.given c.take.ensures.seats c.take.ensures.mail
