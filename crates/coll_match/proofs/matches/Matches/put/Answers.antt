use Rattle.std.proofs.Common.{◌∙◌, ap, refl, sym, Some}
use Rattle.coll_match.proofs.Standing.{gave, if_ok, on_err, put_kept, set_value_own, stands}
use Rattle.coll_match.specs.Instances.{mail_of, seats_of}
use Rattle.coll_match.proofs.matches.Matches.put.Goals as goal

pub returns-clause-kept : goal.returns-clause-kept
returns-clause-kept c =
    put_kept c.put.result c.args.self.now c.args.key c.in-Some.instance.now c.put.new.self c.in-Some.ensures.value c.args.from
    c.args.to c.args.round (Some c.args.message)
    c.put.ensures.members c.put.ensures.given c.put.ensures.seats c.put.ensures.mail

pub returns-clause-err : goal.returns-clause-err
returns-clause-err c =
    on_err c.put.result (λ same. set_value_own _ _ c.put.new.self (ap Some same ∙ c.in-Some.ensures.value)) c.put.ensures.err

pub returns-clause-receiver : goal.returns-clause-receiver
returns-clause-receiver c =
    if_ok c.put.result (λ slot is. is ∙ ap (λ o. seats_of o c.args.to)
    (sym (stands c.args.self.now c.args.self.now refl c.args.key c.in-Some.instance.now c.in-Some.ensures.value c.args.to))) c.put.ensures.receiver

pub put-requires-clause-member : goal.put-requires-clause-member
put-requires-clause-member c = gave c.args.self.now c.args.self.now refl c.args.key c.in-Some.instance.now c.in-Some.ensures.value c.args.from c.requires.joined

pub put-requires-clause-new : goal.put-requires-clause-new
put-requires-clause-new c =
    ap (λ o. mail_of o c.args.from c.args.to c.args.round)
    (sym (stands c.args.self.now c.args.self.now refl c.args.key c.in-Some.instance.now c.in-Some.ensures.value 0)) ∙ c.requires.new
