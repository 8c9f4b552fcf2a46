use Rattle.std.proofs.Common.{◌∙◌, ap, refl, sym}
use Rattle.coll_match.specs.Instances.{given_of}
use Rattle.coll_match.proofs.Standing.{given_put, mail_kept, members_kept, seats_kept, sized, stands}
use Rattle.coll_match.proofs.matches.Matches.join.Goals as goal

pub join-requires-clause-new : goal.join-requires-clause-new
join-requires-clause-new c =
    ap (λ o. given_of o c.args.member)
    (sym (stands c.args.self.now c.args.self.now refl c.args.key c.in-Some.instance.now c.in-Some.ensures.value c.args.member)) ∙ c.requires.new

pub join-requires-clause-low : goal.join-requires-clause-low
join-requires-clause-low c = sized c.args.self.now c.args.self.now refl c.args.key c.in-Some.instance.now c.in-Some.ensures.value c.args.member c.requires.room

pub returns : goal.returns
returns c = λ z. record {
  members = members_kept c.args.self.now c.args.key c.in-Some.instance.now c.join.new.self c.in-Some.ensures.value c.join.ensures.members z;
  given = given_put c.args.self.now c.args.key c.in-Some.instance.now c.join.new.self c.in-Some.ensures.value c.args.member _ c.join.ensures.given z;
  seats = seats_kept c.args.self.now c.args.key c.in-Some.instance.now c.join.new.self c.in-Some.ensures.value c.join.ensures.seats z;
  mail = mail_kept c.args.self.now c.args.key c.in-Some.instance.now c.join.new.self c.in-Some.ensures.value c.join.ensures.mail z;
}
