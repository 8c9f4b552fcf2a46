use Rattle.std.proofs.Common.{refl, sym}
use Rattle.coll_match.proofs.Standing.{given_kept, last, mail_kept, members_kept, sat, seats_put}
use Rattle.coll_match.proofs.matches.Matches.unseat.Goals as goal

pub leave-requires-clause-low : goal.leave-requires-clause-low
leave-requires-clause-low c = sat c.args.self.now c.args.self.now refl c.args.key c.in-Some.instance.now c.in-Some.ensures.value c.args.member c.requires.seated

pub leave-requires-clause-joined : goal.leave-requires-clause-joined
leave-requires-clause-joined c bytes is = c.requires.joined bytes is c.in-Some.instance.now (sym c.in-Some.ensures.value)

pub returns-clause-seat : goal.returns-clause-seat
returns-clause-seat c = λ z. record {
  members = members_kept c.args.self.now c.args.key c.in-Some.instance.now c.leave.new.self c.in-Some.ensures.value c.leave.ensures.members z;
  given = given_kept c.args.self.now c.args.key c.in-Some.instance.now c.leave.new.self c.in-Some.ensures.value c.leave.ensures.given z;
  seats = seats_put c.args.self.now c.args.key c.in-Some.instance.now c.leave.new.self c.in-Some.ensures.value c.args.member _ c.leave.ensures.seats z;
  mail = mail_kept c.args.self.now c.args.key c.in-Some.instance.now c.leave.new.self c.in-Some.ensures.value c.leave.ensures.mail z;
}

pub returns-clause-last : goal.returns-clause-last
returns-clause-last c =
    last c.args.self.now c.args.key c.in-Some.instance.now c.leave.new.self c.in-Some.ensures.value
    c.args.member c.leave.result c.leave.ensures.members c.leave.ensures.given c.leave.ensures.seats c.leave.ensures.over
