use Rattle.std.proofs.Common.{refl}
use Rattle.coll_match.proofs.Standing.{gave, given_kept, mail_kept, members_kept, seats_put}
use Rattle.coll_match.proofs.matches.Matches.seat.Goals as goal

pub seat-requires : goal.seat-requires
seat-requires c = gave c.args.self.now c.args.self.now refl c.args.key c.in-Some.instance.now c.in-Some.ensures.value c.args.member c.requires

pub returns : goal.returns
returns c = λ z. record {
  members = members_kept c.args.self.now c.args.key c.in-Some.instance.now c.seat.new.self c.in-Some.ensures.value c.seat.ensures.members z;
  given = given_kept c.args.self.now c.args.key c.in-Some.instance.now c.seat.new.self c.in-Some.ensures.value c.seat.ensures.given z;
  seats = seats_put c.args.self.now c.args.key c.in-Some.instance.now c.seat.new.self c.in-Some.ensures.value c.args.member _ c.seat.ensures.seats z;
  mail = mail_kept c.args.self.now c.args.key c.in-Some.instance.now c.seat.new.self c.in-Some.ensures.value c.seat.ensures.mail z;
}
