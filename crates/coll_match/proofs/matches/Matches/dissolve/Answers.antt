use Rattle.std.proofs.Common.{None}
use Rattle.coll_match.specs.Instances.{given_of, mail_of, members_of, seats_of}
use Rattle.coll_match.proofs.Standing.{lifted}
use Rattle.coll_match.proofs.matches.Matches.dissolve.Goals as goal

pub returns : goal.returns
returns c = λ z. record {
  members = lifted _ _ _ c.self.view_is c.args.key None c.swap_remove.ensures.updates.0 members_of z;
  given = lifted _ _ _ c.self.view_is c.args.key None c.swap_remove.ensures.updates.0 given_of z;
  seats = lifted _ _ _ c.self.view_is c.args.key None c.swap_remove.ensures.updates.0 seats_of z;
  mail = lifted _ _ _ c.self.view_is c.args.key None c.swap_remove.ensures.updates.0 mail_of z;
}
