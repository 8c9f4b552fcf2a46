use Rattle.std.proofs.Common.{◌∙◌, ap, sym}
use Rattle.coll_match.specs.Instances.{given_of}
use Rattle.coll_match.proofs.Standing.{stands}
use Rattle.coll_match.proofs.matches.Matches.given.Goals as goal

pub returns : goal.returns
returns c = c.given.ensures
    ∙ ap (λ o. given_of o c.args.member) (sym (stands _ _ c.self.view_is c.args.key c.in_ok-get.field-0.now c.in_ok-get.ensures.value c.args.member))
