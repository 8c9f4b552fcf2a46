use Rattle.std.proofs.Common.{◌∙◌, ap, refl, sym}
use Rattle.std.specs.Prelude.{is_some}
use Rattle.coll_match.specs.Instances.{mail_of}
use Rattle.coll_match.proofs.Standing.{stands}
use Rattle.coll_match.proofs.matches.Matches.ready.Goals as goal

pub returns-in-Some : goal.returns-in-Some
returns-in-Some c =
    c.is_ready.ensures ∙ ap (λ o. is_some (mail_of o c.args.from c.args.to c.args.round))
    (sym (stands c.args.self.now c.args.self.now refl c.args.key c.in-Some.instance.now c.in-Some.ensures 0))
