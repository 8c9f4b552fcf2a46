use Rattle.std.proofs.Common.{◌∙◌, ap, refl, Some}
use Rattle.coll_match.specs.Held.{combined_rows}
use Rattle.coll_match.specs.Instances.{given_of}
use Rattle.coll_match.proofs.Standing.{set_value_own, stands}
use Rattle.coll_match.proofs.matches.Matches.share_combined.Goals as goal

pub share_combined-requires-clause-tag : goal.share_combined-requires-clause-tag
share_combined-requires-clause-tag c = (
  c.requires.tag.0,
  c.requires.tag.1
      ∙ ap (λ o. combined_rows (given_of o) c.requires.tag.0 c.args.of)
      (stands c.args.self.now c.args.self.now refl c.args.key c.in_ok-at_mut.field-0.now c.in_ok-at_mut.ensures.value 0),
)

pub returns-clause-same : goal.returns-clause-same
returns-clause-same c =
    set_value_own _ _ c.share_combined.new.self (ap Some c.share_combined.ensures.same ∙ c.in_ok-at_mut.ensures.value)
