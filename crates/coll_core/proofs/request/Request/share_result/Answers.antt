use Rattle.std.proofs.Common.{◌∙◌, replicate, sym}
use Rattle.coll_plans.specs.Plans.{family}
use Rattle.coll_match.specs.Held.{combined_rows}
use Rattle.coll_match.specs.Instances.{given}
use Rattle.coll_refinement.specs.Requests.{Live, key}
use Rattle.coll_core.specs.Requests.{shown}
use Rattle.coll_core.proofs.step.SharedRows.{is_of_rows}
use Rattle.coll_core.proofs.request.Request.share_result.Goals as goal

pub share_combined-shared-requires-clause-tag : goal.share_combined-shared-requires-clause-tag
share_combined-shared-requires-clause-tag c =
    let q : Live = shown c.args.self.now in (
      λ m. replicate (family q.sig q.members m).input.len 0,
      c.tag.ensures
          ∙ (is_of_rows (given c.args.matches.now (key q)) q c.args.work.now c.in-Some.joined.first c.in-Some.joined.count
          c.requires.rows c.requires.stands c.in-Some.ensures.joins
          ∙ (λ z. combined_rows (given c.args.matches.now (sym c.key.ensures z)) (λ m. replicate (family q.sig q.members m).input.len 0)
          (record { op = sym c.op.ensures z; ty = sym c.ty.ensures z; first = c.in-Some.joined.first; count = c.in-Some.joined.count }))),
    )
