use Rattle.std.proofs.Common.{◌∙◌, ap, sym}
use Rattle.coll_match.specs.Instances.{dissolved, left, look_ups}
use Rattle.coll_match.proofs.Standing.{left_last, left_other}
use Rattle.coll_match.proofs.matches.Matches.leave.Goals as goal

pub returns-then-is_last-clause-left : goal.returns-then-is_last-clause-left
returns-then-is_last-clause-left c =
    c.dissolve.ensures ∙ ap (λ s. dissolved s c.args.key) c.unseat-is_last.ensures.seat
    ∙ left_last c.args.self.now c.args.key c.args.member (c.unseat-is_last.ensures.last.0 c.if-is_last.true)
    ∙ ap (left (look_ups c.args.self.now) c.args.key c.args.member) (sym c.if-is_last.true)

pub returns-else-is_last-clause-left : goal.returns-else-is_last-clause-left
returns-else-is_last-clause-left c =
    c.unseat-is_last.ensures.seat ∙ left_other (look_ups c.args.self.now) c.args.key c.args.member
    ∙ ap (left (look_ups c.args.self.now) c.args.key c.args.member) (sym c.if-is_last.false)
