use Rattle.std.proofs.Common.{sym, ◌∙◌}
use Rattle.coll_parser.specs.Code.{rows_view}
use Rattle.coll_script.proofs.Shared.{shared-values}
use Rattle.coll_script.proofs.values.MemberValues.new.Goals as goal

pub returns-then-is_shared-clause-ok : goal.returns-then-is_shared-clause-ok
returns-then-is_shared-clause-ok c =
    shared-values c.args.sig (rows_view c.args.given.now) c.in_ok-plain_value.field-0.items
    (sym c.is_shared.ensures ∙ c.if-is_shared.true) c.in_ok-plain_value.ensures.ok 0 c.args.n
