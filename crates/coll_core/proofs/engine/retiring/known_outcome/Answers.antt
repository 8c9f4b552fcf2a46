use Rattle.std.proofs.Common.{inl}
use Rattle.coll_core.proofs.retire.RootRow.{known_joined}
use Rattle.coll_core.proofs.engine.retiring.known_outcome.Goals as goal

pub returns-in-Some : goal.returns-in-Some
returns-in-Some c = inl (c.in-Some.ensures.kind, c.in-Some.ensures.given)

pub returns-in-None : goal.returns-in-None
returns-in-None c =
    known_joined c.args.matches.now c.args.request.now c.joined_rows.result c.joined_rows.ensures.kind c.joined_rows.ensures.joined
