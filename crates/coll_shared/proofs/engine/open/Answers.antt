use Rattle.std.proofs.Common.{◌∙◌, ap, inr, map}
use Rattle.std.proofs.lemmas.Result.{err_from_is_err_and}
use Rattle.std.specs.List.{range_with_len}
use Rattle.coll_shared.specs.Ports.{opened}
use Rattle.coll_shared.proofs.engine.open.Goals as goal

pub returns-clause-ports : goal.returns-clause-ports
returns-clause-ports g c =
    c.in_ok-ports.ensures.ports ∙ ap (λ gs. map (opened gs) (range_with_len 0 c.args.config.ranks)) c.in_ok-communicators.ensures.groups

pub returns-in_err-combiner-clause-refused : goal.returns-in_err-combiner-clause-refused
returns-in_err-combiner-clause-refused g c =
    let p = err_from_is_err_and c.from_residual-in_err-combiner.result c.from_residual-in_err-combiner.ensures.1 in
    rw p.1 (inr (c.in_ok-check.ensures.ok, p.2))

pub returns-in_err-ports-clause-refused : goal.returns-in_err-ports-clause-refused
returns-in_err-ports-clause-refused g c =
    let p = err_from_is_err_and c.from_residual-in_err-ports.result c.from_residual-in_err-ports.ensures.1 in
    rw p.1 (inr (c.in_ok-check.ensures.ok, p.2 ∙ c.in_err-ports.ensures.refused))

pub returns-in_err-open-clause-refused : goal.returns-in_err-open-clause-refused
returns-in_err-open-clause-refused g c =
    let p = err_from_is_err_and c.from_residual-in_err-open.result c.from_residual-in_err-open.ensures.1 in
    rw p.1 (inr (c.in_ok-check.ensures.ok, p.2 ∙ c.in_err-open.ensures))
