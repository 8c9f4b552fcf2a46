use Rattle.std.proofs.Common.{ap, sym, not, ◌∙◌}
use Rattle.std.proofs.lemmas.List.Quantifiers.{position-Some}
use Rattle.std.proofs.lemmas.List.Folds.{list_any_at}
use Rattle.coll_complete.specs.Requests.{is_active, is_done, refusal_at}
use Rattle.coll_complete.proofs.Firsts.{first_of-map, is_active-done}
use Rattle.coll_complete.proofs.any.test_any_on.Goals as goal

pub complete-outcome-requires-clause-accepted : goal.complete-outcome-requires-clause-accepted
complete-outcome-requires-clause-accepted g c =
    let m = g.C.Requests.machine c.args.core.now in
    let found = position-Some (is_done m) c.args.requests.now c.in-Some.position c.index-requests-position.result
    (sym c.in_ok-survey.ensures.done ∙ c.in-Some.is) in
    first_of-map (refusal_at (g.C.Requests.setting c.args.core.now) m.state c.args.rank) c.args.requests.now c.in-Some.position
    c.index-requests-position.result
    (sym c.in_ok-survey.ensures.refused) found.0

pub complete-outcome-requires-clause-done : goal.complete-outcome-requires-clause-done
complete-outcome-requires-clause-done g c =
    (position-Some (is_done (g.C.Requests.machine c.args.core.now)) c.args.requests.now c.in-Some.position
    c.index-requests-position.result (sym c.in_ok-survey.ensures.done ∙ c.in-Some.is)).1

pub returns-in-Some-clause-undefined : goal.returns-in-Some-clause-undefined
returns-in-Some-clause-undefined g c =
    let m = g.C.Requests.machine c.args.core.now in
    let d = c.index-requests-position.result in
    let found = position-Some (is_done m) c.args.requests.now c.in-Some.position d
    (sym c.in_ok-survey.ensures.done ∙ c.in-Some.is) in
    sym (ap not (list_any_at (is_active m) c.args.requests.now c.in-Some.position d found.0
    (is_active-done m _ found.1)))
