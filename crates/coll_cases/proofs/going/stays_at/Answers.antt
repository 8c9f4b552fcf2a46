use Rattle.std.proofs.Common.{◌≡◌, ◌<◌, ◌≤◌, length, Option, Some, refl, sym, subst, ◌∙◌}
use Rattle.std.proofs.lemmas.Bool.{ltb-true}
use Rattle.std.proofs.lemmas.Option.{slice_get_read}
use Rattle.std.specs.Prelude.{slice_get}
use Rattle.coll_verdict.specs.declared.stood.Stood.{Stood}
use Rattle.coll_verdict.specs.Code.{stand_in}
use Rattle.coll_cases.proofs.Showing.{stays_so}
use Rattle.coll_cases.proofs.going.stays_at.Goals as goal

pub returns : goal.returns
returns c = λ yes h stood same.
    let found = c.in-Some.ensures.lookup in
    let within : c.args.rank < length c.args.ranks.now = ltb-true _ _ (sym found.0) in
    let at : slice_get c.args.ranks.now c.args.rank ≡ Some c.in-Some.own.now =
    slice_get_read c.args.ranks.now _ c.args.rank c.in-Some.own.now refl within found.1 in
    stays_so c.args.setup.now.library.now h c.args.ranks.now c.args.setup.now.groups.now c.args.rank c.args.place stood same (sym c.all_stay.ensures ∙ yes)
    (subst (λ (o : Option Stood). stand_in o ≤ c.args.place) (sym at) c.if-own-place.false)
