use Rattle.std.proofs.Common.{◌∙◌, None, ap, not, refl, sym}
use Rattle.std.proofs.lemmas.List.Folds.{list_any_at}
use Rattle.std.proofs.lemmas.List.Quantifiers.{position-Some}
use Rattle.coll_core.specs.Cores.{seen, setting}
use Rattle.coll_complete.specs.Requests.{is_active, is_done}
use Rattle.coll_complete.proofs.Firsts.{is_active-done}
use Rattle.coll_serial.specs.Parts.{tickets_of}
use Rattle.coll_serial.proofs.Finding.{accepted_at, completes_one, lowest_low}
use Rattle.coll_serial.proofs.engine.Engine.test_any.Goals as goal

pub complete_part-requires-clause-accepted : goal.complete_part-requires-clause-accepted
complete_part-requires-clause-accepted c =
    let m = seen c.args.self.now in
    accepted_at (setting c.args.self.now) m c.args.rank c.args.parts.now c.in-Some.position _ (sym c.in_ok-survey.ensures.refused)
    (lowest_low m c.args.parts.now c.in-Some.position (sym c.in_ok-survey.ensures.done ∙ c.in-Some.is))

pub complete_part-requires-clause-fits : goal.complete_part-requires-clause-fits
complete_part-requires-clause-fits c done =
    let m = seen c.args.self.now in
    c.in_ok-check_span.ensures.fits done
    (accepted_at (setting c.args.self.now) m c.args.rank c.args.parts.now c.in-Some.position _ (sym c.in_ok-survey.ensures.refused)
    (lowest_low m c.args.parts.now c.in-Some.position (sym c.in_ok-survey.ensures.done ∙ c.in-Some.is)))

pub returns-clause-undefined : goal.returns-clause-undefined
returns-clause-undefined c =
    let m = seen c.args.self.now in
    let list = tickets_of c.args.parts.now in
    let found = position-Some (is_done m) list c.in-Some.position None (sym c.in_ok-survey.ensures.done ∙ c.in-Some.is) in
    sym (ap not (list_any_at (is_active m) list c.in-Some.position None found.0 (is_active-done m _ found.1)))

pub returns-clause-completes : goal.returns-clause-completes
returns-clause-completes c =
    completes_one (setting c.args.self.now) c.args.rank (seen c.args.self.now) (seen c.complete_part.new.self) c.in-Some.position
    c.args.parts.now _ _ c.complete_part.new.part c.args.out.now c.complete_part.new.out
    (sym c.in_ok-survey.ensures.done ∙ c.in-Some.is) c.complete_part.ensures.completes refl
