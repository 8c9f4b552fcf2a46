use Rattle.std.proofs.Common.{◌∙◌, Some, ap, refl, sym}
use Rattle.coll_core.specs.Cores.{seen, setting}
use Rattle.coll_serial.specs.Lists.{CompletesParts}
use Rattle.worzsunab.specs.Listing.{done, refused, waits}
use Rattle.worzsunab.proofs.Answering.{was_open}
use Rattle.worzsunab.proofs.Coding.{coded}
use Rattle.worzsunab.proofs.ListAnswers.{Stays, not_of_false, not_of_true, on_false, on_true}
use Rattle.worzsunab.proofs.listing.wz_test_all.Goals as goal

pub returns-in-Ok-true : goal.returns-in-Ok-true
returns-in-Ok-true c =
    let p = c.deref_mut.result.now in
    let r = c.test_all-answer.new.self in
    record {
      tests = done p r (was_open c.args.handle.now.held.engine c.in-Some.engine.value p c.in-Some.ensures.found c.deref_mut.ensures.value)
          c.put.ensures.engine c.in-Ok-true.ensures.setting (c.put.ensures.reason ∙ c.take.ensures.reason)
          (record {
            finished = not_of_true _ (sym c.in-Ok-true.field-0-test ∙ c.in-Ok-true.ensures.flag);
            completes = on_true (CompletesParts (setting p) c.args.rank (seen p) (seen r) c.args.parts.now
                c.test_all-answer.new.parts c.args.out.now c.test_all-answer.new.out) c.in-Ok-true.field-0
                c.in-Ok-true.field-0-test c.in-Ok-true.ensures.completes;
          }) refl;
    }

pub returns-in-Ok-false : goal.returns-in-Ok-false
returns-in-Ok-false c =
    let p = c.deref_mut.result.now in
    let r = c.test_all-answer.new.self in
    let same = on_false (Stays p r c.args.parts.now c.test_all-answer.new.parts c.args.out.now c.test_all-answer.new.out)
    c.in-Ok-false.field-0 c.in-Ok-false.field-0-test c.in-Ok-false.ensures.unfinished in
    record {
      tests = waits p (was_open c.args.handle.now.held.engine c.in-Some.engine.value p c.in-Some.ensures.found c.deref_mut.ensures.value)
          (c.put.ensures.engine ∙ ap Some same.0) (c.put.ensures.reason ∙ c.take.ensures.reason) (same.1, same.2)
          (not_of_false _ (sym c.in-Ok-false.field-0-test ∙ c.in-Ok-false.ensures.flag)) refl;
    }

pub returns-in-Err : goal.returns-in-Err
returns-in-Err c =
    let p = c.deref_mut.result.now in
    record {
      tests = refused p c.in-Err.why (was_open c.args.handle.now.held.engine c.in-Some.engine.value p c.in-Some.ensures.found c.deref_mut.ensures.value)
          ((c.refuse.ensures.engine ∙ c.put.ensures.engine) ∙ ap Some c.in-Err.ensures.err.0) c.refuse.ensures.reason
          (c.in-Err.ensures.err.1, c.in-Err.ensures.err.2) c.in-Err.ensures.refused
          (coded c.in-Err.why c.refuse.result c.refuse.ensures.code);
    }
