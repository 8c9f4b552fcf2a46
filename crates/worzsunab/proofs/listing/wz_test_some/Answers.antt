use Rattle.std.proofs.Common.{◌∙◌, Some, ap, refl}
use Rattle.worzsunab.specs.Listing.{done, refused}
use Rattle.worzsunab.proofs.Answering.{was_open}
use Rattle.worzsunab.proofs.Coding.{coded}
use Rattle.worzsunab.proofs.ListAnswers.{some_told}
use Rattle.worzsunab.proofs.listing.wz_test_some.Goals as goal

pub returns : goal.returns
returns c =
    let p = c.deref_mut.result.now in
    let r = c.test_some-answer.new.self in
    record {
      tests = done p r (was_open c.args.handle.now.held.engine c.in-Some.engine.value p c.in-Some.ensures.found c.deref_mut.ensures.value)
          c.put.ensures.engine c.in-Ok.ensures.setting (c.put.ensures.reason ∙ c.take.ensures.reason)
          (some_told c.args.rank p r c.args.parts.now c.test_some-answer.new.parts c.args.out.now c.test_some-answer.new.out
          c.in-Ok.found c.told.result c.told.ensures c.in-Ok.ensures.undefined c.in-Ok.ensures.inactive c.in-Ok.ensures.count
          c.in-Ok.ensures.completes) refl;
    }

pub returns-in-Err : goal.returns-in-Err
returns-in-Err c =
    let p = c.deref_mut.result.now in
    record {
      tests = refused p c.in-Err.why (was_open c.args.handle.now.held.engine c.in-Some.engine.value p c.in-Some.ensures.found c.deref_mut.ensures.value)
          ((c.refuse.ensures.engine ∙ c.put.ensures.engine) ∙ ap Some c.in-Err.ensures.err.0) c.refuse.ensures.reason
          (c.in-Err.ensures.err.1, c.in-Err.ensures.err.2, refl) c.in-Err.ensures.refused
          (coded c.in-Err.why c.refuse.result c.refuse.ensures.code);
    }
