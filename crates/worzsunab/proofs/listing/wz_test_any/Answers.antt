use Rattle.std.proofs.Common.{◌∙◌, Some, ap, inl, inr, refl}
use Rattle.coll_serial.specs.declared.first.First.TheVariants.{Unfinished}
use Rattle.worzsunab.specs.Listing.{done, refused, waits}
use Rattle.worzsunab.proofs.Answering.{was_open}
use Rattle.worzsunab.proofs.Coding.{coded}
use Rattle.worzsunab.proofs.ListAnswers.{lowest_at, none_active, none_done, stays}
use Rattle.worzsunab.proofs.listing.wz_test_any.Goals as goal

pub returns-in-At : goal.returns-in-At
returns-in-At c =
    let p = c.deref_mut.result.now in
    let r = c.test_any-answer.new.self in
    record {
      tests = done p r (was_open c.args.handle.now.held.engine c.in-Some.engine.value p c.in-Some.ensures.found c.deref_mut.ensures.value)
          c.put.ensures.engine c.in-Ok.ensures.setting (c.put.ensures.reason ∙ c.take.ensures.reason)
          (inr (lowest_at c.args.rank p r c.args.parts.now c.test_any-answer.new.parts c.args.out.now c.test_any-answer.new.out
          c.in-Ok.first c.in-At.position c.in-At.is c.in-Ok.ensures.lowest c.in-Ok.ensures.completes)) refl;
    }

pub returns-in-Undefined : goal.returns-in-Undefined
returns-in-Undefined c =
    let p = c.deref_mut.result.now in
    let r = c.test_any-answer.new.self in
    record {
      tests = done p r (was_open c.args.handle.now.held.engine c.in-Some.engine.value p c.in-Some.ensures.found c.deref_mut.ensures.value)
          c.put.ensures.engine c.in-Ok.ensures.setting (c.put.ensures.reason ∙ c.take.ensures.reason)
          (inl (none_active p r c.args.parts.now c.test_any-answer.new.parts c.args.out.now c.test_any-answer.new.out
          c.in-Ok.first _ c.in-Undefined.is c.in-Ok.ensures.undefined c.in-Ok.ensures.none refl)) refl;
    }

pub returns-in-Unfinished : goal.returns-in-Unfinished
returns-in-Unfinished c =
    let p = c.deref_mut.result.now in
    let r = c.test_any-answer.new.self in
    let same = stays p r c.args.parts.now c.test_any-answer.new.parts c.args.out.now c.test_any-answer.new.out c.in-Ok.first
    Unfinished c.in-Unfinished.is refl c.in-Ok.ensures.none in
    record {
      tests = waits p (was_open c.args.handle.now.held.engine c.in-Some.engine.value p c.in-Some.ensures.found c.deref_mut.ensures.value)
          (c.put.ensures.engine ∙ ap Some same.0) (c.put.ensures.reason ∙ c.take.ensures.reason) (same.1, same.2, refl)
          (none_done c.args.rank p c.args.parts.now c.in-Ok.first c.in-Unfinished.is c.in-Ok.ensures.undefined c.in-Ok.ensures.lowest)
          refl;
    }

pub returns-in-Err : goal.returns-in-Err
returns-in-Err c =
    let p = c.deref_mut.result.now in
    record {
      tests = refused p c.in-Err.why (was_open c.args.handle.now.held.engine c.in-Some.engine.value p c.in-Some.ensures.found c.deref_mut.ensures.value)
          ((c.refuse.ensures.engine ∙ c.put.ensures.engine) ∙ ap Some c.in-Err.ensures.err.0) c.refuse.ensures.reason
          (c.in-Err.ensures.err.1, c.in-Err.ensures.err.2, refl) c.in-Err.ensures.refused
          (coded c.in-Err.why c.refuse.result c.refuse.ensures.code);
    }
