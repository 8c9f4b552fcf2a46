use Rattle.std.proofs.Common.{◌≡◌, ◌∙◌, false, length, ap, refl}
use Rattle.std.specs.Prelude.{Some}
use Rattle.coll_serial.specs.declared.test.Test.TheVariants.{Completed, Inactive, Pending}
use Rattle.coll_serial.specs.Calls.{Completes}
use Rattle.coll_serial.specs.Tests.{IfCompleted, is_completed, is_unfinished}
use Rattle.coll_core.specs.Cores.{seen, setting}
use Rattle.coll_complete.specs.Requests.{is_done, is_pending}
use Rattle.worzsunab.specs.Answers.{done, inactive, pending, refused}
use Rattle.worzsunab.specs.Forms.{named_by}
use Rattle.worzsunab.proofs.Answering.{completing, is_waiting, not_active, not_tested, ok_at, was_open}
use Rattle.worzsunab.proofs.Coding.{coded}
use Rattle.worzsunab.proofs.wz_test.Goals as goal

pub returns-in-Completed : goal.returns-in-Completed
returns-in-Completed c =
    let p = c.deref_mut.result.now in let r = c.test-answer.new.self in let held = c.held-held.result in let left = c.test-answer.new.request in
    let old = c.args.out.now in let new = c.test-answer.new.out in let count = c.in-Completed.bytes in
    record {
      tests = done p r left (was_open c.args.handle.now.held.engine c.in-Some.engine.value p c.in-Some.ensures.found
          c.deref_mut.ensures.value) c.put.ensures.engine c.in-Ok.ensures.setting (c.put.ensures.reason ∙ c.take.ensures.reason)
          (completing p r c.args.rank held (named_by c.args.request.now) left old new count c.held-held.ensures
          (ok_at (IfCompleted (λ count. Completes (setting p) (seen p) c.args.rank held old count new (seen r))) c.in-Ok.test
          (Completed count) c.in-Completed.is c.in-Ok.ensures.completes)
          c.in-Ok.ensures.request) refl c.of.ensures;
    }

pub returns-in-Inactive : goal.returns-in-Inactive
returns-in-Inactive c =
    let p = c.deref_mut.result.now in let r = c.test-answer.new.self in let held = c.held-held.result in
    let same = ok_at (λ test. is_completed test ≡ false → (r ≡ p) × (c.test-answer.new.out ≡ c.args.out.now)) c.in-Ok.test
    Inactive c.in-Inactive.is c.in-Ok.ensures.none refl in
    record {
      tests = inactive p (was_open c.args.handle.now.held.engine c.in-Some.engine.value p c.in-Some.ensures.found
          c.deref_mut.ensures.value) (c.put.ensures.engine ∙ ap Some same.0) (c.put.ensures.reason ∙ c.take.ensures.reason)
          (not_active (seen p) held (named_by c.args.request.now) c.held-held.ensures
          (ok_at (λ test. is_unfinished test ≡ is_pending (seen p) held) c.in-Ok.test Inactive c.in-Inactive.is c.in-Ok.ensures.pending)
          (ok_at (λ test. is_completed test ≡ is_done (seen p) held) c.in-Ok.test Inactive c.in-Inactive.is c.in-Ok.ensures.completed)) refl refl same.1 refl;
    }

pub returns-in-Pending : goal.returns-in-Pending
returns-in-Pending c =
    let p = c.deref_mut.result.now in let r = c.test-answer.new.self in let held = c.held-held.result in
    let same = ok_at (λ test. is_completed test ≡ false → (r ≡ p) × (c.test-answer.new.out ≡ c.args.out.now)) c.in-Ok.test
    Pending c.in-Pending.is c.in-Ok.ensures.none refl in
    record {
      tests = pending p (was_open c.args.handle.now.held.engine c.in-Some.engine.value p c.in-Some.ensures.found
          c.deref_mut.ensures.value) (c.put.ensures.engine ∙ ap Some same.0) (c.put.ensures.reason ∙ c.take.ensures.reason)
          (is_waiting (seen p) held (named_by c.args.request.now) c.held-held.ensures
          (ok_at (λ test. is_unfinished test ≡ is_pending (seen p) held) c.in-Ok.test Pending c.in-Pending.is c.in-Ok.ensures.pending)) refl refl same.1 refl;
    }

pub returns-in-Err : goal.returns-in-Err
returns-in-Err c =
    let p = c.deref_mut.result.now in let held = c.held-held.result in
    record {
      tests = refused p c.in-Err.why
          (was_open c.args.handle.now.held.engine c.in-Some.engine.value p c.in-Some.ensures.found c.deref_mut.ensures.value)
          ((c.refuse.ensures.engine ∙ c.put.ensures.engine) ∙ ap Some c.in-Err.ensures.err.0) c.refuse.ensures.reason
          (not_tested p c.args.rank held (named_by c.args.request.now) (length c.args.out.now) c.in-Err.why c.held-held.ensures c.in-Err.ensures.refused)
          (coded c.in-Err.why c.refuse.result c.refuse.ensures.code) refl c.in-Err.ensures.err.2 refl;
    }
