use Rattle.std.proofs.Common.{◌∙◌, refl}
use Rattle.worzsunab.specs.Answers.{done, refused}
use Rattle.worzsunab.specs.Forms.{named_by}
use Rattle.worzsunab.proofs.Answering.{begun, not_started, was_open}
use Rattle.worzsunab.proofs.Coding.{coded}
use Rattle.worzsunab.proofs.wz_start.Goals as goal

pub returns-in-Ok : goal.returns-in-Ok
returns-in-Ok c =
    let p = c.deref_mut.result.now in let r = c.start-answer.new.self in
    record {
      answers = done p r (was_open c.args.handle.now.held.engine c.in-Some.engine.value p c.in-Some.ensures.found
          c.deref_mut.ensures.value) c.put.ensures.engine c.in-Ok.ensures.setting (c.put.ensures.reason ∙ c.take.ensures.reason)
          (begun p r c.args.rank c.held.result (named_by c.args.request.now) c.args.bytes.now c.held.ensures c.in-Ok.ensures.starts c.in-Ok.ensures.begins)
          refl;
    }

pub returns-in-Err : goal.returns-in-Err
returns-in-Err c =
    let p = c.deref_mut.result.now in let r = c.start-answer.new.self in
    record {
      answers = refused p r c.in-Err.why
          (was_open c.args.handle.now.held.engine c.in-Some.engine.value p c.in-Some.ensures.found c.deref_mut.ensures.value)
          (c.refuse.ensures.engine ∙ c.put.ensures.engine)
          (record { setting_is = c.in-Err.ensures.setting; seen_is = c.in-Err.ensures.err }) c.refuse.ensures.reason tt
          (not_started p c.args.rank c.held.result (named_by c.args.request.now) c.args.bytes.now c.in-Err.why c.held.ensures c.in-Err.ensures.refused)
          (coded c.in-Err.why c.refuse.result c.refuse.ensures.code);
    }
