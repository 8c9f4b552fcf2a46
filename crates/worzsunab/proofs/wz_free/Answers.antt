use Rattle.std.proofs.Common.{◌∙◌, ap, refl}
use Rattle.worzsunab.specs.Answers.{done, refused}
use Rattle.worzsunab.specs.Forms.{named_by, request_of}
use Rattle.worzsunab.proofs.Answering.{freed, not_freed, same_as, was_open}
use Rattle.worzsunab.proofs.Coding.{coded}
use Rattle.worzsunab.proofs.wz_free.Goals as goal

pub returns-in-Ok : goal.returns-in-Ok
returns-in-Ok c =
    let p = c.deref_mut.result.now in let r = c.free-answer.new.self in
    record {
      answers = done p r (was_open c.args.handle.now.held.engine c.in-Some.engine.value p c.in-Some.ensures.found
          c.deref_mut.ensures.value) c.put.ensures.engine c.in-Ok.ensures.setting (c.put.ensures.reason ∙ c.take.ensures.reason) (
            freed p r c.args.rank c.held-held.result (named_by c.args.request.now) c.held-held.ensures c.in-Ok.ensures.frees,
            c.of.ensures
                ∙ ap request_of c.in-Ok.ensures.null,
          ) refl;
    }

pub returns-in-Err : goal.returns-in-Err
returns-in-Err c =
    let p = c.deref_mut.result.now in let r = c.free-answer.new.self in
    record {
      answers = refused p r c.in-Err.why
          (was_open c.args.handle.now.held.engine c.in-Some.engine.value p c.in-Some.ensures.found c.deref_mut.ensures.value)
          (c.refuse.ensures.engine ∙ c.put.ensures.engine) (same_as p r c.in-Err.ensures.err.0) c.refuse.ensures.reason refl
          (not_freed p c.args.rank c.held-held.result (named_by c.args.request.now) c.in-Err.why c.held-held.ensures c.in-Err.ensures.refused)
          (coded c.in-Err.why c.refuse.result c.refuse.ensures.code);
    }
