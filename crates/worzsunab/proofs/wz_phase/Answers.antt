use Rattle.std.proofs.Common.{◌∙◌, refl}
use Rattle.worzsunab.specs.Answers.{done, refused}
use Rattle.worzsunab.specs.Forms.{named_by}
use Rattle.worzsunab.proofs.Answering.{not_named, phased, same_as}
use Rattle.worzsunab.proofs.Coding.{coded}
use Rattle.worzsunab.proofs.wz_phase.Goals as goal

pub returns-in-Ok : goal.returns-in-Ok
returns-in-Ok c =
    let p = c.in-Some.engine.value in
    record {
      answers =
          done p p c.in-Some.ensures.found c.put.ensures.engine refl (c.put.ensures.reason ∙ c.take.ensures.reason) (
            refl,
            phased c.deref.result.now p c.deref.ensures c.held.result (named_by c.args.request.now) c.in-Ok.found
                c.phase_number.result c.held.ensures c.in-Ok.ensures.phase c.phase_number.ensures,
          ) refl;
    }

pub returns-in-Err : goal.returns-in-Err
returns-in-Err c =
    let p = c.in-Some.engine.value in
    record {
      answers = refused p p c.in-Err.why c.in-Some.ensures.found (c.refuse.ensures.engine ∙ c.put.ensures.engine)
          (same_as p p refl) c.refuse.ensures.reason refl
          (not_named c.deref.result.now p c.deref.ensures c.args.rank c.held.result (named_by c.args.request.now) c.in-Err.why
          c.held.ensures c.in-Err.ensures.refused) (coded c.in-Err.why c.refuse.result c.refuse.ensures.code);
    }
