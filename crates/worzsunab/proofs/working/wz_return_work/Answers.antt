use Rattle.std.proofs.Common.{◌∙◌, Option, pos, refl, subst, w32, to_z, of_z}
use Rattle.coll_serial.specs.declared.combination.Stage.{Stage}
use Rattle.coll_serial.specs.Combinations.{TakesBack}
use Rattle.worzsunab.specs.Answers.{done, refused}
use Rattle.worzsunab.proofs.Answering.{ReturnAnswers, of_combination, same_as, was_open}
use Rattle.worzsunab.proofs.Coding.{coded}
use Rattle.worzsunab.proofs.working.wz_return_work.Goals as goal

pub returns-in-Ok-clause-answers : goal.returns-in-Ok-clause-answers
returns-in-Ok-clause-answers c =
    let p = c.deref_mut.result.now in let r = c.take_back-answer.new.self in
    of_combination (ReturnAnswers c.args.handle.now.held.engine c.put.new.self.held.engine c.args.handle.now.reason
    c.put.new.self.reason (pos 0)) c.args.work.now.held.combination c.in-Some-take.combination.value c.in-Some-take.ensures.found
    (done p r (was_open c.args.handle.now.held.engine c.in-Some.engine.value p c.in-Some.ensures.found c.deref_mut.ensures.value)
    c.put.ensures.engine c.in-Ok.ensures.advances.set (c.put.ensures.reason ∙ c.take.ensures.reason)
    (subst (λ (s : Option Stage). TakesBack p r s) c.into_inner.ensures c.in-Ok.ensures.back) refl)

pub returns-in-Err-clause-answers : goal.returns-in-Err-clause-answers
returns-in-Err-clause-answers c =
    let p = c.deref_mut.result.now in let r = c.take_back-answer.new.self in
    of_combination (ReturnAnswers c.args.handle.now.held.engine c.refuse.new.self.held.engine c.args.handle.now.reason
    c.refuse.new.self.reason (to_z w32 (of_z w32 c.refuse.result))) c.args.work.now.held.combination
    c.in-Some-take.combination.value c.in-Some-take.ensures.found
    (refused p r c.in-Err.why
    (was_open c.args.handle.now.held.engine c.in-Some.engine.value p c.in-Some.ensures.found c.deref_mut.ensures.value)
    (c.refuse.ensures.engine ∙ c.put.ensures.engine)
    (same_as p r c.in-Err.ensures.err) c.refuse.ensures.reason tt c.in-Err.ensures.refused (coded c.in-Err.why c.refuse.result c.refuse.ensures.code))
