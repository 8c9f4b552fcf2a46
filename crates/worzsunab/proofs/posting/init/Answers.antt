use Rattle.std.proofs.Common.{◌∙◌, refl}
use Rattle.worzsunab.specs.Answers.{done, refused}
use Rattle.worzsunab.proofs.Answering.{was_open}
use Rattle.worzsunab.proofs.Coding.{coded}
use Rattle.worzsunab.proofs.posting.init.Goals as goal

pub returns-in-Ok : goal.returns-in-Ok
returns-in-Ok c =
    let p = c.deref_mut.result.now in let r = c.init-answer.new.self in
    done p r (was_open c.args.handle.now.held.engine c.in-Some.engine.value p c.in-Some.ensures.found c.deref_mut.ensures.value)
    c.put.ensures.engine c.in-Ok.ensures.setting (c.put.ensures.reason ∙ c.take.ensures.reason)
    (record { request = c.in-Ok.made; makes = record { inits = c.in-Ok.ensures.made; progress = c.in-Ok.ensures.progress }; given_is = c.of.ensures }) refl

pub returns-in-Err : goal.returns-in-Err
returns-in-Err c =
    let p = c.deref_mut.result.now in let r = c.init-answer.new.self in
    refused p r c.in-Err.why
    (was_open c.args.handle.now.held.engine c.in-Some.engine.value p c.in-Some.ensures.found c.deref_mut.ensures.value)
    (c.refuse.ensures.engine ∙ c.put.ensures.engine)
    (record { setting_is = c.in-Err.ensures.setting; seen_is = c.in-Err.ensures.err }) c.refuse.ensures.reason refl
    c.in-Err.ensures.refused (coded c.in-Err.why c.refuse.result c.refuse.ensures.code)
