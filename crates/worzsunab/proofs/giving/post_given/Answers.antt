use Rattle.std.proofs.Common.{◌∙◌, List, ℕ, Some, ap, pos, refl, sym, w32, to_z, of_z}
use Rattle.worzsunab.specs.Answers.{done, refused}
use Rattle.worzsunab.specs.Givings.{PostsGiven}
use Rattle.worzsunab.proofs.Answering.{of_bytes, was_open}
use Rattle.worzsunab.proofs.Coding.{coded}
use Rattle.worzsunab.proofs.giving.post_given.Goals as goal

pub returns-in-Ok : goal.returns-in-Ok
returns-in-Ok c =
    let p = c.deref_mut.result.now in let r = c.post_given-answer.new.self in let bytes = c.replace-bytes.result in
    of_bytes (λ (bytes : List ℕ). PostsGiven c.args.handle.now c.put.new.self (pos 0) c.args.rank c.args.comm c.args.sig bytes
    c.args.request.now c.of.result c.take-2.new.self.held.bytes)
    c.args.held.now.held.bytes bytes (c.in-Some-take.ensures.found ∙ ap Some (sym c.as_mut.ensures.value) ∙ ap Some (sym c.replace-bytes.ensures.value))
    (done p r (was_open c.args.handle.now.held.engine c.in-Some.engine.value p c.in-Some.ensures.found c.deref_mut.ensures.value)
    c.put.ensures.engine c.in-Ok.ensures.setting (c.put.ensures.reason ∙ c.take.ensures.reason) (
      record { request = c.in-Ok.made; makes = record { posts = c.in-Ok.ensures.posted; begins = c.in-Ok.ensures.begins }; given_is = c.of.ensures },
      c.take-2.ensures.empty,
    ) refl)

pub returns-in-Err : goal.returns-in-Err
returns-in-Err c =
    let p = c.deref_mut.result.now in let r = c.post_given-answer.new.self in let bytes = c.replace-bytes.result in
    of_bytes (λ (bytes : List ℕ). PostsGiven c.args.handle.now c.refuse.new.self (to_z w32 (of_z w32 c.refuse.result))
    c.args.rank c.args.comm c.args.sig bytes c.args.request.now c.args.request.now c.put-in-Err.new.self.held.bytes)
    c.args.held.now.held.bytes bytes (c.in-Some-take.ensures.found ∙ ap Some (sym c.as_mut.ensures.value) ∙ ap Some (sym c.replace-bytes.ensures.value))
    (refused p r c.in-Err.refused.why
    (was_open c.args.handle.now.held.engine c.in-Some.engine.value p c.in-Some.ensures.found c.deref_mut.ensures.value)
    (c.refuse.ensures.engine ∙ c.put.ensures.engine)
    (record { setting_is = c.in-Err.ensures.setting; seen_is = c.in-Err.ensures.err }) c.refuse.ensures.reason
    (refl, c.put-in-Err.ensures ∙ ap Some c.in-Err.ensures.back) c.in-Err.ensures.refused
    (coded c.in-Err.refused.why c.refuse.result c.refuse.ensures.code))
