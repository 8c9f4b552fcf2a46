use Rattle.std.proofs.Common.{◌∙◌, List, ℕ, Some, ap, pos, refl, sym, w32, to_z, of_z}
use Rattle.worzsunab.specs.Answers.{done, refused}
use Rattle.worzsunab.specs.Forms.{named_by}
use Rattle.worzsunab.specs.Givings.{StartsGiven}
use Rattle.worzsunab.proofs.Answering.{begun, not_started, of_bytes, was_open}
use Rattle.worzsunab.proofs.Coding.{coded}
use Rattle.worzsunab.proofs.giving.wz_start_given.Goals as goal

pub returns-in-Ok-clause-answers : goal.returns-in-Ok-clause-answers
returns-in-Ok-clause-answers c =
    let p = c.deref_mut.result.now in let r = c.start_given-answer.new.self in let bytes = c.replace-bytes.result in
    of_bytes (λ (bytes : List ℕ). StartsGiven c.args.handle.now c.put.new.self (pos 0) c.args.rank (named_by c.args.request.now)
    bytes c.take-2.new.self.held.bytes)
    c.args.held.now.held.bytes bytes (c.in-Some-take.ensures.found ∙ ap Some (sym c.as_mut.ensures.value) ∙ ap Some (sym c.replace-bytes.ensures.value))
    (done p r (was_open c.args.handle.now.held.engine c.in-Some.engine.value p c.in-Some.ensures.found c.deref_mut.ensures.value)
    c.put.ensures.engine c.in-Ok.ensures.setting (c.put.ensures.reason ∙ c.take.ensures.reason) (
      begun p r c.args.rank c.held.result (named_by c.args.request.now) bytes c.held.ensures c.in-Ok.ensures.starts c.in-Ok.ensures.begins,
      c.take-2.ensures.empty,
    ) refl)

pub returns-in-Err-clause-answers : goal.returns-in-Err-clause-answers
returns-in-Err-clause-answers c =
    let p = c.deref_mut.result.now in let r = c.start_given-answer.new.self in let bytes = c.replace-bytes.result in
    of_bytes (λ (bytes : List ℕ). StartsGiven c.args.handle.now c.refuse.new.self (to_z w32 (of_z w32 c.refuse.result))
    c.args.rank (named_by c.args.request.now) bytes c.put-in-Err.new.self.held.bytes)
    c.args.held.now.held.bytes bytes (c.in-Some-take.ensures.found ∙ ap Some (sym c.as_mut.ensures.value) ∙ ap Some (sym c.replace-bytes.ensures.value))
    (refused p r c.in-Err.refused.why
    (was_open c.args.handle.now.held.engine c.in-Some.engine.value p c.in-Some.ensures.found c.deref_mut.ensures.value)
    (c.refuse.ensures.engine ∙ c.put.ensures.engine)
    (record { setting_is = c.in-Err.ensures.setting; seen_is = c.in-Err.ensures.err }) c.refuse.ensures.reason
    (c.put-in-Err.ensures ∙ ap Some c.in-Err.ensures.back)
    (not_started p c.args.rank c.held.result (named_by c.args.request.now) bytes c.in-Err.refused.why c.held.ensures c.in-Err.ensures.refused)
    (coded c.in-Err.refused.why c.refuse.result c.refuse.ensures.code))
