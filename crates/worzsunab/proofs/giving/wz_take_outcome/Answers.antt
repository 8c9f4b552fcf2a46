use Rattle.std.proofs.Common.{◌≡◌, ◌∙◌, Some, ap, false, refl}
use Rattle.coll_core.specs.Cores.{seen, setting}
use Rattle.coll_complete.specs.Requests.{is_done, is_pending}
use Rattle.coll_serial.specs.declared.taken.Taken.TheVariants.{Inactive, Pending}
use Rattle.coll_serial.specs.Calls.{Takes}
use Rattle.coll_serial.specs.Tests.{is_taken, is_untaken}
use Rattle.worzsunab.specs.Forms.{named_by}
use Rattle.worzsunab.specs.Givings.{done, inactive, pending, refused}
use Rattle.worzsunab.proofs.Answering.{is_waiting, not_active, not_tested, outcome_at, taken_at, taking, was_open}
use Rattle.worzsunab.proofs.Coding.{coded}
use Rattle.worzsunab.proofs.giving.wz_take_outcome.Goals as goal

pub returns-in-Completed : goal.returns-in-Completed
returns-in-Completed c =
    let p = c.deref_mut.result.now in let r = c.take-answer.new.self in let held = c.held-named.result in let left =
    c.take-answer.new.request in let o = c.in-Completed.outcome in
    done p r left c.of_bytes.result
    (was_open c.args.handle.now.held.engine c.in-Some.engine.value p c.in-Some.ensures.found c.deref_mut.ensures.value)
    c.put.ensures.engine c.in-Ok.ensures.setting (c.put.ensures.reason ∙ c.take.ensures.reason)
    (taking p r c.args.rank held (named_by c.args.request.now) left c.args.room o c.of_bytes.result c.held-named.ensures
    (outcome_at (λ o. Takes (setting p) (seen p) c.args.rank held c.args.room o (seen r)) c.in-Ok.taken o c.in-Completed.is c.in-Ok.ensures.takes)
    c.of_bytes.ensures c.in-Ok.ensures.request) refl c.of.ensures c.set.ensures

pub returns-in-Inactive : goal.returns-in-Inactive
returns-in-Inactive c =
    let p = c.deref_mut.result.now in let r = c.take-answer.new.self in let held = c.held-named.result in
    let same : r ≡ p = taken_at (λ taken. is_taken taken ≡ false → r ≡ p) c.in-Ok.taken Inactive c.in-Inactive.is c.in-Ok.ensures.none refl in
    inactive p (was_open c.args.handle.now.held.engine c.in-Some.engine.value p c.in-Some.ensures.found c.deref_mut.ensures.value)
    (c.put.ensures.engine ∙ ap Some same) (c.put.ensures.reason ∙ c.take.ensures.reason)
    (not_active (seen p) held (named_by c.args.request.now) c.held-named.ensures
    (taken_at (λ taken. is_untaken taken ≡ is_pending (seen p) held) c.in-Ok.taken Inactive c.in-Inactive.is c.in-Ok.ensures.pending)
    (taken_at (λ taken. is_taken taken ≡ is_done (seen p) held) c.in-Ok.taken Inactive c.in-Inactive.is c.in-Ok.ensures.completed))
    refl refl (c.set-in-Inactive.ensures ∙ ap Some c.empty.ensures)

pub returns-in-Pending : goal.returns-in-Pending
returns-in-Pending c =
    let p = c.deref_mut.result.now in let r = c.take-answer.new.self in let held = c.held-named.result in
    let same : r ≡ p = taken_at (λ taken. is_taken taken ≡ false → r ≡ p) c.in-Ok.taken Pending c.in-Pending.is c.in-Ok.ensures.none refl in
    pending p (was_open c.args.handle.now.held.engine c.in-Some.engine.value p c.in-Some.ensures.found c.deref_mut.ensures.value)
    (c.put.ensures.engine ∙ ap Some same) (c.put.ensures.reason ∙ c.take.ensures.reason)
    (is_waiting (seen p) held (named_by c.args.request.now) c.held-named.ensures
    (taken_at (λ taken. is_untaken taken ≡ is_pending (seen p) held) c.in-Ok.taken Pending c.in-Pending.is c.in-Ok.ensures.pending)) refl refl refl

pub returns-in-Err : goal.returns-in-Err
returns-in-Err c =
    let p = c.deref_mut.result.now in let r = c.take-answer.new.self in let held = c.held-named.result in
    refused p c.in-Err.why (was_open c.args.handle.now.held.engine c.in-Some.engine.value p c.in-Some.ensures.found
    c.deref_mut.ensures.value) ((c.refuse.ensures.engine ∙ c.put.ensures.engine) ∙ ap Some c.in-Err.ensures.err.0) c.refuse.ensures.reason
    (not_tested p c.args.rank held (named_by c.args.request.now) c.args.room c.in-Err.why c.held-named.ensures c.in-Err.ensures.refused)
    (coded c.in-Err.why c.refuse.result c.refuse.ensures.code) refl refl
