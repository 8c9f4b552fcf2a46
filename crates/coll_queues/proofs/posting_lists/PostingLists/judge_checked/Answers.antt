use Rattle.std.proofs.Common.{◌≡◌, ◌∙◌, ap, refl, sym, ℕ, Ok, Result, Some, length, arith}
use Rattle.std.specs.Result.{result_err}
use Rattle.std.proofs.lemmas.Grind.{common_steps}
use Rattle.coll_kinds.specs.declared.refusal.Refusal.{Refusal}
use Rattle.coll_queues.proofs.Judging.{not_refused, passed, refused_mismatch, refused_places}
use Rattle.coll_queues.proofs.posting_lists.PostingLists.judge_checked.Goals as goal

abbrev fine : Result ℕ Refusal
fine = Ok 0

pub returns-in_err-compare-clause-refused : goal.returns-in_err-compare-clause-refused
returns-in_err-compare-clause-refused c =
    let same : result_err c.from_residual.result ≡ Some c.in_err-compare.field-0.0 = grind (arith, common_steps) in
    same ∙ sym (refused_mismatch c.args.self.now c.args.member c.args.sig.now c.args.places fine (length c.args.self.now.group)
    c.next_place-place.result refl (passed c.args.sig.now (length c.args.self.now.group) c.requires.checked) 0 refl c.next_place-place.ensures _
    (sym c.compare.ensures ∙ ap result_err c.in_err-compare.was))

pub returns-then-place-places-clause-refused : goal.returns-then-place-places-clause-refused
returns-then-place-places-clause-refused c =
    sym (refused_places c.args.self.now c.args.member c.args.sig.now c.args.places fine (length c.args.self.now.group)
    c.next_place-place.result refl (passed c.args.sig.now (length c.args.self.now.group) c.requires.checked) 0 refl c.next_place-place.ensures
    (sym c.compare.ensures ∙ ap result_err c.in_ok-compare.was) c.if-place-places.true)

pub returns-clause-refused : goal.returns-clause-refused
returns-clause-refused c =
    sym (not_refused c.args.self.now c.args.member c.args.sig.now c.args.places fine (length c.args.self.now.group)
    c.next_place-place.result refl (passed c.args.sig.now (length c.args.self.now.group) c.requires.checked) 0 refl c.next_place-place.ensures
    (sym c.compare.ensures ∙ ap result_err c.in_ok-compare.was) c.if-place-places.false)
