use Rattle.std.proofs.Common.{◌∙◌, Some, ap, arith, refl, sym}
use Rattle.worzsunab.specs.Givings.{done, short}
use Rattle.worzsunab.proofs.Answering.{filled_by}
use Rattle.worzsunab.proofs.giving.wz_copy_out.Goals as goal

pub returns-then-out-len : goal.returns-then-out-len
returns-then-out-len c =
    short c.deref.result.now (c.in-Some.ensures.found ∙ ap Some (sym c.deref.ensures))
    (c.put.ensures ∙ sym c.in-Some.ensures.found) (omega (arith, c.if-out-len.true, c.len-len.ensures)) refl refl refl

pub returns : goal.returns
returns c =
    done c.deref.result.now (c.in-Some.ensures.found ∙ ap Some (sym c.deref.ensures)) c.take.ensures.empty
    (filled_by c.copy_from_slice.new.self c.deref.result.now c.args.out.now c.len-len.result
    (c.copy_from_slice.ensures.after ∙ c.as_slice.ensures ∙ c.deref-2.ensures ∙ sym c.deref.ensures) c.len-len.ensures)
    c.len-len.ensures refl
