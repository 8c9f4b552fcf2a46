use Rattle.std.proofs.Common.{◌∙◌, Some, ap, refl, sym}
use Rattle.worzsunab.specs.Works.{done}
use Rattle.worzsunab.proofs.working.wz_run_work.Goals as goal

pub returns-in-Ok : goal.returns-in-Ok
returns-in-Ok c =
    done c.deref_mut.result.now c.compute-answer.new.self (c.in-Some.ensures.found ∙ ap Some (sym c.deref_mut.ensures.value))
    c.put.ensures c.in-Ok.ensures.piece c.in-Ok.ensures.computed refl
