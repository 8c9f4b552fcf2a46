use Rattle.std.proofs.Common.{◌∙◌, ap, refl}
use Rattle.coll_machine.specs.Lents.{lent_bytes}
use Rattle.coll_core.specs.Cores.{Parts, seen, setting}
use Rattle.worzsunab.specs.Answers.{done}
use Rattle.worzsunab.proofs.wz_lent.Goals as goal

pub returns : goal.returns
returns c =
    let p = c.in-Some.engine.value in
    record {
      answers =
          done p p c.in-Some.ensures.found c.put.ensures.engine refl (c.put.ensures.reason ∙ c.take.ensures.reason)
          (refl, c.lent.ensures ∙ ap (λ (k : Parts). lent_bytes (setting k) (seen k).state) c.deref.ensures) refl;
    }
