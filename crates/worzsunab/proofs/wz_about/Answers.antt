use Rattle.std.proofs.Common.{◌∙◌, refl}
use Rattle.coll_kinds.specs.declared.refusal.Refusal.TheVariants.{Stale}
use Rattle.worzsunab.specs.Answers.{done, refused}
use Rattle.worzsunab.specs.Forms.{named_by}
use Rattle.worzsunab.proofs.Answering.{same_as, told_of, untold}
use Rattle.worzsunab.proofs.Coding.{coded}
use Rattle.worzsunab.proofs.wz_about.Goals as goal

pub returns-in-Some-answer : goal.returns-in-Some-answer
returns-in-Some-answer c =
    let p = c.in-Some.engine.value in
    record {
      answers = done p p c.in-Some.ensures.found c.put.ensures.engine refl (c.put.ensures.reason ∙ c.take.ensures.reason) (
        refl,
        told_of c.deref.result.now p c.deref.ensures c.held.result (named_by c.args.request.now) c.held.ensures
            c.about-answer.result c.in-Some-answer.told c.in-Some-answer.is c.about-answer.ensures c.of.result c.of.ensures,
      ) refl;
    }

pub returns-in-None : goal.returns-in-None
returns-in-None c =
    let p = c.in-Some.engine.value in
    record {
      answers = refused p p Stale c.in-Some.ensures.found (c.refuse.ensures.engine ∙ c.put.ensures.engine) (same_as p p refl) c.refuse.ensures.reason refl (
        refl,
        untold c.deref.result.now p c.deref.ensures c.held.result (named_by c.args.request.now) c.held.ensures
            c.about-answer.result c.in-None.is c.about-answer.ensures,
      ) (coded Stale c.refuse.result c.refuse.ensures.code);
    }
