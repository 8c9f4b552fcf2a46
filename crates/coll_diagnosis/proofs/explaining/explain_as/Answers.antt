use Rattle.std.proofs.Common.{sym, subst}
use Rattle.coll_diagnosis.specs.Verdicts.{MeansOf}
use Rattle.coll_diagnosis.proofs.explaining.explain_as.Goals as goal

pub returns-clause-verdict : goal.returns-clause-verdict
returns-clause-verdict c = record {
  says = record {
    verdict = c.in_ok-explanation.explanation.verdict;
    status_is = c.status-status.ensures.status;
    words =
        c.in_ok-lines.ensures.words;
    object = c.in_ok-lines.ensures.object;
  };
  means = subst (MeansOf c.args.text.now) (sym c.in_ok-explanation.ensures.same) c.requires;
  told = λ json. (
    c.in_ok-explanation.explanation.shown,
    c.in_ok-explanation.explanation.cure,
    c.in_ok-lines.ensures.told json,
    c.in_ok-explanation.ensures.found,
  );
}
