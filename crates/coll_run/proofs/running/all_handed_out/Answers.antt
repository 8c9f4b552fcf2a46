use Rattle.std.proofs.Common.{rules, IsTrue, subst, sym}
use Rattle.coll_report.specs.Attested.{HandedOut}
use Rattle.coll_run.specs.declared.rank.Got.{Got}
use Rattle.coll_run.proofs.running.all_handed_out.Goals as goal

pub returns-then-not-attests_all : goal.returns-then-not-attests_all
returns-then-not-attests_all c =
    let es = c.args.report.now.entries in
    let got = c.one-item.result in (
      search rules,
      λ all.
          let one = subst (λ (x : Got). HandedOut es x.rank x.outcomes.items) (sym c.one-item.is)
          (all c.loop-one.one-index got c.loop-one-test.true) in
          subst IsTrue c.if-not-attests_all.true
          (c.attests_all.ensures.exact.1 (subst (HandedOut es got.rank) (sym c.deref.ensures.value) one)),
    )
