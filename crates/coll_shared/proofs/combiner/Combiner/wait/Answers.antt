use Rattle.std.proofs.Common.{◌≡◌, inr, rules, subst, sym}
use Rattle.std.specs.Prelude.{IfSome}
use Rattle.coll_traced.specs.Awaiting.{IsHindrance}
use Rattle.coll_traced.specs.Unfinished.{WasPending}
use Rattle.coll_shared.proofs.combiner.Combiner.wait.Goals.{in-Some-None+in-Ok-None, in-Some-None+in-Err, in-Some+in-Some-hindrance, in-None-1}
use Rattle.coll_shared.proofs.combiner.Combiner.wait.Goals as goal

-- the last look found the request Pending
pub returns-in-Some-hindrance-clause-refused : goal.returns-in-Some-hindrance-clause-refused
returns-in-Some-hindrance-clause-refused g c =
    let all : IfSome c.match-ticket.hindrance (IsHindrance g.L.Entries.setting c.args.rank) = elim c.match-ticket.branch [
      | in-Some-None+in-Ok-None w ↦
          subst (λ o. IfSome o (IsHindrance g.L.Entries.setting c.args.rank)) (sym w.hindrance-is) c.loop.invariant.4
      | in-Some-None+in-Err w ↦ search rules
      | in-Some+in-Some-hindrance w ↦
          subst (λ o. IfSome o (IsHindrance g.L.Entries.setting c.args.rank)) (sym w.hindrance-is) c.loop.invariant.4
      | in-None-1 w ↦ subst (λ o. IfSome o (IsHindrance g.L.Entries.setting c.args.rank)) (sym w.hindrance-is) c.loop.invariant.4
    ] in
    let hindered : IsHindrance g.L.Entries.setting c.args.rank c.in-Some-hindrance.why =
    subst (λ o. IfSome o (IsHindrance g.L.Entries.setting c.args.rank)) c.in-Some-hindrance.is all in
    let kept : c.match-ticket.tally ≡ c.args.first = search rules in
    let there = c.in-Ok.ensures.unfinished c.if-looked.false in
    let first = subst (λ n. WasPending g.L.Entries.setting n c.args.rank c.loop.request) kept there in
    inr (hindered, subst (λ r. WasPending g.L.Entries.setting c.args.first c.args.rank r) c.loop.invariant.3 first)
