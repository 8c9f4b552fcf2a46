use Rattle.std.proofs.Common.{◌≡◌, ◌∙◌, List, ℕ, rules, subst}
use Rattle.std.specs.Prelude.{IfErr}
use Rattle.coll_machine.specs.Calls.{Start}
use Rattle.coll_traced.specs.Denials.{IsDenied}
use Rattle.coll_shared.proofs.combiner.Combiner.start.Goals.{in-Some, in-None+in_default}
use Rattle.coll_shared.proofs.combiner.Combiner.start.Goals as goal

-- what is left to the combiner shares the contribution, which stays what it was
pub returns-clause-refused : goal.returns-clause-refused
returns-clause-refused g c =
    let same : c.match-try_lead.bytes ≡ c.args.bytes = elim c.match-try_lead.branch [
      | in-Some w ↦ w.bytes-is
      | in-None+in_default w ↦ w.bytes-is ∙ w.start-operation.ensures
    ] in
    let kept : c.match-try_lead.tally ≡ c.args.tally = search rules in
    let Denies : ℕ → List ℕ → Type 0 = λ made xs.
    IfErr c.start-started.result (λ refused. IsDenied g.L.Entries.setting made (Start c.args.rank c.args.ticket xs) refused.why) in
    let told : Denies c.match-try_lead.tally c.match-try_lead.bytes = c.start-started.ensures.refused in
    let counted : Denies c.args.tally c.match-try_lead.bytes = subst (λ made. Denies made c.match-try_lead.bytes) kept told in
    subst (λ xs. Denies c.args.tally xs) same counted
