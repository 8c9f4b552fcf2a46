use Rattle.std.proofs.Common.{◌≡◌, ◌++◌, ◌∷◌, [], ℕ, List, Vec, Global, true, sym, ap, subst, ◌∙◌, arith}
use Rattle.std.proofs.lemmas.Bool.{false≢true}
use Rattle.coll_parser.specs.declared.command.Command.TheVariants.{WaitAny}
use Rattle.coll_cases.specs.Code.{AreOutcomes}
use Rattle.coll_cases.proofs.Covering.{any_covers, has_last, has_more}
use Rattle.coll_cases.proofs.outcomes.any_outcomes.Goals as goal
use Rattle.coll_cases.proofs.outcomes.any_outcomes.Goals.{then-not-one_is_sure+in_ok-push, else-not-one_is_sure}

pub returns : goal.returns
returns c =
    let singles = rw c.in-Some.is at c.in_ok-outcomes.ensures in
    elim c.if-not-one_is_sure.branch [
      | then-not-one_is_sure+in_ok-push w ↦ (
          let is : c.if-not-one_is_sure.outcomes.items ≡ c.in-Some.outcomes.items ++ w.new.result ∷ [] =
          ap (λ (v : Vec (Vec ℕ Global) Global). v.items) w.outcomes-is ∙ w.in_ok-push.ensures.items in
          subst (λ (lists : List (Vec ℕ Global)). AreOutcomes c.args.known.now (WaitAny c.args.named.now) lists) (sym is)
          (any_covers c.args.known.now c.args.named.now (c.in-Some.outcomes.items ++ w.new.result ∷ [])
          (λ q e up. has_more c.in-Some.outcomes.items (w.new.result ∷ []) (q ∷ []) (singles q e up))
          (λ e. has_last c.in-Some.outcomes.items w.new.result [] w.new.ensures.items)))
      | else-not-one_is_sure w ↦ (
          let sure : c.one_is_sure.result ≡ true = grind arith in
          subst (λ (v : Vec (Vec ℕ Global) Global). AreOutcomes c.args.known.now (WaitAny c.args.named.now) v.items) (sym w.outcomes-is)
          (any_covers c.args.known.now c.args.named.now c.in-Some.outcomes.items singles
          (λ e. absurd (false≢true (sym e ∙ (sym c.one_is_sure.ensures ∙ sure))))))
    ]
