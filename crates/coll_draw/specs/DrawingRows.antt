-- Worked rows, computed: what is drawn of a gather of three members, and of a member by hand
use Rattle.std.specs.Prelude.{◌≡◌, ℕ, zero, suc, List, [], ◌∷◌, count_by, sum_by, refl}
use Rattle.coll_kinds.specs.declared.operation.Op.TheVariants.{Sum}
use Rattle.coll_kinds.specs.declared.datatype.Datatype.TheVariants.{I8}
use Rattle.coll_sched.specs.declared.action.Action.{Action}
use Rattle.coll_sched.specs.declared.action.Action.TheVariants.{Send, Combine, Recv}
use Rattle.coll_sched.specs.Families.{Family, is_send, family_exchanges}
use Rattle.coll_plans.specs.DirectFamilies.{gather_by}
use Rattle.coll_draw.specs.Drawings.{arrows, combinations, copies, rounds_of, steps}
use Rattle.coll_draw.specs.Counts.{is_combine, sent_len}

-- members 0 and 2 send their byte to the root, member 1
gathered : arrows 3 (gather_by 1 3 1)
    ≡ record { round = 0; sender = 0; receiver = 1; len = 1 } ∷ record { round = 0; sender = 2; receiver = 1; len = 1 } ∷ []
gathered = refl

-- the root copies its own
copied : copies 3 (gather_by 1 3 1) ≡ record { round = 0; member = 1; len = 1 } ∷ []
copied = refl

-- the actions of member r of two in a round: 1 sends two bytes to 0, which then combines them with its own
handed : ℕ → List (List Action)
handed zero =
    (Recv 1 (record { at = 2; len = 2 }) ∷ [])
    ∷ (Combine Sum I8 (record { at = 0; len = 2 }) (record { at = 2; len = 2 }) (record { at = 0; len = 2 }) ∷ [])
    ∷ []
handed (suc r) = (Send 0 (record { at = 0; len = 2 }) ∷ []) ∷ [] ∷ []

abbrev pair : Family
pair r = record {
  size = 4;
  input = record { at = 0; len = 2 };
  output = record { at = 0; len = 2 };
  rounds = handed r;
}

pair_sends : arrows 2 pair ≡ record { round = 0; sender = 1; receiver = 0; len = 2 } ∷ []
unfolding handed
pair_sends = refl

pair_combines : combinations 2 pair ≡ record { round = 1; member = 0; len = 2 } ∷ []
unfolding handed
pair_combines = refl

-- two rounds, one of them an exchange; one message of two bytes, one combination
pair_rounds : rounds_of pair ≡ 2
unfolding handed
pair_rounds = refl

pair_exchanges : family_exchanges 2 pair ≡ 1
unfolding handed
pair_exchanges = refl

pair_messages : count_by (λ step. is_send step.action) (steps 2 pair) ≡ 1
unfolding handed
pair_messages = refl

pair_bytes : sum_by (λ step. sent_len step.action) (steps 2 pair) ≡ 2
unfolding handed
pair_bytes = refl

pair_combinations : count_by (λ step. is_combine step.action) (steps 2 pair) ≡ 1
unfolding handed
pair_combinations = refl
