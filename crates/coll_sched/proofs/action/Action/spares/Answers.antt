-- an action that writes has one region
use Rattle.std.proofs.Common.{◌≡◌, ℕ, ◌⊎◌, inl, inr, IsTrue, [], ◌∷◌, ap, sym, subst}
use Rattle.coll_kinds.specs.declared.operation.Op.{Op}
use Rattle.coll_kinds.specs.declared.datatype.Datatype.{Datatype}
use Rattle.coll_sched.specs.declared.region.Region.{Region}
use Rattle.coll_sched.specs.declared.action.Action.{Action}
use Rattle.coll_sched.specs.declared.action.Action.TheVariants.{Copy, Combine, Recv}
use Rattle.coll_sched.specs.Actions.{AllApart, writes}
use Rattle.coll_sched.proofs.action.Action.spares.Goals as goal

one_written : (a : Action) (into : Region)
    → ((x : Region) × (a ≡ Copy x into))
    ⊎ (((op : Op) × (ty : Datatype) × (l : Region) × (r : Region) × (a ≡ Combine op ty l r into)) ⊎ ((x : ℕ) × (a ≡ Recv x into))) → writes a ≡ into ∷ []
one_written a into (inl h) = ap writes h.1
one_written a into (inr (inl h)) = ap writes h.4
one_written a into (inr (inr h)) = ap writes h.1

pub returns-in-Copy : goal.returns-in-Copy
returns-in-Copy c =
    subst (λ ws. (IsTrue c.is_apart.result → AllApart ws (c.args.region ∷ [])) × (AllApart ws (c.args.region ∷ []) → IsTrue c.is_apart.result))
    (sym (one_written c.args.self c.in-Copy.into c.in-Copy.is))
    ((λ t. ((c.is_apart.ensures.0 t, tt), tt)), (λ h. c.is_apart.ensures.1 h.0.0))
