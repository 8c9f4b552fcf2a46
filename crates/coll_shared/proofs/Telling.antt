-- What a port tells of a request that was made for it.
use Rattle.std.proofs.Common.{◌≡◌, ℕ, ◌∷◌, List, Option, Some, Result, Ok, Err, refl, sym, subst}
use Rattle.std.specs.Prelude.{IfOk}
use Rattle.coll_kinds.specs.declared.signature.Signature.{Signature}
use Rattle.coll_kinds.specs.declared.ticket.Ticket.{Ticket}
use Rattle.coll_machine.specs.Entries.{Entry, Inited}
use Rattle.coll_traced.specs.Calls.{IsInited}

-- what is told of its ticket is told of the caller's hold on it
pub held_told : {E F : Type 0} (P : Option Ticket → Entry → Type 0) (made : Result (Ticket × Entry) E)
    (told : Result (Option Ticket × Entry) F) (t : Ticket) (e : Entry) (q : Option Ticket) → IfOk made (λ m. P (Some m.0) m.1)
    → made ≡ Ok (t, e) → q ≡ Some t → told ≡ Ok (q, e) → IfOk told (λ r. P r.0 r.1)
held_told {E} {F} P made told t e q all made_is q_is told_is =
    let here : P (Some t) e = subst (λ (m : Result (Ticket × Entry) E). IfOk m (λ m. P (Some m.0) m.1)) made_is all in
    let of : P q e = subst (λ (q : Option Ticket). P q e) (sym q_is) here in
    subst (λ (r : Result (Option Ticket × Entry) F). IfOk r (λ r. P r.0 r.1)) (sym told_is) of

pub none_told : {T E : Type 0} (P : T → Type 0) (told : Result T E) (why : E) → told ≡ Err why → IfOk told P
none_told {T} {E} P told why is = subst (λ (r : Result T E). IfOk r P) (sym is) tt

pub inited : {E : Type 0} (rank comm : ℕ) (sig : Signature) (made : Result (Ticket × Entry) E)
    → IfOk made (λ m. (place : ℕ) × (m.1 ≡ Inited rank m.0 comm place sig)) → IfOk made (λ m. IsInited rank (Some m.0) comm sig m.1)
inited rank comm sig (Ok m) h = (m.0, h.0, refl, h.1)
inited rank comm sig (Err why) h = tt
