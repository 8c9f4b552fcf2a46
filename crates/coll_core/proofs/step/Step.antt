-- What a step answers.
use Rattle.std.proofs.Common.{◌≡◌, ◌==◌, ◌∙◌, ◌∷◌, ℕ, Bool, true, false, List, [], length, inl, inr, Result, Ok, Err, ap, arith, eqb-true, refl, sym, subst}
use Rattle.std.proofs.lemmas.Bool.{false≢true}
use Rattle.std.proofs.lemmas.Option.{none-some, same_Some}
use Rattle.coll_kinds.specs.declared.ticket.Ticket.{Ticket}
use Rattle.coll_kinds.specs.declared.refusal.Refusal.{Refusal}
use Rattle.coll_lists.specs.Neighbours.{first_in}
use Rattle.coll_arena.specs.Lookups.{IsFirst}
use Rattle.coll_core.specs.declared.stepped.Stepped.{Stepped}
use Rattle.coll_core.specs.declared.stepped.Stepped.TheVariants.{Quiet, Moved, Finished, Out}
use Rattle.coll_core.specs.Cores.{Parts}
use Rattle.coll_core.specs.declared.request.Request.{Request}
use Rattle.coll_core.specs.Requests.{next_of, shown}
use Rattle.coll_core.specs.Works.{IsShort}
use Rattle.coll_core.specs.Steps.{Acts, AwaitsWork, CombinesFirst, CombinesShort, IsActing, IsWork, Steps, ready, stepped_by}
use Rattle.coll_kinds.specs.declared.operation.Op.{Op}
use Rattle.coll_kinds.specs.declared.datatype.Datatype.{Datatype}
use Rattle.coll_sched.specs.declared.region.Region.{Region}
use Rattle.coll_sched.specs.declared.action.Action.{Action}
use Rattle.coll_sched.specs.declared.action.Action.TheVariants.{Send, Copy, Combine, Recv}
use Rattle.coll_sched.specs.Actions.{IsCombine}
use Rattle.coll_arena.specs.Slots.{record_in}

abbrev tells_quiet : Result Stepped Refusal → Bool
tells_quiet (Ok Quiet) = true
tells_quiet (Ok Moved) = false
tells_quiet (Ok Finished) = false
tells_quiet (Ok (Out w)) = false
tells_quiet (Err e) = false

pub by_not_quiet : (finished : Bool) (s : Stepped) → s ≡ stepped_by finished → ◌≡◌ {A = Result Stepped Refusal} (Ok s) (Ok Quiet) → ⊥
by_not_quiet true s e q = false≢true (ap (λ (z : Stepped). tells_quiet (Ok z)) (sym e) ∙ ap tells_quiet q)
by_not_quiet false s e q = false≢true (ap (λ (z : Stepped). tells_quiet (Ok z)) (sym e) ∙ ap tells_quiet q)

pub first_of : (p v : Parts) (t : Ticket) → p ≡ v → IsFirst p.arena 2 t → IsFirst v.arena 2 t
first_of p v t e h = subst (λ (z : Parts). IsFirst z.arena 2 t) e h

pub not_empty : (p : Parts) (t : Ticket) → IsFirst p.arena 2 t → ready p ≡ [] → ⊥
not_empty p t h e = none-some t.slot (sym (ap first_in e) ∙ h.first)

pub by_inside : (finished : Bool) (s : Stepped) → s ≡ stepped_by finished → IsWork s → ⊥
by_inside true s e w = subst IsWork e w
by_inside false s e w = subst IsWork e w

-- ---- where the first ready request combines

pub not_combine : (a : Action) → ((op : Op) (ty : Datatype) (left right into : Region) → a ≡ Combine op ty left right into → ⊥) → IsCombine a → ⊥
not_combine (Send to from) other is = is
not_combine (Copy from into) other is = is
not_combine (Combine op ty left right into) other is = other op ty left right into refl
not_combine (Recv of into) other is = is

pub combines_first : (p : Parts) (t : Ticket) (a : Action) → IsFirst p.arena 2 t → IsActing p t a → IsCombine a → CombinesFirst p
combines_first p t a f at is = record { slot = t.slot; request = at.0; action = a; first = f.first; here = at.1.here; next_is = at.1.next_is; combines = is }

pub nothing_first : (p : Parts) → ready p ≡ [] → CombinesFirst p → ⊥
nothing_first p e h = none-some h.slot (sym (ap first_in e) ∙ h.first)

pub acts_first : (p : Parts) (t : Ticket) (a : Action) → IsFirst p.arena 2 t → IsActing p t a → (IsCombine a → ⊥) → CombinesFirst p → ⊥
acts_first p t a f at acts h =
    let slot_is : h.slot ≡ t.slot = same_Some h.slot t.slot (sym h.first ∙ f.first) in
    let request_is : h.request ≡ at.0 = same_Some h.request at.0 (sym h.here ∙ ap (record_in p.arena) slot_is ∙ at.1.here) in
    let action_is : h.action ≡ a = same_Some h.action a (sym h.next_is ∙ ap (λ (r : Request). next_of (shown r)) request_is ∙ at.1.next_is) in
    acts (subst IsCombine action_is h.combines)

pub acts_without_work : (p : Parts) (t : Ticket) (a : Action) → IsFirst p.arena 2 t → IsActing p t a → (IsCombine a → ⊥) → AwaitsWork p → ⊥
acts_without_work p t a f at acts (inl none) = not_empty p t f none
acts_without_work p t a f at acts (inr h) = acts_first p t a f at acts h

-- ---- whether that combination is short

pub short_first : (p : Parts) (t : Ticket) (a : Action) → IsFirst p.arena 2 t → IsActing p t a → IsShort a → CombinesShort p
short_first p t a f at short = record { slot = t.slot; request = at.0; action = a; first = f.first; here = at.1.here; next_is = at.1.next_is; short = short }

none_of : (xs : List ℕ) → length xs ≡ 0 → xs ≡ []
none_of [] e = refl
none_of (x ∷ rest) e = absurd (omega (arith, e))

pub none_short : (p v : Parts) → p ≡ v → true ≡ (length (ready p) == 0) → CombinesShort v → ⊥
none_short p v e none h =
    let empty : ready v ≡ [] = ap ready (sym e) ∙ none_of (ready p) (eqb-true (length (ready p)) 0 (sym none)) in
    none-some h.slot (sym (ap first_in empty) ∙ h.first)

pub long_first : (p : Parts) (t : Ticket) (a : Action) → IsFirst p.arena 2 t → IsActing p t a → (IsShort a → ⊥) → CombinesShort p → ⊥
long_first p t a f at long h =
    let slot_is : h.slot ≡ t.slot = same_Some h.slot t.slot (sym h.first ∙ f.first) in
    let request_is : h.request ≡ at.0 = same_Some h.request at.0 (sym h.here ∙ ap (record_in p.arena) slot_is ∙ at.1.here) in
    let action_is : h.action ≡ a = same_Some h.action a (sym h.next_is ∙ ap (λ (r : Request). next_of (shown r)) request_is ∙ at.1.next_is) in
    long (subst IsShort action_is h.short)

pub steps_on : (p r : Parts) (finished : Bool) (s : Stepped) → s ≡ stepped_by finished → Acts p r finished → Steps p r s
steps_on p r true s e acts = subst (λ (z : Stepped). Steps p r z) (sym e) acts
steps_on p r false s e acts = subst (λ (z : Stepped). Steps p r z) (sym e) acts
