-- What no plan is made for, the machine refuses so.
use Rattle.std.proofs.Common.{◌≡◌, ℕ, ◌⊎◌, inl, inr, List, [], ◌∷◌, ◌++◌, length, Option, Some, None, MatchOption, Result, Ok, Err, IfErr, IsErrOf}
use Rattle.std.proofs.Common.{IsOkUnless, refl, sym, ap, subst, ◌∙◌}
use Rattle.std.specs.Option.{option_or}
use Rattle.std.specs.Prelude.{option_map, is_some, nat_lt}
use Rattle.std.proofs.lemmas.Option.{none-some}
use Rattle.coll_kinds.specs.declared.refusal.Refusal.{Refusal}
use Rattle.coll_kinds.specs.declared.refusal.Refusal.TheVariants.{BadComm, BadSignature, NoMemory, NotMember}
use Rattle.coll_kinds.specs.declared.refusal.SignatureFault.{SignatureFault}
use Rattle.coll_kinds.specs.Common.{broken, member_of}
use Rattle.coll_kinds.specs.declared.signature.Signature.{Signature}
use Rattle.coll_machine.specs.Common.{refuse, first_of, refusal, refusals, unless, unseated, Setting, group, group_in, size, Machine, State, Start}
use Rattle.coll_kinds.specs.declared.ticket.Ticket.{Ticket}
use Rattle.coll_core.specs.Calls.{Refuses}
use Rattle.coll_core.specs.Cores.{Parts, seen, setting}
use Rattle.coll_serial.specs.Calls.{Denies, DeniesStart, early_refusal, early_refusals, init_by, post_by}

first_front : (xs ys : List (Option Refusal)) (why : Refusal) → first_of xs ≡ Some why → first_of (xs ++ ys) ≡ Some why
first_front [] ys why e = absurd (none-some why e)
first_front (None ∷ xs) ys why e = first_front xs ys why e
first_front (Some x ∷ xs) ys why e = e

-- but the first three
abbrev rest_of : {X : Type 0} → List X → List X
rest_of (a ∷ b ∷ c ∷ rest) = rest
rest_of (a ∷ b ∷ []) = []
rest_of (a ∷ []) = []
rest_of [] = []

post_early : (g : Setting) (s : State) (rank comm : ℕ) (sig : Signature) (bytes : List ℕ) (why : Refusal) → early_refusal g rank comm sig ≡ Some why
    → refusal g s (post_by g rank comm sig bytes) ≡ Some why
post_early g s rank comm sig bytes why e = first_front (early_refusals g rank comm sig) (rest_of (refusals g s (post_by g rank comm sig bytes))) why e

init_early : (g : Setting) (s : State) (rank comm : ℕ) (sig : Signature) (why : Refusal) → early_refusal g rank comm sig ≡ Some why
    → refusal g s (init_by g rank comm sig) ≡ Some why
init_early g s rank comm sig why e = first_front (early_refusals g rank comm sig) (rest_of (refusals g s (init_by g rank comm sig))) why e

pub post_denied : (g : Setting) (m : Machine) (rank comm : ℕ) (sig : Signature) (bytes : List ℕ) (why : Refusal)
    → (early_refusal g rank comm sig ≡ Some why) ⊎ (why ≡ NoMemory) → Denies g m (post_by g rank comm sig bytes) why
post_denied g m rank comm sig bytes why (inl e) = inl (refuse (post_by g rank comm sig bytes) why (post_early g m.state rank comm sig bytes why e))
post_denied g m rank comm sig bytes why (inr e) = inr e

pub init_denied : (g : Setting) (m : Machine) (rank comm : ℕ) (sig : Signature) (why : Refusal)
    → (early_refusal g rank comm sig ≡ Some why) ⊎ (why ≡ NoMemory) → Denies g m (init_by g rank comm sig) why
init_denied g m rank comm sig why (inl e) = inl (refuse (init_by g rank comm sig) why (init_early g m.state rank comm sig why e))
init_denied g m rank comm sig why (inr e) = inr e

-- ---- why no plan is made

first_two : (a b c : Option Refusal) → first_of (a ∷ b ∷ []) ≡ None → first_of (a ∷ b ∷ c ∷ []) ≡ option_or c None
first_two None None c e = refl
first_two None (Some b) c e = absurd (none-some b (sym e))
first_two (Some a) b c e = absurd (none-some a (sym e))

same_front : (groups : List (List ℕ)) (g : Setting) (rank comm : ℕ) → groups ≡ g.groups → None ≡ unseated groups rank comm → unseated g.groups rank comm ≡ None
same_front groups g rank comm same seated = ap (λ (gs : List (List ℕ)). unseated gs rank comm) (sym same) ∙ sym seated

-- a rank without a seat
pub unseated_early : (groups : List (List ℕ)) (g : Setting) (rank comm : ℕ) (sig : Signature) (why : Refusal) → groups ≡ g.groups
    → Some why ≡ unseated groups rank comm → early_refusal g rank comm sig ≡ Some why
unseated_early groups g rank comm sig why same seat =
    let front : unseated g.groups rank comm ≡ Some why = ap (λ (gs : List (List ℕ)). unseated gs rank comm) (sym same) ∙ sym seat in
    first_front (unless (nat_lt comm (length g.groups)) (BadComm comm) ∷ unless (is_some (member_of rank (group g comm))) (NotMember rank) ∷ [])
    (option_map BadSignature (broken sig (size g comm)) ∷ []) why front

abbrev why_of : {P : Type 0} → Refusal → Result P Refusal → Refusal
why_of x (Ok p) = x
why_of x (Err w) = w

err_same : {P : Type 0} (x y : Refusal) → IsErrOf {T = P} (Err x) y → x ≡ y
err_same x y e = ap (why_of x) e

pub plan_refused : {P : Type 0} (groups : List (List ℕ)) (g : Setting) (rank comm n : ℕ) (sig : Signature) (result : Result P Refusal)
    → groups ≡ g.groups → None ≡ unseated groups rank comm → n ≡ length (group_in groups comm)
    → MatchOption (broken sig n) (IsOkUnless result NoMemory) (λ cause. IsErrOf result (BadSignature cause))
    → IfErr result (λ why. (early_refusal g rank comm sig ≡ Some why) ⊎ (why ≡ NoMemory))
plan_refused groups g rank comm n sig (Ok plan) same seat size_is answer = tt
plan_refused {P} groups g rank comm n sig (Err why) same seat size_is answer =
    go (broken sig (size g comm)) refl
    (subst (λ k. MatchOption (broken sig k) (IsOkUnless {T = P} (Err why) NoMemory) (λ cause. IsErrOf {T = P} (Err why) (BadSignature cause))) sizes answer)
  where
    sizes : n ≡ size g comm
    sizes = size_is ∙ ap (λ (gs : List (List ℕ)). length (group_in gs comm)) same

    early : early_refusal g rank comm sig ≡ option_or (option_map BadSignature (broken sig (size g comm))) None
    early = first_two (unless (nat_lt comm (length g.groups)) (BadComm comm))
        (unless (is_some (member_of rank (group g comm))) (NotMember rank)) (option_map BadSignature (broken sig (size g comm)))
        (same_front groups g rank comm same seat)

    go : (o : Option SignatureFault) → broken sig (size g comm) ≡ o
        → MatchOption (broken sig (size g comm)) (IsOkUnless {T = P} (Err why) NoMemory) (λ cause. IsErrOf {T = P} (Err why) (BadSignature cause))
        → (early_refusal g rank comm sig ≡ Some why) ⊎ (why ≡ NoMemory)
    go None is h =
        inr (subst (λ (o : Option SignatureFault). MatchOption o (IsOkUnless {T = P} (Err why) NoMemory)
        (λ cause. IsErrOf {T = P} (Err why) (BadSignature cause))) is h)
    go (Some cause) is h =
        let told = subst (λ (o : Option SignatureFault). MatchOption o (IsOkUnless {T = P} (Err why) NoMemory)
        (λ cause. IsErrOf {T = P} (Err why) (BadSignature cause))) is h in
        inl (early ∙ (ap (λ (o : Option SignatureFault). option_or (option_map BadSignature o) None) is
        ∙ ap Some (sym (err_same why (BadSignature cause) told))))

-- a start, in an engine's words
pub start_denied : (p v : Parts) → p ≡ v → (rank : ℕ) (r : Option Ticket) (t : Ticket) → r ≡ Some t → (gave bytes : List ℕ)
    → gave ≡ bytes → (why : Refusal) → Refuses (setting p) (seen p) (Start rank t gave) why → DeniesStart (setting v) rank (seen v) (r, bytes) why
start_denied p v same rank r t is gave bytes copied why refused =
    let at : DeniesStart (setting p) rank (seen p) (Some t, bytes) why =
    inl (subst (λ (xs : List ℕ). Refuses (setting p) (seen p) (Start rank t xs) why) copied refused) in
    subst (λ (k : Parts). DeniesStart (setting k) rank (seen k) (r, bytes) why) same
    (subst (λ (q : Option Ticket). DeniesStart (setting p) rank (seen p) (q, bytes) why) (sym is) at)
