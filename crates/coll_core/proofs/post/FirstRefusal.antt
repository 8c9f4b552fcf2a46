-- Which of a plan's conditions is met first.
use Rattle.std.proofs.Common.{◌≡◌, ◌≢◌, ◌∙◌, ◌&&◌, ◌==◌, ℕ, Bool, true, false, not, List, [], ◌∷◌, Option, Some, None, option_map, Result, Ok, Err}
use Rattle.std.proofs.Common.{ap, refl, sym, arith}
use Rattle.std.specs.Prelude.{MatchOption, IsOk, IsErrOf}
use Rattle.std.specs.Result.{result_err}
use Rattle.std.proofs.lemmas.Bool.Decides.{nat_tests}
use Rattle.std.proofs.lemmas.Option.{none-some}
use denote.Enum.Bare.{sameb}
use Rattle.coll_kinds.specs.contracts.kind.Mode.{the_type}
use Rattle.coll_kinds.specs.declared.kind.Mode.{Mode}
use Rattle.coll_kinds.specs.declared.kind.Mode.TheVariants.{Once, Persistent}
use Rattle.coll_kinds.specs.declared.refusal.Refusal.{Refusal}
use Rattle.coll_kinds.specs.declared.refusal.Refusal.TheVariants.{BadSignature}
use Rattle.coll_kinds.specs.declared.refusal.SignatureFault.{SignatureFault}
use Rattle.coll_kinds.specs.declared.refusal.SignatureFault.TheVariants.{Mode as WrongMode, Group as WrongGroup}
use Rattle.coll_kinds.specs.declared.signature.Signature.{Signature}
use Rattle.coll_kinds.specs.Common.{broken, mode_number}
use Rattle.coll_machine.specs.Common.{first_of, unless, plan_refusals, Planned}

-- the answer of a signature's check, as a refusal
pub checked : {T : Type 0} (o : Option SignatureFault) (r : Result T Refusal)
    → MatchOption o (IsOk r) (λ cause. IsErrOf r (BadSignature cause)) → result_err r ≡ option_map BadSignature o
checked None (Ok u) h = refl
checked None (Err why) h = absurd cc
checked (Some cause) r h = ap result_err h

pub modes : (a b : Mode) → sameb the_type a b ≡ (mode_number a == mode_number b)
modes Once Once = refl
modes Once Persistent = refl
modes Persistent Once = refl
modes Persistent Persistent = refl

unequal : (x y : ℕ) → x ≢ y → (x == y) ≡ false
unequal x y d = grind (arith, nat_tests)

equal : (x y : ℕ) → x ≡ y → (x == y) ≡ true
equal x y e = grind (arith, nat_tests)

-- ---- the conditions of a plan

abbrev pub right_mode : Planned → Mode → Bool
right_mode plan mode = mode_number plan.sig.mode == mode_number mode

abbrev pub right_group : Planned → ℕ → ℕ → Bool
right_group plan size member = (plan.n == size) && (plan.member == member)

first_of-1 : (a b c : Option Refusal) (why : Refusal) → a ≡ Some why → first_of (a ∷ b ∷ c ∷ []) ≡ Some why
first_of-1 a b c why e = ap (λ o. first_of (o ∷ b ∷ c ∷ [])) e

first_of-2 : (a b c : Option Refusal) (why : Refusal) → a ≡ None → b ≡ Some why → first_of (a ∷ b ∷ c ∷ []) ≡ Some why
first_of-2 a b c why e f = ap (λ o. first_of (o ∷ b ∷ c ∷ [])) e ∙ ap (λ o. first_of (o ∷ c ∷ [])) f

first_of-3 : (a b c : Option Refusal) (why : Refusal) → a ≡ None → b ≡ None → c ≡ Some why → first_of (a ∷ b ∷ c ∷ []) ≡ Some why
first_of-3 a b c why e f g =
    ap (λ o. first_of (o ∷ b ∷ c ∷ [])) e ∙ (ap (λ o. first_of (o ∷ c ∷ [])) f ∙ ap (λ o. first_of (o ∷ [])) g)

front_none : (a : Option Refusal) (rest : List (Option Refusal)) → first_of (a ∷ rest) ≡ None → a ≡ None
front_none None rest e = refl
front_none (Some why) rest e = absurd (none-some why (sym e))

no_fault : (o : Option SignatureFault) → option_map BadSignature o ≡ None → o ≡ None
no_fault None e = refl
no_fault (Some cause) e = absurd (none-some (BadSignature cause) (sym e))

module _ (plan : Planned) (size member : ℕ) (mode : Mode) where
  -- a plan that fits has a signature that breaks no rule
  pub unbroken : first_of (plan_refusals plan size member mode) ≡ None → broken plan.sig size ≡ None
  unbroken e = no_fault (broken plan.sig size) (front_none (option_map BadSignature (broken plan.sig size))
      (unless (right_mode plan mode) (BadSignature WrongMode) ∷ unless (right_group plan size member) (BadSignature WrongGroup) ∷ []) e)

  pub faulty : (why : Refusal) → option_map BadSignature (broken plan.sig size) ≡ Some why
      → first_of (plan_refusals plan size member mode) ≡ Some why
  faulty why e = first_of-1 (option_map BadSignature (broken plan.sig size))
      (unless (right_mode plan mode) (BadSignature WrongMode))
      (unless (right_group plan size member) (BadSignature WrongGroup)) why e

  pub wrong_mode : option_map BadSignature (broken plan.sig size) ≡ None → right_mode plan mode ≡ false
      → first_of (plan_refusals plan size member mode) ≡ Some (BadSignature WrongMode)
  wrong_mode e f = first_of-2 (option_map BadSignature (broken plan.sig size))
      (unless (right_mode plan mode) (BadSignature WrongMode))
      (unless (right_group plan size member) (BadSignature WrongGroup)) (BadSignature WrongMode) e
      (ap (λ t. unless t (BadSignature WrongMode)) f)

  pub wrong_group : option_map BadSignature (broken plan.sig size) ≡ None → right_mode plan mode ≡ true
      → right_group plan size member ≡ false
      → first_of (plan_refusals plan size member mode) ≡ Some (BadSignature WrongGroup)
  wrong_group e f h = first_of-3 (option_map BadSignature (broken plan.sig size))
      (unless (right_mode plan mode) (BadSignature WrongMode))
      (unless (right_group plan size member) (BadSignature WrongGroup)) (BadSignature WrongGroup) e
      (ap (λ t. unless t (BadSignature WrongMode)) f) (ap (λ t. unless t (BadSignature WrongGroup)) h)

pub another_n : (a b c d : ℕ) → a ≢ b → ((a == b) && (c == d)) ≡ false
another_n a b c d e = ap (λ t. t && (c == d)) (unequal a b e)

pub another_member : (a b c d : ℕ) → c ≢ d → ((a == b) && (c == d)) ≡ false
another_member a b c d e = grind (arith, nat_tests)

-- ---- as the code tests them

pub fault_is : {T : Type 0} (a b : Signature) (size : ℕ) (r : Result T Refusal) (why : Refusal) → a ≡ b
    → MatchOption (broken a size) (IsOk r) (λ cause. IsErrOf r (BadSignature cause))
    → r ≡ Err why → option_map BadSignature (broken b size) ≡ Some why
fault_is a b size r why e h is =
    ap (λ (x : Signature). option_map BadSignature (broken x size)) (sym e)
    ∙ (sym (checked (broken a size) r h) ∙ ap result_err is)

pub faultless : {T : Type 0} (a b : Signature) (size : ℕ) (r : Result T Refusal) (x : T) → a ≡ b
    → MatchOption (broken a size) (IsOk r) (λ cause. IsErrOf r (BadSignature cause))
    → r ≡ Ok x → option_map BadSignature (broken b size) ≡ None
faultless a b size r x e h is =
    ap (λ (x : Signature). option_map BadSignature (broken x size)) (sym e)
    ∙ (sym (checked (broken a size) r h) ∙ ap result_err is)

turned : (t u : Bool) → not t ≡ u → t ≡ not u
turned false u e = ap not e
turned true u e = ap not e

pub mode_is : (a b : Signature) (mode : Mode) (t u : Bool) → a ≡ b → t ≡ not (sameb the_type a.mode mode) → t ≡ u
    → (mode_number b.mode == mode_number mode) ≡ not u
mode_is a b mode t u e h is =
    ap (λ (x : Signature). mode_number x.mode == mode_number mode) (sym e)
    ∙ (sym (modes a.mode mode) ∙ turned (sameb the_type a.mode mode) u (sym h ∙ is))
