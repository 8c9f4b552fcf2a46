-- Whether an option is one, and look-ups under equal names.
use Rattle.std.proofs.Common.{◌≡◌, ◌≢◌, true, false, Option, Some, None, refl, sym, subst, is_some}
use Rattle.std.proofs.lemmas.Option.{none-some}
use Rattle.std.proofs.lemmas.Bool.{false≢true}

pub is_some-true : {A : Type 0} (o : Option A) → true ≡ is_some o → o ≢ None
is_some-true None h n = false≢true (sym h)
is_some-true (Some x) h n = none-some x (sym n)

pub is_some-false : {A : Type 0} (o : Option A) → false ≡ is_some o → o ≡ None
is_some-false None h = refl
is_some-false (Some x) h = absurd (false≢true h)

-- what a look-up finds under two names, it finds under equal ones
pub some_at : {A B C : Type 0} (f : A → B → Option C) (a b : A) (x y : B) → a ≡ b → x ≡ y → f a x ≢ None → f b y ≢ None
some_at f a b x y e d h = subst (λ z. f b z ≢ None) d (subst (λ z. f z x ≢ None) e h)

pub none_at : {A B C : Type 0} (f : A → B → Option C) (a b : A) (x y : B) → a ≡ b → x ≡ y → f a x ≡ None → f b y ≡ None
none_at f a b x y e d h = subst (λ z. f b z ≡ None) d (subst (λ z. f z x ≡ None) e h)
