-- A request is surely inactive exactly where after each of its starts stands a wait that names it.
use Rattle.std.proofs.Common.{◌≡◌, ℕ, Bool, true, false, not, ◌&&◌, ◌||◌, List, [], ◌∷◌, refl}
use Rattle.std.specs.Prelude.{fold}
use Rattle.std.specs.List.{list_any}
use Rattle.std.proofs.lemmas.Bool.{or_right}
use Rattle.coll_parser.specs.declared.command.Command.{Command}
use Rattle.coll_parser.specs.Histories.{starts, waits_for, may_be_active}
use Rattle.coll_parser.specs.Laws.{EachStartIsOver}

forth : (a s w y : Bool) → ((s || (a && not w)) ≡ true → y ≡ true) → (a ≡ true → (w || y) ≡ true) × (s ≡ true → y ≡ true)
forth a true w y f = (λ e. or_right w y (f refl), λ e. f refl)
forth a false true y f = (λ e. refl, λ e. absurd cc)
forth a false false y f = (λ e. f (rw e refl), λ e. absurd cc)

and_true : (a : Bool) → (a && true) ≡ true → a ≡ true
and_true true e = refl
and_true false e = e

and_false : (a : Bool) → (a && false) ≡ true → ⊥
and_false true e = absurd cc
and_false false e = absurd cc

back : (a s w y : Bool) → (a ≡ true → (w || y) ≡ true) → (s ≡ true → y ≡ true) → (s || (a && not w)) ≡ true → y ≡ true
back a true w y f g e = g refl
back a false true y f g e = absurd (and_false a e)
back a false false y f g e = f (and_true a e)

module _ (q : ℕ) where
  active : Bool → List Command → Bool
  active a commands = fold (λ b command. starts q command || (b && not (waits_for q command))) a commands

  over : (a : Bool) (commands : List Command) → active a commands ≡ false → (a ≡ true → list_any (waits_for q) commands ≡ true) × EachStartIsOver q commands
  unfolding active
  over a [] e = (λ f. absurd cc, tt)
  over a (c ∷ commands) e =
      let rest = over (starts q c || (a && not (waits_for q c))) commands e in
      let parts = forth a (starts q c) (waits_for q c) (list_any (waits_for q) commands) rest.0 in
      (parts.0, (parts.1, rest.1))

  is_over : (a : Bool) (commands : List Command) → (a ≡ true → list_any (waits_for q) commands ≡ true) → EachStartIsOver q commands → active a commands ≡ false
  unfolding active
  is_over true [] f each = absurd (let none : false ≡ true = f refl in cc)
  is_over false [] f each = refl
  is_over a (c ∷ commands) f each =
      is_over (starts q c || (a && not (waits_for q c))) commands (back a (starts q c) (waits_for q c) (list_any (waits_for q) commands) f each.0) each.1

  pub inactive-over : (commands : List Command) → may_be_active q commands ≡ false → EachStartIsOver q commands
  unfolding active
  inactive-over commands e = (over false commands e).1

  pub over-inactive : (commands : List Command) → EachStartIsOver q commands → may_be_active q commands ≡ false
  unfolding active
  over-inactive commands each = is_over false commands (λ e. absurd cc) each
