-- Walks along an arena's lists give tickets of slots.
use Rattle.std.proofs.Common.{◌≡◌, ℕ, ◌<◌, List, [], ◌∷◌, ◌++◌, map, reverse, Option, Some, None, sym, refl, ap, subst, ◌∙◌, inl, inr, arith}
use Rattle.std.specs.List.{All}
use Rattle.std.specs.Option.{MatchOption}
use Rattle.std.proofs.lemmas.Bool.{cases_eq}
use Rattle.std.proofs.lemmas.List.{map-append, reverse-append}
use Rattle.std.proofs.lemmas.List.Elements.{All-cons, All-nil, All-rest}
use Rattle.coll_lists.specs.Layouts.{sequence, times}
use Rattle.coll_lists.proofs.Occurrences.{times-other, times-same}
use Rattle.coll_lists.proofs.Walking.{stands}
use Rattle.coll_lists.proofs.WellLinked.{times-reverse}
use Rattle.coll_arena.specs.ListNames.{list_count}
use Rattle.coll_arena.specs.Slots.{Slots, count}
use Rattle.coll_arena.specs.Sound.{IsKept}
use Rattle.coll_arena.proofs.Calls.{list_low}

pub map-reverse : {A B : Type 0} (f : A → B) (xs : List A) → map f (reverse xs) ≡ reverse (map f xs)
map-reverse f [] = refl
map-reverse f (x ∷ rest) =
    ap (map f) (reverse-append (x ∷ []) rest) ∙ map-append f (reverse rest) (x ∷ []) ∙ ap (λ z. z ++ f x ∷ []) (map-reverse f rest)
    ∙ sym (reverse-append (f x ∷ []) (map f rest))

-- a step of a walk keeps what holds of each element that is left
pub All-step : {X : Type 0} (P : X → Type 0) (old new : List X) (r : Option X)
    → MatchOption r ((old ≡ []) × (new ≡ [])) (λ x. old ≡ x ∷ new) → All P old → All P new
All-step P old new None steps all = subst (All P) (sym steps.1) (All-nil P)
All-step P old new (Some x) steps all = All-rest P x new old steps all

pub All-times : (n : ℕ) (s : List ℕ) → ((x : ℕ) → 0 < times x s → x < n) → All (λ x. x < n) s
All-times n [] low = All-nil (λ x. x < n)
All-times n (y ∷ rest) low =
    All-cons (λ x. x < n) y rest (low y (subst (λ k. 0 < k) (sym (times-same y y rest refl)) (omega arith)))
    (All-times n rest (λ x some.
    elim (cases_eq y x) [
      | inl e ↦ low x (subst (λ k. 0 < k) (sym (times-same x y rest e)) (omega arith))
      | inr ne ↦ low x (subst (λ k. 0 < k) (sym (times-other x y rest ne)) some)
    ]))

module _ {R : Type 0} (a v : Slots R) (n : ℕ) (e : a ≡ v) (k : IsKept a n) (list number : ℕ) (low : list < list_count v.comms) (number_is : number ≡ list) where
  pub listed : (x : ℕ) → 0 < times x (sequence a.lists number) → x < count v
  listed x some =
      subst (λ z. x < count z) e
      (stands (count a) a.lists k.sound.lawful x list (list_low a v n e k list low) (subst (λ l. 0 < times x (sequence a.lists l)) number_is some)).0

  pub slots_listed : (left : List ℕ) → left ≡ sequence a.lists number → All (λ x. x < count v) left
  slots_listed left is = All-times (count v) left (λ x some. listed x (subst (λ z. 0 < times x z) is some))

  pub slots_listed_back : (left : List ℕ) → left ≡ reverse (sequence a.lists number) → All (λ x. x < count v) left
  slots_listed_back left is =
      All-times (count v) left (λ x some. listed x (subst (λ k. 0 < k) (times-reverse x (sequence a.lists number)) (subst (λ z. 0 < times x z) is some)))

  pub sequence_seen : sequence a.lists number ≡ sequence v.lists list
  sequence_seen = ap (sequence a.lists) number_is ∙ ap (λ z. sequence z.lists list) e
