-- A new arena is sound.
use Rattle.std.proofs.Common.{◌≡◌, ℕ, zero, suc, ◌+◌, ◌-◌, ◌<◌, ◌^◌, cond, List, [], ◌∷◌, length, ltb, sym, refl, ap, subst, ◌∙◌, Option, None}
use Rattle.std.proofs.Common.{is_some, lt-ltb, le-ltb, get_or, replicate, arith, add-zero, sum, zero-add}
use Rattle.std.proofs.lemmas.List.{get_or-replicate, length-replicate}
use Rattle.std.specs.List.{concat, range_with_len}
use Rattle.coll_lists.specs.Layouts.{IsLawful, Layout, list_of, times}
use Rattle.coll_lists.proofs.Lawful.{list_of-first}
use Rattle.coll_lists.proofs.Occurrences.{times-append}
use Rattle.coll_lists.proofs.Opening.{opening, times-range}
use Rattle.coll_arena.specs.Changes.{opened}
use Rattle.coll_arena.specs.ListNames.{list_count}
use Rattle.coll_arena.specs.Views.{view_of}
use Rattle.coll_arena.proofs.Calls.{same_columns}
use Rattle.coll_arena.proofs.Lents.{lent-sum}
use Rattle.coll_arena.specs.Sound.{IsKept, IsSound}

-- nothing stands on empty lists
pub times-empty : (x k : ℕ) → times x (concat (replicate k [])) ≡ 0
times-empty x zero = refl
times-empty x (suc k) = times-empty x k

pub IsLawful-opening : (n m : ℕ) → IsLawful n (opening n m)
IsLawful-opening n m x =
    times-append x (range_with_len 0 n) (concat (replicate (m - 1) []))
    ∙ ap (λ z. times x (range_with_len 0 n) + z) (times-empty x (m - 1)) ∙ add-zero _
    ∙ times-range x 0 n (omega arith) ∙ ap (λ z. cond (ltb x z) 1 0) (zero-add n)

pub list_of-opening : (n m x : ℕ) → x < n → list_of (opening n m) x ≡ 0
list_of-opening n m x low =
    let here : times x (range_with_len 0 n) ≡ 1 = times-range x 0 n (omega arith) ∙ ap (λ b. cond b 1 0) (lt-ltb x (0 + n) (omega arith)) in
    list_of-first x (opening n m) 0 (omega arith) (omega (arith, here)) (λ l l_low. absurd (omega (arith, l_low)))

pub IsSound-opened : {R : Type 0} (n comms wear : ℕ) → 0 < wear → wear < 2 ^ 32 → n + list_count comms < 2 ^ 32 → IsSound (opened {R = R} n comms wear)
IsSound-opened {R} n comms wear some wear_fits fits =
    let generations : length (replicate {A = ℕ} n 0) ≡ n = length-replicate {A = ℕ} n 0 in
    let records : length (replicate {A = Option R} n None) ≡ n = length-replicate {A = Option R} n None in
    let empties : length (replicate {A = List ℕ} (list_count comms - 1) []) ≡ list_count comms - 1 = length-replicate {A = List ℕ} (list_count comms - 1) [] in
    record {
      weights_len = refl;
      records_len = records ∙ sym generations;
      lists_is = omega (arith, empties);
      lists_fit = omega (arith, empties);
      count_fits = omega (arith, generations);
      wear_fits = wear_fits;
      lawful = subst (λ k. IsLawful k (opening n (list_count comms))) (sym generations) (IsLawful-opening n (list_count comms));
      slots = λ slot low.
          let here : slot < n = subst (λ k. slot < k) generations low in
          let generation : get_or (replicate {A = ℕ} n 0) slot 0 ≡ 0 = get_or-replicate {A = ℕ} n slot 0 0 here in
          let found : get_or (replicate {A = Option R} n None) slot None ≡ None = get_or-replicate {A = Option R} n slot None None here in
          let lies : list_of (opening n (list_count comms)) slot ≡ 0 = list_of-opening n (list_count comms) slot here in
          record {
            aged = omega (arith, generation);
            free = λ _. omega (arith, generation);
            worn = λ z. absurd (omega (arith, z, lies));
            recorded = ap is_some found ∙ sym (le-ltb 1 (list_of (opening n (list_count comms)) slot) (omega (arith, lies)));
            weightless = λ _. generation;
            light = omega (arith, generation);
          };
    }

pub sum-zeros : (n : ℕ) → sum (replicate n 0) ≡ 0
sum-zeros zero = refl
sum-zeros (suc n) = sum-zeros n

pub IsKept-opened : {R : Type 0} (n comms wear : ℕ) → 0 < wear → wear < 2 ^ 32 → n + list_count comms < 2 ^ 32 → IsKept (opened {R = R} n comms wear) 0
IsKept-opened n comms wear some wear_fits fits =
    let sound : IsSound (opened n comms wear) = IsSound-opened n comms wear some wear_fits fits in
    record { sound = sound; counted = sym (lent-sum (opened n comms wear) sound ∙ sum-zeros n) }

-- new columns
pub IsKept-made : {R : Type 0} (g w : List ℕ) (r : List (Option R)) (l : Layout) (n comms wear : ℕ) →
    g ≡ replicate n 0 → w ≡ replicate n 0 → r ≡ replicate n None → l ≡ range_with_len 0 n ∷ replicate (list_count comms - 1) [] →
    0 < wear → wear < 2 ^ 32 → n + list_count comms < 2 ^ 32 → IsKept (view_of g w r l comms wear) 0
IsKept-made g w r l n comms wear g_is w_is r_is l_is some wear_fits fits =
    subst (λ z. IsKept z 0) (sym (same_columns _ _ _ _ _ _ _ _ comms wear g_is w_is r_is l_is)) (IsKept-opened n comms wear some wear_fits fits)
