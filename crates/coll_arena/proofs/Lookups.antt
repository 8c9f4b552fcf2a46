-- What each call does to the look-ups by slot, for callers that keep functions of slots.
use Rattle.std.proofs.Common.{◌≡◌, ◌≢◌, ℕ, zero, suc, ◌+◌, ◌<◌, ◌≤◌, cond, List, [], ◌∷◌, length, sym, refl, ap, subst, ◌∙◌, inl, inr, Some, None}
use Rattle.std.proofs.Common.{eq-eqb, ne_eqb, lt-ltb, le-ltb, get_or, set, arith}
use Rattle.std.proofs.lemmas.Bool.{cases_eq, cases_lt}
use Rattle.std.proofs.lemmas.List.{get_or-set_other, get_or-set_same, length-set}
use Rattle.coll_lists.specs.Keeping.{KeepsTheRest}
use Rattle.std.specs.List.{concat}
use Rattle.coll_lists.specs.Layouts.{IsLawful, Layout, list_of, sequence, times}
use Rattle.coll_lists.specs.Moves.{taken_out}
use Rattle.coll_lists.proofs.Occurrences.{Moved, Moved-back, Moved-front, times-append, times-same, times-other}
use Rattle.coll_lists.proofs.Rings.{taken_out-other}
use Rattle.coll_lists.proofs.Keeping.{KeepsTheRest-back, KeepsTheRest-front}
use Rattle.coll_arena.specs.Changes.{replaced, retired, reweighed, rewritten, shifted, shifted_front, taken}
use Rattle.coll_kinds.specs.Puts.{put}
use Rattle.coll_arena.specs.Lookups.{IsFirst, PutsSlot}
use Rattle.coll_kinds.specs.declared.ticket.Ticket.{Ticket}
use Rattle.coll_lists.specs.Neighbours.{first_in}
use Rattle.coll_arena.specs.Slots.{Slots, count, generation_of, home, record_in, ticket_of, weight_of}
use Rattle.coll_arena.specs.Sound.{IsSound}
use Rattle.coll_lists.proofs.Walking.{first_stands, stands, times-sequence}
use Rattle.coll_arena.proofs.Sounds.{names_all, rest_of, rest_of-low}

-- functions that agree at one place and everywhere else
pub put-same : {A : Type 0} (f g : ℕ → A) (place : ℕ) (value : A) → g place ≡ value → ((other : ℕ) → other ≢ place → g other ≡ f other) → g ≡ put f place value
put-same {A} f g place value at off = λ i other. at_each other i where
  at_each : (other : ℕ) → g other ≡ put f place value other
  at_each other =
      elim (cases_eq other place) [
        | inl e ↦ ap g e ∙ at ∙ sym (ap (λ b. cond b value (f other)) (eq-eqb other place e))
        | inr ne ↦ off other ne ∙ sym (ap (λ b. cond b value (f other)) (ne_eqb other place ne))
      ]

-- a function with the value that it has
pub put-own : {A : Type 0} (f : ℕ → A) (place : ℕ) → f ≡ put f place (f place)
put-own f place = put-same f f place (f place) refl (λ other ne. refl)

-- a written column
pub get_or-set-put : {A : Type 0} (xs : List A) (place : ℕ) (value d : A) → place < length xs
    → (λ i. get_or (set xs place value) i d) ≡ put (λ i. get_or xs i d) place value
get_or-set-put xs place value d low =
    put-same (λ i. get_or xs i d) (λ i. get_or (set xs place value) i d) place value (get_or-set_same xs place value d low)
    (λ other ne. get_or-set_other xs place other value d ne)

pub list_of-put : (x l : ℕ) (L M : Layout) → KeepsTheRest x l L M → list_of M ≡ put (list_of L) x l
list_of-put x l L M keeps = put-same (list_of L) (list_of M) x l keeps.place keeps.others

-- a node that stands once at most doesn't stand off its own list
pub times-off : (x : ℕ) (L : Layout) (k : ℕ) → times x (concat L) ≤ 1 → k ≢ list_of L x → times x (sequence L k) ≡ 0
times-off x [] k once off = refl
times-off x (s ∷ rest) zero once off =
    elim (cases_lt 0 (times x s)) [
      | inl some ↦ absurd (off (sym (ap (λ b. cond b 0 (suc (list_of rest x))) (lt-ltb 0 (times x s) some))))
      | inr none ↦ omega (arith, none)
    ]
times-off x (s ∷ rest) (suc k) once off =
    let e : times x (concat (s ∷ rest)) ≡ times x s + times x (concat rest) = times-append x s (concat rest) in
    elim (cases_lt 0 (times x s)) [
      | inl some ↦
          let h : times x (sequence rest k) ≤ times x (concat rest) = times-sequence x rest k in
          omega (arith, e, h, some, once)
      | inr none ↦ times-off x rest k (omega (arith, e, once))
          (λ z. off (ap suc z ∙ sym (ap (λ b. cond b 0 (suc (list_of rest x))) (le-ltb 0 (times x s) none))))
    ]

pub taken_out-none : (x : ℕ) (s : List ℕ) → times x s ≡ 0 → taken_out x s ≡ s
taken_out-none x [] none = refl
taken_out-none x (y ∷ rest) none =
    elim (cases_eq y x) [
      | inl e ↦ let t : times x (y ∷ rest) ≡ suc (times x rest) = times-same x y rest e in absurd (omega (arith, none, t))
      | inr ne ↦ taken_out-other x y rest ne ∙ ap (λ z. y ∷ z) (taken_out-none x rest (sym (times-other x y rest ne) ∙ none))
    ]

-- a node isn't on any list but its own
pub still-out : (n x : ℕ) (L : Layout) → IsLawful n L → (k : ℕ) → k ≢ list_of L x → taken_out x (sequence L k) ≡ sequence L k
still-out n x L lawful k off =
    let once : times x (concat L) ≤ 1 = elim (cases_lt x n) [
      | inl low ↦ let e : times x (concat L) ≡ 1 = lawful x ∙ ap (λ b. cond b 1 0) (lt-ltb x n low) in omega (arith, e)
      | inr high ↦ let e : times x (concat L) ≡ 0 = lawful x ∙ ap (λ b. cond b 1 0) (le-ltb x n high) in omega (arith, e)
    ] in
    taken_out-none x (sequence L k) (times-off x L k once off)

-- the lists that a move doesn't touch
pub moved-others : (n x l : ℕ) (L M : Layout) → IsLawful n L → Moved x l L M → (k : ℕ) → k ≢ list_of L x → k ≢ l → sequence M k ≡ sequence L k
moved-others n x l L M lawful m k off other = m.others k other ∙ still-out n x L lawful k off

-- the first slot of a list of live requests
pub first_of : {R : Type 0} (a : Slots R) → IsSound a → (l slot : ℕ) (t : Ticket) → 2 ≤ l → l < length a.lists
    → first_in (sequence a.lists l) ≡ Some slot → t ≡ ticket_of a slot → IsFirst a l t
first_of a s l slot t live low first is =
    let at = stands (count a) a.lists s.lawful slot l low (first_stands (sequence a.lists l) slot first) in
    subst (IsFirst a l) (sym is)
    (record {
      first = first;
      low = at.0;
      live = names_all a (ticket_of a slot) at.0 (subst (λ z. 1 < z) (sym at.1) (omega (arith, live))) refl;
      home_is = at.1;
    })

module _ {R : Type 0} (a : Slots R) (s : IsSound a) (slot : ℕ) (low : slot < count a) where
  pub PutsSlot-taken : (rec : R) (weight list : ℕ) → list < length a.lists
      → PutsSlot a (taken a slot rec weight list) slot (generation_of a slot + 1) weight (Some rec) list
  PutsSlot-taken rec weight list list_low = record {
    count_is = length-set a.generations slot _;
    comms_is = refl;
    wear_is = refl;
    generations = get_or-set-put a.generations slot _ 0 low;
    weights = get_or-set-put a.weights slot weight 0 (omega (arith, s.weights_len));
    records = get_or-set-put a.records slot (Some rec) None (subst (λ n. slot < n) (sym s.records_len) low);
    homes = list_of-put slot list a.lists _ (KeepsTheRest-back slot list a.lists list_low);
    lists_is = (Moved-back slot list a.lists list_low).lists;
    others = moved-others (count a) slot list a.lists _ s.lawful (Moved-back slot list a.lists list_low);
    from = (Moved-back slot list a.lists list_low).others;
  }

  pub PutsSlot-rewritten : (rec : R) → PutsSlot a (rewritten a slot rec) slot (generation_of a slot) (weight_of a slot) (Some rec) (home a slot)
  PutsSlot-rewritten rec = record {
    count_is = refl;
    comms_is = refl;
    wear_is = refl;
    generations = put-own (generation_of a) slot;
    weights = put-own (weight_of a) slot;
    records = get_or-set-put a.records slot (Some rec) None (subst (λ n. slot < n) (sym s.records_len) low);
    homes = put-own (home a) slot;
    lists_is = refl;
    others = λ other off away. refl;
    from = λ other away. sym (still-out (count a) slot a.lists s.lawful other away);
  }

  pub PutsSlot-reweighed : (weight : ℕ) → PutsSlot a (reweighed a slot weight) slot (generation_of a slot) weight (record_in a slot) (home a slot)
  PutsSlot-reweighed weight = record {
    count_is = refl;
    comms_is = refl;
    wear_is = refl;
    generations = put-own (generation_of a) slot;
    weights = get_or-set-put a.weights slot weight 0 (omega (arith, s.weights_len));
    records = put-own (record_in a) slot;
    homes = put-own (home a) slot;
    lists_is = refl;
    others = λ other off away. refl;
    from = λ other away. sym (still-out (count a) slot a.lists s.lawful other away);
  }

  pub PutsSlot-shifted : (list : ℕ) → list < length a.lists
      → PutsSlot a (shifted a slot list) slot (generation_of a slot) (weight_of a slot) (record_in a slot) list
  PutsSlot-shifted list list_low = record {
    count_is = refl;
    comms_is = refl;
    wear_is = refl;
    generations = put-own (generation_of a) slot;
    weights = put-own (weight_of a) slot;
    records = put-own (record_in a) slot;
    homes = list_of-put slot list a.lists _ (KeepsTheRest-back slot list a.lists list_low);
    lists_is = (Moved-back slot list a.lists list_low).lists;
    others = moved-others (count a) slot list a.lists _ s.lawful (Moved-back slot list a.lists list_low);
    from = (Moved-back slot list a.lists list_low).others;
  }

  pub PutsSlot-shifted_front : (list : ℕ) → list < length a.lists
      → PutsSlot a (shifted_front a slot list) slot (generation_of a slot) (weight_of a slot) (record_in a slot) list
  PutsSlot-shifted_front list list_low = record {
    count_is = refl;
    comms_is = refl;
    wear_is = refl;
    generations = put-own (generation_of a) slot;
    weights = put-own (weight_of a) slot;
    records = put-own (record_in a) slot;
    homes = list_of-put slot list a.lists _ (KeepsTheRest-front slot list a.lists list_low);
    lists_is = (Moved-front slot list a.lists list_low).lists;
    others = moved-others (count a) slot list a.lists _ s.lawful (Moved-front slot list a.lists list_low);
    from = (Moved-front slot list a.lists list_low).others;
  }

  pub PutsSlot-replaced : (rec : R) (list : ℕ) → list < length a.lists
      → PutsSlot a (replaced a slot rec list) slot (generation_of a slot) (weight_of a slot) (Some rec) list
  PutsSlot-replaced rec list list_low = record {
    count_is = refl;
    comms_is = refl;
    wear_is = refl;
    generations = put-own (generation_of a) slot;
    weights = put-own (weight_of a) slot;
    records = get_or-set-put a.records slot (Some rec) None (subst (λ n. slot < n) (sym s.records_len) low);
    homes = list_of-put slot list a.lists _ (KeepsTheRest-back slot list a.lists list_low);
    lists_is = (Moved-back slot list a.lists list_low).lists;
    others = moved-others (count a) slot list a.lists _ s.lawful (Moved-back slot list a.lists list_low);
    from = (Moved-back slot list a.lists list_low).others;
  }

  pub PutsSlot-retired : PutsSlot a (retired a slot) slot (generation_of a slot) 0 None (rest_of a slot)
  PutsSlot-retired = record {
    count_is = refl;
    comms_is = refl;
    wear_is = refl;
    generations = put-own (generation_of a) slot;
    weights = get_or-set-put a.weights slot 0 0 (omega (arith, s.weights_len));
    records = get_or-set-put a.records slot None None (subst (λ n. slot < n) (sym s.records_len) low);
    homes = list_of-put slot (rest_of a slot) a.lists _ (KeepsTheRest-back slot (rest_of a slot) a.lists (rest_of-low a slot s));
    lists_is = (Moved-back slot (rest_of a slot) a.lists (rest_of-low a slot s)).lists;
    others = moved-others (count a) slot (rest_of a slot) a.lists _ s.lawful (Moved-back slot (rest_of a slot) a.lists (rest_of-low a slot s));
    from = (Moved-back slot (rest_of a slot) a.lists (rest_of-low a slot s)).others;
  }
