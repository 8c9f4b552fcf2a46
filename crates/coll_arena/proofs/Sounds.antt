-- Every call keeps what holds of an arena.
use Rattle.std.proofs.Common.{◌≡◌, ◌≢◌, ℕ, ◌+◌, ◌<◌, ◌≤◌, true, cond, length, eqb, ltb, sym, refl, ap, subst, ◌∙◌, inl, inr, Option, Some, None}
use Rattle.std.proofs.Common.{is_some, lt-ltb, le-ltb, eqb-true, ltb-true, eq-eqb, ne_eqb, arith}
use Rattle.std.proofs.lemmas.Bool.{and_parts, cases_eq}
use Rattle.std.proofs.lemmas.List.{get_or-set_other, get_or-set_same, length-set}
use Rattle.coll_lists.specs.Keeping.{KeepsTheRest}
use Rattle.coll_lists.specs.Layouts.{IsLawful, Layout, list_of, sequence}
use Rattle.coll_lists.specs.Moves.{moved_back, moved_front}
use Rattle.coll_lists.specs.Neighbours.{first_in}
use Rattle.coll_lists.proofs.Keeping.{KeepsTheRest-back, KeepsTheRest-front}
use Rattle.coll_lists.proofs.Occurrences.{Moved-back, Moved-front}
use Rattle.coll_lists.proofs.Walking.{first_stands, stands}
use Rattle.coll_kinds.specs.Limits.{max_lent}
use Rattle.coll_arena.specs.ListNames.{list_count}
use Rattle.coll_arena.specs.Changes.{replaced, retired, reweighed, rewritten, shifted, shifted_front, taken}
use Rattle.coll_arena.specs.Slots.{Slots, count, generation_of, home, is_live, names, record_in, weight_of}
use Rattle.coll_arena.specs.Sound.{IsSound, IsSoundSlot}
use Rattle.coll_kinds.specs.declared.ticket.Ticket.{Ticket}

-- the first slot of Free is a slot, and lies there
pub free_first : {R : Type 0} (a : Slots R) → IsSound a → (slot : ℕ) → first_in (sequence a.lists 0) ≡ Some slot → (slot < count a) × (home a slot ≡ 0)
free_first a s slot first =
    stands (count a) a.lists s.lawful slot 0 (omega (arith, s.lists_is)) (first_stands (sequence a.lists 0) slot first)

-- a named slot
pub record Named {R : Type 0} (a : Slots R) (t : Ticket) : Type 0 where
  pub low : t.slot < count a
  pub live : 1 < home a t.slot
  pub generation : generation_of a t.slot ≡ t.generation

pub Named-names : {R : Type 0} (a : Slots R) (t : Ticket) → names a t ≡ true → Named a t
Named-names a t is =
    let both = and_parts (is_live a t.slot) (eqb (generation_of a t.slot) t.generation) is in
    let lives = and_parts (ltb t.slot (count a)) (ltb 1 (home a t.slot)) both.0 in
    record {
      low = ltb-true t.slot (count a) lives.0;
      live = ltb-true 1 (home a t.slot) lives.1;
      generation = eqb-true (generation_of a t.slot) t.generation both.1;
    }

pub names_all : {R : Type 0} (a : Slots R) (t : Ticket) → t.slot < count a → 1 < home a t.slot → generation_of a t.slot ≡ t.generation → names a t ≡ true
names_all a t low live is = rw (lt-ltb t.slot (count a) low, lt-ltb 1 (home a t.slot) live, eq-eqb (generation_of a t.slot) t.generation is) refl

-- what holds of a slot depends on these alone
pub IsSoundSlot-same : {R : Type 0} (wear g h v w : ℕ) (r t : Option R) (l m : ℕ) → h ≡ g → w ≡ v → t ≡ r → m ≡ l
    → IsSoundSlot wear g v r l → IsSoundSlot wear h w t m
IsSoundSlot-same wear g h v w r t l m e f i j s =
    record {
      aged = omega (arith, e, s.aged);
      free = λ z. let was : l ≡ 0 = sym j ∙ z in omega (arith, e, s.free was);
      worn = λ z. let was : l ≡ 1 = sym j ∙ z in e ∙ s.worn was;
      recorded = ap is_some i ∙ s.recorded ∙ ap (ltb 1) (sym j);
      weightless = λ z. let was : l ≤ 1 = omega (arith, j, z) in f ∙ s.weightless was;
      light = omega (arith, f, s.light);
    }

-- b is a after a change of one slot and a move of it
pub record Differs {R : Type 0} (a b : Slots R) (slot : ℕ) : Type 0 where
  pub count_is : count b ≡ count a
  pub weights_is : length b.weights ≡ length a.weights
  pub records_is : length b.records ≡ length a.records
  pub lists_is : length b.lists ≡ length a.lists
  pub comms_is : b.comms ≡ a.comms
  pub wear_is : b.wear ≡ a.wear
  pub lawful : IsLawful (count a) b.lists
  pub generation : (other : ℕ) → other ≢ slot → generation_of b other ≡ generation_of a other
  pub weight : (other : ℕ) → other ≢ slot → weight_of b other ≡ weight_of a other
  pub found : (other : ℕ) → other ≢ slot → record_in b other ≡ record_in a other
  pub list : (other : ℕ) → other ≢ slot → home b other ≡ home a other

pub IsSound-differs : {R : Type 0} (a b : Slots R) (slot : ℕ) → IsSound a → Differs a b slot →
    IsSoundSlot b.wear (generation_of b slot) (weight_of b slot) (record_in b slot) (home b slot) → IsSound b
IsSound-differs a b slot s d at =
    record {
      weights_len = d.weights_is ∙ s.weights_len ∙ sym d.count_is;
      records_len = d.records_is ∙ s.records_len ∙ sym d.count_is;
      lists_is = d.lists_is ∙ s.lists_is ∙ ap list_count (sym d.comms_is);
      lists_fit = omega (arith, d.lists_is, s.lists_fit);
      count_fits = omega (arith, d.count_is, s.count_fits);
      wear_fits = omega (arith, d.wear_is, s.wear_fits);
      lawful = subst (λ n. IsLawful n b.lists) (sym d.count_is) d.lawful;
      slots = λ other low.
          elim (cases_eq other slot) [
            | inl e ↦ subst (λ z. IsSoundSlot b.wear (generation_of b z) (weight_of b z) (record_in b z) (home b z)) (sym e) at
            | inr ne ↦ subst (λ z. IsSoundSlot z (generation_of b other) (weight_of b other) (record_in b other) (home b other)) (sym d.wear_is)
                (IsSoundSlot-same a.wear _ _ _ _ _ _ _ _ (d.generation other ne) (d.weight other ne) (d.found other ne) (d.list other ne)
                (s.slots other (omega (arith, low, d.count_is))))
          ];
    }

pub Differs-taken : {R : Type 0} (a : Slots R) (slot : ℕ) (rec : R) (weight list : ℕ) → IsSound a → slot < count a
    → list < length a.lists → Differs a (taken a slot rec weight list) slot
Differs-taken a slot rec weight list s low list_low =
    let keeps : KeepsTheRest slot list a.lists (moved_back slot list a.lists) = KeepsTheRest-back slot list a.lists list_low in
    record {
      count_is = length-set a.generations slot _;
      weights_is = length-set a.weights slot _;
      records_is = length-set a.records slot _;
      lists_is = (Moved-back slot list a.lists list_low).lists;
      comms_is = refl;
      wear_is = refl;
      lawful = keeps.lawful (count a) low s.lawful;
      generation = λ other ne. get_or-set_other a.generations slot other _ 0 ne;
      weight = λ other ne. get_or-set_other a.weights slot other _ 0 ne;
      found = λ other ne. get_or-set_other a.records slot other _ None ne;
      list = λ other ne. keeps.others other ne;
    }

pub IsSound-taken : {R : Type 0} (a : Slots R) (slot : ℕ) (rec : R) (weight list : ℕ) → IsSound a → slot < count a
    → home a slot ≡ 0 → weight ≤ max_lent → 2 ≤ list → list < length a.lists → IsSound (taken a slot rec weight list)
IsSound-taken a slot rec weight list s low free light live list_low =
    let was : IsSoundSlot a.wear (generation_of a slot) (weight_of a slot) (record_in a slot) (home a slot) = s.slots slot low in
    let young : generation_of a slot < a.wear = was.free free in
    let generation : generation_of (taken a slot rec weight list) slot ≡ generation_of a slot + 1 = get_or-set_same a.generations slot _ 0 low in
    let weighs : weight_of (taken a slot rec weight list) slot ≡ weight = get_or-set_same a.weights slot weight 0 (omega (arith, s.weights_len)) in
    let found : record_in (taken a slot rec weight list) slot ≡ Some rec =
    get_or-set_same a.records slot (Some rec) None (subst (λ z. slot < z) (sym s.records_len) low) in
    let lies : home (taken a slot rec weight list) slot ≡ list = (KeepsTheRest-back slot list a.lists list_low).place in
    IsSound-differs a (taken a slot rec weight list) slot s (Differs-taken a slot rec weight list s low list_low)
    (record {
      aged = omega (arith, generation, young);
      free = λ z. absurd (omega (arith, z, lies));
      worn = λ z. absurd (omega (arith, z, lies));
      recorded = ap is_some found ∙ sym (lt-ltb 1 _ (omega (arith, lies)));
      weightless = λ z. absurd (omega (arith, z, lies));
      light = omega (arith, weighs);
    })

pub IsSound-rewritten : {R : Type 0} (a : Slots R) (slot : ℕ) (rec : R) → IsSound a → slot < count a → 1 < home a slot → IsSound (rewritten a slot rec)
IsSound-rewritten a slot rec s low live =
    let was : IsSoundSlot a.wear (generation_of a slot) (weight_of a slot) (record_in a slot) (home a slot) = s.slots slot low in
    let found : record_in (rewritten a slot rec) slot ≡ Some rec =
    get_or-set_same a.records slot (Some rec) None (subst (λ z. slot < z) (sym s.records_len) low) in
    IsSound-differs a (rewritten a slot rec) slot s
    (record {
      count_is = refl;
      weights_is = refl;
      records_is = length-set a.records slot _;
      lists_is = refl;
      comms_is = refl;
      wear_is = refl;
      lawful = s.lawful;
      generation = λ other ne. refl;
      weight = λ other ne. refl;
      found = λ other ne. get_or-set_other a.records slot other _ None ne;
      list = λ other ne. refl;
    })
    (record {
      aged = was.aged;
      free = was.free;
      worn = was.worn;
      recorded = ap is_some found ∙ sym (lt-ltb 1 _ live);
      weightless = was.weightless;
      light = was.light;
    })

pub IsSound-reweighed : {R : Type 0} (a : Slots R) (slot weight : ℕ) → IsSound a → slot < count a → 1 < home a slot
    → weight ≤ max_lent → IsSound (reweighed a slot weight)
IsSound-reweighed a slot weight s low live light =
    let was : IsSoundSlot a.wear (generation_of a slot) (weight_of a slot) (record_in a slot) (home a slot) = s.slots slot low in
    let weighs : weight_of (reweighed a slot weight) slot ≡ weight = get_or-set_same a.weights slot weight 0 (omega (arith, s.weights_len)) in
    IsSound-differs a (reweighed a slot weight) slot s
    (record {
      count_is = refl;
      weights_is = length-set a.weights slot _;
      records_is = refl;
      lists_is = refl;
      comms_is = refl;
      wear_is = refl;
      lawful = s.lawful;
      generation = λ other ne. refl;
      weight = λ other ne. get_or-set_other a.weights slot other _ 0 ne;
      found = λ other ne. refl;
      list = λ other ne. refl;
    })
    (record {
      aged = was.aged;
      free = was.free;
      worn = was.worn;
      recorded = was.recorded;
      weightless = λ z. absurd (omega (arith, z, live));
      light = omega (arith, weighs);
    })

pub IsSound-moved : {R : Type 0} (a : Slots R) (slot list : ℕ) (lists : Layout) → IsSound a → slot < count a → 1 < home a slot
    → 2 ≤ list → length lists ≡ length a.lists → KeepsTheRest slot list a.lists lists → IsSound (record a { lists = lists })
IsSound-moved a slot list lists s low live live_list lists_is keeps =
    let was : IsSoundSlot a.wear (generation_of a slot) (weight_of a slot) (record_in a slot) (home a slot) = s.slots slot low in
    let lies : list_of lists slot ≡ list = keeps.place in
    IsSound-differs a (record a { lists = lists }) slot s
    (record {
      count_is = refl;
      weights_is = refl;
      records_is = refl;
      lists_is = lists_is;
      comms_is = refl;
      wear_is = refl;
      lawful = keeps.lawful (count a) low s.lawful;
      generation = λ other ne. refl;
      weight = λ other ne. refl;
      found = λ other ne. refl;
      list = λ other ne. keeps.others other ne;
    })
    (record {
      aged = was.aged;
      free = λ z. absurd (omega (arith, z, lies));
      worn = λ z. absurd (omega (arith, z, lies));
      recorded = was.recorded ∙ lt-ltb 1 _ live ∙ sym (lt-ltb 1 _ (omega (arith, lies)));
      weightless = λ z. absurd (omega (arith, z, lies));
      light = was.light;
    })

pub IsSound-shifted : {R : Type 0} (a : Slots R) (slot list : ℕ) → IsSound a → slot < count a → 1 < home a slot → 2 ≤ list
    → list < length a.lists → IsSound (shifted a slot list)
IsSound-shifted a slot list s low live live_list list_low =
    IsSound-moved a slot list (moved_back slot list a.lists) s low live live_list (Moved-back slot list a.lists list_low).lists
    (KeepsTheRest-back slot list a.lists list_low)

pub IsSound-shifted_front : {R : Type 0} (a : Slots R) (slot list : ℕ) → IsSound a → slot < count a → 1 < home a slot → 2 ≤ list
    → list < length a.lists → IsSound (shifted_front a slot list)
IsSound-shifted_front a slot list s low live live_list list_low =
    IsSound-moved a slot list (moved_front slot list a.lists) s low live live_list (Moved-front slot list a.lists list_low).lists
    (KeepsTheRest-front slot list a.lists list_low)

pub IsSound-replaced : {R : Type 0} (a : Slots R) (slot : ℕ) (rec : R) (list : ℕ) → IsSound a → slot < count a → 1 < home a slot
    → 2 ≤ list → list < length a.lists → IsSound (replaced a slot rec list)
IsSound-replaced a slot rec list s low live live_list list_low =
    IsSound-shifted (rewritten a slot rec) slot list (IsSound-rewritten a slot rec s low live) low live live_list list_low

-- the list that a slot retires to
abbrev pub rest_of : {R : Type 0} → Slots R → ℕ → ℕ
rest_of a slot = cond (eqb (generation_of a slot) a.wear) 1 0

pub rest_of-low : {R : Type 0} (a : Slots R) (slot : ℕ) → IsSound a → rest_of a slot < length a.lists
rest_of-low a slot s =
    elim (cases_eq (generation_of a slot) a.wear) [
      | inl e ↦ rw (eq-eqb _ _ e) (omega (arith, s.lists_is))
      | inr ne ↦ rw (ne_eqb _ _ ne) (omega (arith, s.lists_is))
    ]

pub IsSound-retired : {R : Type 0} (a : Slots R) (slot : ℕ) → IsSound a → slot < count a → IsSound (retired a slot)
IsSound-retired a slot s low =
    let list_low : rest_of a slot < length a.lists = rest_of-low a slot s in
    let keeps : KeepsTheRest slot (rest_of a slot) a.lists (moved_back slot (rest_of a slot) a.lists) =
    KeepsTheRest-back slot (rest_of a slot) a.lists list_low in
    let was : IsSoundSlot a.wear (generation_of a slot) (weight_of a slot) (record_in a slot) (home a slot) = s.slots slot low in
    let weighs : weight_of (retired a slot) slot ≡ 0 = get_or-set_same a.weights slot 0 0 (omega (arith, s.weights_len)) in
    let found : record_in (retired a slot) slot ≡ None = get_or-set_same a.records slot None None (subst (λ z. slot < z) (sym s.records_len) low) in
    let lies : home (retired a slot) slot ≡ rest_of a slot = keeps.place in
    IsSound-differs a (retired a slot) slot s
    (record {
      count_is = refl;
      weights_is = length-set a.weights slot _;
      records_is = length-set a.records slot _;
      lists_is = (Moved-back slot (rest_of a slot) a.lists list_low).lists;
      comms_is = refl;
      wear_is = refl;
      lawful = keeps.lawful (count a) low s.lawful;
      generation = λ other ne. refl;
      weight = λ other ne. get_or-set_other a.weights slot other _ 0 ne;
      found = λ other ne. get_or-set_other a.records slot other _ None ne;
      list = λ other ne. keeps.others other ne;
    })
    (elim (cases_eq (generation_of a slot) a.wear) [
      | inl e ↦
          let here : home (retired a slot) slot ≡ 1 = lies ∙ ap (λ b. cond b 1 0) (eq-eqb _ _ e) in
          record {
            aged = was.aged;
            free = λ z. absurd (omega (arith, z, here));
            worn = λ z. e;
            recorded = ap is_some found ∙ sym (le-ltb 1 _ (omega (arith, here)));
            weightless = λ z. weighs;
            light = omega (arith, weighs);
          }
      | inr ne ↦
          let here : home (retired a slot) slot ≡ 0 = lies ∙ ap (λ b. cond b 1 0) (ne_eqb _ _ ne) in
          record {
            aged = was.aged;
            free = λ z. omega (arith, was.aged, ne);
            worn = λ z. absurd (omega (arith, z, here));
            recorded = ap is_some found ∙ sym (le-ltb 1 _ (omega (arith, here)));
            weightless = λ z. weighs;
            light = omega (arith, weighs);
          }
    ])
