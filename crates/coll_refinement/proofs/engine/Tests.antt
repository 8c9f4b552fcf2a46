-- The tests of the engine are the machine's.
use Rattle.std.proofs.Common.{◌≡◌, ℕ, zero, suc, ◌+◌, ◌==◌, ◌&&◌, ◌||◌, ◌<◌, ◌≤◌, ◌⊎◌, inl, inr, Bool, true, false, ltb, List, [], ◌∷◌, length}
use Rattle.std.proofs.Common.{Option, Some, None, is_some, is_none, refl, sym, ap, subst, ◌∙◌, arith, eqb-true, ltb-true, lt-ltb}
use Rattle.std.specs.Prelude.{option_map, nat_lt}
use Rattle.std.specs.List.{list_any, range_with_len}
use Rattle.std.specs.Option.{option_or}
use Rattle.std.proofs.lemmas.Bool.{cases_eq, and_parts, and_from, false≢true}
use Rattle.coll_kinds.specs.declared.kind.Mode.{Mode}
use Rattle.coll_kinds.specs.declared.kind.Mode.TheVariants.{Once, Persistent}
use Rattle.coll_kinds.specs.declared.refusal.Refusal.{Refusal}
use Rattle.coll_kinds.specs.declared.refusal.Refusal.TheVariants.{BadComm, BadSignature, Full, NotMember, PlacesUsed}
use Rattle.coll_kinds.specs.declared.refusal.SignatureFault.TheVariants.{Mode as WrongMode, Group as WrongGroup}
use Rattle.coll_kinds.specs.Common.{broken, member_of, mode_number}
use Rattle.coll_lists.specs.Layouts.{sequence, times}
use Rattle.coll_lists.specs.Neighbours.{first_in}
use Rattle.coll_arena.specs.Slots.{Slots, count, generation_of, home, record_in}
use Rattle.coll_arena.specs.Sound as arena
use Rattle.coll_arena.proofs.Homes.{StandsAtHome-sound}
use Rattle.coll_arena.proofs.Sounds.{free_first}
use Rattle.coll_queues.specs.Postings.{Postings, groups_of, number_of as number_in, place_of, posts, size as size_in}
use Rattle.coll_machine.specs.Common.{Setting, group_in, Planned, Post, Init, first_of, mismatch_in, refusal, unless, wrong_length}
use Rattle.coll_machine.specs.Refusals.{full}
use Rattle.coll_machine.proofs.Accepted.{fits}
use Rattle.coll_refinement.specs.Requests.{Live}
use Rattle.coll_refinement.specs.Tables.{Tables, asked, state}
use Rattle.coll_refinement.specs.Shown.{Instances, seen, tables}
use Rattle.coll_refinement.specs.Cores.{IsCore}
use Rattle.coll_refinement.proofs.engine.Statements.{InitRefused, PostRefused, full_refusal}
use Rattle.coll_refinement.proofs.engine.Calls.{none_of}

-- ---- full

any_in : (p : ℕ → Bool) (k n i : ℕ) → k ≤ i → i < k + n → p i ≡ true → list_any p (range_with_len k n) ≡ true
any_in p k zero i low high e = absurd (omega (arith, low, high))
any_in p k (suc n) i low high e = go (cases_eq k i) (p k) refl (λ d. any_in p (k + 1) n i (omega (arith, low, d)) (omega (arith, high)) e)
  where
    go : (k ≡ i) ⊎ (k ≡ i → ⊥) → (b : Bool) → p k ≡ b → ((k ≡ i → ⊥) → list_any p (range_with_len (k + 1) n) ≡ true)
        → (p k || list_any p (range_with_len (k + 1) n)) ≡ true
    go c true f later = ap (λ b. b || list_any p (range_with_len (k + 1) n)) f
    go (inl x) false f later = absurd (false≢true (sym f ∙ (ap p x ∙ e)))
    go (inr d) false f later = ap (λ b. b || list_any p (range_with_len (k + 1) n)) f ∙ later d

none_in : (p : ℕ → Bool) (k n : ℕ) → ((i : ℕ) → i < k + n → p i ≡ false) → list_any p (range_with_len k n) ≡ false
none_in p k zero h = refl
none_in p k (suc n) h = ap (λ b. b || list_any p (range_with_len (k + 1) n)) (h k (omega arith)) ∙ none_in p (k + 1) n (λ i l. h i (omega (arith, l)))

module _ {R : Type 0} (shown : R → Live) (g : Setting) (a : Slots R) (q : Postings) (m : Instances) (c : IsCore shown g a q m) (s : arena.IsSound a) where
  abbrev v : Tables
  v = tables shown g a q m

  abbrev spare : ℕ → Bool
  spare i = is_none ((state v).request i) && nat_lt (generation_of a i) g.wear

  -- a slot that can be given out lies on Free
  spare_free : (i : ℕ) → i < count a → spare i ≡ true → home a i ≡ 0
  spare_free i low e =
      let both = and_parts (is_none ((state v).request i)) (ltb (generation_of a i) g.wear) e in
      let young : generation_of a i < g.wear = ltb-true (generation_of a i) g.wear both.1 in
      let wear : g.wear ≡ a.wear = c.set.wear_is in
      by (record_in a i) refl both.0 young wear (cases_eq (home a i) 0) (cases_eq (home a i) 1)
    where
      by : (o : Option R) → record_in a i ≡ o → is_none (asked (seen (home a i) (option_map shown (record_in a i)))) ≡ true
          → generation_of a i < g.wear → g.wear ≡ a.wear → (home a i ≡ 0) ⊎ (home a i ≡ 0 → ⊥) → (home a i ≡ 1) ⊎ (home a i ≡ 1 → ⊥) → home a i ≡ 0
      by o r n young wear (inl z) w = z
      by (Some x) r n young wear (inr d) w = absurd (false≢true (ap (λ (o : Option R). is_none (asked (seen (home a i) (option_map shown o)))) (sym r) ∙ n))
      by None r n young wear (inr d) (inl z) = let old : generation_of a i ≡ a.wear = (s.slots i low).worn z in absurd (omega (arith, old, young, wear))
      by None r n young wear (inr d) (inr f) =
          let high : 1 < home a i = omega (arith, d, f) in
          absurd (false≢true (ap (λ (o : Option R). is_some o) (sym r) ∙ ((s.slots i low).recorded ∙ lt-ltb 1 (home a i) high)))

  free_spare : (i : ℕ) → first_in (sequence a.lists 0) ≡ Some i → (i < count a) × (spare i ≡ true)
  free_spare i first =
      let f = free_first a s i first in
      let none : record_in a i ≡ None = none_of (record_in a i) ((s.slots i f.0).recorded ∙ ap (λ l. nat_lt 1 l) f.1) in
      let young : generation_of a i < g.wear = subst (λ n. generation_of a i < n) (sym c.set.wear_is) ((s.slots i f.0).free f.1) in (
        f.0,
        and_from (is_none ((state v).request i)) (ltb (generation_of a i) g.wear)
            (ap (λ (o : Option R). is_none (asked (seen (home a i) (option_map shown o)))) none) (lt-ltb (generation_of a i) g.wear young),
      )

  pub full_is : full g (state v) ≡ full_refusal a
  full_is = ap (λ b. unless b Full) (go (sequence a.lists 0) refl)
    where
      go : (xs : List ℕ) → sequence a.lists 0 ≡ xs → list_any spare (range_with_len 0 g.slots) ≡ nat_lt 0 (length (sequence a.lists 0))
      go [] e = none_in spare 0 g.slots off ∙ ap (λ (xs : List ℕ). nat_lt 0 (length xs)) (sym e)
        where
          off : (i : ℕ) → i < 0 + g.slots → spare i ≡ false
          off i l = by (spare i) refl
            where
              by : (b : Bool) → spare i ≡ b → spare i ≡ false
              by false f = f
              by true f =
                  let slots : g.slots ≡ count a = c.set.slots_is in
                  let low : i < count a = omega (arith, l, slots) in
                  let stands : 0 < times i (sequence a.lists 0) =
                  (StandsAtHome-sound a s i 0 (omega (arith, s.lists_is))).at_home.1 (low, spare_free i low f) in
                  let none : times i (sequence a.lists 0) ≡ 0 = ap (times i) e in
                  absurd (omega (arith, stands, none))
      go (x ∷ xs) e =
          let f = free_spare x (ap first_in e) in
          let slots : g.slots ≡ count a = c.set.slots_is in
          let low : x < count a = f.0 in
          let some : true ≡ nat_lt 0 (length (sequence a.lists 0)) =
          sym (lt-ltb 0 (length (x ∷ xs)) (omega arith)) ∙ sym (ap (λ (xs : List ℕ). nat_lt 0 (length xs)) e) in
          any_in spare 0 g.slots x (omega arith) (omega (arith, slots, low)) f.1 ∙ some

-- ---- posting lists

-- the setting by its posting lists
abbrev by_lists : Setting → Postings → Setting
by_lists g q = record { ranks = g.ranks; groups = groups_of q; slots = g.slots; places = q.places; wear = g.wear; starts = g.starts; trace = g.trace }

-- nine conditions, of which the posting lists tell some again
in_turn : (a b c d e f h i j k : Option Refusal) → (e ≡ None → h ≡ i)
    → first_of (a ∷ b ∷ c ∷ d ∷ e ∷ f ∷ j ∷ h ∷ k ∷ []) ≡ first_of (first_of (a ∷ b ∷ []) ∷ c ∷ d ∷ e ∷ first_of (a ∷ b ∷ c ∷ f ∷ j ∷ []) ∷ i ∷ k ∷ [])
in_turn (Some x) b c d e f h i j k z = refl
in_turn None (Some x) c d e f h i j k z = refl
in_turn None None (Some x) d e f h i j k z = refl
in_turn None None None (Some x) e f h i j k z = refl
in_turn None None None None (Some x) f h i j k z = refl
in_turn None None None None None (Some x) h i j k z = refl
in_turn None None None None None None h i (Some x) k z = refl
in_turn None None None None None None h i None k z = ap (λ (o : Option Refusal). option_or o (first_of (k ∷ []))) (z refl)

in_turn_short : (a b c d e f j k : Option Refusal)
    → first_of (a ∷ b ∷ c ∷ d ∷ e ∷ f ∷ j ∷ k ∷ []) ≡ first_of (first_of (a ∷ b ∷ []) ∷ c ∷ d ∷ e ∷ first_of (a ∷ b ∷ c ∷ f ∷ j ∷ []) ∷ k ∷ [])
in_turn_short (Some x) b c d e f j k = refl
in_turn_short None (Some x) c d e f j k = refl
in_turn_short None None (Some x) d e f j k = refl
in_turn_short None None None (Some x) e f j k = refl
in_turn_short None None None None (Some x) f j k = refl
in_turn_short None None None None None (Some x) j k = refl
in_turn_short None None None None None None (Some x) k = refl
in_turn_short None None None None None None None k = refl

module _ {R : Type 0} (shown : R → Live) (g : Setting) (a : Slots R) (q : Postings) (m : Instances) (c : IsCore shown g a q m) where
  setting_is : g ≡ by_lists g q
  setting_is =
      λ z. record {
        ranks = g.ranks;
        groups = c.set.groups_is z;
        slots = g.slots;
        places = c.set.places_is z;
        wear =
            g.wear;
        starts = g.starts;
        trace = g.trace;
      }

-- the conditions of a posting, by themselves
module _ (q : Postings) (rank comm : ℕ) (mode : Mode) (plan : Planned) where
  abbrev no_comm : Option Refusal
  no_comm = unless (nat_lt comm (length (groups_of q))) (BadComm comm)

  abbrev no_member : Option Refusal
  no_member = unless (is_some (member_of rank (group_in (groups_of q) comm))) (NotMember rank)

  abbrev is_broken : Option Refusal
  is_broken = option_map BadSignature (broken plan.sig (size_in q comm))

  abbrev other_mode : Option Refusal
  other_mode = unless (mode_number plan.sig.mode == mode_number mode) (BadSignature WrongMode)

  abbrev other_group : Option Refusal
  other_group = unless ((plan.n == size_in q comm) && (plan.member == number_in q comm rank)) (BadSignature WrongGroup)

  abbrev differs : Option Refusal
  differs = mismatch_in (group_in (groups_of q) comm) (posts q comm) (place_of q comm rank) plan.sig

  abbrev used : Option Refusal
  used = unless (nat_lt (place_of q comm rank) q.places) PlacesUsed

pub post_refused : {R : Type 0} → PostRefused R
post_refused {R} shown g a q m rank comm plan bytes c s =
    ap (λ (u : Setting). refusal u (state v) (Post rank comm plan bytes)) (setting_is shown g a q m c)
    ∙ ((λ z. first_of (no_comm q rank comm Once plan ∷ no_member q rank comm Once plan ∷ is_broken q rank comm Once plan
    ∷ other_mode q rank comm Once plan ∷ other_group q rank comm Once plan
    ∷ differs q rank comm Once plan ∷ used q rank comm Once plan ∷ wrong_length plan.sig (size_in q comm) (number_in q comm rank) bytes ∷ room z ∷ []))
    ∙ in_turn (no_comm q rank comm Once plan) (no_member q rank comm Once plan) (is_broken q rank comm Once plan)
    (other_mode q rank comm Once plan) (other_group q rank comm Once plan) (differs q rank comm Once plan)
    (wrong_length plan.sig (size_in q comm) (number_in q comm rank) bytes) (wrong_length plan.sig plan.n plan.member bytes)
    (used q rank comm Once plan) (full_refusal a) same_length)
  where
    v : Tables
    v = tables shown g a q m

    room : full (by_lists g q) (state v) ≡ full_refusal a
    room = full_is shown g a q m c s

    same_length : other_group q rank comm Once plan ≡ None
        → wrong_length plan.sig (size_in q comm) (number_in q comm rank) bytes ≡ wrong_length plan.sig plan.n plan.member bytes
    same_length e =
        let both = and_parts (plan.n == size_in q comm) (plan.member == number_in q comm rank) (fits _ (BadSignature WrongGroup) e) in
        let n : plan.n ≡ size_in q comm = eqb-true plan.n (size_in q comm) both.0 in
        let member : plan.member ≡ number_in q comm rank = eqb-true plan.member (number_in q comm rank) both.1 in
        λ z. wrong_length plan.sig (sym n z) (sym member z) bytes

pub init_refused : {R : Type 0} → InitRefused R
init_refused {R} shown g a q m rank comm plan c s =
    ap (λ (u : Setting). refusal u (state v) (Init rank comm plan)) (setting_is shown g a q m c)
    ∙ ((λ z. first_of (no_comm q rank comm Persistent plan ∷ no_member q rank comm Persistent plan
    ∷ is_broken q rank comm Persistent plan ∷ other_mode q rank comm Persistent plan ∷ other_group q rank comm Persistent plan
    ∷ differs q rank comm Persistent plan ∷ used q rank comm Persistent plan ∷ room z ∷ []))
    ∙ in_turn_short (no_comm q rank comm Persistent plan) (no_member q rank comm Persistent plan)
    (is_broken q rank comm Persistent plan) (other_mode q rank comm Persistent plan) (other_group q rank comm Persistent plan)
    (differs q rank comm Persistent plan) (used q rank comm Persistent plan) (full_refusal a))
  where
    v : Tables
    v = tables shown g a q m

    room : full (by_lists g q) (state v) ≡ full_refusal a
    room = full_is shown g a q m c s
