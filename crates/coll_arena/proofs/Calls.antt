-- The calls of an arena: `a` is what its fields show, `v` what clauses see, and `n` the number that it keeps.
use Rattle.std.proofs.Common.{◌≡◌, ℕ, ◌+◌, ◌-◌, ◌<◌, ◌≤◌, ◌^◌, true, cond, List, [], ◌∷◌, length, eqb, refl, sym, ap, subst, ◌∙◌, Option, Some, None}
use Rattle.std.proofs.Common.{get_or, set, arith}
use Rattle.std.proofs.lemmas.List.{get_or_read}
use Rattle.std.proofs.lemmas.Option.{none-some}
use Rattle.coll_kinds.specs.Limits.{max_lent}
use Rattle.coll_kinds.specs.declared.ticket.Ticket.{Ticket}
use Rattle.coll_lists.specs.Layouts.{Layout, sequence, size}
use Rattle.coll_lists.specs.Moves.{moved_back, moved_front}
use Rattle.coll_lists.specs.Neighbours.{first_in}
use Rattle.coll_lists.proofs.Lawful.{size-lawful}
use Rattle.coll_lists.proofs.Walking.{first_stands, stands}
use Rattle.coll_arena.specs.Changes.{replaced, retired, reweighed, rewritten, shifted, shifted_front, taken}
use Rattle.coll_arena.specs.ListNames.{list_count}
use Rattle.coll_arena.specs.Lookups.{IsFirst, PutsSlot}
use Rattle.coll_arena.specs.Slots.{Slots, count, generation_of, home, lent, names, record_in, ticket_of, weight_of}
use Rattle.coll_arena.specs.Sound.{IsKept, IsSound}
use Rattle.coll_arena.specs.Views.{view_of}
use Rattle.coll_arena.proofs.Lents.{kept-fits, lent-retired, lent-reweighed, lent-same, lent-taken}
use Rattle.coll_arena.proofs.Lookups.{PutsSlot-replaced, PutsSlot-retired, PutsSlot-reweighed, PutsSlot-shifted, PutsSlot-shifted_front}
use Rattle.coll_arena.proofs.Lookups.{PutsSlot-taken, first_of}
use Rattle.coll_arena.proofs.Sounds.{IsSound-replaced, IsSound-retired, IsSound-reweighed, IsSound-rewritten, IsSound-shifted, IsSound-shifted_front}
use Rattle.coll_arena.proofs.Sounds.{IsSound-taken, Named, Named-names, free_first}

-- equal columns make equal views
pub same_columns : {R : Type 0} (g h v w : List ℕ) (r t : List (Option R)) (l m : Layout) (comms wear : ℕ) → g ≡ h → v ≡ w
    → r ≡ t → l ≡ m → view_of g v r l comms wear ≡ view_of h w t m comms wear
same_columns g h v w r t l m comms wear e1 e2 e3 e4 =
    λ i. record { generations = e1 i; weights = e2 i; records = e3 i; lists = e4 i; comms = comms; wear = wear }

-- a sequence without a first node is empty
pub none_first : (xs : List ℕ) → None ≡ first_in xs → xs ≡ []
none_first [] e = refl
none_first (x ∷ rest) e = absurd (none-some x e)

-- an arena after a change: it keeps its number, and it is what the clause says
pub record Changes {R : Type 0} (w want : Slots R) (sum : ℕ) : Type 0 where
  pub kept : IsKept w sum
  pub is : w ≡ want

module _ {R : Type 0} (a v : Slots R) (n : ℕ) (e : a ≡ v) (k : IsKept a n) where
  pub seen : IsSound v
  seen = subst (λ z. IsSound z) e k.sound

  pub counted : n ≡ lent v
  counted = k.counted ∙ ap lent e

  -- a slot stands in each column, and is a node of the links
  pub in_generations : (slot : ℕ) → slot < count v → slot < length a.generations
  in_generations slot low = subst (λ z. slot < count z) (sym e) low

  pub in_weights : (slot : ℕ) → slot < count v → slot < length a.weights
  in_weights slot low = subst (λ m. slot < m) (sym k.sound.weights_len) (in_generations slot low)

  pub in_records : (slot : ℕ) → slot < count v → slot < length a.records
  in_records slot low = subst (λ m. slot < m) (sym k.sound.records_len) (in_generations slot low)

  pub in_links : (slot : ℕ) → slot < count v → slot < size a.lists
  in_links slot low = subst (λ m. slot < m) (sym (size-lawful (count a) a.lists k.sound.lawful)) (in_generations slot low)

  pub node_low : (slot : ℕ) → slot < length a.generations → slot < size a.lists
  node_low slot low = in_links slot (subst (λ z. slot < count z) e low)

  pub named : (t : Ticket) → names v t ≡ true → Named v t
  named t is = Named-names v t is

  -- a list's number is one of the links' lists
  pub list_low : (list : ℕ) → list < list_count v.comms → list < length a.lists
  list_low list low = subst (λ m. list < m) (sym k.sound.lists_is) (subst (λ z. list < list_count z.comms) (sym e) low)

  pub list_seen : (list : ℕ) → list < list_count v.comms → list < length v.lists
  list_seen list low = subst (λ m. list < m) (sym seen.lists_is) low

  -- what is read of a slot
  pub generation_read : (slot read : ℕ) → slot < count v → read ≡ get_or a.generations slot read → read ≡ generation_of v slot
  generation_read slot read low is = get_or_read a.generations slot read (in_generations slot low) is 0 ∙ ap (λ z. generation_of z slot) e

  pub weight_read : (slot read : ℕ) → slot < count v → read ≡ get_or a.weights slot read → read ≡ weight_of v slot
  weight_read slot read low is = get_or_read a.weights slot read (in_weights slot low) is 0 ∙ ap (λ z. weight_of z slot) e

  -- the first free slot
  pub free : (slot : ℕ) → first_in (sequence a.lists 0) ≡ Some slot → (slot < count v) × (home v slot ≡ 0)
  free slot first = free_first v seen slot (ap (λ z. first_in (sequence z.lists 0)) (sym e) ∙ first)

  pub free_young : (slot read : ℕ) → first_in (sequence a.lists 0) ≡ Some slot → read ≡ get_or a.generations slot read → read + 1 < 2 ^ 32
  free_young slot read first is =
      let at = free slot first in
      let seen_is : read ≡ generation_of v slot = generation_read slot read at.0 is in
      let young : generation_of v slot < v.wear = (seen.slots slot at.0).free at.1 in
      omega (arith, seen.wear_fits)

  -- no slot weighs more than the sum
  pub weight_counted : (slot : ℕ) → slot < count v → weight_of v slot ≤ n
  weight_counted slot low =
      let all : lent (retired v slot) + weight_of v slot ≡ lent v = lent-retired v slot seen (IsSound-retired v slot seen low) low in
      let kept : n ≡ lent v = counted in
      omega arith

  -- a change in the fields is the change that the clause names
  pub changes : (op : Slots R → Slots R) (w : Slots R) (sum : ℕ) → w ≡ op a → IsSound (op v) → sum ≡ lent (op v) → Changes w (op v) sum
  changes op w sum is sound sum_is =
      let all : w ≡ op v = is ∙ ap op e in
      record { kept = subst (λ z. IsKept z sum) (sym all) (record { sound = sound; counted = sum_is }); is = all }

  module _ (slot : ℕ) (rec : R) (weight list : ℕ) (first : first_in (sequence a.lists 0) ≡ Some slot) (light : weight ≤ max_lent)
      (live : 2 ≤ list) (low : list < list_count v.comms) where
    taken_sound : IsSound (taken v slot rec weight list)
    taken_sound = let at = free slot first in IsSound-taken v slot rec weight list seen at.0 at.1 light live (list_seen list low)

    pub takes_lent : lent (taken v slot rec weight list) ≡ lent v + weight
    takes_lent = let at = free slot first in lent-taken v slot rec weight list seen taken_sound at.0 at.1

    pub takes_fits : n + weight < 2 ^ 64
    takes_fits =
        let sum : lent (taken v slot rec weight list) ≡ lent v + weight = takes_lent in
        let kept : n ≡ lent v = counted in
        let fits : lent (taken v slot rec weight list) < 2 ^ 64 = kept-fits (taken v slot rec weight list) taken_sound in
        omega arith

    pub takes : (read generation number sum : ℕ) (links : Layout) → read ≡ get_or a.generations slot read → generation ≡ read + 1
        → number ≡ list → sum ≡ n + weight → links ≡ moved_back slot number a.lists →
        Changes (view_of (set a.generations slot generation) (set a.weights slot weight) (set a.records slot (Some rec)) links a.comms a.wear)
        (taken v slot rec weight list) sum
    takes read generation number sum links read_is generation_is number_is sum_is links_is =
        let at = free slot first in
        changes (λ z. taken z slot rec weight list) _ sum
        (same_columns _ _ _ _ _ _ _ _ a.comms a.wear
        (ap (set a.generations slot) (generation_is ∙ ap (λ g. g + 1) (get_or_read a.generations slot read (in_generations slot at.0) read_is 0)))
        refl refl (links_is ∙ ap (λ l. moved_back slot l a.lists) number_is))
        taken_sound (sum_is ∙ ap (λ z. z + weight) counted ∙ sym takes_lent)

    pub takes_puts : (w : Slots R) (generation : ℕ) → w ≡ taken v slot rec weight list → generation ≡ generation_of v slot + 1
        → PutsSlot v w slot generation weight (Some rec) list
    takes_puts w generation is generation_is =
        let at = free slot first in
        subst (λ z. PutsSlot v z slot generation weight (Some rec) list) (sym is)
        (subst (λ g. PutsSlot v (taken v slot rec weight list) slot g weight (Some rec) list) (sym generation_is)
        (PutsSlot-taken v seen slot at.0 rec weight list (list_seen list low)))

  module _ (t : Ticket) (is_named : names v t ≡ true) where
    at : Named v t
    at = named t is_named

    pub low_named : t.slot < count v
    low_named = at.low

    -- another weight
    module _ (weight : ℕ) (light : weight ≤ max_lent) where
      reweighed_sound : IsSound (reweighed v t.slot weight)
      reweighed_sound = IsSound-reweighed v t.slot weight seen at.low at.live light

      pub reweighs_lent : lent (reweighed v t.slot weight) + weight_of v t.slot ≡ lent v + weight
      reweighs_lent = lent-reweighed v t.slot weight seen reweighed_sound at.low

      pub reweighs_fits : (before : ℕ) → before ≡ get_or a.weights t.slot before → (before ≤ n) × ((n - before) + weight < 2 ^ 64)
      reweighs_fits before is =
          let read : before ≡ weight_of v t.slot = weight_read t.slot before at.low is in
          let most : weight_of v t.slot ≤ n = weight_counted t.slot at.low in
          let kept : n ≡ lent v = counted in
          let sum : lent (reweighed v t.slot weight) + weight_of v t.slot ≡ lent v + weight = reweighs_lent in
          let fits : lent (reweighed v t.slot weight) < 2 ^ 64 = kept-fits (reweighed v t.slot weight) reweighed_sound in
          (omega arith, omega arith)

      pub reweighs : (before sum : ℕ) → before ≡ get_or a.weights t.slot before → sum ≡ (n - before) + weight →
          Changes (view_of a.generations (set a.weights t.slot weight) a.records a.lists a.comms a.wear) (reweighed v t.slot weight) sum
      reweighs before sum is sum_is =
          let read : before ≡ weight_of v t.slot = weight_read t.slot before at.low is in
          let most : weight_of v t.slot ≤ n = weight_counted t.slot at.low in
          let kept : n ≡ lent v = counted in
          let all : lent (reweighed v t.slot weight) + weight_of v t.slot ≡ lent v + weight = reweighs_lent in
          changes (λ z. reweighed z t.slot weight) _ sum refl reweighed_sound (omega arith)

      pub reweighs_puts : (w : Slots R) → w ≡ reweighed v t.slot weight → PutsSlot v w t.slot t.generation weight (record_in v t.slot) (home v t.slot)
      reweighs_puts w is =
          subst (λ z. PutsSlot v z t.slot t.generation weight (record_in v t.slot) (home v t.slot)) (sym is)
          (subst (λ g. PutsSlot v (reweighed v t.slot weight) t.slot g weight (record_in v t.slot) (home v t.slot)) at.generation
          (PutsSlot-reweighed v seen t.slot at.low weight))

    -- another list
    module _ (list : ℕ) (live : 2 ≤ list) (low : list < list_count v.comms) where
      shifted_sound : IsSound (shifted v t.slot list)
      shifted_sound = IsSound-shifted v t.slot list seen at.low at.live live (list_seen list low)

      pub shifts_lent : lent (shifted v t.slot list) ≡ lent v
      shifts_lent = lent-same v (shifted v t.slot list) seen shifted_sound refl

      pub shifts : (number : ℕ) (links : Layout) → number ≡ list → links ≡ moved_back t.slot number a.lists
          → Changes (view_of a.generations a.weights a.records links a.comms a.wear) (shifted v t.slot list) n
      shifts number links number_is links_is =
          changes (λ z. shifted z t.slot list) _ n
          (same_columns _ _ _ _ _ _ _ _ a.comms a.wear refl refl refl (links_is ∙ ap (λ l. moved_back t.slot l a.lists) number_is))
          shifted_sound (counted ∙ sym shifts_lent)

      pub shifts_puts : (w : Slots R) → w ≡ shifted v t.slot list → PutsSlot v w t.slot t.generation (weight_of v t.slot) (record_in v t.slot) list
      shifts_puts w is =
          subst (λ z. PutsSlot v z t.slot t.generation (weight_of v t.slot) (record_in v t.slot) list) (sym is)
          (subst (λ g. PutsSlot v (shifted v t.slot list) t.slot g (weight_of v t.slot) (record_in v t.slot) list) at.generation
          (PutsSlot-shifted v seen t.slot at.low list (list_seen list low)))

      front_sound : IsSound (shifted_front v t.slot list)
      front_sound = IsSound-shifted_front v t.slot list seen at.low at.live live (list_seen list low)

      pub shifts_front_lent : lent (shifted_front v t.slot list) ≡ lent v
      shifts_front_lent = lent-same v (shifted_front v t.slot list) seen front_sound refl

      pub shifts_front : (number : ℕ) (links : Layout) → number ≡ list → links ≡ moved_front t.slot number a.lists
          → Changes (view_of a.generations a.weights a.records links a.comms a.wear) (shifted_front v t.slot list) n
      shifts_front number links number_is links_is =
          changes (λ z. shifted_front z t.slot list) _ n
          (same_columns _ _ _ _ _ _ _ _ a.comms a.wear refl refl refl (links_is ∙ ap (λ l. moved_front t.slot l a.lists) number_is))
          front_sound (counted ∙ sym shifts_front_lent)

      pub shifts_front_puts : (w : Slots R) → w ≡ shifted_front v t.slot list → PutsSlot v w t.slot t.generation (weight_of v t.slot) (record_in v t.slot) list
      shifts_front_puts w is =
          subst (λ z. PutsSlot v z t.slot t.generation (weight_of v t.slot) (record_in v t.slot) list) (sym is)
          (subst (λ g. PutsSlot v (shifted_front v t.slot list) t.slot g (weight_of v t.slot) (record_in v t.slot) list)
          at.generation (PutsSlot-shifted_front v seen t.slot at.low list (list_seen list low)))

      -- another record too
      module _ (rec : R) where
        replaced_sound : IsSound (replaced v t.slot rec list)
        replaced_sound = IsSound-replaced v t.slot rec list seen at.low at.live live (list_seen list low)

        pub replaces_lent : lent (replaced v t.slot rec list) ≡ lent v
        replaces_lent = lent-same v (replaced v t.slot rec list) seen replaced_sound refl

        pub replaces : (number : ℕ) (written : Option R) (links : Layout) → written ≡ Some rec → number ≡ list → links ≡ moved_back t.slot number a.lists →
            Changes (view_of a.generations a.weights (set a.records t.slot written) links a.comms a.wear) (replaced v t.slot rec list) n
        replaces number written links written_is number_is links_is =
            changes (λ z. replaced z t.slot rec list) _ n
            (same_columns _ _ _ _ _ _ _ _ a.comms a.wear refl refl (ap (set a.records t.slot) written_is)
            (links_is ∙ ap (λ l. moved_back t.slot l a.lists) number_is))
            replaced_sound (counted ∙ sym replaces_lent)

        pub replaces_puts : (w : Slots R) → w ≡ replaced v t.slot rec list → PutsSlot v w t.slot t.generation (weight_of v t.slot) (Some rec) list
        replaces_puts w is =
            subst (λ z. PutsSlot v z t.slot t.generation (weight_of v t.slot) (Some rec) list) (sym is)
            (subst (λ g. PutsSlot v (replaced v t.slot rec list) t.slot g (weight_of v t.slot) (Some rec) list) at.generation
            (PutsSlot-replaced v seen t.slot at.low rec list (list_seen list low)))

    -- the request leaves
    pub retires_lent : lent (retired v t.slot) + weight_of v t.slot ≡ lent v
    retires_lent = lent-retired v t.slot seen (IsSound-retired v t.slot seen at.low) at.low

    pub retires_fits : (before : ℕ) → before ≡ get_or a.weights t.slot before → before ≤ n
    retires_fits before is =
        let read : before ≡ weight_of v t.slot = weight_read t.slot before at.low is in
        let most : weight_of v t.slot ≤ n = weight_counted t.slot at.low in
        omega arith

    pub retires : (before number sum : ℕ) (rest : Option R) (links : Layout) → rest ≡ None
        → before ≡ get_or a.weights t.slot before → sum ≡ n - before → number ≡ cond (eqb t.generation a.wear) 1 0 → links ≡ moved_back t.slot number a.lists →
        Changes (view_of a.generations (set a.weights t.slot 0) (set a.records t.slot rest) links a.comms a.wear) (retired v t.slot) sum
    retires before number sum rest links rest_is is sum_is number_is links_is =
        let read : before ≡ weight_of v t.slot = weight_read t.slot before at.low is in
        let kept : n ≡ lent v = counted in
        let all : lent (retired v t.slot) + weight_of v t.slot ≡ lent v = retires_lent in
        let same : t.generation ≡ generation_of a t.slot = sym at.generation ∙ ap (λ z. generation_of z t.slot) (sym e) in
        changes (λ z. retired z t.slot) _ sum
        (same_columns _ _ _ _ _ _ _ _ a.comms a.wear refl refl (ap (set a.records t.slot) rest_is)
        (links_is ∙ ap (λ l. moved_back t.slot l a.lists) (number_is ∙ ap (λ g. cond (eqb g a.wear) 1 0) same)))
        (IsSound-retired v t.slot seen at.low) (omega arith)

    pub retires_puts : (w : Slots R) → w ≡ retired v t.slot → PutsSlot v w t.slot t.generation 0 None (cond (eqb t.generation v.wear) 1 0)
    retires_puts w is =
        subst (λ z. PutsSlot v z t.slot t.generation 0 None (cond (eqb t.generation v.wear) 1 0)) (sym is)
        (subst (λ g. PutsSlot v (retired v t.slot) t.slot g 0 None (cond (eqb g v.wear) 1 0)) at.generation (PutsSlot-retired v seen t.slot at.low))

  -- a record written through a reference
  pub rewrites : (slot : ℕ) (rec : R) → slot < count v → 1 < home v slot
      → Changes (view_of a.generations a.weights (set a.records slot (Some rec)) a.lists a.comms a.wear) (rewritten v slot rec) n
  rewrites slot rec low live =
      let sound : IsSound (rewritten v slot rec) = IsSound-rewritten v slot rec seen low live in
      changes (λ z. rewritten z slot rec) _ n refl sound (counted ∙ sym (lent-same v (rewritten v slot rec) seen sound refl))

  -- a list's first slot
  pub first_low : (list number slot : ℕ) → list < list_count v.comms → number ≡ list
      → Some slot ≡ first_in (sequence a.lists number) → first_in (sequence v.lists list) ≡ Some slot
  first_low list number slot low number_is is = sym (is ∙ ap (λ l. first_in (sequence a.lists l)) number_is ∙ ap (λ z. first_in (sequence z.lists list)) e)

  pub first_count : (list slot : ℕ) → list < list_count v.comms → first_in (sequence v.lists list) ≡ Some slot → slot < count v
  first_count list slot low first = (stands (count v) v.lists seen.lawful slot list (list_seen list low) (first_stands (sequence v.lists list) slot first)).0

  pub firsts : (list slot : ℕ) (t : Ticket) → 2 ≤ list → list < list_count v.comms → first_in (sequence v.lists list) ≡ Some slot
      → t ≡ ticket_of v slot → IsFirst v list t
  firsts list slot t live low first t_is = first_of v seen list slot t live (list_seen list low) first t_is

  pub first_none : (list number : ℕ) → number ≡ list → None ≡ first_in (sequence a.lists number) → sequence v.lists list ≡ []
  first_none list number number_is is =
      none_first (sequence v.lists list) (is ∙ ap (λ l. first_in (sequence a.lists l)) number_is ∙ ap (λ z. first_in (sequence z.lists list)) e)
