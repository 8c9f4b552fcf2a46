-- Changes of one slot of an arena: how they compose, and what the tables show of them.
use Rattle.std.proofs.Common.{◌≡◌, ℕ, ◌+◌, ◌*◌, ◌==◌, ◌<◌, ◌≢◌, eqb, cond, Bool, true, false, not, Option, Some, refl, sym, ap, subst, ◌∙◌, eq-eqb}
use Rattle.std.proofs.Common.{ne_eqb, arith}
use Rattle.std.proofs.lemmas.Bool.{false≢true}
use Rattle.std.specs.Prelude.{option_map}
use Rattle.coll_kinds.specs.Puts.{put}
use Rattle.coll_kinds.proofs.Puts.{put_same, put_other, put_put}
use Rattle.coll_arena.specs.Changes.{rewritten}
use Rattle.coll_arena.specs.Lookups.{PutsSlot}
use Rattle.coll_arena.specs.Slots.{Slots, count, generation_of, home, record_in, weight_of}
use Rattle.coll_arena.specs.Sound as arena
use Rattle.coll_arena.proofs.Lookups.{PutsSlot-rewritten}
use Rattle.coll_queues.specs.Postings.{Postings, groups_of}
use Rattle.coll_machine.specs.declared.key.Key.{Key}
use Rattle.coll_match.specs.Instances.{members}
use Rattle.coll_machine.specs.Settings.{Setting, size}
use Rattle.coll_refinement.specs.Requests.{Live}
use Rattle.coll_refinement.specs.Tables.{Mail}
use Rattle.coll_refinement.specs.Sound.{IsSound, Stands, ready, running, idle, queued, done}
use Rattle.coll_refinement.specs.Shown.{Instances, listed, seen, tables, weight_by}
use Rattle.coll_refinement.specs.Cores.{IsCore, IsSet}
use Rattle.coll_refinement.specs.OneSlots.{OneSlot}
use Rattle.coll_refinement.proofs.tables.LiveRequests.{map_put, put_self}

-- ---- of an arena's calls

module _ {R : Type 0} where
  pub one_slot : (a b : Slots R) (i gen w l : ℕ) (o : Option R) → PutsSlot a b i gen w o l → OneSlot a b i gen w o l
  one_slot a b i gen w l o p = record {
    count_is = p.count_is;
    comms_is = p.comms_is;
    wear_is = p.wear_is;
    generations = p.generations;
    weights = p.weights;
    records = p.records;
    homes = p.homes;
  }

  -- another record, written through a borrow
  pub one_written : (a : Slots R) → arena.IsSound a → (i : ℕ) → i < count a → (x : R)
      → OneSlot a (rewritten a i x) i (generation_of a i) (weight_of a i) (Some x) (home a i)
  one_written a s i low x = one_slot a (rewritten a i x) i (generation_of a i) (weight_of a i) (home a i) (Some x) (PutsSlot-rewritten a s i low x)

  module _ (a b : Slots R) (i gen w l : ℕ) (o : Option R) (h : OneSlot a b i gen w o l) where
    pub record_here : record_in b i ≡ o
    record_here = ap (λ (f : ℕ → Option R). f i) h.records ∙ put_same (record_in a) i o

    pub home_here : home b i ≡ l
    home_here = ap (λ (f : ℕ → ℕ). f i) h.homes ∙ put_same (home a) i l

    pub weight_here : weight_of b i ≡ w
    weight_here = ap (λ (f : ℕ → ℕ). f i) h.weights ∙ put_same (weight_of a) i w

    pub generation_here : generation_of b i ≡ gen
    generation_here = ap (λ (f : ℕ → ℕ). f i) h.generations ∙ put_same (generation_of a) i gen

    pub home_away : (j : ℕ) → j ≢ i → home b j ≡ home a j
    home_away j d = ap (λ (f : ℕ → ℕ). f j) h.homes ∙ put_other (home a) i l j d

    -- one change after the other
    pub one_then : (c : Slots R) (gen2 w2 l2 : ℕ) (o2 : Option R) → OneSlot b c i gen2 w2 o2 l2 → OneSlot a c i gen2 w2 o2 l2
    one_then c gen2 w2 l2 o2 k = record {
      count_is = k.count_is ∙ h.count_is;
      comms_is = k.comms_is ∙ h.comms_is;
      wear_is = k.wear_is ∙ h.wear_is;
      generations = k.generations ∙ (ap (λ (f : ℕ → ℕ). put f i gen2) h.generations ∙ put_put (generation_of a) i gen gen2);
      weights = k.weights ∙ (ap (λ (f : ℕ → ℕ). put f i w2) h.weights ∙ put_put (weight_of a) i w w2);
      records = k.records ∙ (ap (λ (f : ℕ → Option R). put f i o2) h.records ∙ put_put (record_in a) i o o2);
      homes = k.homes ∙ (ap (λ (f : ℕ → ℕ). put f i l2) h.homes ∙ put_put (home a) i l l2);
    }

    pub then_reweighed : (c : Slots R) (gen2 w2 : ℕ) → PutsSlot b c i gen2 w2 (record_in b i) (home b i) → OneSlot a c i gen2 w2 o l
    then_reweighed c gen2 w2 p =
        subst (λ l. OneSlot a c i gen2 w2 o l) home_here
        (subst (λ (o : Option R). OneSlot a c i gen2 w2 o (home b i)) record_here
        (one_then c gen2 w2 (home b i) (record_in b i) (one_slot b c i gen2 w2 (home b i) (record_in b i) p)))

    pub then_shifted : (c : Slots R) (gen2 l2 : ℕ) → PutsSlot b c i gen2 (weight_of b i) (record_in b i) l2 → OneSlot a c i gen2 w o l2
    then_shifted c gen2 l2 p =
        subst (λ w. OneSlot a c i gen2 w o l2) weight_here
        (subst (λ (o : Option R). OneSlot a c i gen2 (weight_of b i) o l2) record_here
        (one_then c gen2 (weight_of b i) l2 (record_in b i) (one_slot b c i gen2 (weight_of b i) l2 (record_in b i) p)))

  -- a move alone
  pub one_shifted : (a b : Slots R) (i gen l : ℕ) (x : R) → record_in a i ≡ Some x
      → PutsSlot a b i gen (weight_of a i) (record_in a i) l → OneSlot a b i gen (weight_of a i) (Some x) l
  one_shifted a b i gen l x e p = subst (λ (o : Option R). OneSlot a b i gen (weight_of a i) o l) e (one_slot a b i gen (weight_of a i) l (record_in a i) p)

-- ---- what a list tells of a request

pub listed_active : (l : ℕ) (q : Live) → l ≢ 4 + 3 * q.comm → q.active ≡ true → listed l q ≡ q
listed_active l q d t =
    λ z. record {
      rank = q.rank;
      comm = q.comm;
      members = q.members;
      member = q.member;
      place = q.place;
      sig = q.sig;
      starts =
          q.starts;
      active = e z;
      round = q.round;
      index = q.index;
      buf = q.buf;
    }
  where
    e : not (l == 4 + 3 * q.comm) ≡ q.active
    e = ap not (ne_eqb l (4 + 3 * q.comm) d) ∙ sym t

pub listed_idle : (c : ℕ) → not (4 + 3 * c == 4 + 3 * c) ≡ false
listed_idle c = ap not (eq-eqb (4 + 3 * c) (4 + 3 * c) refl)

-- an active request that stands on a list is as it is shown
pub not_idle : (n l : ℕ) (mail : Mail) (q : Live) → Stands n mail l q → q.active ≡ true → l ≢ 4 + 3 * q.comm
not_idle n l mail q (ready a t e nx d) u x = omega arith
not_idle n l mail q (running op ty a b into t e nx) u x = omega arith
not_idle n l mail q (queued of into t e nx none) u x = omega arith
not_idle n l mail q (done t e r) u x = omega arith
not_idle n l mail q (idle f e p) u x = absurd (false≢true (sym f ∙ u))

pub listed_stands : (n l : ℕ) (mail : Mail) (q : Live) → Stands n mail l q → q.active ≡ true → listed l q ≡ q
listed_stands n l mail q st t = listed_active l q (not_idle n l mail q st t) t

-- ---- the tables

module _ {R : Type 0} (shown : R → Live) (g : Setting) (a b : Slots R) (i gen w l : ℕ) (o : Option R) (h : OneSlot a b i gen w o l) where
  pub shown_requests : (λ j. seen (home b j) (option_map shown (record_in b j)))
      ≡ put (λ j. seen (home a j) (option_map shown (record_in a j))) i (seen l (option_map shown o))
  shown_requests = (λ z j. seen (h.homes z j) (option_map shown (h.records z j))) ∙ (λ z j. here j (eqb j i) z)
    where
      here : (j : ℕ) (t : Bool)
          → seen (cond t l (home a j)) (option_map shown (cond t o (record_in a j)))
          ≡ cond t (seen l (option_map shown o)) (seen (home a j) (option_map shown (record_in a j)))
      here j true = refl
      here j false = refl

  pub set_of : (q r : Postings) → IsSet g a q → groups_of r ≡ groups_of q → r.places ≡ q.places → IsSet g b r
  set_of q r set groups places = record {
    slots_is = set.slots_is ∙ sym h.count_is;
    wear_is = set.wear_is ∙ sym h.wear_is;
    comms_is = set.comms_is ∙ sym h.comms_is;
    groups_is = set.groups_is ∙ sym groups;
    places_is = set.places_is ∙ sym places;
    groups = set.groups;
  }

  pub weights_of : weight_of a ≡ (λ j. weight_by (seen (home a j) (option_map shown (record_in a j))))
      → w ≡ weight_by (seen l (option_map shown o)) → weight_of b ≡ (λ j. weight_by (seen (home b j) (option_map shown (record_in b j))))
  weights_of weights heavy = h.weights
      ∙ ((λ z. put (weights z) i (heavy z))
      ∙ (sym (map_put weight_by (λ j. seen (home a j) (option_map shown (record_in a j))) i (seen l (option_map shown o)))
      ∙ (λ z j. weight_by (sym shown_requests z j))))

  -- the engine's condition, from the tables' and what the slot weighs
  pub core_of : (q r : Postings) (m n : Instances) → IsCore shown g a q m → groups_of r ≡ groups_of q → r.places ≡ q.places
      → ((k : Key) (x : ℕ) → members n k ≡ Some x → x ≡ size g k.comm)
      → w ≡ weight_by (seen l (option_map shown o)) → IsSound (tables shown g b r n) → IsCore shown g b r n
  core_of q r m n c groups places sizes heavy sound =
      record { set = set_of q r c.set groups places; sound = sound; sizes = sizes; weights = weights_of c.weights heavy }

  -- a move shows the same requests
  pub shown_same : seen (home a i) (option_map shown (record_in a i)) ≡ seen l (option_map shown o)
      → ◌≡◌ {A = ℕ → Option Live} (λ j. seen (home b j) (option_map shown (record_in b j))) (λ j. seen (home a j) (option_map shown (record_in a j)))
  shown_same e = shown_requests ∙ put_self (λ j. seen (home a j) (option_map shown (record_in a j))) i (seen l (option_map shown o)) e
