-- The messages of one member, as a map's entries.
use Rattle.std.proofs.Common.{◌≡◌, ℕ, ◌<◌, ◌+◌, not, subst, one-add, lt-ltb, le-ltb, inl, inr, true≢false, zero, suc, Bool, true, false, cond, ◌&&◌}
use Rattle.std.proofs.Common.{◌||◌, ◌==◌, List, [], ◌∷◌, ◌++◌, length, get_or, remove, nat_lt, position, refl, sym, ap, ◌∙◌, Option, Some, None}
use Rattle.std.proofs.Common.{is_some, arith, eq-eqb, eqb-true}
use Rattle.std.specs.Map.{keys_of, lookup, remove_entry}
use Rattle.std.specs.List.{list_any, position_or_len, AllByRecursion, IsDistinct}
use Rattle.std.specs.Cmp.{IsEquivalence}
use Rattle.std.proofs.lemmas.Bool.{and_from, and_parts, cases_lt}
use Rattle.std.proofs.lemmas.List.{map-append}
use Rattle.std.proofs.lemmas.List.Quantifiers.{position-Some}
use Rattle.std.proofs.lemmas.Map.{lookup-remove_entry}
use Rattle.std.proofs.lemmas.Map.Keys.{IsDistinct-push}
use Rattle.std.proofs.lemmas.Map.Made.{is_some-lookup}
use Rattle.coll_match.specs.declared.envelope.Envelope.{Envelope}
use Rattle.coll_match.specs.declared.mailbox.Unreceived.{Unreceived}
use Rattle.coll_match.specs.Held.{put_sent, same_envelope, sent_in}
use Rattle.coll_match.specs.Messages.{messages_of}
use Rattle.coll_match.proofs.Puts.{eqb_sym}

pub same_envelopes : IsEquivalence same_envelope
same_envelopes = record {
  refl = λ a. and_from (a.to == a.to) (a.round == a.round) (eq-eqb a.to a.to refl) (eq-eqb a.round a.round refl);
  symm = λ a b z. eqb_sym a.to b.to z && eqb_sym a.round b.round z;
  congr = λ a b c e. let both = and_parts (a.to == b.to) (a.round == b.round) e in
      λ z. (eqb-true a.to b.to both.0 z == c.to) && (eqb-true a.round b.round both.1 z == c.round);
}

suc_lt : (i n : ℕ) → nat_lt (suc i) (suc n) ≡ nat_lt i n
suc_lt i n = elim (cases_lt i n) [
  | inl low ↦ lt-ltb (suc i) (suc n) (omega (arith, low)) ∙ sym (lt-ltb i n low)
  | inr past ↦ le-ltb (suc i) (suc n) (omega (arith, past)) ∙ sym (le-ltb i n past)
]

module _ (w : Envelope) where
  abbrev pub is_it : Unreceived → Bool
  is_it unreceived = same_envelope w unreceived.envelope

  any_of : (b r : Bool) (x : List ℕ) (o : Option (List ℕ)) → r ≡ is_some o → (b || r) ≡ is_some (cond b (Some x) o)
  any_of true r x o e = refl
  any_of false r x o e = e

  -- a message is among the messages exactly where a look-up finds it
  pub list_any-is_it : (xs : List Unreceived) → list_any is_it xs ≡ is_some (lookup (same_envelope w) (messages_of xs))
  list_any-is_it [] = refl
  list_any-is_it (x ∷ xs) = any_of (is_it x) (list_any is_it xs) x.bytes (lookup (same_envelope w) (messages_of xs)) (list_any-is_it xs)

  -- none is it
  pub lookup-none_is_it : (xs : List Unreceived) → list_any is_it xs ≡ false → lookup (same_envelope w) (messages_of xs) ≡ None
  lookup-none_is_it xs none = absent (lookup (same_envelope w) (messages_of xs)) (sym (list_any-is_it xs) ∙ none)
    where
      absent : (o : Option (List ℕ)) → is_some o ≡ false → o ≡ None
      absent None e = refl
      absent (Some x) e = absurd cc

  pub record FoundAt (xs : List Unreceived) (i : ℕ) (d : Unreceived) : Type 0 where
    pub value : lookup (same_envelope w) (messages_of xs) ≡ Some (get_or xs i d).bytes
    pub rest : messages_of (remove xs i) ≡ remove_entry (same_envelope w) (messages_of xs)

  -- the first that is it, and what is left without it
  pub found_at : (xs : List Unreceived) (i : ℕ) (d : Unreceived) → i < length xs → is_it (get_or xs i d) ≡ true
      → ((k : ℕ) → k < i → is_it (get_or xs k d) ≡ false) → FoundAt xs i d
  found_at [] i d low here before = absurd (omega (arith, low))
  found_at (x ∷ xs) zero d low here before = record {
    value = λ z. cond (here z) (Some x.bytes) (lookup (same_envelope w) (messages_of xs));
    rest = sym (ap (λ b. cond b (messages_of xs) ((x.envelope, x.bytes) ∷ remove_entry (same_envelope w) (messages_of xs))) here);
  }
  found_at (x ∷ xs) (suc i) d low here before =
      let later = found_at xs i d (omega (arith, low)) here (λ k lt. before (suc k) (omega (arith, lt))) in
      let away : is_it x ≡ false = before 0 (omega arith) in
      record {
        value = ap (λ b. cond b (Some x.bytes) (lookup (same_envelope w) (messages_of xs))) away ∙ later.value;
        rest = ap (λ es. (x.envelope, x.bytes) ∷ es) later.rest
            ∙ sym (ap (λ b. cond b (messages_of xs) ((x.envelope, x.bytes) ∷ remove_entry (same_envelope w) (messages_of xs))) away);
      }

  -- where the first lies
  place_step : (b r : Bool) (i n : ℕ) → nat_lt i n ≡ r → nat_lt (cond (not b) (1 + i) 0) (suc n) ≡ (b || r)
  place_step true r i n e = lt-ltb 0 (suc n) (omega arith)
  place_step false r i n e = (λ z. nat_lt (one-add i z) (suc n)) ∙ suc_lt i n ∙ e

  nat_lt-place : (xs : List Unreceived) → nat_lt (position_or_len is_it xs) (length xs) ≡ list_any is_it xs
  nat_lt-place [] = refl
  nat_lt-place (x ∷ xs) = place_step (is_it x) (list_any is_it xs) (position_or_len is_it xs) (length xs) (nat_lt-place xs)

  pub none_placed : (xs : List Unreceived) → None ≡ position is_it xs → lookup (same_envelope w) (messages_of xs) ≡ None
  none_placed xs none = lookup-none_is_it xs (sym (nat_lt-place xs) ∙ past (nat_lt (position_or_len is_it xs) (length xs)) (position_or_len is_it xs) none)
    where
      past : (b : Bool) (i : ℕ) → None ≡ cond b (Some i) None → b ≡ false
      past true i e = absurd cc
      past false i e = refl

  pub placed : (xs : List Unreceived) (i : ℕ) (d : Unreceived) → Some i ≡ position is_it xs → FoundAt xs i d
  placed xs i d is =
      let at = position-Some is_it xs i d (sym is) in
      found_at xs i d at.0 at.1 at.2

-- ---- a message more, and one less

step : (qe qw : Bool) (v x : List ℕ) (l m : Option (List ℕ)) → (qw ≡ true → qe ≡ false) → m ≡ cond qw (Some x) l
    → cond qe (Some v) m ≡ cond qw (Some x) (cond qe (Some v) l)
step true true v x l m other ih = absurd (true≢false (other refl))
step true false v x l m other ih = refl
step false qw v x l m other ih = ih

absent_parts : (b : Bool) (v : List ℕ) (o : Option (List ℕ)) → cond b (Some v) o ≡ None → (b ≡ false) × (o ≡ None)
absent_parts true v o e = absurd cc
absent_parts false v o e = (refl, e)

lookup-push : (q w : Envelope) (x : List ℕ) (es : List (Envelope × List ℕ)) → lookup (same_envelope w) es ≡ None
    → lookup (same_envelope q) (es ++ (w, x) ∷ []) ≡ cond (same_envelope q w) (Some x) (lookup (same_envelope q) es)
lookup-push q w x [] absent = refl
lookup-push q w x (e ∷ es) absent =
    let both = absent_parts (same_envelope w e.0) e.1 (lookup (same_envelope w) es) absent in
    step (same_envelope q e.0) (same_envelope q w) e.1 x (lookup (same_envelope q) es) (lookup (same_envelope q) (es ++ (w, x) ∷ []))
    (λ same. same_envelopes.congr q w e.0 same ∙ both.0) (lookup-push q w x es both.1)

abbrev entry_of : Unreceived → Envelope × List ℕ
entry_of unreceived = (unreceived.envelope, unreceived.bytes)

abbrev envelope_of : Envelope × List ℕ → Envelope
envelope_of entry = entry.0

abbrev pub Apart : List Unreceived → Type 0
Apart xs = IsDistinct same_envelope (keys_of (messages_of xs))

pub none_apart : Apart []
unfolding IsDistinct
none_apart = tt

pub pushed_apart : (xs : List Unreceived) (y : Unreceived) → Apart xs → lookup (same_envelope y.envelope) (messages_of xs) ≡ None → Apart (xs ++ y ∷ [])
pushed_apart xs y apart absent = subst (λ es. IsDistinct same_envelope (keys_of es)) (sym (map-append entry_of xs (y ∷ [])))
    (subst (IsDistinct same_envelope) (sym (map-append envelope_of (messages_of xs) ((y.envelope, y.bytes) ∷ [])))
    (IsDistinct-push same_envelopes (keys_of (messages_of xs)) y.envelope apart
    (sym (is_some-lookup (same_envelope y.envelope) (messages_of xs)) ∙ ap is_some absent)))

pub sent_pushed : (xs : List Unreceived) (y : Unreceived) → lookup (same_envelope y.envelope) (messages_of xs) ≡ None
    → sent_in (messages_of (xs ++ y ∷ [])) ≡ put_sent (sent_in (messages_of xs)) y.envelope.to y.envelope.round (Some y.bytes)
sent_pushed xs y absent = λ z b c. (ap (lookup (same_envelope (record { to = b; round = c }))) (map-append entry_of xs (y ∷ []))
    ∙ lookup-push (record { to = b; round = c }) y.envelope y.bytes (messages_of xs) absent) z

all_left : (P : Envelope → Type 0) (test : Envelope → Bool) (es : List (Envelope × List ℕ)) → AllByRecursion P (keys_of es)
    → AllByRecursion P (keys_of (remove_entry test es))
all_left P test [] h = h
all_left P test (e ∷ es) h = by (all_left P test es h.1) (test e.0)
  where
    by : AllByRecursion P (keys_of (remove_entry test es)) → (b : Bool) → AllByRecursion P (keys_of (cond b es (e ∷ remove_entry test es)))
    by rest true = h.1
    by rest false = (h.0, rest)

distinct_left : (test : Envelope → Bool) (es : List (Envelope × List ℕ)) → IsDistinct same_envelope (keys_of es)
    → IsDistinct same_envelope (keys_of (remove_entry test es))
unfolding IsDistinct
distinct_left test [] h = h
distinct_left test (e ∷ es) h = by (distinct_left test es h.1) (test e.0)
  where
    by : IsDistinct same_envelope (keys_of (remove_entry test es)) → (b : Bool) → IsDistinct same_envelope (keys_of (cond b es (e ∷ remove_entry test es)))
    by rest true = h.1
    by rest false = (all_left (λ y. same_envelope e.0 y ≡ false) test es h.0, rest)

pub removed_apart : (w : Envelope) (xs : List Unreceived) (i : ℕ) (d : Unreceived) → Apart xs → FoundAt w xs i d → Apart (remove xs i)
removed_apart w xs i d apart found =
    subst (λ es. IsDistinct same_envelope (keys_of es)) (sym found.rest) (distinct_left (same_envelope w) (messages_of xs) apart)

pub sent_removed : (w : Envelope) (xs : List Unreceived) (i : ℕ) (d : Unreceived) → Apart xs → FoundAt w xs i d
    → sent_in (messages_of (remove xs i)) ≡ put_sent (sent_in (messages_of xs)) w.to w.round None
sent_removed w xs i d apart found = λ z b c. at (record { to = b; round = c }) z
  where
    at : (q : Envelope) → lookup (same_envelope q) (messages_of (remove xs i)) ≡ cond (same_envelope q w) None (lookup (same_envelope q) (messages_of xs))
    at q = ap (lookup (same_envelope q)) found.rest
        ∙ lookup-remove_entry same_envelopes (same_envelope w) (λ x y same. same_envelopes.congr w x y same) q (messages_of xs) apart
        ∙ (λ z. cond (same_envelopes.symm w q z) None (lookup (same_envelope q) (messages_of xs)))

-- nothing to take out
pub sent_same : (w : Envelope) (es : List (Envelope × List ℕ)) → lookup (same_envelope w) es ≡ None → sent_in es ≡ put_sent (sent_in es) w.to w.round None
sent_same w es absent = λ z b c. at (record { to = b; round = c }) z
  where
    by : (b : Bool) (o : Option (List ℕ)) → (b ≡ true → o ≡ None) → o ≡ cond b None o
    by true o none = none refl
    by false o none = refl

    same : (q : Envelope) (es : List (Envelope × List ℕ)) → same_envelope q w ≡ true → lookup (same_envelope q) es ≡ lookup (same_envelope w) es
    same q [] e = refl
    same q (x ∷ es) e = λ z. cond (same_envelopes.congr q w x.0 e z) (Some x.1) (same q es e z)

    at : (q : Envelope) → lookup (same_envelope q) es ≡ cond (same_envelope q w) None (lookup (same_envelope q) es)
    at q = by (same_envelope q w) (lookup (same_envelope q) es) (λ e. same q es e ∙ absent)
