-- The posting lists of one communicator, as fronts of one list of signatures.
use Rattle.std.proofs.Common.{◌≡◌, replicate, ℕ, zero, suc, ◌+◌, ◌<◌, ◌≤◌, ◌⊎◌, inl, inr, ltb, true, false, List, [], ◌∷◌, ◌++◌, length, map, take}
use Rattle.std.proofs.Common.{get_or, set, refl, sym, ap, subst, ◌∙◌, Option, Some, None, take_all, arith}
use Rattle.std.specs.Prelude.{slice_get, unwrap_or, option_map}
use Rattle.std.specs.List.{position, position_or_len}
use Rattle.std.proofs.lemmas.Bool.{cases_lt, cases_eq, lt-ltb, le-ltb}
use Rattle.std.proofs.lemmas.List.{get_or-set_same, get_or-set_other, length-append, length-set, length-replicate, length-take-le, take_more}
use Rattle.std.proofs.lemmas.List.{take-append-le, get_or_append_left, get_or_past}
use Rattle.std.proofs.lemmas.List.Sums.{position_or_len_is}
use Rattle.std.proofs.lemmas.Option.{slice_get-get_or, slice_get_past, slice_get_cases, slice_get_within, get_or_from_slice_get, none-some}
use Rattle.std.specs.Option.{ForSome, IsSome}
use Rattle.std.proofs.Math.Seq.{get_or-append_seam}
use Rattle.coll_kinds.specs.declared.signature.Signature.{Signature}
use Rattle.coll_kinds.specs.Puts.{put}
use Rattle.coll_kinds.proofs.Puts.{put_at, put_cases, put_other}
use Rattle.coll_queues.specs.Fronts.{AreFronts, lists_of}
use Rattle.coll_machine.specs.Refusals.{first_there}
use Rattle.coll_queues.specs.Lists.{posts_in, signed_in}
use Rattle.coll_queues.specs.Sound.{IsAgreed}

-- ---- fronts of a list

slice_get-take : {X : Type 0} (n : ℕ) (xs : List X) (p : ℕ) → p < n → slice_get (take n xs) p ≡ slice_get xs p
slice_get-take zero xs p lt = absurd (omega (arith, lt))
slice_get-take (suc n) [] p lt = refl
slice_get-take (suc n) (x ∷ xs) zero lt = refl
slice_get-take (suc n) (x ∷ xs) (suc p) lt = slice_get-take n xs p (omega (arith, lt))

slice_get-take_past : {X : Type 0} (n : ℕ) (xs : List X) (p : ℕ) → n ≤ p → slice_get (take n xs) p ≡ None
slice_get-take_past zero xs p le = refl
slice_get-take_past (suc n) [] p le = refl
slice_get-take_past (suc n) (x ∷ xs) zero le = absurd (omega (arith, le))
slice_get-take_past (suc n) (x ∷ xs) (suc p) le = slice_get-take_past n xs p (omega (arith, le))

take_nil : {X : Type 0} (n : ℕ) → take n (let xs : List X = [] in xs) ≡ []
take_nil zero = refl
take_nil (suc n) = refl

posts_front : (sigs : List Signature) (lengths : List ℕ) (member : ℕ)
    → unwrap_or (slice_get (map (λ n. take n sigs) lengths) member) [] ≡ take (get_or lengths member 0) sigs
posts_front sigs [] member = refl
posts_front sigs (n ∷ lengths) zero = refl
posts_front sigs (n ∷ lengths) (suc member) = posts_front sigs lengths member

-- ---- the first list that has a place

-- it stands k members after the first
first_there-at : (f : ℕ → List Signature) (place from n k : ℕ) (s : Signature) → k < n → slice_get (f (from + k)) place ≡ Some s
    → ((j : ℕ) → j < k → slice_get (f (from + j)) place ≡ None)
    → first_there f place from n ≡ Some (from + k, s)
first_there-at f place from zero k s lt at before = absurd (omega (arith, lt))
first_there-at f place from (suc n) zero s lt at before =
    let here : from + 0 ≡ from = omega arith in
    rw (ap (λ m. slice_get (f m) place) (sym here) ∙ at) (ap (λ m. Some (m, s)) (sym here))
first_there-at f place from (suc n) (suc k) s lt at before =
    let here : from + 0 ≡ from = omega arith in
    let next : from + suc k ≡ from + 1 + k = omega arith in
    let rest = first_there-at f place (from + 1) n k s (omega (arith, lt)) (ap (λ m. slice_get (f m) place) (sym next) ∙ at)
    (λ j low. ap (λ m. slice_get (f m) place) (omega arith) ∙ before (suc j) (omega (arith, low))) in
    rw (ap (λ m. slice_get (f m) place) (sym here) ∙ before 0 (omega arith)) (rest ∙ ap (λ m. Some (m, s)) (sym next))

first_there-none : (f : ℕ → List Signature) (place from n : ℕ) → ((j : ℕ) → slice_get (f j) place ≡ None) → first_there f place from n ≡ None
first_there-none f place from zero none = refl
first_there-none f place from (suc n) none = rw (none from) (first_there-none f place (from + 1) n none)

-- of a member with that place there is a first
record First (lengths : List ℕ) (place : ℕ) : Type 0 where
  pub index : ℕ
  pub within : index < length lengths
  pub has : place < get_or lengths index 0
  pub before : (j : ℕ) → j < index → get_or lengths j 0 ≤ place

first_later : (n : ℕ) (lengths : List ℕ) (place : ℕ) → n ≤ place → First lengths place → First (n ∷ lengths) place
first_later n lengths place le first = record { index = suc first.index; within = omega (arith, first.within); has = first.has; before = before }
  where
    before : (j : ℕ) → j < suc first.index → get_or (n ∷ lengths) j 0 ≤ place
    before zero low = le
    before (suc j) low = first.before j (omega (arith, low))

first_over : (lengths : List ℕ) (place member : ℕ) → place < get_or lengths member 0 → First lengths place
first_over [] place member lt = absurd (omega (arith, lt))
first_over (n ∷ lengths) place zero lt = record { index = 0; within = omega arith; has = lt; before = λ j low. absurd (omega (arith, low)) }
first_over (n ∷ lengths) place (suc member) lt = elim (cases_lt place n) [
  | inl has ↦ record { index = 0; within = omega arith; has = has; before = λ j low. absurd (omega (arith, low)) }
  | inr le ↦ first_later n lengths place le (first_over lengths place member lt)
]

-- ---- what the lists show

module _ (group : List ℕ) (sigs : List Signature) (lengths : List ℕ) (room : ℕ) (s : AreFronts group sigs lengths) where
  -- a place that has a signature: the first member that has it
  pub record Stands (place : ℕ) (sig : Signature) : Type 0 where
    pub member : ℕ
    pub in_group : member < length group
    pub beyond : position (λ n. ltb place n) lengths ≡ Some member
    pub first : first_there (posts_in (lists_of group sigs lengths room)) place 0 (length group) ≡ Some (member, sig)

  pub stands : (place : ℕ) (sig : Signature) → slice_get sigs place ≡ Some sig → Stands place sig
  stands place sig at =
      let owner = s.posted place (slice_get_within sigs place sig at) in
      let first = first_over lengths place owner.0 owner.1 in
      let low : first.index < length group = omega (arith, first.within, s.all) in
      let found : position_or_len (λ n. ltb place n) lengths ≡ first.index =
      position_or_len_is (λ n. ltb place n) lengths first.index 0 (omega (arith, first.within))
      (λ j before. le-ltb place _ (first.before j before)) (λ _. lt-ltb place _ first.has) in
      record {
        member = first.index;
        in_group = low;
        beyond = rw (found, lt-ltb first.index (length lengths) first.within) refl;
        first = first_there-at (posts_in (lists_of group sigs lengths room)) place 0 (length group) first.index sig low
            (ap (λ xs. slice_get xs place) (posts_front sigs lengths (0 + first.index) ∙ ap (λ m. take (get_or lengths m 0) sigs) (omega arith))
            ∙ slice_get-take _ sigs place first.has ∙ at)
            (λ j before. ap (λ xs. slice_get xs place) (posts_front sigs lengths (0 + j) ∙ ap (λ m. take (get_or lengths m 0) sigs) (omega arith))
            ∙ slice_get-take_past _ sigs place (first.before j before))
            ∙ ap (λ m. Some (m, sig)) (omega arith);
      }

  pub none_stands : (place : ℕ) → length sigs ≤ place → first_there (posts_in (lists_of group sigs lengths room)) place 0 (length group) ≡ None
  none_stands place past =
      first_there-none _ place 0 (length group)
      (λ j. ap (λ xs. slice_get xs place) (posts_front sigs lengths j) ∙ slice_get-take_past _ sigs place (omega (arith, s.within j, past)))

  pub signed_front : (place : ℕ) → signed_in (lists_of group sigs lengths room) place ≡ slice_get sigs place
  signed_front place = elim ((slice_get_cases sigs place).1) [
    | inl at ↦ ap (option_map (λ first. first.1)) (stands place at.0 at.2).first ∙ sym at.2
    | inr past ↦ ap (option_map (λ first. first.1)) (none_stands place past.0) ∙ sym past.1
  ]

  pub stood : (place : ℕ) → IsSome (signed_in (lists_of group sigs lengths room) place) → (sig : Signature) × Stands place sig
  stood place some = elim ((slice_get_cases sigs place).1) [
    | inl at ↦ (at.0, stands place at.0 at.2)
    | inr past ↦ let none : signed_in (lists_of group sigs lengths room) place ≡ None =
        signed_front place ∙ past.1 in let h : false ≡ true = subst (λ (o : Option Signature). IsSome o) none some in absurd cc
  ]

  -- a member's next place
  pub next_front : (member : ℕ) → length (posts_in (lists_of group sigs lengths room) member) ≡ get_or lengths member 0
  next_front member = ap length (posts_front sigs lengths member) ∙ length-take-le (get_or lengths member 0) sigs (s.within member)

  -- what is asked of a posting at a place that has a signature already
  pub stands_already : (member place : ℕ) (sig : Signature)
      → ForSome (signed_in (lists_of group sigs lengths room) (length (posts_in (lists_of group sigs lengths room) member))) (λ known. known ≡ sig)
      → place ≡ get_or lengths member 0 → place < length sigs → slice_get sigs place ≡ Some sig
  stands_already member place sig agrees e low =
      let read : slice_get sigs place ≡ Some (get_or sigs place sig) = slice_get-get_or sigs place sig low in
      let known : signed_in (lists_of group sigs lengths room) (length (posts_in (lists_of group sigs lengths room) member)) ≡ Some (get_or sigs place sig) =
      ap (λ p. signed_in (lists_of group sigs lengths room) p) (next_front member ∙ sym e) ∙ (signed_front place ∙ read) in
      read ∙ ap Some (agrees (get_or sigs place sig) known)

  pub agreed : IsAgreed (lists_of group sigs lengths room)
  agreed = record {
    few = s.few;
    outside = λ member past. posts_front sigs lengths member ∙ ap (λ n. take n sigs) (get_or_past lengths member 0 (omega (arith, past, s.all)));
    signed = λ member place sig at. signed_front place ∙ shared member place sig (ap (λ xs. slice_get xs place) (sym (posts_front sigs lengths member)) ∙ at);
  }
    where
      shared : (member place : ℕ) (sig : Signature) → slice_get (take (get_or lengths member 0) sigs) place ≡ Some sig → slice_get sigs place ≡ Some sig
      shared member place sig at = elim (cases_lt place (get_or lengths member 0)) [
        | inl low ↦ sym (slice_get-take _ sigs place low) ∙ at
        | inr past ↦ absurd (none-some sig (sym (slice_get-take_past _ sigs place past) ∙ at))
      ]

-- ---- a posting

-- more has sig at the place, and else what sigs has: either it stands there already, or it is pushed
pub record Extends (sigs more : List Signature) (place : ℕ) (sig : Signature) : Type 0 where
  pub below : (n : ℕ) → n ≤ length sigs → take n more ≡ take n sigs
  pub at : take (place + 1) more ≡ take place sigs ++ sig ∷ []
  pub long : length sigs ≤ length more
  pub within : place < length more
  pub only : (p : ℕ) → p < length more → (p < length sigs) ⊎ (p ≡ place)
  pub signed : (p : ℕ) → slice_get more p ≡ put (slice_get sigs) place (Some sig) p

pub slice_get-push : {X : Type 0} (xs : List X) (x : X) (p : ℕ) → slice_get (xs ++ x ∷ []) p ≡ put (slice_get xs) (length xs) (Some x) p
slice_get-push xs x p = elim (cases_lt p (length xs)) [
  | inl low ↦ slice_get-get_or (xs ++ x ∷ []) p x (omega (arith, length-append xs (x ∷ []), low))
      ∙ ap Some (get_or_append_left xs (x ∷ []) x p low) ∙ sym (slice_get-get_or xs p x low)
      ∙ sym (put_other (slice_get xs) (length xs) (Some x) p (λ e. absurd (omega (arith, e, low))))
  | inr past ↦ elim (cases_eq p (length xs)) [
    | inl e ↦ slice_get-get_or (xs ++ x ∷ []) p x (omega (arith, length-append xs (x ∷ []), e))
        ∙ ap (λ i. Some (get_or (xs ++ x ∷ []) i x)) e ∙ ap Some (get_or-append_seam xs x [] x) ∙ sym (put_at (slice_get xs) (length xs) (Some x) p e)
    | inr d ↦ slice_get_past (xs ++ x ∷ []) p (omega (arith, length-append xs (x ∷ []), d, past))
        ∙ sym (slice_get_past xs p past) ∙ sym (put_other (slice_get xs) (length xs) (Some x) p d)
  ]
]

pub extends_push : (sigs : List Signature) (place : ℕ) (sig : Signature) → place ≡ length sigs → Extends sigs (sigs ++ sig ∷ []) place sig
extends_push sigs place sig e =
    let len : length (sigs ++ sig ∷ []) ≡ length sigs + 1 = length-append sigs (sig ∷ []) in
    record {
      below = λ n le. take-append-le n sigs (sig ∷ []) le;
      at = take_all (place + 1) (sigs ++ sig ∷ []) (omega (arith, e, len)) ∙ ap (λ xs. xs ++ sig ∷ []) (sym (take_all place sigs (omega (arith, e))));
      long = omega (arith, len);
      within = omega (arith, e, len);
      only = λ p low. elim (cases_lt p (length sigs)) [
        | inl old ↦ inl old
        | inr past ↦ inr (omega (arith, e, len, low, past))
      ];
      signed = λ p. slice_get-push sigs sig p ∙ ap (λ k. put (slice_get sigs) k (Some sig) p) (sym e);
    }

pub extends_same : (sigs : List Signature) (place : ℕ) (sig : Signature) → slice_get sigs place ≡ Some sig → Extends sigs sigs place sig
extends_same sigs place sig stands =
    let low : place < length sigs = slice_get_within sigs place sig stands in
    record {
      below = λ n le. refl;
      at = take_more sigs place sig low ∙ ap (λ s. take place sigs ++ s ∷ []) (get_or_from_slice_get sigs place sig sig stands);
      long = omega arith;
      within = low;
      only = λ p at. inl at;
      signed = λ p. elim (put_cases (slice_get sigs) place (Some sig) p) [
        | inl here ↦ ap (slice_get sigs) here.0 ∙ stands ∙ sym here.1
        | inr else_where ↦ sym else_where.1
      ];
    }

module _ (group : List ℕ) (sigs more : List Signature) (lengths longer : List ℕ) (member place : ℕ) (sig : Signature)
    (s : AreFronts group sigs lengths) (low : member < length group)
    (place_is : place ≡ get_or lengths member 0) (longer_is : longer ≡ set lengths member (place + 1)) (x : Extends sigs more place sig) where
  own : get_or longer member 0 ≡ place + 1
  own = ap (λ ns. get_or ns member 0) longer_is ∙ get_or-set_same lengths member (place + 1) 0 (omega (arith, low, s.all))

  other : (m : ℕ) → (m ≡ member → ⊥) → get_or longer m 0 ≡ get_or lengths m 0
  other m d = ap (λ ns. get_or ns m 0) longer_is ∙ get_or-set_other lengths member m (place + 1) 0 d

  pub fronts_pushed : AreFronts group more longer
  fronts_pushed = record {
    few = s.few;
    all = ap length longer_is ∙ length-set lengths member (place + 1) ∙ s.all;
    within = λ m. elim (cases_eq m member) [
      | inl e ↦ omega (arith, ap (λ k. get_or longer k 0) e, own, x.within)
      | inr d ↦ omega (arith, other m d, s.within m, x.long)
    ];
    posted = λ p at. elim (x.only p at) [
      | inl old ↦ still p (s.posted p old)
      | inr e ↦ (member, omega (arith, e, own))
    ];
  }
    where
      still : (p : ℕ) → (m : ℕ) × (p < get_or lengths m 0) → (m : ℕ) × (p < get_or longer m 0)
      still p (m, has) = elim (cases_eq m member) [
        | inl e ↦ (member, omega (arith, ap (λ k. get_or lengths k 0) e, place_is, own, has))
        | inr d ↦ (m, omega (arith, other m d, has))
      ]

  pub posts_pushed : (room bigger : ℕ)
      → posts_in (lists_of group more longer bigger)
      ≡ put (posts_in (lists_of group sigs lengths room)) member (posts_in (lists_of group sigs lengths room) member ++ sig ∷ [])
  posts_pushed room bigger = λ z m. at m z
    where
      old : ℕ → List Signature
      old = posts_in (lists_of group sigs lengths room)

      at : (m : ℕ) → posts_in (lists_of group more longer bigger) m ≡ put old member (old member ++ sig ∷ []) m
      at m = posts_front more longer m ∙ elim (put_cases old member (old member ++ sig ∷ []) m) [
        | inl here ↦ ap (λ n. take n more) (ap (λ k. get_or longer k 0) here.0 ∙ own) ∙ x.at
            ∙ ap (λ n. take n sigs ++ sig ∷ []) place_is ∙ ap (λ xs. xs ++ sig ∷ []) (sym (posts_front sigs lengths member)) ∙ sym here.1
        | inr else_where ↦ ap (λ n. take n more) (other m else_where.0) ∙ x.below _ (s.within m) ∙ sym (posts_front sigs lengths m) ∙ sym else_where.1
      ]

  -- the signatures by place
  pub signed_pushed : (room bigger : ℕ) → signed_in (lists_of group more longer bigger) ≡ put (signed_in (lists_of group sigs lengths room)) place (Some sig)
  signed_pushed room bigger = λ z p. at p z
    where
      at : (p : ℕ) → signed_in (lists_of group more longer bigger) p ≡ put (signed_in (lists_of group sigs lengths room)) place (Some sig) p
      at p = signed_front group more longer bigger fronts_pushed p ∙ x.signed p
          ∙ ap (λ f. put f place (Some sig) p) (λ z q. sym (signed_front group sigs lengths room s q) z)

-- nobody has posted
pub no_posts : (group : List ℕ) (sigs : List Signature) (lengths : List ℕ) (room : ℕ) → sigs ≡ [] → posts_in (lists_of group sigs lengths room) ≡ (λ m. [])
no_posts group sigs lengths room none = λ z m. (posts_front sigs lengths m ∙ ap (take (get_or lengths m 0)) none ∙ take_nil (get_or lengths m 0)) z

zeros_are : (n m : ℕ) → get_or (replicate n (let none : ℕ = 0 in none)) m 0 ≡ 0
zeros_are zero m = refl
zeros_are (suc n) zero = refl
zeros_are (suc n) (suc m) = zeros_are n m

pub fronts_none : (group : List ℕ) (sigs : List Signature) (lengths : List ℕ) (n : ℕ) → length group ≤ 64 → sigs ≡ []
    → lengths ≡ replicate n 0 → n ≡ length group → AreFronts group sigs lengths
fronts_none group sigs lengths n few none zeros count = record {
  few = few;
  all = ap length zeros ∙ length-replicate n 0 ∙ count;
  within = λ m. omega (arith, ap (λ ns. get_or ns m 0) zeros, zeros_are n m);
  posted = λ place low. absurd (omega (arith, low, ap length none));
}
