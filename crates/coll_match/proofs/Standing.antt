-- The instances that stand, as a map's entries, and a change of one of them.
use Rattle.std.proofs.Common.{◌≡◌, ◌≢◌, ℕ, ◌<◌, ◌≤◌, Bool, true, false, cond, ◌&&◌, eqb, List, [], ◌∷◌, length, Result, Ok, Err, refl, sym, ap, subst}
use Rattle.std.proofs.Common.{◌∙◌, Option, Some, None, inl, inr, arith}
use Rattle.std.specs.Prelude.{◌==◌, is_some, unwrap_or, IfOk, OnOk, OnErr}
use Rattle.std.specs.Cmp.{IsEquivalence}
use Rattle.std.specs.Map.{lookup, set_value}
use Rattle.std.proofs.lemmas.Bool.{cases_Bool, cases_lt, and_parts, and_from, eqb-true, eq-eqb}
use Rattle.std.proofs.lemmas.Map.{lookup-set_value}
use Rattle.std.proofs.lemmas.Option.{same_Some, slice_get_past}
use Rattle.coll_kinds.specs.Puts.{put}
use Rattle.coll_kinds.proofs.Puts.{put_cases}
use Rattle.coll_machine.specs.declared.key.Key.{Key}
use Rattle.coll_sched.specs.Worlds.{put_mail}
use Rattle.coll_match.specs.Held.{Held, IsOver, contribution_of, slot_of, given_in, mail_in, seat_in}
use Rattle.coll_machine.specs.Changes.{put_in, put_key, same_key}
use Rattle.coll_match.specs.Instances.{IsLast, LookUps, dissolved, left, look_ups, mailed, seated, given, given_of, mail, mail_of, members}
use Rattle.coll_match.specs.Instances.{members_of, seats, seats_of, size, standing}
use Rattle.coll_match.proofs.Puts.{cond_map, eqb_sym, updated}

pub same_at : (a k : Key) → same_key a k ≡ true → a ≡ k
same_at a k e =
    let one = and_parts (eqb a.comm k.comm) _ e in
    let two = and_parts (eqb a.place k.place) (eqb a.start k.start) one.1 in
    λ z. record { comm = eqb-true a.comm k.comm one.0 z; place = eqb-true a.place k.place two.0 z; start = eqb-true a.start k.start two.1 z }

pub same_keys : IsEquivalence same_key
same_keys = record {
  refl = λ a. and_from _ _ (eq-eqb a.comm a.comm refl) (and_from _ _ (eq-eqb a.place a.place refl) (eq-eqb a.start a.start refl));
  symm = λ a b z. eqb_sym a.comm b.comm z && (eqb_sym a.place b.place z && eqb_sym a.start b.start z);
  congr = λ a b c e z. same_key (same_at a b e z) c;
}

pub put_key_own : {X : Type 0} (f : Key → X) (k : Key) (x : X) → x ≡ f k → put_key f k x ≡ f
put_key_own {X} f k x e = λ z a. at a z
  where
    at : (a : Key) → put_key f k x a ≡ f a
    at a = elim (cases_Bool (same_key a k)) [
      | inl same ↦ ap (λ b. cond b x (f a)) same ∙ e ∙ ap f (sym (same_at a k same))
      | inr apart ↦ ap (λ b. cond b x (f a)) apart
    ]

pub put_key_at : {X : Type 0} (f : Key → X) (k : Key) (x : X) → put_key f k x k ≡ x
put_key_at f k x = ap (λ b. cond b x (f k)) (same_keys.refl k)

pub put_key_twice : {X : Type 0} (f : Key → X) (k : Key) (x y : X) → put_key (put_key f k x) k y ≡ put_key f k y
put_key_twice {X} f k x y = λ z a. go (same_key a k) (f a) z
  where
    go : (b : Bool) (w : X) → cond b y (cond b x w) ≡ cond b y w
    go true w = refl
    go false w = refl

-- ---- a change of what stands of one instance, by what each look-up shows

-- u stands as t, with x, or nothing, at one key
abbrev pub Alters : List (Key × Held) → List (Key × Held) → Key → Option Held → Type 0
Alters t u k x = (q : Key) → standing u q ≡ cond (same_key k q) x (standing t q)

changed : (t u : List (Key × Held)) (k : Key) (x : Option Held) → Alters t u k x → standing u ≡ put_key (standing t) k x
changed t u k x change = λ z q. updated same_key same_keys.symm t u k x change q z

module _ (t u v : List (Key × Held)) (e : t ≡ v) (k : Key) (x : Option Held) (alters : Alters t u k x) where
  to : standing u ≡ put_key (standing v) k x
  to = changed t u k x alters ∙ ap (λ t. put_key (standing t) k x) e

  pub lifted : {Y : Type 0} (g : Option Held → Y) → ◌≡◌ {A = Key → Y} (λ a. g (standing u a)) (put_key (λ a. g (standing v a)) k (g x))
  lifted g = (λ z a. g (to z a)) ∙ (λ z a. cond_map g (same_key a k) x (standing v a) z)

  pub kept : {Y : Type 0} (g : Option Held → Y) → g x ≡ g (standing v k) → ◌≡◌ {A = Key → Y} (λ a. g (standing u a)) (λ a. g (standing v a))
  kept g same = lifted g ∙ put_key_own (λ a. g (standing v a)) k (g x) same

-- of one that stands, h, to w
module _ (t : List (Key × Held)) (k : Key) (h w : Held) (was : Some h ≡ standing t k) where
  -- what stands then
  abbrev written : List (Key × Held)
  written = set_value (same_key k) t w

  Alters-written : Alters t written k (Some w)
  Alters-written q = lookup-set_value same_keys (same_key k) (same_keys.congr k) q w t (ap is_some (sym was))

  pub members_kept : length w.shares ≡ length h.shares → members written ≡ members t
  members_kept same = kept t written t refl k (Some w) Alters-written members_of (ap Some same ∙ ap members_of was)

  pub given_kept : given_in w ≡ given_in h → given written ≡ given t
  given_kept same = kept t written t refl k (Some w) Alters-written given_of (same ∙ ap given_of was)

  pub given_put : (member : ℕ) (x : Option (List ℕ)) → given_in w ≡ put (given_in h) member x → given written ≡ put_key (given t) k (put (given t k) member x)
  given_put member x is = lifted t written t refl k (Some w) Alters-written given_of ∙ ap (put_key (given t) k) (is ∙ (λ z. put (given_of (was z)) member x))

  pub seats_kept : seat_in w ≡ seat_in h → seats written ≡ seats t
  seats_kept same = kept t written t refl k (Some w) Alters-written seats_of (same ∙ ap seats_of was)

  pub seats_put : (member : ℕ) (x : Option ℕ) → seat_in w ≡ put (seat_in h) member x → seats written ≡ put_key (seats t) k (put (seats t k) member x)
  seats_put member x is = lifted t written t refl k (Some w) Alters-written seats_of ∙ ap (put_key (seats t) k) (is ∙ (λ z. put (seats_of (was z)) member x))

  pub mail_kept : mail_in w ≡ mail_in h → mail written ≡ mail t
  mail_kept same = kept t written t refl k (Some w) Alters-written mail_of (same ∙ ap mail_of was)

  pub mail_put : (from to round : ℕ) (x : Option (List ℕ)) → mail_in w ≡ put_mail (mail_in h) from to round x
      → mail written ≡ put_key (mail t) k (put_mail (mail t k) from to round x)
  mail_put from to round x is =
      lifted t written t refl k (Some w) Alters-written mail_of ∙ ap (put_key (mail t) k) (is ∙ (λ z. put_mail (mail_of (was z)) from to round x))

  -- it was over with this member's leaving
  pub last : (member : ℕ) (b : Bool) → length w.shares ≡ length h.shares → given_in w ≡ given_in h
      → seat_in w ≡ put (seat_in h) member None → (b ≡ true → IsOver w) × (IsOver w → b ≡ true)
      → (b ≡ true → IsLast t k member) × (IsLast t k member → b ≡ true)
  last member b len gave sat over =
      ((λ is m low. there m (over.0 is m (omega (arith, low, len, size_is)))), (λ is. over.1 (λ m low. back m (is m (omega (arith, low, len, size_is))))))
    where
      size_is : size t k ≡ length h.shares
      size_is = ap (λ o. unwrap_or (members_of o) 0) (sym was)

      gave_is : (m : ℕ) → given t k m ≡ given_in w m
      gave_is m = ap (λ o. given_of o m) (sym was) ∙ ap (λ f. f m) (sym gave)

      sat_is : (m : ℕ) → put (seats t k) member None m ≡ seat_in w m
      sat_is m = ap (λ o. put (seats_of o) member None m) (sym was) ∙ ap (λ f. f m) (sym sat)

      there : (m : ℕ) → (given_in w m ≢ None) × (seat_in w m ≡ None) → (given t k m ≢ None) × (put (seats t k) member None m ≡ None)
      there m h = (λ none. h.0 (sym (gave_is m) ∙ none), sat_is m ∙ h.1)

      back : (m : ℕ) → (given t k m ≢ None) × (put (seats t k) member None m ≡ None) → (given_in w m ≢ None) × (seat_in w m ≡ None)
      back m h = (λ none. h.0 (gave_is m ∙ none), sym (sat_is m) ∙ h.1)

-- ---- a member that has something is one

module _ (t v : List (Key × Held)) (e : t ≡ v) (k : Key) (h : Held) (was : Some h ≡ standing t k) (member : ℕ) where
  pub stands : standing v k ≡ Some h
  stands = ap (λ t. standing t k) (sym e) ∙ sym was

  pub sized : member < size v k → member < length h.shares
  sized low = omega (arith, low, ap (λ o. unwrap_or (members_of o) 0) stands)

  pub gave : given v k member ≢ None → member < length h.shares
  gave some = elim (cases_lt member (length h.shares)) [
    | inl low ↦ low
    | inr past ↦ absurd (some (ap (λ o. given_of o member) stands ∙ ap contribution_of (slice_get_past h.shares member past)))
  ]

  pub sat : seats v k member ≢ None → member < length h.shares
  sat some = elim (cases_lt member (length h.shares)) [
    | inl low ↦ low
    | inr past ↦ absurd (some (ap (λ o. seats_of o member) stands ∙ ap slot_of (slice_get_past h.shares member past)))
  ]

-- ---- an instance that doesn't stand

pub nothing_stands : (t v : List (Key × Held)) (e : t ≡ v) (k : Key) → is_some (standing t k) ≡ false → standing v k ≡ None
nothing_stands t v e k absent = ap (λ t. standing t k) (sym e) ∙ none (standing t k) absent
  where
    none : (o : Option Held) → is_some o ≡ false → o ≡ None
    none None is = refl
    none (Some h) is = absurd cc

pub kept_members : (t v : List (Key × Held)) (e : t ≡ v) (k : Key) (n : ℕ) → is_some (standing t k) ≡ true
    → members v ≡ put_key (members v) k (Some (unwrap_or (members v k) n))
kept_members t v e k n there =
    sym (put_key_own (members v) k (Some (unwrap_or (members v k) n)) (count (standing v k) (ap (λ t. is_some (standing t k)) (sym e) ∙ there)))
  where
    count : (o : Option Held) → is_some o ≡ true → Some (unwrap_or (members_of o) n) ≡ members_of o
    count None is = absurd cc
    count (Some h) is = refl

-- a new one, to which none has given
module _ (t u v : List (Key × Held)) (e : t ≡ v) (k : Key) (w : Held) (absent : is_some (standing t k) ≡ false) (alters : Alters t u k (Some w)) where
  pub members_new : (n : ℕ) → length w.shares ≡ n → members u ≡ put_key (members v) k (Some (unwrap_or (members v k) n))
  members_new n is =
      lifted t u v e k (Some w) alters members_of
      ∙ ap (λ m. put_key (members v) k (Some m)) (is ∙ ap (λ o. unwrap_or (members_of o) n) (sym (nothing_stands t v e k absent)))

  pub given_new : given_in w ≡ (λ m. None) → given u ≡ given v
  given_new is = kept t u v e k (Some w) alters given_of (is ∙ ap given_of (sym (nothing_stands t v e k absent)))

  pub seats_new : seat_in w ≡ (λ m. None) → seats u ≡ seats v
  seats_new is = kept t u v e k (Some w) alters seats_of (is ∙ ap seats_of (sym (nothing_stands t v e k absent)))

  pub mail_new : mail_in w ≡ (λ a b c. None) → mail u ≡ mail v
  mail_new is = kept t u v e k (Some w) alters mail_of (is ∙ ap mail_of (sym (nothing_stands t v e k absent)))

-- taking what isn't there
pub mail_missing : (t v : List (Key × Held)) (e : t ≡ v) (k : Key) (from to round : ℕ) → is_some (standing t k) ≡ false
    → mail v ≡ put_key (mail v) k (put_mail (mail v k) from to round None)
mail_missing t v e k from to round absent =
    sym (put_key_own (mail v) k (put_mail (mail v k) from to round None) (same (standing v k) (nothing_stands t v e k absent)))
  where
    at : (b : Bool) → ◌≡◌ {A = Option (List ℕ)} (cond b None None) None
    at true = refl
    at false = refl

    same : (o : Option Held) → o ≡ None → put_mail (mail_of o) from to round None ≡ mail_of o
    same o is = subst (λ o. put_mail (mail_of o) from to round None ≡ mail_of o) (sym is) (λ z a b c. at ((a == from) && ((b == to) && (c == round))) z)

-- ---- a value written back as it was

pub set_value_own : {K X : Type 0} (test : K → Bool) (es : List (K × X)) (w : X) → Some w ≡ lookup test es → set_value test es w ≡ es
set_value_own test [] w is = refl
set_value_own {K} {X} test (e ∷ es) w is = go (set_value_own test es w) (test e.0) is
  where
    go : (Some w ≡ lookup test es → set_value test es w ≡ es) → (b : Bool) → Some w ≡ cond b (Some e.1) (lookup test es)
        → cond b ((e.0, w) ∷ es) (e ∷ set_value test es w) ≡ e ∷ es
    go rest true same = λ z. (e.0, same_Some w e.1 same z) ∷ es
    go rest false later = ap (λ xs. e ∷ xs) (rest later)

pub if_ok : {T E : Type 0} {P Q : T → Type 0} (r : Result T E) → ((x : T) → P x → Q x) → IfOk r P → IfOk r Q
if_ok (Ok x) f h = f x h
if_ok (Err e) f h = tt

pub on_err : {T E P Q : Type 0} (r : Result T E) → (P → Q) → OnErr r P → OnErr r Q
on_err (Ok x) f h = tt
on_err (Err e) f h = f h

-- ---- the last one leaves

pub nobody_sits : (v : List (Key × Held)) (k : Key) (member : ℕ) → IsLast v k member → (λ m. None) ≡ put (seats v k) member None
nobody_sits v k member last = λ z m. sym (at m) z
  where
    past : (o : Option Held) (m : ℕ) → unwrap_or (members_of o) 0 ≤ m → seats_of o m ≡ None
    past None m le = refl
    past (Some h) m le = ap slot_of (slice_get_past h.shares m le)

    at : (m : ℕ) → put (seats v k) member None m ≡ None
    at m = elim (cases_lt m (size v k)) [
      | inl low ↦ (last m low).1
      | inr over ↦ elim (put_cases (seats v k) member None m) [
        | inl here ↦ here.1
        | inr else_where ↦ else_where.1 ∙ past (standing v k) m over
      ]
    ]

pub left_last : (t : List (Key × Held)) (k : Key) (member : ℕ) → IsLast t k member
    → dissolved (seated (look_ups t) k member None) k ≡ left (look_ups t) k member true
left_last t k member last =
    let none = put_key_twice (seats t) k (put (seats t k) member None) (λ m. None) ∙ ap (put_key (seats t) k) (nobody_sits t k member last) in
    λ z. record { members = put_key (members t) k None; given = put_key (given t) k (λ m. None); seats = none z; mail = put_key (mail t) k (λ a b c. None) }

pub left_other : (s : LookUps) (k : Key) (member : ℕ) → seated s k member None ≡ left s k member false
left_other s k member = λ z. record {
  members = sym (put_key_own s.members k (s.members k) refl) z;
  given = sym (put_key_own s.given k (s.given k) refl) z;
  seats = put_in s.seats k member None;
  mail = sym (put_key_own s.mail k (s.mail k) refl) z;
}

-- ---- a message more, and one less

module _ (t : List (Key × Held)) (k : Key) (h w : Held) (was : Some h ≡ standing t k) (from to round : ℕ) (x : Option (List ℕ)) where
  pub mail_changed : length w.shares ≡ length h.shares → given_in w ≡ given_in h → seat_in w ≡ seat_in h → mail_in w ≡ put_mail (mail_in h) from to round x
      → look_ups (written t k h w was) ≡ mailed (look_ups t) k from to round x
  mail_changed a b c d = λ z. record {
    members = members_kept t k h w was a z;
    given = given_kept t k h w was b z;
    seats = seats_kept t k h w was c z;
    mail = mail_put t k h w was from to round x d z;
  }

pub put_kept : {T E : Type 0} (r : Result T E) (t : List (Key × Held)) (k : Key) (h w : Held) (was : Some h ≡ standing t k)
    (from to round : ℕ) (x : Option (List ℕ))
    → OnOk r (length w.shares ≡ length h.shares) → OnOk r (given_in w ≡ given_in h) → OnOk r (seat_in w ≡ seat_in h)
    → OnOk r (mail_in w ≡ put_mail (mail_in h) from to round x)
    → OnOk r (look_ups (written t k h w was) ≡ mailed (look_ups t) k from to round x)
put_kept (Ok y) t k h w was from to round x a b c d = mail_changed t k h w was from to round x a b c d
put_kept (Err e) t k h w was from to round x a b c d = tt
