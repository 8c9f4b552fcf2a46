-- what a member has done of a round, counted, before and after a step
use Rattle.std.proofs.Common.{◌≡◌, ℕ, zero, suc, ◌+◌, ◌<◌, ◌≤◌, ◌≢◌, ◌⊎◌, inl, inr, ◌&&◌, eqb, ltb, List, [], ◌∷◌, take, length, slice_get, Option}
use Rattle.std.proofs.Common.{Some, None, refl, sym, ap, subst, ◌∙◌, arith, eq-eqb, ne_eqb, lt-ltb, le-ltb}
use Rattle.std.proofs.lemmas.Option.{none-some, same_Some}
use Rattle.std.proofs.lemmas.List.{take_all}
use Rattle.std.proofs.lemmas.Bool.{cases_eq, cases_lt, cond-true, cond-false, and_from, and_left, and_right}
use Rattle.std.specs.List.{AllByRecursion}
use Rattle.coll_sched.specs.declared.region.Region.{Region}
use Rattle.coll_sched.specs.declared.action.Action.{Action}
use Rattle.coll_sched.specs.declared.action.Action.TheVariants.{Send, Copy, Combine, Recv}
use Rattle.coll_sched.specs.Common.{Follows, EachFollows, IsLocal, Family, actions_at, laid_in, IsRecvOf, Receives, Progress, World, put_mail, acted}
use Rattle.coll_sched.specs.Common.{turned, joined, IsNext, outs, ins, total, done_by, done_at, standing}
use Rattle.coll_kinds.specs.Puts.{put}
use Rattle.coll_sched.specs.Worlds.{left}
use Rattle.coll_sched.specs.Tracks.{Balanced}
use Rattle.coll_sched.proofs.Rounds.{before_at, actions_past, take_nil}

pub put_same : {X : Type 0} (f : ℕ → X) (k : ℕ) (v : X) → put f k v k ≡ v
put_same f k v = cond-true (eqb k k) v (f k) (eq-eqb k k refl)

pub put_other : {X : Type 0} (f : ℕ → X) (k : ℕ) (v : X) (i : ℕ) → i ≢ k → put f k v i ≡ f i
put_other f k v i h = cond-false (eqb i k) v (f i) (ne_eqb i k h)

pub put_cases : {X : Type 0} (f : ℕ → X) (k : ℕ) (v : X) (i : ℕ) (x : X) → put f k v i ≡ x → ((i ≡ k) × (v ≡ x)) ⊎ ((i ≢ k) × (f i ≡ x))
put_cases f k v i x h = go (cases_eq i k)
  where
    go : (i ≡ k) ⊎ (i ≡ k → ⊥) → ((i ≡ k) × (v ≡ x)) ⊎ ((i ≢ k) × (f i ≡ x))
    go (inl e) = inl (e, sym (cond-true (eqb i k) v (f i) (eq-eqb i k e)) ∙ h)
    go (inr d) = inr (d, sym (put_other f k v i d) ∙ h)

abbrev pub Mail : Type 0
Mail = ℕ → ℕ → ℕ → Option (List ℕ)

-- the key is that of the message, or another
pub put_mail_cases : (m : Mail) (q r j : ℕ) (v : Option (List ℕ)) (a b c : ℕ)
    → ((a ≡ q) × (b ≡ r) × (c ≡ j) × (put_mail m q r j v a b c ≡ v)) ⊎ (((a ≡ q) × (b ≡ r) × (c ≡ j) → ⊥) × (put_mail m q r j v a b c ≡ m a b c))
put_mail_cases m q r j v a b c = go (cases_eq a q) (cases_eq b r) (cases_eq c j)
  where
    go : (a ≡ q) ⊎ (a ≡ q → ⊥) → (b ≡ r) ⊎ (b ≡ r → ⊥) → (c ≡ j) ⊎ (c ≡ j → ⊥)
        → ((a ≡ q) × (b ≡ r) × (c ≡ j) × (put_mail m q r j v a b c ≡ v)) ⊎ (((a ≡ q) × (b ≡ r) × (c ≡ j) → ⊥) × (put_mail m q r j v a b c ≡ m a b c))
    go (inl x) (inl y) (inl z) =
        inl (
          x,
          y,
          z,
          cond-true _ v (m a b c) (and_from (eqb a q) (eqb b r && eqb c j) (eq-eqb a q x)
              (and_from (eqb b r) (eqb c j) (eq-eqb b r y) (eq-eqb c j z))),
        )
    go (inr x) y z = inr (λ t. x t.0, cond-false _ v (m a b c) (and_left (eqb a q) (eqb b r && eqb c j) (ne_eqb a q x)))
    go (inl x) (inr y) z = inr (λ t. y t.1, cond-false _ v (m a b c) (and_right (eqb a q) (eqb b r && eqb c j) (and_left (eqb b r) (eqb c j) (ne_eqb b r y))))
    go (inl x) (inl y) (inr z) =
        inr (λ t. z t.2, cond-false _ v (m a b c) (and_right (eqb a q) (eqb b r && eqb c j) (and_right (eqb b r) (eqb c j) (ne_eqb c j z))))

pub total_next : (weight : Action → ℕ) (xs : List Action) (i : ℕ) (a : Action) → slice_get xs i ≡ Some a
    → total weight (take (suc i) xs) ≡ total weight (take i xs) + weight a
total_next weight [] i a e = absurd (none-some a e)
total_next weight (x ∷ xs) zero a e = let h : weight x ≡ weight a = ap weight (same_Some x a e) in omega arith
total_next weight (x ∷ xs) (suc i) a e = let h : total weight (take (suc i) xs) ≡ total weight (take i xs) + weight a =
    total_next weight xs i a e in omega arith

-- no earlier Send of the round goes to the same member, no earlier Recv is of the same
outs_before : (r : ℕ) (g : Region) (b : Action) → Follows b (Send r g) → outs r b ≡ 0
outs_before r g (Send to from) h = cond-false (eqb to r) 1 0 (ne_eqb to r h.other_peer)
outs_before r g (Copy from into) h = refl
outs_before r g (Combine op ty x y into) h = refl
outs_before r g (Recv of into) h = refl

pub ins_before : (q : ℕ) (g : Region) (b : Action) → Follows b (Recv q g) → ins q b ≡ 0
ins_before q g (Send to from) h = refl
ins_before q g (Copy from into) h = refl
ins_before q g (Combine op ty x y into) h = refl
ins_before q g (Recv of into) h = cond-false (eqb of q) 1 0 (ne_eqb of q h.other_peer)

-- weights of 0 add up to 0
pub total_zero : (weight : Action → ℕ) (P : Action → Type 0) → ((b : Action) → P b → weight b ≡ 0) → (xs : List Action)
    → AllByRecursion P xs → total weight xs ≡ 0
total_zero weight P none [] h = refl
total_zero weight P none (x ∷ xs) h = let e : weight x ≡ 0 = none x h.0 in let k : total weight xs ≡ 0 = total_zero weight P none xs h.1 in omega arith

pub no_send_before : (xs : List Action) (i r : ℕ) (g : Region) → EachFollows xs → slice_get xs i ≡ Some (Send r g) → total (outs r) (take i xs) ≡ 0
no_send_before xs i r g h e = total_zero (outs r) (λ b. Follows b (Send r g)) (outs_before r g) (take i xs) (before_at xs i (Send r g) h e)

pub receives_next : (xs : List Action) (i : ℕ) (a : Action) (q : ℕ) → slice_get xs i ≡ Some a → Receives (take (suc i) xs) q
    → Receives (take i xs) q ⊎ IsRecvOf a q
receives_next [] i a q e h = absurd (none-some a e)
receives_next (x ∷ xs) zero a q e (inl h) = inr (subst (λ (y : Action). IsRecvOf y q) (same_Some x a e) h)
receives_next (x ∷ xs) zero a q e (inr h) = absurd h
receives_next (x ∷ xs) (suc i) a q e (inl h) = inl (inl h)
receives_next (x ∷ xs) (suc i) a q e (inr h) = ⊎_map (receives_next xs i a q e h)
  where
    ⊎_map : Receives (take i xs) q ⊎ IsRecvOf a q → Receives (take (suc i) (x ∷ xs)) q ⊎ IsRecvOf a q
    ⊎_map (inl t) = inl (inr t)
    ⊎_map (inr t) = inr t

-- where a number stands against another
data Place (j t : ℕ) : Type 0 where
  less : j < t → Place j t
  same : j ≡ t → Place j t
  more : t < j → Place j t

place : (j t : ℕ) → Place j t
place j t = go (cases_lt j t) (cases_eq j t)
  where
    go : (j < t) ⊎ (t ≤ j) → (j ≡ t) ⊎ (j ≡ t → ⊥) → Place j t
    go (inl h) e = less h
    go (inr h) (inl e) = same e
    go (inr h) (inr e) = more (omega arith)

pub done_less : (p : Progress) (g : Option (List ℕ)) (j : ℕ) (xs : List Action) → j < p.round → done_by (Some p) g j xs ≡ xs
done_less p g j xs h = cond-true (ltb j p.round) xs _ (lt-ltb j p.round h)

pub done_same : (p : Progress) (g : Option (List ℕ)) (j : ℕ) (xs : List Action) → j ≡ p.round → done_by (Some p) g j xs ≡ take p.index xs
done_same p g j xs h = cond-false (ltb j p.round) xs _ (le-ltb j p.round (omega arith)) ∙ cond-true (eqb j p.round) (take p.index xs) [] (eq-eqb j p.round h)

pub done_more : (p : Progress) (g : Option (List ℕ)) (j : ℕ) (xs : List Action) → p.round < j → done_by (Some p) g j xs ≡ []
done_more p g j xs h =
    cond-false (ltb j p.round) xs _ (le-ltb j p.round (omega arith)) ∙ cond-false (eqb j p.round) (take p.index xs) [] (ne_eqb j p.round (omega arith))

-- a step that does no action leaves what is done
done_start : (g : Option (List ℕ)) (buf : List ℕ) (j : ℕ) (xs : List Action) → done_by (Some (record { round = 0; index = 0; buf = buf })) g j xs ≡ []
done_start g buf j xs = go (place j 0)
  where
    go : Place j 0 → done_by (Some (record { round = 0; index = 0; buf = buf })) g j xs ≡ []
    go (less h) = absurd (omega arith)
    go (same h) = done_same (record { round = 0; index = 0; buf = buf }) g j xs h
    go (more h) = done_more (record { round = 0; index = 0; buf = buf }) g j xs h

done_turn : (f : Family) (r : ℕ) (p : Progress) (g : Option (List ℕ)) (buf : List ℕ) (j : ℕ)
    → p.index ≡ length (actions_at f p.round r)
    → done_by (Some (record { round = suc p.round; index = 0; buf = buf })) g j (actions_at f j r) ≡ done_by (Some p) g j (actions_at f j r)
done_turn f r p g buf j e = go (place j p.round)
  where
    next : Progress
    next = record { round = suc p.round; index = 0; buf = buf }

    all : j ≡ p.round → take p.index (actions_at f j r) ≡ actions_at f j r
    all h = take_all p.index (actions_at f j r) (omega (arith, ap (λ k. length (actions_at f k r)) h))

    after : p.round < j → done_by (Some (record { round = suc p.round; index = 0; buf = buf })) g j (actions_at f j r) ≡ []
    after h = late (cases_eq j (suc p.round))
      where
        late : (j ≡ suc p.round) ⊎ (j ≡ suc p.round → ⊥) → done_by (Some (record { round = suc p.round; index = 0; buf = buf })) g j (actions_at f j r) ≡ []
        late (inl k) = done_same (record { round = suc p.round; index = 0; buf = buf }) g j (actions_at f j r) k
        late (inr k) = done_more (record { round = suc p.round; index = 0; buf = buf }) g j (actions_at f j r) (omega arith)

    go : Place j p.round → done_by (Some (record { round = suc p.round; index = 0; buf = buf })) g j (actions_at f j r)
        ≡ done_by (Some p) g j (actions_at f j r)
    go (less h) =
        done_less (record { round = suc p.round; index = 0; buf = buf }) g j (actions_at f j r) (omega arith) ∙ sym (done_less p g j (actions_at f j r) h)
    go (same h) =
        done_less (record { round = suc p.round; index = 0; buf = buf }) g j (actions_at f j r) (omega arith)
        ∙ (sym (all h) ∙ sym (done_same p g j (actions_at f j r) h))
    go (more h) = after h ∙ sym (done_more p g j (actions_at f j r) h)

done_leave : (f : Family) (r : ℕ) (p : Progress) (bytes : List ℕ) (j : ℕ) → p.round ≡ length (f r).rounds
    → done_by None (Some bytes) j (actions_at f j r) ≡ done_by (Some p) (Some bytes) j (actions_at f j r)
done_leave f r p bytes j e = go (place j p.round)
  where
    go : Place j p.round → actions_at f j r ≡ done_by (Some p) (Some bytes) j (actions_at f j r)
    go (less h) = sym (done_less p (Some bytes) j (actions_at f j r) h)
    go (same h) =
        actions_past f j r (omega arith)
        ∙ (sym (ap (take p.index) (actions_past f j r (omega arith)) ∙ take_nil p.index) ∙ sym (done_same p (Some bytes) j (actions_at f j r) h))
    go (more h) = actions_past f j r (omega arith) ∙ sym (done_more p (Some bytes) j (actions_at f j r) h)

pub both : (s r j t : ℕ) → ((s ≡ r) × (j ≡ t)) ⊎ ((s ≡ r) × (j ≡ t) → ⊥)
both s r j t = go (cases_eq s r) (cases_eq j t)
  where
    go : (s ≡ r) ⊎ (s ≡ r → ⊥) → (j ≡ t) ⊎ (j ≡ t → ⊥) → ((s ≡ r) × (j ≡ t)) ⊎ ((s ≡ r) × (j ≡ t) → ⊥)
    go (inl x) (inl y) = inl (x, y)
    go (inr x) y = inr (λ h. x h.0)
    go (inl x) (inr y) = inr (λ h. y h.1)

pub at_key : (P : ℕ → ℕ → ℕ → Type 0) (a b c q r j : ℕ) → a ≡ q → b ≡ r → c ≡ j → P q r j → P a b c
at_key P a b c q r j x y z h = subst (λ k. P k b c) (sym x) (subst (λ k. P q k c) (sym y) (subst (λ k. P q r k) (sym z) h))

pub put_mail_same : (m : Mail) (q r j : ℕ) (v : Option (List ℕ)) → put_mail m q r j v q r j ≡ v
put_mail_same m q r j v =
    cond-true _ v (m q r j) (and_from (eqb q q) (eqb r r && eqb j j) (eq-eqb q q refl) (and_from (eqb r r) (eqb j j) (eq-eqb r r refl) (eq-eqb j j refl)))

-- another progress of member r, by which as much is done
done_put : (f : Family) (w : World) (r : ℕ) (o : Option Progress)
    → ((j : ℕ) → done_by o (w.given r) j (actions_at f j r) ≡ done_by (w.progress r) (w.given r) j (actions_at f j r))
    → (j s : ℕ) → done_by (put w.progress r o s) (w.given s) j (actions_at f j s) ≡ done_by (w.progress s) (w.given s) j (actions_at f j s)
done_put f w r o h j s = go (cases_eq s r)
  where
    go : (s ≡ r) ⊎ (s ≡ r → ⊥) → done_by (put w.progress r o s) (w.given s) j (actions_at f j s) ≡ done_by (w.progress s) (w.given s) j (actions_at f j s)
    go (inl e) = subst (λ k. done_by (put w.progress r o k) (w.given k) j (actions_at f j k) ≡ done_by (w.progress k) (w.given k) j (actions_at f j k)) (sym e)
        (ap (λ x. done_by x (w.given r) j (actions_at f j r)) (put_same w.progress r o) ∙ h j)
    go (inr d) = ap (λ x. done_by x (w.given s) j (actions_at f j s)) (put_other w.progress r o s d)

pub balanced_same : (f : Family) (w v : World) → ((q r j : ℕ) → v.mail q r j ≡ w.mail q r j)
    → ((j s : ℕ) → done_at f v j s ≡ done_at f w j s) → Balanced f w → Balanced f v
balanced_same f w v m d b q r j =
    let e1 : standing (v.mail q r j) ≡ standing (w.mail q r j) = ap standing (m q r j) in
    let e2 : total (ins q) (done_at f v j r) ≡ total (ins q) (done_at f w j r) = ap (total (ins q)) (d j r) in
    let e3 : total (outs r) (done_at f v j q) ≡ total (outs r) (done_at f w j q) = ap (total (outs r)) (d j q) in
    let e4 : standing (w.mail q r j) + total (ins q) (done_at f w j r) ≡ total (outs r) (done_at f w j q) = b q r j in
    omega arith

pub balanced_turn : (f : Family) (w : World) (r : ℕ) (p : Progress) → w.progress r ≡ Some p
    → p.index ≡ length (actions_at f p.round r) → Balanced f w → Balanced f (turned w r p)
balanced_turn f w r p e i b = balanced_same f w (turned w r p) (λ q s j. refl)
    (done_put f w r (Some (record { round = suc p.round; index = 0; buf = p.buf }))
    (λ j. done_turn f r p (w.given r) p.buf j i ∙ ap (λ x. done_by x (w.given r) j (actions_at f j r)) (sym e))) b

pub balanced_leave : (f : Family) (w : World) (r : ℕ) (p : Progress) → w.progress r ≡ Some p → w.given r ≢ None
    → p.round ≡ length (f r).rounds → Balanced f w → Balanced f (left w r)
balanced_leave f w r p e has i b = balanced_same f w (left w r) (λ q s j. refl)
    (done_put f w r None (λ j. go j (w.given r) has ∙ ap (λ x. done_by x (w.given r) j (actions_at f j r)) (sym e))) b
  where
    go : (j : ℕ) (g : Option (List ℕ)) → g ≢ None → done_by None g j (actions_at f j r) ≡ done_by (Some p) g j (actions_at f j r)
    go j None h = absurd (h refl)
    go j (Some bytes) h = done_leave f r p bytes j i

pub balanced_join : (f : Family) (w : World) (r : ℕ) (bytes : List ℕ) → w.progress r ≡ None → w.given r ≡ None → Balanced f w → Balanced f (joined f w r bytes)
balanced_join f w r bytes e g b = balanced_same f w (joined f w r bytes) (λ q s j. refl) (λ j s. go j s (cases_eq s r)) b
  where
    go : (j s : ℕ) → (s ≡ r) ⊎ (s ≡ r → ⊥) → done_at f (joined f w r bytes) j s ≡ done_at f w j s
    go j s (inl k) =
        ap (λ o. done_by o (put w.given r (Some bytes) s) j (actions_at f j s))
        (ap (put w.progress r (Some (record { round = 0; index = 0; buf = laid_in (f r) bytes }))) k
        ∙ put_same w.progress r (Some (record { round = 0; index = 0; buf = laid_in (f r) bytes })))
        ∙ (done_start (put w.given r (Some bytes) s) (laid_in (f r) bytes) j (actions_at f j s)
        ∙ sym (ap (λ o. done_by o (w.given s) j (actions_at f j s)) (ap w.progress k ∙ e) ∙ ap (λ o. done_by None o j (actions_at f j s)) (ap w.given k ∙ g)))
    go j s (inr d) =
        ap (λ o. done_by o (put w.given r (Some bytes) s) j (actions_at f j s))
        (put_other w.progress r (Some (record { round = 0; index = 0; buf = laid_in (f r) bytes })) s d)
        ∙ ap (λ o. done_by (w.progress s) o j (actions_at f j s)) (put_other w.given r (Some bytes) s d)

-- a step that does one action
module _ (f : Family) (w : World) (r : ℕ) (p : Progress) (a : Action) (next : IsNext f w r p a) (buf : List ℕ) (mail : Mail) where
  acted_elsewhere : (j s : ℕ) → ((s ≡ r) × (j ≡ p.round) → ⊥) → done_at f (acted w r p buf mail) j s ≡ done_at f w j s
  acted_elsewhere j s out = go (cases_eq s r)
    where
      new : Option Progress
      new = Some (record { round = p.round; index = suc p.index; buf = buf })

      other : j ≢ p.round → done_by (Some (record { round = p.round; index = suc p.index; buf = buf })) (w.given s) j
          (actions_at f j s) ≡ done_by (Some p) (w.given s) j (actions_at f j s)
      other d = far (place j p.round)
        where
          far : Place j p.round → done_by (Some (record { round = p.round; index = suc p.index; buf = buf })) (w.given s) j
              (actions_at f j s) ≡ done_by (Some p) (w.given s) j (actions_at f j s)
          far (less h) =
              done_less (record { round = p.round; index = suc p.index; buf = buf }) (w.given s) j (actions_at f j s) h
              ∙ sym (done_less p (w.given s) j (actions_at f j s) h)
          far (same h) = absurd (d h)
          far (more h) =
              done_more (record { round = p.round; index = suc p.index; buf = buf }) (w.given s) j (actions_at f j s) h
              ∙ sym (done_more p (w.given s) j (actions_at f j s) h)

      go : (s ≡ r) ⊎ (s ≡ r → ⊥) → done_at f (acted w r p buf mail) j s ≡ done_at f w j s
      go (inl e) =
          ap (λ o. done_by o (w.given s) j (actions_at f j s))
          (ap (put w.progress r (Some (record { round = p.round; index = suc p.index; buf = buf }))) e ∙ put_same w.progress r _)
          ∙ (other (λ k. out (e, k)) ∙ ap (λ o. done_by o (w.given s) j (actions_at f j s)) (sym (ap w.progress e ∙ next.0)))
      go (inr d) = ap (λ o. done_by o (w.given s) j (actions_at f j s)) (put_other w.progress r _ s d)

  done_now : done_at f w p.round r ≡ take p.index (actions_at f p.round r)
  done_now = ap (λ o. done_by o (w.given r) p.round (actions_at f p.round r)) next.0 ∙ done_same p (w.given r) p.round (actions_at f p.round r) refl

  acted_here : (weight : Action → ℕ) → total weight (done_at f (acted w r p buf mail) p.round r) ≡ total weight (done_at f w p.round r) + weight a
  acted_here weight =
      let e1 : done_at f (acted w r p buf mail) p.round r ≡ take (suc p.index) (actions_at f p.round r) =
      ap (λ o. done_by o (w.given r) p.round (actions_at f p.round r))
      (put_same w.progress r (Some (record { round = p.round; index = suc p.index; buf = buf })))
      ∙ done_same (record { round = p.round; index = suc p.index; buf = buf }) (w.given r) p.round (actions_at f p.round r) refl in
      ap (total weight) e1 ∙ (total_next weight (actions_at f p.round r) p.index a next.1 ∙ ap (λ xs. total weight xs + weight a) (sym done_now))

  -- an action that doesn't count
  acted_none : (weight : Action → ℕ) → weight a ≡ 0 → (j s : ℕ) → total weight (done_at f (acted w r p buf mail) j s) ≡ total weight (done_at f w j s)
  acted_none weight e j s = go (both s r j p.round)
    where
      here : total weight (done_at f (acted w r p buf mail) p.round r) ≡ total weight (done_at f w p.round r)
      here = let h : total weight (done_at f (acted w r p buf mail) p.round r) ≡ total weight (done_at f w p.round r) + weight a =
          acted_here weight in omega arith

      go : ((s ≡ r) × (j ≡ p.round)) ⊎ ((s ≡ r) × (j ≡ p.round) → ⊥) → total weight (done_at f (acted w r p buf mail) j s) ≡ total weight (done_at f w j s)
      go (inl k) = at_key (λ s j x. total weight (done_at f (acted w r p buf mail) j s) ≡ total weight (done_at f w j s)) s j 0 r p.round 0 k.0 k.1 refl here
      go (inr k) = ap (total weight) (acted_elsewhere j s k)

  pub balanced_compute : IsLocal a → ((q s j : ℕ) → mail q s j ≡ w.mail q s j) → Balanced f w → Balanced f (acted w r p buf mail)
  balanced_compute l m b q s j =
      let e1 : standing (mail q s j) ≡ standing (w.mail q s j) = ap standing (m q s j) in
      let e2 : total (ins q) (done_at f (acted w r p buf mail) j s) ≡ total (ins q) (done_at f w j s) = acted_none (ins q) (no_ins a l) j s in
      let e3 : total (outs s) (done_at f (acted w r p buf mail) j q) ≡ total (outs s) (done_at f w j q) = acted_none (outs s) (no_outs a l) j q in
      let e4 : standing (w.mail q s j) + total (ins q) (done_at f w j s) ≡ total (outs s) (done_at f w j q) = b q s j in
      omega arith
    where
      no_ins : (a : Action) → IsLocal a → ins q a ≡ 0
      no_ins (Send to from) h = absurd h
      no_ins (Copy from into) h = refl
      no_ins (Combine op ty x y into) h = refl
      no_ins (Recv of into) h = absurd h

      no_outs : (a : Action) → IsLocal a → outs s a ≡ 0
      no_outs (Send to from) h = absurd h
      no_outs (Copy from into) h = refl
      no_outs (Combine op ty x y into) h = refl
      no_outs (Recv of into) h = absurd h

-- before a Send no message stands under its key
pub none_in_transit : (f : Family) (w : World) (r : ℕ) (p : Progress) (to : ℕ) (from : Region)
    → EachFollows (actions_at f p.round r) → IsNext f w r p (Send to from) → Balanced f w → standing (w.mail r to p.round) ≡ 0
none_in_transit f w r p to from follows next b =
    let e1 : total (outs to) (done_at f w p.round r) ≡ total (outs to) (take p.index (actions_at f p.round r)) =
    ap (total (outs to)) (done_now f w r p (Send to from) next p.buf w.mail) in
    let e2 : total (outs to) (take p.index (actions_at f p.round r)) ≡ 0 = no_send_before (actions_at f p.round r) p.index to from follows next.1 in
    let e3 : standing (w.mail r to p.round) + total (ins r) (done_at f w p.round to) ≡ total (outs to) (done_at f w p.round r) = b r to p.round in
    omega arith

pub balanced_send : (f : Family) (w : World) (r : ℕ) (p : Progress) (to : ℕ) (from : Region) (bytes : List ℕ)
    → EachFollows (actions_at f p.round r) → IsNext f w r p (Send to from) → Balanced f w
    → Balanced f (acted w r p p.buf (put_mail w.mail r to p.round (Some bytes)))
balanced_send f w r p to from bytes follows next b q s j = go (put_mail_cases w.mail r to p.round (Some bytes) q s j)
  where
    mail : Mail
    mail = put_mail w.mail r to p.round (Some bytes)

    v : World
    v = acted w r p p.buf (put_mail w.mail r to p.round (Some bytes))

    no_in : (c k t : ℕ) → total (ins c) (done_at f v t k) ≡ total (ins c) (done_at f w t k)
    no_in c k t = acted_none f w r p (Send to from) next p.buf (put_mail w.mail r to p.round (Some bytes)) (ins c) refl t k

    here : standing (put_mail w.mail r to p.round (Some bytes) r to p.round) + total (ins r) (done_at f v p.round to) ≡ total (outs to) (done_at f v p.round r)
    here =
        let e1 : standing (put_mail w.mail r to p.round (Some bytes) r to p.round) ≡ 1 = ap standing (put_mail_same w.mail r to p.round (Some bytes)) in
        let e2 : total (ins r) (done_at f v p.round to) ≡ total (ins r) (done_at f w p.round to) = no_in r to p.round in
        let e3 : total (outs to) (done_at f v p.round r) ≡ total (outs to) (done_at f w p.round r) + outs to (Send to from) =
        acted_here f w r p (Send to from) next p.buf (put_mail w.mail r to p.round (Some bytes)) (outs to) in
        let e4 : outs to (Send to from) ≡ 1 = cond-true (eqb to to) 1 0 (eq-eqb to to refl) in
        let e5 : standing (w.mail r to p.round) ≡ 0 = none_in_transit f w r p to from follows next b in
        let e6 : standing (w.mail r to p.round) + total (ins r) (done_at f w p.round to) ≡ total (outs to) (done_at f w p.round r) = b r to p.round in
        omega arith

    same_outs : ((q ≡ r) × (s ≡ to) × (j ≡ p.round) → ⊥) → ((q ≡ r) × (j ≡ p.round)) ⊎ ((q ≡ r) × (j ≡ p.round) → ⊥)
        → total (outs s) (done_at f v j q) ≡ total (outs s) (done_at f w j q)
    same_outs out (inl k) =
        acted_none f w r p (Send to from) next p.buf (put_mail w.mail r to p.round (Some bytes)) (outs s)
        (cond-false (eqb to s) 1 0 (ne_eqb to s (λ e. out (k.0, sym e, k.1)))) j q
    same_outs out (inr k) = ap (total (outs s)) (acted_elsewhere f w r p (Send to from) next p.buf (put_mail w.mail r to p.round (Some bytes)) j q k)

    go : ((q ≡ r) × (s ≡ to) × (j ≡ p.round) × (put_mail w.mail r to p.round (Some bytes) q s j ≡ Some bytes))
        ⊎ (((q ≡ r) × (s ≡ to) × (j ≡ p.round) → ⊥) × (put_mail w.mail r to p.round (Some bytes) q s j ≡ w.mail q s j))
        → standing (put_mail w.mail r to p.round (Some bytes) q s j) + total (ins q) (done_at f v j s) ≡ total (outs s) (done_at f v j q)
    go (inl k) =
        at_key (λ q s j. standing (put_mail w.mail r to p.round (Some bytes) q s j) + total (ins q) (done_at f v j s) ≡ total (outs s) (done_at f v j q))
        q s j r to p.round k.0 k.1 k.2 here
    go (inr k) =
        let e1 : standing (put_mail w.mail r to p.round (Some bytes) q s j) ≡ standing (w.mail q s j) = ap standing k.1 in
        let e2 : total (ins q) (done_at f v j s) ≡ total (ins q) (done_at f w j s) = no_in q s j in
        let e3 : total (outs s) (done_at f v j q) ≡ total (outs s) (done_at f w j q) = same_outs k.0 (both q r j p.round) in
        let e6 : standing (w.mail q s j) + total (ins q) (done_at f w j s) ≡ total (outs s) (done_at f w j q) = b q s j in
        omega arith

pub balanced_receive : (f : Family) (w : World) (r : ℕ) (p : Progress) (of : ℕ) (into : Region) (bytes buf : List ℕ)
    → IsNext f w r p (Recv of into) → w.mail of r p.round ≡ Some bytes → Balanced f w → Balanced f (acted w r p buf (put_mail w.mail of r p.round None))
balanced_receive f w r p of into bytes buf next stands b q s j = go (put_mail_cases w.mail of r p.round None q s j)
  where
    v : World
    v = acted w r p buf (put_mail w.mail of r p.round None)

    no_out : (c k t : ℕ) → total (outs c) (done_at f v t k) ≡ total (outs c) (done_at f w t k)
    no_out c k t = acted_none f w r p (Recv of into) next buf (put_mail w.mail of r p.round None) (outs c) refl t k

    here : standing (put_mail w.mail of r p.round None of r p.round) + total (ins of) (done_at f v p.round r) ≡ total (outs r) (done_at f v p.round of)
    here =
        let e1 : standing (put_mail w.mail of r p.round None of r p.round) ≡ 0 = ap standing (put_mail_same w.mail of r p.round None) in
        let e2 : total (outs r) (done_at f v p.round of) ≡ total (outs r) (done_at f w p.round of) = no_out r of p.round in
        let e3 : total (ins of) (done_at f v p.round r) ≡ total (ins of) (done_at f w p.round r) + ins of (Recv of into) =
        acted_here f w r p (Recv of into) next buf (put_mail w.mail of r p.round None) (ins of) in
        let e4 : ins of (Recv of into) ≡ 1 = cond-true (eqb of of) 1 0 (eq-eqb of of refl) in
        let e5 : standing (w.mail of r p.round) ≡ 1 = ap standing stands in
        let e6 : standing (w.mail of r p.round) + total (ins of) (done_at f w p.round r) ≡ total (outs r) (done_at f w p.round of) = b of r p.round in
        omega arith

    same_ins : ((q ≡ of) × (s ≡ r) × (j ≡ p.round) → ⊥) → ((s ≡ r) × (j ≡ p.round)) ⊎ ((s ≡ r) × (j ≡ p.round) → ⊥)
        → total (ins q) (done_at f v j s) ≡ total (ins q) (done_at f w j s)
    same_ins out (inl k) =
        acted_none f w r p (Recv of into) next buf (put_mail w.mail of r p.round None) (ins q)
        (cond-false (eqb of q) 1 0 (ne_eqb of q (λ e. out (sym e, k.0, k.1)))) j s
    same_ins out (inr k) = ap (total (ins q)) (acted_elsewhere f w r p (Recv of into) next buf (put_mail w.mail of r p.round None) j s k)

    go : ((q ≡ of) × (s ≡ r) × (j ≡ p.round) × (put_mail w.mail of r p.round None q s j ≡ None))
        ⊎ (((q ≡ of) × (s ≡ r) × (j ≡ p.round) → ⊥) × (put_mail w.mail of r p.round None q s j ≡ w.mail q s j))
        → standing (put_mail w.mail of r p.round None q s j) + total (ins q) (done_at f v j s) ≡ total (outs s) (done_at f v j q)
    go (inl k) =
        at_key (λ q s j. standing (put_mail w.mail of r p.round None q s j) + total (ins q) (done_at f v j s) ≡ total (outs s) (done_at f v j q))
        q s j of r p.round k.0 k.1 k.2 here
    go (inr k) =
        let e1 : standing (put_mail w.mail of r p.round None q s j) ≡ standing (w.mail q s j) = ap standing k.1 in
        let e2 : total (outs s) (done_at f v j q) ≡ total (outs s) (done_at f w j q) = no_out s q j in
        let e3 : total (ins q) (done_at f v j s) ≡ total (ins q) (done_at f w j s) = same_ins k.0 (both s r j p.round) in
        let e6 : standing (w.mail q s j) + total (ins q) (done_at f w j s) ≡ total (outs s) (done_at f w j q) = b q s j in
        omega arith

-- a round sends once to a member
pub later_outs : (to r : ℕ) (g : Region) (xs : List Action) → to ≡ r → AllByRecursion (Follows (Send to g)) xs → total (outs r) xs ≡ 0
later_outs to r g xs e h = total_zero (outs r) (Follows (Send to g)) one xs h
  where
    one : (b : Action) → Follows (Send to g) b → outs r b ≡ 0
    one (Send q k) f = cond-false (eqb q r) 1 0 (ne_eqb q r (λ m. f.other_peer (e ∙ sym m)))
    one (Copy from into) f = refl
    one (Combine op ty a b into) f = refl
    one (Recv of into) f = refl

outs_one : (r : ℕ) (xs : List Action) → EachFollows xs → total (outs r) xs ≤ 1
outs_one r [] h = omega arith
outs_one r (Send to from ∷ xs) h = go (outs_one r xs h.1) (cases_eq to r)
  where
    go : total (outs r) xs ≤ 1 → (to ≡ r) ⊎ (to ≡ r → ⊥) → total (outs r) (Send to from ∷ xs) ≤ 1
    go low (inl e) = let k : outs r (Send to from) ≡ 1 =
        cond-true (eqb to r) 1 0 (eq-eqb to r e) in let l : total (outs r) xs ≡ 0 = later_outs to r from xs e h.0 in omega arith
    go low (inr d) = let k : outs r (Send to from) ≡ 0 = cond-false (eqb to r) 1 0 (ne_eqb to r d) in omega arith
outs_one r (Copy from into ∷ xs) h = let k : total (outs r) xs ≤ 1 = outs_one r xs h.1 in omega arith
outs_one r (Combine op ty a b into ∷ xs) h = let k : total (outs r) xs ≤ 1 = outs_one r xs h.1 in omega arith
outs_one r (Recv of into ∷ xs) h = let k : total (outs r) xs ≤ 1 = outs_one r xs h.1 in omega arith

total_take : (weight : Action → ℕ) (xs : List Action) (i : ℕ) → total weight (take i xs) ≤ total weight xs
total_take weight xs zero = omega arith
total_take weight [] (suc i) = omega arith
total_take weight (x ∷ xs) (suc i) = let k : total weight (take i xs) ≤ total weight xs = total_take weight xs i in omega arith

total_done : (weight : Action → ℕ) (o : Option Progress) (g : Option (List ℕ)) (j : ℕ) (xs : List Action) → total weight (done_by o g j xs) ≤ total weight xs
total_done weight None None j xs = omega arith
total_done weight None (Some bytes) j xs = omega arith
total_done weight (Some p) g j xs = go (place j p.round)
  where
    go : Place j p.round → total weight (done_by (Some p) g j xs) ≤ total weight xs
    go (less h) = let e : total weight (done_by (Some p) g j xs) ≡ total weight xs = ap (total weight) (done_less p g j xs h) in omega arith
    go (same h) = let e : total weight (done_by (Some p) g j xs) ≡ total weight (take p.index xs) =
        ap (total weight) (done_same p g j xs h) in let k : total weight (take p.index xs) ≤ total weight xs = total_take weight xs p.index in omega arith
    go (more h) = let e : total weight (done_by (Some p) g j xs) ≡ 0 = ap (total weight) (done_more p g j xs h) in omega arith

pub none_standing : (o : Option (List ℕ)) → standing o ≡ 0 → o ≡ None
none_standing None h = refl
none_standing (Some bytes) h = absurd (omega arith)

-- a message that stands is that of a Send done and of a Recv not done
pub standing_counts : (f : Family) (w : World) (q r j : ℕ) (bytes : List ℕ) → EachFollows (actions_at f j q) → Balanced f w
    → w.mail q r j ≡ Some bytes → (total (outs r) (done_at f w j q) ≡ 1) × (total (ins q) (done_at f w j r) ≡ 0)
standing_counts f w q r j bytes follows b e =
    let one : total (outs r) (actions_at f j q) ≤ 1 = outs_one r (actions_at f j q) follows in
    let most : total (outs r) (done_at f w j q) ≤ total (outs r) (actions_at f j q) = total_done (outs r) (w.progress q) (w.given q) j (actions_at f j q) in
    let stands : standing (w.mail q r j) ≡ 1 = ap standing e in
    let balance : standing (w.mail q r j) + total (ins q) (done_at f w j r) ≡ total (outs r) (done_at f w j q) = b q r j in
    (omega arith, omega arith)
