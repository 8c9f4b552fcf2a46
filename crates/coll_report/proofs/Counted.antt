-- How often each start has been completed: not at all before it and while it is active, and once after it.
use Rattle.std.proofs.Common.{◌≡◌, ℕ, zero, suc, ◌+◌, ◌<◌, ◌≤◌, ◌⊎◌, inl, inr, Bool, true, false, cond, eqb, List, [], ◌∷◌, ◌++◌, length, take}
use Rattle.std.proofs.Common.{Option, Some, None, refl, sym, ap, subst, ◌∙◌, arith}
use Rattle.std.specs.Prelude.{slice_get}
use Rattle.std.proofs.lemmas.Option.{none-some, same_Some}
use Rattle.std.proofs.lemmas.Bool.{cases_eq, eqb-true, false≢true}
use Rattle.coll_report.specs.Scripts.{Asked, one_more, changed_at, on, at_place, IsAsked}
use Rattle.coll_kinds.proofs.Puts.{put_same, put_other, put_cases}
use Rattle.coll_kinds.specs.Common.{put, member_of}
use Rattle.coll_machine.proofs.Pushed.{get_either, length_pushed}
use Rattle.coll_machine.specs.Common.{once_more, Setting, group, Request, State, ArePosted}
use Rattle.coll_report.proofs.Lists.{on_pushed, on_others, placed, grown, Grows}
use Rattle.coll_report.proofs.Standing.{Known, Stands, Requests, Tickets}

abbrev pub Slots : Type 0
Slots = ℕ → Option Request

-- a rank's start of a place is active
pub record Active (request : Slots) (r c p n : ℕ) : Type 0 where
  pub slot : ℕ
  pub by : Request
  pub is : request slot ≡ Some by
  pub active : by.active ≡ true
  pub rank_is : by.rank ≡ r
  pub comm_is : by.comm ≡ c
  pub place_is : by.place ≡ p
  pub start_is : by.starts ≡ suc n

pub data Fair (request : Slots) (xs : List Asked) (count r c p n : ℕ) : Type 0 where
  unasked : (IsAsked xs c p n → ⊥) → count ≡ 0 → Fair request xs count r c p n
  going : IsAsked xs c p n → Active request r c p n → count ≡ 0 → Fair request xs count r c p n
  over : IsAsked xs c p n → (Active request r c p n → ⊥) → count ≡ 1 → Fair request xs count r c p n

-- a start of the slot's request of that number
pub record IsSame (q : Request) (start r c p n : ℕ) : Type 0 where
  pub rank_is : q.rank ≡ r
  pub comm_is : q.comm ≡ c
  pub place_is : q.place ≡ p
  pub start_is : start ≡ n

pub same_cases : (q : Request) (start r c p n : ℕ) → IsSame q start r c p n ⊎ (IsSame q start r c p n → ⊥)
same_cases q start r c p n = go (cases_eq q.rank r) (cases_eq q.comm c) (cases_eq q.place p) (cases_eq start n)
  where
    go : (q.rank ≡ r) ⊎ (q.rank ≡ r → ⊥) → (q.comm ≡ c) ⊎ (q.comm ≡ c → ⊥) → (q.place ≡ p) ⊎ (q.place ≡ p → ⊥)
        → (start ≡ n) ⊎ (start ≡ n → ⊥) → IsSame q start r c p n ⊎ (IsSame q start r c p n → ⊥)
    go (inl x) (inl y) (inl z) (inl w) = inl (record { rank_is = x; comm_is = y; place_is = z; start_is = w })
    go (inr d) y z w = inr (λ h. d h.rank_is)
    go (inl x) (inr d) z w = inr (λ h. d h.comm_is)
    go (inl x) (inl y) (inr d) w = inr (λ h. d h.place_is)
    go (inl x) (inl y) (inl z) (inr d) = inr (λ h. d h.start_is)

pub fair_same : (a b : Slots) (xs ys : List Asked) (count r c p n : ℕ) → (IsAsked ys c p n → IsAsked xs c p n)
    → (IsAsked xs c p n → IsAsked ys c p n) → (Active b r c p n → Active a r c p n) → (Active a r c p n → Active b r c p n)
    → Fair a xs count r c p n → Fair b ys count r c p n
fair_same a b xs ys count r c p n back on_ back_active on_active (unasked d e) = unasked (λ h. d (back h)) e
fair_same a b xs ys count r c p n back on_ back_active on_active (going h w e) = going (on_ h) (on_active w) e
fair_same a b xs ys count r c p n back on_ back_active on_active (over h d e) = over (on_ h) (λ w. d (back_active w)) e

asked_grows : (xs ys : List Asked) (c p n : ℕ) → Grows xs ys → IsAsked xs c p n → IsAsked ys c p n
asked_grows xs ys c p n grows h =
    let more = grows c p h.request h.is in
    record { request = grown h.request more.0; is = more.1; low = longer h.request.starts more.0 n h.low }
  where
    longer : (xs ys : List (List ℕ)) (n : ℕ) → n < length xs → n < length (xs ++ ys)
    longer [] ys n lt = absurd (omega arith)
    longer (x ∷ xs) ys zero lt = omega arith
    longer (x ∷ xs) ys (suc n) lt = let h : n < length (xs ++ ys) = longer xs ys n (omega arith) in omega arith

-- an active start was asked for
pub active_asked : (g : Setting) (now : Requests) (ts : Tickets) (i gen : ℕ) (q : Request) (n : ℕ) → Known g now ts i gen q
    → n < q.starts → IsAsked (now q.rank) q.comm q.place n
active_asked g now ts i gen q n k lt = record {
  request = k.asked;
  is = ap (λ p. at_place (now q.rank) q.comm p) (sym k.place_is) ∙ placed q.comm (now q.rank) k.number k.asked k.is k.comm_is;
  low = subst (λ m. n < m) (sym k.starts_is) lt;
}

-- ---- a new request has no start

module _ (request : Slots) (now : Requests) (slot : ℕ) (q : Request) (rank comm : ℕ) (x : Asked) (spare : request slot ≡ None)
    (idle : q.active ≡ false) (new : x.comm ≡ comm) (none : x.starts ≡ []) where
  back_created : (r c p n : ℕ) → IsAsked (put now rank (now rank ++ x ∷ []) r) c p n → IsAsked (now r) c p n
  back_created r c p n h = go (put_cases now rank (now rank ++ x ∷ []) r)
    where
      go : ((r ≡ rank) × (put now rank (now rank ++ x ∷ []) r ≡ now rank ++ x ∷ [])) ⊎ ((r ≡ rank → ⊥) × (put now rank (now rank ++ x ∷ []) r ≡ now r))
          → IsAsked (now r) c p n
      go (inr a) = subst (λ (l : List Asked). IsAsked l c p n) a.1 h
      go (inl a) = subst (λ r. IsAsked (now r) c p n) (sym a.0) (either (cases_eq x.comm c))
        where
          there : at_place (now rank ++ x ∷ []) c p ≡ Some h.request
          there = ap (λ (l : List Asked). at_place l c p) (sym a.1) ∙ h.is

          last : (slice_get (on c (now rank)) p ≡ Some h.request) ⊎ ((p ≡ length (on c (now rank))) × (x ≡ h.request)) → IsAsked (now rank) c p n
          last (inl e) = record { request = h.request; is = e; low = h.low }
          last (inr e) = let empty : length h.request.starts ≡ 0 =
              ap (λ (y : Asked). length y.starts) (sym e.1) ∙ ap (λ (l : List (List ℕ)). length l) none in let low : n < length h.request.starts =
              h.low in absurd (omega arith)

          either : (x.comm ≡ c) ⊎ (x.comm ≡ c → ⊥) → IsAsked (now rank) c p n
          either (inl e) = last (get_either (on c (now rank)) x p h.request (ap (λ (l : List Asked). slice_get l p) (sym (on_pushed c (now rank) x e)) ∙ there))
          either (inr d) = record { request = h.request; is = ap (λ (l : List Asked). slice_get l p) (sym (on_others c (now rank) x d)) ∙ there; low = h.low }

  pub fair_created : (r : ℕ) → Grows (now r) (put now rank (now rank ++ x ∷ []) r) → (count c p n : ℕ)
      → Fair request (now r) count r c p n → Fair (put request slot (Some q)) (put now rank (now rank ++ x ∷ []) r) count r c p n
  fair_created r grows count c p n f =
      fair_same request (put request slot (Some q)) (now r) (put now rank (now rank ++ x ∷ []) r) count r c p n
      (back_created r c p n) (asked_grows (now r) _ c p n grows) back on_active f
    where
      back : Active (put request slot (Some q)) r c p n → Active request r c p n
      back w = go (put_cases request slot (Some q) w.slot)
        where
          go : ((w.slot ≡ slot) × (put request slot (Some q) w.slot ≡ Some q)) ⊎ ((w.slot ≡ slot → ⊥) × (put request slot (Some q) w.slot ≡ request w.slot))
              → Active request r c p n
          go (inl a) = absurd (false≢true (sym idle ∙ (ap (λ (y : Request). y.active) (same_Some q w.by (sym a.1 ∙ w.is)) ∙ w.active)))
          go (inr a) =
              record {
                slot = w.slot;
                by = w.by;
                is = sym a.1 ∙ w.is;
                active = w.active;
                rank_is = w.rank_is;
                comm_is =
                    w.comm_is;
                place_is = w.place_is;
                start_is = w.start_is;
              }

      on_active : Active request r c p n → Active (put request slot (Some q)) r c p n
      on_active w =
          record {
            slot = w.slot;
            by = w.by;
            is =
                put_other request slot (Some q) w.slot (λ e. none-some w.by (sym spare ∙ (ap request (sym e) ∙ w.is))) ∙ w.is;
            active =
                w.active;
            rank_is = w.rank_is;
            comm_is = w.comm_is;
            place_is = w.place_is;
            start_is = w.start_is;
          }

-- ---- a start

-- the request that was changed
record IsChanged (k : ℕ) (xs : List Asked) (c p : ℕ) (b : List ℕ) (y : Asked) : Type 0 where
  was : Asked
  is : slice_get xs k ≡ Some was
  comm_is : was.comm ≡ c
  place_is : length (on c (take k xs)) ≡ p
  now_is : one_more b was ≡ y

at_changed : (k : ℕ) (b : List ℕ) (xs : List Asked) (c p : ℕ) (y : Asked) → at_place (changed_at k (one_more b) xs) c p ≡ Some y
    → (at_place xs c p ≡ Some y) ⊎ IsChanged k xs c p b y
at_changed k b [] c p y e = inl e
at_changed zero b (x ∷ xs) c p y e = go (eqb x.comm c) refl p e
  where
    go : (t : Bool) → eqb x.comm c ≡ t → (p : ℕ) → slice_get (cond t (one_more b x ∷ on c xs) (on c xs)) p ≡ Some y
        → (slice_get (cond t (x ∷ on c xs) (on c xs)) p ≡ Some y) ⊎ IsChanged zero (x ∷ xs) c p b y
    go true t zero h = inr (record { was = x; is = refl; comm_is = eqb-true x.comm c t; place_is = refl; now_is = same_Some (one_more b x) y h })
    go true t (suc p) h = inl h
    go false t p h = inl h
at_changed (suc k) b (x ∷ xs) c p y e = go (eqb x.comm c) refl p (λ p. at_changed k b xs c p y) e
  where
    deeper : (t : Bool) → eqb x.comm c ≡ t → (p i : ℕ) → IsChanged k xs c i b y
        → length (cond t (x ∷ on c (take k xs)) (on c (take k xs))) ≡ p → IsChanged (suc k) (x ∷ xs) c p b y
    deeper t same p i h e =
        record {
          was = h.was;
          is = h.is;
          comm_is = h.comm_is;
          place_is =
              ap (λ t. length (cond t (x ∷ on c (take k xs)) (on c (take k xs)))) same ∙ e;
          now_is = h.now_is;
        }

    one : eqb x.comm c ≡ true → (p : ℕ) → (at_place xs c p ≡ Some y) ⊎ IsChanged k xs c p b y
        → (slice_get (on c xs) p ≡ Some y) ⊎ IsChanged (suc k) (x ∷ xs) c (suc p) b y
    one t p (inl h) = inl h
    one t p (inr h) = inr (deeper true t (suc p) p h (ap suc h.place_is))

    none : eqb x.comm c ≡ false → (p : ℕ) → (at_place xs c p ≡ Some y) ⊎ IsChanged k xs c p b y
        → (slice_get (on c xs) p ≡ Some y) ⊎ IsChanged (suc k) (x ∷ xs) c p b y
    none t p (inl h) = inl h
    none t p (inr h) = inr (deeper false t p p h h.place_is)

    go : (t : Bool) → eqb x.comm c ≡ t → (p : ℕ)
        → ((p : ℕ) → at_place (changed_at k (one_more b) xs) c p ≡ Some y → (at_place xs c p ≡ Some y) ⊎ IsChanged k xs c p b y)
        → slice_get (cond t (x ∷ on c (changed_at k (one_more b) xs)) (on c (changed_at k (one_more b) xs))) p ≡ Some y
        → (slice_get (cond t (x ∷ on c xs) (on c xs)) p ≡ Some y) ⊎ IsChanged (suc k) (x ∷ xs) c p b y
    go true t zero f h = inl h
    go true t (suc p) f h = one t p (f p h)
    go false t p f h = none t p (f p h)

module _ (g : Setting) (request : Slots) (now : Requests) (ts : Tickets) (slot gen : ℕ) (q : Request) (b : List ℕ)
    (here : request slot ≡ Some q) (idle : q.active ≡ false) (own : Known g now ts slot gen q) where
  abbrev then : Requests
  then = put now q.rank (changed_at own.number (one_more b) (now q.rank))

  back_started : (r c p n : ℕ) → (IsSame q q.starts r c p n → ⊥) → IsAsked (then r) c p n → IsAsked (now r) c p n
  back_started r c p n d h = go (put_cases now q.rank (changed_at own.number (one_more b) (now q.rank)) r)
    where
      go : ((r ≡ q.rank) × (then r ≡ changed_at own.number (one_more b) (now q.rank))) ⊎ ((r ≡ q.rank → ⊥) × (then r ≡ now r)) → IsAsked (now r) c p n
      go (inr a) = subst (λ (l : List Asked). IsAsked l c p n) a.1 h
      go (inl a) =
          subst (λ r. IsAsked (now r) c p n) (sym a.0)
          (either (at_changed own.number b (now q.rank) c p h.request (ap (λ (l : List Asked). at_place l c p) (sym a.1) ∙ h.is)))
        where
          either : (at_place (now q.rank) c p ≡ Some h.request) ⊎ IsChanged own.number (now q.rank) c p b h.request → IsAsked (now q.rank) c p n
          either (inl e) = record { request = h.request; is = e; low = h.low }
          either (inr k) =
              let same : k.was ≡ own.asked = same_Some k.was own.asked (sym k.is ∙ own.is) in
              let c_is : q.comm ≡ c = sym own.comm_is ∙ (ap (λ (y : Asked). y.comm) (sym same) ∙ k.comm_is) in
              let p_is : q.place ≡ p = sym own.place_is ∙ (ap (λ c. length (on c (take own.number (now q.rank)))) c_is ∙ k.place_is) in
              let long : length h.request.starts ≡ suc q.starts =
              ap (λ (y : Asked). length y.starts) (sym k.now_is)
              ∙ (length_pushed k.was.starts b ∙ ap suc (ap (λ (y : Asked). length y.starts) same ∙ own.starts_is)) in
              let low : n < length h.request.starts = h.low in
              let not_last : q.starts ≡ n → ⊥ = λ e. d (record { rank_is = sym a.0; comm_is = c_is; place_is = p_is; start_is = e }) in
              let less : n < q.starts = below (cases_eq q.starts n) not_last (omega arith) in
              subst (λ p. IsAsked (now q.rank) c p n) p_is (subst (λ c. IsAsked (now q.rank) c q.place n) c_is (active_asked g now ts slot gen q n own less))
            where
              below : (q.starts ≡ n) ⊎ (q.starts ≡ n → ⊥) → (q.starts ≡ n → ⊥) → n ≤ q.starts → n < q.starts
              below (inl e) d le = absurd (d e)
              below (inr e) d le = omega arith

  pub fair_started : (r : ℕ) → Grows (now r) (then r) → at_place (then q.rank) q.comm q.place ≡ Some (one_more b own.asked)
      → (count c p n : ℕ) → Fair request (now r) count r c p n → Fair (put request slot (Some (once_more q))) (then r) count r c p n
  fair_started r grows at_then count c p n f = go (same_cases q q.starts r c p n) f
    where
      back : (IsSame q q.starts r c p n → ⊥) → Active (put request slot (Some (once_more q))) r c p n → Active request r c p n
      back d w = step (put_cases request slot (Some (once_more q)) w.slot)
        where
          step : ((w.slot ≡ slot) × (put request slot (Some (once_more q)) w.slot ≡ Some (once_more q)))
              ⊎ ((w.slot ≡ slot → ⊥) × (put request slot (Some (once_more q)) w.slot ≡ request w.slot)) → Active request r c p n
          step (inl a) =
              let same : once_more q ≡ w.by = same_Some (once_more q) w.by (sym a.1 ∙ w.is) in
              let start : suc q.starts ≡ suc n = ap (λ (y : Request). y.starts) same ∙ w.start_is in
              absurd (d (record {
                rank_is = ap (λ (y : Request). y.rank) same ∙ w.rank_is;
                comm_is =
                    ap (λ (y : Request). y.comm) same ∙ w.comm_is;
                place_is = ap (λ (y : Request). y.place) same ∙ w.place_is;
                start_is = omega arith;
              }))
          step (inr a) =
              record {
                slot = w.slot;
                by = w.by;
                is = sym a.1 ∙ w.is;
                active = w.active;
                rank_is = w.rank_is;
                comm_is =
                    w.comm_is;
                place_is = w.place_is;
                start_is = w.start_is;
              }

      on_active : Active request r c p n → Active (put request slot (Some (once_more q))) r c p n
      on_active w = record {
        slot = w.slot;
        by = w.by;
        is = put_other request slot (Some (once_more q)) w.slot
            (λ e. false≢true (sym idle ∙ (ap (λ (y : Request). y.active) (same_Some q w.by (sym here ∙ (ap request (sym e) ∙ w.is))) ∙ w.active))) ∙ w.is;
        active = w.active;
        rank_is = w.rank_is;
        comm_is = w.comm_is;
        place_is = w.place_is;
        start_is = w.start_is;
      }

      -- the start is new
      unknown : IsSame q q.starts r c p n → IsAsked (now r) c p n → ⊥
      unknown e h =
          let there = active_place in
          let h1 : IsAsked (now q.rank) q.comm q.place q.starts =
          (subst (λ r. IsAsked (now r) q.comm q.place q.starts) (sym e.rank_is)
          (subst (λ c. IsAsked (now r) c q.place q.starts) (sym e.comm_is)
          (subst (λ p. IsAsked (now r) c p q.starts) (sym e.place_is) (subst (λ n. IsAsked (now r) c p n) (sym e.start_is) h)))) in
          let same : h1.request ≡ own.asked = same_Some h1.request own.asked (sym h1.is ∙ there) in
          let len : length h1.request.starts ≡ q.starts = ap (λ (y : Asked). length y.starts) same ∙ own.starts_is in
          let low : q.starts < length h1.request.starts = h1.low in
          absurd (omega arith)
        where
          active_place : at_place (now q.rank) q.comm q.place ≡ Some own.asked
          active_place = ap (λ p. at_place (now q.rank) q.comm p) (sym own.place_is) ∙ placed q.comm (now q.rank) own.number own.asked own.is own.comm_is

      asked_now : IsSame q q.starts r c p n → IsAsked (then r) c p n
      asked_now e =
          subst (λ n. IsAsked (then r) c p n) e.start_is
          (subst (λ p. IsAsked (then r) c p q.starts) e.place_is
          (subst (λ c. IsAsked (then r) c q.place q.starts) e.comm_is (subst (λ r. IsAsked (then r) q.comm q.place q.starts) e.rank_is
          (record {
            request = one_more b own.asked;
            is = at_then;
            low =
                (let len : length (own.asked.starts ++ b ∷ []) ≡ suc (length own.asked.starts) =
                length_pushed own.asked.starts b in let e : length own.asked.starts ≡ q.starts = own.starts_is in omega arith);
          }))))

      active_now : IsSame q q.starts r c p n → Active (put request slot (Some (once_more q))) r c p n
      active_now e =
          record {
            slot = slot;
            by = once_more q;
            is = put_same request slot (Some (once_more q));
            active = refl;
            rank_is =
                e.rank_is;
            comm_is = e.comm_is;
            place_is = e.place_is;
            start_is = ap suc e.start_is;
          }

      go : IsSame q q.starts r c p n ⊎ (IsSame q q.starts r c p n → ⊥) → Fair request (now r) count r c p n
          → Fair (put request slot (Some (once_more q))) (then r) count r c p n
      go (inl e) (unasked d z) = going (asked_now e) (active_now e) z
      go (inl e) (going h w z) = absurd (unknown e h)
      go (inl e) (over h d z) = absurd (unknown e h)
      go (inr d) f =
          fair_same request (put request slot (Some (once_more q))) (now r) (then r) count r c p n (back_started r c p n d)
          (asked_grows (now r) (then r) c p n grows) (back d) on_active f

-- ---- a completion, and a free

module _ (g : Setting) (s : State) (now : Requests) (ts : Tickets) (h : Stands g s now ts) (posted : ArePosted g s) (slot : ℕ)
    (q : Request) (o : Option Request) (here : s.request slot ≡ Some q) (rests : (p : Request) → o ≡ Some p → p.active ≡ false) where
  -- what is active after it is another slot's
  was_active : (r c p n : ℕ) (w : Active (put s.request slot o) r c p n) → (w.slot ≡ slot → ⊥) × (s.request w.slot ≡ Some w.by)
  was_active r c p n w = go (put_cases s.request slot o w.slot)
    where
      go : ((w.slot ≡ slot) × (put s.request slot o w.slot ≡ o)) ⊎ ((w.slot ≡ slot → ⊥) × (put s.request slot o w.slot ≡ s.request w.slot))
          → (w.slot ≡ slot → ⊥) × (s.request w.slot ≡ Some w.by)
      go (inl a) = absurd (false≢true (sym (rests w.by (sym a.1 ∙ w.is)) ∙ w.active))
      go (inr a) = (a.0, sym a.1 ∙ w.is)

  back_held : (r c p n : ℕ) → Active (put s.request slot o) r c p n → Active s.request r c p n
  back_held r c p n w =
      record {
        slot = w.slot;
        by = w.by;
        is = (was_active r c p n w).1;
        active = w.active;
        rank_is = w.rank_is;
        comm_is =
            w.comm_is;
        place_is = w.place_is;
        start_is = w.start_is;
      }

  on_held : (r c p n : ℕ) → ((w : Active s.request r c p n) → w.slot ≡ slot → ⊥) → Active s.request r c p n → Active (put s.request slot o) r c p n
  on_held r c p n d w =
      record {
        slot = w.slot;
        by = w.by;
        is = put_other s.request slot o w.slot (d w) ∙ w.is;
        active = w.active;
        rank_is =
            w.rank_is;
        comm_is = w.comm_is;
        place_is = w.place_is;
        start_is = w.start_is;
      }

  pub fair_freed : q.active ≡ false → (r count c p n : ℕ) → Fair s.request (now r) count r c p n → Fair (put s.request slot o) (now r) count r c p n
  fair_freed idle r count c p n f = fair_same s.request (put s.request slot o) (now r) (now r) count r c p n (λ a. a) (λ a. a) (back_held r c p n)
      (on_held r c p n (λ w e. false≢true (sym idle
      ∙ (ap (λ (y : Request). y.active) (same_Some q w.by (sym here ∙ (ap s.request (sym e) ∙ w.is))) ∙ w.active)))) f

  -- a request is the only one at its place
  alone : (r c p n m : ℕ) → IsSame q m r c p n → (w : Active (put s.request slot o) r c p n) → ⊥
  alone r c p n m e w =
      let was = was_active r c p n w in
      let rank : w.by.rank ≡ q.rank = w.rank_is ∙ sym e.rank_is in
      let comm : w.by.comm ≡ q.comm = w.comm_is ∙ sym e.comm_is in
      let mine = (posted.posted slot q here).member_is in
      let other = (posted.posted w.slot w.by was.1).member_is in
      let member = same_Some w.by.member q.member (sym other ∙ ((λ z. member_of (rank z) (group g (comm z))) ∙ mine)) in
      was.0 (posted.alone w.slot slot w.by q was.1 here comm member (w.place_is ∙ sym e.place_is))

  pub fair_retired : (start : ℕ) → q.active ≡ true → suc start ≡ q.starts → (r count c p n : ℕ) → (t : Bool)
      → (t ≡ true → IsSame q start r c p n) → (t ≡ false → IsSame q start r c p n → ⊥)
      → Fair s.request (now r) count r c p n → Fair (put s.request slot o) (now r) (count + cond t 1 0) r c p n
  fair_retired start active last r count c p n true same d f = go (same refl) f
    where
      witness : IsSame q start r c p n → Active s.request r c p n
      witness e = record {
        slot = slot;
        by = q;
        is = here;
        active = active;
        rank_is = e.rank_is;
        comm_is = e.comm_is;
        place_is =
            e.place_is;
        start_is = sym last ∙ ap suc e.start_is;
      }

      known_here : IsSame q start r c p n → IsAsked (now r) c p n
      known_here e =
          subst (λ n. IsAsked (now r) c p n) e.start_is
          (subst (λ p. IsAsked (now r) c p start) e.place_is
          (subst (λ c. IsAsked (now r) c q.place start) e.comm_is (subst (λ r. IsAsked (now r) q.comm q.place start) e.rank_is
          (active_asked g now ts slot (s.generation slot) q start (h.known slot q here) (omega arith)))))

      go : IsSame q start r c p n → Fair s.request (now r) count r c p n → Fair (put s.request slot o) (now r) (count + 1) r c p n
      go e (unasked d z) = absurd (d (known_here e))
      go e (going a w z) = over a (alone r c p n start e) (omega arith)
      go e (over a d z) = absurd (d (witness e))
  fair_retired start active last r count c p n false same d f =
      subst (λ k. Fair (put s.request slot o) (now r) k r c p n) (omega arith)
      (fair_same s.request (put s.request slot o) (now r) (now r) count r c p n (λ a. a) (λ a. a) (back_held r c p n) (on_held r c p n other) f)
    where
      other : (w : Active s.request r c p n) → w.slot ≡ slot → ⊥
      other w e =
          let is : w.by ≡ q = same_Some w.by q (sym w.is ∙ (ap s.request e ∙ here)) in
          let starts : q.starts ≡ suc n = ap (λ (y : Request). y.starts) (sym is) ∙ w.start_is in
          d refl (record {
            rank_is = ap (λ (y : Request). y.rank) (sym is) ∙ w.rank_is;
            comm_is =
                ap (λ (y : Request). y.comm) (sym is) ∙ w.comm_is;
            place_is = ap (λ (y : Request). y.place) (sym is) ∙ w.place_is;
            start_is = omega arith;
          })
