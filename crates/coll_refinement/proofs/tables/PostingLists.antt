-- A signature enters a posting list.
use Rattle.std.proofs.Common.{◌≡◌, ℕ, zero, suc, ◌<◌, ◌≢◌, ◌⊎◌, inl, inr, true, List, [], ◌∷◌, ◌++◌, length, slice_get, unwrap_or, Option, Some, None}
use Rattle.std.proofs.Common.{refl, sym, ap, subst, ◌∙◌, arith}
use Rattle.std.proofs.lemmas.Option.{none-some, same_Some, slice_get_within}
use Rattle.std.proofs.lemmas.Bool.{false≢true}
use Rattle.coll_kinds.specs.declared.signature.Signature.{Signature}
use Rattle.coll_sched.specs.Tracks.{Tracks}
use Rattle.coll_kinds.proofs.Puts.{put_other}
use Rattle.coll_sched.proofs.Counts.{put_cases}
use Rattle.coll_machine.specs.Common.{size, put2}
use Rattle.coll_machine.specs.declared.key.Key.{Key}
use Rattle.coll_machine.proofs.Puts.{put2_cases}
use Rattle.coll_plans.specs.Plans.{IsPlanned, family}
use Rattle.coll_refinement.specs.Requests.{Live, at, key, progress}
use Rattle.coll_refinement.specs.Tables.{Tables, Paths, no_signature, family_at, world}
use Rattle.coll_refinement.specs.Sound.{Base}
use Rattle.coll_refinement.specs.Changes.{posting}
use Rattle.coll_refinement.proofs.tables.CallTests.{Posting}
use Rattle.coll_machine.proofs.Pushed.{get_pushed, get_front, get_either}
use Rattle.coll_refinement.proofs.tables.OneRequest.{unbegun}

pub within_some : {X : Type 0} (xs : List X) (p : ℕ) → p < length xs → (s : X) × (slice_get xs p ≡ Some s)
within_some [] p h = absurd (omega arith)
within_some (x ∷ xs) zero h = (x, refl)
within_some (x ∷ xs) (suc p) h = within_some xs p (omega arith)

module _ (v : Tables) (paths : Paths) (b : Base v paths) (i : ℕ) (q : Live) (home : ℕ → ℕ) (h : Posting v i q) where
  abbrev new : Tables
  new = posting v i q home

  abbrev list : List Signature
  list = v.posts q.comm q.member ++ q.sig ∷ []

  -- the place is new to the member
  fresh : (r : Live) (j : ℕ) → v.request j ≡ Some r → r.comm ≡ q.comm → r.place ≡ q.place → r.member ≡ q.member → ⊥
  fresh r j e c p m =
      let there : slice_get (v.posts q.comm q.member) q.place ≡ Some r.sig = (λ z. slice_get (v.posts (sym c z) (sym m z)) (sym p z)) ∙ b.own j r e in
      let low : q.place < length (v.posts q.comm q.member) = slice_get_within (v.posts q.comm q.member) q.place r.sig there in
      let here : q.place ≡ length (v.posts q.comm q.member) = h.place_is in
      omega arith

  -- so nothing was given there
  ungiven : (s : ℕ) → v.given (at q s) q.member ≢ None → ⊥
  ungiven s x =
      let low : q.place < length (v.posts q.comm q.member) = b.posted (at q s) q.member x in
      let here : q.place ≡ length (v.posts q.comm q.member) = h.place_is in
      omega arith

  unsigned : (k : Key) → v.signed k.comm k.place ≡ None → (m : ℕ) → v.given k m ≡ None
  unsigned k none m = go (v.given k m) refl
    where
      go : (o : Option (List ℕ)) → v.given k m ≡ o → v.given k m ≡ None
      go None e = e
      go (Some bs) e =
          let s = within_some (v.posts k.comm m) k.place (b.posted k m (λ n. none-some bs (sym n ∙ e))) in
          absurd (none-some s.0 (sym none ∙ b.agreed k.comm m k.place s.0 s.1))

  family_new : (k : Key) → Tracks (size v.setting k.comm) (family_at new k) (world v paths k)
  family_new k = go (put2_cases v.signed q.comm q.place (Some q.sig) k.comm k.place)
    where
      here : (o : Option Signature) → v.signed k.comm k.place ≡ o → (k.comm ≡ q.comm) → (k.place ≡ q.place)
          → put2 v.signed q.comm q.place (Some q.sig) k.comm k.place ≡ Some q.sig → Tracks (size v.setting k.comm) (family_at new k) (world v paths k)
      here None e c p y = unbegun (size v.setting k.comm) (family_at v k) (family_at new k) (world v paths k) (b.tracks k) (unsigned k e)
      here (Some s) e c p y =
          let same : s ≡ q.sig = h.judged s ((λ z. v.signed (sym c z) (sym p z)) ∙ e) in
          subst (λ (o : Option Signature). Tracks (size v.setting k.comm) (family (unwrap_or o no_signature) (size v.setting k.comm)) (world v paths k))
          (e ∙ (ap Some same ∙ sym y)) (b.tracks k)

      go : ((k.comm ≡ q.comm) × (k.place ≡ q.place) × (put2 v.signed q.comm q.place (Some q.sig) k.comm k.place ≡ Some q.sig))
          ⊎ (((k.comm ≡ q.comm) × (k.place ≡ q.place) → ⊥) × (put2 v.signed q.comm q.place (Some q.sig) k.comm k.place ≡ v.signed k.comm k.place))
          → Tracks (size v.setting k.comm) (family_at new k) (world v paths k)
      go (inl x) = here (v.signed k.comm k.place) refl x.0 x.1 x.2
      go (inr x) =
          subst (λ (o : Option Signature). Tracks (size v.setting k.comm) (family (unwrap_or o no_signature) (size v.setting k.comm)) (world v paths k))
          (sym x.1) (b.tracks k)

  pub base_posts : Base new paths
  base_posts = record {
    tracks = family_new;
    active = λ j r e t. act j r t (put_cases v.request i (Some q) j (Some r) e);
    owner = λ k m j e. let w =
        b.owner k m j e in record {
          req = w.req;
          is =
              put_other v.request i (Some q) j (λ x. none-some w.req (sym h.spare ∙ (ap v.request (sym x) ∙ w.is))) ∙ w.is;
          active =
              w.active;
          key_is = w.key_is;
          member_is = w.member_is;
        };
    on_way = b.on_way;
    alone = λ j l r s ej el c d e. single j l r s (put_cases v.request i (Some q) j (Some r) ej) (put_cases v.request i (Some q) l (Some s) el) c d e;
    sized = λ j r e. each (λ (x : Live). x.members ≡ size v.setting x.comm) j r h.members_is (b.sized j r) (put_cases v.request i (Some q) j (Some r) e);
    member_in = λ j r e. each (λ (x : Live). x.member < size v.setting x.comm) j r h.member_in (b.member_in j r) (put_cases v.request i (Some q) j (Some r) e);
    own = λ j r e. each (λ (x : Live). slice_get (new.posts x.comm x.member) x.place ≡ Some x.sig) j r placed
        (λ y. stays r.comm r.member r.place r.sig (b.own j r y)) (put_cases v.request i (Some q) j (Some r) e);
    agreed = λ c m p s e. agrees c m p s e (put2_cases v.posts q.comm q.member list c m) (put2_cases v.signed q.comm q.place (Some q.sig) c p);
    signs = λ c p s e. found c p s e (put2_cases v.signed q.comm q.place (Some q.sig) c p);
    planned = λ c p s e. served c p s e (put2_cases v.signed q.comm q.place (Some q.sig) c p);
    posted = λ k m e. let s =
        within_some (v.posts k.comm m) k.place (b.posted k m e) in slice_get_within (new.posts k.comm m) k.place s.0 (stays k.comm m k.place s.0 s.1);
    gave = λ j r e s. each (λ (x : Live). v.given (at x s) x.member ≢ None → s < x.starts) j r (λ x. absurd (ungiven s x))
        (λ y. b.gave j r y s) (put_cases v.request i (Some q) j (Some r) e);
  }
    where
      each : (P : Live → Type 0) (j : ℕ) (r : Live) → P q → (v.request j ≡ Some r → P r)
          → ((j ≡ i) × (Some q ≡ Some r)) ⊎ ((j ≢ i) × (v.request j ≡ Some r)) → P r
      each P j r mine old (inl x) = subst P (same_Some q r x.1) mine
      each P j r mine old (inr x) = old x.1

      act : (j : ℕ) (r : Live) → r.active ≡ true → ((j ≡ i) × (Some q ≡ Some r)) ⊎ ((j ≢ i) × (v.request j ≡ Some r))
          → (paths (key r) r.member ≡ Some (progress r)) × (v.seats (key r) r.member ≡ Some j)
      act j r t (inl x) = absurd (false≢true (sym h.inactive ∙ (ap (λ (y : Live). y.active) (same_Some q r x.1) ∙ t)))
      act j r t (inr x) = b.active j r x.1 t

      single : (j l : ℕ) (r s : Live) → ((j ≡ i) × (Some q ≡ Some r)) ⊎ ((j ≢ i) × (v.request j ≡ Some r))
          → ((l ≡ i) × (Some q ≡ Some s)) ⊎ ((l ≢ i) × (v.request l ≡ Some s)) → r.comm ≡ s.comm → r.place ≡ s.place → r.member ≡ s.member → j ≡ l
      single j l r s (inl x) (inl y) c p m = x.0 ∙ sym y.0
      single j l r s (inl x) (inr y) c p m =
          let e : q ≡ r = same_Some q r x.1 in
          absurd (fresh s l y.1 (sym c ∙ ap (λ (z : Live). z.comm) (sym e)) (sym p ∙ ap (λ (z : Live). z.place) (sym e))
          (sym m ∙ ap (λ (z : Live). z.member) (sym e)))
      single j l r s (inr x) (inl y) c p m =
          let e : q ≡ s = same_Some q s y.1 in
          absurd (fresh r j x.1 (c ∙ ap (λ (z : Live). z.comm) (sym e)) (p ∙ ap (λ (z : Live). z.place) (sym e)) (m ∙ ap (λ (z : Live). z.member) (sym e)))
      single j l r s (inr x) (inr y) c p m = b.alone j l r s x.1 y.1 c p m

      -- a place that was there is there
      stays : (c m p : ℕ) (s : Signature) → slice_get (v.posts c m) p ≡ Some s → slice_get (new.posts c m) p ≡ Some s
      stays c m p s e = go (put2_cases v.posts q.comm q.member list c m)
        where
          go : ((c ≡ q.comm) × (m ≡ q.member) × (new.posts c m ≡ list)) ⊎ (((c ≡ q.comm) × (m ≡ q.member) → ⊥) × (new.posts c m ≡ v.posts c m))
              → slice_get (new.posts c m) p ≡ Some s
          go (inl x) =
              ap (λ (xs : List Signature). slice_get xs p) x.2
              ∙ get_front (v.posts q.comm q.member) q.sig p s ((λ z. slice_get (v.posts (sym x.0 z) (sym x.1 z)) p) ∙ e)
          go (inr x) = ap (λ (xs : List Signature). slice_get xs p) x.1 ∙ e

      placed : slice_get (new.posts q.comm q.member) q.place ≡ Some q.sig
      placed = go (put2_cases v.posts q.comm q.member list q.comm q.member)
        where
          go : ((q.comm ≡ q.comm) × (q.member ≡ q.member) × (new.posts q.comm q.member ≡ list))
              ⊎ (((q.comm ≡ q.comm) × (q.member ≡ q.member) → ⊥) × (new.posts q.comm q.member ≡ v.posts q.comm q.member))
              → slice_get (new.posts q.comm q.member) q.place ≡ Some q.sig
          go (inl x) = ap (λ (xs : List Signature). slice_get xs q.place) x.2 ∙ (ap (slice_get list) h.place_is ∙ get_pushed (v.posts q.comm q.member) q.sig)
          go (inr x) = absurd (x.0 (refl, refl))

      agrees : (c m p : ℕ) (s : Signature) → slice_get (new.posts c m) p ≡ Some s
          → ((c ≡ q.comm) × (m ≡ q.member) × (new.posts c m ≡ list)) ⊎ (((c ≡ q.comm) × (m ≡ q.member) → ⊥) × (new.posts c m ≡ v.posts c m))
          → ((c ≡ q.comm) × (p ≡ q.place) × (new.signed c p ≡ Some q.sig)) ⊎ (((c ≡ q.comm) × (p ≡ q.place) → ⊥) × (new.signed c p ≡ v.signed c p))
          → new.signed c p ≡ Some s
      agrees c m p s e (inr x) (inr y) = y.1 ∙ b.agreed c m p s (ap (λ (xs : List Signature). slice_get xs p) (sym x.1) ∙ e)
      agrees c m p s e (inr x) (inl y) =
          y.2 ∙ ap Some (sym (h.judged s ((λ z. v.signed (sym y.0 z) (sym y.1 z))
          ∙ b.agreed c m p s (ap (λ (xs : List Signature). slice_get xs p) (sym x.1) ∙ e))))
      agrees c m p s e (inl x) y = go (get_either (v.posts q.comm q.member) q.sig p s (ap (λ (xs : List Signature). slice_get xs p) (sym x.2) ∙ e)) y
        where
          go : (slice_get (v.posts q.comm q.member) p ≡ Some s) ⊎ ((p ≡ length (v.posts q.comm q.member)) × (q.sig ≡ s))
              → ((c ≡ q.comm) × (p ≡ q.place) × (new.signed c p ≡ Some q.sig)) ⊎ (((c ≡ q.comm) × (p ≡ q.place) → ⊥) × (new.signed c p ≡ v.signed c p))
              → new.signed c p ≡ Some s
          go (inl z) (inr w) = w.1 ∙ (ap (λ c. v.signed c p) x.0 ∙ b.agreed q.comm q.member p s z)
          go (inl z) (inl w) =
              let low : p < length (v.posts q.comm q.member) = slice_get_within (v.posts q.comm q.member) p s z in
              let here : q.place ≡ length (v.posts q.comm q.member) = h.place_is in
              let same : p ≡ q.place = w.1 in
              absurd (omega arith)
          go (inr z) (inl w) = w.2 ∙ ap Some z.1
          go (inr z) (inr w) = absurd (w.0 (x.0, z.0 ∙ sym h.place_is))

      served : (c p : ℕ) (s : Signature) → new.signed c p ≡ Some s
          → ((c ≡ q.comm) × (p ≡ q.place) × (new.signed c p ≡ Some q.sig)) ⊎ (((c ≡ q.comm) × (p ≡ q.place) → ⊥) × (new.signed c p ≡ v.signed c p))
          → IsPlanned s (size v.setting c) (family s (size v.setting c))
      served c p s e (inl x) =
          let same : q.sig ≡ s = same_Some q.sig s (sym x.2 ∙ e) in
          subst (λ c. IsPlanned s (size v.setting c) (family s (size v.setting c))) (sym x.0)
          (subst (λ (s : Signature). IsPlanned s (size v.setting q.comm) (family s (size v.setting q.comm))) same h.planned)
      served c p s e (inr x) = b.planned c p s (sym x.1 ∙ e)

      found : (c p : ℕ) (s : Signature) → new.signed c p ≡ Some s
          → ((c ≡ q.comm) × (p ≡ q.place) × (new.signed c p ≡ Some q.sig)) ⊎ (((c ≡ q.comm) × (p ≡ q.place) → ⊥) × (new.signed c p ≡ v.signed c p))
          → (m : ℕ) × (m < size v.setting c) × (slice_get (new.posts c m) p ≡ Some s)
      found c p s e (inl x) = (
        q.member,
        subst (λ c. q.member < size v.setting c) (sym x.0) h.member_in,
        (λ z. slice_get (new.posts (x.0 z) q.member) (x.1 z))
            ∙ (placed ∙ (sym x.2 ∙ e)),
      )
      found c p s e (inr x) = let o = b.signs c p s (sym x.1 ∙ e) in (o.0, o.1, stays c o.0 p s o.2)
