-- One live request changes: the condition but for the lists, from what the change does at one key and one member.
use Rattle.std.proofs.Common.{◌≡◌, ℕ, ◌<◌, ◌≢◌, ◌⊎◌, inl, inr, true, List, length, slice_get, Option, Some, None, refl, sym, ap, subst, ◌∙◌}
use Rattle.std.proofs.lemmas.Option.{same_Some, slice_get_within}
use Rattle.std.proofs.lemmas.Bool.{cases_eq}
use Rattle.coll_sched.specs.Common.{Progress, World, Tracks}
use Rattle.coll_kinds.specs.Puts.{put}
use Rattle.coll_sched.specs.Views.{Agrees}
use Rattle.coll_kinds.proofs.Puts.{put_other}
use Rattle.coll_sched.proofs.Counts.{put_cases}
use Rattle.coll_sched.proofs.Views.{tracks_agrees}
use Rattle.coll_machine.specs.Settings.{size}
use Rattle.coll_machine.specs.declared.key.Key.{Key}
use Rattle.coll_refinement.specs.Requests.{Live, at, key, progress}
use Rattle.coll_refinement.specs.Tables.{Mail, Tables, Paths, family_at, world}
use Rattle.coll_refinement.specs.Sound.{Owned, Base}
use Rattle.coll_refinement.proofs.tables.Keys.{split_key}

-- the same request, perhaps elsewhere in its life
pub record Kin (r q : Live) : Type 0 where
  pub comm : r.comm ≡ q.comm
  pub members : r.members ≡ q.members
  pub member : r.member ≡ q.member
  pub place : r.place ≡ q.place
  pub sig : r.sig ≡ q.sig

kin_self : (q : Live) → Kin q q
kin_self q = record { comm = refl; members = refl; member = refl; place = refl; sig = refl }

abbrev pub Contributions : Type 0
Contributions = Key → ℕ → Option (List ℕ)

abbrev pub Seats : Type 0
Seats = Key → ℕ → Option ℕ

abbrev pub changed : Tables → ℕ → Option Live → Contributions → Seats → (Key → Mail) → (ℕ → ℕ) → Tables
changed v i o given seats mail home =
    record {
      setting = v.setting;
      generation = v.generation;
      request = put v.request i o;
      home = home;
      posts = v.posts;
      signed =
          v.signed;
      given = given;
      seats = seats;
      mail = mail;
    }

-- what becomes of slot i, where q was, at the key k of q's place
pub record Changes (v : Tables) (paths : Paths) (i : ℕ) (q : Live) (k : Key) (o : Option Live) (given : Contributions)
    (seats : Seats) (mail : Key → Mail) (after : Paths) : Type 0 where
  pub here : v.request i ≡ Some q
  pub comm_is : k.comm ≡ q.comm
  pub place_is : k.place ≡ q.place
  -- if q was active it worked on that instance
  pub was : q.active ≡ true → key q ≡ k
  pub kin : (r : Live) → o ≡ Some r → Kin r q
  pub elsewhere : (l : Key) (m : ℕ) → ((l ≡ k) → (m ≡ q.member) → ⊥) → (seats l m ≡ v.seats l m) × (after l m ≡ paths l m)
  pub active : (r : Live) → o ≡ Some r → r.active ≡ true → (key r ≡ k) × (after k q.member ≡ Some (progress r)) × (seats k q.member ≡ Some i)
  pub owner : (j : ℕ) → seats k q.member ≡ Some j → Owned (put v.request i o) k q.member j
  pub on_way : (p : Progress) → after k q.member ≡ Some p → seats k q.member ≢ None
  pub contributions : (l : Key) (m : ℕ) → given l m ≢ None → (v.given l m ≢ None) ⊎ ((l ≡ k) × (m ≡ q.member))
  pub gave : (r : Live) → o ≡ Some r → (s : ℕ) → given (at q s) q.member ≢ None → s < r.starts
  pub tracks : (l : Key) → Tracks (size v.setting l.comm) (family_at v l) (record { given = given l; progress = after l; mail = mail l })

pub key_fields : (a b : Key) → a ≡ b → (a.comm ≡ b.comm) × (a.place ≡ b.place) × (a.start ≡ b.start)
key_fields a b e = (ap (λ (k : Key). k.comm) e, ap (λ (k : Key). k.place) e, ap (λ (k : Key). k.start) e)

module _ (v : Tables) (paths : Paths) (b : Base v paths) (i : ℕ) (q : Live) (k : Key) (o : Option Live) (given : Contributions)
    (seats : Seats) (mail : Key → Mail) (after : Paths) (c : Changes v paths i q k o given seats mail after) (home : ℕ → ℕ) where
  abbrev new : Tables
  new = changed v i o given seats mail home

  -- each request was there, in some form
  pub was : (j : ℕ) (r : Live) → put v.request i o j ≡ Some r → (p : Live) × (v.request j ≡ Some p) × Kin r p
  was j r e = go (put_cases v.request i o j (Some r) e)
    where
      go : ((j ≡ i) × (o ≡ Some r)) ⊎ ((j ≢ i) × (v.request j ≡ Some r)) → (p : Live) × (v.request j ≡ Some p) × Kin r p
      go (inl h) = (q, ap v.request h.0 ∙ c.here, c.kin r h.1)
      go (inr h) = (r, h.1, kin_self r)

  -- no other slot has a request of that member at that place
  pub single : (j : ℕ) (r : Live) → j ≢ i → v.request j ≡ Some r → r.comm ≡ k.comm → r.place ≡ k.place → r.member ≡ q.member → ⊥
  single j r d e x y z = d (b.alone j i r q e c.here (x ∙ c.comm_is) (y ∙ c.place_is) z)

  pub base_changes : Base new after
  base_changes = record {
    tracks = c.tracks;
    active = λ j r e t. act j r t (put_cases v.request i o j (Some r) e);
    owner = λ l m j e. owned l m j e (split_key l k) (cases_eq m q.member);
    on_way = λ l m p e. ways l m p e (split_key l k) (cases_eq m q.member);
    alone = λ j l r s ej el x y z.
        let a = was j r ej in
        let d = was l s el in
        b.alone j l a.0 d.0 a.1 d.1 (sym a.2.comm ∙ (x ∙ d.2.comm)) (sym a.2.place ∙ (y ∙ d.2.place)) (sym a.2.member ∙ (z ∙ d.2.member));
    sized = λ j r e. let a = was j r e in a.2.members ∙ (b.sized j a.0 a.1 ∙ ap (size v.setting) (sym a.2.comm));
    member_in = λ j r e. let a =
        was j r e in subst (λ x. x < size v.setting r.comm) (sym a.2.member)
        (subst (λ x. a.0.member < size v.setting x) (sym a.2.comm) (b.member_in j a.0 a.1));
    own = λ j r e. let a = was j r e in (λ z. slice_get (v.posts (a.2.comm z) (a.2.member z)) (a.2.place z)) ∙ (b.own j a.0 a.1 ∙ ap Some (sym a.2.sig));
    agreed = b.agreed;
    signs = b.signs;
    planned = b.planned;
    posted = λ l m e. has_posted l m (c.contributions l m e);
    gave = λ j r e s x. gives j r s x (put_cases v.request i o j (Some r) e);
  }
    where
      act : (j : ℕ) (r : Live) → r.active ≡ true → ((j ≡ i) × (o ≡ Some r)) ⊎ ((j ≢ i) × (v.request j ≡ Some r))
          → (after (key r) r.member ≡ Some (progress r)) × (seats (key r) r.member ≡ Some j)
      act j r t (inl h) =
          let a = c.active r h.1 t in
          let m : r.member ≡ q.member = (c.kin r h.1).member in
          ((λ z. after (a.0 z) (m z)) ∙ a.1, (λ z. seats (a.0 z) (m z)) ∙ (a.2 ∙ ap Some (sym h.0)))
      act j r t (inr h) =
          let old = b.active j r h.1 t in
          let same = c.elsewhere (key r) r.member (λ e m. let f = key_fields (key r) k e in single j r h.0 h.1 f.0 f.1 m) in
          (same.1 ∙ old.0, same.0 ∙ old.1)

      -- whoever works elsewhere keeps its slot
      kept : (l : Key) (m j : ℕ) → ((l ≡ k) → (m ≡ q.member) → ⊥) → Owned v.request l m j → Owned (put v.request i o) l m j
      kept l m j d w = record { req = w.req; is = put_other v.request i o j other ∙ w.is; active = w.active; key_is = w.key_is; member_is = w.member_is }
        where
          other : j ≡ i → ⊥
          other e =
              let same : w.req ≡ q = same_Some w.req q (sym w.is ∙ (ap v.request e ∙ c.here)) in
              d (sym w.key_is ∙ (ap key same ∙ c.was (ap (λ (x : Live). x.active) (sym same) ∙ w.active))) (sym w.member_is ∙ ap (λ (x : Live). x.member) same)

      owned : (l : Key) (m j : ℕ) → seats l m ≡ Some j → (l ≡ k) ⊎ (l ≢ k) → (m ≡ q.member) ⊎ (m ≡ q.member → ⊥) → Owned (put v.request i o) l m j
      owned l m j e (inl x) (inl y) =
          subst (λ l. Owned (put v.request i o) l m j) (sym x)
          (subst (λ m. Owned (put v.request i o) k m j) (sym y) (c.owner j ((λ z. seats (sym x z) (sym y z)) ∙ e)))
      owned l m j e (inl x) (inr y) = let d = λ (_ : l ≡ k) (h : m ≡ q.member). y h in kept l m j d (b.owner l m j (sym (c.elsewhere l m d).0 ∙ e))
      owned l m j e (inr x) y = let d = λ (h : l ≡ k) (_ : m ≡ q.member). x h in kept l m j d (b.owner l m j (sym (c.elsewhere l m d).0 ∙ e))

      ways : (l : Key) (m : ℕ) (p : Progress) → after l m ≡ Some p → (l ≡ k) ⊎ (l ≢ k) → (m ≡ q.member) ⊎ (m ≡ q.member → ⊥) → seats l m ≢ None
      ways l m p e (inl x) (inl y) = λ n. c.on_way p ((λ z. after (sym x z) (sym y z)) ∙ e) ((λ z. seats (sym x z) (sym y z)) ∙ n)
      ways l m p e (inl x) (inr y) = let s = c.elsewhere l m (λ _ h. y h) in λ n. b.on_way l m p (sym s.1 ∙ e) (sym s.0 ∙ n)
      ways l m p e (inr x) y = let s = c.elsewhere l m (λ h _. x h) in λ n. b.on_way l m p (sym s.1 ∙ e) (sym s.0 ∙ n)

      has_posted : (l : Key) (m : ℕ) → (v.given l m ≢ None) ⊎ ((l ≡ k) × (m ≡ q.member)) → l.place < length (v.posts l.comm m)
      has_posted l m (inl h) = b.posted l m h
      has_posted l m (inr h) =
          let f = key_fields l k h.0 in
          subst (λ x. x < length (v.posts l.comm m)) (sym (f.1 ∙ c.place_is))
          (subst (λ x. q.place < length (v.posts x m)) (sym (f.0 ∙ c.comm_is))
          (subst (λ x. q.place < length (v.posts q.comm x)) (sym h.1) (slice_get_within (v.posts q.comm q.member) q.place q.sig (b.own i q c.here))))

      gives : (j : ℕ) (r : Live) (s : ℕ) → given (at r s) r.member ≢ None → ((j ≡ i) × (o ≡ Some r)) ⊎ ((j ≢ i) × (v.request j ≡ Some r)) → s < r.starts
      gives j r s x (inl h) =
          let a = c.kin r h.1 in
          c.gave r h.1 s (λ n. x ((λ z. given (record { comm = a.comm z; place = a.place z; start = s }) (a.member z)) ∙ n))
      gives j r s x (inr h) = go (c.contributions (at r s) r.member x)
        where
          go : (v.given (at r s) r.member ≢ None) ⊎ ((at r s ≡ k) × (r.member ≡ q.member)) → s < r.starts
          go (inl y) = b.gave j r h.1 s y
          go (inr y) = let f = key_fields (at r s) k y.0 in absurd (single j r h.0 h.1 f.0 f.1 y.1)

-- the tracks of all instances, where one changes
pub retracked : (v : Tables) (paths : Paths) → ((l : Key) → Tracks (size v.setting l.comm) (family_at v l) (world v paths l))
    → (k : Key) (given : Contributions) (mail : Key → Mail) (after : Paths)
    → ((l : Key) → l ≢ k → Agrees (world v paths l) (record { given = given l; progress = after l; mail = mail l }))
    → (w : World) → Tracks (size v.setting k.comm) (family_at v k) w → Agrees w (record { given = given k; progress = after k; mail = mail k })
    → (l : Key) → Tracks (size v.setting l.comm) (family_at v l) (record { given = given l; progress = after l; mail = mail l })
retracked v paths old k given mail after others w t mine l = go (split_key l k)
  where
    go : (l ≡ k) ⊎ (l ≢ k) → Tracks (size v.setting l.comm) (family_at v l) (record { given = given l; progress = after l; mail = mail l })
    go (inl e) =
        subst (λ (l : Key). Tracks (size v.setting l.comm) (family_at v l) (record { given = given l; progress = after l; mail = mail l }))
        (sym e) (tracks_agrees (size v.setting k.comm) (family_at v k) w (record { given = given k; progress = after k; mail = mail k }) mine t)
    go (inr d) =
        tracks_agrees (size v.setting l.comm) (family_at v l) (world v paths l)
        (record { given = given l; progress = after l; mail = mail l }) (others l d) (old l)
