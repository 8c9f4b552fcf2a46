-- One request acts, joins an instance, leaves it, or is freed; an instance is dissolved.
use Rattle.std.proofs.Common.{◌≡◌, ℕ, suc, ◌<◌, ◌≢◌, ◌⊎◌, inl, inr, true, false, List, length, unwrap_or, Option, Some, None, refl, sym, ap, subst, ◌∙◌, arith}
use Rattle.std.proofs.lemmas.Option.{none-some, same_Some}
use Rattle.std.proofs.lemmas.Bool.{false≢true}
use Rattle.coll_kinds.specs.declared.signature.Signature.{Signature}
use Rattle.coll_kinds.specs.declared.kind.Mode.{Mode}
use Rattle.coll_kinds.specs.declared.kind.Mode.TheVariants.{Once, Persistent}
use Rattle.coll_sched.specs.Common.{Family, Progress, World, empty, joined, Tracks, Serves}
use Rattle.coll_kinds.specs.Puts.{put}
use Rattle.coll_kinds.proofs.Puts.{put_same}
use Rattle.coll_sched.proofs.Track.{tracks_join, tracks_empty, tracks_leave, not_begun, heard_self}
use Rattle.coll_sched.proofs.Views.{tracks_agrees}
use Rattle.coll_machine.specs.Common.{size, put_key, put_in}
use Rattle.coll_machine.specs.declared.key.Key.{Key}
use Rattle.coll_plans.specs.Plans.{family}
use Rattle.coll_refinement.specs.Requests.{Live, at, key, progress, advanced, begun, at_rest, rests, rests_by}
use Rattle.coll_refinement.specs.Tables.{Mail, Tables, Paths, no_signature, family_at, world}
use Rattle.coll_refinement.specs.Sound.{Owned, Base}
use Rattle.coll_refinement.specs.Changes.{joining, acting, leaving, dissolving, freeing, rehoming}
use Rattle.coll_refinement.proofs.tables.CallTests.{Joining, IsLast}
use Rattle.coll_refinement.proofs.tables.Keys.{split_key, at_key, off_key, in_cases, in_at, in_off}
use Rattle.coll_refinement.proofs.tables.OneChange.{Kin, Contributions, key_fields, base_changes, retracked}

-- where nothing was given nothing is on the way
pub unbegun : (n : ℕ) (f g : Family) (w : World) → Tracks n f w → ((m : ℕ) → w.given m ≡ None) → Tracks n g w
unbegun n f g w t none =
    tracks_agrees n g empty w
    (record { given = none; progress = λ r. not_begun n f w r t (none r); mail = λ q r j. nothing q r j (w.mail q r j) refl }) (tracks_empty n g)
  where
    nothing : (q r j : ℕ) (o : Option (List ℕ)) → w.mail q r j ≡ o → w.mail q r j ≡ None
    nothing q r j None e = e
    nothing q r j (Some bytes) e = absurd ((t.in_transit q r j bytes e).heard q (heard_self f j q) (none q))

module _ (v : Tables) (paths : Paths) (b : Base v paths) (i : ℕ) (q : Live) (here : v.request i ≡ Some q) where
  -- the family of a live request is that of its own signature
  pub signed_own : v.signed q.comm q.place ≡ Some q.sig
  signed_own = b.agreed q.comm q.member q.place q.sig (b.own i q here)

  pub family_own : family_at v (key q) ≡ family q.sig (size v.setting q.comm)
  family_own = ap (λ (o : Option Signature). family (unwrap_or o no_signature) (size v.setting q.comm)) signed_own

  pub serves_own : Serves q.sig (size v.setting q.comm) (family q.sig (size v.setting q.comm))
  serves_own = (b.planned q.comm q.place q.sig signed_own).serves

  pub tracks_at : (s : ℕ) → Tracks (size v.setting q.comm) (family q.sig (size v.setting q.comm)) (world v paths (at q s))
  tracks_at s = subst (λ (f : Family). Tracks (size v.setting q.comm) f (world v paths (at q s))) family_own (b.tracks (at q s))

  -- its next start is new to it
  pub not_given : v.given (at q q.starts) q.member ≡ None
  not_given = go (v.given (at q q.starts) q.member) refl
    where
      go : (o : Option (List ℕ)) → v.given (at q q.starts) q.member ≡ o → v.given (at q q.starts) q.member ≡ None
      go None e = e
      go (Some bs) e = let low : q.starts < q.starts = b.gave i q here q.starts (λ n. none-some bs (sym n ∙ e)) in absurd (omega arith)

  module _ (t : q.active ≡ true) where
    pub base_acts : (p : Progress) (mail : Key → Mail) (home : ℕ → ℕ)
        → Tracks (size v.setting q.comm) (family_at v (key q))
        (record { given = v.given (key q); progress = put (paths (key q)) q.member (Some p); mail = mail (key q) })
        → ((l : Key) → l ≢ key q → mail l ≡ v.mail l) → Base (acting v i q p mail home) (put_in paths (key q) q.member (Some p))
    base_acts p mail home tr others =
        base_changes v paths b i q (key q) (Some (advanced q p)) v.given v.seats mail (put_in paths (key q) q.member (Some p)) (record {
          here = here;
          comm_is = refl;
          place_is = refl;
          was = λ _. refl;
          kin = λ r e. subst (λ (x : Live). Kin x q) (same_Some (advanced q p) r e)
              (record { comm = refl; members = refl; member = refl; place = refl; sig = refl });
          elsewhere = λ l m d. (refl, in_off paths (key q) q.member (Some p) l m d);
          active = λ r e _. subst
              (λ (x : Live). (key x ≡ key q) × (put_in paths (key q) q.member (Some p) (key q) q.member ≡ Some (progress x))
              × (v.seats (key q) q.member ≡ Some i))
              (same_Some (advanced q p) r e) (refl, in_at paths (key q) q.member (Some p), seat);
          owner = λ j e. subst (λ j. Owned (put v.request i (Some (advanced q p))) (key q) q.member j) (same_Some i j (sym seat ∙ e))
              (record { req = advanced q p; is = put_same v.request i (Some (advanced q p)); active = t; key_is = refl; member_is = refl });
          on_way = λ _ _ n. none-some i (sym n ∙ seat);
          contributions = λ l m h. inl h;
          gave = λ r e s h. subst (λ (x : Live). s < x.starts) (same_Some (advanced q p) r e) (b.gave i q here s h);
          tracks = retracked v paths b.tracks (key q) v.given mail (put_in paths (key q) q.member (Some p))
              (λ l d. record {
                given = λ r. refl;
                progress =
                    λ r. ap (λ (f : ℕ → Option Progress). f r) (off_key paths (key q) (put (paths (key q)) q.member (Some p)) l d);
                mail =
                    λ x r j. ap (λ (f : Mail). f x r j) (others l d);
              })
              (record { given = v.given (key q); progress = put (paths (key q)) q.member (Some p); mail = mail (key q) }) tr
              (record {
                given = λ r. refl;
                progress =
                    λ r. ap (λ (f : ℕ → Option Progress). f r) (at_key paths (key q) (put (paths (key q)) q.member (Some p)) (key q) refl);
                mail = λ x r j. refl;
              });
        }) home
      where
        seat : v.seats (key q) q.member ≡ Some i
        seat = (b.active i q here t).1

    resting : (m : Mode) (r : Live) → rests_by m q ≡ Some r → at_rest q ≡ r
    resting Once r e = absurd (none-some r e)
    resting Persistent r e = same_Some (at_rest q) r e

    -- its member leaves the instance
    pub base_leaves : (home : ℕ → ℕ) → q.round ≡ length (family q.sig (size v.setting q.comm) q.member).rounds
        → Base (leaving v i q home) (put_in paths (key q) q.member None)
    base_leaves home over =
        base_changes v paths b i q (key q) (rests q) v.given (put_in v.seats (key q) q.member None) v.mail (put_in paths (key q) q.member None) (record {
          here = here;
          comm_is = refl;
          place_is = refl;
          was = λ _. refl;
          kin = λ r e. subst (λ (x : Live). Kin x q) (resting q.sig.mode r e) (record { comm = refl; members = refl; member = refl; place = refl; sig = refl });
          elsewhere = λ l m d. (in_off v.seats (key q) q.member None l m d, in_off paths (key q) q.member None l m d);
          active = λ r e a. absurd (false≢true (ap (λ (x : Live). x.active) (resting q.sig.mode r e) ∙ a));
          owner = λ j e. absurd (none-some j (sym (in_at v.seats (key q) q.member None) ∙ e));
          on_way = λ p e. absurd (none-some p (sym (in_at paths (key q) q.member None) ∙ e));
          contributions = λ l m h. inl h;
          gave = λ r e s h. subst (λ (x : Live). s < x.starts) (resting q.sig.mode r e) (b.gave i q here s h);
          tracks = retracked v paths b.tracks (key q) v.given v.mail (put_in paths (key q) q.member None)
              (λ l d. record {
                given = λ r. refl;
                progress =
                    λ r. ap (λ (f : ℕ → Option Progress). f r) (off_key paths (key q) (put (paths (key q)) q.member None) l d);
                mail = λ x r j. refl;
              })
              (record { given = v.given (key q); progress = put (paths (key q)) q.member None; mail = v.mail (key q) })
              (tracks_leave (size v.setting q.comm) (family_at v (key q)) (world v paths (key q)) q.member (progress q)
              (b.active i q here t).0 (over ∙ ap (λ (f : Family). length (f q.member).rounds) (sym family_own)) (b.tracks (key q)))
              (record {
                given = λ r. refl;
                progress =
                    λ r. ap (λ (f : ℕ → Option Progress). f r) (at_key paths (key q) (put (paths (key q)) q.member None) (key q) refl);
                mail = λ x r j. refl;
              });
        }) home

  -- an inactive one goes
  pub base_frees : (home : ℕ → ℕ) → q.active ≡ false → Base (freeing v i home) paths
  base_frees home idle = base_changes v paths b i q (key q) None v.given v.seats v.mail paths (record {
    here = here;
    comm_is = refl;
    place_is = refl;
    was = λ _. refl;
    kin = λ r e. absurd (none-some r e);
    elsewhere = λ l m d. (refl, refl);
    active = λ r e. absurd (none-some r e);
    owner = λ j e. absurd (vacant j e);
    on_way = λ p e. b.on_way (key q) q.member p e;
    contributions = λ l m h. inl h;
    gave = λ r e. absurd (none-some r e);
    tracks = b.tracks;
  }) home
    where
      vacant : (j : ℕ) → v.seats (key q) q.member ≡ Some j → ⊥
      vacant j e =
          let w = b.owner (key q) q.member j e in
          let f = key_fields (key w.req) (key q) w.key_is in
          let same : j ≡ i = b.alone j i w.req q w.is here f.0 f.1 w.member_is in
          let one : q ≡ w.req = same_Some q w.req (sym here ∙ (ap v.request (sym same) ∙ w.is)) in
          false≢true (sym idle ∙ (ap (λ (x : Live). x.active) one ∙ w.active))

-- a request's bytes enter the instance of its next start
module _ (v : Tables) (paths : Paths) (b : Base v paths) (i : ℕ) (q : Live) (bytes : List ℕ) (p : Progress) (h : Joining v i q bytes p) where
  abbrev k : Key
  k = at q q.starts

  pub base_joins : (home : ℕ → ℕ) → Base (joining v i q bytes p home) (put_in paths k q.member (Some p))
  base_joins home =
      base_changes v paths b i q k (Some (begun q p)) (put_in v.given k q.member (Some bytes))
      (put_in v.seats k q.member (Some i)) v.mail (put_in paths k q.member (Some p)) (record {
        here = h.here;
        comm_is = refl;
        place_is = refl;
        was = λ a. absurd (false≢true (sym h.inactive ∙ a));
        kin = λ r e. subst (λ (x : Live). Kin x q) (same_Some (begun q p) r e)
            (record { comm = refl; members = refl; member = refl; place = refl; sig = refl });
        elsewhere = λ l m d. (in_off v.seats k q.member (Some i) l m d, in_off paths k q.member (Some p) l m d);
        active = λ r e _. subst
            (λ (x : Live). (key x ≡ k) × (put_in paths k q.member (Some p) k q.member ≡ Some (progress x))
            × (put_in v.seats k q.member (Some i) k q.member ≡ Some i)) (same_Some (begun q p) r e)
            (refl, in_at paths k q.member (Some p), in_at v.seats k q.member (Some i));
        owner = λ j e. subst (λ j. Owned (put v.request i (Some (begun q p))) k q.member j)
            (same_Some i j (sym (in_at v.seats k q.member (Some i)) ∙ e))
            (record { req = begun q p; is = put_same v.request i (Some (begun q p)); active = refl; key_is = refl; member_is = refl });
        on_way = λ _ _ n. none-some i (sym n ∙ in_at v.seats k q.member (Some i));
        contributions = λ l m x. contributions l m x (in_cases v.given k q.member (Some bytes) l m);
        gave = λ r e s x. subst (λ (y : Live). s < y.starts) (same_Some (begun q p) r e)
            (gives s x (in_cases v.given k q.member (Some bytes) (at q s) q.member));
        tracks = retracked v paths b.tracks k (put_in v.given k q.member (Some bytes)) v.mail (put_in paths k q.member (Some p))
            (λ l d. record {
              given = λ r. ap (λ (f : ℕ → Option (List ℕ)). f r)
                  (off_key v.given k (put (v.given k) q.member (Some bytes)) l d);
              progress =
                  λ r. ap (λ (f : ℕ → Option Progress). f r) (off_key paths k (put (paths k) q.member (Some p)) l d);
              mail = λ x r j. refl;
            })
            (joined f (world v paths k) q.member bytes)
            (subst (λ (g : Family). Tracks n g (joined f (world v paths k) q.member bytes)) (sym (family_own v paths b i q h.here))
            (tracks_join n f (world v paths k) q.member bytes low (not_given v paths b i q h.here)
            (h.long ∙ sym ((serves_own v paths b i q h.here).takes_given q.member low)) h.are (tracks_at v paths b i q h.here q.starts)))
            (record {
              given = λ r. ap (λ (f : ℕ → Option (List ℕ)). f r) (at_key v.given k (put (v.given k) q.member (Some bytes)) k refl);
              progress = λ r. ap (λ (f : ℕ → Option Progress). f r) (at_key paths k (put (paths k) q.member (Some p)) k refl)
                  ∙ ap (λ (x : Progress). put (paths k) q.member (Some x) r) h.start;
              mail = λ x r j. refl;
            });
      }) home
    where
      n : ℕ
      n = size v.setting q.comm

      f : Family
      f = family q.sig (size v.setting q.comm)

      low : q.member < size v.setting q.comm
      low = b.member_in i q h.here

      contributions : (l : Key) (m : ℕ) → put_in v.given k q.member (Some bytes) l m ≢ None
          → ((l ≡ k) × (m ≡ q.member) × (put_in v.given k q.member (Some bytes) l m ≡ Some bytes))
          ⊎ (((l ≡ k) → (m ≡ q.member) → ⊥) × (put_in v.given k q.member (Some bytes) l m ≡ v.given l m)) → (v.given l m ≢ None) ⊎ ((l ≡ k) × (m ≡ q.member))
      contributions l m x (inl y) = inr (y.0, y.1)
      contributions l m x (inr y) = inl (λ z. x (y.1 ∙ z))

      gives : (s : ℕ) → put_in v.given k q.member (Some bytes) (at q s) q.member ≢ None
          → ((at q s ≡ k) × (q.member ≡ q.member) × (put_in v.given k q.member (Some bytes) (at q s) q.member ≡ Some bytes))
          ⊎ (((at q s ≡ k) → (q.member ≡ q.member) → ⊥) × (put_in v.given k q.member (Some bytes) (at q s) q.member ≡ v.given (at q s) q.member))
          → s < suc q.starts
      gives s x (inl y) = let e : s ≡ q.starts = ap (λ (l : Key). l.start) y.0 in omega arith
      gives s x (inr y) = let e : s < q.starts = b.gave i q h.here s (λ z. x (y.1 ∙ z)) in omega arith

-- nobody works on an instance that all have left
pub nobody : (v : Tables) (paths : Paths) (b : Base v paths) (k : Key) → IsLast v k → (m : ℕ) → paths k m ≡ None
nobody v paths b k last m = go (paths k m) refl
  where
    go : (o : Option Progress) → paths k m ≡ o → paths k m ≡ None
    go None e = e
    go (Some p) e = absurd (b.on_way k m p e (last m ((b.tracks k).members m p e).member).1)

pub base_dissolves : (v : Tables) (paths : Paths) → Base v paths → (k : Key) → IsLast v k → Base (dissolving v k) paths
base_dissolves v paths b k last = record {
  tracks = retracked v paths b.tracks k contributions messages paths
      (λ l d. record {
        given = λ r. ap (λ (f : ℕ → Option (List ℕ)). f r) (off_key v.given k (λ m. None) l d);
        progress =
            λ r. refl;
        mail = λ x r j. ap (λ (f : Mail). f x r j) (off_key v.mail k (λ x y z. None) l d);
      })
      empty (tracks_empty (size v.setting k.comm) (family_at v k))
      (record {
        given = λ r. ap (λ (f : ℕ → Option (List ℕ)). f r) (at_key v.given k (λ m. None) k refl);
        progress =
            nobody v paths b k last;
        mail = λ x r j. ap (λ (f : Mail). f x r j) (at_key v.mail k (λ x y z. None) k refl);
      });
  active = b.active;
  owner = b.owner;
  on_way = b.on_way;
  alone = b.alone;
  sized = b.sized;
  member_in = b.member_in;
  own = b.own;
  agreed = b.agreed;
  signs = b.signs;
  planned = b.planned;
  posted = λ l m x. b.posted l m (less l m x (split_key l k));
  gave = λ i q e s x. b.gave i q e s (less (at q s) q.member x (split_key (at q s) k));
}
  where
    contributions : Contributions
    contributions = put_key v.given k (λ m. None)

    messages : Key → Mail
    messages = put_key v.mail k (λ x y z. None)

    less : (l : Key) (m : ℕ) → put_key v.given k (λ m. None) l m ≢ None → (l ≡ k) ⊎ (l ≢ k) → v.given l m ≢ None
    less l m x (inl e) = absurd (x (ap (λ (f : ℕ → Option (List ℕ)). f m) (at_key v.given k (λ m. None) l e)))
    less l m x (inr d) = λ n. x (ap (λ (f : ℕ → Option (List ℕ)). f m) (off_key v.given k (λ m. None) l d) ∙ n)

-- lists aside, the condition stays
pub base_rehomes : (v : Tables) (paths : Paths) (home : ℕ → ℕ) → Base v paths → Base (rehoming v home) paths
base_rehomes v paths home b =
    record {
      tracks = b.tracks;
      active = b.active;
      owner = b.owner;
      on_way = b.on_way;
      alone = b.alone;
      sized =
          b.sized;
      member_in = b.member_in;
      own = b.own;
      agreed = b.agreed;
      signs = b.signs;
      planned = b.planned;
      posted = b.posted;
      gave = b.gave;
    }
