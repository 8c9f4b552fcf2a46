-- Each change of the tables keeps the condition.
use Rattle.std.proofs.Common.{◌≡◌, ℕ, suc, ◌<◌, ◌≤◌, ◌≢◌, ◌⊎◌, inl, inr, true, false, List, [], length, Option, Some, None, refl, sym, ap, subst, ◌∙◌, arith}
use Rattle.std.proofs.lemmas.Option.{none-some, same_Some}
use Rattle.std.proofs.lemmas.Bool.{cases_eq}
use Rattle.coll_sched.specs.declared.region.Region.{Region}
use Rattle.coll_sched.specs.declared.action.Action.{Action}
use Rattle.coll_sched.specs.declared.action.Action.TheVariants.{Send, Recv}
use Rattle.coll_sched.specs.Common.{read_of, written, wrote, IsLocal, Family, IsLawful, Progress, World, put_mail, IsNext, acted, compute, receive}
use Rattle.coll_sched.specs.Common.{send, Tracks, Over}
use Rattle.coll_kinds.specs.Puts.{put}
use Rattle.coll_kinds.proofs.Puts.{put_same, put_other, put_at, put_put}
use Rattle.coll_sched.proofs.Counts.{put_cases}
use Rattle.coll_sched.proofs.Tracked.{steps_track}
use Rattle.coll_sched.proofs.Points.{goes_over}
use Rattle.coll_sched.proofs.Views.{tracks_agrees}
use Rattle.coll_machine.specs.Common.{size, put_key, put_in}
use Rattle.coll_machine.specs.declared.key.Key.{Key}
use Rattle.coll_plans.specs.Plans.{family}
use Rattle.coll_refinement.specs.Requests.{Live, at, key, progress, advanced, begun, rests}
use Rattle.coll_refinement.specs.Tables.{Mail, Tables, Paths, family_at, world}
use Rattle.coll_refinement.specs.Sound.{Base, next, Stands, Called, Lies, Sound}
use Rattle.coll_refinement.specs.Changes.{mailed, posting, joining, acting, leaving, dissolving, freeing, rehoming}
use Rattle.coll_refinement.proofs.tables.CallTests.{Posting, Joining, IsLast}
use Rattle.coll_refinement.proofs.tables.Keys.{at_key, off_key, in_at}
use Rattle.coll_refinement.proofs.tables.OneChange.{key_fields}
use Rattle.coll_refinement.proofs.tables.OtherLists.{stands_mail, stands_sent, stands_took, called_stands}
use Rattle.coll_refinement.proofs.tables.OneRequest.{family_own, serves_own, tracks_at, base_acts, base_joins, base_leaves, base_frees}
use Rattle.coll_refinement.proofs.tables.OneRequest.{base_dissolves, base_rehomes}
use Rattle.coll_refinement.proofs.tables.PostingLists.{base_posts}

-- all is right besides where slot i lies
pub record Besides (v : Tables) (paths : Paths) (i : ℕ) : Type 0 where
  pub base : Base v paths
  pub stands : (j : ℕ) (r : Live) → j ≢ i → v.request j ≡ Some r → Stands (size v.setting r.comm) (v.mail (key r)) (v.home j) r
  pub lies : (j : ℕ) → j ≢ i → j < v.setting.slots → v.request j ≡ None → Lies v.setting.wear (v.generation j) (v.home j)
  pub numbered : (j : ℕ) (r : Live) → v.request j ≡ Some r → (j < v.setting.slots) × (v.generation j ≤ v.setting.wear)

pub besides : (v : Tables) (paths : Paths) (i : ℕ) → Sound v paths → Besides v paths i
besides v paths i s = record { base = s.base; stands = λ j r d e. s.stands j r e; lies = λ j d. s.lies j; numbered = s.numbered }

pub all_stand : (v : Tables) (paths : Paths) (i : ℕ) → Besides v paths i → (r : Live) → v.request i ≡ Some r
    → Stands (size v.setting r.comm) (v.mail (key r)) (v.home i) r → Sound v paths
all_stand v paths i s r here mine = record {
  base = s.base;
  stands = λ j x e. stand j x e (cases_eq j i);
  lies = λ j low e. s.lies j (λ x. none-some r (sym e ∙ (ap v.request x ∙ here))) low e;
  numbered = s.numbered;
}
  where
    stand : (j : ℕ) (x : Live) → v.request j ≡ Some x → (j ≡ i) ⊎ (j ≡ i → ⊥) → Stands (size v.setting x.comm) (v.mail (key x)) (v.home j) x
    stand j x e (inr d) = s.stands j x d e
    stand j x e (inl k) =
        subst (λ j. Stands (size v.setting x.comm) (v.mail (key x)) (v.home j) x) (sym k)
        (subst (λ (y : Live). Stands (size v.setting y.comm) (v.mail (key y)) (v.home i) y) (same_Some r x (sym here ∙ (ap v.request (sym k) ∙ e))) mine)

pub all_lie : (v : Tables) (paths : Paths) (i : ℕ) → Besides v paths i → v.request i ≡ None → Lies v.setting.wear (v.generation i) (v.home i) → Sound v paths
all_lie v paths i s gone mine = record {
  base = s.base;
  stands = λ j x e. s.stands j x (λ k. none-some x (sym gone ∙ (ap v.request (sym k) ∙ e))) e;
  lies = λ j low e. lie j low e (cases_eq j i);
  numbered = s.numbered;
}
  where
    lie : (j : ℕ) → j < v.setting.slots → v.request j ≡ None → (j ≡ i) ⊎ (j ≡ i → ⊥) → Lies v.setting.wear (v.generation j) (v.home j)
    lie j low e (inr d) = s.lies j d low e
    lie j low e (inl k) = subst (λ j. Lies v.setting.wear (v.generation j) (v.home j)) (sym k) mine

-- ---- one slot's request changes: the others stand as before

module _ (v : Tables) (paths : Paths) (i : ℕ) (s : Besides v paths i) (o : Option Live) (home : ℕ → ℕ) (away : (j : ℕ) → j ≢ i → home j ≡ v.home j) where
  pub others : (mail : Key → Mail)
      → ((j : ℕ) (r : Live) → j ≢ i → v.request j ≡ Some r → Stands (size v.setting r.comm) (v.mail (key r)) (v.home j) r
      → Stands (size v.setting r.comm) (mail (key r)) (v.home j) r)
      → (j : ℕ) (r : Live) → j ≢ i → put v.request i o j ≡ Some r → Stands (size v.setting r.comm) (mail (key r)) (home j) r
  others mail moved j r d e =
      let old : v.request j ≡ Some r = sym (put_other v.request i o j d) ∙ e in
      subst (λ l. Stands (size v.setting r.comm) (mail (key r)) l r) (sym (away j d)) (moved j r d old (s.stands j r d old))

  pub still : (j : ℕ) → j ≢ i → j < v.setting.slots → put v.request i o j ≡ None → Lies v.setting.wear (v.generation j) (home j)
  still j d low e = subst (λ l. Lies v.setting.wear (v.generation j) l) (sym (away j d)) (s.lies j d low (sym (put_other v.request i o j d) ∙ e))

  pub kept : (i < v.setting.slots) × (v.generation i ≤ v.setting.wear) → (j : ℕ) (r : Live) → put v.request i o j ≡ Some r
      → (j < v.setting.slots) × (v.generation j ≤ v.setting.wear)
  kept mine j r e = go (put_cases v.request i o j (Some r) e)
    where
      go : ((j ≡ i) × (o ≡ Some r)) ⊎ ((j ≢ i) × (v.request j ≡ Some r)) → (j < v.setting.slots) × (v.generation j ≤ v.setting.wear)
      go (inl h) = subst (λ j. (j < v.setting.slots) × (v.generation j ≤ v.setting.wear)) (sym h.0) mine
      go (inr h) = s.numbered j r h.1

-- ---- over ends of rounds

abbrev pub at_point : World → ℕ → Progress → World
at_point w m p = record { given = w.given; progress = put w.progress m (Some p); mail = w.mail }

pub advanced_over : (n : ℕ) (f : Family) (w : World) (m : ℕ) (p o : Progress) → o.buf ≡ p.buf
    → Over (f m) p.round p.index o.round o.index → Tracks n f (at_point w m p) → Tracks n f (at_point w m o)
advanced_over n f w m p o b over t =
    subst (λ (g : ℕ → Option Progress). Tracks n f (record { given = w.given; progress = g; mail = w.mail }))
    (put_put w.progress m (Some p) (Some (record { round = o.round; index = o.index; buf = p.buf }))
    ∙ (λ z. put w.progress m (Some (record { round = o.round; index = o.index; buf = sym b z }))))
    (goes_over n f (at_point w m p) m p o.round o.index t (put_same w.progress m (Some p)) over)

-- ---- an action, of one collective

module _ (n : ℕ) (f : Family) (lawful : IsLawful n f) (w : World) (t : Tracks n f w) (r : ℕ) (p : Progress) where
  tracks_compute : (a : Action) → IsNext f w r p a → IsLocal a → Tracks n f (acted w r p (wrote (λ q. []) p.buf a p.buf) w.mail)
  tracks_compute a h loc = steps_track n f lawful w (acted w r p (wrote (λ q. []) p.buf a p.buf) w.mail) (compute r p a h loc) t

  tracks_receive : (of : ℕ) (into : Region) (bytes : List ℕ) → IsNext f w r p (Recv of into) → w.mail of r p.round ≡ Some bytes
      → Tracks n f (acted w r p (written p.buf into bytes) (put_mail w.mail of r p.round None))
  tracks_receive of into bytes h there =
      steps_track n f lawful w (acted w r p (written p.buf into bytes) (put_mail w.mail of r p.round None)) (receive r p of into bytes h there) t

  tracks_send : (to : ℕ) (from : Region) → IsNext f w r p (Send to from)
      → Tracks n f (acted w r p p.buf (put_mail w.mail r to p.round (Some (read_of p.buf from))))
  tracks_send to from h = steps_track n f lawful w (acted w r p p.buf (put_mail w.mail r to p.round (Some (read_of p.buf from)))) (send r p to from h) t

-- ---- init, start, retire, free

module _ (v : Tables) (paths : Paths) (i : ℕ) (q : Live) (home : ℕ → ℕ) (away : (j : ℕ) → j ≢ i → home j ≡ v.home j) where
  pub besides_posts : Besides v paths i → Posting v i q → Besides (posting v i q home) paths i
  besides_posts s h = record {
    base = base_posts v paths s.base i q home h;
    stands = others v paths i s (Some q) home away v.mail (λ j r d e st. st);
    lies = λ j d low e. subst (λ g. Lies v.setting.wear g (home j)) (sym (put_other v.generation i (suc (v.generation i)) j d))
        (still v paths i s (Some q) home away j d low e);
    numbered = λ j r e. new j r (put_cases v.request i (Some q) j (Some r) e);
  }
    where
      new : (j : ℕ) (r : Live) → ((j ≡ i) × (Some q ≡ Some r)) ⊎ ((j ≢ i) × (v.request j ≡ Some r))
          → (j < v.setting.slots) × (put v.generation i (suc (v.generation i)) j ≤ v.setting.wear)
      new j r (inl x) = (
        subst (λ j. j < v.setting.slots) (sym x.0) h.low,
        subst (λ g. g ≤ v.setting.wear) (sym (put_at v.generation i (suc (v.generation i)) j x.0))
            (let w : v.generation i < v.setting.wear = h.unworn in omega arith),
      )
      new j r (inr x) = let old =
          s.numbered j r x.1 in (old.0, subst (λ g. g ≤ v.setting.wear) (sym (put_other v.generation i (suc (v.generation i)) j x.0)) old.1)

  -- bytes enter, and the ends of rounds before the first action are passed over
  pub besides_joins : Besides v paths i → (bytes : List ℕ) (p o : Progress) → Joining v i q bytes p → o.buf ≡ p.buf
      → Over (family q.sig (size v.setting q.comm) q.member) p.round p.index o.round o.index
      → Besides (joining v i q bytes o home) (put_in (put_in paths (at q q.starts) q.member (Some p)) (at q q.starts) q.member (Some o)) i
  besides_joins s bytes p o h e over = record {
    base = subst (λ (x : Tables). Base x (put_in ways (at q q.starts) q.member (Some o))) same
        (base_acts new ways b i (begun q p) here refl o v.mail home tracked (λ l d. refl));
    stands = others v paths i s (Some (begun q o)) home away v.mail (λ j r d e st. st);
    lies = still v paths i s (Some (begun q o)) home away;
    numbered = kept v paths i s (Some (begun q o)) home away (s.numbered i q h.here);
  }
    where
      new : Tables
      new = joining v i q bytes p home

      ways : Paths
      ways = put_in paths (at q q.starts) q.member (Some p)

      b : Base new ways
      b = base_joins v paths s.base i q bytes p h home

      here : put v.request i (Some (begun q p)) i ≡ Some (begun q p)
      here = put_same v.request i (Some (begun q p))

      same : acting new i (begun q p) o v.mail home ≡ joining v i q bytes o home
      same = λ z. record {
        setting = v.setting;
        generation = v.generation;
        request =
            λ j. put_put v.request i (Some (begun q p)) (Some (begun q o)) z j;
        home = home;
        posts = v.posts;
        signed =
            v.signed;
        given = new.given;
        seats = new.seats;
        mail = v.mail;
      }

      tracked : Tracks (size v.setting q.comm) (family_at v (at q q.starts))
          (record { given = new.given (at q q.starts); progress = put (ways (at q q.starts)) q.member (Some o); mail = v.mail (at q q.starts) })
      tracked = advanced_over (size v.setting q.comm) (family_at v (at q q.starts)) (world new ways (at q q.starts)) q.member p o e
          (subst (λ (f : Family). Over (f q.member) p.round p.index o.round o.index) (sym (family_own v paths s.base i q h.here)) over)
          (tracks_agrees (size v.setting q.comm) (family_at v (at q q.starts)) (world new ways (at q q.starts))
          (at_point (world new ways (at q q.starts)) q.member p)
          (record { given = λ r. refl; progress = λ r. stays r (cases_eq r q.member); mail = λ x r j. refl }) (b.tracks (at q q.starts)))
        where
          stays : (r : ℕ) → (r ≡ q.member) ⊎ (r ≡ q.member → ⊥) → put (ways (at q q.starts)) q.member (Some p) r ≡ ways (at q q.starts) r
          stays r (inl x) =
              ap (put (ways (at q q.starts)) q.member (Some p)) x
              ∙ (put_same (ways (at q q.starts)) q.member (Some p) ∙ (sym (in_at paths (at q q.starts) q.member (Some p)) ∙ ap (ways (at q q.starts)) (sym x)))
          stays r (inr d) = put_other (ways (at q q.starts)) q.member (Some p) r d

  pub besides_leaves : Besides v paths i → v.request i ≡ Some q → q.active ≡ true
      → q.round ≡ length (family q.sig (size v.setting q.comm) q.member).rounds → Besides (leaving v i q home) (put_in paths (key q) q.member None) i
  besides_leaves s here t over = record {
    base = base_leaves v paths s.base i q here t home over;
    stands = others v paths i s (rests q) home away v.mail (λ j r d e st. st);
    lies = still v paths i s (rests q) home away;
    numbered = kept v paths i s (rests q) home away (s.numbered i q here);
  }

  pub besides_frees : Besides v paths i → v.request i ≡ Some q → q.active ≡ false → Besides (freeing v i home) paths i
  besides_frees s here f = record {
    base = base_frees v paths s.base i q here home f;
    stands = others v paths i s None home away v.mail (λ j r d e st. st);
    lies = still v paths i s None home away;
    numbered = kept v paths i s None home away (s.numbered i q here);
  }

pub besides_dissolves : (v : Tables) (paths : Paths) (i : ℕ) → Besides v paths i → (k : Key) → IsLast v k → Besides (dissolving v k) paths i
besides_dissolves v paths i s k last = record {
  base = base_dissolves v paths s.base k last;
  stands = λ j r d e. stands_mail (size v.setting r.comm) (v.home j) (v.mail (key r)) (put_key v.mail k (λ x y z. None) (key r))
      r (λ t. off_key v.mail k (λ x y z. None) (key r) (other j r e t)) (s.stands j r d e);
  lies = s.lies;
  numbered = s.numbered;
}
  where
    other : (j : ℕ) (r : Live) → v.request j ≡ Some r → r.active ≡ true → key r ≢ k
    other j r e t x =
        let low : r.member < size v.setting k.comm = subst (λ (l : Key). r.member < size v.setting l.comm) x (s.base.member_in j r e) in
        none-some j (sym (last r.member low).1 ∙ (ap (λ (l : Key). v.seats l r.member) (sym x) ∙ (s.base.active j r e t).1))

-- ---- one action

-- after a Send one other request may be called: the one that is seated there
pub record Sent (v : Tables) (paths : Paths) (k : Key) (to : ℕ) : Type 0 where
  pub base : Base v paths
  pub stands : (j : ℕ) (r : Live) → v.request j ≡ Some r
      → Stands (size v.setting r.comm) (v.mail (key r)) (v.home j) r ⊎ (Called (size v.setting r.comm) (v.mail (key r)) (v.home j) r × (v.seats k to ≡ Some j))
  pub lies : (i : ℕ) → i < v.setting.slots → v.request i ≡ None → Lies v.setting.wear (v.generation i) (v.home i)
  pub numbered : (i : ℕ) (q : Live) → v.request i ≡ Some q → (i < v.setting.slots) × (v.generation i ≤ v.setting.wear)

module _ (v : Tables) (paths : Paths) (s : Sound v paths) (i : ℕ) (q : Live) (here : v.request i ≡ Some q) (t : q.active ≡ true) where
  is_next : (a : Action) → next (size v.setting q.comm) q ≡ Some a
      → IsNext (family q.sig (size v.setting q.comm)) (world v paths (key q)) q.member (progress q) a
  is_next a e = ((s.base.active i q here t).0, e)

  other_member : (j : ℕ) (r : Live) → j ≢ i → v.request j ≡ Some r → key r ≡ key q → r.member ≢ q.member
  other_member j r d e k m = let f = key_fields (key r) (key q) k in d (s.base.alone j i r q e here f.0 f.1 m)

  module _ (o : Progress) (home : ℕ → ℕ) (away : (j : ℕ) → j ≢ i → home j ≡ v.home j) where
    abbrev track : (Key → Mail) → Type 0
    track mail =
        Tracks (size v.setting q.comm) (family_at v (key q))
        (record { given = v.given (key q); progress = put (paths (key q)) q.member (Some o); mail = mail (key q) })

    new_here : put v.request i (Some (advanced q o)) i ≡ Some (advanced q o)
    new_here = put_same v.request i (Some (advanced q o))

    -- a Copy or a Combine
    pub sound_compute : (a : Action) → next (size v.setting q.comm) q ≡ Some a → IsLocal a
        → o.buf ≡ wrote (λ x. []) q.buf a q.buf → Over (family q.sig (size v.setting q.comm) q.member) q.round (suc q.index) o.round o.index
        → Stands (size v.setting q.comm) (v.mail (key q)) (home i) (advanced q o) → Sound (acting v i q o v.mail home) (put_in paths (key q) q.member (Some o))
    sound_compute a e loc b over mine = all_stand (acting v i q o v.mail home) (put_in paths (key q) q.member (Some o)) i (record {
      base = base_acts v paths s.base i q here t o v.mail home tracked (λ k d. refl);
      stands = others v paths i (besides v paths i s) (Some (advanced q o)) home away v.mail (λ j r d e st. st);
      lies = still v paths i (besides v paths i s) (Some (advanced q o)) home away;
      numbered = kept v paths i (besides v paths i s) (Some (advanced q o)) home away (s.numbered i q here);
    }) (advanced q o) new_here mine
      where
        tracked : track v.mail
        tracked = subst (λ (f : Family). Tracks (size v.setting q.comm) f
            (record { given = v.given (key q); progress = put (paths (key q)) q.member (Some o); mail = v.mail (key q) }))
            (sym (family_own v paths s.base i q here))
            (advanced_over (size v.setting q.comm) (family q.sig (size v.setting q.comm)) (world v paths (key q)) q.member
            (record { round = q.round; index = suc q.index; buf = wrote (λ x. []) q.buf a q.buf }) o b over
            (tracks_compute (size v.setting q.comm) (family q.sig (size v.setting q.comm))
            (serves_own v paths s.base i q here).lawful (world v paths (key q))
            (tracks_at v paths s.base i q here (key q).start) q.member (progress q) a (is_next a e) loc))

    -- a Recv whose message is there
    pub sound_receive : (of : ℕ) (into : Region) (bytes : List ℕ) → next (size v.setting q.comm) q ≡ Some (Recv of into)
        → v.mail (key q) of q.member q.round ≡ Some bytes → o.buf ≡ written q.buf into bytes
        → Over (family q.sig (size v.setting q.comm) q.member) q.round (suc q.index) o.round o.index
        → Stands (size v.setting q.comm) (mailed v.mail (key q) of q.member q.round None (key q)) (home i) (advanced q o)
        → Sound (acting v i q o (mailed v.mail (key q) of q.member q.round None) home) (put_in paths (key q) q.member (Some o))
    sound_receive of into bytes e there b over mine =
        all_stand (acting v i q o (mailed v.mail (key q) of q.member q.round None) home) (put_in paths (key q) q.member (Some o)) i (record {
          base = base_acts v paths s.base i q here t o (mailed v.mail (key q) of q.member q.round None) home tracked
              (λ k d. off_key v.mail (key q) (put_mail (v.mail (key q)) of q.member q.round None) k d);
          stands = others v paths i (besides v paths i s) (Some (advanced q o)) home away
              (mailed v.mail (key q) of q.member q.round None)
              (λ j r d h st. stands_took (size v.setting r.comm) (v.home j) v.mail (key q) of q.member q.round r (λ _ k. other_member j r d h k) st);
          lies = still v paths i (besides v paths i s) (Some (advanced q o)) home away;
          numbered = kept v paths i (besides v paths i s) (Some (advanced q o)) home away (s.numbered i q here);
        }) (advanced q o) new_here mine
      where
        tracked : track (mailed v.mail (key q) of q.member q.round None)
        tracked = subst (λ (m : Mail). Tracks (size v.setting q.comm) (family_at v (key q))
            (record { given = v.given (key q); progress = put (paths (key q)) q.member (Some o); mail = m }))
            (sym (at_key v.mail (key q) (put_mail (v.mail (key q)) of q.member q.round None) (key q) refl))
            (subst (λ (f : Family). Tracks (size v.setting q.comm) f
            (record {
              given = v.given (key q);
              progress = put (paths (key q)) q.member (Some o);
              mail =
                  put_mail (v.mail (key q)) of q.member q.round None;
            })) (sym (family_own v paths s.base i q here))
            (advanced_over (size v.setting q.comm) (family q.sig (size v.setting q.comm))
            (record { given = v.given (key q); progress = paths (key q); mail = put_mail (v.mail (key q)) of q.member q.round None })
            q.member (record { round = q.round; index = suc q.index; buf = written q.buf into bytes }) o b over
            (tracks_receive (size v.setting q.comm) (family q.sig (size v.setting q.comm))
            (serves_own v paths s.base i q here).lawful (world v paths (key q))
            (tracks_at v paths s.base i q here (key q).start) q.member (progress q) of into bytes (is_next (Recv of into) e) there)))

    -- a Send
    pub sent : (to : ℕ) (from : Region) → next (size v.setting q.comm) q ≡ Some (Send to from) → o.buf ≡ q.buf
        → Over (family q.sig (size v.setting q.comm) q.member) q.round (suc q.index) o.round o.index
        → Stands (size v.setting q.comm) (mailed v.mail (key q) q.member to q.round (Some (read_of q.buf from)) (key q)) (home i) (advanced q o)
        → Sent (acting v i q o (mailed v.mail (key q) q.member to q.round (Some (read_of q.buf from))) home)
        (put_in paths (key q) q.member (Some o)) (key q) to
    sent to from e b over mine = record {
      base = base_acts v paths s.base i q here t o messages home tracked
          (λ k d. off_key v.mail (key q) (put_mail (v.mail (key q)) q.member to q.round (Some (read_of q.buf from))) k d);
      stands = λ j r h. go j r (put_cases v.request i (Some (advanced q o)) j (Some r) h);
      lies = λ j low h. lie j low h (cases_eq j i);
      numbered = kept v paths i (besides v paths i s) (Some (advanced q o)) home away (s.numbered i q here);
    }
      where
        messages : Key → Mail
        messages = mailed v.mail (key q) q.member to q.round (Some (read_of q.buf from))

        lie : (j : ℕ) → j < v.setting.slots → put v.request i (Some (advanced q o)) j ≡ None → (j ≡ i) ⊎ (j ≡ i → ⊥)
            → Lies v.setting.wear (v.generation j) (home j)
        lie j low h (inl x) = absurd (none-some (advanced q o) (sym h ∙ (ap (put v.request i (Some (advanced q o))) x ∙ new_here)))
        lie j low h (inr d) = still v paths i (besides v paths i s) (Some (advanced q o)) home away j d low h

        tracked : track messages
        tracked = subst (λ (m : Mail). Tracks (size v.setting q.comm) (family_at v (key q))
            (record { given = v.given (key q); progress = put (paths (key q)) q.member (Some o); mail = m }))
            (sym (at_key v.mail (key q) (put_mail (v.mail (key q)) q.member to q.round (Some (read_of q.buf from))) (key q) refl))
            (subst (λ (f : Family). Tracks (size v.setting q.comm) f
            (record {
              given = v.given (key q);
              progress = put (paths (key q)) q.member (Some o);
              mail =
                  put_mail (v.mail (key q)) q.member to q.round (Some (read_of q.buf from));
            })) (sym (family_own v paths s.base i q here))
            (advanced_over (size v.setting q.comm) (family q.sig (size v.setting q.comm))
            (record {
              given = v.given (key q);
              progress = paths (key q);
              mail =
                  put_mail (v.mail (key q)) q.member to q.round (Some (read_of q.buf from));
            }) q.member
            (record { round = q.round; index = suc q.index; buf = q.buf }) o b over
            (tracks_send (size v.setting q.comm) (family q.sig (size v.setting q.comm))
            (serves_own v paths s.base i q here).lawful (world v paths (key q))
            (tracks_at v paths s.base i q here (key q).start) q.member (progress q) to from (is_next (Send to from) e))))

        either : (j : ℕ) (r : Live) → j ≢ i → v.request j ≡ Some r
            → Stands (size v.setting r.comm) (messages (key r)) (v.home j) r
            ⊎ (Called (size v.setting r.comm) (messages (key r)) (v.home j) r × (key r ≡ key q) × (r.member ≡ to))
            → Stands (size v.setting r.comm) (messages (key r)) (home j) r
            ⊎ (Called (size v.setting r.comm) (messages (key r)) (home j) r × (v.seats (key q) to ≡ Some j))
        either j r d h (inl st) = inl (subst (λ l. Stands (size v.setting r.comm) (messages (key r)) l r) (sym (away j d)) st)
        either j r d h (inr c) =
            inr (
              subst (λ l. Called (size v.setting r.comm) (messages (key r)) l r) (sym (away j d)) c.0,
              (λ z. v.seats (sym c.1 z) (sym c.2 z))
                  ∙ (s.base.active j r h c.0.active).1,
            )

        go : (j : ℕ) (r : Live) → ((j ≡ i) × (Some (advanced q o) ≡ Some r)) ⊎ ((j ≢ i) × (v.request j ≡ Some r))
            → Stands (size v.setting r.comm) (messages (key r)) (home j) r
            ⊎ (Called (size v.setting r.comm) (messages (key r)) (home j) r × (v.seats (key q) to ≡ Some j))
        go j r (inl h) =
            inl (subst (λ (x : Live). Stands (size v.setting x.comm) (messages (key x)) (home j) x)
            (same_Some (advanced q o) r h.1) (subst (λ l. Stands (size v.setting q.comm) (messages (key q)) l (advanced q o)) (ap home (sym h.0)) mine))
        go j r (inr h) =
            either j r h.0 h.1 (stands_sent (size v.setting r.comm) (v.home j) v.mail (key q) q.member to q.round (read_of q.buf from) r (s.stands j r h.1))

-- direct delivery: only the seated request is looked at
module _ (v : Tables) (paths : Paths) (k : Key) (to : ℕ) (s : Sent v paths k to) where
  -- nobody is seated, or the one that is isn't called
  pub none_called : ((j : ℕ) (r : Live) → v.seats k to ≡ Some j → v.request j ≡ Some r → Called (size v.setting r.comm) (v.mail (key r)) (v.home j) r → ⊥)
      → Sound v paths
  none_called none = record { base = s.base; stands = λ j r e. go j r e (s.stands j r e); lies = s.lies; numbered = s.numbered }
    where
      go : (j : ℕ) (r : Live) → v.request j ≡ Some r
          → Stands (size v.setting r.comm) (v.mail (key r)) (v.home j) r
          ⊎ (Called (size v.setting r.comm) (v.mail (key r)) (v.home j) r × (v.seats k to ≡ Some j))
          → Stands (size v.setting r.comm) (v.mail (key r)) (v.home j) r
      go j r e (inl st) = st
      go j r e (inr c) = absurd (none j r c.1 e c.0)

  -- it is called, and goes to Ready
  pub delivered : (i : ℕ) (q : Live) (home : ℕ → ℕ) → v.seats k to ≡ Some i → v.request i ≡ Some q
      → Called (size v.setting q.comm) (v.mail (key q)) (v.home i) q → home i ≡ 2 → ((j : ℕ) → j ≢ i → home j ≡ v.home j) → Sound (rehoming v home) paths
  delivered i q home seat here c two away = all_stand (rehoming v home) paths i (record {
    base = base_rehomes v paths home s.base;
    stands = λ j r d e. subst (λ l. Stands (size v.setting r.comm) (v.mail (key r)) l r) (sym (away j d)) (go j r d (s.stands j r e));
    lies = λ j d low e. subst (λ l. Lies v.setting.wear (v.generation j) l) (sym (away j d)) (s.lies j low e);
    numbered = s.numbered;
  }) q here (subst (λ l. Stands (size v.setting q.comm) (v.mail (key q)) l q) (sym two) (called_stands (size v.setting q.comm) (v.home i) (v.mail (key q)) q c))
    where
      go : (j : ℕ) (r : Live) → j ≢ i
          → Stands (size v.setting r.comm) (v.mail (key r)) (v.home j) r
          ⊎ (Called (size v.setting r.comm) (v.mail (key r)) (v.home j) r × (v.seats k to ≡ Some j))
          → Stands (size v.setting r.comm) (v.mail (key r)) (v.home j) r
      go j r d (inl st) = st
      go j r d (inr x) = absurd (d (same_Some j i (sym x.1 ∙ seat)))
