-- Where nothing is on Ready or Running, a start to which all have given is Done at each member that works on it; and an engine just opened.
use Rattle.std.proofs.Common.{◌≡◌, ℕ, zero, suc, ◌+◌, ◌*◌, ◌≤◌, ◌≢◌, ◌⊎◌, inl, inr, true, length, slice_get, unwrap_or, List, [], ◌∷◌, Option, Some}
use Rattle.std.proofs.Common.{None, refl, sym, ap, subst, ◌∙◌, arith}
use Rattle.std.proofs.lemmas.Option.{none-some, same_Some}
use Rattle.std.proofs.lemmas.Bool.{false≢true}
use Rattle.coll_sched.specs.declared.action.Action.{Action}
use Rattle.coll_sched.specs.declared.region.Region.{Region}
use Rattle.coll_sched.specs.declared.action.Action.TheVariants.{Recv}
use Rattle.coll_sched.specs.Common.{Family, actions_at, Progress}
use Rattle.coll_sched.specs.Heart.{IsQuiet}
use Rattle.coll_sched.proofs.Tracked.{tracked_finishes, tracked_finishes_heard}
use Rattle.coll_sched.proofs.Track.{tracks_empty}
use Rattle.coll_machine.specs.Settings.{size}
use Rattle.coll_machine.specs.declared.key.Key.{Key}
use Rattle.coll_plans.specs.Plans.{family}
use Rattle.coll_refinement.specs.Requests.{Live, before, key, progress}
use Rattle.coll_refinement.specs.Tables.{Mail, Tables, Paths, family_at, opened, world}
use Rattle.coll_refinement.specs.Sound.{Stands, ready, running, idle, queued, done, Sound}
use Rattle.coll_refinement.proofs.tables.Statements.{QuietIsFinished, QuietHasHeard, DoneHasHeard, OpenKeeps}
use Rattle.coll_refinement.specs.FreeLocks.{NothingGoes}
use Rattle.coll_refinement.proofs.tables.OneRequest.{family_own, serves_own, tracks_at}
use Rattle.coll_refinement.proofs.tables.LiveRequests.{has_heard}

pub slice_get_past : {X : Type 0} (xs : List X) (i : ℕ) → length xs ≤ i → slice_get xs i ≡ None
slice_get_past [] i h = refl
slice_get_past (x ∷ xs) zero h = absurd (omega arith)
slice_get_past (x ∷ xs) (suc i) h = slice_get_past xs i (omega arith)

pub open_keeps : OpenKeeps
open_keeps g home wear free = record {
  paths = λ k m. None;
  sound = record {
    base = record {
      tracks = λ k. tracks_empty (size g k.comm) (family_at (opened g home) k);
      active = λ i q e. absurd (none-some q e);
      owner = λ k m i e. absurd (none-some i e);
      on_way = λ k m p e. absurd (none-some p e);
      alone = λ i j q r e. absurd (none-some q e);
      sized = λ i q e. absurd (none-some q e);
      member_in = λ i q e. absurd (none-some q e);
      own = λ i q e. absurd (none-some q e);
      agreed = λ c m p s e. absurd (none-some s e);
      signs = λ c p s e. absurd (none-some s e);
      planned = λ c p s e. absurd (none-some s e);
      posted = λ k m e. absurd (e refl);
      gave = λ i q e. absurd (none-some q e);
    };
    stands = λ i q e. absurd (none-some q e);
    lies = λ i low e. inl (free i low, wear);
    numbered = λ i q e. absurd (none-some q e);
  };
}

module _ (v : Tables) (paths : Paths) (s : Sound v paths) (still : NothingGoes v) where
  abbrev Waits : (Family) → Mail → ℕ → Progress → Type 0
  Waits f mail r p =
      (p.round ≡ length (f r).rounds)
      ⊎ ((of : ℕ) × (into : Region) × (slice_get (actions_at f p.round r) p.index ≡ Some (Recv of into)) × (mail of r p.round ≡ None))

  waits : (n l : ℕ) (mail : Mail) (q : Live) → q.active ≡ true → l ≢ 2 → l ≢ 3 → Stands n mail l q → Waits (family q.sig n) mail q.member (progress q)
  waits n l mail q t a b (ready act x e nx d) = absurd (a e)
  waits n l mail q t a b (running op ty y z into x e nx) = absurd (b e)
  waits n l mail q t a b (idle f e p) = absurd (false≢true (sym f ∙ t))
  waits n l mail q t a b (queued of into x e nx none) = inr (of, into, nx, none)
  waits n l mail q t a b (done x e r) = inl r

  quiet_world : (k : Key) → IsQuiet (family_at v k) (world v paths k)
  quiet_world k r p h = go (v.seats k r) refl
    where
      go : (o : Option ℕ) → v.seats k r ≡ o → Waits (family_at v k) (v.mail k) r p
      go None e = absurd (s.base.on_way k r p h e)
      go (Some i) e =
          let o = s.base.owner k r i e in
          let same : progress o.req ≡ p =
          same_Some (progress o.req) p (sym (s.base.active i o.req o.is o.active).0 ∙ ((λ z. paths (o.key_is z) (o.member_is z)) ∙ h)) in
          let mine : Waits (family o.req.sig (size v.setting o.req.comm)) (v.mail (key o.req)) o.req.member (progress o.req) =
          waits (size v.setting o.req.comm) (v.home i) (v.mail (key o.req)) o.req o.active (still i o.req o.is).0
          (still i o.req o.is).1 (s.stands i o.req o.is) in
          subst (λ (x : Progress). Waits (family_at v k) (v.mail k) r x) same
          (subst (λ m. Waits (family_at v k) (v.mail k) m (progress o.req)) o.member_is
          (subst (λ (l : Key). Waits (family_at v l) (v.mail l) o.req.member (progress o.req)) o.key_is
          (subst (λ (f : Family). Waits f (v.mail (key o.req)) o.req.member (progress o.req)) (sym (family_own v paths s.base i o.req o.is)) mine)))

  rests_done : (n l : ℕ) (mail : Mail) (q : Live) → q.active ≡ true → q.round ≡ length (family q.sig n q.member).rounds → l ≢ 2
      → l ≢ 3 → Stands n mail l q → l ≡ 6 + 3 * q.comm
  rests_done n l mail q t over a b (ready act x e nx d) = absurd (a e)
  rests_done n l mail q t over a b (running op ty y z into x e nx) = absurd (b e)
  rests_done n l mail q t over a b (idle f e p) = absurd (false≢true (sym f ∙ t))
  rests_done n l mail q t over a b (done x e r) = e
  rests_done n l mail q t over a b (queued of into x e nx none) =
      absurd (none-some (Recv of into) (sym (past (family q.sig n) q.member q.round q.index over) ∙ nx))
    where
      past : (f : Family) (m j i : ℕ) → j ≡ length (f m).rounds → slice_get (actions_at f j m) i ≡ None
      past f m j i e =
          ap (λ (xs : List Action). slice_get xs i) (ap (λ (o : Option (List Action)). unwrap_or o []) (slice_get_past (f m).rounds j (omega arith)))

pub quiet_is_finished : QuietIsFinished
quiet_is_finished v s still i q here t all =
    let f : Family = family q.sig (size v.setting q.comm) in
    let over : q.round ≡ length (f q.member).rounds =
    tracked_finishes (size v.setting q.comm) f (serves_own v s.paths s.sound.base i q here).lawful (world v s.paths (key q))
    (tracks_at v s.paths s.sound.base i q here (before q.starts)) all
    (subst (λ (f : Family). IsQuiet f (world v s.paths (key q))) (family_own v s.paths s.sound.base i q here) (quiet_world v s.paths s.sound still (key q)))
    q.member (progress q) (s.sound.base.active i q here t).0 in
    rests_done v s.paths s.sound still (size v.setting q.comm) (v.home i) (v.mail (key q)) q t over (still i q here).0
    (still i q here).1 (s.sound.stands i q here)

pub quiet_has_heard : QuietHasHeard
quiet_has_heard v s still i q here t heard =
    let f : Family = family q.sig (size v.setting q.comm) in
    let quiet : IsQuiet f (world v s.paths (key q)) =
    subst (λ (f : Family). IsQuiet f (world v s.paths (key q))) (family_own v s.paths s.sound.base i q here)
    (quiet_world v s.paths s.sound still (key q)) in
    let over : q.round ≡ length (f q.member).rounds =
    tracked_finishes_heard (size v.setting q.comm) f (serves_own v s.paths s.sound.base i q here).lawful
    (world v s.paths (key q)) (tracks_at v s.paths s.sound.base i q here (before q.starts)) quiet q.member (progress q)
    (s.sound.base.active i q here t).0 heard in
    rests_done v s.paths s.sound still (size v.setting q.comm) (v.home i) (v.mail (key q)) q t over (still i q here).0
    (still i q here).1 (s.sound.stands i q here)

pub done_has_heard : DoneHasHeard
done_has_heard v s i q here list = has_heard v s.paths s.sound i q here list
