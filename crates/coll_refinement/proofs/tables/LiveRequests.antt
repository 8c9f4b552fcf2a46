-- What the condition says of a request to the machine: its count, its instance, and its value when it is done.
use Rattle.std.proofs.Common.{◌≡◌, ℕ, zero, suc, ◌+◌, ◌*◌, ◌<◌, ◌≢◌, ◌⊎◌, inl, inr, Bool, true, false, cond, eqb, List, ◌∷◌, length, map, replicate}
use Rattle.std.proofs.Common.{unwrap_or, Option, Some, None, refl, sym, ap, ◌∙◌, arith, subst}
use Rattle.std.specs.List.{range_with_len}
use Rattle.std.proofs.lemmas.Option.{none-some, same_Some}
use Rattle.std.proofs.lemmas.Bool.{cases_eq}
use Rattle.coll_kinds.specs.Common.{given_len, put}
use Rattle.coll_ops.specs.Values.{value}
use Rattle.coll_sched.specs.Families.{Family, Heard}
use Rattle.coll_sched.specs.Worlds.{filled as filled_by}
use Rattle.coll_sched.specs.Served.{listing, Serves, HoldsValue}
use Rattle.coll_kinds.proofs.Puts.{put_same, put_other}
use Rattle.coll_sched.proofs.Track.{heard_self}
use Rattle.coll_sched.proofs.Serving.{value_held}
use Rattle.coll_machine.specs.Common.{size, Request, Works, IsOver}
use Rattle.coll_machine.specs.declared.key.Key.{Key}
use Rattle.coll_plans.specs.Plans.{family}
use Rattle.coll_refinement.specs.Requests.{Live, before, key, progress, as_request}
use Rattle.coll_refinement.specs.Tables.{Tables, Paths, family_at, world, asked, state}
use Rattle.coll_refinement.specs.Sound.{Base, Sound}
use Rattle.coll_refinement.proofs.tables.CallTests.{IsLast}
use Rattle.coll_refinement.specs.FreeLocks.{HasHeard, Holding}
use Rattle.coll_refinement.proofs.tables.OtherLists.{finished_there}
use Rattle.coll_refinement.proofs.tables.OneRequest.{serves_own, tracks_at}

-- ---- functions with another value, seen through another function

pub map_put : {X Y : Type 0} (f : X → Y) (g : ℕ → X) (k : ℕ) (x : X) → (λ i. f (put g k x i)) ≡ put (λ i. f (g i)) k (f x)
map_put {X} {Y} f g k x = λ z i. here i (eqb i k) z
  where
    here : (i : ℕ) (t : Bool) → f (cond t x (g i)) ≡ cond t (f x) (f (g i))
    here i true = refl
    here i false = refl

pub put_self : {X : Type 0} (f : ℕ → X) (k : ℕ) (x : X) → f k ≡ x → put f k x ≡ f
put_self {X} f k x e = λ z i. here i (cases_eq i k) z
  where
    here : (i : ℕ) → (i ≡ k) ⊎ (i ≡ k → ⊥) → put f k x i ≡ f i
    here i (inl h) = ap (put f k x) h ∙ (put_same f k x ∙ (sym e ∙ ap f (sym h)))
    here i (inr d) = put_other f k x i d

-- ---- the count of starts

pub before_less : (n : ℕ) → before n < n → suc (before n) ≡ n
before_less zero h = absurd (omega arith)
before_less (suc n) h = refl

module _ (v : Tables) (paths : Paths) (b : Base v paths) where
  -- an active request has given to the instance that it works on
  pub has_given : (i : ℕ) (q : Live) → v.request i ≡ Some q → q.active ≡ true → v.given (key q) q.member ≢ None
  has_given i q here t =
      ((b.tracks (key q)).members q.member (progress q) (b.active i q here t).0).heard q.member (heard_self (family_at v (key q)) q.round q.member)

  -- so it was started, and works on its last start
  pub counted : (i : ℕ) (q : Live) → v.request i ≡ Some q → q.active ≡ true → suc (before q.starts) ≡ q.starts
  counted i q here t = before_less q.starts (b.gave i q here (before q.starts) (has_given i q here t))

  asked_some : (o : Option Live) (r : Request) → asked o ≡ Some r → (q : Live) × (o ≡ Some q) × (as_request q ≡ r)
  asked_some None r e = absurd (none-some r e)
  asked_some (Some q) r e = (q, refl, same_Some (as_request q) r e)

  -- the machine's test of "all have left" is that of the mailbox
  pub last_is_over : (k : Key) → IsLast v k → IsOver v.setting (state v) k
  last_is_over k last m low = ((last m low).0, idle)
    where
      idle : Works (state v) k m → ⊥
      idle w =
          let o = asked_some (v.request w.slot) w.request w.is in
          let q : Live = o.0 in
          let count : suc w.start ≡ q.starts = w.last ∙ ap (λ (r : Request). r.starts) (sym o.2) in
          let same : key q ≡ k = (λ z. record { comm = (o.2 z).comm; place = (o.2 z).place; start = before (sym count z) }) ∙ w.key_is in
          let mine : q.member ≡ m = ap (λ (r : Request). r.member) o.2 ∙ w.member_is in
          none-some w.slot (sym (last m low).1 ∙ ((λ z. v.seats (sym same z) (sym mine z))
          ∙ (b.active w.slot q o.1 (ap (λ (r : Request). r.active) o.2 ∙ w.active)).1))

  pub over_is_last : (k : Key) → IsOver v.setting (state v) k → IsLast v k
  over_is_last k over m low = ((over m low).0, go (v.seats k m) refl)
    where
      go : (o : Option ℕ) → v.seats k m ≡ o → v.seats k m ≡ None
      go None e = e
      go (Some i) e =
          let w = b.owner k m i e in
          absurd ((over m low).1 (record {
            slot = i;
            request = as_request w.req;
            is = ap asked w.is;
            active =
                w.active;
            member_is = w.member_is;
            start = before w.req.starts;
            key_is = w.key_is;
            last = counted i w.req w.is w.active;
          }))

-- ---- the value

same_rows : (xs ys : ℕ → List ℕ) (k c : ℕ) → ((i : ℕ) → i < k + c → xs i ≡ ys i) → listing xs k c ≡ map ys (range_with_len k c)
same_rows xs ys k zero h = refl
same_rows xs ys k (suc c) h =
    (λ z. h k (let l : k < k + suc c = omega arith in l) z ∷ same_rows xs ys (suc k) c (λ j l. h j (let m : j < k + suc c = omega arith in m)) z)
    ∙ ap (λ j. ys k ∷ map ys (range_with_len j c)) (let e : suc k ≡ k + 1 = omega arith in e)

module _ (v : Tables) (paths : Paths) (s : Sound v paths) (i : ℕ) (q : Live) (here : v.request i ≡ Some q) (list : v.home i ≡ 6 + 3 * q.comm) where
  pub over : (q.active ≡ true) × (q.round ≡ length (family q.sig (size v.setting q.comm) q.member).rounds)
  over = finished_there (size v.setting q.comm) (v.home i) (v.mail (key q)) q list (s.stands i q here)

  pub has_heard : HasHeard v q
  has_heard m hears =
      let n : ℕ = size v.setting q.comm in
      let f : Family = family q.sig n in
      ((tracks_at v paths s.base i q here (before q.starts)).members q.member (progress q) (s.base.active i q here over.0).0).heard m
      (subst (λ (j : ℕ). Heard f j q.member m) (sym over.1) hears)

  pub holding_value : Holding v q
  holding_value =
      let n : ℕ = size v.setting q.comm in
      let f : Family = family q.sig n in
      let serves : Serves q.sig n f = serves_own v paths s.base i q here in
      let held : HoldsValue q.sig n f (world v paths (key q)) q.member (progress q) =
      value_held q.sig n f serves (world v paths (key q)) (tracks_at v paths s.base i q here (before q.starts)) q.member
      (progress q) (s.base.active i q here over.0).0 over.1 in
      record {
        active = over.0;
        needed = held.needed;
        value_is = held.value_is ∙ ap (λ (rows : List (List ℕ)). value q.sig rows q.member)
            (same_rows (filled_by f (v.given (key q))) (λ m. unwrap_or (v.given (key q) m) (replicate (given_len q.sig n m) 0)) 0 n
            (λ m low. ap (λ l. unwrap_or (v.given (key q) m) (replicate l 0)) (serves.takes_given m (let e : m < n = omega arith in e))));
      }
