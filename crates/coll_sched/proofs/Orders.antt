-- the order of a round's actions, and the exchanges of a member and of its family
use Rattle.std.proofs.Common.{◌≡◌, ℕ, zero, suc, ◌+◌, ◌%◌, ◌<◌, ◌≤◌, ◌⊎◌, inl, inr, ◌||◌, Bool, true, false, cond, List, [], ◌∷◌, length, slice_get}
use Rattle.std.proofs.Common.{unwrap_or, Some, refl, sym, ap, subst, ◌∙◌, arith, count_by}
use Rattle.std.proofs.lemmas.Bool.{cases_eq}
use Rattle.std.proofs.lemmas.List.Sums.{sum_by-cons}
use Rattle.std.specs.List.{AllByRecursion, list_any}
use Rattle.coll_kinds.specs.Elements.{width}
use Rattle.coll_ops.specs.Combinations.{combined}
use Rattle.coll_sched.specs.declared.region.Region.{Region}
use Rattle.coll_sched.specs.declared.action.Action.{Action}
use Rattle.coll_sched.specs.declared.action.Action.TheVariants.{Send, Copy, Combine, Recv}
use Rattle.coll_sched.specs.Common.{Inside, Apart, read_of, written, writes, Fits, AllApart, Follows, EachFollows, wrote, wrote_all, has_peer, Family}
use Rattle.coll_sched.specs.Common.{actions_at, lock_step, messages, members, is_exchange}
use Rattle.coll_sched.specs.Schedules.{exchanges}
use Rattle.coll_sched.specs.Orders.{Reordered, same, swap, under, both, Commutes, BoundsMembers}
use Rattle.coll_sched.proofs.Buffers.{flip, length_read, written_swap}
use Rattle.coll_ops.proofs.RowLists.{length-combined}
use Rattle.coll_sched.proofs.Each.{all_map}
use Rattle.coll_sched.proofs.Rounds.{MessageFits, length_wrote, message_fits, length_lock_step, round_at}

-- an action that writes: where, and what
record Writing (size : ℕ) (msgs : ℕ → List ℕ) (mine : List ℕ) (a : Action) : Type 0 where
  into : Region
  bytes : List ℕ
  inside : Inside size into
  len : length bytes ≡ into.len
  region_is : writes a ≡ into ∷ []
  does : (buf : List ℕ) → wrote msgs mine a buf ≡ written buf into bytes

all_unit : (hs : List Region) → AllByRecursion (λ h. AllByRecursion (λ g. Apart h g) []) hs
all_unit [] = tt
all_unit (h ∷ hs) = (tt, all_unit hs)

apart_cons : (g : Region) (gs hs : List Region) → AllByRecursion (λ h. Apart g h) hs → AllApart hs gs → AllApart hs (g ∷ gs)
apart_cons g gs [] x y = tt
apart_cons g gs (h ∷ hs) x y = ((flip g h x.0, y.0), apart_cons g gs hs x.1 y.1)

apart_flip : (gs hs : List Region) → AllApart gs hs → AllApart hs gs
apart_flip [] hs x = all_unit hs
apart_flip (g ∷ gs) hs x = apart_cons g gs hs x.0 (apart_flip gs hs x.1)

unfoldable pub EachApart : List Action → Type 0
EachApart [] = Unit {0}
EachApart (a ∷ rest) = AllByRecursion (λ b. AllApart (writes a) (writes b)) rest × EachApart rest

pub each_apart : (xs : List Action) → EachFollows xs → EachApart xs
unfolding EachApart
each_apart [] h = tt
each_apart (x ∷ xs) h = (all_map (Follows x) (λ b. AllApart (writes x) (writes b)) (λ b f. f.both_written) xs h.0, each_apart xs h.1)

all_reordered : (P : Action → Type 0) {xs ys : List Action} → Reordered xs ys → AllByRecursion P xs → AllByRecursion P ys
all_reordered P same h = h
all_reordered P (swap a b) h = (h.1.0, (h.0, h.1.1))
all_reordered P (under a r) h = (h.0, all_reordered P r h.1)
all_reordered P (both r s) h = all_reordered P s (all_reordered P r h)

apart_reordered : {xs ys : List Action} → Reordered xs ys → EachApart xs → EachApart ys
unfolding EachApart
apart_reordered same h = h
apart_reordered (swap a b) h = ((apart_flip (writes a) (writes b) h.0.0, h.1.0), (h.0.1, h.1.1))
apart_reordered (under a r) h = (all_reordered (λ b. AllApart (writes a) (writes b)) r h.0, apart_reordered r h.1)
apart_reordered (both r s) h = apart_reordered s (apart_reordered r h)

module _ (size : ℕ) (msgs : ℕ → List ℕ) (mine : List ℕ) (own : length mine ≡ size) where
  writing : (a : Action) → Fits size a → MessageFits msgs a → ((buf : List ℕ) → wrote msgs mine a buf ≡ buf) ⊎ Writing size msgs mine a
  writing (Send to from) fits m = inl (λ buf. refl)
  writing (Copy from into) fits m = inr (record {
    into = into;
    bytes = read_of mine from;
    inside = fits.1;
    len = length_read mine from (omega arith) ∙ fits.2;
    region_is = refl;
    does = λ buf. refl;
  })
  writing (Combine op ty left right into) fits m =
      let l : length (read_of mine left) ≡ left.len = length_read mine left (omega arith) in
      let whole : length (read_of mine left) % width ty ≡ 0 = ap (λ k. k % width ty) (l ∙ fits.3) ∙ fits.6 in
      inr (record {
        into = into;
        bytes = combined op ty (read_of mine left) (read_of mine right);
        inside = fits.2;
        len = length-combined op ty (read_of mine left) (read_of mine right) whole ∙ (l ∙ fits.3);
        region_is = refl;
        does = λ buf. refl;
      })
  writing (Recv of into) fits m = inr (record {
    into = into;
    bytes = msgs of;
    inside = fits;
    len = m;
    region_is = refl;
    does = λ buf. refl;
  })

  -- two actions that write apart may be done in either order
  pub wrote_swap : (a b : Action) (buf : List ℕ) → Fits size a → Fits size b → MessageFits msgs a → MessageFits msgs b
      → AllApart (writes a) (writes b) → length buf ≡ size → wrote msgs mine a (wrote msgs mine b buf) ≡ wrote msgs mine b (wrote msgs mine a buf)
  wrote_swap a b buf fa fb ma mb apart e = go (writing a fa ma) (writing b fb mb)
    where
      go : ((buf : List ℕ) → wrote msgs mine a buf ≡ buf) ⊎ Writing size msgs mine a
          → ((buf : List ℕ) → wrote msgs mine b buf ≡ buf) ⊎ Writing size msgs mine b
          → wrote msgs mine a (wrote msgs mine b buf) ≡ wrote msgs mine b (wrote msgs mine a buf)
      go (inl x) y = x (wrote msgs mine b buf) ∙ sym (ap (wrote msgs mine b) (x buf))
      go (inr x) (inl y) = ap (wrote msgs mine a) (y buf) ∙ sym (y (wrote msgs mine a buf))
      go (inr x) (inr y) =
          let away : AllApart (x.into ∷ []) (y.into ∷ []) =
          subst (λ gs. AllApart gs (y.into ∷ [])) x.region_is (subst (λ hs. AllApart (writes a) hs) y.region_is apart) in
          let gin : Inside size x.into = x.inside in
          let hin : Inside size y.into = y.inside in
          ap (wrote msgs mine a) (y.does buf) ∙ (x.does (written buf y.into y.bytes)
          ∙ (sym (written_swap buf x.into y.into x.bytes y.bytes (omega arith) (omega arith) x.len y.len away.0.0)
          ∙ sym (ap (wrote msgs mine b) (x.does buf) ∙ y.does (written buf x.into x.bytes))))

  wrote_reordered : {xs ys : List Action} → Reordered xs ys → AllByRecursion (Fits size) xs
      → AllByRecursion (MessageFits msgs) xs → EachApart xs → (buf : List ℕ) → length buf ≡ size → wrote_all msgs mine ys buf ≡ wrote_all msgs mine xs buf
  unfolding EachApart
  wrote_reordered same fits m apart buf e = refl
  wrote_reordered (swap {xs = xs} a b) fits m apart buf e = ap (wrote_all msgs mine xs) (wrote_swap a b buf fits.0 fits.1.0 m.0 m.1.0 apart.0.0 e)
  wrote_reordered (under a r) fits m apart buf e =
      wrote_reordered r fits.1 m.1 apart.1 (wrote msgs mine a buf) (length_wrote size msgs mine own a buf fits.0 m.0 e)
  wrote_reordered (both r s) fits m apart buf e =
      wrote_reordered s (all_reordered (Fits size) r fits) (all_reordered (MessageFits msgs) r m) (apart_reordered r apart) buf e
      ∙ wrote_reordered r fits m apart buf e

pub commutes : Commutes
commutes n f lawful given laid j r low ys order =
    wrote_reordered (f r).size (messages f given j r) (lock_step f given j r) (length_lock_step n f lawful given laid j r low) order
    ((round_at (f r) (lawful.schedules r low) j).fits) (message_fits n f lawful given j r low (λ q k. length_lock_step n f lawful given laid j q k))
    (each_apart (actions_at f j r) ((round_at (f r) (lawful.schedules r low) j).follows)) (lock_step f given j r)
    (length_lock_step n f lawful given laid j r low)

-- a member's exchange is one of the family
true_or : (a b : Bool) → (a ≡ true) ⊎ (b ≡ true) → (a || b) ≡ true
true_or true b h = refl
true_or false b (inl h) = absurd (cc)
true_or false b (inr h) = h

any_member : (p : ℕ → Bool) (k c r : ℕ) → k ≤ r → r < k + c → p r ≡ true → list_any p (members k c) ≡ true
any_member p k zero r low high e = absurd (omega arith)
any_member p k (suc c) r low high e = go (λ h. any_member p (suc k) c r h (omega arith) e) (cases_eq k r)
  where
    go : (suc k ≤ r → list_any p (members (suc k) c) ≡ true) → (k ≡ r) ⊎ (k ≡ r → ⊥) → list_any p (members k (suc c)) ≡ true
    go more (inl h) = true_or (p k) (list_any p (members (suc k) c)) (inl (ap p h ∙ e))
    go more (inr h) = true_or (p k) (list_any p (members (suc k) c)) (inr (more (omega arith)))

-- a count, by the first element
pub count_cons : {X : Type 0} (p : X → Bool) (x : X) (xs : List X) → count_by p (x ∷ xs) ≡ cond (p x) 1 0 + count_by p xs
count_cons {X = X} p x xs = sum_by-cons (λ (y : X). cond (p y) 1 0) x xs

count_here : {X : Type 0} (p : X → Bool) (x : X) (xs : List X) → p x ≡ true → count_by p (x ∷ xs) ≡ 1 + count_by p xs
count_here p x xs e = count_cons p x xs ∙ ap (λ (b : Bool). cond b 1 0 + count_by p xs) e

count_not_here : {X : Type 0} (p : X → Bool) (x : X) (xs : List X) → p x ≡ false → count_by p (x ∷ xs) ≡ 0 + count_by p xs
count_not_here p x xs e = count_cons p x xs ∙ ap (λ (b : Bool). cond b 1 0 + count_by p xs) e

more : {X : Type 0} (p : X → Bool) (x : X) (xs : List X) → count_by p xs ≤ count_by p (x ∷ xs)
more p x xs = omega (arith, count_cons p x xs)

bounds : (n : ℕ) (f : Family) (r : ℕ) → r < n → (xs : List (List Action)) (k : ℕ)
    → ((i : ℕ) (a : List Action) → slice_get xs i ≡ Some a → actions_at f (k + i) r ≡ a) → exchanges xs ≤ count_by (is_exchange n f) (members k (length xs))
bounds n f r low [] k h = omega arith
bounds n f r low (x ∷ xs) k h =
    let rest : exchanges xs ≤ count_by (is_exchange n f) (members (suc k) (length xs)) =
    bounds n f r low xs (suc k) (λ i a e. ap (λ j. actions_at f j r) (let z : suc k + i ≡ k + suc i = omega arith in z) ∙ h (suc i) a e) in
    go rest (list_any has_peer x) refl
  where
    go : exchanges xs ≤ count_by (is_exchange n f) (members (suc k) (length xs)) → (b : Bool) → list_any has_peer x ≡ b
        → exchanges (x ∷ xs) ≤ count_by (is_exchange n f) (members k (suc (length xs)))
    go rest false e =
        let z : exchanges (x ∷ xs) ≡ 0 + exchanges xs = count_not_here (list_any has_peer) x xs e in
        let y : count_by (is_exchange n f) (members (suc k) (length xs)) ≤ count_by (is_exchange n f) (members k (suc (length xs))) =
        more (is_exchange n f) k (members (suc k) (length xs)) in
        omega arith
    go rest true e =
        let here : actions_at f k r ≡ x = ap (λ j. actions_at f j r) (let z : k ≡ k + 0 = omega arith in z) ∙ h 0 x refl in
        let z : exchanges (x ∷ xs) ≡ 1 + exchanges xs = count_here (list_any has_peer) x xs e in
        let y : count_by (is_exchange n f) (members k (suc (length xs))) ≡ 1 + count_by (is_exchange n f) (members (suc k) (length xs)) =
        count_here (is_exchange n f) k (members (suc k) (length xs))
        (any_member (λ q. list_any has_peer (actions_at f k q)) 0 n r (omega arith) (omega arith) (ap (list_any has_peer) here ∙ e)) in
        omega arith

pub bounds_members : BoundsMembers
bounds_members n f lawful r low =
    subst (λ c. exchanges (f r).rounds ≤ count_by (is_exchange n f) (members 0 c)) (lawful.same_rounds r 0 low (omega arith))
    (bounds n f r low (f r).rounds 0 (λ i a e. ap (λ j. actions_at f j r) (let z : 0 + i ≡ i = omega arith in z) ∙ ap (λ o. unwrap_or o []) e))
