-- for builders: rounds that are made of parts, and what a round leaves in each region
use Rattle.std.proofs.Common.{◌≡◌, ℕ, suc, ◌+◌, ◌%◌, ◌<◌, ◌≤◌, ◌≢◌, ◌⊎◌, inl, inr, eqb, List, [], ◌∷◌, ◌++◌, take, drop, length, Some, None, refl}
use Rattle.std.proofs.Common.{sym, ap, subst, ◌∙◌, arith, eq-eqb, ne_eqb, replicate, take_at, drop_at, drop-drop, take-add}
use Rattle.std.proofs.lemmas.Bool.{cond-true, cond-false}
use Rattle.std.proofs.lemmas.List.{length-replicate, length-take-le}
use Rattle.std.specs.List.{AllByRecursion}
use Rattle.coll_sched.specs.declared.region.Region.{Region}
use Rattle.coll_sched.specs.declared.action.Action.{Action}
use Rattle.coll_sched.specs.declared.action.Action.TheVariants.{Send, Copy, Combine, Recv}
use Rattle.coll_kinds.specs.Elements.{width}
use Rattle.coll_ops.specs.Combinations.{combined}
use Rattle.coll_sched.specs.Common.{read_of, written, Inside, wrote, wrote_all, writes, AllApart, Fits, Follows, EachFollows, Family, actions_at}
use Rattle.coll_sched.specs.Common.{messages, lock_step, read_at, IsLawful, out_link, in_link, IsRecvOf, Receives}
use Rattle.coll_sched.proofs.Buffers.{flip, length_read}
use Rattle.coll_ops.proofs.RowLists.{length-combined}
use Rattle.coll_sched.proofs.Each.{all_map}
use Rattle.coll_sched.proofs.Rounds.{round_at, GivenFits, message_fits, length_lock_step, MessageFits, length_wrote, reads_kept}

-- the action stands in the list
abbrev pub Has : List Action → Action → Type 0
Has [] a = ⊥
Has (x ∷ xs) a = (x ≡ a) ⊎ Has xs a

pub has_left : (xs ys : List Action) (a : Action) → Has xs a → Has (xs ++ ys) a
has_left [] ys a h = absurd h
has_left (x ∷ xs) ys a (inl h) = inl h
has_left (x ∷ xs) ys a (inr h) = inr (has_left xs ys a h)

pub has_right : (xs ys : List Action) (a : Action) → Has ys a → Has (xs ++ ys) a
has_right [] ys a h = h
has_right (x ∷ xs) ys a h = inr (has_right xs ys a h)

pub all_append : (P : Action → Type 0) (xs ys : List Action) → AllByRecursion P xs → AllByRecursion P ys → AllByRecursion P (xs ++ ys)
all_append P [] ys h k = k
all_append P (x ∷ xs) ys h k = (h.0, all_append P xs ys h.1 k)

pub all_has : (P : Action → Type 0) (xs : List Action) (a : Action) → AllByRecursion P xs → Has xs a → P a
all_has P [] a h k = absurd k
all_has P (x ∷ xs) a h (inl k) = subst P k h.0
all_has P (x ∷ xs) a h (inr k) = all_has P xs a h.1 k

pub each_append : (xs ys : List Action) → EachFollows xs → EachFollows ys → AllByRecursion (λ a. AllByRecursion (Follows a) ys) xs → EachFollows (xs ++ ys)
each_append [] ys h k c = k
each_append (x ∷ xs) ys h k c = (all_append (Follows x) xs ys h.0 c.0, each_append xs ys h.1 k c.1)

pub receives_has : (xs : List Action) (p : ℕ) (g : Region) → Has xs (Recv p g) → Receives xs p
receives_has [] p g h = absurd h
receives_has (x ∷ xs) p g (inl h) = inl (subst (λ (y : Action). IsRecvOf y p) (sym h) refl)
receives_has (x ∷ xs) p g (inr h) = inr (receives_has xs p g h)

-- the one Send to a member, the one Recv of one
pub out_link_has : (xs : List Action) (p : ℕ) (g : Region) → EachFollows xs → Has xs (Send p g) → out_link p xs ≡ Some g
out_link_has [] p g f h = absurd h
out_link_has (x ∷ xs) p g f (inl h) = ap (λ (y : Action). out_link p (y ∷ xs)) h ∙ cond-true (eqb p p) (Some g) (out_link p xs) (eq-eqb p p refl)
out_link_has (Send q k ∷ xs) p g f (inr h) =
    let e : Follows (Send q k) (Send p g) = all_has (Follows (Send q k)) xs (Send p g) f.0 h in
    cond-false (eqb q p) (Some k) (out_link p xs) (ne_eqb q p e.other_peer) ∙ out_link_has xs p g f.1 h
out_link_has (Copy from into ∷ xs) p g f (inr h) = out_link_has xs p g f.1 h
out_link_has (Combine op ty a b into ∷ xs) p g f (inr h) = out_link_has xs p g f.1 h
out_link_has (Recv of into ∷ xs) p g f (inr h) = out_link_has xs p g f.1 h

pub in_link_has : (xs : List Action) (p : ℕ) (g : Region) → EachFollows xs → Has xs (Recv p g) → in_link p xs ≡ Some g
in_link_has [] p g f h = absurd h
in_link_has (x ∷ xs) p g f (inl h) = ap (λ (y : Action). in_link p (y ∷ xs)) h ∙ cond-true (eqb p p) (Some g) (in_link p xs) (eq-eqb p p refl)
in_link_has (Recv q k ∷ xs) p g f (inr h) =
    let e : Follows (Recv q k) (Recv p g) = all_has (Follows (Recv q k)) xs (Recv p g) f.0 h in
    cond-false (eqb q p) (Some k) (in_link p xs) (ne_eqb q p e.other_peer) ∙ in_link_has xs p g f.1 h
in_link_has (Copy from into ∷ xs) p g f (inr h) = in_link_has xs p g f.1 h
in_link_has (Combine op ty a b into ∷ xs) p g f (inr h) = in_link_has xs p g f.1 h
in_link_has (Send of into ∷ xs) p g f (inr h) = in_link_has xs p g f.1 h

-- no Send to a member, no Recv of one
abbrev pub NotTo : ℕ → Action → Type 0
NotTo p (Send q g) = q ≢ p
NotTo p (Copy from into) = Unit {0}
NotTo p (Combine op ty a b into) = Unit {0}
NotTo p (Recv of into) = Unit {0}

abbrev pub NotOf : ℕ → Action → Type 0
NotOf p (Send q g) = Unit {0}
NotOf p (Copy from into) = Unit {0}
NotOf p (Combine op ty a b into) = Unit {0}
NotOf p (Recv q into) = q ≢ p

pub out_link_none : (xs : List Action) (p : ℕ) → AllByRecursion (NotTo p) xs → out_link p xs ≡ None
out_link_none [] p h = refl
out_link_none (Send q g ∷ xs) p h = cond-false (eqb q p) (Some g) (out_link p xs) (ne_eqb q p h.0) ∙ out_link_none xs p h.1
out_link_none (Copy from into ∷ xs) p h = out_link_none xs p h.1
out_link_none (Combine op ty a b into ∷ xs) p h = out_link_none xs p h.1
out_link_none (Recv of into ∷ xs) p h = out_link_none xs p h.1

pub in_link_none : (xs : List Action) (p : ℕ) → AllByRecursion (NotOf p) xs → in_link p xs ≡ None
in_link_none [] p h = refl
in_link_none (Recv q g ∷ xs) p h = cond-false (eqb q p) (Some g) (in_link p xs) (ne_eqb q p h.0) ∙ in_link_none xs p h.1
in_link_none (Copy from into ∷ xs) p h = in_link_none xs p h.1
in_link_none (Combine op ty a b into ∷ xs) p h = in_link_none xs p h.1
in_link_none (Send of into ∷ xs) p h = in_link_none xs p h.1

-- reads of parts
pub read_split : (buf : List ℕ) (a l m : ℕ)
    → read_of buf (record { at = a; len = l + m }) ≡ read_of buf (record { at = a; len = l }) ++ read_of buf (record { at = a + l; len = m })
read_split buf a l m = take-add l m (drop a buf) ∙ ap (λ xs. take l (drop a buf) ++ take m xs) (drop-drop l a buf)

pub read_back : (buf : List ℕ) (g : Region) (bytes : List ℕ) → g.at + g.len ≤ length buf → length bytes ≡ g.len → read_of (written buf g bytes) g ≡ bytes
read_back buf g bytes inside e =
    ap (take g.len) (drop_at (take g.at buf) (bytes ++ drop (g.at + g.len) buf) g.at (length-take-le g.at buf (omega arith)))
    ∙ take_at bytes (drop (g.at + g.len) buf) g.len e

-- what an action writes
abbrev pub taken : (ℕ → List ℕ) → List ℕ → Action → List ℕ
taken msgs mine (Send to from) = []
taken msgs mine (Copy from into) = read_of mine from
taken msgs mine (Combine op ty left right into) = combined op ty (read_of mine left) (read_of mine right)
taken msgs mine (Recv of into) = msgs of

module _ (size : ℕ) (msgs : ℕ → List ℕ) (mine : List ℕ) (own : length mine ≡ size) where
  held_now : (a : Action) (g : Region) (buf : List ℕ) → Fits size a → MessageFits msgs a → length buf ≡ size → writes a ≡ g ∷ []
      → read_of (wrote msgs mine a buf) g ≡ taken msgs mine a
  held_now (Send to from) g buf fits m e w = absurd (cc)
  held_now (Copy from into) g buf fits m e w =
      let s : into ≡ g = cc in
      subst (λ h. read_of (written buf into (read_of mine from)) h ≡ read_of mine from) s
      (read_back buf into (read_of mine from) (omega arith) (length_read mine from (omega arith) ∙ fits.2))
  held_now (Combine op ty left right into) g buf fits m e w =
      let s : into ≡ g = cc in
      let l : length (read_of mine left) ≡ left.len = length_read mine left (omega arith) in
      let whole : length (read_of mine left) % width ty ≡ 0 = ap (λ k. k % width ty) (l ∙ fits.3) ∙ fits.6 in
      subst (λ h. read_of (written buf into (combined op ty (read_of mine left) (read_of mine right))) h
      ≡ combined op ty (read_of mine left) (read_of mine right)) s
      (read_back buf into (combined op ty (read_of mine left) (read_of mine right)) (omega arith)
      (length-combined op ty (read_of mine left) (read_of mine right) whole ∙ (l ∙ fits.3)))
  held_now (Recv of into) g buf fits m e w =
      let s : into ≡ g = cc in
      subst (λ h. read_of (written buf into (msgs of)) h ≡ msgs of) s (read_back buf into (msgs of) (omega arith) m)

  inside_write : (a : Action) (g : Region) → Fits size a → writes a ≡ g ∷ [] → Inside size g
  inside_write (Send to from) g fits w = absurd (cc)
  inside_write (Copy from into) g fits w = let s : into ≡ g = cc in subst (λ h. Inside size h) s fits.1
  inside_write (Combine op ty left right into) g fits w = let s : into ≡ g = cc in subst (λ h. Inside size h) s fits.2
  inside_write (Recv of into) g fits w = let s : into ≡ g = cc in subst (λ h. Inside size h) s fits

  -- after a round each written region holds what its action wrote
  pub held : (xs : List Action) (a : Action) (g : Region) (buf : List ℕ) → EachFollows xs → AllByRecursion (Fits size) xs
      → AllByRecursion (MessageFits msgs) xs → length buf ≡ size → Has xs a → writes a ≡ g ∷ [] → read_of (wrote_all msgs mine xs buf) g ≡ taken msgs mine a
  held [] a g buf f fits m e h w = absurd h
  held (x ∷ xs) a g buf f fits m e (inr h) w = held xs a g (wrote msgs mine x buf) f.1 fits.1 m.1 (length_wrote size msgs mine own x buf fits.0 m.0 e) h w
  held (x ∷ xs) a g buf f fits m e (inl h) w =
      let ws : writes x ≡ g ∷ [] = ap writes h ∙ w in
      (reads_kept size msgs mine own xs (wrote msgs mine x buf) (g ∷ []) fits.1 m.1 (length_wrote size msgs mine own x buf fits.0 m.0 e)
      (inside_write x g fits.0 ws, tt)
      (all_map (Follows x) (λ b. AllApart (writes b) (g ∷ []))
      (λ b k. turned_round (writes b) (subst (λ ws. AllApart ws (writes b)) ws k.both_written)) xs f.0)).0
      ∙ (held_now x g buf fits.0 m.0 e ws ∙ ap (taken msgs mine) h)
    where
      turned_round : (ws : List Region) → AllApart (g ∷ []) ws → AllApart ws (g ∷ [])
      turned_round [] k = tt
      turned_round (v ∷ vs) k = ((flip g v k.0.0, tt), turned_round vs (k.0.1, tt))

-- a whole family's rounds: what each region holds after a round, and what a message is
module _ (n : ℕ) (f : Family) (lawful : IsLawful n f) (given : ℕ → List ℕ) (laid : GivenFits n f given) where
  pub round_held : (j r : ℕ) (a : Action) (g : Region) → r < n → Has (actions_at f j r) a → writes a ≡ g ∷ []
      → read_of (lock_step f given (suc j) r) g ≡ taken (messages f given j r) (lock_step f given j r) a
  round_held j r a g low h w =
      held (f r).size (messages f given j r) (lock_step f given j r) (length_lock_step n f lawful given laid j r low)
      (actions_at f j r) a g (lock_step f given j r)
      ((round_at (f r) (lawful.schedules r low) j).follows) ((round_at (f r) (lawful.schedules r low) j).fits)
      (message_fits n f lawful given j r low (λ q k. length_lock_step n f lawful given laid j q k))
      (length_lock_step n f lawful given laid j r low) h w

  pub round_kept : (j r : ℕ) (g : Region) → r < n → Inside (f r).size g
      → AllByRecursion (λ a. AllApart (writes a) (g ∷ [])) (actions_at f j r) → read_of (lock_step f given (suc j) r) g ≡ read_of (lock_step f given j r) g
  round_kept j r g low inside apart =
      (reads_kept (f r).size (messages f given j r) (lock_step f given j r) (length_lock_step n f lawful given laid j r low)
      (actions_at f j r) (lock_step f given j r) (g ∷ [])
      ((round_at (f r) (lawful.schedules r low) j).fits) (message_fits n f lawful given j r low (λ q k. length_lock_step n f lawful given laid j q k))
      (length_lock_step n f lawful given laid j r low) (inside, tt) apart).0

  pub message_is : (j r q : ℕ) (from : Region) → q < n → Has (actions_at f j q) (Send r from) → messages f given j r q ≡ read_of (lock_step f given j q) from
  message_is j r q from low h =
      ap (read_at (lock_step f given j q)) (out_link_has (actions_at f j q) r from ((round_at (f q) (lawful.schedules q low) j).follows) h)

  pub input_held : (r : ℕ) → r < n → read_of (lock_step f given 0 r) (f r).input ≡ given r
  input_held r low =
      let inside : Inside (f r).size (f r).input = (lawful.schedules r low).input_inside in
      read_back (replicate (f r).size 0) (f r).input (given r) (omega (arith, length-replicate {A = ℕ} (f r).size 0)) (laid r low)
