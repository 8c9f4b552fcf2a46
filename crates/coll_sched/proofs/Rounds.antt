-- a round in steps: its prefix, what it reads, and on what it rests
use Rattle.std.proofs.Common.{◌≡◌, ℕ, zero, suc, ◌%◌, ◌<◌, ◌≤◌, inl, inr, true, false, cond, eqb, List, [], ◌∷◌, take, length, replicate, slice_get}
use Rattle.std.proofs.Common.{unwrap_or, Option, Some, None, refl, sym, ap, ◌∙◌, arith, eq-eqb, ne_eqb}
use Rattle.std.proofs.lemmas.Option.{none-some, same_Some, slice_get_past}
use Rattle.std.proofs.lemmas.List.{length-replicate, take_all}
use Rattle.std.proofs.lemmas.Bool.{cond-true, cond-false}
use Rattle.std.specs.List.{AllByRecursion}
use Rattle.coll_sched.specs.declared.region.Region.{Region}
use Rattle.coll_sched.specs.declared.action.Action.{Action}
use Rattle.coll_sched.specs.declared.action.Action.TheVariants.{Send, Copy, Combine, Recv}
use Rattle.coll_kinds.specs.Elements.{width}
use Rattle.coll_ops.specs.Combinations.{combined}
use Rattle.coll_sched.specs.Common.{read_of, written, Inside, Apart, IsAmong, wrote, wrote_all, writes, AllApart, Fits, Follows, EachFollows, Parts}
use Rattle.coll_sched.specs.Common.{IsRound, IsSchedule, Family, actions_at, out_link, in_link, read_at, laid_in, lock_step, messages, IsRecvOf}
use Rattle.coll_sched.specs.Common.{Receives, Heard, len_of, IsLawful}
use Rattle.coll_sched.specs.Actions.{reads}
use Rattle.coll_sched.specs.Families.{sent}
use Rattle.coll_sched.specs.Tracks.{moment}
use Rattle.coll_sched.proofs.Buffers.{length_read, length_written, read_apart}
use Rattle.coll_ops.proofs.RowLists.{length-combined}
use Rattle.coll_sched.proofs.Each.{all_at, all_from_at, all_take, all_map}

-- the message that the action takes has the length of its region
abbrev pub MessageFits : (ℕ → List ℕ) → Action → Type 0
MessageFits msgs (Send to from) = Unit {0}
MessageFits msgs (Copy from into) = Unit {0}
MessageFits msgs (Combine op ty left right into) = Unit {0}
MessageFits msgs (Recv of into) = length (msgs of) ≡ into.len

module _ (size : ℕ) (msgs : ℕ → List ℕ) (mine : List ℕ) (own : length mine ≡ size) where
  pub length_wrote : (a : Action) (buf : List ℕ) → Fits size a → MessageFits msgs a → length buf ≡ size → length (wrote msgs mine a buf) ≡ size
  length_wrote (Send to from) buf fits m e = e
  length_wrote (Copy from into) buf fits m e =
      length_written buf into (read_of mine from) (omega arith) (length_read mine from (omega arith) ∙ fits.2) ∙ e
  length_wrote (Combine op ty left right into) buf fits m e =
      let l : length (read_of mine left) ≡ left.len = length_read mine left (omega arith) in
      let whole : length (read_of mine left) % width ty ≡ 0 = ap (λ k. k % width ty) (l ∙ fits.3) ∙ fits.6 in
      length_written buf into (combined op ty (read_of mine left) (read_of mine right)) (omega arith)
      (length-combined op ty (read_of mine left) (read_of mine right) whole ∙ (l ∙ fits.3)) ∙ e
  length_wrote (Recv of into) buf fits m e = length_written buf into (msgs of) (omega arith) m ∙ e

  pub length_wrote_all : (xs : List Action) (buf : List ℕ) → AllByRecursion (Fits size) xs → AllByRecursion (MessageFits msgs) xs
      → length buf ≡ size → length (wrote_all msgs mine xs buf) ≡ size
  length_wrote_all [] buf fits m e = e
  length_wrote_all (a ∷ xs) buf fits m e = length_wrote_all xs (wrote msgs mine a buf) fits.1 m.1 (length_wrote a buf fits.0 m.0 e)

  pub read_wrote : (a : Action) (buf : List ℕ) (g : Region) → Fits size a → MessageFits msgs a → length buf ≡ size
      → Inside size g → AllByRecursion (λ w. Apart w g) (writes a) → read_of (wrote msgs mine a buf) g ≡ read_of buf g
  read_wrote (Send to from) buf g fits m e inside apart = refl
  read_wrote (Copy from into) buf g fits m e inside apart =
      read_apart buf into g (read_of mine from) (omega arith) (length_read mine from (omega arith) ∙ fits.2) apart.0 (omega arith)
  read_wrote (Combine op ty left right into) buf g fits m e inside apart =
      let l : length (read_of mine left) ≡ left.len = length_read mine left (omega arith) in
      let whole : length (read_of mine left) % width ty ≡ 0 = ap (λ k. k % width ty) (l ∙ fits.3) ∙ fits.6 in
      read_apart buf into g (combined op ty (read_of mine left) (read_of mine right)) (omega arith)
      (length-combined op ty (read_of mine left) (read_of mine right) whole ∙ (l ∙ fits.3)) apart.0 (omega arith)
  read_wrote (Recv of into) buf g fits m e inside apart = read_apart buf into g (msgs of) (omega arith) m apart.0 (omega arith)

  read_wrote_all : (xs : List Action) (buf : List ℕ) (g : Region) → AllByRecursion (Fits size) xs
      → AllByRecursion (MessageFits msgs) xs → length buf ≡ size → Inside size g
      → AllByRecursion (λ a. AllByRecursion (λ w. Apart w g) (writes a)) xs → read_of (wrote_all msgs mine xs buf) g ≡ read_of buf g
  read_wrote_all [] buf g fits m e inside apart = refl
  read_wrote_all (a ∷ xs) buf g fits m e inside apart =
      read_wrote_all xs (wrote msgs mine a buf) g fits.1 m.1 (length_wrote a buf fits.0 m.0 e) inside apart.1
      ∙ read_wrote a buf g fits.0 m.0 e inside apart.0

  -- regions that no action writes read as before
  pub reads_kept : (xs : List Action) (buf : List ℕ) (gs : List Region) → AllByRecursion (Fits size) xs
      → AllByRecursion (MessageFits msgs) xs → length buf ≡ size → AllByRecursion (Inside size) gs
      → AllByRecursion (λ a. AllApart (writes a) gs) xs → AllByRecursion (λ g. read_of (wrote_all msgs mine xs buf) g ≡ read_of buf g) gs
  reads_kept xs buf [] fits m e inside apart = tt
  reads_kept xs buf (g ∷ gs) fits m e inside apart = (
    read_wrote_all xs buf g fits m e inside.0
        (all_map (λ a. AllApart (writes a) (g ∷ gs)) (λ a. AllByRecursion (λ w. Apart w g) (writes a))
        (λ a h. all_map (λ w. AllByRecursion (λ h. Apart w h) (g ∷ gs)) (λ w. Apart w g) (λ w t. t.0) (writes a) h) xs apart),
    reads_kept xs buf gs fits m e inside.1
        (all_map (λ a. AllApart (writes a) (g ∷ gs)) (λ a. AllApart (writes a) gs)
        (λ a h. all_map (λ w. AllByRecursion (λ h. Apart w h) (g ∷ gs)) (λ w. AllByRecursion (λ h. Apart w h) gs) (λ w t. t.1) (writes a) h) xs apart),
  )

-- an action does the same over two buffers that agree where it reads
pub wrote_same : (msgs : ℕ → List ℕ) (mine other : List ℕ) (a : Action) (buf : List ℕ)
    → AllByRecursion (λ g. read_of other g ≡ read_of mine g) (reads a) → wrote msgs other a buf ≡ wrote msgs mine a buf
wrote_same msgs mine other (Send to from) buf h = refl
wrote_same msgs mine other (Copy from into) buf h = ap (written buf into) h.0
wrote_same msgs mine other (Combine op ty left right into) buf h =
    ap (λ l. written buf into (combined op ty l (read_of other right))) h.0 ∙ ap (λ r. written buf into (combined op ty (read_of mine left) r)) h.1.0
wrote_same msgs mine other (Recv of into) buf h = refl

-- one action more
pub wrote_all_next : (msgs : ℕ → List ℕ) (mine : List ℕ) (xs : List Action) (i : ℕ) (a : Action) (buf : List ℕ)
    → slice_get xs i ≡ Some a → wrote_all msgs mine (take (suc i) xs) buf ≡ wrote msgs mine a (wrote_all msgs mine (take i xs) buf)
wrote_all_next msgs mine [] i a buf e = absurd (none-some a e)
wrote_all_next msgs mine (x ∷ xs) zero a buf e = ap (λ (y : Action). wrote msgs mine y buf) (same_Some x a e)
wrote_all_next msgs mine (x ∷ xs) (suc i) a buf e = wrote_all_next msgs mine xs i a (wrote msgs mine x buf) e

-- each earlier action of a round stands before this one
pub before_at : (xs : List Action) (i : ℕ) (a : Action) → EachFollows xs → slice_get xs i ≡ Some a → AllByRecursion (λ b. Follows b a) (take i xs)
before_at xs zero a h e = tt
before_at [] (suc i) a h e = tt
before_at (x ∷ xs) (suc i) a h e = (all_at (Follows x) xs i a h.0 e, before_at xs i a h.1 e)

inside_reads : (size : ℕ) (a : Action) → Fits size a → AllByRecursion (Inside size) (reads a)
inside_reads size (Send to from) h = (h, tt)
inside_reads size (Copy from into) h = (h.0, tt)
inside_reads size (Combine op ty left right into) h = (h.0, (h.1, tt))
inside_reads size (Recv of into) h = tt

-- the first Recv of a member is the only one
pub in_link_at : (xs : List Action) (i p : ℕ) (g : Region) → EachFollows xs → slice_get xs i ≡ Some (Recv p g) → in_link p xs ≡ Some g
in_link_at [] i p g h e = absurd (none-some _ e)
in_link_at (x ∷ xs) zero p g h e =
    ap (λ (y : Action). in_link p (y ∷ xs)) (same_Some x (Recv p g) e) ∙ cond-true (eqb p p) (Some g) (in_link p xs) (eq-eqb p p refl)
in_link_at (Send to from ∷ xs) (suc i) p g h e = in_link_at xs i p g h.1 e
in_link_at (Copy from into ∷ xs) (suc i) p g h e = in_link_at xs i p g h.1 e
in_link_at (Combine op ty left right into ∷ xs) (suc i) p g h e = in_link_at xs i p g h.1 e
in_link_at (Recv q k ∷ xs) (suc i) p g h e =
    let f : Follows (Recv q k) (Recv p g) = all_at (Follows (Recv q k)) xs i (Recv p g) h.0 e in
    cond-false (eqb q p) (Some k) (in_link p xs) (ne_eqb q p f.other_peer) ∙ in_link_at xs i p g h.1 e

pub out_link_at : (xs : List Action) (i p : ℕ) (g : Region) → EachFollows xs → slice_get xs i ≡ Some (Send p g) → out_link p xs ≡ Some g
out_link_at [] i p g h e = absurd (none-some _ e)
out_link_at (x ∷ xs) zero p g h e =
    ap (λ (y : Action). out_link p (y ∷ xs)) (same_Some x (Send p g) e) ∙ cond-true (eqb p p) (Some g) (out_link p xs) (eq-eqb p p refl)
out_link_at (Send q k ∷ xs) (suc i) p g h e =
    let f : Follows (Send q k) (Send p g) = all_at (Follows (Send q k)) xs i (Send p g) h.0 e in
    cond-false (eqb q p) (Some k) (out_link p xs) (ne_eqb q p f.other_peer) ∙ out_link_at xs i p g h.1 e
out_link_at (Copy from into ∷ xs) (suc i) p g h e = out_link_at xs i p g h.1 e
out_link_at (Combine op ty left right into ∷ xs) (suc i) p g h e = out_link_at xs i p g h.1 e
out_link_at (Recv of into ∷ xs) (suc i) p g h e = out_link_at xs i p g h.1 e

-- a link's region lies in the buffer
abbrev LinkInside : ℕ → Option Region → Type 0
LinkInside size None = Unit {0}
LinkInside size (Some g) = Inside size g

out_link_inside : (size r : ℕ) (xs : List Action) → AllByRecursion (Fits size) xs → LinkInside size (out_link r xs)
out_link_inside size r [] h = tt
out_link_inside size r (Send to from ∷ xs) h =
    (elim (eqb to r) as (λ b. LinkInside size (cond b (Some from) (out_link r xs))) [ true ↦ h.0 | false ↦ out_link_inside size r xs h.1 ])
out_link_inside size r (Copy from into ∷ xs) h = out_link_inside size r xs h.1
out_link_inside size r (Combine op ty left right into ∷ xs) h = out_link_inside size r xs h.1
out_link_inside size r (Recv of into ∷ xs) h = out_link_inside size r xs h.1

length_read_at : (buf : List ℕ) (size k : ℕ) (o : Option Region) → length buf ≡ size → LinkInside size o → len_of o ≡ Some k → length (read_at buf o) ≡ k
length_read_at buf size k None e inside h = absurd (none-some k h)
length_read_at buf size k (Some g) e inside h = length_read buf g (omega arith) ∙ same_Some g.len k h

-- contributions of the right lengths
abbrev pub GivenFits : ℕ → Family → (ℕ → List ℕ) → Type 0
GivenFits n f given = (r : ℕ) → r < n → length (given r) ≡ (f r).input.len

-- a schedule's round: none past the last
pub round_of : (size : ℕ) (rounds : List (List Action)) (j : ℕ) → AllByRecursion (IsRound size) rounds → IsRound size (unwrap_or (slice_get rounds j) [])
round_of size [] j h = record { fits = tt; follows = tt }
round_of size (x ∷ xs) zero h = h.0
round_of size (x ∷ xs) (suc j) h = round_of size xs j h.1

pub round_at : (p : Parts) → IsSchedule p → (j : ℕ) → IsRound p.size (unwrap_or (slice_get p.rounds j) [])
round_at p s j = round_of p.size p.rounds j s.each_round

module _ (n : ℕ) (f : Family) (lawful : IsLawful n f) (given : ℕ → List ℕ) where
  fits_at : (j r : ℕ) → r < n → AllByRecursion (Fits (f r).size) (actions_at f j r)
  fits_at j r low = (round_at (f r) (lawful.schedules r low) j).fits

  -- every message of a round has the length of the region that takes it
  pub message_fits : (j r : ℕ) → r < n → ((q : ℕ) → q < n → length (lock_step f given j q) ≡ (f q).size)
      → AllByRecursion (MessageFits (messages f given j r)) (actions_at f j r)
  message_fits j r low lens = all_from_at (MessageFits (messages f given j r)) (actions_at f j r) (λ i a e. at_action i a e)
    where
      at_action : (i : ℕ) (a : Action) → slice_get (actions_at f j r) i ≡ Some a → MessageFits (messages f given j r) a
      at_action i (Send to from) e = tt
      at_action i (Copy from into) e = tt
      at_action i (Combine op ty left right into) e = tt
      at_action i (Recv of into) e =
          let here : of < n = all_at (IsAmong n) (actions_at f j r) i (Recv of into) (lawful.peers j r low) e in
          length_read_at (lock_step f given j of) (f of).size into.len (out_link r (actions_at f j of)) (lens of here)
          (out_link_inside (f of).size r (actions_at f j of) (fits_at j of here))
          (sym (lawful.aligned j r of low here) ∙ ap len_of (in_link_at (actions_at f j r) i of into ((round_at (f r) (lawful.schedules r low) j).follows) e))

  pub length_lock_step : GivenFits n f given → (j r : ℕ) → r < n → length (lock_step f given j r) ≡ (f r).size
  length_lock_step laid zero r low =
      let inside : Inside (f r).size (f r).input = (lawful.schedules r low).input_inside in
      length_written (replicate (f r).size 0) (f r).input (given r) (omega (arith, length-replicate {A = ℕ} (f r).size 0)) (laid r low)
      ∙ length-replicate {A = ℕ} (f r).size 0
  length_lock_step laid (suc j) r low =
      length_wrote_all (f r).size (messages f given j r) (lock_step f given j r) (length_lock_step laid j r low) (actions_at f j r) (lock_step f given j r)
      (fits_at j r low) (message_fits j r low (λ q h. length_lock_step laid j q h)) (length_lock_step laid j r low)

  pub length_moment : GivenFits n f given → (j i r : ℕ) → r < n → length (moment f given j i r) ≡ (f r).size
  length_moment laid j i r low =
      length_wrote_all (f r).size (messages f given j r) (lock_step f given j r) (length_lock_step laid j r low)
      (take i (actions_at f j r)) (lock_step f given j r)
      (all_take (Fits (f r).size) (actions_at f j r) i (fits_at j r low))
      (all_take (MessageFits (messages f given j r)) (actions_at f j r) i (message_fits j r low (λ q h. length_lock_step laid j q h)))
      (length_lock_step laid j r low)

  -- what the next action reads is still what the round began with
  pub reads_at_moment : GivenFits n f given → (j i r : ℕ) (a : Action) → r < n → slice_get (actions_at f j r) i ≡ Some a
      → AllByRecursion (λ g. read_of (moment f given j i r) g ≡ read_of (lock_step f given j r) g) (reads a)
  reads_at_moment laid j i r a low e =
      reads_kept (f r).size (messages f given j r) (lock_step f given j r) (length_lock_step laid j r low)
      (take i (actions_at f j r)) (lock_step f given j r) (reads a)
      (all_take (Fits (f r).size) (actions_at f j r) i (fits_at j r low))
      (all_take (MessageFits (messages f given j r)) (actions_at f j r) i (message_fits j r low (λ q h. length_lock_step laid j q h)))
      (length_lock_step laid j r low)
      (inside_reads (f r).size a (all_at (Fits (f r).size) (actions_at f j r) i a (fits_at j r low) e))
      (all_map (λ b. Follows b a) (λ b. AllApart (writes b) (reads a)) (λ b h. h.read_later) (take i (actions_at f j r))
      (before_at (actions_at f j r) i a ((round_at (f r) (lawful.schedules r low) j).follows) e))

  -- one action over the buffer as it stands is one action of the round
  pub moment_next : GivenFits n f given → (j i r : ℕ) (a : Action) → r < n → slice_get (actions_at f j r) i ≡ Some a
      → moment f given j (suc i) r ≡ wrote (messages f given j r) (moment f given j i r) a (moment f given j i r)
  moment_next laid j i r a low e =
      wrote_all_next (messages f given j r) (lock_step f given j r) (actions_at f j r) i a (lock_step f given j r) e
      ∙ sym (wrote_same (messages f given j r) (lock_step f given j r) (moment f given j i r) a (moment f given j i r) (reads_at_moment laid j i r a low e))

pub moment_end : (f : Family) (given : ℕ → List ℕ) (j r : ℕ) → moment f given j (length (actions_at f j r)) r ≡ lock_step f given (suc j) r
moment_end f given j r =
    ap (λ xs. wrote_all (messages f given j r) (lock_step f given j r) xs (lock_step f given j r))
    (take_all (length (actions_at f j r)) (actions_at f j r) (omega arith))

pub actions_past : (f : Family) (j r : ℕ) → length (f r).rounds ≤ j → actions_at f j r ≡ []
actions_past f j r h = ap (λ o. unwrap_or o []) (slice_get_past (f r).rounds j h)

pub take_nil : (i : ℕ) → ◌≡◌ {A = List Action} (take i []) []
take_nil zero = refl
take_nil (suc i) = refl

pub moment_past : (f : Family) (given : ℕ → List ℕ) (j i r : ℕ) → length (f r).rounds ≤ j → moment f given j i r ≡ lock_step f given j r
moment_past f given j i r h =
    ap (λ xs. wrote_all (messages f given j r) (lock_step f given j r) xs (lock_step f given j r)) (ap (take i) (actions_past f j r h) ∙ take_nil i)

-- on what a round rests
wrote_agrees : (ms ns : ℕ → List ℕ) (mine other buf cur : List ℕ) (a : Action) → ((q : ℕ) → IsRecvOf a q → ms q ≡ ns q)
    → mine ≡ other → buf ≡ cur → wrote ms mine a buf ≡ wrote ns other a cur
wrote_agrees ms ns mine other buf cur (Send to from) h e s = s
wrote_agrees ms ns mine other buf cur (Copy from into) h e s = cc
wrote_agrees ms ns mine other buf cur (Combine op ty left right into) h e s = cc
wrote_agrees ms ns mine other buf cur (Recv of into) h e s = let m : ms of ≡ ns of = h of refl in cc

wrote_all_agrees : (ms ns : ℕ → List ℕ) (mine other buf cur : List ℕ) (xs : List Action)
    → ((q : ℕ) → Receives xs q → ms q ≡ ns q) → mine ≡ other → buf ≡ cur → wrote_all ms mine xs buf ≡ wrote_all ns other xs cur
wrote_all_agrees ms ns mine other buf cur [] h e s = s
wrote_all_agrees ms ns mine other buf cur (a ∷ xs) h e s =
    wrote_all_agrees ms ns mine other (wrote ms mine a buf) (wrote ns other a cur) xs (λ q t. h q (inr t)) e
    (wrote_agrees ms ns mine other buf cur a (λ q t. h q (inl t)) e s)

-- the buffer before round j rests on the contributions that it has heard
pub lock_step_agrees : (f : Family) (xs ys : ℕ → List ℕ) (j r : ℕ) → ((p : ℕ) → Heard f j r p → xs p ≡ ys p) → lock_step f xs j r ≡ lock_step f ys j r
lock_step_agrees f xs ys zero r h = ap (λ b. laid_in (f r) b) (h r refl)
lock_step_agrees f xs ys (suc j) r h =
    let own : lock_step f xs j r ≡ lock_step f ys j r = lock_step_agrees f xs ys j r (λ p t. h p (inl t)) in
    wrote_all_agrees (messages f xs j r) (messages f ys j r) (lock_step f xs j r) (lock_step f ys j r) (lock_step f xs j r)
    (lock_step f ys j r) (actions_at f j r)
    (λ q t. ap (λ b. sent r (actions_at f j q) b) (lock_step_agrees f xs ys j q (λ p s. h p (inr (q, t, s))))) own own

pub moment_agrees : (f : Family) (xs ys : ℕ → List ℕ) (j i r : ℕ) → ((p : ℕ) → Heard f j r p → xs p ≡ ys p)
    → ((q p : ℕ) → Receives (take i (actions_at f j r)) q → Heard f j q p → xs p ≡ ys p) → moment f xs j i r ≡ moment f ys j i r
moment_agrees f xs ys j i r h t =
    let own : lock_step f xs j r ≡ lock_step f ys j r = lock_step_agrees f xs ys j r h in
    wrote_all_agrees (messages f xs j r) (messages f ys j r) (lock_step f xs j r) (lock_step f ys j r) (lock_step f xs j r)
    (lock_step f ys j r) (take i (actions_at f j r))
    (λ q s. ap (λ b. sent r (actions_at f j q) b) (lock_step_agrees f xs ys j q (λ p u. t q p s u))) own own
