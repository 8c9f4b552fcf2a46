-- once all whom a member hears have joined, those of them that are in the earliest round can go on
use Rattle.std.proofs.Common.{◌≡◌, ℕ, zero, suc, ◌+◌, ◌<◌, ◌≤◌, ◌≢◌, ◌⊎◌, inl, inr, eqb, List, [], ◌∷◌, take, length, slice_get, Option, Some, None}
use Rattle.std.proofs.Common.{refl, sym, ap, subst, ◌∙◌, arith, eq-eqb, ne_eqb}
use Rattle.std.proofs.lemmas.Option.{none-some, same_Some}
use Rattle.std.proofs.lemmas.Bool.{cases_eq, cases_lt, cond-true, cond-false}
use Rattle.std.specs.List.{AllByRecursion}
use Rattle.coll_sched.specs.declared.region.Region.{Region}
use Rattle.coll_sched.specs.declared.action.Action.{Action}
use Rattle.coll_sched.specs.declared.action.Action.TheVariants.{Send, Copy, Combine, Recv}
use Rattle.coll_sched.specs.Common.{IsAmong, Follows, EachFollows, Family, Heard, IsRecvOf, Receives, actions_at, out_link, len_of, IsLawful}
use Rattle.coll_sched.specs.Common.{Progress, World, outs, ins, total, done_by, done_at, standing, Tracks}
use Rattle.coll_sched.specs.Heart.{IsQuiet, Finishes, FinishesHeard}
use Rattle.coll_sched.proofs.Each.{all_at}
use Rattle.coll_sched.proofs.Rounds.{round_at, before_at, in_link_at}
use Rattle.coll_sched.proofs.Counts.{ins_before, total_zero, done_less, done_same}
use Rattle.coll_sched.proofs.Serving.{heard_member}
use Rattle.coll_sched.proofs.Track.{heard_self, tracks}

no_recv_before : (xs : List Action) (i q : ℕ) (g : Region) → EachFollows xs → slice_get xs i ≡ Some (Recv q g) → total (ins q) (take i xs) ≡ 0
no_recv_before xs i q g h e = total_zero (ins q) (λ b. Follows b (Recv q g)) (ins_before q g) (take i xs) (before_at xs i (Recv q g) h e)

-- no Send follows a Recv
outs_late : (q r : ℕ) (g : Region) (b : Action) → Follows (Recv q g) b → outs r b ≡ 0
outs_late q r g (Send to from) h = let o : 3 ≤ 0 = h.in_order in absurd (omega arith)
outs_late q r g (Copy from into) h = refl
outs_late q r g (Combine op ty x y into) h = refl
outs_late q r g (Recv of into) h = refl

all_sent : (xs : List Action) (i q r : ℕ) (g : Region) → EachFollows xs → slice_get xs i ≡ Some (Recv q g) → total (outs r) (take i xs) ≡ total (outs r) xs
all_sent [] i q r g h e = absurd (none-some _ e)
all_sent (x ∷ xs) zero q r g h e =
    let same : x ≡ Recv q g = same_Some x (Recv q g) e in
    let head : outs r x ≡ 0 = ap (outs r) same in
    let rest : total (outs r) xs ≡ 0 =
    total_zero (outs r) (Follows (Recv q g)) (outs_late q r g) xs (subst (λ (y : Action). AllByRecursion (Follows y) xs) same h.0) in
    omega arith
all_sent (x ∷ xs) (suc i) q r g h e = let k : total (outs r) (take i xs) ≡ total (outs r) xs = all_sent xs i q r g h.1 e in omega arith

counts_some : (r : ℕ) (xs : List Action) (g : Region) → out_link r xs ≡ Some g → 0 < total (outs r) xs
counts_some r [] g e = absurd (none-some g e)
counts_some r (Send to from ∷ xs) g e = go (λ h. counts_some r xs g h) (cases_eq to r)
  where
    go : (out_link r xs ≡ Some g → 0 < total (outs r) xs) → (to ≡ r) ⊎ (to ≡ r → ⊥) → 0 < total (outs r) (Send to from ∷ xs)
    go more (inl h) = let k : outs r (Send to from) ≡ 1 = cond-true (eqb to r) 1 0 (eq-eqb to r h) in omega arith
    go more (inr h) = let k : 0 < total (outs r) xs = more (sym (cond-false (eqb to r) (Some from) (out_link r xs) (ne_eqb to r h)) ∙ e) in omega arith
counts_some r (Copy from into ∷ xs) g e = let k : 0 < total (outs r) xs = counts_some r xs g e in omega arith
counts_some r (Combine op ty x y into ∷ xs) g e = let k : 0 < total (outs r) xs = counts_some r xs g e in omega arith
counts_some r (Recv of into ∷ xs) g e = let k : 0 < total (outs r) xs = counts_some r xs g e in omega arith

has_len : (o : Option Region) (k : ℕ) → Some k ≡ len_of o → (g : Region) × (o ≡ Some g)
has_len None k h = absurd (none-some k (sym h))
has_len (Some g) k h = (g, refl)

received_at : (xs : List Action) (i q : ℕ) (g : Region) → slice_get xs i ≡ Some (Recv q g) → Receives xs q
received_at [] i q g e = absurd (none-some (Recv q g) e)
received_at (x ∷ xs) zero q g e = inl (subst (λ (y : Action). IsRecvOf y q) (sym (same_Some x (Recv q g) e)) refl)
received_at (x ∷ xs) (suc i) q g e = inr (received_at xs i q g e)

-- all whom the member hears before the round have joined
abbrev AllGave : Family → World → ℕ → ℕ → Type 0
AllGave f w j r = (s : ℕ) → Heard f j r s → w.given s ≢ None

module _ (n : ℕ) (f : Family) (lawful : IsLawful n f) (w : World) (t : Tracks n f w) (quiet : IsQuiet f w) where
  -- a Recv of round j has its Send
  is_sent : (j r q i : ℕ) (g : Region) → r < n → slice_get (actions_at f j r) i ≡ Some (Recv q g) → (q < n) × (0 < total (outs r) (actions_at f j q))
  is_sent j r q i g low e =
      let member : q < n = all_at (IsAmong n) (actions_at f j r) i (Recv q g) (lawful.peers j r low) e in
      let link = in_link_at (actions_at f j r) i q g ((round_at (f r) (lawful.schedules r low) j).follows) e in
      let there = has_len (out_link r (actions_at f j q)) g.len (sym (ap len_of link) ∙ lawful.aligned j r q low member) in
      (member, counts_some r (actions_at f j q) there.0 there.1)

  -- a member that is in round j or later, or has left, has done its Sends of round j
  sends_done : (j r q : ℕ) → q < n → w.given q ≢ None → j < length (f q).rounds
      → ((p : Progress) → w.progress q ≡ Some p → j ≤ p.round) → total (outs r) (done_at f w j q) ≡ total (outs r) (actions_at f j q)
  sends_done j r q member given low late = go (w.progress q) refl
    where
      gave : (g : Option (List ℕ)) → g ≢ None → total (outs r) (done_by None g j (actions_at f j q)) ≡ total (outs r) (actions_at f j q)
      gave None h = absurd (h refl)
      gave (Some bytes) h = refl

      now : (p : Progress) → w.progress q ≡ Some p → j ≡ p.round
          → (p.round ≡ length (f q).rounds)
          ⊎ ((of : ℕ) × (into : Region) × (slice_get (actions_at f p.round q) p.index ≡ Some (Recv of into)) × (w.mail of q p.round ≡ None))
          → total (outs r) (take p.index (actions_at f j q)) ≡ total (outs r) (actions_at f j q)
      now p e k (inl h) = absurd (omega arith)
      now p e k (inr h) =
          all_sent (actions_at f j q) p.index h.0 r h.1 ((round_at (f q) (lawful.schedules q member) j).follows)
          (ap (λ x. slice_get (actions_at f x q) p.index) k ∙ h.2)

      at : (p : Progress) → w.progress q ≡ Some p → (j < p.round) ⊎ (p.round ≤ j)
          → total (outs r) (done_by (Some p) (w.given q) j (actions_at f j q)) ≡ total (outs r) (actions_at f j q)
      at p e (inl h) = ap (total (outs r)) (done_less p (w.given q) j (actions_at f j q) h)
      at p e (inr h) =
          let k : j ≤ p.round = late p e in
          ap (total (outs r)) (done_same p (w.given q) j (actions_at f j q) (omega arith)) ∙ now p e (omega arith) (quiet q p e)

      go : (o : Option Progress) → w.progress q ≡ o
          → total (outs r) (done_by (w.progress q) (w.given q) j (actions_at f j q)) ≡ total (outs r) (actions_at f j q)
      go None e = ap (λ o. total (outs r) (done_by o (w.given q) j (actions_at f j q))) e ∙ gave (w.given q) given
      go (Some p) e = ap (λ o. total (outs r) (done_by o (w.given q) j (actions_at f j q))) e ∙ at p e (cases_lt j p.round)

  -- a member whose heard have joined is in no round before j
  reached : (j r : ℕ) (p : Progress) → j ≤ length (f r).rounds → AllGave f w j r → w.progress r ≡ Some p → j ≤ p.round
  reached zero r p low heard e = omega arith
  reached (suc j) r p low heard e = go (λ q x k h. reached j q x k h) (cases_eq p.round j) (quiet r p e)
    where
      member : r < n
      member = (t.members r p e).member

      theirs : (q i : ℕ) (g : Region) → p.round ≡ j → slice_get (actions_at f p.round r) i ≡ Some (Recv q g) → AllGave f w j q
      theirs q i g d at s h = heard s (inr (q, received_at (actions_at f j r) i q g (ap (λ (k : ℕ). slice_get (actions_at f k r) i) (sym d) ∙ at), h))

      go : ((q : ℕ) (x : Progress) → j ≤ length (f q).rounds → AllGave f w j q → w.progress q ≡ Some x → j ≤ x.round)
          → (p.round ≡ j) ⊎ (p.round ≡ j → ⊥)
          → (p.round ≡ length (f r).rounds)
          ⊎ ((of : ℕ) × (into : Region) × (slice_get (actions_at f p.round r) p.index ≡ Some (Recv of into)) × (w.mail of r p.round ≡ None)) → suc j ≤ p.round
      go before (inr d) x = let h : j ≤ p.round = before r p (omega arith) (λ s h. heard s (inl h)) e in omega arith
      go before (inl d) (inl x) = absurd (omega arith)
      go before (inl d) (inr x) =
          let sent = is_sent p.round r x.0 p.index x.1 member x.2 in
          let some : 0 < total (outs r) (actions_at f p.round x.0) = sent.1 in
          let gave : AllGave f w j x.0 = theirs x.0 p.index x.1 d x.2 in
          let rounds : length (f r).rounds ≡ length (f x.0).rounds = lawful.same_rounds r x.0 member sent.0 in
          let done : total (outs r) (done_at f w p.round x.0) ≡ total (outs r) (actions_at f p.round x.0) =
          sends_done p.round r x.0 sent.0 (gave x.0 (heard_self f j x.0)) (omega arith)
          (λ y k. subst (λ m. m ≤ y.round) (sym d) (before x.0 y (omega arith) gave k)) in
          let none : standing (w.mail x.0 r p.round) ≡ 0 = ap standing x.3 in
          let mine : total (ins x.0) (done_at f w p.round r) ≡ total (ins x.0) (take p.index (actions_at f p.round r)) =
          ap (λ o. total (ins x.0) (done_by o (w.given r) p.round (actions_at f p.round r))) e
          ∙ ap (total (ins x.0)) (done_same p (w.given r) p.round (actions_at f p.round r) refl) in
          let zero_in : total (ins x.0) (take p.index (actions_at f p.round r)) ≡ 0 =
          no_recv_before (actions_at f p.round r) p.index x.0 x.1 ((round_at (f r) (lawful.schedules r member) p.round).follows) x.2 in
          let balance : standing (w.mail x.0 r p.round) + total (ins x.0) (done_at f w p.round r) ≡ total (outs r) (done_at f w p.round x.0) =
          t.balanced x.0 r p.round in
          absurd (omega arith)

  pub heard_done : (r : ℕ) (p : Progress) → w.progress r ≡ Some p → AllGave f w (length (f r).rounds) r → p.round ≡ length (f r).rounds
  heard_done r p e heard =
      let h : length (f r).rounds ≤ p.round = reached (length (f r).rounds) r p (omega arith) heard e in
      let k : p.round ≤ length (f r).rounds = (t.members r p e).round_in in
      omega arith

  pub all_done : ((r : ℕ) → r < n → w.given r ≢ None) → (r : ℕ) (p : Progress) → w.progress r ≡ Some p → p.round ≡ length (f r).rounds
  all_done all r p e = heard_done r p e (λ s h. all s (heard_member n f lawful (length (f r).rounds) r s ((t.members r p e).member) h))

pub finishes : Finishes
finishes n f lawful w before all quiet r p e = all_done n f lawful w (tracks n f lawful before) quiet all r p e

pub finishes_heard : FinishesHeard
finishes_heard n f lawful w before quiet r p e heard = heard_done n f lawful w (tracks n f lawful before) quiet r p e heard
