-- worlds that agree everywhere, several ends of rounds at once, and an instance that all have left
use Rattle.std.proofs.Common.{◌≡◌, ℕ, zero, suc, ◌+◌, ◌<◌, ◌≤◌, ◌≢◌, ◌⊎◌, inl, inr, eqb, List, [], ◌∷◌, length, Option, Some, None, refl, sym, ap}
use Rattle.std.proofs.Common.{subst, ◌∙◌, arith, eq-eqb, ne_eqb, add-zero, add-suc}
use Rattle.std.proofs.lemmas.Option.{none-some}
use Rattle.std.proofs.lemmas.Bool.{cases_eq, cases_lt, cond-true, cond-false}
use Rattle.std.specs.List.{AllByRecursion}
use Rattle.coll_sched.specs.declared.region.Region.{Region}
use Rattle.coll_sched.specs.declared.action.Action.{Action}
use Rattle.coll_sched.specs.declared.action.Action.TheVariants.{Send, Copy, Combine, Recv}
use Rattle.coll_sched.specs.Common.{IsAmong, Follows, EachFollows, Family, actions_at, in_link, out_link, len_of, IsLawful, Progress, World, turned}
use Rattle.coll_sched.specs.Common.{send, compute, receive, outs, ins, total, done_by, done_at, standing, Tracks}
use Rattle.coll_kinds.specs.Puts.{put}
use Rattle.coll_sched.specs.Worlds.{Reached, begun, stepped, Step, join, turn, leave}
use Rattle.coll_sched.specs.Views.{Agrees, skipped, Skips, Empties}
use Rattle.coll_sched.proofs.Counts.{put_same, put_other, balanced_same, later_outs, none_standing, total_zero}
use Rattle.coll_sched.proofs.Track.{track_extends, transit_extends, tracks_turn, tracks}
use Rattle.coll_sched.proofs.Rounds.{round_at}

pub tracks_agrees : (n : ℕ) (f : Family) (w v : World) → Agrees w v → Tracks n f w → Tracks n f v
tracks_agrees n f w v a t = record {
  lengths = λ r bytes e. t.lengths r bytes (sym (a.given r) ∙ e);
  bytes = λ r given e. t.bytes r given (sym (a.given r) ∙ e);
  members = λ r p e. track_extends f w.given v.given (λ s h. a.given s) n r p (t.members r p (sym (a.progress r) ∙ e));
  in_transit = λ q r j bytes e. transit_extends f w.given v.given (λ s h. a.given s) q r j bytes (t.in_transit q r j bytes (sym (a.mail q r j) ∙ e));
  balanced = balanced_same f w v a.mail
      (λ j s. ap (λ o. done_by o (v.given s) j (actions_at f j s)) (a.progress s) ∙ ap (λ g. done_by (w.progress s) g j (actions_at f j s)) (a.given s))
      t.balanced;
}

put_put : {X : Type 0} (f : ℕ → X) (k : ℕ) (u v : X) (i : ℕ) → put f k v i ≡ put (put f k u) k v i
put_put f k u v i = go (cases_eq i k)
  where
    go : (i ≡ k) ⊎ (i ≡ k → ⊥) → put f k v i ≡ put (put f k u) k v i
    go (inl e) = ap (put f k v) e ∙ (put_same f k v ∙ (sym (put_same (put f k u) k v) ∙ sym (ap (put (put f k u) k v) e)))
    go (inr d) = put_other f k v i d ∙ (sym (put_other f k u i d) ∙ sym (put_other (put f k u) k v i d))

pub skips : Skips
skips n f w r p zero t e i low none =
    tracks_agrees n f (turned w r p) (skipped w r p (suc (p.round + 0)))
    (record {
      given = λ s. refl;
      progress =
          λ s. ap (λ k. put w.progress r (Some (record { round = suc k; index = 0; buf = p.buf })) s) (add-zero p.round);
      mail = λ q s j. refl;
    })
    (tracks_turn n f w r p e i (omega arith) t)
skips n f w r p (suc d) t e i low none =
    let before : Tracks n f (skipped w r p (suc (p.round + d))) = skips n f w r p d t e i (omega arith) (λ j x y. none j x (omega arith)) in
    let here : actions_at f (suc (p.round + d)) r ≡ [] = none (suc (p.round + d)) (omega arith) (omega arith) in
    tracks_agrees n f (turned (skipped w r p (suc (p.round + d))) r
    (record { round = suc (p.round + d); index = 0; buf = p.buf })) (skipped w r p (suc (p.round + suc d)))
    (record {
      given = λ s. refl;
      progress = λ s. ap (λ k. put w.progress r (Some (record { round = suc k; index = 0; buf = p.buf })) s) (add-suc p.round d)
          ∙ put_put w.progress r (Some (record { round = suc (p.round + d); index = 0; buf = p.buf }))
          (Some (record { round = suc (suc (p.round + d)); index = 0; buf = p.buf })) s;
      mail = λ q s j. refl;
    })
    (tracks_turn n f (skipped w r p (suc (p.round + d))) r (record { round = suc (p.round + d); index = 0; buf = p.buf })
    (put_same w.progress r (Some (record { round = suc (p.round + d); index = 0; buf = p.buf }))) (sym (ap length here)) (omega arith) before)

abbrev one_if : Option Region → ℕ
one_if None = 0
one_if (Some g) = 1

-- a round receives once of a member
later_ins : (of q : ℕ) (g : Region) (xs : List Action) → of ≡ q → AllByRecursion (Follows (Recv of g)) xs → total (ins q) xs ≡ 0
later_ins of q g xs e h = total_zero (ins q) (Follows (Recv of g)) one xs h
  where
    one : (b : Action) → Follows (Recv of g) b → ins q b ≡ 0
    one (Send to from) f = refl
    one (Copy from into) f = refl
    one (Combine op ty x y into) f = refl
    one (Recv p k) f = cond-false (eqb p q) 1 0 (ne_eqb p q (λ m. f.other_peer (e ∙ sym m)))

count_out : (r : ℕ) (xs : List Action) → EachFollows xs → total (outs r) xs ≡ one_if (out_link r xs)
count_out r [] h = refl
count_out r (Send to from ∷ xs) h = go (count_out r xs h.1) (cases_eq to r)
  where
    go : total (outs r) xs ≡ one_if (out_link r xs) → (to ≡ r) ⊎ (to ≡ r → ⊥) → total (outs r) (Send to from ∷ xs) ≡ one_if (out_link r (Send to from ∷ xs))
    go more (inl e) =
        let k : outs r (Send to from) ≡ 1 = cond-true (eqb to r) 1 0 (eq-eqb to r e) in
        let l : total (outs r) xs ≡ 0 = later_outs to r from xs e h.0 in
        let s : total (outs r) (Send to from ∷ xs) ≡ 1 = omega arith in
        s ∙ sym (ap one_if (cond-true (eqb to r) (Some from) (out_link r xs) (eq-eqb to r e)))
    go more (inr d) =
        let k : outs r (Send to from) ≡ 0 = cond-false (eqb to r) 1 0 (ne_eqb to r d) in
        let s : total (outs r) (Send to from ∷ xs) ≡ total (outs r) xs = omega arith in
        s ∙ (more ∙ sym (ap one_if (cond-false (eqb to r) (Some from) (out_link r xs) (ne_eqb to r d))))
count_out r (Copy from into ∷ xs) h = let k : total (outs r) xs ≡ one_if (out_link r xs) = count_out r xs h.1 in omega arith
count_out r (Combine op ty x y into ∷ xs) h = let k : total (outs r) xs ≡ one_if (out_link r xs) = count_out r xs h.1 in omega arith
count_out r (Recv of into ∷ xs) h = let k : total (outs r) xs ≡ one_if (out_link r xs) = count_out r xs h.1 in omega arith

count_in : (q : ℕ) (xs : List Action) → EachFollows xs → total (ins q) xs ≡ one_if (in_link q xs)
count_in q [] h = refl
count_in q (Recv of into ∷ xs) h = go (count_in q xs h.1) (cases_eq of q)
  where
    go : total (ins q) xs ≡ one_if (in_link q xs) → (of ≡ q) ⊎ (of ≡ q → ⊥) → total (ins q) (Recv of into ∷ xs) ≡ one_if (in_link q (Recv of into ∷ xs))
    go more (inl e) =
        let k : ins q (Recv of into) ≡ 1 = cond-true (eqb of q) 1 0 (eq-eqb of q e) in
        let l : total (ins q) xs ≡ 0 = later_ins of q into xs e h.0 in
        let s : total (ins q) (Recv of into ∷ xs) ≡ 1 = omega arith in
        s ∙ sym (ap one_if (cond-true (eqb of q) (Some into) (in_link q xs) (eq-eqb of q e)))
    go more (inr d) =
        let k : ins q (Recv of into) ≡ 0 = cond-false (eqb of q) 1 0 (ne_eqb of q d) in
        let s : total (ins q) (Recv of into ∷ xs) ≡ total (ins q) xs = omega arith in
        s ∙ (more ∙ sym (ap one_if (cond-false (eqb of q) (Some into) (in_link q xs) (ne_eqb of q d))))
count_in q (Copy from into ∷ xs) h = let k : total (ins q) xs ≡ one_if (in_link q xs) = count_in q xs h.1 in omega arith
count_in q (Combine op ty x y into ∷ xs) h = let k : total (ins q) xs ≡ one_if (in_link q xs) = count_in q xs h.1 in omega arith
count_in q (Send to from ∷ xs) h = let k : total (ins q) xs ≡ one_if (in_link q xs) = count_in q xs h.1 in omega arith

same_count : (o l : Option Region) → len_of o ≡ len_of l → one_if o ≡ one_if l
same_count None None h = refl
same_count None (Some g) h = absurd (none-some g.len h)
same_count (Some g) None h = absurd (none-some g.len (sym h))
same_count (Some g) (Some k) h = refl

-- who has joined and left has done all actions
done_all : (n : ℕ) (f : Family) (w : World) → ((r : ℕ) → r < n → (w.given r ≢ None) × (w.progress r ≡ None)) → (j s : ℕ) → s < n
    → done_at f w j s ≡ actions_at f j s
done_all n f w gone j s low = ap (λ o. done_by o (w.given s) j (actions_at f j s)) (gone s low).1 ∙ gave (w.given s) (gone s low).0
  where
    gave : (o : Option (List ℕ)) → o ≢ None → done_by None o j (actions_at f j s) ≡ actions_at f j s
    gave None h = absurd (h refl)
    gave (Some bytes) h = refl

-- between two members
among : (n : ℕ) (f : Family) → IsLawful n f → (w : World) → Tracks n f w
    → ((r : ℕ) → r < n → (w.given r ≢ None) × (w.progress r ≡ None)) → (q r j : ℕ) → q < n → r < n → w.mail q r j ≡ None
among n f lawful w t gone q r j hq hr =
    let b : standing (w.mail q r j) + total (ins q) (done_at f w j r) ≡ total (outs r) (done_at f w j q) = t.balanced q r j in
    let e1 : total (ins q) (done_at f w j r) ≡ total (ins q) (actions_at f j r) = ap (total (ins q)) (done_all n f w gone j r hr) in
    let e2 : total (outs r) (done_at f w j q) ≡ total (outs r) (actions_at f j q) = ap (total (outs r)) (done_all n f w gone j q hq) in
    let e3 : total (ins q) (actions_at f j r) ≡ one_if (in_link q (actions_at f j r)) =
    count_in q (actions_at f j r) ((round_at (f r) (lawful.schedules r hr) j).follows) in
    let e4 : total (outs r) (actions_at f j q) ≡ one_if (out_link r (actions_at f j q)) =
    count_out r (actions_at f j q) ((round_at (f q) (lawful.schedules q hq) j).follows) in
    let e5 : one_if (in_link q (actions_at f j r)) ≡ one_if (out_link r (actions_at f j q)) =
    same_count (in_link q (actions_at f j r)) (out_link r (actions_at f j q)) (lawful.aligned j r q hr hq) in
    none_standing (w.mail q r j) (omega arith)

-- only members join
pub joined_member : (n : ℕ) (f : Family) {w : World} → Reached n f w → (r : ℕ) → w.given r ≢ None → r < n
joined_member n f begun r h = absurd (h refl)
joined_member n f (stepped before step) r h = go step (λ k. joined_member n f before r k) h
  where
    go : {w v : World} → Step n f w v → (w.given r ≢ None → r < n) → v.given r ≢ None → r < n
    go (join {w = w} s bytes low none len are) old k = either (cases_eq r s)
      where
        either : (r ≡ s) ⊎ (r ≡ s → ⊥) → r < n
        either (inl e) = subst (λ m. m < n) (sym e) low
        either (inr d) = old (λ e. k (put_other w.given s (Some bytes) r d ∙ e))
    go (send s p to from next) old k = old k
    go (compute s p a next loc) old k = old k
    go (receive s p of into bytes next stands) old k = old k
    go (turn s p e i low) old k = old k
    go (leave s p e i) old k = old k

-- nothing is sent to a number that is no member
outs_among : (n r : ℕ) → n ≤ r → (a : Action) → IsAmong n a → outs r a ≡ 0
outs_among n r high (Send to from) h = cond-false (eqb to r) 1 0 (ne_eqb to r (omega arith))
outs_among n r high (Copy from into) h = refl
outs_among n r high (Combine op ty x y into) h = refl
outs_among n r high (Recv of into) h = refl

-- who isn't a member has done nothing
stranger : (n : ℕ) (f : Family) (w : World) → Reached n f w → Tracks n f w → (j q : ℕ) → n ≤ q → done_at f w j q ≡ []
stranger n f w before t j q high = go (w.progress q) (w.given q) refl refl
  where
    go : (o : Option Progress) (g : Option (List ℕ)) → w.progress q ≡ o → w.given q ≡ g → done_by o g j (actions_at f j q) ≡ []
    go None None e k = refl
    go None (Some bytes) e k = let low : q < n = joined_member n f before q (λ x. none-some bytes (sym x ∙ k)) in absurd (omega arith)
    go (Some p) g e k = let low : q < n = (t.members q p e).member in absurd (omega arith)

pub empties : Empties
empties n f lawful w before gone q r j = go (cases_lt q n) (cases_lt r n)
  where
    t : Tracks n f w
    t = tracks n f lawful before

    sent_none : total (outs r) (done_at f w j q) ≡ 0 → w.mail q r j ≡ None
    sent_none z =
        let b : standing (w.mail q r j) + total (ins q) (done_at f w j r) ≡ total (outs r) (done_at f w j q) = t.balanced q r j in
        none_standing (w.mail q r j) (omega arith)

    go : (q < n) ⊎ (n ≤ q) → (r < n) ⊎ (n ≤ r) → w.mail q r j ≡ None
    go (inl x) (inl y) = among n f lawful w t gone q r j x y
    go (inr x) y = sent_none (ap (total (outs r)) (stranger n f w before t j q x))
    go (inl x) (inr y) =
        sent_none (ap (total (outs r)) (done_all n f w gone j q x) ∙ total_zero (outs r) (IsAmong n) (outs_among n r y) (actions_at f j q) (lawful.peers j q x))
