-- A completed start has the value that the ranks' requests fix, also of those made later.
use Rattle.std.proofs.Common.{◌≡◌, ◌≢◌, ℕ, zero, suc, ◌+◌, ◌<◌, true, ltb, List, [], length, map, replicate, Option, Some, None, refl, sym, ap, ◌∙◌, arith}
use Rattle.std.specs.Prelude.{slice_get, unwrap_or}
use Rattle.std.specs.List.{range_with_len}
use Rattle.std.proofs.lemmas.Option.{same_Some, slice_get-get_or}
use Rattle.std.proofs.lemmas.Bool.{and_parts, ltb-true}
use Rattle.std.proofs.lemmas.List.{length-map}
use Rattle.coll_kinds.specs.declared.signature.Signature.{Signature}
use Rattle.coll_kinds.specs.Common.{given_len, broken, needs, needs_of, member_of}
use Rattle.coll_ops.specs.Values.{value, row_of}
use Rattle.coll_ops.proofs.Agreeing.{values_read_needs}
use Rattle.coll_report.specs.Scripts.{Asked, on, at_place, given_by, contributions, value_for, outcome}
use Rattle.coll_machine.proofs.Members.{member_at}
use Rattle.coll_machine.specs.Common.{Setting, group, size, rank_of, Request, State, key_of, signature_of, filled, IsPosted, ArePosted}
use Rattle.coll_machine.specs.declared.key.Key.{Key}
use Rattle.coll_report.proofs.Lists.{get_longer, get_map, placed, grown, Grows}
use Rattle.coll_report.proofs.Standing.{Requests, Tickets, Known, Stands}

get_range : {X : Type 0} (f : ℕ → X) (k n i : ℕ) → i < n → slice_get (map f (range_with_len k n)) i ≡ Some (f (k + i))
get_range f k zero i lt = absurd (omega arith)
get_range f k (suc n) zero lt = let e : k ≡ k + 0 = omega arith in ap (λ m. Some (f m)) e
get_range f k (suc n) (suc i) lt = let e : (k + 1) + i ≡ k + suc i = omega arith in get_range f (k + 1) n i (omega arith) ∙ ap (λ m. Some (f m)) e

length_range : {X : Type 0} (f : ℕ → X) (k n : ℕ) → length (map f (range_with_len k n)) ≡ n
length_range f k zero = refl
length_range f k (suc n) = ap suc (length_range f (k + 1) n)

-- who has given has given some bytes
some_given : (o : Option (List ℕ)) → (o ≢ None) → (b : List ℕ) × (o ≡ Some b)
some_given None d = absurd (d refl)
some_given (Some b) d = (b, refl)

module _ (g : Setting) (s : State) (now whole : Requests) (ts : Tickets) (h : Stands g s now ts) (posted : ArePosted g s)
    (grows : (r : ℕ) → Grows (now r) (whole r)) (slot start : ℕ) (q : Request) (sig : Signature) (here : s.request slot ≡ Some q)
    (sig_is : signature_of s q ≡ Some sig) (needed : (m : ℕ) → needs sig (size g q.comm) q.member m ≡ true → s.given (key_of q start) m ≢ None) where
  own : Known g now ts slot (s.generation slot) q
  own = h.known slot q here

  abbrev key : Key
  key = key_of q start

  abbrev n : ℕ
  n = size g q.comm

  entry : IsPosted g s q
  entry = posted.posted slot q here

  there : (q.member < n) × (rank_of g q.comm q.member ≡ q.rank)
  there = member_at g q.comm q.rank q.member entry.member_is

  at_now : at_place (now q.rank) q.comm q.place ≡ Some own.asked
  at_now = ap (λ p. at_place (now q.rank) q.comm p) (sym own.place_is) ∙ placed q.comm (now q.rank) own.number own.asked own.is own.comm_is

  -- the posting list has the signature that the rank asked for
  same_sig : own.asked.sig ≡ sig
  same_sig =
      let list : s.posts q.comm q.member ≡ map (λ (x : Asked). x.sig) (on q.comm (now q.rank)) =
      h.lists q.comm q.member there.0 ∙ ap (λ r. map (λ (x : Asked). x.sig) (on q.comm (now r))) there.1 in
      same_Some own.asked.sig sig
      (sym (get_map (λ (x : Asked). x.sig) (on q.comm (now q.rank)) q.place own.asked at_now)
      ∙ (ap (λ (l : List Signature). slice_get l q.place) (sym list) ∙ sig_is))

  later : (more : List (List ℕ)) × (at_place (whole q.rank) q.comm q.place ≡ Some (grown own.asked more))
  later = grows q.rank q.comm q.place own.asked at_now

  -- whoever is needed has given what the ranks' requests say
  same_row : (p : ℕ) → needs sig n q.member p ≡ true → row_of (filled sig n (s.given key)) p ≡ row_of (contributions g whole key) p
  same_row p need =
      let low : p < n = ltb-true p n (and_parts (ltb p n) (needs_of sig.kind sig.root q.member p) need).0 in
      let contribution = some_given (s.given key p) (needed p need) in
      let gave = h.contributions key p contribution.0 low contribution.1 in
      let more = grows (rank_of g q.comm p) q.comm q.place gave.asked gave.is in
      let left : row_of (filled sig n (s.given key)) p ≡ contribution.0 =
      ap (λ (o : Option (List ℕ)). unwrap_or o []) (get_range (λ m. unwrap_or (s.given key m) (replicate (given_len sig n m) 0)) 0 n p low)
      ∙ zeros (0 + p) p contribution.0 (omega arith) contribution.1 in
      let right : row_of (contributions g whole key) p ≡ contribution.0 =
      ap (λ (o : Option (List ℕ)). unwrap_or o [])
      (get_map (λ rank. given_by start (at_place (whole rank) q.comm q.place)) (group g q.comm) p (rank_of g q.comm p)
      (slice_get-get_or (group g q.comm) p 0 low))
      ∙ (ap (given_by start) more.1 ∙ ap (λ (o : Option (List ℕ)). unwrap_or o []) (get_longer gave.asked.starts more.0 start contribution.0 gave.given)) in
      left ∙ sym right
    where
      zeros : (i p : ℕ) (b : List ℕ) → i ≡ p → s.given key p ≡ Some b → unwrap_or (s.given key i) (replicate (given_len sig n i) 0) ≡ b
      zeros i p b e is =
          ap (λ i. unwrap_or (s.given key i) (replicate (given_len sig n i) 0)) e
          ∙ ap (λ (o : Option (List ℕ)). unwrap_or o (replicate (given_len sig n p) 0)) is

  pub value_is : value sig (filled sig n (s.given key)) q.member ≡ outcome g whole q.rank key
  value_is =
      values_read_needs sig n q.member (filled sig n (s.given key)) (contributions g whole key)
      (ap (λ (x : Signature). broken x n) (same_Some sig entry.sig (sym sig_is ∙ entry.sig_is)) ∙ entry.checked) there.0
      (length_range (λ m. unwrap_or (s.given key m) (replicate (given_len sig n m) 0)) 0 n)
      (length-map (group g q.comm) (λ rank. given_by start (at_place (whole rank) q.comm q.place))) same_row
      ∙ sym (ap (λ (o : Option Asked). value_for o (contributions g whole key) (unwrap_or (member_of q.rank (group g q.comm)) 0)) later.1
      ∙ ((λ z. value (same_sig z) (contributions g whole key) (unwrap_or (entry.member_is z) 0))))
