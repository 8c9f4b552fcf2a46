-- What holds of a state and the requests that its ranks have asked for so far.
use Rattle.std.proofs.Common.{◌≡◌, ℕ, suc, ◌<◌, ◌≤◌, ◌⊎◌, inl, inr, List, [], ◌∷◌, ◌++◌, length, take, map, Option, Some, None, refl, sym, ap, subst}
use Rattle.std.proofs.Common.{◌∙◌, arith}
use Rattle.std.specs.Prelude.{slice_get}
use Rattle.std.proofs.lemmas.Option.{none-some, same_Some, slice_get_within}
use Rattle.std.proofs.lemmas.Bool.{cases_eq}
use Rattle.coll_machine.proofs.Members.{member_at}
use Rattle.coll_kinds.specs.declared.signature.Signature.{Signature}
use Rattle.coll_kinds.specs.declared.kind.Mode.{Mode}
use Rattle.coll_kinds.specs.declared.kind.Mode.TheVariants.{Once, Persistent}
use Rattle.coll_report.specs.Scripts.{Asked, asked_at, one_more, changed_at, on, at_place}
use Rattle.coll_kinds.proofs.Puts.{put_same, put_cases}
use Rattle.coll_kinds.specs.Common.{member_of, put}
use Rattle.coll_kinds.specs.declared.ticket.Ticket.{Ticket}
use Rattle.coll_machine.proofs.Pushed.{get_pushed, get_front, get_either, length_pushed}
use Rattle.coll_machine.proofs.Puts.{put2_cases, put_key_cases}
use Rattle.coll_machine.specs.Common.{put_key, holding, created, new_request, once_more, started, rested, rested_by, forgotten, Setting, group, size}
use Rattle.coll_machine.specs.Common.{rank_of, AreGroups, Request, State, nothing, key_of, IsNew}
use Rattle.coll_machine.specs.declared.key.Key.{Key}
use Rattle.coll_report.proofs.Lists.{get_longer, take_front, take_pushed, map_pushed, length-changed, get_changed, get_unchanged, on_pushed}
use Rattle.coll_report.proofs.Lists.{on_others, placed, grown, signatures_changed, place_unchanged, Grows, grows_push, grows_change, grows_self}

-- what each rank has asked for, and the tickets of its requests
abbrev pub Requests : Type 0
Requests = ℕ → List Asked

abbrev pub Tickets : Type 0
Tickets = ℕ → List Ticket

abbrev pub sigs : List Asked → List Signature
sigs xs = map (λ (y : Asked). y.sig) xs

-- a live request is one that its rank asked for
pub record Known (g : Setting) (now : Requests) (ts : Tickets) (i generation : ℕ) (q : Request) : Type 0 where
  pub number : ℕ
  pub asked : Asked
  pub named : slice_get (ts q.rank) number ≡ Some (record { slot = i; generation = generation })
  pub is : slice_get (now q.rank) number ≡ Some asked
  pub comm_is : asked.comm ≡ q.comm
  pub place_is : length (on q.comm (take number (now q.rank))) ≡ q.place
  pub starts_is : length asked.starts ≡ q.starts

-- a contribution is what its rank gave
pub record Gave (now : Requests) (rank : ℕ) (k : Key) (b : List ℕ) : Type 0 where
  pub asked : Asked
  pub is : at_place (now rank) k.comm k.place ≡ Some asked
  pub given : slice_get asked.starts k.start ≡ Some b

pub record Stands (g : Setting) (s : State) (now : Requests) (ts : Tickets) : Type 0 where
  pub lists : (c m : ℕ) → m < size g c → s.posts c m ≡ map (λ (x : Asked). x.sig) (on c (now (rank_of g c m)))
  pub contributions : (k : Key) (m : ℕ) (b : List ℕ) → m < size g k.comm → s.given k m ≡ Some b → Gave now (rank_of g k.comm m) k b
  pub known : (i : ℕ) (q : Request) → s.request i ≡ Some q → Known g now ts i (s.generation i) q
  pub old : (r n : ℕ) (t : Ticket) → slice_get (ts r) n ≡ Some t → t.generation ≤ s.generation t.slot
  pub apart : (r a b : ℕ) (t : Ticket) → slice_get (ts r) a ≡ Some t → slice_get (ts r) b ≡ Some t → a ≡ b
  pub even : (r : ℕ) → length (ts r) ≡ length (now r)

pub stands_nothing : (g : Setting) → Stands g nothing (λ r. []) (λ r. [])
stands_nothing g = record {
  lists = λ c m lt. refl;
  contributions = λ k m b lt e. absurd (none-some b e);
  known = λ i q e. absurd (none-some q e);
  old = λ r n t e. absurd (none-some t e);
  apart = λ r a b t e f. absurd (none-some t e);
  even = λ r. refl;
}

-- what a rank gave stays given
gave_grows : (now then : Requests) (r : ℕ) (k : Key) (b : List ℕ) → Grows (now r) (then r) → Gave now r k b → Gave then r k b
gave_grows now then r k b grows h =
    let more = grows k.comm k.place h.asked h.is in
    record { asked = grown h.asked more.0; is = more.1; given = get_longer h.asked.starts more.0 k.start b h.given }

grows_at : (now : Requests) (r : ℕ) (xs : List Asked) → Grows (now r) xs → (q : ℕ) → Grows (now q) (put now r xs q)
grows_at now r xs h q = go (put_cases now r xs q)
  where
    go : ((q ≡ r) × (put now r xs q ≡ xs)) ⊎ ((q ≡ r → ⊥) × (put now r xs q ≡ now q)) → Grows (now q) (put now r xs q)
    go (inl e) = subst (λ (l : List Asked). Grows (now q) l) (sym e.1) (subst (λ q. Grows (now q) xs) (sym e.0) h)
    go (inr e) = subst (λ (l : List Asked). Grows (now q) l) (sym e.1) (grows_self (now q))

-- ---- a new request

module _ (g : Setting) (groups : AreGroups g) (s : State) (now : Requests) (ts : Tickets) (h : Stands g s now ts)
    (rank comm member place : ℕ) (mode : Mode) (t : Ticket) (sig : Signature) (is : member_of rank (group g comm) ≡ Some member)
    (place_is : place ≡ length (s.posts comm member)) (new : IsNew g s t) where
  abbrev q : Request
  q = new_request rank comm member place mode

  abbrev x : Asked
  x = asked_at comm sig []

  abbrev pub now_new : Requests
  now_new = put now rank (now rank ++ x ∷ [])

  abbrev pub ts_new : Tickets
  ts_new = put ts rank (ts rank ++ t ∷ [])

  there : (member < size g comm) × (rank_of g comm member ≡ rank)
  there = member_at g comm rank member is

  own_now : now_new rank ≡ now rank ++ x ∷ []
  own_now = put_same now rank (now rank ++ x ∷ [])

  own_ts : ts_new rank ≡ ts rank ++ t ∷ []
  own_ts = put_same ts rank (ts rank ++ t ∷ [])

  pub grows_new : (r : ℕ) → Grows (now r) (now_new r)
  grows_new = grows_at now rank (now rank ++ x ∷ []) (grows_push (now rank) x)

  -- the rank's requests on the communicator fill its posting list
  places_are : length (on comm (now rank)) ≡ place
  places_are =
      let e = h.lists comm member there.0 in
      sym (length_map (on comm (now rank)))
      ∙ (ap (λ r. length (map (λ (y : Asked). y.sig) (on comm (now r)))) (sym there.1) ∙ (ap (λ (l : List Signature). length l) (sym e) ∙ sym place_is))
    where
      length_map : (xs : List Asked) → length (map (λ (y : Asked). y.sig) xs) ≡ length xs
      length_map [] = refl
      length_map (y ∷ xs) = ap suc (length_map xs)

  lists_new : (c m : ℕ) → m < size g c → (created s t q sig).posts c m ≡ map (λ (y : Asked). y.sig) (on c (now_new (rank_of g c m)))
  lists_new c m lt =
      go (put2_cases s.posts comm member (s.posts comm member ++ sig ∷ []) c m) (put_cases now rank (now rank ++ x ∷ []) (rank_of g c m)) (cases_eq c comm)
    where
      go : ((c ≡ comm) × (m ≡ member) × ((created s t q sig).posts c m ≡ s.posts comm member ++ sig ∷ []))
          ⊎ (((c ≡ comm) × (m ≡ member) → ⊥) × ((created s t q sig).posts c m ≡ s.posts c m))
          → ((rank_of g c m ≡ rank) × (now_new (rank_of g c m) ≡ now rank ++ x ∷ []))
          ⊎ ((rank_of g c m ≡ rank → ⊥) × (now_new (rank_of g c m) ≡ now (rank_of g c m)))
          → (c ≡ comm) ⊎ (c ≡ comm → ⊥) → (created s t q sig).posts c m ≡ sigs (on c (now_new (rank_of g c m)))
      go (inl a) (inl b) _ =
          a.2 ∙ (ap (λ l. l ++ sig ∷ []) (h.lists comm member there.0 ∙ ap (λ r. sigs (on comm (now r))) there.1)
          ∙ (sym (map_pushed (λ (y : Asked). y.sig) (on comm (now rank)) x) ∙ (ap sigs (sym (on_pushed comm (now rank) x refl))
          ∙ (ap (λ c. sigs (on c (now rank ++ x ∷ []))) (sym a.0) ∙ ap (λ (l : List Asked). sigs (on c l)) (sym b.1)))))
      go (inl a) (inr b) _ = absurd (b.0 (ap (λ c. rank_of g c m) a.0 ∙ (ap (rank_of g comm) a.1 ∙ there.1)))
      go (inr a) (inr b) _ = a.1 ∙ (h.lists c m lt ∙ ap (λ (l : List Asked). sigs (on c l)) (sym b.1))
      go (inr a) (inl b) (inl e) =
          let mine : Some m ≡ Some member =
          sym ((groups c).found m lt) ∙ (ap (λ r. member_of r (group g c)) b.0 ∙ (ap (λ c. member_of rank (group g c)) e ∙ is)) in
          absurd (a.0 (e, same_Some m member mine))
      go (inr a) (inl b) (inr d) =
          a.1 ∙ (h.lists c m lt ∙ (ap (λ r. sigs (on c (now r))) b.0
          ∙ (ap sigs (sym (on_others c (now rank) x (λ e. d (sym e)))) ∙ ap (λ (l : List Asked). sigs (on c l)) (sym b.1))))

  known_new : (i : ℕ) (p : Request) → (created s t q sig).request i ≡ Some p → Known g now_new ts_new i ((created s t q sig).generation i) p
  known_new i p e = go (put_cases s.request t.slot (Some q) i) (put_cases s.generation t.slot t.generation i)
    where
      go : ((i ≡ t.slot) × (put s.request t.slot (Some q) i ≡ Some q)) ⊎ ((i ≡ t.slot → ⊥) × (put s.request t.slot (Some q) i ≡ s.request i))
          → ((i ≡ t.slot) × (put s.generation t.slot t.generation i ≡ t.generation))
          ⊎ ((i ≡ t.slot → ⊥) × (put s.generation t.slot t.generation i ≡ s.generation i))
          → Known g now_new ts_new i (put s.generation t.slot t.generation i) p
      go (inl a) (inl b) =
          let same : q ≡ p = same_Some q p (sym a.1 ∙ e) in
          subst (λ (p : Request). Known g now_new ts_new i (put s.generation t.slot t.generation i) p) same (record {
            number = length (now rank);
            asked = x;
            named = ap (λ (l : List Ticket). slice_get l (length (now rank))) own_ts
                ∙ (ap (slice_get (ts rank ++ t ∷ [])) (sym (h.even rank))
                ∙ (get_pushed (ts rank) t ∙ (λ z. Some (record { slot = sym a.0 z; generation = sym b.1 z }))));
            is = ap (λ (l : List Asked). slice_get l (length (now rank))) own_now ∙ get_pushed (now rank) x;
            comm_is = refl;
            place_is = ap (λ (l : List Asked). length (on comm (take (length (now rank)) l))) own_now
                ∙ (ap (λ (l : List Asked). length (on comm l)) (take_pushed (now rank) x) ∙ places_are);
            starts_is = refl;
          })
      go (inr a) (inr b) =
          subst (λ n. Known g now_new ts_new i n p) (sym b.1)
          (stays (put_cases now rank (now rank ++ x ∷ []) p.rank) (put_cases ts rank (ts rank ++ t ∷ []) p.rank))
        where
          k : Known g now ts i (s.generation i) p
          k = h.known i p (sym a.1 ∙ e)

          low : k.number < length (now p.rank)
          low = slice_get_within (now p.rank) k.number k.asked k.is

          stays : ((p.rank ≡ rank) × (now_new p.rank ≡ now rank ++ x ∷ [])) ⊎ ((p.rank ≡ rank → ⊥) × (now_new p.rank ≡ now p.rank))
              → ((p.rank ≡ rank) × (ts_new p.rank ≡ ts rank ++ t ∷ [])) ⊎ ((p.rank ≡ rank → ⊥) × (ts_new p.rank ≡ ts p.rank))
              → Known g now_new ts_new i (s.generation i) p
          stays (inl u) (inl v) =
              let lists : now_new p.rank ≡ now p.rank ++ x ∷ [] = u.1 ∙ ap (λ r. now r ++ x ∷ []) (sym u.0) in
              let names : ts_new p.rank ≡ ts p.rank ++ t ∷ [] = v.1 ∙ ap (λ r. ts r ++ t ∷ []) (sym u.0) in
              let lt : k.number < length (now p.rank) = low in
              record {
                number = k.number;
                asked = k.asked;
                named = ap (λ (l : List Ticket). slice_get l k.number) names ∙ get_front (ts p.rank) t k.number _ k.named;
                is = ap (λ (l : List Asked). slice_get l k.number) lists ∙ get_front (now p.rank) x k.number k.asked k.is;
                comm_is = k.comm_is;
                place_is = ap (λ (l : List Asked). length (on p.comm (take k.number l))) lists
                    ∙ (ap (λ (l : List Asked). length (on p.comm l)) (take_front (now p.rank) x k.number (omega arith)) ∙ k.place_is);
                starts_is = k.starts_is;
              }
          stays (inr u) (inr v) = record {
            number = k.number;
            asked = k.asked;
            named = ap (λ (l : List Ticket). slice_get l k.number) v.1 ∙ k.named;
            is = ap (λ (l : List Asked). slice_get l k.number) u.1 ∙ k.is;
            comm_is = k.comm_is;
            place_is = ap (λ (l : List Asked). length (on p.comm (take k.number l))) u.1 ∙ k.place_is;
            starts_is = k.starts_is;
          }
          stays (inl u) (inr v) = absurd (v.0 u.0)
          stays (inr u) (inl v) = absurd (u.0 v.0)
      go (inl a) (inr b) = absurd (b.0 a.0)
      go (inr a) (inl b) = absurd (a.0 b.0)

  -- the ticket isn't among the old ones
  fresh : (n : ℕ) → slice_get (ts rank) n ≡ Some t → ⊥
  fresh n e =
      let was : t.generation ≤ s.generation t.slot = h.old rank n t e in
      let next : t.generation ≡ suc (s.generation t.slot) = new.next in
      omega arith

  at_rank : (r n : ℕ) (u : Ticket) → slice_get (ts_new r) n ≡ Some u → (slice_get (ts r) n ≡ Some u) ⊎ ((r ≡ rank) × (n ≡ length (ts rank)) × (t ≡ u))
  at_rank r n u e = go (put_cases ts rank (ts rank ++ t ∷ []) r)
    where
      split : (r ≡ rank) → (slice_get (ts rank) n ≡ Some u) ⊎ ((n ≡ length (ts rank)) × (t ≡ u))
          → (slice_get (ts r) n ≡ Some u) ⊎ ((r ≡ rank) × (n ≡ length (ts rank)) × (t ≡ u))
      split a (inl f) = inl (ap (λ r. slice_get (ts r) n) a ∙ f)
      split a (inr f) = inr (a, f.0, f.1)

      go : ((r ≡ rank) × (ts_new r ≡ ts rank ++ t ∷ [])) ⊎ ((r ≡ rank → ⊥) × (ts_new r ≡ ts r))
          → (slice_get (ts r) n ≡ Some u) ⊎ ((r ≡ rank) × (n ≡ length (ts rank)) × (t ≡ u))
      go (inl a) = split a.0 (get_either (ts rank) t n u (ap (λ (l : List Ticket). slice_get l n) (sym a.1) ∙ e))
      go (inr a) = inl (ap (λ (l : List Ticket). slice_get l n) (sym a.1) ∙ e)

  old_new : (r n : ℕ) (u : Ticket) → slice_get (ts_new r) n ≡ Some u → u.generation ≤ (created s t q sig).generation u.slot
  old_new r n u e = go (at_rank r n u e) (put_cases s.generation t.slot t.generation u.slot)
    where
      next : t.generation ≡ suc (s.generation t.slot)
      next = new.next

      go : (slice_get (ts r) n ≡ Some u) ⊎ ((r ≡ rank) × (n ≡ length (ts rank)) × (t ≡ u))
          → ((u.slot ≡ t.slot) × (put s.generation t.slot t.generation u.slot ≡ t.generation))
          ⊎ ((u.slot ≡ t.slot → ⊥) × (put s.generation t.slot t.generation u.slot ≡ s.generation u.slot))
          → u.generation ≤ put s.generation t.slot t.generation u.slot
      go (inl a) (inl b) =
          let was : u.generation ≤ s.generation t.slot = subst (λ i. u.generation ≤ s.generation i) b.0 (h.old r n u a) in
          let is : put s.generation t.slot t.generation u.slot ≡ t.generation = b.1 in
          let n = next in
          omega arith
      go (inl a) (inr b) = subst (λ n. u.generation ≤ n) (sym b.1) (h.old r n u a)
      go (inr a) (inl b) = let e : u.generation ≡ t.generation =
          ap (λ (z : Ticket). z.generation) (sym a.2) in let is : put s.generation t.slot t.generation u.slot ≡ t.generation = b.1 in omega arith
      go (inr a) (inr b) = absurd (b.0 (ap (λ (z : Ticket). z.slot) (sym a.2)))

  apart_new : (r a b : ℕ) (u : Ticket) → slice_get (ts_new r) a ≡ Some u → slice_get (ts_new r) b ≡ Some u → a ≡ b
  apart_new r a b u e f = go (at_rank r a u e) (at_rank r b u f)
    where
      go : (slice_get (ts r) a ≡ Some u) ⊎ ((r ≡ rank) × (a ≡ length (ts rank)) × (t ≡ u))
          → (slice_get (ts r) b ≡ Some u) ⊎ ((r ≡ rank) × (b ≡ length (ts rank)) × (t ≡ u)) → a ≡ b
      go (inl x) (inl y) = h.apart r a b u x y
      go (inr x) (inr y) = x.1 ∙ sym y.1
      go (inl x) (inr y) = absurd (fresh a (ap (λ r. slice_get (ts r) a) (sym y.0) ∙ (x ∙ ap Some (sym y.2))))
      go (inr x) (inl y) = absurd (fresh b (ap (λ r. slice_get (ts r) b) (sym x.0) ∙ (y ∙ ap Some (sym x.2))))

  even_new : (r : ℕ) → length (ts_new r) ≡ length (now_new r)
  even_new r = go (put_cases ts rank (ts rank ++ t ∷ []) r) (put_cases now rank (now rank ++ x ∷ []) r)
    where
      go : ((r ≡ rank) × (ts_new r ≡ ts rank ++ t ∷ [])) ⊎ ((r ≡ rank → ⊥) × (ts_new r ≡ ts r))
          → ((r ≡ rank) × (now_new r ≡ now rank ++ x ∷ [])) ⊎ ((r ≡ rank → ⊥) × (now_new r ≡ now r)) → length (ts_new r) ≡ length (now_new r)
      go (inl a) (inl b) =
          ap (λ (l : List Ticket). length l) a.1
          ∙ (length_pushed (ts rank) t ∙ (ap suc (h.even rank) ∙ (sym (length_pushed (now rank) x) ∙ ap (λ (l : List Asked). length l) (sym b.1))))
      go (inr a) (inr b) = ap (λ (l : List Ticket). length l) a.1 ∙ (h.even r ∙ ap (λ (l : List Asked). length l) (sym b.1))
      go (inl a) (inr b) = absurd (b.0 a.0)
      go (inr a) (inl b) = absurd (a.0 b.0)

  pub stands_created : Stands g (created s t q sig) now_new ts_new
  stands_created = record {
    lists = lists_new;
    contributions = λ k m b lt e. gave_grows now now_new (rank_of g k.comm m) k b (grows_new (rank_of g k.comm m)) (h.contributions k m b lt e);
    known = known_new;
    old = old_new;
    apart = apart_new;
    even = even_new;
  }

-- ---- a start

module _ (g : Setting) (groups : AreGroups g) (s : State) (now : Requests) (ts : Tickets) (h : Stands g s now ts) (slot : ℕ)
    (q : Request) (bytes : List ℕ) (here : s.request slot ≡ Some q) (member_is : member_of q.rank (group g q.comm) ≡ Some q.member) where
  abbrev pub own : Known g now ts slot (s.generation slot) q
  own = h.known slot q here

  abbrev pub now_started : Requests
  now_started = put now q.rank (changed_at own.number (one_more bytes) (now q.rank))

  pub grows_started : (r : ℕ) → Grows (now r) (now_started r)
  grows_started = grows_at now q.rank (changed_at own.number (one_more bytes) (now q.rank)) (grows_change own.number bytes (now q.rank))

  own_started : now_started q.rank ≡ changed_at own.number (one_more bytes) (now q.rank)
  own_started = put_same now q.rank (changed_at own.number (one_more bytes) (now q.rank))

  there_started : (q.member < size g q.comm) × (rank_of g q.comm q.member ≡ q.rank)
  there_started = member_at g q.comm q.rank q.member member_is

  changed_is : slice_get (now_started q.rank) own.number ≡ Some (one_more bytes own.asked)
  changed_is = ap (λ (l : List Asked). slice_get l own.number) own_started ∙ get_changed own.number (one_more bytes) (now q.rank) own.asked own.is

  place_started : (c j r : ℕ) → length (on c (take j (now_started r))) ≡ length (on c (take j (now r)))
  place_started c j r = go (put_cases now q.rank (changed_at own.number (one_more bytes) (now q.rank)) r)
    where
      go : ((r ≡ q.rank) × (now_started r ≡ changed_at own.number (one_more bytes) (now q.rank))) ⊎ ((r ≡ q.rank → ⊥) × (now_started r ≡ now r))
          → length (on c (take j (now_started r))) ≡ length (on c (take j (now r)))
      go (inl a) =
          ap (λ (l : List Asked). length (on c (take j l))) a.1
          ∙ (place_unchanged c own.number bytes (now q.rank) j ∙ ap (λ r. length (on c (take j (now r)))) (sym a.0))
      go (inr a) = ap (λ (l : List Asked). length (on c (take j l))) a.1

  -- the request at its place, with one more start
  pub at_started : at_place (now_started q.rank) q.comm q.place ≡ Some (one_more bytes own.asked)
  at_started =
      ap (λ p. at_place (now_started q.rank) q.comm p) (sym (place_started q.comm own.number q.rank ∙ own.place_is))
      ∙ placed q.comm (now_started q.rank) own.number (one_more bytes own.asked) changed_is own.comm_is

  lists_started : (c m : ℕ) → m < size g c → s.posts c m ≡ map (λ (y : Asked). y.sig) (on c (now_started (rank_of g c m)))
  lists_started c m lt = h.lists c m lt ∙ go (put_cases now q.rank (changed_at own.number (one_more bytes) (now q.rank)) (rank_of g c m))
    where
      go : ((rank_of g c m ≡ q.rank) × (now_started (rank_of g c m) ≡ changed_at own.number (one_more bytes) (now q.rank)))
          ⊎ ((rank_of g c m ≡ q.rank → ⊥) × (now_started (rank_of g c m) ≡ now (rank_of g c m)))
          → map (λ (y : Asked). y.sig) (on c (now (rank_of g c m))) ≡ map (λ (y : Asked). y.sig) (on c (now_started (rank_of g c m)))
      go (inl a) =
          ap (λ r. map (λ (y : Asked). y.sig) (on c (now r))) a.0
          ∙ (sym (signatures_changed c own.number bytes (now q.rank)) ∙ ap (λ (l : List Asked). map (λ (y : Asked). y.sig) (on c l)) (sym a.1))
      go (inr a) = ap (λ (l : List Asked). map (λ (y : Asked). y.sig) (on c l)) (sym a.1)

  abbrev key : Key
  key = key_of q q.starts

  -- of the two members' worth of rows, one is changed
  contributions_started : (k : Key) (m : ℕ) (b : List ℕ) → m < size g k.comm → (started s slot q bytes).given k m ≡ Some b
      → Gave now_started (rank_of g k.comm m) k b
  contributions_started k m b lt e = go (put_key_cases s.given key (put (s.given key) q.member (Some bytes)) k)
    where
      was : s.given k m ≡ Some b → Gave now_started (rank_of g k.comm m) k b
      was f = gave_grows now now_started (rank_of g k.comm m) k b (grows_started (rank_of g k.comm m)) (h.contributions k m b lt f)

      mine : (k ≡ key) → (m ≡ q.member) → bytes ≡ b → Gave now_started (rank_of g k.comm m) k b
      mine a d f =
          let r : rank_of g k.comm m ≡ q.rank = ap (λ (k : Key). rank_of g k.comm m) a ∙ (ap (rank_of g q.comm) d ∙ there_started.1) in
          record {
            asked = one_more bytes own.asked;
            is = (λ z. at_place (now_started (r z)) (a z).comm (a z).place) ∙ at_started;
            given = ap (slice_get (own.asked.starts ++ bytes ∷ [])) (ap (λ (k : Key). k.start) a ∙ sym own.starts_is)
                ∙ (get_pushed own.asked.starts bytes ∙ ap Some f);
          }

      inner : (k ≡ key) → put (s.given key) q.member (Some bytes) m ≡ Some b
          → ((m ≡ q.member) × (put (s.given key) q.member (Some bytes) m ≡ Some bytes))
          ⊎ ((m ≡ q.member → ⊥) × (put (s.given key) q.member (Some bytes) m ≡ s.given key m)) → Gave now_started (rank_of g k.comm m) k b
      inner a f (inl d) = mine a d.0 (same_Some bytes b (sym d.1 ∙ f))
      inner a f (inr d) = was (ap (λ k. s.given k m) a ∙ (sym d.1 ∙ f))

      go : ((k ≡ key) × (put_key s.given key (put (s.given key) q.member (Some bytes)) k ≡ put (s.given key) q.member (Some bytes)))
          ⊎ ((k ≡ key → ⊥) × (put_key s.given key (put (s.given key) q.member (Some bytes)) k ≡ s.given k)) → Gave now_started (rank_of g k.comm m) k b
      go (inl a) = inner a.0 (ap (λ (f : ℕ → Option (List ℕ)). f m) (sym a.1) ∙ e) (put_cases (s.given key) q.member (Some bytes) m)
      go (inr a) = was (ap (λ (f : ℕ → Option (List ℕ)). f m) (sym a.1) ∙ e)

  known_started : (i : ℕ) (p : Request) → put s.request slot (Some (once_more q)) i ≡ Some p → Known g now_started ts i (s.generation i) p
  known_started i p e = go (put_cases s.request slot (Some (once_more q)) i)
    where
      go : ((i ≡ slot) × (put s.request slot (Some (once_more q)) i ≡ Some (once_more q)))
          ⊎ ((i ≡ slot → ⊥) × (put s.request slot (Some (once_more q)) i ≡ s.request i)) → Known g now_started ts i (s.generation i) p
      go (inl a) =
          subst (λ (p : Request). Known g now_started ts i (s.generation i) p) (same_Some (once_more q) p (sym a.1 ∙ e))
          (subst (λ i. Known g now_started ts i (s.generation i) (once_more q)) (sym a.0) (record {
            number = own.number;
            asked = one_more bytes own.asked;
            named = own.named;
            is = changed_is;
            comm_is = own.comm_is;
            place_is = place_started q.comm own.number q.rank ∙ own.place_is;
            starts_is = length_pushed own.asked.starts bytes ∙ ap suc own.starts_is;
          }))
      go (inr a) = record {
        number = k.number;
        asked = k.asked;
        named = k.named;
        is = stays (put_cases now q.rank (changed_at own.number (one_more bytes) (now q.rank)) p.rank);
        comm_is = k.comm_is;
        place_is = place_started p.comm k.number p.rank ∙ k.place_is;
        starts_is = k.starts_is;
      }
        where
          k : Known g now ts i (s.generation i) p
          k = h.known i p (sym a.1 ∙ e)

          -- another slot has another ticket, so another number
          other : (p.rank ≡ q.rank) → k.number ≡ own.number → ⊥
          other r n =
              let same : Some (record { slot = i; generation = s.generation i }) ≡ Some (record { slot = slot; generation = s.generation slot }) =
              sym k.named ∙ ((λ z. slice_get (ts (r z)) (n z)) ∙ own.named) in
              a.0 (ap (λ (t : Ticket). t.slot) (same_Some _ _ same))

          stays : ((p.rank ≡ q.rank) × (now_started p.rank ≡ changed_at own.number (one_more bytes) (now q.rank)))
              ⊎ ((p.rank ≡ q.rank → ⊥) × (now_started p.rank ≡ now p.rank)) → slice_get (now_started p.rank) k.number ≡ Some k.asked
          stays (inl b) =
              ap (λ (l : List Asked). slice_get l k.number) b.1
              ∙ (get_unchanged own.number (one_more bytes) (now q.rank) k.number (other b.0) ∙ (ap (λ r. slice_get (now r) k.number) (sym b.0) ∙ k.is))
          stays (inr b) = ap (λ (l : List Asked). slice_get l k.number) b.1 ∙ k.is

  pub stands_started : Stands g (started s slot q bytes) now_started ts
  stands_started = record {
    lists = lists_started;
    contributions = contributions_started;
    known = known_started;
    old = h.old;
    apart = h.apart;
    even = λ r. even_started r (put_cases now q.rank (changed_at own.number (one_more bytes) (now q.rank)) r);
  }
    where
      even_started : (r : ℕ) → ((r ≡ q.rank) × (now_started r ≡ changed_at own.number (one_more bytes) (now q.rank)))
          ⊎ ((r ≡ q.rank → ⊥) × (now_started r ≡ now r)) → length (ts r) ≡ length (now_started r)
      even_started r (inl a) =
          ap (λ r. length (ts r)) a.0
          ∙ (h.even q.rank ∙ (sym (length-changed own.number (one_more bytes) (now q.rank)) ∙ ap (λ (l : List Asked). length l) (sym a.1)))
      even_started r (inr a) = h.even r ∙ ap (λ (l : List Asked). length l) (sym a.1)

-- ---- a completion or a free

-- the slot has another request of the same kind, or none
pub stands_holding : (g : Setting) (s : State) (now : Requests) (ts : Tickets) (slot : ℕ) (o : Option Request)
    → Stands g s now ts → ((p : Request) → o ≡ Some p → Known g now ts slot (s.generation slot) p) → Stands g (holding s slot o) now ts
stands_holding g s now ts slot o h new =
    record {
      lists = h.lists;
      contributions = h.contributions;
      known = λ i p e. go i p e (put_cases s.request slot o i);
      old =
          h.old;
      apart = h.apart;
      even = h.even;
    }
  where
    go : (i : ℕ) (p : Request) → put s.request slot o i ≡ Some p
        → ((i ≡ slot) × (put s.request slot o i ≡ o)) ⊎ ((i ≡ slot → ⊥) × (put s.request slot o i ≡ s.request i)) → Known g now ts i (s.generation i) p
    go i p e (inl a) = subst (λ i. Known g now ts i (s.generation i) p) (sym a.0) (new p (sym a.1 ∙ e))
    go i p e (inr a) = h.known i p (sym a.1 ∙ e)

-- contributions are given up
pub stands_forgotten : (g : Setting) (s : State) (now : Requests) (ts : Tickets) (k : Key) → Stands g s now ts → Stands g (forgotten s k) now ts
stands_forgotten g s now ts k h =
    record {
      lists = h.lists;
      contributions =
          λ j m b lt e. h.contributions j m b lt (go j m b e (put_key_cases s.given k (λ m. None) j));
      known = h.known;
      old = h.old;
      apart = h.apart;
      even = h.even;
    }
  where
    go : (j : Key) (m : ℕ) (b : List ℕ) → put_key s.given k (λ m. None) j m ≡ Some b
        → ((j ≡ k) × (put_key s.given k (λ m. None) j ≡ λ m. None)) ⊎ ((j ≡ k → ⊥) × (put_key s.given k (λ m. None) j ≡ s.given j)) → s.given j m ≡ Some b
    go j m b e (inl a) = absurd (none-some b (ap (λ (f : ℕ → Option (List ℕ)). f m) (sym a.1) ∙ e))
    go j m b e (inr a) = ap (λ (f : ℕ → Option (List ℕ)). f m) (sym a.1) ∙ e

-- what is left of a completed request is as known as it was
pub known_rested : (g : Setting) (now : Requests) (ts : Tickets) (i n : ℕ) (q : Request) → Known g now ts i n q → (p : Request)
    → rested q ≡ Some p → Known g now ts i n p
known_rested g now ts i n q k p e = go q.mode p e
  where
    go : (mode : Mode) (p : Request) → rested_by mode q ≡ Some p → Known g now ts i n p
    go Once p e = absurd (none-some p e)
    go Persistent p e =
        subst (λ (p : Request). Known g now ts i n p) (same_Some _ p e)
        (record { number = k.number; asked = k.asked; named = k.named; is = k.is; comm_is = k.comm_is; place_is = k.place_is; starts_is = k.starts_is })
