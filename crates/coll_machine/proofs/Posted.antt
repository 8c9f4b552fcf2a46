-- Each call keeps what holds of posting lists and live requests.
use Rattle.std.proofs.Common.{◌≡◌, ℕ, ◌<◌, ◌⊎◌, inl, inr, List, [], ◌∷◌, ◌++◌, length, Option, Some, None, refl, sym, ap, subst, ◌∙◌, arith}
use Rattle.std.specs.Prelude.{slice_get}
use Rattle.std.proofs.lemmas.Option.{none-some, same_Some, slice_get_within}
use Rattle.coll_kinds.specs.declared.kind.Mode.{Mode}
use Rattle.coll_kinds.specs.declared.kind.Mode.TheVariants.{Once, Persistent}
use Rattle.coll_kinds.specs.declared.signature.Signature.{Signature}
use Rattle.coll_kinds.specs.declared.ticket.Ticket.{Ticket}
use Rattle.coll_kinds.specs.Common.{broken, member_of, put}
use Rattle.coll_kinds.proofs.Puts.{put_same, put_cases}
use Rattle.coll_machine.specs.Common.{Setting, group, size, Request, State, nothing, key_of, signature_of, new_request, created, once_more, started}
use Rattle.coll_machine.specs.Common.{rested, rested_by, holding, Planned, Clears, Entry, Posted, Inited, Started, Retired, Freed, Enters, Leads}
use Rattle.coll_machine.specs.Common.{IsPosted, ArePosted}
use Rattle.coll_machine.proofs.Puts.{put2_same, put2_cases}
use Rattle.coll_machine.proofs.Pushed.{get_pushed, get_front, get_either}
use Rattle.coll_machine.proofs.First.{agrees_with}
use Rattle.coll_machine.proofs.Accepted.{Accepted, accepted_post, accepted_init, found_is, freed_mine}

-- ---- a new request

-- a posting list keeps what stands in it
pub still_there : (s : State) (t : Ticket) (q : Request) (sig : Signature) (c m p : ℕ) (x : Signature)
    → slice_get (s.posts c m) p ≡ Some x → slice_get ((created s t q sig).posts c m) p ≡ Some x
still_there s t q sig c m p x e = go (put2_cases s.posts q.comm q.member (s.posts q.comm q.member ++ sig ∷ []) c m)
  where
    go : ((c ≡ q.comm) × (m ≡ q.member) × ((created s t q sig).posts c m ≡ s.posts q.comm q.member ++ sig ∷ []))
        ⊎ (((c ≡ q.comm) × (m ≡ q.member) → ⊥) × ((created s t q sig).posts c m ≡ s.posts c m))
        → slice_get ((created s t q sig).posts c m) p ≡ Some x
    go (inl a) =
        ap (λ (l : List Signature). slice_get l p) a.2 ∙ get_front (s.posts q.comm q.member) sig p x ((λ z. slice_get (s.posts (sym a.0 z) (sym a.1 z)) p) ∙ e)
    go (inr a) = ap (λ (l : List Signature). slice_get l p) a.1 ∙ e

-- what stands in it now stood there before, or is the new one
was_there : (s : State) (t : Ticket) (q : Request) (sig : Signature) (c m p : ℕ) (x : Signature) → slice_get ((created s t q sig).posts c m) p ≡ Some x
    → (slice_get (s.posts c m) p ≡ Some x) ⊎ ((c ≡ q.comm) × (m ≡ q.member) × (p ≡ length (s.posts q.comm q.member)) × (sig ≡ x))
was_there s t q sig c m p x e = go (put2_cases s.posts q.comm q.member (s.posts q.comm q.member ++ sig ∷ []) c m)
  where
    split : (c ≡ q.comm) → (m ≡ q.member) → (slice_get (s.posts q.comm q.member) p ≡ Some x) ⊎ ((p ≡ length (s.posts q.comm q.member)) × (sig ≡ x))
        → (slice_get (s.posts c m) p ≡ Some x) ⊎ ((c ≡ q.comm) × (m ≡ q.member) × (p ≡ length (s.posts q.comm q.member)) × (sig ≡ x))
    split a b (inl h) = inl ((λ z. slice_get (s.posts (a z) (b z)) p) ∙ h)
    split a b (inr h) = inr (a, b, h.0, h.1)

    go : ((c ≡ q.comm) × (m ≡ q.member) × ((created s t q sig).posts c m ≡ s.posts q.comm q.member ++ sig ∷ []))
        ⊎ (((c ≡ q.comm) × (m ≡ q.member) → ⊥) × ((created s t q sig).posts c m ≡ s.posts c m))
        → (slice_get (s.posts c m) p ≡ Some x) ⊎ ((c ≡ q.comm) × (m ≡ q.member) × (p ≡ length (s.posts q.comm q.member)) × (sig ≡ x))
    go (inl a) = split a.0 a.1 (get_either (s.posts q.comm q.member) sig p x (ap (λ (l : List Signature). slice_get l p) (sym a.2) ∙ e))
    go (inr a) = inl (ap (λ (l : List Signature). slice_get l p) (sym a.1) ∙ e)

module _ (g : Setting) (s : State) (h : ArePosted g s) (t : Ticket) (q : Request) (plan : Planned)
    (member_is : member_of q.rank (group g q.comm) ≡ Some q.member) (place_is : q.place ≡ length (s.posts q.comm q.member))
    (a : Accepted g s q.comm q.member q.mode plan) where
  abbrev after : State
  after = created s t q plan.sig

  -- whoever has the new place has the new signature there
  agrees_new : (b : ℕ) (y : Signature) → b < size g q.comm → slice_get (s.posts q.comm b) (length (s.posts q.comm q.member)) ≡ Some y → plan.sig ≡ y
  agrees_new b y lt e =
      let w = agrees_with g s q.comm (length (s.posts q.comm q.member)) b plan.sig y a.agrees lt e in
      h.agree q.comm w.0 b (length (s.posts q.comm q.member)) plan.sig y w.1 lt w.2 e

  agree_created : (comm i j place : ℕ) (x y : Signature) → i < size g comm → j < size g comm
      → slice_get (after.posts comm i) place ≡ Some x → slice_get (after.posts comm j) place ≡ Some y → x ≡ y
  agree_created comm i j place x y li lj ex ey = go (was_there s t q plan.sig comm i place x ex) (was_there s t q plan.sig comm j place y ey)
    where
      New : ℕ → Signature → Type 0
      New m z = (comm ≡ q.comm) × (m ≡ q.member) × (place ≡ length (s.posts q.comm q.member)) × (plan.sig ≡ z)

      one : (m : ℕ) (z : Signature) → m < size g comm → (comm ≡ q.comm) → (place ≡ length (s.posts q.comm q.member))
          → slice_get (s.posts comm m) place ≡ Some z → plan.sig ≡ z
      one m z lt c p e = agrees_new m z (subst (λ c. m < size g c) c lt) ((λ k. slice_get (s.posts (sym c k) m) (sym p k)) ∙ e)

      go : (slice_get (s.posts comm i) place ≡ Some x) ⊎ ((comm ≡ q.comm) × (i ≡ q.member) × (place ≡ length (s.posts q.comm q.member)) × (plan.sig ≡ x))
          → (slice_get (s.posts comm j) place ≡ Some y) ⊎ ((comm ≡ q.comm) × (j ≡ q.member) × (place ≡ length (s.posts q.comm q.member)) × (plan.sig ≡ y))
          → x ≡ y
      go (inl u) (inl v) = h.agree comm i j place x y li lj u v
      go (inl u) (inr v) = sym (one i x li v.0 v.2 u) ∙ v.3
      go (inr u) (inl v) = sym u.3 ∙ one j y lj u.0 u.2 v
      go (inr u) (inr v) = sym u.3 ∙ v.3

  own_sig : signature_of after q ≡ Some plan.sig
  own_sig =
      ap (λ (l : List Signature). slice_get l q.place) (put2_same s.posts q.comm q.member (s.posts q.comm q.member ++ plan.sig ∷ []))
      ∙ (ap (slice_get (s.posts q.comm q.member ++ plan.sig ∷ [])) place_is ∙ get_pushed (s.posts q.comm q.member) plan.sig)

  own_posted : IsPosted g after q
  own_posted = record { sig = plan.sig; sig_is = own_sig; mode_is = a.mode_is; checked = a.checked; member_is = member_is }

  posted_created : (slot : ℕ) (p : Request) → after.request slot ≡ Some p → IsPosted g after p
  posted_created slot p e = go (put_cases s.request t.slot (Some q) slot)
    where
      go : ((slot ≡ t.slot) × (put s.request t.slot (Some q) slot ≡ Some q)) ⊎ ((slot ≡ t.slot → ⊥) × (put s.request t.slot (Some q) slot ≡ s.request slot))
          → IsPosted g after p
      go (inl c) = subst (IsPosted g after) (same_Some q p (sym c.1 ∙ e)) own_posted
      go (inr c) =
          let k = h.posted slot p (sym c.1 ∙ e) in
          record {
            sig = k.sig;
            sig_is = still_there s t q plan.sig p.comm p.member p.place k.sig k.sig_is;
            mode_is =
                k.mode_is;
            checked = k.checked;
            member_is = k.member_is;
          }

  -- an older request has a lower place
  older : (slot : ℕ) (p : Request) → s.request slot ≡ Some p → p.comm ≡ q.comm → p.member ≡ q.member → p.place ≡ q.place → ⊥
  older slot p e c m l =
      let k = h.posted slot p e in
      let there : slice_get (s.posts q.comm q.member) p.place ≡ Some k.sig = (λ z. slice_get (s.posts (sym c z) (sym m z)) p.place) ∙ k.sig_is in
      let low : p.place < length (s.posts q.comm q.member) = slice_get_within (s.posts q.comm q.member) p.place k.sig there in
      let same : p.place ≡ length (s.posts q.comm q.member) = l ∙ place_is in
      absurd (omega arith)

  alone_created : (i j : ℕ) (p r : Request) → after.request i ≡ Some p → after.request j ≡ Some r → p.comm ≡ r.comm
      → p.member ≡ r.member → p.place ≡ r.place → i ≡ j
  alone_created i j p r ei ej c m l = go (put_cases s.request t.slot (Some q) i) (put_cases s.request t.slot (Some q) j)
    where
      go : ((i ≡ t.slot) × (put s.request t.slot (Some q) i ≡ Some q)) ⊎ ((i ≡ t.slot → ⊥) × (put s.request t.slot (Some q) i ≡ s.request i))
          → ((j ≡ t.slot) × (put s.request t.slot (Some q) j ≡ Some q)) ⊎ ((j ≡ t.slot → ⊥) × (put s.request t.slot (Some q) j ≡ s.request j)) → i ≡ j
      go (inl x) (inl y) = x.0 ∙ sym y.0
      go (inr x) (inr y) = h.alone i j p r (sym x.1 ∙ ei) (sym y.1 ∙ ej) c m l
      go (inl x) (inr y) =
          let is : q ≡ p = same_Some q p (sym x.1 ∙ ei) in
          absurd (older j r (sym y.1 ∙ ej) (sym c ∙ ap (λ (z : Request). z.comm) (sym is))
          (sym m ∙ ap (λ (z : Request). z.member) (sym is)) (sym l ∙ ap (λ (z : Request). z.place) (sym is)))
      go (inr x) (inl y) =
          let is : q ≡ r = same_Some q r (sym y.1 ∙ ej) in
          absurd (older i p (sym x.1 ∙ ei) (c ∙ ap (λ (z : Request). z.comm) (sym is))
          (m ∙ ap (λ (z : Request). z.member) (sym is)) (l ∙ ap (λ (z : Request). z.place) (sym is)))

  pub are_created : ArePosted g (created s t q plan.sig)
  are_created = record { agree = agree_created; posted = posted_created; alone = alone_created }

-- ---- another request in a slot, for the same entry of a posting list

-- the requests stand for one entry
pub record Like (p q : Request) : Type 0 where
  pub rank_is : p.rank ≡ q.rank
  pub comm_is : p.comm ≡ q.comm
  pub member_is : p.member ≡ q.member
  pub place_is : p.place ≡ q.place
  pub mode_is : p.mode ≡ q.mode

posted_like : (g : Setting) (s : State) (p q : Request) → Like p q → IsPosted g s q → IsPosted g s p
posted_like g s p q l k = record {
  sig = k.sig;
  sig_is = (λ z. slice_get (s.posts (l.comm_is z) (l.member_is z)) (l.place_is z)) ∙ k.sig_is;
  mode_is = k.mode_is ∙ sym l.mode_is;
  checked = ap (λ c. broken k.sig (size g c)) l.comm_is ∙ k.checked;
  member_is = (λ z. member_of (l.rank_is z) (group g (l.comm_is z))) ∙ (k.member_is ∙ ap Some (sym l.member_is));
}

-- a request is posted where the lists are the same
posted_in : (g : Setting) (s u : State) (p : Request) → u.posts ≡ s.posts → IsPosted g s p → IsPosted g u p
posted_in g s u p e k = record {
  sig = k.sig;
  sig_is = ap (λ (posts : ℕ → ℕ → List Signature). slice_get (posts p.comm p.member) p.place) e ∙ k.sig_is;
  mode_is = k.mode_is;
  checked = k.checked;
  member_is = k.member_is;
}

are_in : (g : Setting) (s u : State) → u.posts ≡ s.posts → u.request ≡ s.request → ArePosted g s → ArePosted g u
are_in g s u e f h = record {
  agree = λ comm a b place x y la lb ex ey. h.agree comm a b place x y la lb
      (ap (λ (posts : ℕ → ℕ → List Signature). slice_get (posts comm a) place) (sym e) ∙ ex)
      (ap (λ (posts : ℕ → ℕ → List Signature). slice_get (posts comm b) place) (sym e) ∙ ey);
  posted = λ slot q is. posted_in g s u q e (h.posted slot q (ap (λ (r : ℕ → Option Request). r slot) (sym f) ∙ is));
  alone = λ i j p q ei ej. h.alone i j p q (ap (λ (r : ℕ → Option Request). r i) (sym f) ∙ ei) (ap (λ (r : ℕ → Option Request). r j) (sym f) ∙ ej);
}

pub are_holding : (g : Setting) (s : State) (slot : ℕ) (q : Request) (o : Option Request) → ArePosted g s
    → s.request slot ≡ Some q → ((p : Request) → o ≡ Some p → Like p q) → ArePosted g (holding s slot o)
are_holding g s slot q o h here like = record { agree = h.agree; posted = λ i p e. posted_in g s (holding s slot o) p refl (was i p e).2; alone = alone_held }
  where
    -- a request is like one that was there
    was : (i : ℕ) (p : Request) → put s.request slot o i ≡ Some p → (was : Request) × ((s.request i ≡ Some was) × Like p was) × IsPosted g s p
    was i p e = go (put_cases s.request slot o i)
      where
        go : ((i ≡ slot) × (put s.request slot o i ≡ o)) ⊎ ((i ≡ slot → ⊥) × (put s.request slot o i ≡ s.request i))
            → (was : Request) × ((s.request i ≡ Some was) × Like p was) × IsPosted g s p
        go (inl a) = let l = like p (sym a.1 ∙ e) in (q, (ap s.request a.0 ∙ here, l), posted_like g s p q l (h.posted slot q here))
        go (inr a) = let is =
            sym a.1 ∙ e in (p, (is, record { rank_is = refl; comm_is = refl; member_is = refl; place_is = refl; mode_is = refl }), h.posted i p is)

    alone_held : (i j : ℕ) (p r : Request) → put s.request slot o i ≡ Some p → put s.request slot o j ≡ Some r → p.comm ≡ r.comm
        → p.member ≡ r.member → p.place ≡ r.place → i ≡ j
    alone_held i j p r ei ej c m l =
        let a = was i p ei in
        let b = was j r ej in
        h.alone i j a.0 b.0 a.1.0 b.1.0 (sym a.1.1.comm_is ∙ (c ∙ b.1.1.comm_is)) (sym a.1.1.member_is ∙ (m ∙ b.1.1.member_is))
        (sym a.1.1.place_is ∙ (l ∙ b.1.1.place_is))

like_once_more : (q p : Request) → Some (once_more q) ≡ Some p → Like p q
like_once_more q p e =
    subst (λ (p : Request). Like p q) (same_Some (once_more q) p e)
    (record { rank_is = refl; comm_is = refl; member_is = refl; place_is = refl; mode_is = refl })

like_rested : (mode : Mode) (q p : Request) → rested_by mode q ≡ Some p → Like p q
like_rested Once q p e = absurd (none-some p e)
like_rested Persistent q p e =
    subst (λ (p : Request). Like p q) (same_Some _ p e) (record { rank_is = refl; comm_is = refl; member_is = refl; place_is = refl; mode_is = refl })

pub are_started : (g : Setting) (s : State) (slot : ℕ) (q : Request) (bytes : List ℕ) → ArePosted g s → s.request slot ≡ Some q
    → ArePosted g (started s slot q bytes)
are_started g s slot q bytes h here =
    are_in g (holding s slot (Some (once_more q))) (started s slot q bytes) refl refl (are_holding g s slot q (Some (once_more q)) h here (like_once_more q))

-- ---- each entry, and whole traces

are_at : (g : Setting) (s u : State) → u ≡ s → ArePosted g s → ArePosted g u
are_at g s u e h = subst (ArePosted g) (sym e) h

pub are_entered : (g : Setting) (s u : State) (e : Entry) → ArePosted g s → Enters g s e u → ArePosted g u
are_entered g s u (Posted rank t comm place sig bytes) h e =
    let p = e.2 in
    let q : Request = new_request rank comm p.member (length (s.posts comm p.member)) Once in
    are_at g _ u (p.leaves ∙ ap (λ (place : ℕ). (let q =
    new_request rank comm p.member place Once in started (created s t q e.0.sig) t.slot q bytes)) p.place_is)
    (are_started g (created s t q e.0.sig) t.slot q bytes
    (are_created g s h t q e.0 p.member_is refl (accepted_post g s rank comm p.member e.0 bytes p.accepted p.member_is))
    (put_same s.request t.slot (Some q)))
are_entered g s u (Inited rank t comm place sig) h e =
    let p = e.2 in
    let q : Request = new_request rank comm p.member place Persistent in
    are_at g _ u p.leaves (are_created g s h t q e.0 p.member_is p.place_is (accepted_init g s rank comm p.member e.0 p.accepted p.member_is))
are_entered g s u (Started rank t start bytes) h e = are_at g _ u e.leaves (are_started g s t.slot e.request bytes h (found_is s t e.request e.is).1)
are_entered g s u (Retired rank t comm place start bytes) h e = go e.leaves
  where
    held : ArePosted g (holding s t.slot (rested e.request))
    held = are_holding g s t.slot e.request (rested e.request) h (found_is s t e.request e.is).1 (like_rested e.request.mode e.request)

    go : Clears g (holding s t.slot (rested e.request)) (key_of e.request start) u → ArePosted g u
    go (inl a) = are_at g _ u a.1 (are_in g (holding s t.slot (rested e.request)) _ refl refl held)
    go (inr a) = are_at g _ u a.1 held
are_entered g s u (Freed rank t) h e =
    let f = freed_mine g s rank t e.accepted in
    are_at g _ u e.leaves (are_holding g s t.slot f.request None h f.is (λ p n. absurd (none-some p n)))

pub are_nothing : (g : Setting) → ArePosted g nothing
are_nothing g = record {
  agree = λ comm a b place x y la lb ex ey. absurd (none-some x ex);
  posted = λ slot q e. absurd (none-some q e);
  alone = λ i j p q e f c m l. absurd (none-some p e);
}

pub are_led : (g : Setting) (s u : State) (es : List Entry) → ArePosted g s → Leads g s es u → ArePosted g u
are_led g s u [] h l = subst (ArePosted g) l h
are_led g s u (e ∷ es) h l = are_led g l.0 u es (are_entered g s l.0 e h l.1) l.2
