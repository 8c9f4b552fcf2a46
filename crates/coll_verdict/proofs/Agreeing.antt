-- What a rank holds agrees with what its commands say, and goes on to do so where the machine changes one slot.
use Rattle.std.proofs.Common.{◌≡◌, ℕ, suc, ◌<◌, ◌⊎◌, inl, inr, Bool, true, false, ◌||◌, List, length, Some, None, refl, sym, ap, subst, ◌∙◌, arith}
use Rattle.std.proofs.lemmas.Bool.{cases_eq, false≢true}
use Rattle.std.proofs.lemmas.Option.{none-some, same_Some}
use Rattle.std.specs.Prelude.{slice_get}
use Rattle.coll_kinds.specs.declared.signature.Signature.{Signature}
use Rattle.coll_kinds.specs.declared.ticket.Ticket.{Ticket}
use Rattle.coll_kinds.specs.Common.{member_of, is_among, put}
use Rattle.coll_kinds.proofs.Puts.{put_other, put_at, put_cases}
use Rattle.coll_machine.specs.Common.{Setting, group, Request, State, signature_of}
use Rattle.coll_verdict.specs.Standings.{Holding, one_more}
use Rattle.coll_verdict.specs.Sketches.{Sketch, making, naming, resting}
use Rattle.coll_verdict.proofs.Sketched.{SameAt, same_made, same_named, lt_le}

-- a rank's ticket names a live request, of which its commands say so; `up` says of which requests with how many starts it
-- is known that they are active
pub record IsLive (up : ℕ → ℕ → Type 0) (s : State) (rank : ℕ) (k : Sketch) (q : ℕ) (t : Ticket) (request : Request) : Type 0 where
  pub current : s.generation t.slot ≡ t.generation
  pub is : s.request t.slot ≡ Some request
  pub low : q < k.made
  pub rank_is : request.rank ≡ rank
  pub comm_is : request.comm ≡ k.comm q
  pub place_is : request.place ≡ k.place q
  pub starts_is : request.starts ≡ k.starts q
  pub sig : Signature
  pub sig_is : signature_of s request ≡ Some sig
  pub sketched : k.sig q ≡ Some sig
  pub active : up q (k.starts q) → request.active ≡ true
  pub rested : k.rested q ≡ true → request.active ≡ false
  pub begun : request.active ≡ true → 0 < request.starts

pub record Agrees (up : ℕ → ℕ → Type 0) (g : Setting) (s : State) (rank : ℕ) (h : Holding) (k : Sketch) : Type 0 where
  pub made : h.made ≡ k.made
  pub idle : (q : ℕ) → h.of q ≡ None → up q (k.starts q) → ⊥
  pub live : (q : ℕ) (t : Ticket) → h.of q ≡ Some t → (request : Request) × IsLive up s rank k q t request
  pub apart : (p q : ℕ) (t u : Ticket) → h.of p ≡ Some t → h.of q ≡ Some u → t.slot ≡ u.slot → p ≡ q
  pub posted : (comm member : ℕ) → member_of rank (group g comm) ≡ Some member → length (s.posts comm member) ≡ k.posted comm

-- the request in the slot is the one that is live
pub live_as : (up : ℕ → ℕ → Type 0) (s : State) (rank : ℕ) (k : Sketch) (q : ℕ) (t : Ticket) (request other : Request)
    → IsLive up s rank k q t request → s.request t.slot ≡ Some other → IsLive up s rank k q t other
live_as up s rank k q t request other l e = subst (IsLive up s rank k q t) (same_Some request other (sym l.is ∙ e)) l

-- ---- one slot changes

-- nothing changes but what stands in one slot, and posting lists grow
pub record Moves (s u : State) (slot : ℕ) : Type 0 where
  pub generation : (i : ℕ) → (i ≡ slot → ⊥) → u.generation i ≡ s.generation i
  pub request : (i : ℕ) → (i ≡ slot → ⊥) → u.request i ≡ s.request i
  pub posts : (comm member place : ℕ) (sig : Signature) → slice_get (s.posts comm member) place ≡ Some sig → slice_get (u.posts comm member) place ≡ Some sig

pub live_elsewhere : (up : ℕ → ℕ → Type 0) (s u : State) (slot rank : ℕ) (k : Sketch) (q : ℕ) (t : Ticket) (request : Request)
    → Moves s u slot → (t.slot ≡ slot → ⊥) → IsLive up s rank k q t request → IsLive up u rank k q t request
live_elsewhere up s u slot rank k q t request m off l = record {
  current = m.generation t.slot off ∙ l.current;
  is = m.request t.slot off ∙ l.is;
  low = l.low;
  rank_is = l.rank_is;
  comm_is = l.comm_is;
  place_is = l.place_is;
  starts_is = l.starts_is;
  sig = l.sig;
  sig_is = m.posts request.comm request.member request.place l.sig l.sig_is;
  sketched = l.sketched;
  active = l.active;
  rested = l.rested;
  begun = l.begun;
}

pub live_sketched : (up : ℕ → ℕ → Type 0) (s : State) (rank : ℕ) (j k : Sketch) (q : ℕ) (t : Ticket) (request : Request)
    → SameAt j k q → IsLive up s rank j q t request → IsLive up s rank k q t request
live_sketched up s rank j k q t request e l = record {
  current = l.current;
  is = l.is;
  low = lt_le q j.made k.made l.low e.made;
  rank_is = l.rank_is;
  comm_is = l.comm_is ∙ sym e.comm;
  place_is = l.place_is ∙ sym e.place;
  starts_is = l.starts_is ∙ sym e.starts;
  sig = l.sig;
  sig_is = l.sig_is;
  sketched = e.sig ∙ l.sketched;
  active = λ a. l.active (subst (up q) e.starts a);
  rested = λ a. l.rested (sym e.rested ∙ a);
  begun = l.begun;
}

-- what other ranks hold still agrees, where the slot had none of their requests
pub agrees_elsewhere : (up : ℕ → ℕ → Type 0) (g : Setting) (s u : State) (slot rank other : ℕ) (h : Holding) (k : Sketch) → Moves s u slot
    → ((request : Request) → s.request slot ≡ Some request → request.rank ≡ rank)
    → (other ≡ rank → ⊥)
    → ((comm member : ℕ) → member_of other (group g comm) ≡ Some member → length (u.posts comm member) ≡ length (s.posts comm member))
    → Agrees up g s other h k → Agrees up g u other h k
agrees_elsewhere up g s u slot rank other h k m owner d lists a = record {
  made = a.made;
  idle = a.idle;
  live = λ q t e. (let l = a.live q t e in (l.0, live_elsewhere up s u slot other k q t l.0 m (off t l.0 l.1.is l.1.rank_is) l.1));
  apart = a.apart;
  posted = λ comm member is. lists comm member is ∙ a.posted comm member is;
}
  where
    off : (t : Ticket) (request : Request) → s.request t.slot ≡ Some request → request.rank ≡ other → t.slot ≡ slot → ⊥
    off t request is mine e = d (sym mine ∙ owner request (ap s.request (sym e) ∙ is))

-- ---- a new request

-- a rank's new request, in a slot that had none
pub record Makes (g : Setting) (s u : State) (rank comm member : ℕ) (t : Ticket) (sig : Signature) (starts : ℕ) (active : Bool) : Type 0 where
  pub moves : Moves s u t.slot
  pub spare : s.request t.slot ≡ None
  pub current : u.generation t.slot ≡ t.generation
  pub request : Request
  pub is : u.request t.slot ≡ Some request
  pub is_member : member_of rank (group g comm) ≡ Some member
  pub rank_is : request.rank ≡ rank
  pub comm_is : request.comm ≡ comm
  pub place_is : request.place ≡ length (s.posts comm member)
  pub starts_is : request.starts ≡ starts
  pub sig_is : signature_of u request ≡ Some sig
  pub active_is : active ≡ true → request.active ≡ true
  pub begun : request.active ≡ true → 0 < request.starts
  pub longer : length (u.posts comm member) ≡ suc (length (s.posts comm member))
  pub others : (c m : ℕ) → ((c ≡ comm) × (m ≡ member) → ⊥) → u.posts c m ≡ s.posts c m

module _ (up : ℕ → ℕ → Type 0) (g : Setting) (s u : State) (rank comm member : ℕ) (t : Ticket) (sig : Signature) (starts : ℕ)
    (active : Bool) (h : Holding) (k : Sketch) (m : Makes g s u rank comm member t sig starts active)
    (fits : (q : ℕ) → up q starts → active ≡ true) (a : Agrees up g s rank h k) where
  abbrev after : Sketch
  after = making k comm sig starts

  abbrev holding : Holding
  holding = one_more h t

  off_spare : (v : Ticket) (request : Request) → s.request v.slot ≡ Some request → v.slot ≡ t.slot → ⊥
  off_spare v request is e = none-some request (sym m.spare ∙ (ap s.request (sym e) ∙ is))

  new_live : (q : ℕ) → q ≡ k.made → IsLive up u rank after q t m.request
  new_live q e = record {
    current = m.current;
    is = m.is;
    low = below q e;
    rank_is = m.rank_is;
    comm_is = m.comm_is ∙ sym (put_at k.comm k.made comm q e);
    place_is = m.place_is ∙ (a.posted comm member m.is_member ∙ sym (put_at k.place k.made (k.posted comm) q e));
    starts_is = m.starts_is ∙ sym (put_at k.starts k.made starts q e);
    sig = sig;
    sig_is = m.sig_is;
    sketched = put_at k.sig k.made (Some sig) q e;
    active = λ x. m.active_is (fits q (subst (up q) (put_at k.starts k.made starts q e) x));
    rested = λ x. absurd (false≢true (sym (put_at k.rested k.made false q e) ∙ x));
    begun = m.begun;
  }
    where
      below : (q : ℕ) → q ≡ k.made → q < suc k.made
      below q e = omega arith

  old_live : (q : ℕ) (v : Ticket) → (q ≡ h.made → ⊥) → h.of q ≡ Some v → (request : Request) × IsLive up u rank after q v request
  old_live q v d e =
      let l = a.live q v e in (
        l.0,
        live_sketched up u rank k after q v l.0 (same_made k comm sig starts q (λ z. d (z ∙ sym a.made)))
            (live_elsewhere up s u t.slot rank k q v l.0 m.moves (off_spare v l.0 l.1.is) l.1),
      )

  makes_idle : (q : ℕ) → holding.of q ≡ None → up q (after.starts q) → ⊥
  makes_idle q e x = go (put_cases h.of h.made (Some t) q)
    where
      go : ((q ≡ h.made) × (put h.of h.made (Some t) q ≡ Some t)) ⊎ ((q ≡ h.made → ⊥) × (put h.of h.made (Some t) q ≡ h.of q)) → ⊥
      go (inl y) = none-some t (sym e ∙ y.1)
      go (inr y) = a.idle q (sym y.1 ∙ e) (subst (up q) (put_other k.starts k.made starts q (λ z. y.0 (z ∙ sym a.made))) x)

  makes_live : (q : ℕ) (v : Ticket) → holding.of q ≡ Some v → (request : Request) × IsLive up u rank after q v request
  makes_live q v e = go (put_cases h.of h.made (Some t) q)
    where
      go : ((q ≡ h.made) × (put h.of h.made (Some t) q ≡ Some t)) ⊎ ((q ≡ h.made → ⊥) × (put h.of h.made (Some t) q ≡ h.of q))
          → (request : Request) × IsLive up u rank after q v request
      go (inl x) = (m.request, subst (λ (v : Ticket). IsLive up u rank after q v m.request) (same_Some t v (sym x.1 ∙ e)) (new_live q (x.0 ∙ a.made)))
      go (inr x) = old_live q v x.0 (sym x.1 ∙ e)

  makes_apart : (p q : ℕ) (v w : Ticket) → holding.of p ≡ Some v → holding.of q ≡ Some w → v.slot ≡ w.slot → p ≡ q
  makes_apart p q v w e f z = go (put_cases h.of h.made (Some t) p) (put_cases h.of h.made (Some t) q)
    where
      go : ((p ≡ h.made) × (put h.of h.made (Some t) p ≡ Some t)) ⊎ ((p ≡ h.made → ⊥) × (put h.of h.made (Some t) p ≡ h.of p))
          → ((q ≡ h.made) × (put h.of h.made (Some t) q ≡ Some t)) ⊎ ((q ≡ h.made → ⊥) × (put h.of h.made (Some t) q ≡ h.of q)) → p ≡ q
      go (inl x) (inl y) = x.0 ∙ sym y.0
      go (inr x) (inr y) = a.apart p q v w (sym x.1 ∙ e) (sym y.1 ∙ f) z
      go (inl x) (inr y) =
          let l = a.live q w (sym y.1 ∙ f) in
          absurd (off_spare w l.0 l.1.is (sym z ∙ ap (λ (t : Ticket). t.slot) (sym (same_Some t v (sym x.1 ∙ e)))))
      go (inr x) (inl y) =
          let l = a.live p v (sym x.1 ∙ e) in
          absurd (off_spare v l.0 l.1.is (z ∙ ap (λ (t : Ticket). t.slot) (sym (same_Some t w (sym y.1 ∙ f)))))

  makes_posted : (c i : ℕ) → member_of rank (group g c) ≡ Some i → length (u.posts c i) ≡ after.posted c
  makes_posted c i is = go (put_cases k.posted comm (suc (k.posted comm)) c)
    where
      same_member : c ≡ comm → i ≡ member
      same_member e = same_Some i member (sym is ∙ (ap (λ (c : ℕ). member_of rank (group g c)) e ∙ m.is_member))

      go : ((c ≡ comm) × (put k.posted comm (suc (k.posted comm)) c ≡ suc (k.posted comm)))
          ⊎ ((c ≡ comm → ⊥) × (put k.posted comm (suc (k.posted comm)) c ≡ k.posted c)) → length (u.posts c i) ≡ after.posted c
      go (inl x) =
          let here : length (u.posts c i) ≡ length (u.posts comm member) = λ z. length (u.posts (x.0 z) (same_member x.0 z)) in
          here ∙ (m.longer ∙ (ap suc (a.posted comm member m.is_member) ∙ sym x.1))
      go (inr x) = ap length (m.others c i (λ e. x.0 e.0)) ∙ (a.posted c i is ∙ sym x.1)

  pub agrees_makes : Agrees up g u rank (one_more h t) (making k comm sig starts)
  agrees_makes = record { made = ap suc a.made; idle = makes_idle; live = makes_live; apart = makes_apart; posted = makes_posted }

-- ---- a request that is there

-- one of a rank's requests changes, or is gone
pub record Touches (up : ℕ → ℕ → Type 0) (g : Setting) (s u : State) (rank : ℕ) (h i : Holding) (j k : Sketch) (q : ℕ) (t : Ticket) : Type 0 where
  pub held : h.of q ≡ Some t
  pub moves : Moves s u t.slot
  pub posts : (c m : ℕ) → u.posts c m ≡ s.posts c m
  pub made : i.made ≡ h.made
  pub others : (p : ℕ) → (p ≡ q → ⊥) → i.of p ≡ h.of p
  pub sketched_made : k.made ≡ j.made
  pub posted : (c : ℕ) → k.posted c ≡ j.posted c
  pub same : (p : ℕ) → (p ≡ q → ⊥) → SameAt j k p
  pub idle : i.of q ≡ None → up q (k.starts q) → ⊥
  pub own : (v : Ticket) → i.of q ≡ Some v → (v ≡ t) × ((request : Request) × IsLive up u rank k q t request)

module _ (up : ℕ → ℕ → Type 0) (g : Setting) (s u : State) (rank : ℕ) (h i : Holding) (j k : Sketch) (q : ℕ) (t : Ticket)
    (c : Touches up g s u rank h i j k q t) (a : Agrees up g s rank h j) where
  touches_idle : (p : ℕ) → i.of p ≡ None → up p (k.starts p) → ⊥
  touches_idle p e x = go (cases_eq p q)
    where
      go : (p ≡ q) ⊎ (p ≡ q → ⊥) → ⊥
      go (inl y) = c.idle (ap i.of (sym y) ∙ e) (subst (λ (p : ℕ). up p (k.starts p)) y x)
      go (inr d) = a.idle p (sym (c.others p d) ∙ e) (subst (up p) (c.same p d).starts x)

  touches_live : (p : ℕ) (v : Ticket) → i.of p ≡ Some v → (request : Request) × IsLive up u rank k p v request
  touches_live p v e = go (cases_eq p q)
    where
      go : (p ≡ q) ⊎ (p ≡ q → ⊥) → (request : Request) × IsLive up u rank k p v request
      go (inl x) =
          let o = c.own v (ap i.of (sym x) ∙ e) in
          (o.1.0, subst (λ (p : ℕ). IsLive up u rank k p v o.1.0) (sym x) (subst (λ (v : Ticket). IsLive up u rank k q v o.1.0) (sym o.0) o.1.1))
      go (inr d) =
          let held : h.of p ≡ Some v = sym (c.others p d) ∙ e in
          let l = a.live p v held in (
            l.0,
            live_sketched up u rank j k p v l.0 (c.same p d)
                (live_elsewhere up s u t.slot rank j p v l.0 c.moves (λ z. d (a.apart p q v t held c.held z)) l.1),
          )

  touches_apart : (p r : ℕ) (v w : Ticket) → i.of p ≡ Some v → i.of r ≡ Some w → v.slot ≡ w.slot → p ≡ r
  touches_apart p r v w e f z = go (cases_eq p q) (cases_eq r q)
    where
      own_slot : (n : ℕ) (x : Ticket) → n ≡ q → i.of n ≡ Some x → x.slot ≡ t.slot
      own_slot n x y is = ap (λ (t : Ticket). t.slot) (c.own x (ap i.of (sym y) ∙ is)).0

      go : (p ≡ q) ⊎ (p ≡ q → ⊥) → (r ≡ q) ⊎ (r ≡ q → ⊥) → p ≡ r
      go (inl x) (inl y) = x ∙ sym y
      go (inr x) (inr y) = a.apart p r v w (sym (c.others p x) ∙ e) (sym (c.others r y) ∙ f) z
      go (inl x) (inr y) = x ∙ a.apart q r t w c.held (sym (c.others r y) ∙ f) (sym (own_slot p v x e) ∙ z)
      go (inr x) (inl y) = a.apart p q v t (sym (c.others p x) ∙ e) c.held (z ∙ own_slot r w y f) ∙ sym y

  pub agrees_touches : Agrees up g u rank i k
  agrees_touches = record {
    made = c.made ∙ (a.made ∙ sym c.sketched_made);
    idle = touches_idle;
    live = touches_live;
    apart = touches_apart;
    posted = λ comm member is. ap length (c.posts comm member) ∙ (a.posted comm member is ∙ sym (c.posted comm));
  }

-- ---- requests that a call has named

pub agrees_named : (up : ℕ → ℕ → Type 0) (g : Setting) (s : State) (rank : ℕ) (h : Holding) (k : Sketch) (qs : List ℕ)
    → Agrees up g s rank h k → Agrees up g s rank h (naming k qs)
agrees_named up g s rank h k qs a = record {
  made = a.made;
  idle = a.idle;
  live = λ q t e. (let l = a.live q t e in (l.0, live_sketched up s rank k (naming k qs) q t l.0 (same_named k qs q) l.1));
  apart = a.apart;
  posted = a.posted;
}

-- ---- requests that have been waited for

either_true : (a b : Bool) → (a || b) ≡ true → (a ≡ true) ⊎ (b ≡ true)
either_true true b e = inl refl
either_true false b e = inr e

pub agrees_rests : (up : ℕ → ℕ → Type 0) (g : Setting) (s : State) (rank : ℕ) (h : Holding) (k : Sketch) (qs : List ℕ)
    → ((q : ℕ) (t : Ticket) (request : Request) → is_among q qs ≡ true → h.of q ≡ Some t → s.generation t.slot ≡ t.generation
    → s.request t.slot ≡ Some request → request.active ≡ false)
    → Agrees up g s rank h k → Agrees up g s rank h (resting k qs)
agrees_rests up g s rank h k qs inactive a = record {
  made = a.made;
  idle = a.idle;
  live = λ q t e. (let l = a.live q t e in (l.0, rests q t e l.0 l.1));
  apart = a.apart;
  posted = a.posted;
}
  where
    rests : (q : ℕ) (t : Ticket) → h.of q ≡ Some t → (request : Request) → IsLive up s rank k q t request → IsLive up s rank (resting k qs) q t request
    rests q t held request l = record {
      current = l.current;
      is = l.is;
      low = l.low;
      rank_is = l.rank_is;
      comm_is = l.comm_is;
      place_is = l.place_is;
      starts_is = l.starts_is;
      sig = l.sig;
      sig_is = l.sig_is;
      sketched = l.sketched;
      active = l.active;
      rested = λ e. go (either_true (k.rested q) (is_among q qs) e);
      begun = l.begun;
    }
      where
        go : (k.rested q ≡ true) ⊎ (is_among q qs ≡ true) → request.active ≡ false
        go (inl e) = l.rested e
        go (inr among) = inactive q t request among held l.current l.is
