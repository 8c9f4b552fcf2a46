-- What a member has given is kept until all members have left: so what isn't kept of a start to which it has come is over.
use Rattle.std.proofs.Common.{◌≡◌, ℕ, suc, ◌<◌, ◌⊎◌, inl, inr, Bool, true, false, List, Option, Some, None, refl, sym, ap, subst, ◌∙◌, arith}
use Rattle.std.proofs.lemmas.Bool.{cases_eq, false≢true}
use Rattle.std.proofs.lemmas.Option.{none-some, same_Some}
use Rattle.coll_kinds.specs.declared.kind.Mode.{Mode}
use Rattle.coll_kinds.specs.declared.kind.Mode.TheVariants.{Once, Persistent}
use Rattle.coll_kinds.specs.declared.signature.Signature.{Signature}
use Rattle.coll_kinds.specs.declared.ticket.Ticket.{Ticket}
use Rattle.coll_kinds.specs.Common.{member_of, put}
use Rattle.coll_kinds.proofs.Puts.{put_other, put_at, put_cases}
use Rattle.coll_machine.specs.Common.{Setting, group, size, Request, State, Machine, key_of, put_key, put_in, new_request, once_more, started, rested}
use Rattle.coll_machine.specs.Common.{rested_by, holding, forgotten, Planned, IsOver, Clears, Retires, MachineStep}
use Rattle.coll_machine.specs.declared.key.Key.{Key}
use Rattle.coll_machine.specs.Calls as calls
use Rattle.coll_machine.proofs.Accepted.{found_is}
use Rattle.coll_machine.proofs.Held.{runs_are_posted}
use Rattle.coll_machine.proofs.Members.{member_at}
use Rattle.coll_machine.proofs.Puts.{put_key_cases}
use Rattle.coll_verdict.specs.Standings.{Holding}
use Rattle.coll_verdict.specs.Sketches.{Sketch, making, starting}
use Rattle.coll_verdict.proofs.Sketched.{making_grows, starting_grows}
use Rattle.coll_verdict.proofs.Agreeing.{IsLive, live_as, Makes}
use Rattle.coll_verdict.proofs.Changing.{makes_init, makes_post}
use Rattle.coll_verdict.proofs.Placing.{IsPlaced}
use Rattle.coll_verdict.proofs.Tracking.{Gave, gave_grows, Tracks, put_grows, same_rank, post_is, init_is, start_is, free_is, retire_is}

-- ---- what came to a start

-- a rank's commands have come to the start
pub record Began (k : Sketch) (key : Key) : Type 0 where
  pub q : ℕ
  pub low : q < k.made
  pub comm_is : k.comm q ≡ key.comm
  pub place_is : k.place q ≡ key.place
  pub begun : key.start < k.starts q

pub began_of : (g : Setting) (k : ℕ → Sketch) (key : Key) (member : ℕ) → (v : Gave g k key member) → Began (k v.rank) key
began_of g k key member v = record { q = v.q; low = v.low; comm_is = v.comm_is; place_is = v.place_is; begun = v.begun }

pub gave_of : (g : Setting) (k : ℕ → Sketch) (key : Key) (member rank : ℕ) → member_of rank (group g key.comm) ≡ Some member
    → Began (k rank) key → Gave g k key member
gave_of g k key member rank is b = record { rank = rank; member_is = is; q = b.q; low = b.low; comm_is = b.comm_is; place_is = b.place_is; begun = b.begun }

-- ---- what is over

-- all members have come to the start, and no request is active with it
pub record Over (g : Setting) (s : State) (k : ℕ → Sketch) (key : Key) : Type 0 where
  pub all : (i : ℕ) → i < size g key.comm → Gave g k key i
  pub left : (slot : ℕ) (request : Request) (start : ℕ) → s.request slot ≡ Some request → request.active ≡ true
      → suc start ≡ request.starts → key_of request start ≡ key → ⊥

abbrev pub Keeps : Setting → State → (ℕ → Sketch) → Type 0
Keeps g s k = (key : Key) (member : ℕ) → Gave g k key member → s.given key member ≡ None → Over g s k key

key_is : (a b : Key) → a.comm ≡ b.comm → a.place ≡ b.place → a.start ≡ b.start → a ≡ b
key_is a b x y z = λ i. record { comm = x i; place = y i; start = z i }

-- what a rank came to where all members did
own_began : (g : Setting) (s : State) (k : ℕ → Sketch) (key : Key) (rank comm member : ℕ) → Over g s k key → key.comm ≡ comm
    → member_of rank (group g comm) ≡ Some member → Began (k rank) key
own_began g s k key rank comm member o e is =
    let there : member_of rank (group g key.comm) ≡ Some member = ap (λ (c : ℕ). member_of rank (group g c)) e ∙ is in
    let v = o.all member (member_at g key.comm rank member there).0 in
    subst (λ (r : ℕ). Began (k r) key) (same_rank g key.comm member key.comm member v.rank rank v.member_is there refl refl) (began_of g k key member v)

-- ---- a rank makes a request

-- what it came to then it came to before, or it is the new request's first start
made_began : (k : Sketch) (comm : ℕ) (sig : Signature) (starts : ℕ) (key : Key) → Began (making k comm sig starts) key
    → Began k key ⊎ ((comm ≡ key.comm) × (k.posted comm ≡ key.place) × (key.start < starts))
made_began k comm sig starts key b = go (cases_eq b.q k.made)
  where
    below : (q n : ℕ) → q < suc n → (q ≡ n → ⊥) → q < n
    below q n l d = omega arith

    go : (b.q ≡ k.made) ⊎ (b.q ≡ k.made → ⊥) → Began k key ⊎ ((comm ≡ key.comm) × (k.posted comm ≡ key.place) × (key.start < starts))
    go (inl e) = inr (
      sym (put_at k.comm k.made comm b.q e) ∙ b.comm_is,
      sym (put_at k.place k.made (k.posted comm) b.q e) ∙ b.place_is,
      subst (λ (n : ℕ). key.start < n) (put_at k.starts k.made starts b.q e) b.begun,
    )
    go (inr d) = inl (record {
      q = b.q;
      low = below b.q k.made b.low d;
      comm_is = sym (put_other k.comm k.made comm b.q d) ∙ b.comm_is;
      place_is = sym (put_other k.place k.made (k.posted comm) b.q d) ∙ b.place_is;
      begun = subst (λ (n : ℕ). key.start < n) (put_other k.starts k.made starts b.q d) b.begun;
    })

-- ---- more contributions

-- what isn't given now wasn't given before
fewer : (f : Key → ℕ → Option (List ℕ)) (k : Key) (member : ℕ) (bytes : List ℕ) (key : Key) (m : ℕ)
    → put_in f k member (Some bytes) key m ≡ None → f key m ≡ None
fewer f k member bytes key m e = go (put_key_cases f k (put (f k) member (Some bytes)) key)
  where
    inner : key ≡ k → put (f k) member (Some bytes) m ≡ None
        → ((m ≡ member) × (put (f k) member (Some bytes) m ≡ Some bytes)) ⊎ ((m ≡ member → ⊥) × (put (f k) member (Some bytes) m ≡ f k m)) → f key m ≡ None
    inner x h (inl a) = absurd (none-some bytes (sym h ∙ a.1))
    inner x h (inr a) = ap (λ (k : Key). f k m) x ∙ (sym a.1 ∙ h)

    go : ((key ≡ k) × (put_key f k (put (f k) member (Some bytes)) key ≡ put (f k) member (Some bytes)))
        ⊎ ((key ≡ k → ⊥) × (put_key f k (put (f k) member (Some bytes)) key ≡ f key)) → f key m ≡ None
    go (inl a) = inner a.0 (ap (λ (f : ℕ → Option (List ℕ)). f m) (sym a.1) ∙ e) (put_cases (f k) member (Some bytes) m)
    go (inr a) = ap (λ (f : ℕ → Option (List ℕ)). f m) (sym a.1) ∙ e

-- the new one is given
is_given : (f : Key → ℕ → Option (List ℕ)) (k : Key) (member : ℕ) (bytes : List ℕ) (key : Key) (m : ℕ) → key ≡ k → m ≡ member
    → put_in f k member (Some bytes) key m ≡ None → ⊥
is_given f k member bytes key m x y e = go (put_key_cases f k (put (f k) member (Some bytes)) key)
  where
    go : ((key ≡ k) × (put_key f k (put (f k) member (Some bytes)) key ≡ put (f k) member (Some bytes)))
        ⊎ ((key ≡ k → ⊥) × (put_key f k (put (f k) member (Some bytes)) key ≡ f key)) → ⊥
    go (inl a) = none-some bytes (sym e ∙ (ap (λ (f : ℕ → Option (List ℕ)). f m) a.1 ∙ put_at (f k) member (Some bytes) m y))
    go (inr a) = a.0 x

-- of a start of a rank's new or old commands, whose it is
module _ (g : Setting) (k : ℕ → Sketch) (rank : ℕ) (j : Sketch) (key : Key) (member : ℕ) where
  pub whose : (v : Gave g (put k rank j) key member) → Gave g k key member ⊎ ((member_of rank (group g key.comm) ≡ Some member) × Began j key)
  whose v = go (put_cases k rank j v.rank)
    where
      go : ((v.rank ≡ rank) × (put k rank j v.rank ≡ j)) ⊎ ((v.rank ≡ rank → ⊥) × (put k rank j v.rank ≡ k v.rank))
          → Gave g k key member ⊎ ((member_of rank (group g key.comm) ≡ Some member) × Began j key)
      go (inl a) =
          inr (
            subst (λ (r : ℕ). member_of r (group g key.comm) ≡ Some member) a.0 v.member_is,
            subst (λ (s : Sketch). Began s key) a.1 (began_of g (put k rank j) key member v),
          )
      go (inr a) = inl (gave_of g k key member v.rank v.member_is (subst (λ (s : Sketch). Began s key) a.1 (began_of g (put k rank j) key member v)))

-- ---- steps

less_than_itself : (a b : ℕ) → a < b → a ≡ b → ⊥
less_than_itself a b l e = absurd (omega arith)

module _ (up : ℕ → ℕ → ℕ → Type 0) (g : Setting) (m n : Machine) (h : ℕ → Holding) (k : ℕ → Sketch) (rank comm member : ℕ)
    (t : Ticket) (sig : Signature) (starts : ℕ) (active : Bool) (tr : Tracks up g m h k) (placed : IsPlaced (k rank)) (keeps : Keeps g m.state k)
    (mk : Makes g m.state n.state rank comm member t sig starts active)
    (less : (key : Key) (i : ℕ) → n.state.given key i ≡ None → m.state.given key i ≡ None)
    (new : (key : Key) (i : ℕ) → comm ≡ key.comm → (k rank).posted comm ≡ key.place → key.start < starts → i ≡ member → n.state.given key i ≡ None → ⊥) where
  abbrev more : ℕ → Sketch
  more = put k rank (making (k rank) comm sig starts)

  -- the new request isn't active with what was over
  other_place : (key : Key) (start : ℕ) → Over g m.state k key → key_of mk.request start ≡ key → ⊥
  other_place key start o e =
      let c : key.comm ≡ comm = ap (λ (k : Key). k.comm) (sym e) ∙ mk.comm_is in
      let b = own_began g m.state k key rank comm member o c mk.is_member in
      let place : key.place ≡ (k rank).posted comm = ap (λ (k : Key). k.place) (sym e) ∙ (mk.place_is ∙ (tr.agrees rank).posted comm member mk.is_member) in
      less_than_itself ((k rank).place b.q) ((k rank).posted ((k rank).comm b.q)) (placed.low b.q b.low)
      (b.place_is ∙ (place ∙ ap (k rank).posted (sym (b.comm_is ∙ c))))

  over_makes : (key : Key) → Over g m.state k key → Over g n.state more key
  over_makes key o = record {
    all = λ i low. gave_grows g k more key i (put_grows k rank (making (k rank) comm sig starts) (making_grows (k rank) comm sig starts)) (o.all i low);
    left = λ slot request start is act last e. go slot request start is act last e (cases_eq slot t.slot);
  }
    where
      go : (slot : ℕ) (request : Request) (start : ℕ) → n.state.request slot ≡ Some request → request.active ≡ true
          → suc start ≡ request.starts → key_of request start ≡ key → (slot ≡ t.slot) ⊎ (slot ≡ t.slot → ⊥) → ⊥
      go slot request start is act last e (inl x) =
          let same : mk.request ≡ request = same_Some mk.request request (sym mk.is ∙ (ap n.state.request (sym x) ∙ is)) in
          other_place key start o (ap (λ (r : Request). key_of r start) same ∙ e)
      go slot request start is act last e (inr d) = o.left slot request start (sym (mk.moves.request slot d) ∙ is) act last e

  keeps_makes : Keeps g n.state more
  keeps_makes key i v none = go (whose g k rank (making (k rank) comm sig starts) key i v)
    where
      old : Gave g k key i → Over g n.state more key
      old v = over_makes key (keeps key i v (less key i none))

      go : Gave g k key i ⊎ ((member_of rank (group g key.comm) ≡ Some i) × Began (making (k rank) comm sig starts) key) → Over g n.state more key
      go (inl v) = old v
      go (inr b) = split (made_began (k rank) comm sig starts key b.1)
        where
          split : Began (k rank) key ⊎ ((comm ≡ key.comm) × ((k rank).posted comm ≡ key.place) × (key.start < starts)) → Over g n.state more key
          split (inl c) = old (gave_of g k key i rank b.0 c)
          split (inr c) =
              let own : i ≡ member = same_Some i member (sym b.0 ∙ (ap (λ (c : ℕ). member_of rank (group g c)) (sym c.0) ∙ mk.is_member)) in
              absurd (new key i c.0 c.1 c.2 own none)

-- ---- a post, an initialisation

zero_of : (n : ℕ) → n < 1 → n ≡ 0
zero_of n l = omega arith

pub keeps_post : (up : ℕ → ℕ → ℕ → Type 0) (g : Setting) (m n : Machine) (h : ℕ → Holding) (k : ℕ → Sketch) (rank comm : ℕ)
    (plan : Planned) (given : List ℕ) (t : Ticket) → Tracks up g m h k → IsPlaced (k rank) → Keeps g m.state k
    → MachineStep g m (calls.Post rank comm plan given) (calls.Ticketed t) n → Keeps g n.state (put k rank (making (k rank) comm plan.sig 1))
keeps_post up g m n h k rank comm plan given t tr placed keeps step =
    let found = post_is g rank comm plan given t m n step in
    let p = found.1 in
    let mk = makes_post g m.state n.state rank comm found.0 plan given t p in
    keeps_makes up g m n h k rank comm p.member t plan.sig 1 true tr placed keeps mk
    (λ key i e. fewer m.state.given (key_of (new_request rank comm p.member found.0 Once) 0) p.member given key i
    (ap (λ (s : State). s.given key i) (sym p.leaves) ∙ e))
    (λ key i c l low own e. is_given m.state.given (key_of (new_request rank comm p.member found.0 Once) 0) p.member given key i
    (key_is key (key_of (new_request rank comm p.member found.0 Once) 0) (sym c)
    (sym l ∙ (sym ((tr.agrees rank).posted comm p.member p.member_is) ∙ sym p.place_is)) (zero_of key.start low)) own
    (ap (λ (s : State). s.given key i) (sym p.leaves) ∙ e))

none_below : (n : ℕ) → n < 0 → ⊥
none_below n l = absurd (omega arith)

pub keeps_init : (up : ℕ → ℕ → ℕ → Type 0) (g : Setting) (m n : Machine) (h : ℕ → Holding) (k : ℕ → Sketch) (rank comm : ℕ) (plan : Planned) (t : Ticket)
    → Tracks up g m h k → IsPlaced (k rank) → Keeps g m.state k
    → MachineStep g m (calls.Init rank comm plan) (calls.Ticketed t) n → Keeps g n.state (put k rank (making (k rank) comm plan.sig 0))
keeps_init up g m n h k rank comm plan t tr placed keeps step =
    let found = init_is g rank comm plan t m n step in
    let p = found.1 in
    let mk = makes_init g m.state n.state rank comm found.0 plan t p in
    keeps_makes up g m n h k rank comm p.member t plan.sig 0 false tr placed keeps mk
    (λ key i e. ap (λ (s : State). s.given key i) (sym p.leaves) ∙ e)
    (λ key i c l low own e. none_below key.start low)

-- ---- a start

started_began : (k : Sketch) (q : ℕ) (key : Key) → Began (starting k q) key
    → Began k key ⊎ ((k.comm q ≡ key.comm) × (k.place q ≡ key.place) × (key.start ≡ k.starts q))
started_began k q key b = go (put_cases k.starts q (suc (k.starts q)) b.q) (cases_eq key.start (k.starts q))
  where
    below : (a c x : ℕ) → x ≡ suc c → a < x → (a ≡ c → ⊥) → a < c
    below a c x e l d = omega arith

    go : ((b.q ≡ q) × (put k.starts q (suc (k.starts q)) b.q ≡ suc (k.starts q))) ⊎ ((b.q ≡ q → ⊥) × (put k.starts q (suc (k.starts q)) b.q ≡ k.starts b.q))
        → (key.start ≡ k.starts q) ⊎ (key.start ≡ k.starts q → ⊥)
        → Began k key ⊎ ((k.comm q ≡ key.comm) × (k.place q ≡ key.place) × (key.start ≡ k.starts q))
    go (inr a) x = inl (record { q = b.q; low = b.low; comm_is = b.comm_is; place_is = b.place_is; begun = subst (λ (n : ℕ). key.start < n) a.1 b.begun })
    go (inl a) (inl e) = inr (ap k.comm (sym a.0) ∙ b.comm_is, ap k.place (sym a.0) ∙ b.place_is, e)
    go (inl a) (inr d) = inl (record {
      q = b.q;
      low = b.low;
      comm_is = b.comm_is;
      place_is = b.place_is;
      begun = subst (λ (p : ℕ). key.start < k.starts p) (sym a.0) (below key.start (k.starts q) (put k.starts q (suc (k.starts q)) b.q) a.1 b.begun d);
    })

suc_same : (a b : ℕ) → suc a ≡ suc b → a ≡ b
suc_same a b e = omega arith

module _ (up : ℕ → ℕ → ℕ → Type 0) (g : Setting) (m : Machine) (h : ℕ → Holding) (k : ℕ → Sketch) (rank q : ℕ) (given : List ℕ)
    (t : Ticket) (r : Request) (tr : Tracks up g m h k) (placed : IsPlaced (k rank)) (keeps : Keeps g m.state k)
    (live : IsLive (up rank) m.state rank (k rank) q t r) where
  own_member : member_of rank (group g r.comm) ≡ Some r.member
  own_member =
      let p = (runs_are_posted g tr.events m tr.run).posted t.slot r live.is in
      ap (λ (i : ℕ). member_of i (group g r.comm)) (sym live.rank_is) ∙ p.member_is

  -- the next start isn't one that was over
  other_start : (key : Key) (start : ℕ) → Over g m.state k key → start ≡ r.starts → key_of r start ≡ key → ⊥
  other_start key start o is e =
      let c : key.comm ≡ r.comm = ap (λ (k : Key). k.comm) (sym e) in
      let b = own_began g m.state k key rank r.comm r.member o c own_member in
      let same : b.q ≡ q =
      placed.apart b.q q b.low live.low (b.comm_is ∙ (c ∙ live.comm_is)) (b.place_is ∙ (ap (λ (k : Key). k.place) (sym e) ∙ live.place_is)) in
      less_than_itself key.start ((k rank).starts b.q) b.begun (ap (λ (k : Key). k.start) (sym e) ∙ (is ∙ (live.starts_is ∙ ap (k rank).starts (sym same))))

  over_starts : (key : Key) → Over g m.state k key → Over g (started m.state t.slot r given) (put k rank (starting (k rank) q)) key
  over_starts key o = record {
    all = λ i low. gave_grows g k (put k rank (starting (k rank) q)) key i (put_grows k rank (starting (k rank) q) (starting_grows (k rank) q)) (o.all i low);
    left = λ slot request start is act last e. go slot request start is act last e (cases_eq slot t.slot);
  }
    where
      go : (slot : ℕ) (request : Request) (start : ℕ) → (started m.state t.slot r given).request slot ≡ Some request
          → request.active ≡ true → suc start ≡ request.starts → key_of request start ≡ key → (slot ≡ t.slot) ⊎ (slot ≡ t.slot → ⊥) → ⊥
      go slot request start is act last e (inl x) =
          let same : once_more r ≡ request = same_Some (once_more r) request (sym (put_at m.state.request t.slot (Some (once_more r)) slot x) ∙ is) in
          other_start key start o (suc_same start r.starts (last ∙ ap (λ (r : Request). r.starts) (sym same))) (ap (λ (r : Request). key_of r start) same ∙ e)
      go slot request start is act last e (inr d) =
          o.left slot request start (sym (put_other m.state.request t.slot (Some (once_more r)) slot d) ∙ is) act last e

  keeps_starts : Keeps g (started m.state t.slot r given) (put k rank (starting (k rank) q))
  keeps_starts key i v none = go (whose g k rank (starting (k rank) q) key i v)
    where
      old : Gave g k key i → Over g (started m.state t.slot r given) (put k rank (starting (k rank) q)) key
      old v = over_starts key (keeps key i v (fewer m.state.given (key_of r r.starts) r.member given key i none))

      go : Gave g k key i ⊎ ((member_of rank (group g key.comm) ≡ Some i) × Began (starting (k rank) q) key)
          → Over g (started m.state t.slot r given) (put k rank (starting (k rank) q)) key
      go (inl v) = old v
      go (inr b) = split (started_began (k rank) q key b.1)
        where
          split : Began (k rank) key ⊎ (((k rank).comm q ≡ key.comm) × ((k rank).place q ≡ key.place) × (key.start ≡ (k rank).starts q))
              → Over g (started m.state t.slot r given) (put k rank (starting (k rank) q)) key
          split (inl c) = old (gave_of g k key i rank b.0 c)
          split (inr c) =
              let own : i ≡ r.member = same_Some i r.member (sym b.0 ∙ (ap (λ (c : ℕ). member_of rank (group g c)) (sym (live.comm_is ∙ c.0)) ∙ own_member)) in
              absurd (is_given m.state.given (key_of r r.starts) r.member given key i
              (key_is key (key_of r r.starts) (sym (live.comm_is ∙ c.0)) (sym (live.place_is ∙ c.1)) (c.2 ∙ sym live.starts_is)) own none)

pub keeps_start : (up : ℕ → ℕ → ℕ → Type 0) (g : Setting) (m n : Machine) (h : ℕ → Holding) (k : ℕ → Sketch) (rank q : ℕ) (given : List ℕ) (t : Ticket)
    → Tracks up g m h k → IsPlaced (k rank) → Keeps g m.state k → (h rank).of q ≡ Some t
    → MachineStep g m (calls.Start rank t given) calls.Nothing n → Keeps g n.state (put k rank (starting (k rank) q))
keeps_start up g m n h k rank q given t tr placed keeps held step =
    let p = (start_is g rank t given m n step).1 in
    let l = (tr.agrees rank).live q t held in
    let live = live_as (up rank) m.state rank (k rank) q t l.0 p.request l.1 (found_is m.state t p.request p.is).1 in
    subst (λ (s : State). Keeps g s (put k rank (starting (k rank) q))) (sym p.leaves) (keeps_starts up g m h k rank q given t p.request tr placed keeps live)

-- ---- a completion, a free

pub not_active : (o : Option Request) (request : Request) → o ≡ Some request
    → ((other : Request) → o ≡ Some other → other.active ≡ false) → request.active ≡ true → ⊥
not_active o request e idle act = false≢true (sym (idle request e) ∙ act)

over_rests : (g : Setting) (s : State) (k : ℕ → Sketch) (key : Key) (slot : ℕ) (o : Option Request)
    → ((other : Request) → o ≡ Some other → other.active ≡ false) → Over g s k key → Over g (holding s slot o) k key
over_rests g s k key slot o idle over =
    record { all = over.all; left = λ i request start is act last e. go i request start is act last e (put_cases s.request slot o i) }
  where
    go : (i : ℕ) (request : Request) (start : ℕ) → (holding s slot o).request i ≡ Some request → request.active ≡ true
        → suc start ≡ request.starts → key_of request start ≡ key
        → ((i ≡ slot) × (put s.request slot o i ≡ o)) ⊎ ((i ≡ slot → ⊥) × (put s.request slot o i ≡ s.request i)) → ⊥
    go i request start is act last e (inl a) = not_active o request (sym a.1 ∙ is) idle act
    go i request start is act last e (inr a) = over.left i request start (sym a.1 ∙ is) act last e

keeps_rests : (g : Setting) (s : State) (k : ℕ → Sketch) (slot : ℕ) (o : Option Request)
    → ((other : Request) → o ≡ Some other → other.active ≡ false) → Keeps g s k → Keeps g (holding s slot o) k
keeps_rests g s k slot o idle keeps key i v none = over_rests g s k key slot o idle (keeps key i v none)

rested_idle : (request other : Request) → rested request ≡ Some other → other.active ≡ false
rested_idle request other e = go request.mode e
  where
    go : (mode : Mode) → rested_by mode request ≡ Some other → other.active ≡ false
    go Once e = absurd (none-some other e)
    go Persistent e = ap (λ (r : Request). r.active) (sym (same_Some (record request { active = false }) other e))

-- what is over is forgotten
module _ (g : Setting) (s : State) (k : ℕ → Sketch) (key : Key) (over : IsOver g s key) (keeps : Keeps g s k)
    (gave : (key : Key) (i : ℕ) (b : List ℕ) → s.given key i ≡ Some b → Gave g k key i)
    (seated : (slot : ℕ) (request : Request) → s.request slot ≡ Some request → request.active ≡ true → request.member < size g request.comm) where
  now_over : (other : Key) → other ≡ key → Over g (forgotten s key) k other
  now_over other e = record { all = λ i low. all i low; left = λ slot request start is act last same. left slot request start is act last (same ∙ e) }
    where
      all : (i : ℕ) → i < size g other.comm → Gave g k other i
      all i low = go (s.given key i) refl
        where
          there : s.given key i ≡ None → ⊥
          there = (over i (subst (λ (k : Key). i < size g k.comm) e low)).0

          go : (o : Option (List ℕ)) → s.given key i ≡ o → Gave g k other i
          go None is = absurd (there is)
          go (Some b) is = subst (λ (k2 : Key). Gave g k k2 i) (sym e) (gave key i b is)

      left : (slot : ℕ) (request : Request) (start : ℕ) → s.request slot ≡ Some request → request.active ≡ true
          → suc start ≡ request.starts → key_of request start ≡ key → ⊥
      left slot request start is act last same =
          (over request.member (subst (λ (k : Key). request.member < size g k.comm) same (seated slot request is act))).1
          (record { slot = slot; request = request; start = start; is = is; active = act; member_is = refl; last = last; key_is = same })

  keeps_forgets : Keeps g (forgotten s key) k
  keeps_forgets other i v none = go (put_key_cases s.given key (λ m. None) other)
    where
      go : ((other ≡ key) × (put_key s.given key (λ m. None) other ≡ λ m. None))
          ⊎ ((other ≡ key → ⊥) × (put_key s.given key (λ m. None) other ≡ s.given other)) → Over g (forgotten s key) k other
      go (inl a) = now_over other a.0
      go (inr a) = let o = keeps other i v (ap (λ (f : ℕ → Option (List ℕ)). f i) (sym a.1) ∙ none) in record { all = o.all; left = o.left }

pub keeps_retire : (up : ℕ → ℕ → ℕ → Type 0) (g : Setting) (m n : Machine) (h : ℕ → Holding) (k : ℕ → Sketch)
    (rank comm place begin : ℕ) (bytes : List ℕ) (t : Ticket) → Tracks up g m h k → Keeps g m.state k
    → MachineStep g m (calls.Retire rank t) (calls.Outcome rank comm place begin bytes) n → Keeps g n.state k
keeps_retire up g m n h k rank comm place begin bytes t tr keeps step = go r.leaves
  where
    r : Retires g m.state rank t comm place begin bytes n.state
    r = (retire_is g rank rank comm place begin bytes t m n step).0

    rests : Keeps g (holding m.state t.slot (rested r.request)) k
    rests = keeps_rests g m.state k t.slot (rested r.request) (rested_idle r.request) keeps

    seated : (slot : ℕ) (request : Request) → (holding m.state t.slot (rested r.request)).request slot ≡ Some request
        → request.active ≡ true → request.member < size g request.comm
    seated slot request is act = split (put_cases m.state.request t.slot (rested r.request) slot)
      where
        split : ((slot ≡ t.slot) × (put m.state.request t.slot (rested r.request) slot ≡ rested r.request))
            ⊎ ((slot ≡ t.slot → ⊥) × (put m.state.request t.slot (rested r.request) slot ≡ m.state.request slot)) → request.member < size g request.comm
        split (inl a) = absurd (not_active (rested r.request) request (sym a.1 ∙ is) (rested_idle r.request) act)
        split (inr a) =
            (member_at g request.comm request.rank request.member ((runs_are_posted g tr.events m tr.run).posted slot request (sym a.1 ∙ is)).member_is).0

    go : Clears g (holding m.state t.slot (rested r.request)) (key_of r.request begin) n.state → Keeps g n.state k
    go (inl a) =
        subst (λ (s : State). Keeps g s k) (sym a.1)
        (keeps_forgets g (holding m.state t.slot (rested r.request)) k (key_of r.request begin) a.0 rests (λ key i b e. tr.gave key i b e) seated)
    go (inr a) = subst (λ (s : State). Keeps g s k) (sym a.1) rests

pub keeps_free : (g : Setting) (m n : Machine) (k : ℕ → Sketch) (rank : ℕ) (t : Ticket) → Keeps g m.state k
    → MachineStep g m (calls.Free rank t) calls.Nothing n → Keeps g n.state k
keeps_free g m n k rank t keeps step =
    let p = free_is g rank t m n step in
    subst (λ (s : State). Keeps g s k) (sym p.leaves) (keeps_rests g m.state k t.slot None (λ other e. absurd (none-some other e)) keeps)
