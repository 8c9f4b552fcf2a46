-- The request that a rank's ticket names is the rank's own: each step of a job keeps it.
use Rattle.std.proofs.Common.{◌≡◌, ℕ, suc, ◌<◌, ◌≤◌, ◌⊎◌, inl, inr, Option, Some, None, List, false, refl, sym, ap, subst, ◌∙◌, arith, eq-eqb}
use Rattle.std.proofs.lemmas.Bool.{cases_eq}
use Rattle.std.proofs.lemmas.Option.{none-some, same_Some}
use Rattle.std.specs.Prelude.{option_map}
use Rattle.coll_kinds.specs.declared.kind.Mode.{Mode}
use Rattle.coll_kinds.specs.declared.kind.Mode.TheVariants.{Once, Persistent}
use Rattle.coll_kinds.specs.declared.signature.Signature.{Signature}
use Rattle.coll_kinds.specs.declared.ticket.Ticket.{Ticket}
use Rattle.coll_kinds.specs.Common.{put}
use Rattle.coll_kinds.proofs.Puts.{put_at, put_cases, put_other, put_same}
use Rattle.coll_machine.specs.Common.{Setting, State, Machine, Request, found, new_request, once_more, rested, rested_by, holding, created, started}
use Rattle.coll_machine.specs.Common.{key_of, Planned, Call, Reply, MachineStep, Clears, naming_refusals, first_of, refusal}
use Rattle.coll_machine.specs.Calls as calls
use Rattle.coll_machine.specs.Machines as machines
use Rattle.coll_machine.proofs.Accepted.{found_is}
use Rattle.coll_parser.specs.declared.command.Command.{Command}
use Rattle.coll_verdict.specs.Standings.{Holding, Standing, Completes, Carries, holding_at, kept, one_more}
use Rattle.coll_verdict.specs.Standings as standings
use Rattle.coll_verdict.specs.Waiting.{Hearing, ReachesBy, StepsBy}
use Rattle.coll_verdict.specs.Waiting as waiting

-- ---- one slot

-- the slot was given to a later request, or what it holds is of the same rank as before
data IsLater (old new : ℕ → ℕ) (before after : ℕ → Option Request) (slot : ℕ) : Type 0 where
  given_on : old slot < new slot → IsLater old new before after slot
  stays : new slot ≡ old slot
      → ((q : Request) → after slot ≡ Some q → (r : Request) × (before slot ≡ Some r) × (r.rank ≡ q.rank)) → IsLater old new before after slot

abbrev Later : State → State → Type 0
Later s u = (slot : ℕ) → IsLater s.generation u.generation s.request u.request slot

later_self : (s : State) → Later s s
later_self s slot = stays refl (λ q e. (q, e, refl))

less_at : (a b c : ℕ) → a < b → b ≡ c → a < c
less_at a b c l e = omega arith

less_less : (a b c : ℕ) → a < b → b < c → a < c
less_less a b c l m = omega arith

later_later : (s u v : State) → Later s u → Later u v → Later s v
later_later s u v first second slot = go (first slot) (second slot)
  where
    go : IsLater s.generation u.generation s.request u.request slot → IsLater u.generation v.generation u.request v.request slot
        → IsLater s.generation v.generation s.request v.request slot
    go (given_on l) (given_on m) = given_on (less_less (s.generation slot) (u.generation slot) (v.generation slot) l m)
    go (given_on l) (stays e f) = given_on (less_at (s.generation slot) (u.generation slot) (v.generation slot) l (sym e))
    go (stays e f) (given_on m) = given_on (subst (λ n. n < v.generation slot) e m)
    go (stays e f) (stays d h) = stays (d ∙ e) (λ q is. let a = h q is in let b = f a.0 a.1 in (b.0, b.1, b.2 ∙ a.2))

-- a slot's request goes, or is another of the same rank
later_holding : (s : State) (slot : ℕ) (o : Option Request)
    → ((q : Request) → o ≡ Some q → (r : Request) × (s.request slot ≡ Some r) × (r.rank ≡ q.rank)) → Later s (holding s slot o)
later_holding s slot o same i = stays refl (λ q is. go q is (put_cases s.request slot o i))
  where
    go : (q : Request) → put s.request slot o i ≡ Some q
        → ((i ≡ slot) × (put s.request slot o i ≡ o)) ⊎ ((i ≡ slot → ⊥) × (put s.request slot o i ≡ s.request i))
        → (r : Request) × (s.request i ≡ Some r) × (r.rank ≡ q.rank)
    go q is (inl a) = let f = same q (sym a.1 ∙ is) in (f.0, ap s.request a.0 ∙ f.1, f.2)
    go q is (inr a) = (q, sym a.1 ∙ is, refl)

later_created : (s : State) (t : Ticket) (q : Request) (sig : Signature) → t.generation ≡ suc (s.generation t.slot) → Later s (created s t q sig)
later_created s t q sig next i = go (cases_eq i t.slot)
  where
    one_on : (a b c d : ℕ) → a ≡ b → d ≡ c → c ≡ suc b → a < d
    one_on a b c d e f h = omega arith

    go : (i ≡ t.slot) ⊎ (i ≡ t.slot → ⊥) → IsLater s.generation (created s t q sig).generation s.request (created s t q sig).request i
    go (inl e) =
        given_on (one_on (s.generation i) (s.generation t.slot) t.generation (put s.generation t.slot t.generation i)
        (ap s.generation e) (put_at s.generation t.slot t.generation i e) next)
    go (inr d) = stays (put_other s.generation t.slot t.generation i d) (λ r is. (r, sym (put_other s.request t.slot (Some q) i d) ∙ is, refl))

later_started : (s : State) (slot : ℕ) (q : Request) (bytes : List ℕ) → s.request slot ≡ Some q → Later s (started s slot q bytes)
later_started s slot q bytes here = later_holding s slot (Some (once_more q)) (λ r is. (q, here, ap (λ (r : Request). r.rank) (same_Some (once_more q) r is)))

later_cleared : (g : Setting) (s u : State) (slot : ℕ) (q : Request) (start : ℕ) → s.request slot ≡ Some q
    → Clears g (holding s slot (rested q)) (key_of q start) u → Later s u
later_cleared g s u slot q start here clears = go clears
  where
    rests : (mode : Mode) (r : Request) → rested_by mode q ≡ Some r → q.rank ≡ r.rank
    rests Once r e = absurd (none-some r e)
    rests Persistent r e = ap (λ (r : Request). r.rank) (same_Some (record q { active = false }) r e)

    there : Later s (holding s slot (rested q))
    there = later_holding s slot (rested q) (λ r is. (q, here, rests q.mode r is))

    go : Clears g (holding s slot (rested q)) (key_of q start) u → Later s u
    go (inl a) = subst (λ (u : State). Later s u) (sym a.1) there
    go (inr a) = subst (λ (u : State). Later s u) (sym a.1) there

later_step : (g : Setting) (m n : Machine) (call : Call) (reply : Reply) → MachineStep g m call reply n → Later m.state n.state
later_step g _ _ _ _ (machines.post {s} {u} {done} rank comm place plan bytes t p) =
    let q = new_request rank comm p.member place Once in
    subst (λ (u : State). Later s u) (sym p.leaves)
    (later_later s (created s t q plan.sig) (started (created s t q plan.sig) t.slot q bytes)
    (later_created s t q plan.sig p.new.next) (later_started (created s t q plan.sig) t.slot q bytes (put_same s.request t.slot (Some q))))
later_step g _ _ _ _ (machines.init {s} {u} {done} rank comm place plan t p) =
    subst (λ (u : State). Later s u) (sym p.leaves) (later_created s t (new_request rank comm p.member place Persistent) plan.sig p.new.next)
later_step g _ _ _ _ (machines.start {s} {u} {done} rank begin t bytes p) =
    subst (λ (u : State). Later s u) (sym p.leaves) (later_started s t.slot p.request bytes (found_is s t p.request p.is).1)
later_step g _ _ _ _ (machines.finish {m} {done} slot f) = later_self m.state
later_step g _ _ _ _ (machines.retire {s} {u} {done} rank t comm place begin bytes r d) =
    later_cleared g s u t.slot r.request begin (found_is s t r.request r.is).1 r.leaves
later_step g _ _ _ _ (machines.wait {m} rank t h d) = later_self m.state
later_step g _ _ _ _ (machines.free {s} {u} {done} rank t p) =
    subst (λ (u : State). Later s u) (sym p.leaves) (later_holding s t.slot None (λ q e. absurd (none-some q e)))
later_step g _ _ _ _ (machines.refuse {m} call why h) = later_self m.state
later_step g _ _ _ _ (machines.short {m} call takes h) = later_self m.state

-- ---- one ticket

-- its slot wasn't given on before it was made, and while it names a request, that is the rank's
record Owns (s : State) (rank : ℕ) (t : Ticket) : Type 0 where
  low : t.generation ≤ s.generation t.slot
  mine : (q : Request) → s.generation t.slot ≡ t.generation → s.request t.slot ≡ Some q → q.rank ≡ rank

owns_later : (s u : State) (rank : ℕ) (t : Ticket) → Later s u → Owns s rank t → Owns u rank t
owns_later s u rank t later own = go (later t.slot)
  where
    up : (a b c : ℕ) → a ≤ b → b < c → a ≤ c
    up a b c l m = omega arith

    past : (a b c : ℕ) → a ≤ b → b < c → c ≡ a → ⊥
    past a b c l m e = absurd (omega arith)

    go : IsLater s.generation u.generation s.request u.request t.slot → Owns u rank t
    go (given_on m) = record {
      low = up t.generation (s.generation t.slot) (u.generation t.slot) own.low m;
      mine = λ q e is. absurd (past t.generation (s.generation t.slot) (u.generation t.slot) own.low m e);
    }
    go (stays e f) = record {
      low = subst (λ n. t.generation ≤ n) (sym e) own.low;
      mine = λ q now is. let before = f q is in sym before.2 ∙ own.mine before.0 (sym e ∙ now) before.1;
    }

own_new : (s : State) (rank : ℕ) (t : Ticket) (q : Request) → s.generation t.slot ≡ t.generation → s.request t.slot ≡ Some q → q.rank ≡ rank → Owns s rank t
own_new s rank t q now is own = record {
  low = same (t.generation) (s.generation t.slot) now;
  mine = λ r e here. ap (λ (r : Request). r.rank) (same_Some r q (sym here ∙ is)) ∙ own;
}
  where
    same : (a b : ℕ) → b ≡ a → a ≤ b
    same a b e = omega arith

-- ---- all tickets of a rank

abbrev HoldsOwn : State → ℕ → Holding → Type 0
HoldsOwn s rank h = (q : ℕ) (t : Ticket) → h.of q ≡ Some t → Owns s rank t

holds_later : (s u : State) (rank : ℕ) (h : Holding) → Later s u → HoldsOwn s rank h → HoldsOwn u rank h
holds_later s u rank h later own q t e = owns_later s u rank t later (own q t e)

kept_is : (s : State) (t v : Ticket) → kept s t ≡ Some v → v ≡ t
kept_is s t v e = go (found s t) e
  where
    go : (o : Option Request) → option_map (λ (request : Request). t) o ≡ Some v → v ≡ t
    go None e = absurd (none-some v e)
    go (Some request) e = sym (same_Some t v e)

-- a ticket that names nothing any longer may have become null
holds_kept : (s u : State) (rank : ℕ) (h : Holding) (q : ℕ) (t : Ticket) → h.of q ≡ Some t → Later s u → HoldsOwn s rank h
    → HoldsOwn u rank (holding_at h q (kept u t))
holds_kept s u rank h q t held later own p v e = go (put_cases h.of q (kept u t) p)
  where
    go : ((p ≡ q) × (put h.of q (kept u t) p ≡ kept u t)) ⊎ ((p ≡ q → ⊥) × (put h.of q (kept u t) p ≡ h.of p)) → Owns u rank v
    go (inl a) = subst (λ (v : Ticket). Owns u rank v) (sym (kept_is u t v (sym a.1 ∙ e))) (owns_later s u rank t later (own q t held))
    go (inr a) = owns_later s u rank v later (own p v (sym a.1 ∙ e))

holds_more : (s u : State) (rank : ℕ) (h : Holding) (t : Ticket) → Owns u rank t → Later s u → HoldsOwn s rank h → HoldsOwn u rank (one_more h t)
holds_more s u rank h t new later own p v e = go (put_cases h.of h.made (Some t) p)
  where
    go : ((p ≡ h.made) × (put h.of h.made (Some t) p ≡ Some t)) ⊎ ((p ≡ h.made → ⊥) × (put h.of h.made (Some t) p ≡ h.of p)) → Owns u rank v
    go (inl a) = subst (λ (v : Ticket). Owns u rank v) (same_Some t v (sym a.1 ∙ e)) new
    go (inr a) = owns_later s u rank v later (own p v (sym a.1 ∙ e))

-- ---- a command

record Goes (m n : Machine) (rank : ℕ) (i : Holding) : Type 0 where
  later : Later m.state n.state
  own : HoldsOwn n.state rank i

completes_own : (g : Setting) (rank : ℕ) (qs : List ℕ) (m n : Machine) (h i : Holding) → Completes g rank qs m h n i → HoldsOwn m.state rank h → Goes m n rank i
completes_own g rank qs m _ h _ standings.none own = record { later = later_self m.state; own = own }
completes_own g rank qs m _ h _ (standings.another {n} {last} {i} q comm place start bytes t among held step rest) own =
    let first = later_step g m n (calls.Retire rank t) (calls.Outcome rank comm place start bytes) step in
    let after = completes_own g rank qs n last (holding_at h q (kept n.state t)) i rest (holds_kept m.state n.state rank h q t held first own) in
    record { later = later_later m.state n.state last.state first after.later; own = after.own }

post_new : (g : Setting) (rank comm : ℕ) (plan : Planned) (given : List ℕ) (t : Ticket) (m n : Machine)
    → MachineStep g m (calls.Post rank comm plan given) (calls.Ticketed t) n → Owns n.state rank t
post_new g rank comm plan given t _ _ (machines.post {s} {u} {done} _ _ place _ _ _ p) =
    let q = new_request rank comm p.member place Once in
    subst (λ (u : State). Owns u rank t) (sym p.leaves)
    (own_new (started (created s t q plan.sig) t.slot q given) rank t (once_more q) (put_same s.generation t.slot t.generation)
    (put_same (created s t q plan.sig).request t.slot (Some (once_more q))) refl)

init_new : (g : Setting) (rank comm : ℕ) (plan : Planned) (t : Ticket) (m n : Machine)
    → MachineStep g m (calls.Init rank comm plan) (calls.Ticketed t) n → Owns n.state rank t
init_new g rank comm plan t _ _ (machines.init {s} {u} {done} _ _ place _ _ p) =
    let q = new_request rank comm p.member place Persistent in
    subst (λ (u : State). Owns u rank t) (sym p.leaves)
    (own_new (created s t q plan.sig) rank t q (put_same s.generation t.slot t.generation) (put_same s.request t.slot (Some q)) refl)

carries_own : (g : Setting) (rank : ℕ) (m n : Machine) (h i : Holding) (c : Command) → Carries g rank m h c n i → HoldsOwn m.state rank h → Goes m n rank i
carries_own g rank m _ h _ _ (standings.post {n} comm sig given plan t is step) own =
    let later = later_step g m n (calls.Post rank comm plan given) (calls.Ticketed t) step in
    record { later = later; own = holds_more m.state n.state rank h t (post_new g rank comm plan given t m n step) later own }
carries_own g rank m _ h _ _ (standings.init {n} comm sig plan t is step) own =
    let later = later_step g m n (calls.Init rank comm plan) (calls.Ticketed t) step in
    record { later = later; own = holds_more m.state n.state rank h t (init_new g rank comm plan t m n step) later own }
carries_own g rank m _ h _ _ (standings.start {n} q given t held step) own =
    let later = later_step g m n (calls.Start rank t given) calls.Nothing step in
    record { later = later; own = holds_later m.state n.state rank h later own }
carries_own g rank m _ h _ _ (standings.free {n} q t held step) own =
    let later = later_step g m n (calls.Free rank t) calls.Nothing step in
    record { later = later; own = holds_kept m.state n.state rank h q t held later own }
carries_own g rank m _ h _ _ (standings.test {n} {i} q done over) own = completes_own g rank _ m n h i done own
carries_own g rank m _ h _ _ (standings.wait {n} {i} q ready done over) own = completes_own g rank _ m n h i done own
carries_own g rank m _ h _ _ (standings.wait_all {n} {i} qs ready done over) own = completes_own g rank qs m n h i done own
carries_own g rank m _ h _ _ (standings.wait_some {n} {i} qs ready done over) own = completes_own g rank qs m n h i done own
carries_own g rank m _ h _ _ (standings.wait_for_none qs none) own = record { later = later_self m.state; own = own }
carries_own g rank m _ h _ _ (standings.wait_any {n} qs q comm place start bytes t among held step) own =
    let later = later_step g m n (calls.Retire rank t) (calls.Outcome rank comm place start bytes) step in
    record { later = later; own = holds_kept m.state n.state rank h q t held later own }

-- ---- a run

own_after : (hears : Hearing) (g : Setting) (lines : ℕ → List Command) (s u : Standing) → StepsBy hears g lines s u
    → ((rank : ℕ) → HoldsOwn s.machine.state rank (s.holds rank)) → (rank : ℕ) → HoldsOwn u.machine.state rank (u.holds rank)
own_after hears g lines s _ (waiting.carries {n} {i} rank c get step) own r = go (put_cases s.holds rank i r)
  where
    goes : Goes s.machine n rank i
    goes = carries_own g rank s.machine n (s.holds rank) i c step (own rank)

    go : ((r ≡ rank) × (put s.holds rank i r ≡ i)) ⊎ ((r ≡ rank → ⊥) × (put s.holds rank i r ≡ s.holds r)) → HoldsOwn n.state r (put s.holds rank i r)
    go (inl a) = subst (λ (h : Holding). HoldsOwn n.state r h) (sym a.1) (subst (λ r. HoldsOwn n.state r i) (sym a.0) goes.own)
    go (inr a) = subst (λ (h : Holding). HoldsOwn n.state r h) (sym a.1) (holds_later s.machine.state n.state r (s.holds r) goes.later (own r))
own_after hears g lines s _ (waiting.finishes slot start q sig is pending has) own r = own r

reached_own : (hears : Hearing) (g : Setting) (lines : ℕ → List Command) (s : Standing) → ReachesBy hears g lines s → (rank : ℕ)
    → HoldsOwn s.machine.state rank (s.holds rank)
reached_own hears g lines _ waiting.begins = λ rank q t e. absurd (none-some t e)
reached_own hears g lines _ (waiting.goes_on {s} {u} before step) = own_after hears g lines s u step (reached_own hears g lines s before)

-- what a rank's ticket names is the rank's,
pub own_request : (hears : Hearing) (g : Setting) (lines : ℕ → List Command) (s : Standing) (rank q : ℕ) (t : Ticket) (request : Request)
    → ReachesBy hears g lines s
    → (s.holds rank).of q ≡ Some t → found s.machine.state t ≡ Some request → request.rank ≡ rank
own_request hears g lines s rank q t request run held is = let there =
    found_is s.machine.state t request is in (reached_own hears g lines s run rank q t held).mine request there.0 there.1

-- so its completion isn't refused
pub accepted : (hears : Hearing) (g : Setting) (lines : ℕ → List Command) (s : Standing) (rank q : ℕ) (t : Ticket) (request : Request)
    → ReachesBy hears g lines s
    → (s.holds rank).of q ≡ Some t → found s.machine.state t ≡ Some request → refusal g s.machine.state (calls.Retire rank t) ≡ None
accepted hears g lines s rank q t request run held is =
    let own : request.rank ≡ rank = own_request hears g lines s rank q t request run held is in
    ap (λ (o : Option Request). first_of (naming_refusals o rank)) is ∙ rw (eq-eqb request.rank rank own) refl
