-- A port that is registered in the call of its rank's next line is in that line.
use Rattle.std.proofs.Common.{◌≡◌, ℕ, zero, suc, ◌<◌, Bool, true, false, ◌||◌, List, [], ◌∷◌, Contains, get_or, length, map, Option, Some, None, refl}
use Rattle.std.proofs.Common.{sym, ap, subst, ◌∙◌, arith, eqb, eqb-true, eq-eqb}
use Rattle.std.proofs.lemmas.Bool.{false≢true}
use Rattle.std.specs.List.{cons_option, list_any}
use Rattle.coll_kinds.specs.declared.ticket.Ticket.{Ticket}
use Rattle.coll_kinds.specs.Common.{is_among}
use Rattle.coll_machine.specs.Common.{Machine, Request, found}
use Rattle.coll_parser.specs.declared.command.Command.TheVariants.{Wait, WaitAll, WaitAny, WaitSome}
use Rattle.coll_verdict.specs.Standings.{Holding, active_in, is_active}
use Rattle.coll_core.specs.Phases.{phase_by, phase_of}
use Rattle.coll_core.specs.declared.phase.Phase.{Phase}
use Rattle.coll_core.specs.declared.phase.Phase.TheVariants.{Done, Idle, Pending}
use Rattle.coll_complete.specs.Requests.{active_by, pending_by}
use Rattle.coll_complete.specs.Requests as asked
use Rattle.coll_traced.specs.Awaiting.{IsForOneOf, tickets_in}
use Rattle.coll_traced.specs.Waits.{WaitFor, ForOne}
use Rattle.coll_traced.specs.declared.awaited.Awaited.TheVariants.{One, All, Any}
use Rattle.coll_deadlock.specs.Lines.{AreListed, IsInLine, in_wait, in_wait_all, in_wait_any, in_wait_some}
use Rattle.coll_deadlock.specs.PortLaws.{RegistersInLine}

-- ---- what is active in the words of coll_complete is so in those of coll_verdict

active_phase : (m : Machine) (t : Ticket) (o : Option Request) → active_by (phase_of m t o) ≡ true → active_in o ≡ true
active_phase m t None e = absurd (false≢true e)
active_phase m t (Some request) e = go request.active (m.done t.slot) e
  where
    go : (a d : Bool) → active_by (Some (phase_by a d)) ≡ true → a ≡ true
    go true d e = refl
    go false d e = absurd (false≢true e)

active_at : (m : Machine) (o : Option Ticket) → asked.is_active m o ≡ true → is_active m o ≡ true
active_at m None e = absurd (false≢true e)
active_at m (Some t) e = active_phase m t (found m.state t) e

pending_active : (m : Machine) (o : Option Ticket) → asked.is_pending m o ≡ true → is_active m o ≡ true
pending_active m None e = absurd (false≢true e)
pending_active m (Some t) e = active_phase m t (found m.state t) (go (phase_of m t (found m.state t)) e)
  where
    go : (o : Option Phase) → pending_by o ≡ true → active_by o ≡ true
    go None e = absurd (false≢true e)
    go (Some Idle) e = absurd (false≢true e)
    go (Some Pending) e = refl
    go (Some Done) e = absurd (false≢true e)

-- ---- lists of requests

record Among (f : ℕ → Option Ticket) (qs : List ℕ) (o : Option Ticket) : Type 0 where
  q : ℕ
  among : is_among q qs ≡ true
  is : f q ≡ o

among_head : (q : ℕ) (qs : List ℕ) → is_among q (q ∷ qs) ≡ true
among_head q qs = rw (eq-eqb q q refl) refl

among_tail : (a b : Bool) → b ≡ true → (a || b) ≡ true
among_tail true b e = refl
among_tail false b e = e

later_among : (f : ℕ → Option Ticket) (p : ℕ) (qs : List ℕ) (o : Option Ticket) → Among f qs o → Among f (p ∷ qs) o
later_among f p qs o a = record { q = a.q; among = among_tail (eqb p a.q) (is_among a.q qs) a.among; is = a.is }

among_at : (f : ℕ → Option Ticket) (qs : List ℕ) (o d : Option Ticket) (k : ℕ) → k < length (map f qs) → get_or (map f qs) k d ≡ o → Among f qs o
among_at f [] o d k low e = absurd (omega arith)
among_at f (q ∷ qs) o d zero low e = record { q = q; among = among_head q qs; is = e }
among_at f (q ∷ qs) o d (suc k) low e = later_among f q qs o (among_at f qs o d k (omega arith) e)

-- one of a list of which one passes
any_among : (f : ℕ → Option Ticket) (test : Option Ticket → Bool) (qs : List ℕ) → list_any test (map f qs) ≡ true
    → (q : ℕ) × (is_among q qs ≡ true) × (test (f q) ≡ true)
any_among f test [] e = absurd (false≢true e)
any_among f test (p ∷ qs) e = go (test (f p)) refl (any_among f test qs) e
  where
    go : (b : Bool) → test (f p) ≡ b → (list_any test (map f qs) ≡ true → (q : ℕ) × (is_among q qs ≡ true) × (test (f q) ≡ true))
        → (b || list_any test (map f qs)) ≡ true
        → (q : ℕ) × (is_among q (p ∷ qs) ≡ true) × (test (f q) ≡ true)
    go true is rest e = (p, among_head p qs, is)
    go false is rest e = let r = rest e in (r.0, among_tail (eqb p r.0) (is_among r.0 qs) r.1, r.2)

contains_later : {X : Type 0} (x y : X) (xs : List X) → Contains xs y → Contains (x ∷ xs) y
contains_later x y xs c = let low = c.1 in (suc c.0, omega arith, c.2)

contains_head : {X : Type 0} (x y : X) (xs : List X) → x ≡ y → Contains (x ∷ xs) y
contains_head x y xs e = (zero, omega arith, e)

contains_more : (o : Option Ticket) (ts : List Ticket) (t : Ticket) → Contains ts t → Contains (cons_option o ts) t
contains_more None ts t c = c
contains_more (Some u) ts t c = contains_later u t ts c

listed : (f : ℕ → Option Ticket) (qs : List ℕ) (q : ℕ) (t : Ticket) → is_among q qs ≡ true → f q ≡ Some t → Contains (tickets_in (map f qs)) t
listed f [] q t among is = absurd (false≢true among)
listed f (p ∷ qs) q t among is = go (eqb p q) refl (λ rest. listed f qs q t rest is) among
  where
    go : (b : Bool) → eqb p q ≡ b → (is_among q qs ≡ true → Contains (tickets_in (map f qs)) t) → (b || is_among q qs) ≡ true
        → Contains (tickets_in (map f (p ∷ qs))) t
    go true e rest here =
        let first : f p ≡ Some t = ap f (eqb-true p q e) ∙ is in
        subst (λ (o : Option Ticket). Contains (cons_option o (tickets_in (map f qs))) t) (sym first) (contains_head t t (tickets_in (map f qs)) refl)
    go false e rest here = contains_more (f p) (tickets_in (map f qs)) t (rest here)

-- ---- a call that waits

module _ (m : Machine) (rank : ℕ) (h : Holding) where
  one : (q : ℕ) (r : Option Ticket) (wait : WaitFor) → r ≡ h.of q → asked.is_pending m r ≡ true
      → (t : Ticket) × (r ≡ Some t) × (wait ≡ ForOne rank t) → IsInLine m rank h (Wait q) wait
  one q r wait same unmet w =
      subst (λ (wait : WaitFor). IsInLine m rank h (Wait q) wait) (sym w.2)
      (in_wait q w.0 (sym same ∙ w.1) (pending_active m (Some w.0) (ap (asked.is_pending m) (sym w.1) ∙ unmet)))

  all : (qs : List ℕ) (list : List (Option Ticket)) (wait : WaitFor) → list ≡ map h.of qs → IsForOneOf m rank list wait → IsInLine m rank h (WaitAll qs) wait
  all qs list wait same w =
      let there : Contains (map h.of qs) (Some w.ticket) = subst (λ (list : List (Option Ticket)). Contains list (Some w.ticket)) same w.listed in
      let a = among_at h.of qs (Some w.ticket) (Some w.ticket) there.0 there.1 there.2 in
      subst (λ (wait : WaitFor). IsInLine m rank h (WaitAll qs) wait) (sym w.is_for)
      (in_wait_all qs a.q w.ticket a.among a.is (pending_active m (Some w.ticket) (ap pending_by w.pending)))

  some_listed : (qs : List ℕ) (list : List (Option Ticket)) → list ≡ map h.of qs → AreListed h qs (tickets_in list)
  some_listed qs list same q t among is = subst (λ (list : List (Option Ticket)). Contains (tickets_in list) t) (sym same) (listed h.of qs q t among is)

  some_active : (qs : List ℕ) (list : List (Option Ticket)) → list ≡ map h.of qs → list_any (asked.is_active m) list ≡ true
      → (q : ℕ) × (is_among q qs ≡ true) × (asked.is_active m (h.of q) ≡ true)
  some_active qs list same active = any_among h.of (asked.is_active m) qs (ap (list_any (asked.is_active m)) (sym same) ∙ active)

pub registers_in_line : RegistersInLine
registers_in_line m rank h (Wait q) (One request) wait same unmet w = one m rank h q request.now wait same unmet w
registers_in_line m rank h (WaitAll qs) (All requests) wait same unmet w = all m rank h qs requests.now wait same w
registers_in_line m rank h (WaitSome qs) (Any requests) wait same unmet w =
    let a = some_active m rank h qs requests.now same unmet in
    subst (λ (wait : WaitFor). IsInLine m rank h (WaitSome qs) wait) (sym w)
    (in_wait_some qs a.0 (tickets_in requests.now) a.1 (active_at m (h.of a.0) a.2) (some_listed m rank h qs requests.now same))
registers_in_line m rank h (WaitAny qs) (Any requests) wait same unmet w =
    let a = some_active m rank h qs requests.now same unmet in
    subst (λ (wait : WaitFor). IsInLine m rank h (WaitAny qs) wait) (sym w)
    (in_wait_any qs a.0 (tickets_in requests.now) a.1 (active_at m (h.of a.0) a.2) (some_listed m rank h qs requests.now same))
registers_in_line m rank h c wanted wait same unmet w = absurd same
