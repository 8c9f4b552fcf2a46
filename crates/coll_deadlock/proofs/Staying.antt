-- A rank's active requests stay so, whatever other ranks do.
use Rattle.std.proofs.Common.{◌≡◌, ℕ, suc, ◌⊎◌, inl, inr, true, eqb, eq-eqb, List, Option, Some, None, refl, sym, ap, subst, ◌∙◌, arith}
use Rattle.std.proofs.lemmas.Bool.{cases_eq, cond-true, false≢true}
use Rattle.std.proofs.lemmas.Option.{none-some, same_Some}
use Rattle.coll_kinds.specs.declared.kind.Mode.TheVariants.{Once, Persistent}
use Rattle.coll_kinds.specs.declared.signature.Signature.{Signature}
use Rattle.coll_kinds.specs.declared.ticket.Ticket.{Ticket}
use Rattle.coll_kinds.specs.Common.{put}
use Rattle.coll_kinds.proofs.Puts.{put_at, put_other}
use Rattle.coll_machine.specs.Common.{Setting, State, Machine, Request, found, new_request, once_more, rested, holding, created, key_of, Planned}
use Rattle.coll_machine.specs.Common.{MachineStep, Posts, Inits, Starts, Frees, Retires, Clears}
use Rattle.coll_machine.specs.Calls as calls
use Rattle.coll_machine.specs.Machines as machines
use Rattle.coll_machine.proofs.Accepted.{found_is, started_mine, retired_mine, freed_mine}
use Rattle.coll_parser.specs.declared.command.Command.{Command}
use Rattle.coll_verdict.specs.Standings.{Holding, Standing, Completes, Carries, active_in, holding_at, is_active, kept}
use Rattle.coll_verdict.specs.Standings as standings
use Rattle.coll_verdict.specs.Waiting.{Hearing, ReachesBy, StepsBy}
use Rattle.coll_verdict.specs.Waiting as waiting
use Rattle.coll_traced.specs.Waits.{WaitFor}
use Rattle.coll_deadlock.specs.Lines.{IsInLine, awake, in_wait, in_wait_all, in_wait_any, in_wait_some}
use Rattle.coll_deadlock.specs.PortLaws.{StaysInLine}
use Rattle.coll_deadlock.proofs.Owning.{own_request}

-- a slot whose request is of the rank keeps that, and wasn't given on
record Spares (rank : ℕ) (s u : State) : Type 0 where
  generation : (slot : ℕ) (q : Request) → s.request slot ≡ Some q → q.rank ≡ rank → u.generation slot ≡ s.generation slot
  request : (slot : ℕ) (q : Request) → s.request slot ≡ Some q → q.rank ≡ rank → u.request slot ≡ Some q

spares_self : (rank : ℕ) (s : State) → Spares rank s s
spares_self rank s = record { generation = λ slot q e own. refl; request = λ slot q e own. e }

spares_on : (rank : ℕ) (s u v : State) → Spares rank s u → Spares rank u v → Spares rank s v
spares_on rank s u v first second = record {
  generation = λ slot q e own. second.generation slot q (first.request slot q e own) own ∙ first.generation slot q e own;
  request = λ slot q e own. second.request slot q (first.request slot q e own) own;
}

-- a change of a slot that holds no request of the rank
spares_holding : (rank : ℕ) (s : State) (slot : ℕ) (o : Option Request)
    → ((q : Request) → s.request slot ≡ Some q → q.rank ≡ rank → ⊥) → Spares rank s (holding s slot o)
spares_holding rank s slot o other = record {
  generation = λ i q e own. refl;
  request = λ i q e own. put_other s.request slot o i (λ same. other q (ap s.request (sym same) ∙ e) own) ∙ e;
}

spares_created : (rank : ℕ) (s : State) (t : Ticket) (q : Request) (sig : Signature) → s.request t.slot ≡ None → Spares rank s (created s t q sig)
spares_created rank s t q sig spare = record {
  generation = λ i r e own. put_other s.generation t.slot t.generation i (λ same. none-some r (sym spare ∙ (ap s.request (sym same) ∙ e)));
  request = λ i r e own. put_other s.request t.slot (Some q) i (λ same. none-some r (sym spare ∙ (ap s.request (sym same) ∙ e))) ∙ e;
}

-- the request in the slot is of another rank
of_other : (s : State) (slot rank other : ℕ) (r : Request) → (rank ≡ other → ⊥) → s.request slot ≡ Some r → r.rank ≡ other
    → (q : Request) → s.request slot ≡ Some q → q.rank ≡ rank → ⊥
of_other s slot rank other r differ here is q e own = differ (sym own ∙ (ap (λ (q : Request). q.rank) (same_Some q r (sym e ∙ here)) ∙ is))

module _ (g : Setting) (rank other : ℕ) (differ : rank ≡ other → ⊥) where
  spares_post : (s u : State) (t : Ticket) (comm place : ℕ) (plan : Planned) (bytes : List ℕ) → Posts g s other t comm place plan bytes u → Spares rank s u
  spares_post s u t comm place plan bytes p =
      let q = new_request other comm p.member place Once in
      subst (λ (u : State). Spares rank s u) (sym p.leaves)
      (record {
        generation = (spares_created rank s t q plan.sig p.new.spare).generation;
        request = λ i r e own. put_other (put s.request t.slot (Some q)) t.slot (Some (once_more q)) i
            (λ same. none-some r (sym p.new.spare ∙ (ap s.request (sym same) ∙ e))) ∙ (spares_created rank s t q plan.sig p.new.spare).request i r e own;
      })

  spares_init : (s u : State) (t : Ticket) (comm place : ℕ) (plan : Planned) → Inits g s other t comm place plan u → Spares rank s u
  spares_init s u t comm place plan p =
      subst (λ (u : State). Spares rank s u) (sym p.leaves) (spares_created rank s t (new_request other comm p.member place Persistent) plan.sig p.new.spare)

  spares_start : (s u : State) (t : Ticket) (begin : ℕ) (bytes : List ℕ) → Starts g s other t begin bytes u → Spares rank s u
  spares_start s u t begin bytes p =
      let one = spares_holding rank s t.slot (Some (once_more p.request))
      (of_other s t.slot rank other p.request differ (found_is s t p.request p.is).1 (started_mine g s other t bytes p.request p.is p.accepted).rank_is) in
      subst (λ (u : State). Spares rank s u) (sym p.leaves) (record { generation = one.generation; request = one.request })

  spares_free : (s u : State) (t : Ticket) → Frees g s other t u → Spares rank s u
  spares_free s u t p =
      let f = freed_mine g s other t p.accepted in
      subst (λ (u : State). Spares rank s u) (sym p.leaves)
      (spares_holding rank s t.slot None (of_other s t.slot rank other f.request differ f.is f.idle_of.rank_is))

  spares_retire : (s u : State) (t : Ticket) (comm place begin : ℕ) (bytes : List ℕ) → Retires g s other t comm place begin bytes u → Spares rank s u
  spares_retire s u t comm place begin bytes r = go r.leaves
    where
      one : Spares rank s (holding s t.slot (rested r.request))
      one = spares_holding rank s t.slot (rested r.request)
          (of_other s t.slot rank other r.request differ (found_is s t r.request r.is).1 (retired_mine g s other t r.request r.is r.accepted))

      go : Clears g (holding s t.slot (rested r.request)) (key_of r.request begin) u → Spares rank s u
      go (inl a) = subst (λ (u : State). Spares rank s u) (sym a.1) (record { generation = one.generation; request = one.request })
      go (inr a) = subst (λ (u : State). Spares rank s u) (sym a.1) one

  post_spares : (comm : ℕ) (plan : Planned) (given : List ℕ) (t : Ticket) (m n : Machine)
      → MachineStep g m (calls.Post other comm plan given) (calls.Ticketed t) n → Spares rank m.state n.state
  post_spares comm plan given t _ _ (machines.post {s} {u} {done} _ _ place _ _ _ p) = spares_post s u t comm place plan given p

  init_spares : (comm : ℕ) (plan : Planned) (t : Ticket) (m n : Machine)
      → MachineStep g m (calls.Init other comm plan) (calls.Ticketed t) n → Spares rank m.state n.state
  init_spares comm plan t _ _ (machines.init {s} {u} {done} _ _ place _ _ p) = spares_init s u t comm place plan p

  start_spares : (t : Ticket) (given : List ℕ) (m n : Machine) → MachineStep g m (calls.Start other t given) calls.Nothing n → Spares rank m.state n.state
  start_spares t given _ _ (machines.start {s} {u} {done} _ begin _ _ p) = spares_start s u t begin given p

  free_spares : (t : Ticket) (m n : Machine) → MachineStep g m (calls.Free other t) calls.Nothing n → Spares rank m.state n.state
  free_spares t _ _ (machines.free {s} {u} {done} _ _ p) = spares_free s u t p

  retire_spares : (t : Ticket) (who comm place begin : ℕ) (bytes : List ℕ) (m n : Machine)
      → MachineStep g m (calls.Retire other t) (calls.Outcome who comm place begin bytes) n → Spares rank m.state n.state
  retire_spares t who comm place begin bytes _ _ (machines.retire {s} {u} {done} _ _ _ _ _ _ r d) = spares_retire s u t comm place begin bytes r

  completes_spares : (qs : List ℕ) (m n : Machine) (h i : Holding) → Completes g other qs m h n i → Spares rank m.state n.state
  completes_spares qs m _ h _ standings.none = spares_self rank m.state
  completes_spares qs m _ h _ (standings.another {n} {last} {i} q comm place start bytes t among held step rest) =
      spares_on rank m.state n.state last.state (retire_spares t other comm place start bytes m n step)
      (completes_spares qs n last (holding_at h q (kept n.state t)) i rest)

  carries_spares : (m n : Machine) (h i : Holding) (c : Command) → Carries g other m h c n i → Spares rank m.state n.state
  carries_spares m _ h _ _ (standings.post {n} comm sig given plan t is step) = post_spares comm plan given t m n step
  carries_spares m _ h _ _ (standings.init {n} comm sig plan t is step) = init_spares comm plan t m n step
  carries_spares m _ h _ _ (standings.start {n} q given t held step) = start_spares t given m n step
  carries_spares m _ h _ _ (standings.free {n} q t held step) = free_spares t m n step
  carries_spares m _ h _ _ (standings.test {n} {i} q done over) = completes_spares _ m n h i done
  carries_spares m _ h _ _ (standings.wait {n} {i} q ready done over) = completes_spares _ m n h i done
  carries_spares m _ h _ _ (standings.wait_all {n} {i} qs ready done over) = completes_spares qs m n h i done
  carries_spares m _ h _ _ (standings.wait_some {n} {i} qs ready done over) = completes_spares qs m n h i done
  carries_spares m _ h _ _ (standings.wait_for_none qs none) = spares_self rank m.state
  carries_spares m _ h _ _ (standings.wait_any {n} qs q comm place start bytes t among held step) = retire_spares t other comm place start bytes m n step

-- ---- a request that a rank's port waits for

active_stays : (m n : Machine) (rank : ℕ) (t : Ticket) (request : Request) → Spares rank m.state n.state → found m.state t ≡ Some request → request.rank ≡ rank
    → is_active m (Some t) ≡ true → is_active n (Some t) ≡ true
active_stays m n rank t request spares is own active =
    let there = found_is m.state t request is in
    let now : n.state.generation t.slot ≡ t.generation = spares.generation t.slot request there.1 own ∙ there.0 in
    let same : found n.state t ≡ Some request =
    cond-true (eqb (n.state.generation t.slot) t.generation) (n.state.request t.slot) None (eq-eqb (n.state.generation t.slot) t.generation now)
    ∙ spares.request t.slot request there.1 own in
    ap active_in same ∙ (sym (ap active_in is) ∙ active)

-- what is active while a rank's port waits in its line stays active, and the rank holds the same
module _ (m n : Machine) (rank : ℕ) (h i : Holding) (same : h ≡ i)
    (stays : (q : ℕ) (t : Ticket) → h.of q ≡ Some t → is_active m (Some t) ≡ true → is_active n (Some t) ≡ true) where
  held_active : (q : ℕ) → is_active m (h.of q) ≡ true → is_active n (h.of q) ≡ true
  held_active q e = go (h.of q) refl e
    where
      go : (o : Option Ticket) → h.of q ≡ o → is_active m o ≡ true → is_active n (h.of q) ≡ true
      go None is e = absurd (false≢true e)
      go (Some t) is e = ap (is_active n) is ∙ stays q t is e

  moved_line : (c : Command) (wait : WaitFor) → IsInLine m rank h c wait → IsInLine n rank h c wait
  moved_line _ _ (awake c) = awake c
  moved_line _ _ (in_wait q t held active) = in_wait q t held (stays q t held active)
  moved_line _ _ (in_wait_all qs q t among held active) = in_wait_all qs q t among held (stays q t held active)
  moved_line _ _ (in_wait_some qs q tickets among active listed) = in_wait_some qs q tickets among (held_active q active) listed
  moved_line _ _ (in_wait_any qs q tickets among active listed) = in_wait_any qs q tickets among (held_active q active) listed

  line_there : (c : Command) (wait : WaitFor) → IsInLine m rank h c wait → IsInLine n rank i c wait
  line_there c wait line = subst (λ (i : Holding). IsInLine n rank i c wait) same (moved_line c wait line)

one_on : (a b c d : ℕ) → a ≡ suc b → a ≡ c → c ≡ d → d ≡ b → ⊥
one_on a b c d e f h k = absurd (omega arith)

record IsFound (m : Machine) (t : Ticket) : Type 0 where
  request : Request
  is : found m.state t ≡ Some request

found_active : (m : Machine) (t : Ticket) → is_active m (Some t) ≡ true → IsFound m t
found_active m t e = go (found m.state t) refl e
  where
    go : (o : Option Request) → found m.state t ≡ o → active_in o ≡ true → IsFound m t
    go None is e = absurd (false≢true e)
    go (Some request) is e = record { request = request; is = is }

pub stays_in_line : StaysInLine
stays_in_line hears g lines s _ rank c wait run (waiting.finishes slot start q sig is pending has) at line =
    line_there s.machine (record s.machine { done = put s.machine.done slot true }) rank (s.holds rank) (s.holds rank) refl
    (λ q t held active. active) c wait line
stays_in_line hears g lines s _ rank c wait run (waiting.carries {n} {i} other said get step) at line = go (cases_eq rank other)
  where
    go : (rank ≡ other) ⊎ (rank ≡ other → ⊥) → IsInLine n rank (put s.holds other i rank) c wait
    go (inl e) =
        absurd (one_on (put s.at other (suc (s.at other)) rank) (s.at other) (s.at rank) (s.at rank)
        (put_at s.at other (suc (s.at other)) rank e) at refl (ap s.at e))
    go (inr differ) =
        line_there s.machine n rank (s.holds rank) (put s.holds other i rank) (sym (put_other s.holds other i rank differ))
        (λ q t held active. (
        let a = found_active s.machine t active in
        active_stays s.machine n rank t a.request (carries_spares g rank other differ s.machine n (s.holds other) i said step)
        a.is (own_request hears g lines s rank q t a.request run held a.is) active))
        c wait line
