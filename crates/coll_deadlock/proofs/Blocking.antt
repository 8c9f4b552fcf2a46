-- Where nothing can go on, each rank whose port is in its next line waits there.
use Rattle.std.proofs.Common.{◌≡◌, ℕ, zero, suc, Bool, true, false, ◌&&◌, not, List, [], ◌∷◌, All, Option, Some, None, refl, ap, subst, ◌∙◌}
use Rattle.std.proofs.lemmas.Bool.{false≢true}
use Rattle.std.proofs.lemmas.Option.{none-some, same_Some}
use Rattle.std.proofs.lemmas.List.Elements.{All-contains, All-head, All-tail}
use Rattle.std.specs.Prelude.{slice_get}
use Rattle.coll_kinds.specs.declared.signature.Signature.{Signature}
use Rattle.coll_kinds.specs.declared.ticket.Ticket.{Ticket}
use Rattle.coll_machine.specs.Common.{AreGroups, Machine, Request, Setting, found, refusal}
use Rattle.coll_machine.specs.Calls.{Retire}
use Rattle.coll_plans.specs.Hearings.{hears_here}
use Rattle.coll_refinement.specs.FreeLocks.{FreeLock}
use Rattle.coll_parser.specs.declared.command.Command.{Command}
use Rattle.coll_parser.specs.declared.command.Command.TheVariants.{Init}
use Rattle.coll_verdict.specs.Standings.{NoneDone, Standing, active_in, is_active, is_done, is_pending}
use Rattle.coll_verdict.specs.Stalls.{Waits, lines_of}
use Rattle.coll_verdict.specs.Stalls as stalls
use Rattle.coll_core.specs.declared.phase.Phase.TheVariants.{Done}
use Rattle.coll_core.specs.BetweenCalls.{BetweenCalls}
use Rattle.coll_core.specs.Cores.{Parts, setting, tables}
use Rattle.coll_core.specs.Phases.{AreDoneOnceHeard, phase_by, phase_in, phase_of}
use Rattle.coll_deadlock.specs.Runs.{AllWait, IsRunOf}
use Rattle.coll_deadlock.proofs.Calling.{calls_carry_out}
use Rattle.coll_deadlock.proofs.Hearing.{none_early, quiet_is_settled}
use Rattle.coll_deadlock.proofs.Running.{goes_on_by_calls, goes_on_by_commit, goes_on_by_step, goes_on_where_nothing_changes}
use Rattle.coll_deadlock.proofs.Stalling.{never_here_ends, quiet_stalls}
use Rattle.coll_traced.specs.Stalls.{IsBlocked, IsDone}
use Rattle.coll_traced.specs.Traced.{Traced}
use Rattle.coll_traced.specs.Waits.{WaitFor}
use Rattle.coll_deadlock.specs.Lines.{AreAtLines, AreListed, IsInLine, awake, in_wait, in_wait_all, in_wait_any, in_wait_some}
use Rattle.coll_deadlock.specs.PortLaws.{GoesOn, NeverHereIsNoStall, StallIsStall}
use Rattle.coll_deadlock.proofs.Owning.{accepted}

-- ---- one request

record IsActive (m : Machine) (t : Ticket) : Type 0 where
  request : Request
  is : found m.state t ≡ Some request
  active : request.active ≡ true

active_found : (m : Machine) (t : Ticket) → is_active m (Some t) ≡ true → IsActive m t
active_found m t e = go (found m.state t) refl e
  where
    go : (o : Option Request) → found m.state t ≡ o → active_in o ≡ true → IsActive m t
    go None is e = absurd (false≢true e)
    go (Some request) is e = record { request = request; is = is; active = e }

-- a request that is active and Done can be completed
done_here : (g : Setting) (m : Machine) (rank : ℕ) (t : Ticket) → IsActive m t → m.done t.slot ≡ true → phase_in m t ≡ Some Done
done_here g m rank t a done = ap (phase_of m t) a.is ∙ (λ z. Some (phase_by (a.active z) (done z)))

not_both : (a b : Bool) → (a ≡ true → b ≡ true → ⊥) → (a && b) ≡ false
not_both true true none = absurd (none refl refl)
not_both true false none = refl
not_both false b none = refl

not_so : (b : Bool) → (b ≡ true → ⊥) → b ≡ false
not_so true none = absurd (none refl)
not_so false none = refl

All-slice_get : {X : Type 0} (P : X → Type 0) (xs : List X) (i : ℕ) (x : X) → All P xs → slice_get xs i ≡ Some x → P x
All-slice_get P [] i x all is = absurd (none-some x is)
All-slice_get P (y ∷ xs) zero x all is = subst P (same_Some y x is) (All-head P y xs all)
All-slice_get P (y ∷ xs) (suc i) x all is = All-slice_get P xs i x (All-tail P y xs all) is

-- ---- all ranks

module _ (p : Parts) (lines : ℕ → List Command) (s : Standing) (run : IsRunOf p lines s) where
  -- what the engine says that can be completed
  completable : (rank q : ℕ) (t : Ticket) → (s.holds rank).of q ≡ Some t → is_active s.machine (Some t) ≡ true → s.machine.done t.slot ≡ true → IsDone p rank t
  completable rank q t held active done =
      let a = active_found s.machine t active in
      let may : refusal (setting p) s.machine.state (Retire rank t) ≡ None = accepted hears_here (setting p) lines s rank q t a.request run.reached held a.is in
      subst (λ (m : Machine). (refusal (setting p) m.state (Retire rank t) ≡ None) × (phase_in m t ≡ Some Done)) run.machine_is
      (may, done_here (setting p) s.machine rank t a done)

  pending : (rank q : ℕ) (t : Ticket) → (s.holds rank).of q ≡ Some t → is_active s.machine (Some t) ≡ true
      → (IsDone p rank t → ⊥) → is_pending s.machine ((s.holds rank).of q) ≡ true
  pending rank q t held active blocked =
      let undone : s.machine.done t.slot ≡ false = not_so (s.machine.done t.slot) (λ done. blocked (completable rank q t held active done)) in
      ap (is_pending s.machine) held ∙ (λ z. active z && not (undone z))

  none_done : (rank : ℕ) (qs : List ℕ) (tickets : List Ticket) → AreListed (s.holds rank) qs tickets
      → All (λ t. IsDone p rank t → ⊥) tickets → NoneDone s.machine (s.holds rank) qs
  none_done rank qs tickets listed blocked q among = go ((s.holds rank).of q) refl
    where
      go : (o : Option Ticket) → (s.holds rank).of q ≡ o → is_done s.machine ((s.holds rank).of q) ≡ false
      go None e = ap (is_done s.machine) e
      go (Some t) e = ap (is_done s.machine) e ∙ not_both (is_active s.machine (Some t)) (s.machine.done t.slot)
          (λ active done. All-contains (λ t. IsDone p rank t → ⊥) tickets t blocked (listed q t among e) (completable rank q t e active done))

  waits : (rank : ℕ) (c : Command) (wait : WaitFor) → IsInLine s.machine rank (s.holds rank) c wait → IsBlocked p wait → Waits (setting p) lines s rank c
  waits rank _ _ (awake c) blocked = absurd blocked
  waits rank _ _ (in_wait q t held active) blocked = stalls.wait q (pending rank q t held active blocked)
  waits rank _ _ (in_wait_all qs q t among held active) blocked = stalls.wait_all qs q among (pending rank q t held active blocked)
  waits rank _ _ (in_wait_some qs q tickets among active listed) blocked = stalls.wait_some qs q among active (none_done rank qs tickets listed blocked)
  waits rank _ _ (in_wait_any qs q tickets among active listed) blocked = stalls.wait_any qs q among active (none_done rank qs tickets listed blocked)

  no_init : (rank : ℕ) (c : Command) (wait : WaitFor) → IsInLine s.machine rank (s.holds rank) c wait → IsBlocked p wait
      → (comm : ℕ) (sig : Signature) → c ≡ Init comm sig → ⊥
  no_init rank _ _ (awake c) blocked comm sig e = absurd blocked
  no_init rank _ _ (in_wait q t held active) blocked comm sig e = absurd cc
  no_init rank _ _ (in_wait_all qs q t among held active) blocked comm sig e = absurd cc
  no_init rank _ _ (in_wait_some qs q tickets among active listed) blocked comm sig e = absurd cc
  no_init rank _ _ (in_wait_any qs q tickets among active listed) blocked comm sig e = absurd cc

  all_wait : (list : List WaitFor) → AreAtLines list lines s → All (IsBlocked p) list → AllWait (setting p) lines s
  all_wait list at blocked = record {
    waits = λ rank c get. (let w = at rank c get in waits rank c w.wait w.in_line (All-slice_get (IsBlocked p) list rank w.wait blocked w.is));
    returns = λ rank comm sig get.
        (let w =
        at rank (Init comm sig) get in no_init rank (Init comm sig) w.wait w.in_line (All-slice_get (IsBlocked p) list rank w.wait blocked w.is) comm sig refl);
  }

module _ (t : Traced) (free : FreeLock (tables t.core)) (heard : AreDoneOnceHeard t.core) (groups : AreGroups (setting t.core)) where
  pub stall_is_stall : StallIsStall t
  stall_is_stall lines s run at st early =
      quiet_stalls t.core (quiet_is_settled t.core free heard) lines s groups run st.quiet (all_wait t.core lines s run t.waits at st.blocked) early

  pub never_here_is_no_stall : NeverHereIsNoStall t
  never_here_is_no_stall h s never same run at st =
      never_here_ends t.core (quiet_is_settled t.core free heard) h s never same groups run st.quiet (all_wait t.core (lines_of h) s run t.waits at st.blocked)

pub goes_on : (p : Parts) → BetweenCalls p → FreeLock (tables p) → AreDoneOnceHeard p → GoesOn p
goes_on p between free heard = record {
  by_calls = goes_on_by_calls p (none_early p between free heard);
  by_each = calls_carry_out p (goes_on_by_calls p (none_early p between free heard));
  by_step = goes_on_by_step p (none_early p between free heard);
  by_commit = goes_on_by_commit p (none_early p between free heard);
  where_nothing_changes = goes_on_where_nothing_changes p (none_early p between free heard);
}
