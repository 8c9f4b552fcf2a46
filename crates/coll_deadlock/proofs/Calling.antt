-- Each call of the core carries a line of a job out.
use Rattle.std.proofs.Common.{◌≡◌, ℕ, Bool, true, false, ◌&&◌, ◌||◌, not, eqb, eqb-true, eq-eqb, List, [], ◌∷◌, Option, Some, None, inl, refl, sym}
use Rattle.std.proofs.Common.{ap, subst, ◌∙◌}
use Rattle.std.proofs.lemmas.Bool.{false≢true}
use Rattle.std.specs.Prelude.{option_map}
use Rattle.coll_kinds.specs.declared.ticket.Ticket.{Ticket}
use Rattle.coll_kinds.specs.Common.{is_among}
use Rattle.coll_kinds.proofs.Puts.{put_same}
use Rattle.coll_machine.specs.Common.{Setting, Machine, MachineStep, Request, found}
use Rattle.coll_machine.specs.Calls as calls
use Rattle.coll_machine.specs.Machines as machines
use Rattle.coll_parser.specs.declared.command.Command.TheVariants.{Post, Init, Start, Wait, Test, Free, WaitAny}
use Rattle.coll_verdict.specs.Standings.{Holding, Standing, Completes, Carries, holding_at, is_active, is_done, is_pending, kept, one_more}
use Rattle.coll_verdict.specs.Standings as standings
use Rattle.coll_core.specs.Cores.{Parts, seen, setting}
use Rattle.coll_core.specs.Posts.{planned}
use Rattle.coll_deadlock.specs.CoreLaws.{GoesOnByCalls}
use Rattle.coll_deadlock.specs.CoreCalls.{CallsCarryOut}

-- of a list of one
among_one : (P : ℕ → Type 0) (q : ℕ) → P q → (p : ℕ) → is_among p (q ∷ []) ≡ true → P p
among_one P q holds p among = go (eqb q p) refl among
  where
    go : (b : Bool) → eqb q p ≡ b → (b || false) ≡ true → P p
    go true is e = subst P (eqb-true q p is) holds
    go false is e = absurd (false≢true e)

first_false : (a b : Bool) → a ≡ false → (a && b) ≡ false
first_false true b e = absurd (false≢true (sym e))
first_false false b e = refl

second_false : (a b : Bool) → b ≡ false → (a && b) ≡ false
second_false true b e = e
second_false false b e = refl

-- ---- a completion

record IsOver (m n : Machine) (t : Ticket) : Type 0 where
  before : m.done t.slot ≡ true
  after : n.done t.slot ≡ false

retire_over : (g : Setting) (rank who comm place begin : ℕ) (bytes : List ℕ) (t : Ticket) (m n : Machine)
    → MachineStep g m (calls.Retire rank t) (calls.Outcome who comm place begin bytes) n → IsOver m n t
retire_over g rank who comm place begin bytes t _ _ (machines.retire {s} {u} {done} _ _ _ _ _ _ r d) = record { before = d; after = put_same done t.slot false }

none_kept : (n : Machine) (t : Ticket) → n.done t.slot ≡ false → is_done n (kept n.state t) ≡ false
none_kept n t over = go (found n.state t)
  where
    go : (o : Option Request) → is_done n (option_map (λ (request : Request). t) o) ≡ false
    go None = refl
    go (Some request) = second_false (is_active n (Some t)) (n.done t.slot) over

module _ (g : Setting) (rank : ℕ) (m n : Machine) (h : Holding) (q comm place start : ℕ) (bytes : List ℕ) (t : Ticket) (held : h.of q ≡ Some t)
    (step : MachineStep g m (calls.Retire rank t) (calls.Outcome rank comm place start bytes) n) where
  abbrev i : Holding
  i = holding_at h q (kept n.state t)

  over : IsOver m n t
  over = retire_over g rank rank comm place start bytes t m n step

  not_pending : is_pending m (h.of q) ≡ false
  not_pending = ap (is_pending m) held ∙ second_false (is_active m (Some t)) (not (m.done t.slot)) (ap not over.before)

  not_done : is_done n (i.of q) ≡ false
  not_done = ap (is_done n) (put_same h.of q (kept n.state t)) ∙ none_kept n t over.after

  completes : Completes g rank (q ∷ []) m h n i
  completes = standings.another q comm place start bytes t (rw (eq-eqb q q refl) refl) held step standings.none

  waited : Carries g rank m h (Wait q) n i
  waited = standings.wait q (among_one (λ p. is_pending m (h.of p) ≡ false) q not_pending) completes (among_one (λ p. is_done n (i.of p) ≡ false) q not_done)

  tested : Carries g rank m h (Test q) n i
  tested = standings.test q completes (among_one (λ p. is_done n (i.of p) ≡ false) q not_done)

-- ---- nothing to complete

inactive_pending : (m : Machine) (o : Option Ticket) → is_active m o ≡ false → is_pending m o ≡ false
inactive_pending m None e = refl
inactive_pending m (Some t) e = first_false (is_active m (Some t)) (not (m.done t.slot)) e

inactive_done : (m : Machine) (o : Option Ticket) → is_active m o ≡ false → is_done m o ≡ false
inactive_done m None e = refl
inactive_done m (Some t) e = first_false (is_active m (Some t)) (m.done t.slot) e

needless_wait : (g : Setting) (rank : ℕ) (m : Machine) (h : Holding) (q : ℕ) → is_active m (h.of q) ≡ false → Carries g rank m h (Wait q) m h
needless_wait g rank m h q e =
    standings.wait q (among_one (λ p. is_pending m (h.of p) ≡ false) q (inactive_pending m (h.of q) e)) standings.none
    (among_one (λ p. is_done m (h.of p) ≡ false) q (inactive_done m (h.of q) e))

undone_test : (g : Setting) (rank : ℕ) (m : Machine) (h : Holding) (q : ℕ) → is_done m (h.of q) ≡ false → Carries g rank m h (Test q) m h
undone_test g rank m h q e = standings.test q standings.none (among_one (λ p. is_done m (h.of p) ≡ false) q e)

-- ---- the calls

pub calls_carry_out : (r : Parts) → GoesOnByCalls r → CallsCarryOut r
calls_carry_out r goes p lines s rank run set = record {
  post = λ comm offer t get step. goes p lines s rank (Post comm offer.plan.sig offer.bytes) step.0 (one_more (s.holds rank) t)
      run set get (standings.post comm offer.plan.sig offer.bytes (planned offer.plan) t refl step.1) step.2;
  init = λ comm plan t get step. goes p lines s rank (Init comm plan.sig) (seen r) (one_more (s.holds rank) t) run set get
      (standings.init comm plan.sig (planned plan) t refl step) (inl refl);
  start = λ q t given get held step. goes p lines s rank (Start q given) step.0 (s.holds rank) run set get (standings.start q given t held step.1) step.2;
  free = λ q t get held step. goes p lines s rank (Free q) (seen r) (holding_at (s.holds rank) q (kept (seen r).state t)) run set
      get (standings.free q t held step) (inl refl);
  wait = λ q comm place start bytes t get held step.
      goes p lines s rank (Wait q) (seen r) (holding_at (s.holds rank) q (kept (seen r).state t)) run set get
      (waited (setting p) rank (seen p) (seen r) (s.holds rank) q comm place start bytes t held step) (inl refl);
  test = λ q comm place start bytes t get held step.
      goes p lines s rank (Test q) (seen r) (holding_at (s.holds rank) q (kept (seen r).state t)) run set get
      (tested (setting p) rank (seen p) (seen r) (s.holds rank) q comm place start bytes t held step) (inl refl);
  wait_any = λ qs q comm place start bytes t get among held step.
      goes p lines s rank (WaitAny qs) (seen r) (holding_at (s.holds rank) q (kept (seen r).state t)) run set get
      (standings.wait_any qs q comm place start bytes t among held step) (inl refl);
  needless = λ q get idle same. goes p lines s rank (Wait q) (seen p) (s.holds rank) run set get
      (needless_wait (setting p) rank (seen p) (s.holds rank) q idle) (inl (sym same));
  undone = λ q get not_yet same. goes p lines s rank (Test q) (seen p) (s.holds rank) run set get
      (undone_test (setting p) rank (seen p) (s.holds rank) q not_yet) (inl (sym same));
}
