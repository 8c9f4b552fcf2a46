-- A call that completes requests amounts to a wait for those that it completes.
use Rattle.std.proofs.Common.{◌≡◌, ℕ, ◌⊎◌, inl, inr, Bool, true, false, not, cond, eqb, ◌&&◌, ◌||◌, List, [], ◌∷◌, filter, Option, Some, None, refl, sym, ap}
use Rattle.std.proofs.Common.{◌∙◌, eq-eqb, eqb-true}
use Rattle.std.proofs.lemmas.Bool.{and_parts, false≢true}
use Rattle.std.proofs.lemmas.Option.{none-some, same_Some}
use Rattle.std.specs.Prelude.{option_map}
use Rattle.coll_kinds.specs.declared.ticket.Ticket.{Ticket}
use Rattle.coll_kinds.specs.Common.{is_among}
use Rattle.coll_kinds.proofs.Puts.{put_same}
use Rattle.coll_machine.specs.Common.{Setting, Machine, MachineStep, Request, State, found}
use Rattle.coll_machine.specs.Calls as calls
use Rattle.coll_parser.specs.declared.command.Command.{Command}
use Rattle.coll_parser.specs.declared.command.Command.TheVariants.{Test, WaitAny, WaitSome, WaitAll}
use Rattle.coll_verdict.specs.Standings.{Holding, holding_at, kept, active_in, is_active, is_done, is_pending, NoneActive, NonePending, NoneDone, SomeDone}
use Rattle.coll_verdict.specs.Standings.{Completes, Carries}
use Rattle.coll_verdict.specs.Standings as standings
use Rattle.coll_verdict.specs.Sketches.{Sketch}
use Rattle.coll_verdict.specs.Passes.{IsSure}
use Rattle.coll_verdict.proofs.Tracking.{retire_is, retire_done, was_active_step}
use Rattle.coll_cases.specs.Outcomes.{is_open, MayBeActive, NoneSure, IsOutcome}
use Rattle.coll_cases.specs.Outcomes as outcomes

-- ---- lists

among_one : (p q : ℕ) → is_among q (p ∷ []) ≡ true → p ≡ q
among_one p q e = go (eqb p q) refl e
  where
    go : (b : Bool) → eqb p q ≡ b → (b || false) ≡ true → p ≡ q
    go true is e = eqb-true p q is
    go false is e = absurd (false≢true e)

none_among : (q : ℕ) → is_among q [] ≡ true → ⊥
none_among q e = false≢true e

or_right : (a b : Bool) → b ≡ true → (a || b) ≡ true
or_right true b e = refl
or_right false b e = e

-- what is among those that pass a test is among all of them, and passes it,
pub among_filter : (f : ℕ → Bool) (qs : List ℕ) (q : ℕ) → is_among q (filter f qs) ≡ true → (is_among q qs ≡ true) × (f q ≡ true)
among_filter f [] q e = absurd (false≢true e)
among_filter f (p ∷ qs) q e = go (among_filter f qs q) (f p) refl (eqb p q) refl e
  where
    go : (is_among q (filter f qs) ≡ true → (is_among q qs ≡ true) × (f q ≡ true)) → (b : Bool) → f p ≡ b → (c : Bool) → eqb p q ≡ c
        → is_among q (cond b (p ∷ filter f qs) (filter f qs)) ≡ true → ((c || is_among q qs) ≡ true) × (f q ≡ true)
    go rest true is true same e = (refl, ap f (sym (eqb-true p q same)) ∙ is)
    go rest true is false same e = rest (ap (λ (c : Bool). c || is_among q (filter f qs)) (sym same) ∙ e)
    go rest false is c same e = let r = rest e in (or_right c (is_among q qs) r.0, r.1)

-- and the other way round
pub filter_among : (f : ℕ → Bool) (qs : List ℕ) (q : ℕ) → is_among q qs ≡ true → f q ≡ true → is_among q (filter f qs) ≡ true
filter_among f [] q e passes = absurd (false≢true e)
filter_among f (p ∷ qs) q e passes = go (λ e. filter_among f qs q e passes) (f p) refl (eqb p q) refl e
  where
    go : (is_among q qs ≡ true → is_among q (filter f qs) ≡ true) → (b : Bool) → f p ≡ b → (c : Bool) → eqb p q ≡ c → (c || is_among q qs) ≡ true
        → is_among q (cond b (p ∷ filter f qs) (filter f qs)) ≡ true
    go rest true is true same e = ap (λ (c : Bool). c || is_among q (filter f qs)) same
    go rest true is false same e = or_right (eqb p q) (is_among q (filter f qs)) (rest e)
    go rest false is true same e = absurd (false≢true (sym is ∙ (ap f (eqb-true p q same) ∙ passes)))
    go rest false is false same e = rest e

-- ---- one completion

both_true : (a b : Bool) → a ≡ true → b ≡ true → (a && b) ≡ true
both_true true b e f = f
both_true false b e f = absurd (false≢true e)

and_false : (a b : Bool) → b ≡ false → (a && b) ≡ false
and_false true b e = e
and_false false b e = refl

-- what a rank holds of a request that was completed was Done
was_done : (g : Setting) (rank who comm place begin : ℕ) (bytes : List ℕ) (t : Ticket) (m n : Machine)
    → MachineStep g m (calls.Retire rank t) (calls.Outcome who comm place begin bytes) n → is_done m (Some t) ≡ true
was_done g rank who comm place begin bytes t m n step =
    let r = retire_is g rank who comm place begin bytes t m n step in
    both_true (is_active m (Some t)) (m.done t.slot) (ap active_in r.0.is ∙ r.0.ready.active) r.1

done_active : (m : Machine) (o : Option Ticket) → is_done m o ≡ true → is_active m o ≡ true
done_active m None e = absurd (false≢true e)
done_active m (Some t) e = (and_parts (is_active m (Some t)) (m.done t.slot) e).0

done_settled : (m : Machine) (o : Option Ticket) → is_done m o ≡ true → is_pending m o ≡ false
done_settled m None e = refl
done_settled m (Some t) e =
    and_false (is_active m (Some t)) (not (m.done t.slot)) (ap not (and_parts (is_active m (Some t)) (m.done t.slot) e).1)

-- a ticket that is kept is the same
kept_is : (s : State) (t v : Ticket) → kept s t ≡ Some v → v ≡ t
kept_is s t v e = go (found s t) e
  where
    go : (o : Option Request) → option_map (λ (request : Request). t) o ≡ Some v → v ≡ t
    go None e = absurd (none-some v e)
    go (Some request) e = sym (same_Some t v e)

-- and it isn't Done any longer
left_undone : (g : Setting) (rank who comm place begin : ℕ) (bytes : List ℕ) (t : Ticket) (m n : Machine)
    → MachineStep g m (calls.Retire rank t) (calls.Outcome who comm place begin bytes) n → is_done n (kept n.state t) ≡ false
left_undone g rank who comm place begin bytes t m n step = go (kept n.state t) refl
  where
    go : (o : Option Ticket) → kept n.state t ≡ o → is_done n o ≡ false
    go None is = refl
    go (Some u) is = and_false (is_active n (Some u)) (n.done u.slot)
        (ap (λ (v : Ticket). n.done v.slot) (kept_is n.state t u is)
        ∙ (ap (λ (f : ℕ → Bool). f t.slot) (retire_done g rank who comm place begin bytes t m n step) ∙ put_same m.done t.slot false))

-- what is Done after a completion was Done before
done_before : (g : Setting) (rank comm place begin : ℕ) (bytes : List ℕ) (m n : Machine) (x : Holding) (p q : ℕ) (t : Ticket)
    → MachineStep g m (calls.Retire rank t) (calls.Outcome rank comm place begin bytes) n
    → is_done n ((holding_at x p (kept n.state t)).of q) ≡ true → is_done m (x.of q) ≡ true
done_before g rank comm place begin bytes m n x p q t step done = go ((holding_at x p (kept n.state t)).of q) refl done
  where
    go : (o : Option Ticket) → (holding_at x p (kept n.state t)).of q ≡ o → is_done n o ≡ true → is_done m (x.of q) ≡ true
    go None is done = absurd (false≢true done)
    go (Some u) is done =
        let parts = and_parts (is_active n (Some u)) (n.done u.slot) done in
        let w = was_active_step g rank comm place begin bytes m n x p q t u step is parts.0 in
        ap (is_done m) w.held ∙ both_true (is_active m (Some u)) (m.done u.slot) w.active (sym w.done ∙ parts.1)

-- ---- a call

-- completions of requests that were Done are completions of these alone
completes_done : (g : Setting) (rank : ℕ) (qs out : List ℕ) (m n : Machine) (x y : Holding)
    → ((q : ℕ) → is_among q qs ≡ true → is_done m (x.of q) ≡ true → is_among q out ≡ true)
    → Completes g rank qs m x n y → Completes g rank out m x n y
completes_done g rank qs out _ _ _ _ sub standings.none = standings.none
completes_done g rank qs out _ _ _ _ sub (standings.another {m = m} {n = mid} {last = n} {h = x} {i = y} q comm place begin bytes t among held step more) =
    standings.another q comm place begin bytes t
    (sub q among (ap (is_done m) held ∙ was_done g rank rank comm place begin bytes t m mid step)) held step
    (completes_done g rank qs out mid n (holding_at x q (kept mid.state t)) y
    (λ p in_qs done. sub p in_qs (done_before g rank comm place begin bytes m mid x q p t step done)) more)

-- which of a rank's requests are Done
abbrev done_in : Machine → Holding → ℕ → Bool
done_in m x q = is_done m (x.of q)

-- what is known of the rank's requests before the call
pub record Knows (m : Machine) (h : Holding) (k : Sketch) : Type 0 where
  pub up : (q : ℕ) → is_active m (h.of q) ≡ true → MayBeActive k q
  pub sure : (q : ℕ) → IsSure k q → is_active m (h.of q) ≡ true

-- the call completes these, as a wait for them does
pub record Amounts (g : Setting) (rank : ℕ) (k : Sketch) (m : Machine) (h : Holding) (c : Command) (n : Machine) (i : Holding) : Type 0 where
  pub out : List ℕ
  pub outcome : IsOutcome k c out
  pub carries : Carries g rank m h (WaitAll out) n i

module _ (g : Setting) (rank : ℕ) (k : Sketch) where
  nothing_amounts : (m : Machine) (h : Holding) (c : Command) → IsOutcome k c [] → Amounts g rank k m h c m h
  nothing_amounts m h c is = record {
    out = [];
    outcome = is;
    carries = standings.wait_all [] (λ q e. absurd (none_among q e)) standings.none (λ q e. absurd (none_among q e));
  }

  test_amounts : (q : ℕ) (m n : Machine) (x y : Holding) → Knows m x k → Completes g rank (q ∷ []) m x n y → NoneDone n y (q ∷ [])
      → Amounts g rank k m x (Test q) n y
  test_amounts q _ _ _ _ knows (standings.none {m = m} {h = x}) over = nothing_amounts m x (Test q) (outcomes.no q)
  test_amounts q _ _ _ _ knows (standings.another {m = m} {n = mid} {last = n} {h = x} {i = y} p comm place begin bytes t among held step more) over = record {
    out = q ∷ [];
    outcome = outcomes.yes q (knows.up q (done_active m (x.of q) done));
    carries = standings.wait_all (q ∷ []) (λ r e. ap (λ (r : ℕ). is_pending m (x.of r)) (sym (among_one q r e)) ∙ done_settled m (x.of q) done)
        (standings.another p comm place begin bytes t among held step more) over;
  }
    where
      done : is_done m (x.of q) ≡ true
      done = ap (λ (r : ℕ). is_done m (x.of r)) (among_one q p among) ∙ (ap (is_done m) held ∙ was_done g rank rank comm place begin bytes t m mid step)

  any_amounts : (qs : List ℕ) (q comm place begin : ℕ) (bytes : List ℕ) (t : Ticket) (m n : Machine) (x : Holding) → Knows m x k
      → is_among q qs ≡ true → x.of q ≡ Some t → MachineStep g m (calls.Retire rank t) (calls.Outcome rank comm place begin bytes) n
      → Amounts g rank k m x (WaitAny qs) n (holding_at x q (kept n.state t))
  any_amounts qs q comm place begin bytes t m n x knows among held step = record {
    out = q ∷ [];
    outcome = outcomes.one qs q among (knows.up q (done_active m (x.of q) done));
    carries = standings.wait_all (q ∷ []) (λ r e. ap (λ (r : ℕ). is_pending m (x.of r)) (sym (among_one q r e)) ∙ done_settled m (x.of q) done)
        (standings.another q comm place begin bytes t (ap (λ (b : Bool). b || false) (eq-eqb q q refl)) held step standings.none)
        (λ r e. ap (λ (r : ℕ). is_done n ((holding_at x q (kept n.state t)).of r)) (sym (among_one q r e))
        ∙ (ap (is_done n) (put_same x.of q (kept n.state t)) ∙ left_undone g rank rank comm place begin bytes t m n step));
  }
    where
      done : is_done m (x.of q) ≡ true
      done = ap (is_done m) held ∙ was_done g rank rank comm place begin bytes t m n step

  some_amounts : (qs : List ℕ) (m n : Machine) (x y : Holding) → Knows m x k → NoneActive m x qs ⊎ SomeDone m x qs → Completes g rank qs m x n y
      → NoneDone n y qs → Amounts g rank k m x (WaitSome qs) n y
  some_amounts qs m n x y knows ready completes over = record {
    out = filter (done_in m x) qs;
    outcome = outcomes.some qs (filter (done_in m x) qs) (done_in m x) refl
        (λ q e. knows.up q (done_active m (x.of q) (among_filter (done_in m x) qs q e).1)) (none ready);
    carries = standings.wait_all (filter (done_in m x) qs) (λ q e. done_settled m (x.of q) (among_filter (done_in m x) qs q e).1)
        (completes_done g rank qs (filter (done_in m x) qs) m n x y (λ q e is. filter_among (done_in m x) qs q e is) completes)
        (λ q e. over q (among_filter (done_in m x) qs q e).0);
  }
    where
      none : NoneActive m x qs ⊎ SomeDone m x qs → filter (done_in m x) qs ≡ [] → NoneSure k qs
      none (inl idle) empty q among sure = false≢true (sym (idle q among) ∙ knows.sure q sure)
      none (inr one) empty q among sure =
          absurd (false≢true (ap (is_among one.0) (sym empty) ∙ filter_among (done_in m x) qs one.0 one.1 one.2))

  -- each call of which it depends on time what it completes
  pub amounts : (m : Machine) (h : Holding) → Knows m h k → (c : Command) (n : Machine) (i : Holding) → is_open c ≡ true
      → Carries g rank m h c n i → Amounts g rank k m h c n i
  amounts m h knows _ _ _ choice (standings.post comm sig given plan t e step) = absurd (false≢true choice)
  amounts m h knows _ _ _ choice (standings.init comm sig plan t e step) = absurd (false≢true choice)
  amounts m h knows _ _ _ choice (standings.start q given t held step) = absurd (false≢true choice)
  amounts m h knows _ _ _ choice (standings.free q t held step) = absurd (false≢true choice)
  amounts m h knows _ _ _ choice (standings.test {n} {i} q completes over) = test_amounts q m n h i knows completes over
  amounts m h knows _ _ _ choice (standings.wait q ready completes over) = absurd (false≢true choice)
  amounts m h knows _ _ _ choice (standings.wait_all qs ready completes over) = absurd (false≢true choice)
  amounts m h knows _ _ _ choice (standings.wait_some {n} {i} qs ready completes over) = some_amounts qs m n h i knows ready completes over
  amounts m h knows _ _ _ choice (standings.wait_for_none qs idle) =
      nothing_amounts m h (WaitAny qs) (outcomes.nothing qs (λ q among sure. false≢true (sym (idle q among) ∙ knows.sure q sure)))
  amounts m h knows _ _ _ choice (standings.wait_any {n} qs q comm place begin bytes t among held step) =
      any_amounts qs q comm place begin bytes t m n h knows among held step
