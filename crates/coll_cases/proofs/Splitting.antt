-- Each run of a job in which a rank has passed a call is one of a job in which it is fixed what the call completes.
use Rattle.std.proofs.Common.{◌≡◌, ℕ, zero, suc, ◌+◌, ◌<◌, ◌≤◌, ◌⊎◌, inl, inr, Bool, true, false, cond, List, length, Option, Some, None, refl, sym, ap}
use Rattle.std.proofs.Common.{subst, ◌∙◌, arith}
use Rattle.std.proofs.lemmas.Bool.{cases_eq, false≢true}
use Rattle.std.proofs.lemmas.Option.{same_Some}
use Rattle.std.specs.Prelude.{slice_get}
use Rattle.coll_kinds.specs.declared.ticket.Ticket.{Ticket}
use Rattle.coll_kinds.specs.Common.{put}
use Rattle.coll_kinds.proofs.Puts.{put_other, put_at}
use Rattle.coll_machine.specs.Common.{Setting, Machine, Request, phased}
use Rattle.coll_parser.specs.declared.command.Command.{Command}
use Rattle.coll_parser.specs.declared.command.Command.TheVariants.{Post, Init, Start, Wait, Test, Free, WaitAny, WaitSome, WaitAll}
use Rattle.coll_verdict.specs.Standings.{Holding, Standing, carried_out, active_in, is_active, Carries, Reaches, AtEnd}
use Rattle.coll_verdict.specs.Stalls.{makes_in, made_by, HasCome, Waits, IsStalled, NeverStalls}
use Rattle.coll_verdict.specs.Stalls as stalls
use Rattle.coll_verdict.specs.Sketches.{sketch_at}
use Rattle.coll_verdict.specs.Waiting.{Hearing, ReachesBy, IsStalledBy, NeverStallsBy}
use Rattle.coll_verdict.specs.Waiting as waiting
use Rattle.coll_verdict.specs.Passes.{Passes, everyone, only}
use Rattle.coll_kinds.specs.Needs.{needs}
use Rattle.coll_verdict.proofs.Agreeing.{IsLive}
use Rattle.coll_verdict.proofs.Tracking.{found_at}
use Rattle.coll_verdict.proofs.Blocking.{reaches_by_needs}
use Rattle.coll_verdict.proofs.Passing.{NoUp, IsRun, run_of, passed_by, reaches_is}
use Rattle.coll_cases.specs.Outcomes.{is_open, MayBeActive, IsOutcome}
use Rattle.coll_cases.proofs.Amounting.{Knows, Amounts, amounts}

-- lines of which one waits for these requests alone
pub record IsFixed (lines news : ℕ → List Command) (rank place : ℕ) (out : List ℕ) : Type 0 where
  pub there : slice_get (news rank) place ≡ Some (WaitAll out)
  pub others : (r n : ℕ) → ((r ≡ rank) × (n ≡ place) → ⊥) → slice_get (news r) n ≡ slice_get (lines r) n
  pub lengths : (r : ℕ) → length (news r) ≡ length (lines r)

-- no run of these lines stalls, or in none the rank passes its line of that number
abbrev pub RefutedBy : Hearing → Setting → (ℕ → List Command) → ℕ → ℕ → Type 0
RefutedBy hears g news rank place = NeverStallsBy hears g news ⊎ ((s : Standing) → ReachesBy hears g news s → s.at rank ≤ place)

abbrev pub Refuted : Setting → (ℕ → List Command) → ℕ → ℕ → Type 0
Refuted g news rank place = NeverStalls g news ⊎ ((s : Standing) → Reaches g news s → s.at rank ≤ place)

-- ---- what a run knows of a rank's requests

knows_of : (g : Setting) (lines : ℕ → List Command) (s : Standing) → IsRun g lines s → (rank : ℕ)
    → Knows s.machine (s.holds rank) (sketch_at (lines rank) (s.at rank))
knows_of g lines s w rank = record { up = λ q active. go q ((s.holds rank).of q) refl active; sure = λ q sure. w.sure rank q sure }
  where
    go : (q : ℕ) (o : Option Ticket) → (s.holds rank).of q ≡ o → is_active s.machine ((s.holds rank).of q) ≡ true
        → MayBeActive (sketch_at (lines rank) (s.at rank)) q
    go q None e active = absurd (false≢true (ap (is_active s.machine) (sym e) ∙ active))
    go q (Some t) e active =
        let l = (w.tracks.agrees rank).live q t e in
        let up : l.0.active ≡ true =
        sym (ap active_in (found_at s.machine.state t l.0 l.1.current l.1.is)) ∙ (ap (is_active s.machine) (sym e) ∙ active) in
        record { begun = subst (λ (n : ℕ). 0 < n) l.1.starts_is (l.1.begun up); unrested = rests ((sketch_at (lines rank) (s.at rank)).rested q) refl l up }
      where
        rests : (b : Bool) → (sketch_at (lines rank) (s.at rank)).rested q ≡ b
            → (l : (request : Request) × IsLive (NoUp rank) s.machine.state rank (sketch_at (lines rank) (s.at rank)) q t request)
            → l.0.active ≡ true → (sketch_at (lines rank) (s.at rank)).rested q ≡ false
        rests true is l up = absurd (false≢true (sym (l.1.rested is) ∙ up))
        rests false is l up = is

-- ---- runs

le_suc : (a b c : ℕ) → a ≤ b → (a ≡ b → ⊥) → c ≡ suc a → c ≤ b
le_suc a b c l d e = omega arith

lt_suc : (a b c : ℕ) → b < a → c ≡ suc a → b < c
lt_suc a b c l e = omega arith

le_same : (a b c : ℕ) → a ≤ b → c ≡ a → c ≤ b
le_same a b c l e = omega arith

lt_same : (a b c : ℕ) → b < a → c ≡ a → b < c
lt_same a b c l e = omega arith

just_suc : (a b c : ℕ) → a ≡ b → c ≡ suc a → b < c
just_suc a b c e f = omega arith

not_both : (a b : ℕ) → a ≤ b → b < a → ⊥
not_both a b l m = absurd (omega arith)

apart_of : (a b : ℕ) → b < a → a ≡ b → ⊥
apart_of a b l e = absurd (omega arith)

-- the rank has not passed the line, or what it completed there is fixed
data Passing (hears : Hearing) (g : Setting) (lines : ℕ → List Command) (rank place : ℕ) (c : Command) (s : Standing) : Type 0 where
  before : s.at rank ≤ place
      → ((news : ℕ → List Command) (out : List ℕ) → IsFixed lines news rank place out → ReachesBy hears g news s)
      → Passing hears g lines rank place c s
  after : place < s.at rank
      → (out : List ℕ)
      → IsOutcome (sketch_at (lines rank) place) c out
      → ((news : ℕ → List Command) → IsFixed lines news rank place out → ReachesBy hears g news s)
      → Passing hears g lines rank place c s

module _ (hears : Hearing) (g : Setting) (lines : ℕ → List Command) (rank place : ℕ) (c : Command)
    (get : slice_get (lines rank) place ≡ Some c) (choice : is_open c ≡ true) where
  abbrev Passed : Standing → Type 0
  Passed s = Passing hears g lines rank place c s

  -- another line is the same in both
  other_line : (s : Standing) (r : ℕ) (d : Command) (n : Machine) (i : Holding) → slice_get (lines r) (s.at r) ≡ Some d
      → Carries g r s.machine (s.holds r) d n i → ((r ≡ rank) × (s.at r ≡ place) → ⊥)
      → Passed s → ((carried_out s r n i).at rank ≡ s.at rank) ⊎ ((carried_out s r n i).at rank ≡ suc (s.at rank)) × (s.at rank ≡ place → ⊥)
      → Passed (carried_out s r n i)
  other_line s r d n i line step off (before low reach) moved = before (stays moved) (λ news out fixed. onward news out fixed (reach news out fixed))
    where
      stays : ((carried_out s r n i).at rank ≡ s.at rank) ⊎ ((carried_out s r n i).at rank ≡ suc (s.at rank)) × (s.at rank ≡ place → ⊥)
          → (carried_out s r n i).at rank ≤ place
      stays (inl e) = le_same (s.at rank) place ((carried_out s r n i).at rank) low e
      stays (inr a) = le_suc (s.at rank) place ((carried_out s r n i).at rank) low a.1 a.0

      onward : (news : ℕ → List Command) (out : List ℕ) → IsFixed lines news rank place out → ReachesBy hears g news s
          → ReachesBy hears g news (carried_out s r n i)
      onward news out fixed reach = waiting.goes_on reach (waiting.carries r d (fixed.others r (s.at r) off ∙ line) step)
  other_line s r d n i line step off (after low out outcome reach) moved =
      after (goes moved) out outcome
      (λ news fixed. waiting.goes_on (reach news fixed) (waiting.carries r d (fixed.others r (s.at r) off ∙ line) step))
    where
      goes : ((carried_out s r n i).at rank ≡ s.at rank) ⊎ ((carried_out s r n i).at rank ≡ suc (s.at rank)) × (s.at rank ≡ place → ⊥)
          → place < (carried_out s r n i).at rank
      goes (inl e) = lt_same (s.at rank) place ((carried_out s r n i).at rank) low e
      goes (inr a) = lt_suc (s.at rank) place ((carried_out s r n i).at rank) low a.0

  -- the line itself
  own_line : (s : Standing) (d : Command) (n : Machine) (i : Holding) → ReachesBy hears g lines s → s.at rank ≡ place
      → slice_get (lines rank) (s.at rank) ≡ Some d → Carries g rank s.machine (s.holds rank) d n i → Passed s → Passed (carried_out s rank n i)
  own_line s d n i run here line step (after low out outcome reach) = absurd (apart_of (s.at rank) place low here)
  own_line s d n i run here line step (before low reach) =
      after (just_suc (s.at rank) place ((carried_out s rank n i).at rank) here (put_at s.at rank (suc (s.at rank)) rank refl))
      a.out outcome (λ news fixed. waiting.goes_on (reach news a.out fixed) (waiting.carries rank (WaitAll a.out) (next news fixed) a.carries))
    where
      same : d ≡ c
      same = same_Some d c (sym line ∙ (ap (slice_get (lines rank)) here ∙ get))

      a : Amounts g rank (sketch_at (lines rank) (s.at rank)) s.machine (s.holds rank) c n i
      a = amounts g rank (sketch_at (lines rank) (s.at rank)) s.machine (s.holds rank)
          (knows_of g lines s (run_of g lines s (reaches_is hears g lines s run)) rank)
          c n i choice (subst (λ (c : Command). Carries g rank s.machine (s.holds rank) c n i) same step)

      outcome : IsOutcome (sketch_at (lines rank) place) c a.out
      outcome = subst (λ (p : ℕ). IsOutcome (sketch_at (lines rank) p) c a.out) here a.outcome

      next : (news : ℕ → List Command) → IsFixed lines news rank place a.out → slice_get (news rank) (s.at rank) ≡ Some (WaitAll a.out)
      next news fixed = ap (slice_get (news rank)) here ∙ fixed.there

  passing_step : (s : Standing) (r : ℕ) (d : Command) (n : Machine) (i : Holding) → ReachesBy hears g lines s
      → slice_get (lines r) (s.at r) ≡ Some d → Carries g r s.machine (s.holds r) d n i → Passed s
      → (r ≡ rank) ⊎ (r ≡ rank → ⊥) → Passed (carried_out s r n i)
  passing_step s r d n i run line step was (inr off) =
      other_line s r d n i line step (λ both. off both.0) was (inl (put_other s.at r (suc (s.at r)) rank (λ e. off (sym e))))
  passing_step s r d n i run line step was (inl same) = go (cases_eq (s.at r) place)
    where
      go : (s.at r ≡ place) ⊎ (s.at r ≡ place → ⊥) → Passed (carried_out s r n i)
      go (inr off) =
          other_line s r d n i line step (λ both. off both.1) was
          (inr (put_at s.at r (suc (s.at r)) rank (sym same) ∙ ap (λ (r : ℕ). suc (s.at r)) same, λ e. off (ap s.at same ∙ e)))
      go (inl here) =
          subst (λ (r : ℕ). (d : Command) (n : Machine) (i : Holding) → s.at r ≡ place → slice_get (lines r) (s.at r) ≡ Some d
          → Carries g r s.machine (s.holds r) d n i → Passed (carried_out s r n i)) (sym same)
          (λ d n i here line step. own_line s d n i run here line step was) d n i here line step

  passing : (s : Standing) → ReachesBy hears g lines s → Passed s
  passing _ waiting.begins = before (omega arith) (λ news out fixed. waiting.begins)
  passing _ (waiting.goes_on {s} run (waiting.carries {n} {i} r d line step)) = passing_step s r d n i run line step (passing s run) (cases_eq r rank)
  passing _ (waiting.goes_on {s} run (waiting.finishes slot start q sig is pending has)) = go (passing s run)
    where
      go : Passed s → Passed (record s { machine = phased s.machine.state (put s.machine.done slot true) })
      go (before low reach) = before low (λ news out fixed. waiting.goes_on (reach news out fixed) (waiting.finishes slot start q sig is pending has))
      go (after low out outcome reach) =
          after low out outcome (λ news fixed. waiting.goes_on (reach news fixed) (waiting.finishes slot start q sig is pending has))

-- ---- stalls

makes_none : (comm : ℕ) (c : Command) → is_open c ≡ true → makes_in comm (Some c) ≡ false
makes_none comm (Post other sig given) choice = absurd (false≢true choice)
makes_none comm (Init other sig) choice = absurd (false≢true choice)
makes_none comm (Start q given) choice = refl
makes_none comm (Wait q) choice = refl
makes_none comm (Test q) choice = refl
makes_none comm (Free q) choice = refl
makes_none comm (WaitAny qs) choice = refl
makes_none comm (WaitSome qs) choice = refl
makes_none comm (WaitAll qs) choice = refl

module _ (g : Setting) (lines news : ℕ → List Command) (rank place : ℕ) (c : Command) (out : List ℕ)
    (get : slice_get (lines rank) place ≡ Some c) (choice : is_open c ≡ true) (fixed : IsFixed lines news rank place out) where
  -- a rank makes as many requests by the one as by the other
  made_same : (comm r n : ℕ) → made_by comm (news r) n ≡ made_by comm (lines r) n
  made_same comm r zero = refl
  made_same comm r (suc n) = λ z. made_same comm r n z + cond (go (cases_eq r rank) (cases_eq n place) z) 1 0
    where
      go : (r ≡ rank) ⊎ (r ≡ rank → ⊥) → (n ≡ place) ⊎ (n ≡ place → ⊥) → makes_in comm (slice_get (news r) n) ≡ makes_in comm (slice_get (lines r) n)
      go (inr off) b = ap (makes_in comm) (fixed.others r n (λ both. off both.0))
      go (inl e) (inr off) = ap (makes_in comm) (fixed.others r n (λ both. off both.1))
      go (inl e) (inl f) =
          ap (makes_in comm) ((λ z. slice_get (news (e z)) (f z)) ∙ fixed.there)
          ∙ sym (ap (makes_in comm) ((λ z. slice_get (lines (e z)) (f z)) ∙ get) ∙ makes_none comm c choice)

  waits_same : (s : Standing) (r : ℕ) (d : Command) → Waits g lines s r d → Waits g news s r d
  waits_same s r _ (stalls.wait q pending) = stalls.wait q pending
  waits_same s r _ (stalls.wait_all qs q among pending) = stalls.wait_all qs q among pending
  waits_same s r _ (stalls.wait_some qs q among active over) = stalls.wait_some qs q among active over
  waits_same s r _ (stalls.wait_any qs q among active over) = stalls.wait_any qs q among active over
  waits_same s r _ (stalls.init comm sig peer member is far) = stalls.init comm sig peer member is (λ come. far (back come))
    where
      back : HasCome news s.at peer comm (made_by comm (news r) (s.at r)) → HasCome lines s.at peer comm (made_by comm (lines r) (s.at r))
      back come =
          subst (λ (n : ℕ). n < made_by comm (lines peer) (suc (s.at peer))) (made_same comm r (s.at r))
          (subst (λ (n : ℕ). made_by comm (news r) (s.at r) < n) (made_same comm peer (suc (s.at peer))) come)

  -- beyond the line a rank is at the same next one in both
  next_same : (s : Standing) → place < s.at rank → (r : ℕ) → slice_get (news r) (s.at r) ≡ slice_get (lines r) (s.at r)
  next_same s low r = fixed.others r (s.at r) (λ both. apart_of (s.at rank) place low (ap s.at (sym both.0) ∙ both.1))

  ends_same : (s : Standing) → AtEnd news s → AtEnd lines s
  ends_same s end r = end r ∙ fixed.lengths r

  -- so what stalls there stalls in both
  stalled_by : (hears : Hearing) (s : Standing) → place < s.at rank → IsStalledBy hears g lines s → IsStalledBy hears g news s
  stalled_by hears s low st = record {
    waits = λ r d line. waits_same s r d (st.waits r d (sym (next_same s low r) ∙ line));
    returns = λ r comm sig line. st.returns r comm sig (sym (next_same s low r) ∙ line);
    settled = st.settled;
    early = λ end. st.early (ends_same s end);
  }

  stalled_any : (s : Standing) → place < s.at rank → IsStalled g lines s → IsStalled g news s
  stalled_any s low st = record {
    waits = λ r d line. waits_same s r d (st.waits r d (sym (next_same s low r) ∙ line));
    settled = st.settled;
    early = λ end. st.early (ends_same s end);
  }

-- ---- no stall

beyond : (a b c : ℕ) → a < b → b ≤ c → a < c
beyond a b c l m = omega arith

module _ (g : Setting) (lines : ℕ → List Command) (rank place : ℕ) (c : Command) (get : slice_get (lines rank) place ≡ Some c) (choice : is_open c ≡ true)
    (at : ℕ → ℕ) (low : place < at rank) where
  -- where ranks pass the line whatever is completed, and no run stalls with anything that it may complete, none does
  pub split_by : (hears : Hearing) → Passes (only hears) g lines at
      → ((out : List ℕ) → IsOutcome (sketch_at (lines rank) place) c out
      → (news : ℕ → List Command) × IsFixed lines news rank place out × RefutedBy hears g news rank place)
      → NeverStallsBy hears g lines
  split_by hears passes each s run st = go (passing hears g lines rank place c get choice s run)
    where
      far : place < s.at rank
      far = beyond place (at rank) (s.at rank) low
          (passed_by (only hears) g lines s (run_of g lines s (reaches_is hears g lines s run))
          (record { waits = st.waits; returns = λ r comm sig line. absurd (st.returns r comm sig line); settled = st.settled }) at passes rank)

      go : Passing hears g lines rank place c s → ⊥
      go (before near reach) = not_both (s.at rank) place near far
      go (after over out outcome reach) = refute (each out outcome).0 (each out outcome).1 (each out outcome).2
        where
          refute : (news : ℕ → List Command) → IsFixed lines news rank place out → RefutedBy hears g news rank place → ⊥
          refute news fixed (inl never) = never s (reach news fixed) (stalled_by g lines news rank place c out get choice fixed hears s far st)
          refute news fixed (inr stays) = not_both (s.at rank) place (stays s (reach news fixed)) far

  -- so with every library
  pub split_any : Passes everyone g lines at
      → ((out : List ℕ) → IsOutcome (sketch_at (lines rank) place) c out
      → (news : ℕ → List Command) × IsFixed lines news rank place out × Refuted g news rank place)
      → NeverStalls g lines
  split_any passes each s run st = go (passing needs g lines rank place c get choice s (reaches_by_needs g lines s run))
    where
      far : place < s.at rank
      far = beyond place (at rank) (s.at rank) low
          (passed_by everyone g lines s (run_of g lines s run)
          (record {
            waits = st.waits;
            returns = λ r comm sig line. refl;
            settled = λ slot start q sig is has. st.settled slot
                (record { request = q; start = start; is = is; active = has.ready.active; last = has.ready.start_is; given = λ i low. has.heard i low refl });
          }) at passes rank)

      go : Passing needs g lines rank place c s → ⊥
      go (before near reach) = not_both (s.at rank) place near far
      go (after over out outcome reach) = refute (each out outcome).0 (each out outcome).1 (each out outcome).2
        where
          refute : (news : ℕ → List Command) → IsFixed lines news rank place out → Refuted g news rank place → ⊥
          refute news fixed (inl never) =
              never s (reaches_is needs g news s (reach news fixed)) (stalled_any g lines news rank place c out get choice fixed s far st)
          refute news fixed (inr stays) = not_both (s.at rank) place (stays s (reaches_is needs g news s (reach news fixed))) far
