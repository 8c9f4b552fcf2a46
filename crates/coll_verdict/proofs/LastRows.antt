-- The worked rows of runs that go on to the end, and of one that can't go on.
use Rattle.std.proofs.Common.{◌≡◌, ℕ, suc, ◌<◌, ◌⊎◌, inl, inr, Bool, false, true, ltb, List, [], ◌∷◌, length, Some, None, refl, sym, ap, subst, ◌∙◌}
use Rattle.std.proofs.Common.{arith, le-ltb}
use Rattle.std.proofs.lemmas.Bool.{cases_eq, false≢true}
use Rattle.std.proofs.lemmas.Option.{none-some, same_Some}
use Rattle.std.specs.Prelude.{slice_get}
use Rattle.coll_kinds.specs.declared.signature.Signature.{Signature}
use Rattle.coll_kinds.specs.Common.{member_of, needs, put}
use Rattle.coll_kinds.proofs.Puts.{put_other}
use Rattle.coll_machine.specs.Common.{Setting, group, group_in, size, Request, Machine, nothing, key_of, signature_of, once_more, IsReady, MachineStep, barrier}
use Rattle.coll_machine.specs.Calls as calls
use Rattle.coll_machine.specs.Steps.{Finishes}
use Rattle.coll_machine.specs.Machines as machine
use Rattle.coll_parser.specs.declared.command.Command.{Command}
use Rattle.coll_parser.specs.declared.command.Command.TheVariants.{Post, Wait, WaitAll}
use Rattle.coll_verdict.specs.Standings.{Standing, Holding, Steps, Carries, NonePending, carries, finishes, is_pending}
use Rattle.coll_verdict.specs.Standings as standings
use Rattle.coll_verdict.specs.Stalls.{lines_of}
use Rattle.coll_verdict.specs.Sketches.{Sketch}
use Rattle.coll_verdict.specs.Stands.{sketches}
use Rattle.coll_verdict.specs.Passes.{everyone, IsFree, IsJoined, Passes}
use Rattle.coll_verdict.specs.Passes as passes
use Rattle.coll_verdict.specs.Lasts.{IsAccepted, IsLast, AreAccepted}
use Rattle.coll_verdict.specs.Rows.{lone, crossed, LoneBarrierNeverStalls, CrossedRunIsLast}
use Rattle.coll_verdict.proofs.Passing.{passes_dont_stall}
use Rattle.coll_verdict.proofs.Rows.{among_zero, below_one, two, one_posted, first_request, second_request, both_posted, both_at_wait, crossed_run}

-- ---- one rank posts a barrier and waits for it

abbrev has_posted : ℕ → ℕ
has_posted = put (λ rank. 0) 0 1

abbrev has_waited : ℕ → ℕ
has_waited = put has_posted 0 2

abbrev said : ℕ → Sketch
said = sketches (lines_of lone) has_posted

only_member : (g : Setting) → g.groups ≡ lone.groups → (i : ℕ) → i < size g 0 → IsJoined g said 0 0 i
only_member g e i low = below_one (λ i. IsJoined g said 0 0 i) (record {
  peer = 0;
  member_is = ap (member_of 0) here;
  begun = record { p = 0; low = omega arith; comm_is = refl; place_is = refl; begun = omega arith };
}) i (subst (λ n. i < n) (ap length here) low)
  where
    here : group g 0 ≡ 0 ∷ []
    here = ap (λ groups. group_in groups 0) e

lone_passes : (g : Setting) → g.groups ≡ lone.groups → Passes everyone g (lines_of lone) has_waited
lone_passes g e = passes.one_more {at = has_posted} 0 (WaitAll (0 ∷ [])) (passes.one_more {at = λ rank. 0} 0 (Post 0 barrier []) passes.none refl tt) refl
    (among_zero (λ q. IsFree everyone.hears g said 0 q) (inr (λ i low awaited. only_member g e i low)))

lone_ends : (rank : ℕ) → has_waited rank ≡ length (lines_of lone rank)
lone_ends rank = go (cases_eq rank 0)
  where
    go : (rank ≡ 0) ⊎ (rank ≡ 0 → ⊥) → has_waited rank ≡ length (lines_of lone rank)
    go (inl e) = subst (λ rank. has_waited rank ≡ length (lines_of lone rank)) (sym e) refl
    go (inr d) =
        let none : ltb rank 1 ≡ false = le-ltb rank 1 (omega arith) in
        put_other has_posted 0 2 rank d ∙ (put_other (λ rank. 0) 0 1 rank d ∙ rw none refl)

pub lone_barrier_never_stalls : LoneBarrierNeverStalls
lone_barrier_never_stalls g e = passes_dont_stall g (lines_of lone) has_waited (lone_passes g e) lone_ends

-- ---- the crossed barriers, each rank in its first wait

pub record IsNext (rank : ℕ) (c : Command) : Type 0 where
  pub wait : Wait 0 ≡ c
  pending : is_pending both_posted ((both_at_wait.holds rank).of 0) ≡ true

pub next_is : (rank : ℕ) (c : Command) → slice_get (lines_of crossed rank) (both_at_wait.at rank) ≡ Some c → IsNext rank c
next_is rank c get = go (cases_eq rank 0) (cases_eq rank 1)
  where
    go : (rank ≡ 0) ⊎ (rank ≡ 0 → ⊥) → (rank ≡ 1) ⊎ (rank ≡ 1 → ⊥) → IsNext rank c
    go (inl x) y = record {
      wait = same_Some (Wait 0) c (ap (λ r. slice_get (lines_of crossed r) (both_at_wait.at r)) (sym x) ∙ get);
      pending = ap (λ r. is_pending both_posted ((both_at_wait.holds r).of 0)) x;
    }
    go (inr d) (inl x) = record {
      wait = same_Some (Wait 0) c (ap (λ r. slice_get (lines_of crossed r) (both_at_wait.at r)) (sym x) ∙ get);
      pending = ap (λ r. is_pending both_posted ((both_at_wait.holds r).of 0)) x;
    }
    go (inr d) (inr b) =
        let none : ltb rank 2 ≡ false = le-ltb rank 2 (omega arith) in
        absurd (none-some c (rw none at get))

none_pending : (g : Setting) (rank : ℕ) (m n : Machine) (h i : Holding) (q : ℕ) → Carries g rank m h (Wait q) n i → NonePending m h (q ∷ [])
none_pending g rank m _ h _ q (standings.wait {n} {i} _ ready done over) = ready

finish_of : (g : Setting) (m n : Machine) → MachineStep g m calls.Finish calls.Nothing n → (slot : ℕ) × (done : ℕ → Bool) × Finishes g m slot done
finish_of g _ _ (machine.finish {m} {done} slot f) = (slot, done, f)

-- a barrier that lacks a member isn't Done
not_ready : (request : Request) (start : ℕ) (sig : Signature) (r : Request) (other : ℕ) → r ≡ request → r.starts ≡ 1
    → IsReady two both_posted.state request start sig → signature_of both_posted.state r ≡ Some barrier
    → needs barrier (size two r.comm) r.member other ≡ true → both_posted.state.given (key_of r 0) other ≡ None → ⊥
not_ready request start sig r other same one ready barrier_is need none =
    let zero : start ≡ 0 = first start request.starts ready.start_is (ap (λ (r : Request). r.starts) (sym same) ∙ one) in
    let own : barrier ≡ sig = same_Some barrier sig (sym barrier_is ∙ (ap (signature_of both_posted.state) same ∙ ready.sig_is)) in
    ready.needed other (sym (λ z. needs (own z) (size two (same z).comm) (same z).member other) ∙ need)
    ((λ z. both_posted.state.given (key_of (sym same z) (zero z)) other) ∙ none)
  where
    first : (a b : ℕ) → suc a ≡ b → b ≡ 1 → a ≡ 0
    first a b e h = omega arith

pub no_finish : (slot : ℕ) (done : ℕ → Bool) → Finishes two both_posted slot done → ⊥
no_finish slot done f = go (cases_eq slot 0) (cases_eq slot 1)
  where
    go : (slot ≡ 0) ⊎ (slot ≡ 0 → ⊥) → (slot ≡ 1) ⊎ (slot ≡ 1 → ⊥) → ⊥
    go (inl x) y =
        not_ready f.request f.start f.sig (once_more first_request) 1
        (same_Some (once_more first_request) f.request (ap both_posted.state.request (sym x) ∙ f.is)) refl f.ready refl refl refl
    go (inr d) (inl x) =
        not_ready f.request f.start f.sig (once_more second_request) 0
        (same_Some (once_more second_request) f.request (ap both_posted.state.request (sym x) ∙ f.is)) refl f.ready refl refl refl
    go (inr d) (inr b) = none-some f.request (sym (
        put_other (put one_posted.state.request 1 (Some second_request)) 1 (Some (once_more second_request)) slot b
        ∙ (put_other one_posted.state.request 1 (Some second_request) slot b
        ∙ (put_other (put nothing.request 0 (Some first_request)) 0 (Some (once_more first_request)) slot d
        ∙ put_other nothing.request 0 (Some first_request) slot d))) ∙ f.is)

both_are_last : IsLast two (lines_of crossed) both_at_wait
both_are_last _ (carries {n} {i} rank c get step) =
    let next = next_is rank c get in
    let wait = subst (λ c. Carries two rank both_posted (both_at_wait.holds rank) c n i) (sym next.wait) step in
    false≢true (sym (none_pending two rank both_posted n (both_at_wait.holds rank) i 0 wait 0 refl) ∙ next.pending)
both_are_last _ (finishes {n} step) = let f = finish_of two both_posted n step in no_finish f.0 f.1 f.2

both_are_accepted : AreAccepted two (lines_of crossed) both_at_wait
both_are_accepted rank c get = subst (λ c. IsAccepted two both_posted.state rank (both_at_wait.holds rank) c) (next_is rank c get).wait tt

pub crossed_run_is_last : CrossedRunIsLast
crossed_run_is_last = (two, refl, both_at_wait, crossed_run, both_are_last, both_are_accepted)
