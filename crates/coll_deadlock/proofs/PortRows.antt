-- The worked rows.
use Rattle.std.proofs.Common.{◌≡◌, ℕ, ◌⊎◌, inl, inr, false, ltb, List, [], ◌∷◌, Some, refl, sym, ap, subst, ◌∙◌, arith, le-ltb}
use Rattle.std.proofs.lemmas.Bool.{cases_eq}
use Rattle.std.proofs.lemmas.Option.{none-some, same_Some}
use Rattle.std.specs.Prelude.{slice_get}
use Rattle.coll_parser.specs.declared.command.Command.{Command}
use Rattle.coll_parser.specs.declared.command.Command.TheVariants.{WaitAll}
use Rattle.coll_verdict.specs.Standings.{Holding}
use Rattle.coll_verdict.specs.Stalls.{lines_of}
use Rattle.coll_verdict.specs.Rows.{lone, only_ticket}
use Rattle.coll_machine.specs.Common.{Machine}
use Rattle.coll_traced.specs.Waits.{WaitFor, Awake, ForOne, ForAny, Ended}
use Rattle.coll_deadlock.specs.Lines.{IsAtLine, IsInLine, awake, in_wait, in_wait_all, in_wait_any, in_wait_some}
use Rattle.coll_deadlock.specs.PortRows.{EndedIsAtNoLine, IsAwakeAtLine, NobodyIsAtLine, OtherIsAtNoLine, WaitsAtLine, has_posted}

-- the only rank is at its `waitall`
only_wait : (waits : List WaitFor) → IsAtLine waits has_posted.machine 0 (has_posted.holds 0) (WaitAll (0 ∷ []))
    → (rank : ℕ) (c : Command) → slice_get (lines_of lone rank) (has_posted.at rank) ≡ Some c → IsAtLine waits has_posted.machine rank (has_posted.holds rank) c
only_wait waits at rank c get = go (cases_eq rank 0)
  where
    go : (rank ≡ 0) ⊎ (rank ≡ 0 → ⊥) → IsAtLine waits has_posted.machine rank (has_posted.holds rank) c
    go (inl x) =
        let is : WaitAll (0 ∷ []) ≡ c = same_Some (WaitAll (0 ∷ [])) c (ap (λ r. slice_get (lines_of lone r) (has_posted.at r)) (sym x) ∙ get) in
        subst (λ r. IsAtLine waits has_posted.machine r (has_posted.holds r) c) (sym x) (subst (IsAtLine waits has_posted.machine 0 (has_posted.holds 0)) is at)
    go (inr d) =
        let none : ltb rank 1 ≡ false = le-ltb rank 1 (omega arith) in
        absurd (none-some c (rw none at get))

pub waits_at_line : WaitsAtLine
waits_at_line =
    only_wait (ForOne 0 only_ticket ∷ []) (record { wait = ForOne 0 only_ticket; is = refl; in_line = in_wait_all (0 ∷ []) 0 only_ticket refl refl refl })

pub is_awake_at_line : IsAwakeAtLine
is_awake_at_line = only_wait (Awake ∷ []) (record { wait = Awake; is = refl; in_line = awake (WaitAll (0 ∷ [])) })

ended_nowhere : (m : Machine) (rank : ℕ) (h : Holding) (c : Command) (wait : WaitFor) → IsInLine m rank h c wait → Ended ≡ wait → ⊥
ended_nowhere m rank h _ _ (awake c) e = absurd cc
ended_nowhere m rank h _ _ (in_wait q t held active) e = absurd cc
ended_nowhere m rank h _ _ (in_wait_all qs q t among held active) e = absurd cc
ended_nowhere m rank h _ _ (in_wait_some qs q tickets among active listed) e = absurd cc
ended_nowhere m rank h _ _ (in_wait_any qs q tickets among active listed) e = absurd cc

pub ended_is_at_no_line : EndedIsAtNoLine
ended_is_at_no_line at =
    let w = at 0 (WaitAll (0 ∷ [])) refl in
    ended_nowhere has_posted.machine 0 (has_posted.holds 0) (WaitAll (0 ∷ [])) w.wait w.in_line (same_Some Ended w.wait w.is)

rank_of : WaitFor → ℕ
rank_of Awake = 0
rank_of (ForOne rank t) = rank
rank_of (ForAny rank ts) = rank
rank_of Ended = 0

own_rank : (m : Machine) (h : Holding) (c : Command) (wait : WaitFor) → IsInLine m 0 h c wait → rank_of wait ≡ 0
unfolding rank_of
own_rank m h _ _ (awake c) = refl
own_rank m h _ _ (in_wait q t held active) = refl
own_rank m h _ _ (in_wait_all qs q t among held active) = refl
own_rank m h _ _ (in_wait_some qs q tickets among active listed) = refl
own_rank m h _ _ (in_wait_any qs q tickets among active listed) = refl

pub other_is_at_no_line : OtherIsAtNoLine
unfolding rank_of
other_is_at_no_line at =
    let w = at 0 (WaitAll (0 ∷ [])) refl in
    differ (rank_of w.wait) (ap rank_of (same_Some (ForOne 1 only_ticket) w.wait w.is))
    (own_rank has_posted.machine (has_posted.holds 0) (WaitAll (0 ∷ [])) w.wait w.in_line)
  where
    differ : (a : ℕ) → 1 ≡ a → a ≡ 0 → ⊥
    differ a e f = absurd (omega arith)

pub nobody_is_at_line : NobodyIsAtLine
nobody_is_at_line at = let w = at 0 (WaitAll (0 ∷ [])) refl in none-some w.wait w.is
