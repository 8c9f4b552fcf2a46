-- The worked rows.
use Rattle.std.proofs.Common.{◌≡◌, ℕ, suc, ◌<◌, ◌⊎◌, inl, inr, false, true, ltb, List, [], ◌∷◌, length, Option, Some, None, refl, sym, ap, subst, ◌∙◌}
use Rattle.std.proofs.Common.{arith, ltb-true, le-ltb}
use Rattle.std.proofs.lemmas.Bool.{cases_eq, and_parts, false≢true}
use Rattle.std.proofs.lemmas.Option.{none-some, same_Some}
use Rattle.std.specs.Prelude.{slice_get}
use Rattle.coll_kinds.specs.declared.signature.Signature.{Signature}
use Rattle.coll_kinds.specs.Common.{needs}
use Rattle.coll_machine.specs.Common.{Request, MachineStep, size, key_of, signature_of, once_more, barrier}
use Rattle.coll_machine.specs.Calls as calls
use Rattle.coll_machine.specs.Machines as machines
use Rattle.coll_trees.specs.Depths.{depth}
use Rattle.coll_plans.specs.Plans.{family}
use Rattle.coll_plans.specs.Hearings.{hears_here}
use Rattle.coll_parser.specs.declared.command.Command.{Command}
use Rattle.coll_parser.specs.declared.command.Command.TheVariants.{Post, Init, WaitAll}
use Rattle.coll_verdict.specs.Standings.{Standing, beginning, carried_out, nothing_made, one_more}
use Rattle.coll_verdict.specs.Standings as standings
use Rattle.coll_verdict.specs.Stalls.{lines_of, Waits}
use Rattle.coll_verdict.specs.Stalls as stalls
use Rattle.coll_verdict.specs.Waiting.{ReachesBy, StallsNeverBy}
use Rattle.coll_verdict.specs.Waiting as waiting
use Rattle.coll_verdict.specs.Rows.{lone, one_rank, only_ticket, posted}
use Rattle.coll_deadlock.specs.Heard.{SlotHasHeard}
use Rattle.coll_deadlock.specs.CoreRows.{pair, first, one_posted, both_posted, BothAreUnsettled, HearsMore, OneIsEarly, WaitsUnsettled}

-- ---- two ranks post a barrier

given_some : (o : Option (List ℕ)) (bytes : List ℕ) → o ≡ Some bytes → o ≡ None → ⊥
given_some o bytes is none = none-some bytes (sym none ∙ is)

below_two : (P : ℕ → Type 0) → P 0 → P 1 → (m : ℕ) → m < 2 → P m
below_two P zero one m low = go (cases_eq m 0)
  where
    go : (m ≡ 0) ⊎ (m ≡ 0 → ⊥) → P m
    go (inl e) = subst P (sym e) zero
    go (inr d) = let e : m ≡ 1 = omega arith in subst P (sym e) one

both_given : (m : ℕ) → m < 2 → both_posted.state.given (key_of first 0) m ≡ None → ⊥
both_given = below_two (λ m. both_posted.state.given (key_of first 0) m ≡ None → ⊥) (given_some (both_posted.state.given (key_of first 0) 0) [] refl)
    (given_some (both_posted.state.given (key_of first 0) 1) [] refl)

pub both_are_unsettled : BothAreUnsettled
both_are_unsettled settled = false≢true (settled 0 0 (once_more first) barrier refl (record {
  ready = record { active = refl; start_is = refl; sig_is = refl; needed = λ m need. both_given m (ltb-true m 2 (and_parts (ltb m 2) true need).0) };
  heard = λ m low hears. both_given m low;
}))

pub one_is_early : OneIsEarly
one_is_early early = go (early 0 refl)
  where
    first_start : (a b : ℕ) → suc a ≡ b → b ≡ 1 → a ≡ 0
    first_start a b e h = omega arith

    go : SlotHasHeard pair one_posted.state 0 → ⊥
    go has =
        let same : once_more first ≡ has.request = same_Some (once_more first) has.request has.is in
        let zero : has.start ≡ 0 = first_start has.start has.request.starts has.heard.ready.start_is (ap (λ (r : Request). r.starts) (sym same)) in
        let own : barrier ≡ has.sig = same_Some barrier has.sig (ap (signature_of one_posted.state) same ∙ has.heard.ready.sig_is) in
        has.heard.ready.needed 1 (sym (λ z. needs (own z) (size pair (same z).comm) (same z).member 1))
        (λ z. one_posted.state.given (key_of (sym same z) (zero z)) 1)

-- ---- one rank posts a barrier and waits for it

posts : MachineStep one_rank beginning.machine (calls.Post 0 0 (record { sig = barrier; n = 1; member = 0 }) []) (calls.Ticketed only_ticket) posted
posts = machines.post 0 0 0 (record { sig = barrier; n = 1; member = 0 }) [] only_ticket (record {
  member = 0;
  accepted = refl;
  member_is = refl;
  place_is = refl;
  new = record { low = omega arith; spare = refl; unworn = omega arith; next = refl };
  leaves = refl;
})

abbrev has_posted : Standing
has_posted = carried_out beginning 0 posted (one_more nothing_made only_ticket)

posted_run : ReachesBy hears_here one_rank (lines_of lone) has_posted
posted_run =
    waiting.goes_on waiting.begins
    (waiting.carries 0 (Post 0 barrier []) refl (standings.post 0 barrier [] (record { sig = barrier; n = 1; member = 0 }) only_ticket refl posts))

record IsNext (rank : ℕ) (c : Command) : Type 0 where
  only : rank ≡ 0
  is : WaitAll (0 ∷ []) ≡ c

next_is : (rank : ℕ) (c : Command) → slice_get (lines_of lone rank) (has_posted.at rank) ≡ Some c → IsNext rank c
next_is rank c get = go (cases_eq rank 0)
  where
    go : (rank ≡ 0) ⊎ (rank ≡ 0 → ⊥) → IsNext rank c
    go (inl x) = record { only = x; is = same_Some (WaitAll (0 ∷ [])) c (ap (λ r. slice_get (lines_of lone r) (has_posted.at r)) (sym x) ∙ get) }
    go (inr d) =
        let none : ltb rank 1 ≡ false = le-ltb rank 1 (omega arith) in
        absurd (none-some c (rw none at get))

posted_waits : (rank : ℕ) (c : Command) → slice_get (lines_of lone rank) (has_posted.at rank) ≡ Some c → Waits one_rank (lines_of lone) has_posted rank c
posted_waits rank c get =
    let next = next_is rank c get in
    subst (λ r. Waits one_rank (lines_of lone) has_posted r c) (sym next.only)
    (subst (Waits one_rank (lines_of lone) has_posted 0) next.is (stalls.wait_all (0 ∷ []) 0 refl refl))

no_init : (rank comm : ℕ) (sig : Signature) → slice_get (lines_of lone rank) (has_posted.at rank) ≡ Some (Init comm sig) → ⊥
no_init rank comm sig get = let e : WaitAll (0 ∷ []) ≡ Init comm sig = (next_is rank (Init comm sig) get).is in absurd cc

not_at_end : standings.AtEnd (lines_of lone) has_posted → ⊥
not_at_end end = ended (has_posted.at 0) (length (lines_of lone 0)) refl refl (end 0)
  where
    ended : (a b : ℕ) → a ≡ 1 → b ≡ 2 → a ≡ b → ⊥
    ended a b x y e = absurd (omega arith)

pub waits_unsettled : StallsNeverBy hears_here lone → WaitsUnsettled
waits_unsettled never = record {
  never = never;
  s = has_posted;
  reached = posted_run;
  waits = record { waits = posted_waits; returns = no_init };
  early = not_at_end;
  unsettled = λ settled. never one_rank refl has_posted posted_run (record { waits = posted_waits; returns = no_init; settled = settled; early = not_at_end });
}

-- ---- four ranks broadcast a number

pub hears_more : HearsMore
unfolding family depth
hears_more = record { other = 1; needless = refl; heard = refl }
