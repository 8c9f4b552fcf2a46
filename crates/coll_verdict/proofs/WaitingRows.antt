-- The worked rows, with a library of which it is known for whom its requests wait.
use Rattle.std.proofs.Common.{◌≡◌, ℕ, suc, ◌<◌, ◌⊎◌, inl, inr, Bool, true, false, ltb, eqb, ◌||◌, List, [], ◌∷◌, length, Some, None, refl, sym, ap}
use Rattle.std.proofs.Common.{subst, ◌∙◌, arith, eqb-true, le-ltb}
use Rattle.std.proofs.lemmas.Bool.{cases_eq, false≢true}
use Rattle.std.proofs.lemmas.Option.{none-some, same_Some}
use Rattle.std.specs.Prelude.{slice_get}
use Rattle.coll_kinds.specs.declared.signature.Signature.{Signature}
use Rattle.coll_kinds.specs.Common.{is_among, put}
use Rattle.coll_kinds.proofs.Puts.{put_other}
use Rattle.coll_machine.specs.Common.{Setting, once_more, barrier}
use Rattle.coll_parser.specs.declared.command.Command.TheVariants.{Post, Init, Wait, WaitAll}
use Rattle.coll_verdict.specs.Standings as standings
use Rattle.coll_verdict.specs.Standings.{nothing_made, one_more, is_pending, is_done}
use Rattle.coll_verdict.specs.Stalls.{lines_of}
use Rattle.coll_verdict.specs.Stands.{sketches}
use Rattle.coll_verdict.specs.Passes.{only, IsFree, Passes}
use Rattle.coll_verdict.specs.Passes as passes
use Rattle.coll_verdict.specs.Waiting.{Hearing, ReachesBy}
use Rattle.coll_verdict.specs.Waiting as waiting
use Rattle.coll_verdict.specs.Rows.{lone, one_rank, only_ticket, only_request, done, left, crossed, inits, LoneBarrierEndsBy}
use Rattle.coll_verdict.specs.Rows.{LoneBarrierNeverStallsBy, CrossedBarriersStallBy, CrossedBarriersMayStallBy, CrossedInitsNeverStallBy}
use Rattle.coll_verdict.proofs.Passing.{passes_dont_stall_by, always_is_always_by, never_is_never_by}
use Rattle.coll_verdict.proofs.Rows.{below_one, among_zero, posts, needed_all, given_all, leaves, held_last, has_left, lone_end}
use Rattle.coll_verdict.proofs.Rows.{crossed_barriers_stall, two, first_ticket, second_ticket, first_posts, second_posts, both_posted, both_at_wait}
use Rattle.coll_verdict.proofs.Rows.{both_wait}
use Rattle.coll_verdict.proofs.LastRows.{lone_barrier_never_stalls, next_is, no_finish}

lone_run_by : (hears : Hearing) → ReachesBy hears one_rank (lines_of lone) has_left
lone_run_by hears =
    waiting.goes_on
    (waiting.goes_on
    (waiting.goes_on waiting.begins
    (waiting.carries 0 (Post 0 barrier []) refl (standings.post 0 barrier [] (record { sig = barrier; n = 1; member = 0 }) only_ticket refl posts)))
    (waiting.finishes 0 0 (once_more only_request) barrier refl refl (record {
      ready = record { active = refl; start_is = refl; sig_is = refl; needed = needed_all };
      heard = λ p low e. given_all p low;
    })))
    (waiting.carries 0 (WaitAll (0 ∷ [])) refl
    (standings.wait_all (0 ∷ [])
    (among_zero (λ q. is_pending done ((one_more nothing_made only_ticket).of q) ≡ false) refl)
    (standings.another 0 0 0 0 [] only_ticket refl refl leaves standings.none)
    (among_zero (λ q. is_done left (held_last.of q) ≡ false) refl)))

pub lone_barrier_ends_by : LoneBarrierEndsBy
lone_barrier_ends_by hears always = always one_rank refl has_left (lone_run_by hears) lone_end

pub lone_barrier_never_stalls_by : LoneBarrierNeverStallsBy
lone_barrier_never_stalls_by hears = never_is_never_by hears lone lone_barrier_never_stalls

pub crossed_barriers_stall_by : CrossedBarriersStallBy
crossed_barriers_stall_by hears = always_is_always_by hears crossed crossed_barriers_stall

crossed_run_by : (hears : Hearing) → ReachesBy hears two (lines_of crossed) both_at_wait
crossed_run_by hears =
    waiting.goes_on
    (waiting.goes_on waiting.begins
    (waiting.carries 0 (Post 0 barrier []) refl (standings.post 0 barrier [] (record { sig = barrier; n = 2; member = 0 }) first_ticket refl first_posts)))
    (waiting.carries 1 (Post 1 barrier []) refl (standings.post 1 barrier [] (record { sig = barrier; n = 2; member = 1 }) second_ticket refl second_posts))

pub crossed_barriers_may_stall_by : CrossedBarriersMayStallBy
crossed_barriers_may_stall_by hears never = never two refl both_at_wait (crossed_run_by hears) (record {
  waits = both_wait;
  returns = λ rank comm sig get. no_init rank comm sig get;
  settled = λ slot start q sig is has. absurd
      (no_finish slot (put both_posted.done slot true)
      (record { request = q; sig = sig; start = start; is = is; pending = refl; ready = has.ready; leaves = refl }));
  early = λ end. ended (both_at_wait.at 0) (length (lines_of crossed 0)) refl refl (end 0);
})
  where
    ended : (a b : ℕ) → a ≡ 1 → b ≡ 4 → a ≡ b → ⊥
    ended a b x y e = absurd (omega arith)

    no_init : (rank comm : ℕ) (sig : Signature) → slice_get (lines_of crossed rank) (both_at_wait.at rank) ≡ Some (Init comm sig) → ⊥
    no_init rank comm sig get = let e : Wait 0 ≡ Init comm sig = (next_is rank (Init comm sig) get).wait in absurd cc

-- ---- crossed initialisations

among_two : (P : ℕ → Type 0) → P 0 → P 1 → (q : ℕ) → is_among q (0 ∷ 1 ∷ []) ≡ true → P q
among_two P zero one q among = go (eqb 0 q) refl among
  where
    second : (b : Bool) → eqb 1 q ≡ b → (b || false) ≡ true → P q
    second true is e = subst P (eqb-true 1 q is) one
    second false is e = absurd (false≢true e)

    go : (b : Bool) → eqb 0 q ≡ b → (b || is_among q (1 ∷ [])) ≡ true → P q
    go true is e = subst P (eqb-true 0 q is) zero
    go false is e = second (eqb 1 q) refl e

abbrev at_beginning : ℕ → ℕ
at_beginning rank = 0

abbrev first_end : ℕ → ℕ
first_end = put (put (put at_beginning 0 1) 0 2) 0 3

abbrev both_end : ℕ → ℕ
both_end = put (put (put first_end 1 1) 1 2) 1 3

inits_pass : (hears : Hearing) (g : Setting) → Passes (only hears) g (lines_of inits) both_end
inits_pass hears g =
    passes.one_more {at = put (put first_end 1 1) 1 2} 1 (WaitAll (0 ∷ 1 ∷ []))
    (passes.one_more {at = put first_end 1 1} 1 (Init 0 barrier)
    (passes.one_more {at = first_end} 1 (Init 1 barrier)
    (passes.one_more {at = put (put at_beginning 0 1) 0 2} 0 (WaitAll (0 ∷ 1 ∷ []))
    (passes.one_more {at = put at_beginning 0 1} 0 (Init 1 barrier)
    (passes.one_more {at = at_beginning} 0 (Init 0 barrier) passes.none refl (λ holds. absurd (false≢true holds)))
    refl (λ holds. absurd (false≢true holds)))
    refl (among_two (λ q. IsFree hears g (sketches (lines_of inits) (put (put at_beginning 0 1) 0 2)) 0 q) (inl (inl refl)) (inl (inl refl))))
    refl (λ holds. absurd (false≢true holds)))
    refl (λ holds. absurd (false≢true holds)))
    refl (among_two (λ q. IsFree hears g (sketches (lines_of inits) (put (put first_end 1 1) 1 2)) 1 q) (inl (inl refl)) (inl (inl refl)))

inits_end : (rank : ℕ) → both_end rank ≡ length (lines_of inits rank)
inits_end rank = go (cases_eq rank 0) (cases_eq rank 1)
  where
    go : (rank ≡ 0) ⊎ (rank ≡ 0 → ⊥) → (rank ≡ 1) ⊎ (rank ≡ 1 → ⊥) → both_end rank ≡ length (lines_of inits rank)
    go (inl e) y = subst (λ rank. both_end rank ≡ length (lines_of inits rank)) (sym e) refl
    go (inr d) (inl e) = subst (λ rank. both_end rank ≡ length (lines_of inits rank)) (sym e) refl
    go (inr d) (inr b) =
        let none : ltb rank 2 ≡ false = le-ltb rank 2 (omega arith) in
        put_other (put (put first_end 1 1) 1 2) 1 3 rank b ∙ (put_other (put first_end 1 1) 1 2 rank b ∙ (put_other first_end 1 1 rank b
        ∙ (put_other (put (put at_beginning 0 1) 0 2) 0 3 rank d
        ∙ (put_other (put at_beginning 0 1) 0 2 rank d ∙ (put_other at_beginning 0 1 rank d ∙ rw none refl)))))

pub crossed_inits_never_stall_by : CrossedInitsNeverStallBy
crossed_inits_never_stall_by hears g e = passes_dont_stall_by hears g (lines_of inits) both_end (inits_pass hears g) inits_end
