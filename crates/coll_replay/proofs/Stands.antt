-- Where ranks stand.
use Rattle.std.proofs.Common.{◌≡◌, ◌⊎◌, inl, inr, ℕ, ◌+◌, ◌<◌, ◌≤◌, Bool, true, false, not, eqb-true}
use Rattle.std.proofs.Common.{eq-eqb, ◌||◌, List, [], ◌∷◌, length, Some, refl, sym, ap, ◌∙◌, arith}
use Rattle.std.proofs.Common.{zero, suc}
use Rattle.std.proofs.lemmas.Bool.{and_parts, cases_eq, cases_lt, not-true}
use Rattle.std.specs.Prelude.{slice_get, Vec}
use Rattle.std.specs.Global.{Global}
use Rattle.std.specs.List.{list_all, list_any, range_with_len}
use Rattle.std.proofs.lemmas.Option.{none-some, slice_get_past}
use Rattle.coll_machine.specs.Common.{Machine, Setting}
use Rattle.coll_parser.specs.declared.command.Command.{Command}
use Rattle.coll_parser.specs.declared.command.Command.TheVariants.{Post, Init, Start, Wait, Test, Free, WaitAny, WaitSome, WaitAll}
use Rattle.coll_verdict.specs.Standings.{Holding, Standing, AtEnd, is_active, is_done, is_pending}
use Rattle.coll_verdict.specs.Stalls.{Waits}
use Rattle.coll_verdict.specs.Stalls as stalls
use Rattle.coll_core.specs.Cores.{Parts, seen, setting}
use Rattle.coll_core.specs.Phases.{IsQuiet}
use Rattle.coll_deadlock.specs.CoreLaws.{QuietStalls}
use Rattle.coll_deadlock.specs.Runs.{AllWait}
use Rattle.coll_replay.specs.declared.completing.Survey.{Survey}
use Rattle.coll_replay.specs.declared.player.Player.{Player}
use Rattle.coll_replay.specs.Calls.{IsBlocked, IsSurvey, LacksDone}
use Rattle.coll_replay.specs.Playing.{AreLines, EndsThere, IsBlockedAt, StallsThere, at_in, commands_in, is_at_end, standing_of}
use Rattle.coll_replay.proofs.Sweeping.{any_among, none_among}

-- ---- one rank

pub lacks : (m : Machine) (h : Holding) (qs : List ℕ) (survey : Survey) → IsSurvey m h qs survey → survey.has_active ≡ true → survey.has_done ≡ false
    → LacksDone m h qs
lacks m h qs survey was active done =
    let some = any_among (λ q. is_active m (h.of q)) qs (sym was.active ∙ active) in
    record { q = some.0; among = some.1; active = some.2; none = none_among (λ q. is_done m (h.of q)) qs (sym was.done ∙ done) }

pub has_pending : (m : Machine) (h : Holding) (qs : List ℕ) (survey : Survey) → IsSurvey m h qs survey → survey.has_pending ≡ true → IsBlocked m h (WaitAll qs)
has_pending m h qs survey was pending = any_among (λ q. is_pending m (h.of q)) qs (sym was.pending ∙ pending)

or_false : (b : Bool) → (b || false) ≡ b
or_false true = refl
or_false false = refl

pub one_pending : (m : Machine) (h : Holding) (q : ℕ) (survey : Survey) → IsSurvey m h (q ∷ []) survey → survey.has_pending ≡ true → IsBlocked m h (Wait q)
one_pending m h q survey was pending = sym (or_false (is_pending m (h.of q))) ∙ (sym was.pending ∙ pending)

waits : (g : Setting) (lines : ℕ → List Command) (s : Standing) (rank : ℕ) (c : Command) → IsBlocked s.machine (s.holds rank) c → Waits g lines s rank c
waits g lines s rank (Wait q) b = stalls.wait q b
waits g lines s rank (WaitAll qs) b = stalls.wait_all qs b.0 b.1 b.2
waits g lines s rank (WaitSome qs) b = stalls.wait_some qs b.q b.among b.active b.none
waits g lines s rank (WaitAny qs) b = stalls.wait_any qs b.q b.among b.active b.none
waits g lines s rank (Post comm sig given) b = absurd b
waits g lines s rank (Init comm sig) b = absurd b
waits g lines s rank (Start q given) b = absurd b
waits g lines s rank (Test q) b = absurd b
waits g lines s rank (Free q) b = absurd b

-- ---- all ranks

pub none_past : (lines : List (Vec Command Global)) (rank : ℕ) (at : ℕ) (c : Command) → length lines ≤ rank
    → slice_get (commands_in (slice_get lines rank)) at ≡ Some c → ⊥
none_past lines rank at c far e =
    let nobody : commands_in (slice_get lines rank) ≡ [] = ap commands_in (slice_get_past lines rank far) in
    none-some c (sym (ap (λ (cs : List Command). slice_get cs at) nobody) ∙ e)

module _ (lines : List (Vec Command Global)) (players : List Player) where
  next_in : (f : ℕ → List Command) → AreLines lines f → (rank : ℕ) (c : Command) → slice_get (f rank) (at_in (slice_get players rank)) ≡ Some c
      → slice_get (commands_in (slice_get lines rank)) (at_in (slice_get players rank)) ≡ Some c
  next_in f are rank c e = ap (λ (cs : List Command). slice_get cs (at_in (slice_get players rank))) (are rank) ∙ e

  all_wait : (p : Parts) (f : ℕ → List Command) → AreLines lines f → ((rank : ℕ) → IsBlockedAt (seen p) lines players rank)
      → AllWait (setting p) f (standing_of (seen p) players)
  all_wait p f are blocked = record {
    waits = λ rank c e. waits (setting p) f (standing_of (seen p) players) rank c (blocked rank c (next_in f are rank c e));
    returns = λ rank comm sig e. blocked rank (Init comm sig) (next_in f are rank (Init comm sig) e);
  }

  short : (f : ℕ → List Command) (m : Machine) → AreLines lines f → (rank : ℕ) → is_at_end lines players rank ≡ false → AtEnd f (standing_of m players) → ⊥
  short f m are rank not_yet end =
      let is : is_at_end lines players rank ≡ true = eq-eqb (at_in (slice_get players rank)) (length (commands_in (slice_get lines rank))) (end rank
      ∙ ap length (sym (are rank))) in
      absurd cc

  pub stalls_there : (p : Parts) → QuietStalls p → IsQuiet p
      → list_any (λ rank. not (is_at_end lines players rank)) (range_with_len 0 (length lines)) ≡ true
      → ((rank : ℕ) → IsBlockedAt (seen p) lines players rank)
      → StallsThere lines p players
  stalls_there p law quiet some blocked f are apart run =
      let one = any_among (λ rank. not (is_at_end lines players rank)) (range_with_len 0 (length lines)) some in
      law f (standing_of (seen p) players) apart run quiet (all_wait p f are blocked) (short f (seen p) are one.0 (not-true
      (is_at_end lines players one.0) one.2))

  pub ends_there : length players ≡ length lines → ((rank : ℕ) → rank < length lines → is_at_end lines players rank ≡ true) → EndsThere lines players
  ends_there same ended f m are rank = go (cases_lt rank (length lines))
    where
      go : (rank < length lines) ⊎ (length lines ≤ rank) → at_in (slice_get players rank) ≡ length (f rank)
      go (inl low) = eqb-true (at_in (slice_get players rank)) (length (commands_in (slice_get lines rank))) (ended rank low) ∙ ap length (are rank)
      go (inr far) =
          let past : length players ≤ rank = omega arith in
          ap at_in (slice_get_past players rank past) ∙ (ap (λ o. length (commands_in o)) (sym (slice_get_past lines rank far)) ∙ ap length (are rank))

-- what is so of each rank below a number, past which there are no lines, is so of each
pub all_blocked : (m : Machine) (lines : List (Vec Command Global)) (players : List Player) (n : ℕ) → length lines ≤ n
    → ((k : ℕ) → k < n → IsBlockedAt m lines players k) → (rank : ℕ) → IsBlockedAt m lines players rank
all_blocked m lines players n far below rank = go (cases_lt rank n)
  where
    go : (rank < n) ⊎ (n ≤ rank) → IsBlockedAt m lines players rank
    go (inl low) = below rank low
    go (inr past) = λ c e. absurd (none_past lines rank (at_in (slice_get players rank)) c (omega arith) e)

all_range : (f : ℕ → Bool) (a n i : ℕ) → list_all f (range_with_len a n) ≡ true → a ≤ i → i < a + n → f i ≡ true
all_range f a zero i e low high = absurd (omega arith)
all_range f a (suc n) i e low high = go (λ l h. all_range f (a + 1) n i (and_parts (f a) (list_all f (range_with_len (a + 1) n)) e).1 l h) (cases_eq i a)
  where
    go : (a + 1 ≤ i → i < a + 1 + n → f i ≡ true) → (i ≡ a) ⊎ (i ≡ a → ⊥) → f i ≡ true
    go rest (inl x) = ap f x ∙ (and_parts (f a) (list_all f (range_with_len (a + 1) n)) e).0
    go rest (inr d) = rest (omega arith) (omega arith)

pub ended_below : (lines : List (Vec Command Global)) (players : List Player) → list_all (is_at_end lines players) (range_with_len 0 (length lines)) ≡ true
    → (rank : ℕ) → rank < length lines → is_at_end lines players rank ≡ true
ended_below lines players all rank low = all_range (is_at_end lines players) 0 (length lines) rank all (omega arith) (omega arith)
