-- Where nothing that a call may complete lets a run stall, none stalls.
use Rattle.std.proofs.Common.{◌≡◌, ℕ, zero, suc, ◌<◌, ◌≤◌, ◌⊎◌, inl, inr, Bool, true, cond, ltb, List, [], ◌∷◌, length, set, Option, Some, Vec, Global}
use Rattle.std.proofs.Common.{refl, sym}
use Rattle.std.proofs.Common.{ap, subst, ◌∙◌, ◌+◌, arith, get_or, length-set, lt-ltb}
use Rattle.std.proofs.lemmas.Bool.{cases_eq}
use Rattle.std.proofs.lemmas.Option.{slice_get_within}
use Rattle.std.specs.Prelude.{slice_get, unwrap_or, IfSome}
use Rattle.std.specs.List.{list_all}
use Rattle.coll_kinds.specs.Needs.{needs}
use Rattle.coll_machine.specs.Settings.{Setting}
use Rattle.coll_parser.specs.declared.command.Command.{Command}
use Rattle.coll_parser.specs.declared.command.Command.TheVariants.{WaitAll}
use Rattle.coll_parser.specs.Code.{rows_view}
use Rattle.coll_parser.specs.Histories.{History, commands_of}
use Rattle.coll_verdict.specs.declared.stood.Stood.{Stood}
use Rattle.coll_verdict.specs.declared.library.Library.{Library}
use Rattle.coll_verdict.specs.declared.library.Library.TheVariants.{Any, Hears}
use Rattle.coll_verdict.specs.Checking.{all_stay, is_at_end}
use Rattle.coll_verdict.specs.Code.{AreAllTrue, AreStood, NeverFor, any, hears, stand_of}
use Rattle.coll_verdict.specs.Passes.{everyone, only}
use Rattle.coll_verdict.specs.Sketches.{sketch_at}
use Rattle.coll_verdict.specs.Stalls.{lines_of}
use Rattle.coll_verdict.specs.Waiting.{Hearing}
use Rattle.coll_verdict.proofs.Blocking.{within_stands, reaches_by_needs}
use Rattle.coll_verdict.proofs.Checked.{are_closed}
use Rattle.coll_verdict.proofs.Listed.{some_at, get_at}
use Rattle.coll_verdict.proofs.Ordered.{has_ended_so}
use Rattle.coll_cases.specs.declared.split.Split.{Split}
use Rattle.coll_cases.specs.Code.{AreRefuted, HavePassed, IsRefuted, IsShown, IsSplit, StaysFor}
use Rattle.coll_cases.specs.Outcomes.{is_open, IsOutcome, fixed}
use Rattle.coll_cases.proofs.Fixing.{commands_own, commands_other}
use Rattle.coll_cases.proofs.Splitting.{IsFixed, Refuted, RefutedBy, split_any, split_by}

-- ---- lines

get_set : {X : Type 0} (xs : List X) (i : ℕ) (a : X) → i < length xs → slice_get (set xs i a) i ≡ Some a
get_set [] i a low = absurd (omega arith)
get_set (x ∷ xs) zero a low = refl
get_set (x ∷ xs) (suc i) a low = let less : i < length xs = omega arith in get_set xs i a less

get_other : {X : Type 0} (xs : List X) (i : ℕ) (a : X) (j : ℕ) → (j ≡ i → ⊥) → slice_get (set xs i a) j ≡ slice_get xs j
get_other [] i a j off = refl
get_other (x ∷ xs) zero a zero off = absurd (off refl)
get_other (x ∷ xs) zero a (suc j) off = refl
get_other (x ∷ xs) (suc i) a zero off = refl
get_other (x ∷ xs) (suc i) a (suc j) off = get_other xs i a j (λ e. off (ap suc e))

module _ (h : History) (rank place : ℕ) (c : Command) (out : List ℕ) (get : slice_get (commands_of h rank) place ≡ Some c) (choice : is_open c ≡ true)
    (is_rank : ltb rank (unwrap_or h.ranks 0) ≡ true) where
  lines_are : lines_of h rank ≡ commands_of h rank
  lines_are = ap (λ (b : Bool). cond b (commands_of h rank) []) is_rank

  lines_own : lines_of (fixed h rank place out) rank ≡ set (lines_of h rank) place (WaitAll out)
  lines_own =
      ap (λ (b : Bool). cond b (commands_of (fixed h rank place out) rank) []) is_rank
      ∙ (commands_own h rank place out c get choice ∙ ap (λ (cs : List Command). set cs place (WaitAll out)) (sym lines_are))

  lines_other : (r : ℕ) → (r ≡ rank → ⊥) → lines_of (fixed h rank place out) r ≡ lines_of h r
  lines_other r off = ap (λ (cs : List Command). cond (ltb r (unwrap_or h.ranks 0)) cs []) (commands_other h rank r place out off)

  low : place < length (lines_of h rank)
  low = slice_get_within (lines_of h rank) place c (ap (λ (cs : List Command). slice_get cs place) lines_are ∙ get)

  is_fixed : IsFixed (lines_of h) (lines_of (fixed h rank place out)) rank place out
  is_fixed = record {
    there = ap (λ (cs : List Command). slice_get cs place) lines_own ∙ get_set (lines_of h rank) place (WaitAll out) low;
    others = λ r n off. others r n off (cases_eq r rank);
    lengths = λ r. lengths r (cases_eq r rank);
  }
    where
      others : (r n : ℕ) → ((r ≡ rank) × (n ≡ place) → ⊥) → (r ≡ rank) ⊎ (r ≡ rank → ⊥)
          → slice_get (lines_of (fixed h rank place out) r) n ≡ slice_get (lines_of h r) n
      others r n off (inr apart) = ap (λ (cs : List Command). slice_get cs n) (lines_other r apart)
      others r n off (inl same) =
          ap (λ (r : ℕ). slice_get (lines_of (fixed h rank place out) r) n) same
          ∙ (ap (λ (cs : List Command). slice_get cs n) lines_own
          ∙ (get_other (lines_of h rank) place (WaitAll out) n (λ e. off (same, e)) ∙ ap (λ (r : ℕ). slice_get (lines_of h r) n) (sym same)))

      lengths : (r : ℕ) → (r ≡ rank) ⊎ (r ≡ rank → ⊥) → length (lines_of (fixed h rank place out) r) ≡ length (lines_of h r)
      lengths r (inr apart) = ap length (lines_other r apart)
      lengths r (inl same) =
          ap (λ (r : ℕ). length (lines_of (fixed h rank place out) r)) same
          ∙ (ap length lines_own ∙ (length-set (lines_of h rank) place (WaitAll out) ∙ ap (λ (r : ℕ). length (lines_of h r)) (sym same)))

-- ---- a call that is split

module _ (h : History) (xs : List Stood) (split : Split) (is : IsSplit h xs split) where
  rank_low : ltb split.rank (unwrap_or h.ranks 0) ≡ true
  rank_low = lt-ltb split.rank (unwrap_or h.ranks 0) is.call.is_rank

  fixed_as : (out : List ℕ) → IsFixed (lines_of h) (lines_of (fixed h split.rank split.place out)) split.rank split.place out
  fixed_as out = is_fixed h split.rank split.place split.command out is.call.get is.call.choice rank_low

  lines_so : lines_of h split.rank ≡ commands_of h split.rank
  lines_so = lines_are h split.rank split.place split.command [] is.call.get is.call.choice rank_low

  line_is : slice_get (lines_of h split.rank) split.place ≡ Some split.command
  line_is = ap (λ (cs : List Command). slice_get cs split.place) lines_so ∙ is.call.get

  refuted : (library : Library) → AreRefuted library h split (length split.outcomes.items) → (out : List ℕ)
      → IsOutcome (sketch_at (lines_of h split.rank) split.place) split.command out → IsRefuted library h split out
  refuted library each out outcome =
      let found = is.covers out (subst (λ (cs : List Command). IsOutcome (sketch_at cs split.place) split.command out) lines_so outcome) in
      subst (IsRefuted library h split) found.3
      (some_at (λ (v : Vec ℕ Global). IsRefuted library h split v.items) (slice_get split.outcomes.items found.0) found.1
      (each found.0 (slice_get_within split.outcomes.items found.0 found.1 found.2)) found.2)

-- so it is with either library
pub never_split : (library : Library) (h : History) (xs : List Stood) (split : Split) → IsSplit h xs split → HavePassed library h xs
    → AreRefuted library h split (length split.outcomes.items) → NeverFor library h
never_split Any h xs split is passed each = λ g e.
    split_any g (lines_of h) split.rank split.place split.command (line_is h xs split is) is.call.choice (stand_of xs) is.low (passed.passes everyone any g e)
    (λ out outcome. (lines_of (fixed h split.rank split.place out), fixed_as h xs split is out, refute g e out (refuted h xs split is Any each out outcome)))
  where
    refute : (g : Setting) → g.groups ≡ h.groups → (out : List ℕ) → IsRefuted Any h split out
        → Refuted g (lines_of (fixed h split.rank split.place out)) split.rank split.place
    refute g e out (inl never) = inl (never g e)
    refute g e out (inr stays) = inr (stays g e)
never_split (Hears tables) h xs split is passed each = λ hearing are g e.
    split_by g (lines_of h) split.rank split.place split.command (line_is h xs split is) is.call.choice (stand_of xs) is.low hearing
    (passed.passes (only hearing) (hears tables refl are) g e)
    (λ out outcome. (
      lines_of (fixed h split.rank split.place out),
      fixed_as h xs split is out,
      refute hearing are g e out (refuted h xs split is (Hears tables) each out outcome),
    ))
  where
    refute : (hearing : Hearing) → AreAllTrue hearing tables.items → (g : Setting) → g.groups ≡ h.groups → (out : List ℕ) → IsRefuted (Hears tables) h split out
        → RefutedBy hearing g (lines_of (fixed h split.rank split.place out)) split.rank split.place
    refute hearing are g e out (inl never) = inl (never hearing are g e)
    refute hearing are g e out (inr stays) = inr (stays hearing are g e)

-- ---- a rank that stays

le_le : (a b c : ℕ) → a ≤ b → b ≤ c → a ≤ c
le_le a b c l m = omega arith

pub stays_so : (library : Library) (h : History) (xs : List Stood) (groups : List (Vec ℕ Global)) (rank place : ℕ) → AreStood h xs
    → rows_view groups ≡ h.groups → all_stay library xs groups ≡ true → stand_of xs rank ≤ place → StaysFor library h rank place
stays_so Any h xs groups rank place stood same all low = λ g e s run.
    le_le (s.at rank) (stand_of xs rank) place
    (within_stands needs g (lines_of h) (stand_of xs) (are_closed h xs groups stood needs Any refl g (e ∙ sym same) all) s
    (reaches_by_needs g (lines_of h) s run) rank)
    low
stays_so (Hears tables) h xs groups rank place stood same all low = λ hearing are g e s run.
    le_le (s.at rank) (stand_of xs rank) place
    (within_stands hearing g (lines_of h) (stand_of xs) (are_closed h xs groups stood hearing (Hears tables) are g (e ∙ sym same) all) s run rank) low

-- ---- one case more

lt_or_last : (i n : ℕ) → i < n + 1 → (i < n) ⊎ (i ≡ n)
lt_or_last i n low = go (cases_eq i n)
  where
    go : (i ≡ n) ⊎ (i ≡ n → ⊥) → (i < n) ⊎ (i ≡ n)
    go (inl e) = inr e
    go (inr d) = inl (less i n low d)
      where
        less : (i n : ℕ) → i < n + 1 → (i ≡ n → ⊥) → i < n
        less i n low d = omega arith

pub refuted_more : (library : Library) (h : History) (split : Split) (n : ℕ) (v : Vec ℕ Global) → n < length split.outcomes.items
    → v ≡ get_or split.outcomes.items n v → AreRefuted library h split n → IsRefuted library h split v.items → AreRefuted library h split (n + 1)
refuted_more library h split n v low is each last i under = go (lt_or_last i n under)
  where
    there : slice_get split.outcomes.items n ≡ Some v
    there = get_at split.outcomes.items n v low ∙ ap Some (sym is)

    go : (i < n) ⊎ (i ≡ n) → IfSome (slice_get split.outcomes.items i) (λ v. IsRefuted library h split v.items)
    go (inl less) = each i less
    go (inr e) = subst (λ (o : Option (Vec ℕ Global)). IfSome o (λ v. IsRefuted library h split v.items))
        (sym (ap (slice_get split.outcomes.items) e ∙ there)) last

pub none_refuted : (library : Library) (h : History) (split : Split) → AreRefuted library h split 0
none_refuted library h split i low = absurd (none i low)
  where
    none : (i : ℕ) → i < 0 → ⊥
    none i low = absurd (omega arith)

-- ---- what is shown

pub shown_at_ends : (library : Library) (h : History) (xs : List Stood) → HavePassed library h xs → list_all is_at_end xs ≡ true → IsShown library h xs
shown_at_ends library h xs p e = record { never = has_ended_so library h xs [] p.stood p.passes e; stood = p.stood }

pub shown_by_split : (library : Library) (h : History) (xs ys : List Stood) (split : Split) → IsSplit h xs split → HavePassed library h xs → AreStood h ys
    → AreRefuted library h split (length split.outcomes.items) → IsShown library h ys
shown_by_split library h xs ys split is p stood each = record { never = never_split library h xs split is p each; stood = stood }
