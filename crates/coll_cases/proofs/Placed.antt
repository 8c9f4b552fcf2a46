-- Ranks are a job's ranks where one has another command in the place of a call, and that is fixed in the job.
use Rattle.std.proofs.Common.{◌≡◌, ℕ, zero, suc, ◌⊎◌, inl, inr, true, List, [], ◌∷◌, set, Option, Some, None, refl, sym, ap, subst, ◌∙◌}
use Rattle.std.proofs.Common.{length-set}
use Rattle.std.proofs.lemmas.Option.{same_Some}
use Rattle.std.specs.Prelude.{slice_get, IfSome}
use Rattle.coll_parser.specs.declared.command.Command.{Command}
use Rattle.coll_parser.specs.declared.command.Command.TheVariants.{WaitAll}
use Rattle.coll_parser.specs.Histories.{History, commands_of}
use Rattle.coll_verdict.specs.declared.known.KnownRequest.{KnownRequest}
use Rattle.coll_verdict.specs.declared.stood.Stood.{Stood}
use Rattle.coll_verdict.specs.Code.{IsAhead, IsSketch, IsStood, AreStood}
use Rattle.coll_verdict.specs.Sketches.{blank, sketched_if, sketch_at}
use Rattle.coll_verdict.proofs.Listed.{some_at, get_changed}
use Rattle.coll_verdict.proofs.Telling.{is_blank}
use Rattle.coll_cases.specs.Code.{IsReset, Puts}
use Rattle.coll_cases.specs.Outcomes.{is_open, fixed}
use Rattle.coll_cases.proofs.Fixing.{commands_own, commands_other}

set_set : {X : Type 0} (xs : List X) (i : ℕ) (a b : X) → set (set xs i a) i b ≡ set xs i b
set_set [] i a b = refl
set_set (x ∷ xs) zero a b = refl
set_set {X} (x ∷ xs) (suc i) a b = ap (λ (ys : List X). x ∷ ys) (set_set xs i a b)

set_own : {X : Type 0} (xs : List X) (i : ℕ) (a : X) → slice_get xs i ≡ Some a → set xs i a ≡ xs
set_own [] i a e = refl
set_own {X} (x ∷ xs) zero a e = ap (λ (y : X). y ∷ xs) (sym (same_Some x a e))
set_own {X} (x ∷ xs) (suc i) a e = ap (λ (ys : List X). x ∷ ys) (set_own xs i a e)

-- before its first command nothing is known of a rank's requests
first_sketch : (cs : List Command) (y : Stood) → y.stand ≡ 0 → y.requests.items ≡ [] → IsSketch y.requests.items (sketch_at cs y.stand)
first_sketch cs y stand none =
    subst (λ (n : ℕ). IsSketch y.requests.items (sketch_at cs n)) (sym stand)
    (subst (λ (xs : List KnownRequest). IsSketch xs blank) (sym none) is_blank)

-- one of the ranks is exchanged
stood_set : (h : History) (xs : List Stood) (rank : ℕ) (y : Stood) → AreStood h xs → IsStood h rank y → AreStood h (set xs rank y)
stood_set h xs rank y s own = record { ranks = length-set xs rank y ∙ s.ranks; each = λ r. each r (slice_get (set xs rank y) r) refl }
  where
    each : (r : ℕ) (o : Option Stood) → slice_get (set xs rank y) r ≡ o → IfSome o (IsStood h r)
    each r None e = tt
    each r (Some z) e = go (get_changed xs rank y r z e)
      where
        go : ((r ≡ rank) × (y ≡ z)) ⊎ ((r ≡ rank → ⊥) × (slice_get xs r ≡ Some z)) → IsStood h r z
        go (inl a) = subst (IsStood h r) a.1 (subst (λ (r : ℕ). IsStood h r y) (sym a.0) own)
        go (inr a) = some_at (IsStood h r) (slice_get xs r) z (s.each r) a.1

-- a rank goes back to its beginning,
pub reset_stood : (h : History) (xs : List Stood) (rank : ℕ) (x y : Stood) → slice_get xs rank ≡ Some x → IsReset x y → AreStood h xs
    → AreStood h (set xs rank y)
reset_stood h xs rank x y at z s = stood_set h xs rank y s (record {
  rank_is = z.rank_is ∙ was.rank_is;
  commands = z.commands ∙ was.commands;
  sketched = first_sketch (commands_of h rank) y z.stand z.requests;
})
  where
    was : IsStood h rank x
    was = some_at (IsStood h rank) (slice_get xs rank) x (s.each rank) at

-- or goes on
pub ahead_stood : (h : History) (xs : List Stood) (rank : ℕ) (x y : Stood) → slice_get xs rank ≡ Some x → IsAhead x y → AreStood h xs
    → AreStood h (set xs rank y)
ahead_stood h xs rank x y at ahead s = stood_set h xs rank y s (record {
  rank_is = ahead.rank_is ∙ was.rank_is;
  commands = ahead.commands ∙ was.commands;
  sketched = subst (λ (n : ℕ). IsSketch y.requests.items (sketch_at (commands_of h rank) n)) (sym ahead.stand)
      (subst (IsSketch y.requests.items) there (ahead.sketched (sketch_at (commands_of h rank) x.stand) was.sketched));
})
  where
    was : IsStood h rank x
    was = some_at (IsStood h rank) (slice_get xs rank) x (s.each rank) at

    there : sketched_if (slice_get x.commands.items x.stand) (sketch_at (commands_of h rank) x.stand) ≡ sketch_at (commands_of h rank) (suc x.stand)
    there = ap (λ (cs : List Command). sketched_if (slice_get cs x.stand) (sketch_at (commands_of h rank) x.stand)) was.commands

-- ---- with a call fixed

module _ (h : History) (rank place : ℕ) (c : Command) (out : List ℕ) (get : slice_get (commands_of h rank) place ≡ Some c) (choice : is_open c ≡ true) where
  other_fixed : (r : ℕ) (z : Stood) → (r ≡ rank → ⊥) → IsStood h r z → IsStood (fixed h rank place out) r z
  other_fixed r z off s = record {
    rank_is = s.rank_is;
    commands = s.commands ∙ sym (commands_other h rank r place out off);
    sketched = subst (λ (cs : List Command). IsSketch z.requests.items (sketch_at cs z.stand)) (sym (commands_other h rank r place out off)) s.sketched;
  }

  other_free : (r : ℕ) (z : Stood) → (r ≡ rank → ⊥) → IsStood (fixed h rank place out) r z → IsStood h r z
  other_free r z off s = record {
    rank_is = s.rank_is;
    commands = s.commands ∙ commands_other h rank r place out off;
    sketched = subst (λ (cs : List Command). IsSketch z.requests.items (sketch_at cs z.stand)) (commands_other h rank r place out off) s.sketched;
  }

  -- the call's rank waits for what it completes,
  pub put_stood : (xs ys : List Stood) → Puts xs ys rank place (WaitAll out) → AreStood h xs → AreStood (fixed h rank place out) ys
  put_stood xs ys p s = subst (AreStood (fixed h rank place out)) (sym p.is)
      (record { ranks = length-set xs rank p.new ∙ s.ranks; each = λ r. each r (slice_get (set xs rank p.new) r) refl })
    where
      was : IsStood h rank p.old
      was = some_at (IsStood h rank) (slice_get xs rank) p.old (s.each rank) p.at

      own : IsStood (fixed h rank place out) rank p.new
      own = record {
        rank_is = p.put.rank_is ∙ was.rank_is;
        commands = p.put.commands
            ∙ (ap (λ (cs : List Command). set cs place (WaitAll out)) was.commands ∙ sym (commands_own h rank place out c get choice));
        sketched = first_sketch (commands_of (fixed h rank place out) rank) p.new p.put.stand p.put.requests;
      }

      each : (r : ℕ) (o : Option Stood) → slice_get (set xs rank p.new) r ≡ o → IfSome o (IsStood (fixed h rank place out) r)
      each r None e = tt
      each r (Some z) e = go (get_changed xs rank p.new r z e)
        where
          go : ((r ≡ rank) × (p.new ≡ z)) ⊎ ((r ≡ rank → ⊥) × (slice_get xs r ≡ Some z)) → IsStood (fixed h rank place out) r z
          go (inl a) = subst (IsStood (fixed h rank place out) r) a.1 (subst (λ (r : ℕ). IsStood (fixed h rank place out) r p.new) (sym a.0) own)
          go (inr a) = other_fixed r z a.0 (some_at (IsStood h r) (slice_get xs r) z (s.each r) a.1)

  -- and the call comes back
  pub back_stood : (xs ys : List Stood) → Puts xs ys rank place c → AreStood (fixed h rank place out) xs → AreStood h ys
  back_stood xs ys p s = subst (AreStood h) (sym p.is)
      (record { ranks = length-set xs rank p.new ∙ s.ranks; each = λ r. each r (slice_get (set xs rank p.new) r) refl })
    where
      was : IsStood (fixed h rank place out) rank p.old
      was = some_at (IsStood (fixed h rank place out) rank) (slice_get xs rank) p.old (s.each rank) p.at

      own : IsStood h rank p.new
      own = record {
        rank_is = p.put.rank_is ∙ was.rank_is;
        commands = p.put.commands
            ∙ (ap (λ (cs : List Command). set cs place c) (was.commands ∙ commands_own h rank place out c get choice)
            ∙ (set_set (commands_of h rank) place (WaitAll out) c ∙ set_own (commands_of h rank) place c get));
        sketched = first_sketch (commands_of h rank) p.new p.put.stand p.put.requests;
      }

      each : (r : ℕ) (o : Option Stood) → slice_get (set xs rank p.new) r ≡ o → IfSome o (IsStood h r)
      each r None e = tt
      each r (Some z) e = go (get_changed xs rank p.new r z e)
        where
          go : ((r ≡ rank) × (p.new ≡ z)) ⊎ ((r ≡ rank → ⊥) × (slice_get xs r ≡ Some z)) → IsStood h r z
          go (inl a) = subst (IsStood h r) a.1 (subst (λ (r : ℕ). IsStood h r p.new) (sym a.0) own)
          go (inr a) = other_free r z a.0 (some_at (IsStood (fixed h rank place out) r) (slice_get xs r) z (s.each r) a.1)
