-- Actions, one after the other.
use Rattle.std.proofs.Common.{◌≡◌, ◌∙◌, ℕ, suc, ◌+◌, Bool, true, false, refl, sym, subst, arith}
use Rattle.std.specs.Prelude.{if◌then◌else◌}
use Rattle.coll_machine.specs.Common.{Setting, Machine}
use Rattle.coll_core.specs.declared.stepped.Stepped.{Stepped}
use Rattle.coll_core.specs.declared.stepped.Stepped.TheVariants.{Quiet, Moved, Finished, Out}
use Rattle.coll_core.specs.Cores.{Parts, seen, setting}
use Rattle.coll_core.specs.Steps.{Acts, CommitSteps, CommitsOwn, Finishings, none, more, Goes, Steps, StepsBy, Stays, left, running}
use Rattle.coll_core.specs.Works.{Made, Piece, result_of}
use Rattle.coll_serial.specs.Progress.{Advances}

pub advances_none : (p : Parts) → Advances p p 0
advances_none p = record { set = refl; finishes = none; lowers = zero_on (left p) }
  where
    zero_on : (n : ℕ) → n + 0 ≡ n
    zero_on n = omega arith

finishings-append : (g : Setting) (m k n : Machine) → Finishings g m k → Finishings g k n → Finishings g m n
finishings-append g m k _ a none = a
finishings-append g m k _ a (more {mid} {n} before step) = more (finishings-append g m k mid a before) step

pub advances_then : (p r s : Parts) (a b : ℕ) → Advances p r a → Advances r s b → Advances p s (a + b)
advances_then p r s a b x y = record {
  set = y.set ∙ x.set;
  finishes = finishings-append (setting p) (seen p) (seen r) (seen s) x.finishes (subst (λ (g : Setting). Finishings g (seen r) (seen s)) x.set y.finishes);
  lowers = both (left p) (left r) (left s) x.lowers y.lowers;
}
  where
    both : (i j k : ℕ) → j + a ≡ i → k + b ≡ j → k + (a + b) ≡ i
    both i j k e d = omega (arith, e, d)

finishes_by : (finished : Bool) (g : Setting) (m n : Machine) → StepsBy finished g m n → Finishings g m n
finishes_by true g m n step = more none step
finishes_by false g m n same = subst (λ (k : Machine). Finishings g m k) (sym same) none

pub advances_one : (p r : Parts) (finished : Bool) → Goes p r finished → Advances p r 1
advances_one p r finished goes = record {
  set = goes.set;
  finishes = finishes_by finished (setting p) (seen p) (seen r) goes.steps;
  lowers = one_on (left p) (left r) goes.lowers;
}
  where
    one_on : (i j : ℕ) → suc j ≡ i → j + 1 ≡ i
    one_on i j e = omega (arith, e)

pub advances_stay : (p r : Parts) → Stays p r → Advances p r 0
advances_stay p r stays = record {
  set = stays.set;
  finishes = subst (λ (k : Machine). Finishings (setting p) (seen p) k) (sym stays.same) none;
  lowers = zero_on (left p) (left r) stays.keeps;
}
  where
    zero_on : (i j : ℕ) → j ≡ i → j + 0 ≡ i
    zero_on i j e = omega (arith, e)

pub advances_commit : (p r : Parts) (d : Made) (stepped : Stepped) → CommitSteps p r d stepped → Advances p r 1
advances_commit p r d Quiet h = absurd h
advances_commit p r d Moved h = advances_one p r false h.goes
advances_commit p r d Finished h = advances_one p r true h.goes
advances_commit p r d (Out w) h = absurd h

pub advances_own : (p r : Parts) (w : Piece) (stepped : Stepped) → CommitsOwn p r w stepped → Advances p r 1
advances_own p r w stepped h = advances_commit p r (record { piece = h.own; bytes = result_of h.own }) stepped h.steps

-- what a step did, from the engine's view on
pub quiet : (p v r : Parts) → p ≡ v → (s : Stepped) → s ≡ Quiet → Steps p r s → Advances v r 0
quiet p v r same s is h =
    let stays : r ≡ p = subst (λ (s : Stepped). Steps p r s) is h in
    subst (λ (k : Parts). Advances v k 0) (sym (stays ∙ same)) (advances_none v)

moved_in : (p r : Parts) (s : Stepped) → s ≡ Moved → Steps p r s → Advances p r 1
moved_in p r s is h =
    let acts : Acts p r false = subst (λ (s : Stepped). Steps p r s) is h in
    advances_one p r false acts.goes

finished_in : (p r : Parts) (s : Stepped) → s ≡ Finished → Steps p r s → Advances p r 1
finished_in p r s is h =
    let acts : Acts p r true = subst (λ (s : Stepped). Steps p r s) is h in
    advances_one p r true acts.goes

pub moved : (p v r : Parts) → p ≡ v → (s : Stepped) → s ≡ Moved → Steps p r s → Advances v r 1
moved p v r same s is h = subst (λ (k : Parts). Advances k r 1) same (moved_in p r s is h)

pub finished : (p v r : Parts) → p ≡ v → (s : Stepped) → s ≡ Finished → Steps p r s → Advances v r 1
finished p v r same s is h = subst (λ (k : Parts). Advances k r 1) same (finished_in p r s is h)

-- the combinations that are outside stay so
pub outside_moved : (p r : Parts) (s : Stepped) → s ≡ Moved → Steps p r s → running r ≡ running p
outside_moved p r s is h =
    let acts : Acts p r false = subst (λ (s : Stepped). Steps p r s) is h in
    acts.running_is

pub outside_finished : (p r : Parts) (s : Stepped) → s ≡ Finished → Steps p r s → running r ≡ running p
outside_finished p r s is h =
    let acts : Acts p r true = subst (λ (s : Stepped). Steps p r s) is h in
    acts.running_is

-- where one acted
pub acted : (p r : Parts) (b : Bool) → b ≡ true → Advances p r (if b then 1 else 0) → Advances p r 1
acted p r b is a = subst (λ (c : Bool). Advances p r (if c then 1 else 0)) is a
