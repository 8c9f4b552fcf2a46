-- All ports stay in their ranks' lines.
use Rattle.std.proofs.Common.{◌≡◌, ℕ, zero, suc, ◌<◌, ◌≤◌, ◌⊎◌, inl, inr, List, [], ◌∷◌, Some, refl, sym, ap, subst, ◌∙◌, arith}
use Rattle.std.proofs.lemmas.Bool.{cases_eq, cases_lt}
use Rattle.std.proofs.lemmas.Option.{none-some}
use Rattle.std.specs.Prelude.{replicate, slice_get, slice_set}
use Rattle.coll_parser.specs.declared.command.Command.{Command}
use Rattle.coll_verdict.specs.Standings.{beginning}
use Rattle.coll_traced.specs.Waits.{Awake}
use Rattle.coll_deadlock.specs.Lines.{IsAtLine, awake}
use Rattle.coll_deadlock.specs.PortLaws.{NotedAtLines, OpenAtLines, StayAtLines}
use Rattle.coll_deadlock.proofs.Staying.{stays_in_line}

awake_there : (n rank : ℕ) → rank < n → slice_get (replicate n Awake) rank ≡ Some Awake
awake_there zero rank low = absurd (omega arith)
awake_there (suc n) zero low = refl
awake_there (suc n) (suc rank) low = awake_there n rank (omega arith)

pub open_at_lines : OpenAtLines
open_at_lines lines n none rank c get = go (cases_lt rank n)
  where
    nothing : (list : List Command) → list ≡ [] → slice_get list 0 ≡ Some c → ⊥
    nothing list e is = none-some c (ap (λ (list : List Command). slice_get list 0) (sym e) ∙ is)

    go : (rank < n) ⊎ (n ≤ rank) → IsAtLine (replicate n Awake) beginning.machine rank (beginning.holds rank) c
    go (inl low) = record { wait = Awake; is = awake_there n rank low; in_line = awake c }
    go (inr past) = absurd (nothing (lines rank) (none rank past) get)

pub stay_at_lines : StayAtLines
stay_at_lines hears g lines s u waits run step each at rank c get = go (each rank)
  where
    go : (u.at rank ≡ s.at rank) ⊎ (slice_get waits rank ≡ Some Awake) → IsAtLine waits u.machine rank (u.holds rank) c
    go (inl same) =
        let w = at rank c (ap (slice_get (lines rank)) (sym same) ∙ get) in
        record { wait = w.wait; is = w.is; in_line = stays_in_line hears g lines s u rank c w.wait run step same w.in_line }
    go (inr is) = record { wait = Awake; is = is; in_line = awake c }

set_other : {X : Type 0} (xs : List X) (i j : ℕ) (x : X) → (j ≡ i → ⊥) → slice_get (slice_set xs i x) j ≡ slice_get xs j
set_other [] i j x differs = refl
set_other (y ∷ xs) zero zero x differs = absurd (differs refl)
set_other (y ∷ xs) zero (suc j) x differs = refl
set_other (y ∷ xs) (suc i) zero x differs = refl
set_other (y ∷ xs) (suc i) (suc j) x differs = set_other xs i j x (λ same. differs (ap suc same))

set_same : {X : Type 0} (xs : List X) (i : ℕ) (x y : X) → slice_get xs i ≡ Some y → slice_get (slice_set xs i x) i ≡ Some x
set_same [] i x y is = absurd (none-some y is)
set_same (z ∷ xs) zero x y is = refl
set_same (z ∷ xs) (suc i) x y is = set_same xs i x y is

pub noted_at_lines : NotedAtLines
noted_at_lines lines s waits rank wait line at other c get = go (cases_eq other rank)
  where
    go : (other ≡ rank) ⊎ (other ≡ rank → ⊥) → IsAtLine (slice_set waits rank wait) s.machine other (s.holds other) c
    go (inl same) =
        let w = at other c get in
        subst (λ (other : ℕ). IsAtLine (slice_set waits rank wait) s.machine other (s.holds other) c) (sym same)
        (record {
          wait = wait;
          is = set_same waits rank wait w.wait (ap (slice_get waits) (sym same) ∙ w.is);
          in_line = line c ((λ z. slice_get (lines (sym same z)) (s.at (sym same z))) ∙ get);
        })
    go (inr differs) =
        let w = at other c get in
        record { wait = w.wait; is = set_other waits rank other wait differs ∙ w.is; in_line = w.in_line }
