-- Combinations that go out and come back.
use Rattle.std.proofs.Common.{◌≡◌, ℕ, List, true, false, Option, Some, Result, Ok, Err, sym, subst}
use Rattle.std.specs.Prelude.{IfOk, OnErr, OnOk, if◌then◌else◌}
use Rattle.coll_kinds.specs.declared.refusal.Refusal.{Refusal}
use Rattle.coll_core.specs.declared.stepped.Stepped.{Stepped}
use Rattle.coll_core.specs.declared.stepped.Stepped.TheVariants.{Quiet, Moved, Finished, Out}
use Rattle.coll_core.specs.Cores.{Parts}
use Rattle.coll_core.specs.Steps.{CommitsOwn, Returns, Steps}
use Rattle.coll_core.specs.Works.{Piece}
use Rattle.coll_serial.specs.declared.combination.Stage.{Stage}
use Rattle.coll_serial.specs.declared.combination.Stage.TheVariants.{Due}
use Rattle.coll_serial.specs.Combinations.{is_computed}
use Rattle.coll_serial.specs.Engines.{IsEngine}
use Rattle.coll_serial.specs.Progress.{Advances}
use Rattle.coll_serial.proofs.Advancing.{advances_one, advances_own, advances_stay}
use Rattle.coll_serial.proofs.Keeping.{kept_advanced, kept_same}

kept_stepped : (p r : Parts) (comms : List (List ℕ)) (xs : List ℕ) (s : Stepped) → IsEngine p comms xs → Steps p r s → IsEngine r comms xs
kept_stepped p r comms xs Quiet e same = subst (λ (k : Parts). IsEngine k comms xs) (sym same) e
kept_stepped p r comms xs Moved e acts = kept_advanced p r comms xs 1 e (advances_one p r false acts.goes)
kept_stepped p r comms xs Finished e acts = kept_advanced p r comms xs 1 e (advances_one p r true acts.goes)
kept_stepped p r comms xs (Out w) e out = kept_same p r comms xs e out.stays.set out.stays.same

-- an engine goes on to hold over a step
pub kept_step : (p r : Parts) (comms : List (List ℕ)) (xs : List ℕ) (result : Result Stepped Refusal) → IsEngine p comms xs
    → IfOk result (Steps p r) → OnErr result (r ≡ p) → IsEngine r comms xs
kept_step p r comms xs (Ok s) e steps err = kept_stepped p r comms xs s e steps
kept_step p r comms xs (Err why) e steps err = subst (λ (k : Parts). IsEngine k comms xs) (sym err) e

-- and where a combination comes back
pub kept_committed : (p r : Parts) (comms : List (List ℕ)) (xs : List ℕ) (w : Piece) (result : Result Stepped Refusal)
    → IsEngine p comms xs → IfOk result (CommitsOwn p r w) → OnErr result (r ≡ p) → IsEngine r comms xs
kept_committed p r comms xs w (Ok s) e own err = kept_advanced p r comms xs 1 e (advances_own p r w s own)
kept_committed p r comms xs w (Err why) e own err = subst (λ (k : Parts). IsEngine k comms xs) (sym err) e

pub advances_returned : (p v r : Parts) → p ≡ v → (w : Piece) (result : Result (Unit {0}) Refusal) → OnOk result (Returns p r w)
    → (c : Option Stage) → c ≡ Some (Due w) → OnOk result (Advances v r (if is_computed c then 1 else 0))
advances_returned p v r same w (Ok u) back c is =
    subst (λ (o : Option Stage). Advances v r (if is_computed o then 1 else 0)) (sym is)
    (subst (λ (k : Parts). Advances k r 0) same (advances_stay p r back.stays))
advances_returned p v r same w (Err why) back c is = tt
