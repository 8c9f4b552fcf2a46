-- What holds of an engine goes on to hold.
use Rattle.std.proofs.Common.{◌≡◌, ℕ, ◌<◌, List, length, get_or, Option, Some, None, Result, Ok, Err, sym, ap, subst, ◌∙◌}
use Rattle.std.specs.Prelude.{OnErr, OnOk, slice_get, slice_set}
use Rattle.std.proofs.lemmas.Option.{slice_get-get_or}
use Rattle.coll_kinds.specs.declared.refusal.Refusal.{Refusal}
use Rattle.coll_kinds.specs.declared.ticket.Ticket.{Ticket}
use Rattle.coll_machine.specs.Common.{Call, Init, Nothing, Planned, Post, Ticketed, MachineStep, StepsTo, Runs, Setting, Machine}
use Rattle.coll_core.specs.declared.outcome.Outcome.{Outcome}
use Rattle.coll_core.specs.Cores.{Parts, seen, setting, Unchanged}
use Rattle.coll_core.specs.declared.config.Config.{Config}
use Rattle.coll_core.specs.Configs.{idle, setting_by}
use Rattle.coll_core.specs.Steps.{Finishings}
use Rattle.coll_refinement.specs.Tables.{machine}
use Rattle.coll_complete.specs.Completing.{completion_if, freeing}
use Rattle.coll_serial.specs.Engines.{IsEngine}
use Rattle.coll_serial.specs.Lengths.{AreMeasured, IsLength}
use Rattle.coll_serial.specs.Progress.{Advances}
use Rattle.coll_serial.proofs.Measuring.{measured_finishings, measured_idle, measured_init, measured_posted, measured_started, measured_step}

pub looked_up : (xs : List ℕ) (i x : ℕ) → i < length xs → x ≡ get_or xs i x → slice_get xs i ≡ Some x
looked_up xs i x lt is = slice_get-get_or xs i x lt ∙ ap Some (sym is)

kept : (p r : Parts) (comms : List (List ℕ)) (xs ys : List ℕ) → IsEngine p comms xs → setting r ≡ setting p
    → AreMeasured (setting p) (seen r).state ys → IsEngine r comms ys
kept p r comms xs ys e set m = record {
  groups_are = e.groups_are ∙ ap (λ (g : Setting). g.groups) (sym set);
  measured = subst (λ (g : Setting). AreMeasured g (seen r).state ys) (sym set) m;
}

pub kept_same : (p r : Parts) (comms : List (List ℕ)) (xs : List ℕ) → IsEngine p comms xs → setting r ≡ setting p → seen r ≡ seen p → IsEngine r comms xs
kept_same p r comms xs e set same = kept p r comms xs xs e set (subst (λ (m : Machine). AreMeasured (setting p) m.state xs) (sym same) e.measured)

pub seen_same : (p r : Parts) → Unchanged p r → seen r ≡ seen p
seen_same p r u = ap machine u.tables_is

pub kept_unchanged : (p r : Parts) (comms : List (List ℕ)) (xs : List ℕ) → IsEngine p comms xs → Unchanged p r → IsEngine r comms xs
kept_unchanged p r comms xs e u = kept_same p r comms xs e u.setting_is (seen_same p r u)

pub kept_posted : (p r : Parts) (comms : List (List ℕ)) (xs : List ℕ) (rank comm : ℕ) (plan : Planned) (bytes : List ℕ) (t : Ticket) (len : ℕ)
    → IsEngine p comms xs → setting r ≡ setting p
    → StepsTo (setting p) (seen p) (Post rank comm plan bytes) (Ticketed t) (seen r) → IsLength plan len → IsEngine r comms (slice_set xs t.slot len)
kept_posted p r comms xs rank comm plan bytes t len e set step l =
    kept p r comms xs (slice_set xs t.slot len) e set (measured_posted (setting p) (seen p) (seen r) rank comm plan bytes t xs len step l e.measured)

pub kept_inited : (p r : Parts) (comms : List (List ℕ)) (xs : List ℕ) (rank comm : ℕ) (plan : Planned) (t : Ticket) (len : ℕ)
    → IsEngine p comms xs → setting r ≡ setting p
    → MachineStep (setting p) (seen p) (Init rank comm plan) (Ticketed t) (seen r) → IsLength plan len → IsEngine r comms (slice_set xs t.slot len)
kept_inited p r comms xs rank comm plan t len e set step l =
    kept p r comms xs (slice_set xs t.slot len) e set (measured_init (setting p) (seen p) (seen r) rank comm plan t xs len step l e.measured)

pub kept_started : (p r : Parts) (comms : List (List ℕ)) (xs : List ℕ) (call : Call) → IsEngine p comms xs → setting r ≡ setting p
    → StepsTo (setting p) (seen p) call Nothing (seen r) → IsEngine r comms xs
kept_started p r comms xs call e set step = kept p r comms xs xs e set (measured_started (setting p) (seen p) (seen r) call xs step e.measured)

measured_freeing : (g : Setting) (m n : Machine) (rank : ℕ) (r : Option Ticket) (xs : List ℕ) → Runs g m (freeing rank r) n
    → AreMeasured g m.state xs → AreMeasured g n.state xs
measured_freeing g m n rank None xs runs a = subst (λ (k : Machine). AreMeasured g k.state xs) runs a
measured_freeing g m n rank (Some t) xs (mid, step, same) a = subst (λ (k : Machine). AreMeasured g k.state xs) same (measured_step g m mid _ _ xs tt step a)

pub kept_freed : (p r : Parts) (comms : List (List ℕ)) (xs : List ℕ) (rank : ℕ) (request after : Option Ticket) (result : Result (Unit {0}) Refusal)
    → IsEngine p comms xs → setting r ≡ setting p → OnOk result (Runs (setting p) (seen p) (freeing rank request) (seen r))
    → OnErr result ((r ≡ p) × (after ≡ request)) → IsEngine r comms xs
kept_freed p r comms xs rank request after (Ok u) e set runs err =
    kept p r comms xs xs e set (measured_freeing (setting p) (seen p) (seen r) rank request xs runs e.measured)
kept_freed p r comms xs rank request after (Err why) e set runs err = subst (λ (k : Parts). IsEngine k comms xs) (sym err.0) e

measured_completion : (g : Setting) (m n : Machine) (rank : ℕ) (r : Option Ticket) (o : Option Outcome) (xs : List ℕ)
    → Runs g m (completion_if rank r o) n → AreMeasured g m.state xs → AreMeasured g n.state xs
measured_completion g m n rank r None xs runs a = subst (λ (k : Machine). AreMeasured g k.state xs) runs a
measured_completion g m n rank None (Some o) xs runs a = subst (λ (k : Machine). AreMeasured g k.state xs) runs a
measured_completion g m n rank (Some t) (Some o) xs (mid, step, same) a =
    subst (λ (k : Machine). AreMeasured g k.state xs) same (measured_step g m mid _ _ xs tt step a)

pub kept_tested : (p r : Parts) (comms : List (List ℕ)) (xs : List ℕ) (rank : ℕ) (request : Option Ticket) (o : Option Outcome)
    → IsEngine p comms xs → setting r ≡ setting p
    → Runs (setting p) (seen p) (completion_if rank request o) (seen r) → IsEngine r comms xs
kept_tested p r comms xs rank request o e set runs =
    kept p r comms xs xs e set (measured_completion (setting p) (seen p) (seen r) rank request o xs runs e.measured)

-- some requests became Done, and nothing else changed that callers see
pub kept_finishings : (p r : Parts) (comms : List (List ℕ)) (xs : List ℕ) → IsEngine p comms xs → setting r ≡ setting p
    → Finishings (setting p) (seen p) (seen r) → IsEngine r comms xs
kept_finishings p r comms xs e set finishes = kept p r comms xs xs e set (measured_finishings (setting p) (seen p) (seen r) xs finishes e.measured)

pub kept_advanced : (p r : Parts) (comms : List (List ℕ)) (xs : List ℕ) (actions : ℕ) → IsEngine p comms xs → Advances p r actions → IsEngine r comms xs
kept_advanced p r comms xs actions e a = kept_finishings p r comms xs e a.set a.finishes

-- an engine that was just opened
pub opened : (core : Parts) (comms : List (List ℕ)) (xs : List ℕ) (config : Config) → setting core ≡ setting_by config
    → seen core ≡ idle → comms ≡ (setting_by config).groups → length xs ≡ config.slots → IsEngine core comms xs
opened core comms xs config set new groups many = record {
  groups_are = groups ∙ ap (λ (g : Setting). g.groups) (sym set);
  measured = measured_idle (setting core) (seen core).state xs (λ i. ap (λ (m : Machine). m.state.request i) new)
      (many ∙ ap (λ (g : Setting). g.slots) (sym set));
}
