-- Arrows and combinations are as many as their actions, and the arrows' bytes are those of the Sends
use Rattle.std.proofs.Common.{◌≡◌, ℕ, ◌+◌, List, [], ◌∷◌, length, arith, refl, cond}
use Rattle.std.specs.Prelude.{filter_map, count_by, sum_by}
use Rattle.std.specs.List.{cons_option}
use Rattle.std.proofs.lemmas.List.Sums.{sum_by-cons}
use Rattle.coll_sched.specs.declared.action.Action.{Action}
use Rattle.coll_sched.specs.declared.action.Action.TheVariants.{Send, Copy, Combine, Recv}
use Rattle.coll_sched.specs.Families.{is_send}
use Rattle.coll_draw.specs.declared.arrow.Arrow.{Arrow}
use Rattle.coll_draw.specs.declared.mark.Mark.{Mark}
use Rattle.coll_draw.specs.declared.step.DrawnAction.{DrawnAction}
use Rattle.coll_draw.specs.Drawings.{arrow_of, combination_of, sent_by, combined_by}
use Rattle.coll_draw.specs.Counts.{is_combine, sent_len}

length-put_arrow : (j r : ℕ) (a : Action) (rest : List Arrow) → length (cons_option (sent_by j r a) rest) ≡ cond (is_send a) 1 0 + length rest
length-put_arrow j r (Send to from) rest = omega arith
length-put_arrow j r (Copy from into) rest = omega arith
length-put_arrow j r (Combine op ty left right into) rest = omega arith
length-put_arrow j r (Recv of into) rest = omega arith

pub length-arrows : (steps : List DrawnAction) → length (filter_map arrow_of steps) ≡ count_by (λ step. is_send step.action) steps
length-arrows [] = refl
length-arrows (step ∷ steps) =
    let here = length-put_arrow step.round step.member step.action (filter_map arrow_of steps) in
    let rest = length-arrows steps in
    let counts = sum_by-cons (λ (s : DrawnAction). cond (is_send s.action) 1 0) step steps in
    omega arith

length-put_combination : (j r : ℕ) (a : Action) (rest : List Mark) → length (cons_option (combined_by j r a) rest) ≡ cond (is_combine a) 1 0 + length rest
length-put_combination j r (Send to from) rest = omega arith
length-put_combination j r (Copy from into) rest = omega arith
length-put_combination j r (Combine op ty left right into) rest = omega arith
length-put_combination j r (Recv of into) rest = omega arith

pub length-combinations : (steps : List DrawnAction) → length (filter_map combination_of steps) ≡ count_by (λ step. is_combine step.action) steps
length-combinations [] = refl
length-combinations (step ∷ steps) =
    let here = length-put_combination step.round step.member step.action (filter_map combination_of steps) in
    let rest = length-combinations steps in
    let counts = sum_by-cons (λ (s : DrawnAction). cond (is_combine s.action) 1 0) step steps in
    omega arith

bytes-put_arrow : (j r : ℕ) (a : Action) (rest : List Arrow)
    → sum_by (λ arrow. arrow.len) (cons_option (sent_by j r a) rest) ≡ sent_len a + sum_by (λ arrow. arrow.len) rest
bytes-put_arrow j r (Send to from) rest =
    sum_by-cons (λ (arrow : Arrow). arrow.len) (record { round = j; sender = r; receiver = to; len = from.len }) rest
bytes-put_arrow j r (Copy from into) rest = omega arith
bytes-put_arrow j r (Combine op ty left right into) rest = omega arith
bytes-put_arrow j r (Recv of into) rest = omega arith

pub bytes-arrows : (steps : List DrawnAction) → sum_by (λ arrow. arrow.len) (filter_map arrow_of steps) ≡ sum_by (λ step. sent_len step.action) steps
bytes-arrows [] = refl
bytes-arrows (step ∷ steps) =
    let here = bytes-put_arrow step.round step.member step.action (filter_map arrow_of steps) in
    let rest = bytes-arrows steps in
    let sums = sum_by-cons (λ (s : DrawnAction). sent_len s.action) step steps in
    omega arith
