-- Many steps.
use Rattle.std.proofs.Common.{◌≡◌, ◌∙◌, ◌+◌, ◌*◌, ◌<◌, ◌≤◌, ◌^◌, ℕ, suc, Bool, true, false, refl, sym, subst, arith}
use Rattle.coll_arena.specs.Slots.{count}
use Rattle.coll_arena.specs.Sound.{IsSound}
use Rattle.coll_machine.specs.Common.{Setting, Machine}
use Rattle.coll_refinement.proofs.tables.ActionsLeft.{little_left}
use Rattle.coll_core.specs.Cores.{IsCore, Parts, seen, setting, tables}
use Rattle.coll_core.specs.Steps.{Acts, Finishings, none, more, Makes, no_step, one_more, Ran, StepsBy, left}

pub ran_none : (p : Parts) → Ran p p 0
ran_none p = record { makes = no_step; set = refl; finishes = none; running_is = refl; lowers = zero_on (left p) }
  where
    zero_on : (n : ℕ) → n + 0 ≡ n
    zero_on n = omega arith

finished_more : (finished : Bool) (g h : Setting) (m mid n : Machine) → h ≡ g → Finishings g m mid → StepsBy finished h mid n → Finishings g m n
finished_more true g h m mid n e before step = more before (subst (λ k. StepsBy true k mid n) e step)
finished_more false g h m mid n e before same = subst (λ (k : Machine). Finishings g m k) (sym same) before

pub ran_more : (p r s : Parts) (steps : ℕ) (finished : Bool) → Ran p r steps → Acts r s finished → Ran p s (steps + 1)
ran_more p r s steps finished ran acts = record {
  makes = subst (λ n. Makes p n s) (suc_is steps) (one_more finished ran.makes acts);
  set = acts.goes.set ∙ ran.set;
  finishes = finished_more finished (setting p) (setting r) (seen p) (seen r) (seen s) ran.set ran.finishes acts.goes.steps;
  running_is = acts.running_is ∙ ran.running_is;
  lowers = one_less (left p) (left r) (left s) ran.lowers acts.goes.lowers;
}
  where
    suc_is : (n : ℕ) → suc n ≡ n + 1
    suc_is n = omega arith

    one_less : (i j k : ℕ) → j + steps ≡ i → suc k ≡ j → k + (steps + 1) ≡ i
    one_less i j k e d = omega (arith, e, d)

pub left_fits : (p v : Parts) → p ≡ v → IsCore p → IsSound p.arena → left v < 2 ^ 63
left_fits p v e core sound = subst (λ (z : Parts). left z < 2 ^ 63) e
    (few (left p) (count p.arena) (little_left (tables p) core.sound) sound.count_fits)
  where
    few : (n c : ℕ) → n ≤ 256 * c → c < 2 ^ 32 → n < 2 ^ 63
    few n c h k = omega (arith, h, k)

pub ran_fits : (i j steps : ℕ) → i < 2 ^ 63 → j + steps ≡ i → steps + 1 < 2 ^ 64
ran_fits i j steps h e = omega (arith, h, e)
