-- Which marks of a stall are right.
use Rattle.std.proofs.Common.{◌≡◌, ℕ, zero, suc, Bool, true, false, List, [], ◌∷◌, length, Some, inl, inr, refl, sym, ap, subst, ◌∙◌}
use Rattle.std.specs.Prelude.{replicate, slice_get, slice_set}
use Rattle.std.proofs.lemmas.Bool.{cases_eq}
use Rattle.std.proofs.lemmas.List.{length-replicate, length-set}
use Rattle.coll_machine.specs.Common.{Setting}
use Rattle.coll_traced.proofs.PortWaits.{slice_get-set_other}
use Rattle.coll_traced.specs.Stalls.{AreTold}
use Rattle.coll_traced.specs.Waits.{WaitFor, Awake}

-- a mark that is taken back isn't there
unmarked : (marks : List Bool) (i : ℕ) → slice_get (slice_set marks i false) i ≡ Some true → ⊥
unmarked [] i is = absurd cc
unmarked (m ∷ marks) zero is = absurd cc
unmarked (m ∷ marks) (suc i) is = unmarked marks i is

-- a port that waits anew isn't marked
pub told-put : (g : Setting) (waits : List WaitFor) (marks : List Bool) (rank : ℕ) (wait : WaitFor) → AreTold g waits marks
    → AreTold g (slice_set waits rank wait) (slice_set marks rank false)
told-put g waits marks rank wait are = record {
  ports = length-set waits rank wait ∙ are.ports;
  told = λ other there was marked. elim (cases_eq other rank) [
    | inl same ↦ absurd (unmarked marks rank (subst (λ (n : ℕ). slice_get (slice_set marks rank false) n ≡ Some true) same marked))
    | inr differs ↦ are.told other there
        (sym (slice_get-set_other waits rank other wait differs) ∙ was) (sym (slice_get-set_other marks rank other false differs) ∙ marked)
  ];
}

-- as it is where that is noted
pub told-by : (g : Setting) (waits new_waits : List WaitFor) (marks new_marks : List Bool) (rank : ℕ) (wait : WaitFor) → AreTold g waits marks
    → new_waits ≡ slice_set waits rank wait → new_marks ≡ slice_set marks rank false → AreTold g new_waits new_marks
told-by g waits new_waits marks new_marks rank wait are is none =
    subst (λ (ms : List Bool). AreTold g new_waits ms) (sym none)
    (subst (λ (ws : List WaitFor). AreTold g ws (slice_set marks rank false)) (sym is) (told-put g waits marks rank wait are))

-- nobody was told anything of an engine that was just opened
none_marked : (n i : ℕ) → slice_get (replicate n false) i ≡ Some true → ⊥
none_marked zero i is = absurd cc
none_marked (suc n) zero is = absurd cc
none_marked (suc n) (suc i) is = none_marked n i is

pub told-none : (g : Setting) (n : ℕ) (waits : List WaitFor) (marks : List Bool) → waits ≡ replicate n Awake → marks ≡ replicate n false → n ≡ g.ranks
    → AreTold g waits marks
told-none g n waits marks awake none is = record {
  ports = ap (λ (ws : List WaitFor). length ws) awake ∙ (length-replicate n Awake ∙ is);
  told = λ rank wait there marked. absurd (none_marked n rank (subst (λ (ms : List Bool). slice_get ms rank ≡ Some true) none marked));
}
