-- What a core did: a run of the machine, in one setting.
use Rattle.std.specs.Prelude.{◌≡◌, List, [], ◌∷◌, ◌++◌, refl}
use Rattle.std.proofs.Common.{subst, sym, ◌∙◌}
use Rattle.coll_machine.specs.Common.{Event, Runs, Setting, Machine}
use Rattle.coll_core.specs.Cores.{Parts, seen, setting}

abbrev pub DidOn : Parts → List Event → Parts → Type 0
DidOn s es t = (setting t ≡ setting s) × Runs (setting s) (seen s) es (seen t)

pub did_nothing_on : (s : Parts) → DidOn s [] s
did_nothing_on s = (refl, refl)

-- one run after the other
pub runs-append : (g : Setting) (es fs : List Event) (m k n : Machine) → Runs g m es k → Runs g k fs n
    → Runs g m (es ++ fs) n
runs-append g [] fs m k n r h = subst (λ (m : Machine). Runs g m fs n) (sym r) h
runs-append g (e ∷ es) fs m k n r h = (r.0, r.1, runs-append g es fs r.0 k n r.2 h)

pub did_more_on : (s t u : Parts) (es fs : List Event) → DidOn s es t → DidOn t fs u → DidOn s (es ++ fs) u
did_more_on s t u es fs h k = (
  k.0 ∙ h.0,
  runs-append (setting s) es fs (seen s) (seen t) (seen u) h.1
      (subst (λ (g : Setting). Runs g (seen t) fs (seen u)) h.0 k.1),
)
