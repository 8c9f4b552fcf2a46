-- How the threads of an engine's ranks end.
use Rattle.std.specs.Prelude.{List, [], ◌∷◌}

-- each of the tasks ended so, in their order
abbrev pub AreEnds : {K T : Type 0} → (K → T → Type 0) → List K → List T → Type 0
AreEnds IsEnd [] [] = Unit {0}
AreEnds IsEnd (task ∷ tasks) (end ∷ ends) = IsEnd task end × AreEnds IsEnd tasks ends
AreEnds IsEnd [] (end ∷ ends) = ⊥
AreEnds IsEnd (task ∷ tasks) [] = ⊥
