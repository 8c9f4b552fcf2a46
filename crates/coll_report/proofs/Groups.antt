-- Two lists of groups are the same where their ranks are.
use Rattle.std.proofs.Common.{◌≡◌, ℕ, Bool, ◌&&◌, List, [], ◌∷◌, refl, ap, ◌∙◌, Vec}
use Rattle.std.specs.Bool.{Decides}
use Rattle.std.specs.Cmp.Lexicographic.{pointwise}
use Rattle.std.specs.Global.{Global}
use Rattle.std.specs.Str.{bytes_eq}
use Rattle.std.proofs.lemmas.Slice.Eq.{bytes_eq-Decides, slice_eq-Decides}
use Rattle.coll_report.specs.Views.{groups_seen}

abbrev same : Vec ℕ Global → Vec ℕ Global → Bool
same x y = bytes_eq x.items y.items

pointwise-groups_seen : (xs ys : List (Vec ℕ Global))
    → pointwise same xs ys ≡ pointwise bytes_eq (groups_seen xs) (groups_seen ys)
pointwise-groups_seen [] [] = refl
pointwise-groups_seen [] (y ∷ ys) = refl
pointwise-groups_seen (x ∷ xs) [] = refl
pointwise-groups_seen (x ∷ xs) (y ∷ ys) = ap (λ rest. bytes_eq x.items y.items && rest) (pointwise-groups_seen xs ys)

pub same_groups-Decides : (xs ys : List (Vec ℕ Global)) (answer : Bool) → answer ≡ pointwise same xs ys
    → Decides answer (groups_seen xs ≡ groups_seen ys)
same_groups-Decides xs ys answer is =
    slice_eq-Decides bytes_eq-Decides (groups_seen xs) (groups_seen ys) answer (is ∙ pointwise-groups_seen xs ys)
