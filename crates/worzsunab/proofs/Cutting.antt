-- Groups that are cut off one after the other.
use Rattle.std.proofs.Common.{◌≡◌, ◌∙◌, sym, ap, ◌++◌, ◌+◌, ◌<◌, ℕ, suc, arith, List, [], ◌∷◌, length, map, take}
use Rattle.std.specs.Prelude.{Vec}
use Rattle.std.specs.Global.{Global}
use Rattle.std.specs.List.{concat, IsSplitAt}
use Rattle.std.proofs.Math.Seq.{take-suc}
use Rattle.std.proofs.Math.ListN.{get_or}
use Rattle.std.proofs.lemmas.List.{append_assoc, append-nil, map-append, take-append-drop}
use Rattle.std.proofs.lemmas.List.Folds.{concat-append}
use Rattle.coll_core.specs.Communicators.{groups_seen}

-- the lengths of one group more
pub lengths-more : (done : List (Vec ℕ Global)) (group : Vec ℕ Global) (sizes : List ℕ) (i : ℕ) → i < length sizes
    → map (λ g. length g) (groups_seen done) ≡ take i sizes → length group.items ≡ get_or sizes i 0
    → map (λ g. length g) (groups_seen (done ++ group ∷ [])) ≡ take (i + 1) sizes
lengths-more done group sizes i low so_far long =
    let next : suc i ≡ i + 1 = omega arith in
    ap (λ l. map (λ g. length g) l) (map-append (λ (g : Vec ℕ Global). g.items) done (group ∷ []))
    ∙ map-append (λ (g : List ℕ). length g) (groups_seen done) (group.items ∷ [])
    ∙ ap (λ l. l ++ length group.items ∷ []) so_far
    ∙ ap (λ n. take i sizes ++ n ∷ []) long
    ∙ sym (take-suc sizes i 0 low)
    ∙ ap (λ n. take n sizes) next

-- the members of one group more, with those after it
pub members-more : (done : List (Vec ℕ Global)) (group : Vec ℕ Global) (rest after : List ℕ)
    → group.items ++ after ≡ rest
    → concat (groups_seen (done ++ group ∷ [])) ++ after ≡ concat (groups_seen done) ++ rest
members-more done group rest after split =
    ap (λ l. concat l ++ after) (map-append (λ (g : Vec ℕ Global). g.items) done (group ∷ []))
    ∙ ap (λ l. l ++ after) (concat-append (groups_seen done) (group.items ∷ []))
    ∙ ap (λ l. (concat (groups_seen done) ++ l) ++ after) (append-nil group.items)
    ∙ append_assoc (concat (groups_seen done)) group.items after
    ∙ ap (λ l. concat (groups_seen done) ++ l) split

pub cut_more : (done pushed : List (Vec ℕ Global)) (group : Vec ℕ Global) (front after rest members sizes : List ℕ) (i size : ℕ)
    → pushed ≡ done ++ group ∷ [] → group.items ≡ front → IsSplitAt rest size front after → size ≡ get_or sizes i 0 → i < length sizes
    → (map (λ g. length g) (groups_seen done) ≡ take i sizes) × (concat (groups_seen done) ++ rest ≡ members)
    → (map (λ g. length g) (groups_seen pushed) ≡ take (i + 1) sizes) × (concat (groups_seen pushed) ++ after ≡ members)
cut_more done pushed group front after rest members sizes i size pushed_is group_is (_, front_is, after_is, front_len, _) size_is low (so_far, whole) = (
  ap (λ l. map (λ g. length g) (groups_seen l)) pushed_is
      ∙ lengths-more done group sizes i low so_far (ap (λ l. length l) group_is ∙ front_len ∙ size_is),
  ap (λ l. concat (groups_seen l) ++ after) pushed_is
      ∙ members-more done group rest after (ap (λ l. l ++ after) (group_is ∙ front_is) ∙ ap (λ l. take size rest ++ l) after_is ∙ take-append-drop size rest)
      ∙ whole,
)
