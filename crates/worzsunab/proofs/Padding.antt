-- Counts with zeros after them.
use Rattle.std.proofs.Common.{◌≡◌, ◌∙◌, ◌++◌, ℕ, List, ap, length, drop, replicate}
use Rattle.std.proofs.lemmas.List.{drop-replicate}
use Rattle.worzsunab.specs.Calls.{padded}

pub padded_by : (front counts : List ℕ) → front ≡ counts → front ++ drop (length counts) (replicate 64 0) ≡ padded counts
padded_by front counts same =
    ap (λ (xs : List ℕ). xs ++ drop (length counts) (replicate 64 0)) same ∙ ap (λ (xs : List ℕ). counts ++ xs) (drop-replicate (length counts) 64 0)
