-- The member number of a rank.
use Rattle.std.proofs.Common.{◌≡◌, ℕ, ◌<◌, eqb, Some}
use Rattle.std.proofs.lemmas.Bool.{eqb-true}
use Rattle.std.proofs.lemmas.List.Quantifiers.{position-Some}
use Rattle.coll_kinds.specs.Groups.{member_of}
use Rattle.coll_machine.specs.Settings.{Setting, group, size, rank_of}

pub member_at : (g : Setting) (comm rank m : ℕ) → member_of rank (group g comm) ≡ Some m → (m < size g comm) × (rank_of g comm m ≡ rank)
member_at g comm rank m e =
    let h = position-Some (λ x. eqb x rank) (group g comm) m 0 e in
    (h.0, eqb-true (rank_of g comm m) rank h.1)
