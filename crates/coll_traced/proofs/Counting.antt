-- A count for each rank.
use Rattle.std.proofs.Common.{ℕ, Bool, [], replicate}
use Rattle.std.proofs.lemmas.List.{get_or-replicate, length-replicate}
use Rattle.coll_machine.specs.Entries.{Entry}
use Rattle.coll_traced.specs.Closings.{AreCounts}

-- of no entries
pub none_counted : (by : ℕ → Entry → Bool) → AreCounts by [] (replicate 256 0)
none_counted by =
    let ranks : ℕ = 256 in
    let none : ℕ = 0 in
    record { all = length-replicate ranks none; each = λ rank low. get_or-replicate ranks rank none none low }
