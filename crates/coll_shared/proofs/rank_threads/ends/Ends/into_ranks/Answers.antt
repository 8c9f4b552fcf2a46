use Rattle.std.proofs.Common.{◌≡◌, List, Option, Some, ap, inr, rules, subst}
use Rattle.std.specs.Prelude.{Contains}
use Rattle.coll_kinds.specs.declared.refusal.Refusal.{Refusal}
use Rattle.coll_shared.proofs.rank_threads.ends.Ends.into_ranks.Goals as goal

-- the refusal was found among those of the progress threads
pub returns-in-Some-clause-refused : goal.returns-in-Some-clause-refused
returns-in-Some-clause-refused g c =
    let found : Contains c.self.inside.workers.items (Some c.in-Some.why) = search rules in
    inr (subst (λ (ends : List (Option Refusal)). Contains ends (Some c.in-Some.why)) (ap (λ h. h.workers) c.self.view_is) found)
