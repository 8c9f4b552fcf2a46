-- An engine that was just opened.
use Rattle.std.proofs.Common.{◌≡◌, ◌∙◌, ◌<◌, ℕ, All, List, [], length, map, unwrap_or, slice_get, None, ap, refl, sym, subst, Vec}
use Rattle.std.proofs.lemmas.List.{length-replicate}
use Rattle.std.specs.Global.{Global}
use Rattle.coll_kinds.specs.Groups.{IsGroup}
use Rattle.coll_arena.specs.Changes.{opened}
use Rattle.coll_arena.specs.Slots.{Slots, count}
use Rattle.coll_match.specs.Instances.{members, given, seats, mail}
use Rattle.coll_queues.specs.Postings.{groups_of, posts}
use Rattle.coll_machine.specs.Runs.{opened as machine_opened}
use Rattle.coll_machine.specs.Settings.{AreGroups}
use Rattle.coll_refinement.specs.Cores as tabled
use Rattle.coll_refinement.specs.Shown.{tables}
use Rattle.coll_refinement.specs.Tables.{machine}
use Rattle.coll_refinement.proofs.engine.Opened.{open_core}
use Rattle.coll_core.specs.declared.request.Request.{Request}
use Rattle.coll_core.specs.Configs.{IsFullGroup}
use Rattle.coll_core.proofs.opening.Groups.{are_groups}
use Rattle.coll_core.specs.Cores.{IsCore, Parts, seen, setting}
use Rattle.coll_core.specs.Requests.{shown}

-- the groups of an engine are those that its configuration had
pub have_groups : (p : Parts) (groups : List (Vec ℕ Global))
    → groups_of p.queues ≡ map (λ (group : Vec ℕ Global). group.items) groups
    → All (λ (group : Vec ℕ Global). IsFullGroup p.ranks group.items) groups → AreGroups (setting p)
have_groups p groups e all comm =
    subst (λ gs. IsGroup p.ranks (unwrap_or (slice_get gs comm) [])) (sym e) (are_groups p.ranks groups all comm)

counted : (a : Slots Request) (slots comms wear : ℕ) → a ≡ opened slots comms wear → count a ≡ slots
counted a slots comms wear e = ap count e ∙ length-replicate slots 0

again : (a : Slots Request) (slots comms wear n : ℕ) → a ≡ opened slots comms wear → n ≡ comms → opened (count a) n a.wear ≡ a
again a slots comms wear n e same =
    (λ i. opened (counted a slots comms wear e i) (same i) (ap (λ (b : Slots Request). b.wear) e i)) ∙ sym e

pub opened_core : (p : Parts) (slots comms wear : ℕ)
    → p.arena ≡ opened slots comms wear
    → 0 < wear
    → length (groups_of p.queues) ≡ comms
    → AreGroups (setting p)
    → posts p.queues ≡ (λ comm member. [])
    → members p.matches ≡ (λ k. None)
    → given p.matches ≡ (λ k member. None)
    → seats p.matches ≡ (λ k member. None)
    → mail p.matches ≡ (λ k from to round. None)
    → IsCore p × (seen p ≡ machine_opened)
opened_core p slots comms wear e worn same groups posted joined gave sat sent =
    subst
    (λ a. tabled.IsCore shown (setting p) a p.queues p.matches
    × (machine (tables shown (setting p) a p.queues p.matches) ≡ machine_opened))
    (again p.arena slots comms wear (length (groups_of p.queues)) e same)
    (open_core shown (setting p) p.queues p.matches (subst (λ n. 0 < n) (sym (ap (λ (b : Slots Request). b.wear) e)) worn)
    groups refl refl posted joined gave sat sent)
