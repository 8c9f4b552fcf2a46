use Rattle.std.proofs.Common.{◌≡◌, ◌++◌, length, map, take}
use Rattle.std.specs.List.{concat}
use Rattle.coll_core.specs.Communicators.{groups_seen}
use Rattle.worzsunab.proofs.forms.groups_of.Given as goal

abbrev pub invariant-loop-size : goal.invariant-loop-size
invariant-loop-size l =
    (map (λ group. length group) (groups_seen l.groups.items) ≡ take l.size-index l.sizes)
    × (concat (groups_seen l.groups.items) ++ l.rest ≡ l.members)
