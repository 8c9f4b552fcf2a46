-- What stands once a `&mut` to an instance is returned.
use Rattle.std.specs.Prelude.{List, Option}
use Rattle.std.specs.Map.{set_value}
use Rattle.std.specs.Borrow.{Fml, LendsIf, MutBor}
use Rattle.coll_machine.specs.declared.key.Key.{Key}
use Rattle.coll_match.specs.Held.{Held}
use Rattle.coll_machine.specs.Changes.{same_key}
use Rattle.coll_match.specs.contracts.instance.Instance as instance
use Rattle.coll_match.specs.contracts.matches.Matches as matches

-- the instance is as it was last written through r; where r is no reference, all stand as they did
abbrev pub LendsInstance : MutBor (List (Key × Held)) → Key → Option (MutBor Held) → Fml
LendsInstance a k r = LendsIf matches.the_row instance.the_row a r (set_value (same_key k) a.now) a.now
