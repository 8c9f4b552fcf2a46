-- What an arena ends as, where a `&mut` to a request is returned.
use Rattle.std.specs.Prelude.{ℕ, Result}
use Rattle.std.specs.Borrow.{Lends, LendsIfOk, Fml, RattleType, MutBor}
use Rattle.coll_kinds.specs.declared.refusal.Refusal.{Refusal}
use Rattle.coll_arena.specs.Changes.{rewritten}
use Rattle.coll_arena.specs.Slots.{Slots}
use Rattle.coll_arena.specs.contracts.arena.Arena as arena

module _ (R : RattleType) where
  -- once the borrow r ends, the arena's slot has the last record written through r
  abbrev pub LendsRecord : MutBor (Slots R.Denot) → ℕ → MutBor R.Denot → Fml
  LendsRecord a slot r = Lends (arena.the_row R) R a r (rewritten a.now slot)

  -- the same where r is a reference, and else the arena stays as it is
  abbrev pub LendsNamed : MutBor (Slots R.Denot) → ℕ → Result (MutBor R.Denot) Refusal → Fml
  LendsNamed a slot r = LendsIfOk (arena.the_row R) R a r (rewritten a.now slot) a.now
