use Rattle.std.proofs.Common.{◌≡◌, drop}
use Rattle.std.specs.List.{fold}
use Rattle.coll_views.specs.Tables.{added_once, each_once}
use Rattle.coll_views.proofs.tables.each_once.Given as goal

abbrev pub invariant-loop-sig : goal.invariant-loop-sig
invariant-loop-sig l = fold added_once l.once.items (drop l.sig-index l.sigs) ≡ each_once l.sigs
