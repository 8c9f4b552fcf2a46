use Rattle.std.proofs.Common.{◌≡◌, ◌++◌, drop}
use Rattle.std.specs.Prelude.{flat_map}
use Rattle.coll_views.specs.Tables.{collective_line}
use Rattle.coll_views.proofs.tables.print_lines.Given as goal

abbrev pub invariant-loop-sig : goal.invariant-loop-sig
invariant-loop-sig l =
    l.out.items ++ flat_map (collective_line l.rows l.comm l.members) (drop l.sig-index l.collectives)
    ≡ l.initial.out.items ++ flat_map (collective_line l.rows l.comm l.members) l.collectives
