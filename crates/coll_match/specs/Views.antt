-- What the fields of an instance show.
use Rattle.std.specs.Prelude.{List, map}
use Rattle.coll_match.specs.Held.{Part, Held}
use Rattle.coll_match.specs.declared.instance.Share.{Share}

abbrev pub part_of : Share → Part
part_of share =
    record { contribution = share.given; slot = share.slot; sent = share.mailbox }

abbrev pub held_of : List Share → Held
held_of shares = record { shares = map part_of shares }
