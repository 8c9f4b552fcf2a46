use Rattle.std.proofs.Common.{◌+◌, refl, ap}
use Rattle.coll_parser.proofs.Readers.{IsReader-issued, IsStamped-issued}
use Rattle.coll_parser.proofs.reader.Reader.issue.Goals as goal

pub returns-clause-reader : goal.returns-clause-reader
returns-clause-reader c =
    IsReader-issued c.args.number c.args.rank c.args.self.now _ c.args.command c.index_mut.result.now c.note.new.self
    c.requires.reader c.requires.rank c.requires.opened c.requires.may c.requires.room
    c.index_mut.ensures.value c.in_ok-note.ensures refl refl refl c.in_ok-push.ensures.items refl (ap (λ n. c.args.self.now.total + n) c.made.ensures)

pub returns-clause-stamped : goal.returns-clause-stamped
returns-clause-stamped c =
    IsStamped-issued (c.args.number + 1) c.args.self.now _
    (record { line = c.args.number; rank = c.args.rank; command = c.args.command }) c.requires.stamped refl refl c.in_ok-push.ensures.items
