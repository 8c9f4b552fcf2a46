use Rattle.std.proofs.Common.{◌≡◌, length, arith}
use Rattle.coll_parser.specs.Code.{history_of}
use Rattle.coll_parser.specs.Lines.{made}
use Rattle.coll_parser.proofs.Readers.{section-kept, length-entries}
use Rattle.coll_parser.proofs.commands.one_of.Goals as goal

pub one-requires : goal.one-requires
one-requires c =
    let kept = section-kept c.args.number c.args.rank c.args.reader.now c.index.result.now c.requires.reader c.requires.rank c.index.ensures in
    omega (arith, c.len.ensures, kept.1)

pub returns : goal.returns
returns c =
    let kept = section-kept c.args.number c.args.rank c.args.reader.now c.index.result.now c.requires.reader c.requires.rank c.index.ensures in
    let count : length (made (history_of c.args.reader.now) c.args.rank) ≡ c.len.result =
    omega (arith, c.len.ensures, length-entries c.args.number c.args.rank c.args.reader.now.commands.items c.index.result.now kept.0) in
    c.one.ensures (history_of c.args.reader.now) c.args.rank count
