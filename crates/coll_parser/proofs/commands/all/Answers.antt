use Rattle.std.proofs.Common.{◌≡◌, length, arith, ap, ◌∙◌}
use Rattle.std.specs.List.{range_with_len}
use Rattle.coll_parser.specs.Code.{history_of}
use Rattle.coll_parser.specs.Lines.{made}
use Rattle.coll_parser.proofs.Readers.{section-kept, length-entries}
use Rattle.coll_parser.proofs.commands.all.Goals as goal

pub overflow_cast-len : goal.overflow_cast-len
overflow_cast-len c =
    let kept = section-kept c.args.number c.args.rank c.args.reader.now c.index.result.now c.requires.reader c.requires.rank c.index.ensures in
    omega (arith, c.len.ensures, kept.1)

pub returns : goal.returns
returns c =
    let kept = section-kept c.args.number c.args.rank c.args.reader.now c.index.result.now c.requires.reader c.requires.rank c.index.ensures in
    let count : c.len.result ≡ length (made (history_of c.args.reader.now) c.args.rank) =
    omega (arith, c.len.ensures, length-entries c.args.number c.args.rank c.args.reader.now.commands.items c.index.result.now kept.0) in
    c.first.ensures ∙ ap (range_with_len 0) count
