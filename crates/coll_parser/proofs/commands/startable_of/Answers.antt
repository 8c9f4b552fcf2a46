use Rattle.coll_parser.specs.Code.{history_of}
use Rattle.coll_parser.proofs.Readers.{section-kept}
use Rattle.coll_parser.proofs.commands.startable_of.Goals as goal

pub startable-requires : goal.startable-requires
startable-requires c = (section-kept c.args.number c.args.rank c.args.reader.now c.index.result.now c.requires.reader c.requires.rank c.index.ensures).1

pub returns : goal.returns
returns c =
    let kept = section-kept c.args.number c.args.rank c.args.reader.now c.index.result.now c.requires.reader c.requires.rank c.index.ensures in
    c.startable.ensures c.args.number (history_of c.args.reader.now) c.args.rank kept.0
