-- How many pass a filter, step by step: left to itself the search stops at its limit.
use Rattle.std.proofs.Common.{◌∙◌, is_some, rules, tests}
use Rattle.std.proofs.lemmas.Iterator.{YieldsList-from_slice}
use Rattle.std.proofs.lemmas.Iterator.Consumers.{YieldsList-at, YieldsList-from_filter, count_from_yields_List}
use Rattle.std.proofs.lemmas.List.Sums.{length-filter}
use Rattle.coll_parser.specs.declared.issued_command.IssuedCommand.{IssuedCommand}
use Rattle.coll_parser.specs.Histories.{posting}
use Rattle.coll_script.proofs.sizes.made.Goals as goal

pub returns-clause-count : goal.returns-clause-count
returns-clause-count c =
    count_from_yields_List c.filter.result c.count.result c.count.ensures.ran
    (YieldsList-from_filter _ (λ t. is_some (posting t.command))
    (YieldsList-at c.filter.ensures.source (YieldsList-from_slice c.args.issued.now c.iter.ensures.rest))
    c.filter.ensures.closure
    (λ x b q k. search (rules, tests)))
    ∙ length-filter (λ (t : IssuedCommand). is_some (posting t.command)) c.args.issued.now
