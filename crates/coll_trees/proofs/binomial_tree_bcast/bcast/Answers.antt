-- the family serves the signature, so its schedules are accepted
use Rattle.std.proofs.Common.{◌++◌, refl, sym, ap, subst, ◌∙◌}
use Rattle.coll_sched.specs.Schedules.{IsSchedule}
use Rattle.coll_trees.specs.Columns.{rounds_of}
use Rattle.coll_trees.specs.Depths.{depth}
use Rattle.coll_trees.specs.BinomialTreeBcast.{bcast_tree_rounds}
use Rattle.coll_trees.proofs.BinomialTreeBcast.{bcast_serves, bcast_parts}
use Rattle.coll_trees.proofs.binomial_tree_bcast.bcast.Goals as goal

pub of_lawful_rounds-requires : goal.of_lawful_rounds-requires
of_lawful_rounds-requires c =
    subst IsSchedule
    (sym (bcast_parts c.args.sig c.args.n c.args.r c.block_len-len.result c.block_if-input.result
    (record { at = 0; len = c.block_len-len.result }) c.push_rounds.new.rounds.items c.block_len-len.ensures c.block_if-input.ensures refl
    (c.in_ok-push_rounds.ensures.ok
    ∙ ap (λ xs. xs ++ rounds_of (bcast_tree_rounds c.block_len-len.result c.args.n c.args.sig.root 0 (depth c.args.n)) c.args.r)
    c.in_ok-rounds.ensures.items)))
    ((bcast_serves c.args.sig c.args.n c.requires.checked c.requires.kind c.requires.few).serves.lawful.schedules c.args.r c.requires.member)

pub returns-clause-schedule : goal.returns-clause-schedule
returns-clause-schedule c =
    c.of_lawful_rounds.ensures
    ∙ bcast_parts c.args.sig c.args.n c.args.r c.block_len-len.result c.block_if-input.result
    (record { at = 0; len = c.block_len-len.result }) c.push_rounds.new.rounds.items c.block_len-len.ensures c.block_if-input.ensures refl
    (c.in_ok-push_rounds.ensures.ok
    ∙ ap (λ xs. xs ++ rounds_of (bcast_tree_rounds c.block_len-len.result c.args.n c.args.sig.root 0 (depth c.args.n)) c.args.r)
    c.in_ok-rounds.ensures.items)

pub returns-in_err-push_rounds-clause-family : goal.returns-in_err-push_rounds-clause-family
returns-in_err-push_rounds-clause-family c = bcast_serves c.args.sig c.args.n c.requires.checked c.requires.kind c.requires.few

pub returns-clause-family : goal.returns-clause-family
returns-clause-family c = bcast_serves c.args.sig c.args.n c.requires.checked c.requires.kind c.requires.few

pub returns-in_err-rounds-clause-family : goal.returns-in_err-rounds-clause-family
returns-in_err-rounds-clause-family c = bcast_serves c.args.sig c.args.n c.requires.checked c.requires.kind c.requires.few
