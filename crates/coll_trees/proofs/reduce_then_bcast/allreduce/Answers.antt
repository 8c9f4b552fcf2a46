-- the family serves the signature, so its schedules are accepted
use Rattle.std.proofs.Common.{◌++◌, arith, sym, ap, subst, ◌∙◌}
use Rattle.coll_sched.specs.Schedules.{IsSchedule}
use Rattle.coll_trees.specs.Columns.{rounds_of}
use Rattle.coll_trees.specs.Depths.{depth}
use Rattle.coll_trees.specs.BinomialTreeBcast.{bcast_tree_rounds}
use Rattle.coll_trees.specs.BinomialTreeReduce.{reduce_tree_rounds}
use Rattle.coll_trees.proofs.ReduceThenBcast.{allreduce_serves, allreduce_parts}
use Rattle.coll_trees.proofs.reduce_then_bcast.allreduce.Goals as goal

pub of_lawful_rounds-requires : goal.of_lawful_rounds-requires
of_lawful_rounds-requires c =
    subst IsSchedule
    (sym (allreduce_parts c.args.sig c.args.n c.args.r c.block_len-len.result c.in-Some.op c.push_rounds-2.new.rounds.items c.block_len-len.ensures c.in-Some.is
    (c.in_ok-push_rounds-2.ensures.ok
    ∙ ap (λ xs. xs ++ rounds_of (bcast_tree_rounds c.block_len-len.result c.args.n 0 0 (depth c.args.n)) c.args.r)
    (c.in_ok-push_rounds.ensures.ok
    ∙ ap (λ xs. xs ++ rounds_of (reduce_tree_rounds c.in-Some.op c.args.sig.ty c.block_len-len.result c.args.n 0 (depth c.args.n)) c.args.r)
    c.in_ok-rounds.ensures.items))))
    ((allreduce_serves c.args.sig c.args.n c.requires.checked c.requires.kind (omega arith) c.requires.few).serves.lawful.schedules c.args.r c.requires.member)

pub returns-clause-schedule : goal.returns-clause-schedule
returns-clause-schedule c =
    c.of_lawful_rounds.ensures
    ∙ allreduce_parts c.args.sig c.args.n c.args.r c.block_len-len.result c.in-Some.op c.push_rounds-2.new.rounds.items c.block_len-len.ensures c.in-Some.is
    (c.in_ok-push_rounds-2.ensures.ok
    ∙ ap (λ xs. xs ++ rounds_of (bcast_tree_rounds c.block_len-len.result c.args.n 0 0 (depth c.args.n)) c.args.r)
    (c.in_ok-push_rounds.ensures.ok
    ∙ ap (λ xs. xs ++ rounds_of (reduce_tree_rounds c.in-Some.op c.args.sig.ty c.block_len-len.result c.args.n 0 (depth c.args.n)) c.args.r)
    c.in_ok-rounds.ensures.items))

pub returns-in_err-push_rounds-clause-family : goal.returns-in_err-push_rounds-clause-family
returns-in_err-push_rounds-clause-family c = allreduce_serves c.args.sig c.args.n c.requires.checked c.requires.kind (omega arith) c.requires.few

pub returns-in_err-push_rounds-2-clause-family : goal.returns-in_err-push_rounds-2-clause-family
returns-in_err-push_rounds-2-clause-family c = allreduce_serves c.args.sig c.args.n c.requires.checked c.requires.kind (omega arith) c.requires.few

pub returns-clause-family : goal.returns-clause-family
returns-clause-family c = allreduce_serves c.args.sig c.args.n c.requires.checked c.requires.kind (omega arith) c.requires.few

pub returns-in_err-rounds-clause-family : goal.returns-in_err-rounds-clause-family
returns-in_err-rounds-clause-family c = allreduce_serves c.args.sig c.args.n c.requires.checked c.requires.kind (omega arith) c.requires.few
