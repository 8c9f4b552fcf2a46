-- the family serves the signature, so its schedules are accepted
use Rattle.std.proofs.Common.{[], ◌∷◌, ◌++◌, sym, ap, subst, ◌∙◌}
use Rattle.coll_sched.specs.Schedules.{IsSchedule}
use Rattle.coll_trees.specs.Columns.{rounds_of}
use Rattle.coll_trees.specs.Depths.{depth}
use Rattle.coll_trees.specs.BinomialTreeReduce.{reduce_tree_rounds, last_hop}
use Rattle.coll_trees.proofs.BinomialTreeReduce.{reduce_serves, reduce_parts}
use Rattle.coll_trees.proofs.binomial_tree_reduce.reduce.Goals as goal

pub of_lawful_rounds-requires : goal.of_lawful_rounds-requires
of_lawful_rounds-requires c =
    subst IsSchedule
    (sym (reduce_parts c.args.sig c.args.n c.args.r c.block_len-len.result c.in-Some.op c.block_if-output.result
    c.push.new.self.items c.block_len-len.ensures c.in-Some.is c.block_if-output.ensures
    (c.in_ok-push.ensures.items
    ∙ (ap (λ x. c.push_rounds.new.rounds.items ++ x ∷ []) c.in_ok-hop.ensures.ok
    ∙ ap (λ xs. xs ++ last_hop c.block_len-len.result c.args.sig.root c.args.r ∷ [])
    (c.in_ok-push_rounds.ensures.ok
    ∙ ap (λ xs. xs ++ rounds_of (reduce_tree_rounds c.in-Some.op c.args.sig.ty c.block_len-len.result c.args.n 0 (depth c.args.n)) c.args.r)
    c.in_ok-rounds.ensures.items)))))
    ((reduce_serves c.args.sig c.args.n c.requires.checked c.requires.kind c.requires.few).serves.lawful.schedules c.args.r c.requires.member)

pub returns-clause-schedule : goal.returns-clause-schedule
returns-clause-schedule c =
    c.of_lawful_rounds.ensures
    ∙ reduce_parts c.args.sig c.args.n c.args.r c.block_len-len.result c.in-Some.op c.block_if-output.result
    c.push.new.self.items c.block_len-len.ensures c.in-Some.is c.block_if-output.ensures
    (c.in_ok-push.ensures.items
    ∙ (ap (λ x. c.push_rounds.new.rounds.items ++ x ∷ []) c.in_ok-hop.ensures.ok
    ∙ ap (λ xs. xs ++ last_hop c.block_len-len.result c.args.sig.root c.args.r ∷ [])
    (c.in_ok-push_rounds.ensures.ok
    ∙ ap (λ xs. xs ++ rounds_of (reduce_tree_rounds c.in-Some.op c.args.sig.ty c.block_len-len.result c.args.n 0 (depth c.args.n)) c.args.r)
    c.in_ok-rounds.ensures.items)))

pub returns-in_err-push_rounds-clause-family : goal.returns-in_err-push_rounds-clause-family
returns-in_err-push_rounds-clause-family c = reduce_serves c.args.sig c.args.n c.requires.checked c.requires.kind c.requires.few

pub returns-in_err-hop-clause-family : goal.returns-in_err-hop-clause-family
returns-in_err-hop-clause-family c = reduce_serves c.args.sig c.args.n c.requires.checked c.requires.kind c.requires.few

pub returns-in_err-push-clause-family : goal.returns-in_err-push-clause-family
returns-in_err-push-clause-family c = reduce_serves c.args.sig c.args.n c.requires.checked c.requires.kind c.requires.few

pub returns-clause-family : goal.returns-clause-family
returns-clause-family c = reduce_serves c.args.sig c.args.n c.requires.checked c.requires.kind c.requires.few

pub returns-in_err-rounds-clause-family : goal.returns-in_err-rounds-clause-family
returns-in_err-rounds-clause-family c = reduce_serves c.args.sig c.args.n c.requires.checked c.requires.kind c.requires.few
