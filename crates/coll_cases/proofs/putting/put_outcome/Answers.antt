use Rattle.std.proofs.Common.{List, ℕ, subst, ◌∙◌}
use Rattle.coll_parser.specs.declared.command.Command.TheVariants.{WaitAll}
use Rattle.coll_cases.specs.Code.{Puts}
use Rattle.coll_cases.proofs.Placed.{put_stood}
use Rattle.coll_cases.proofs.putting.put_outcome.Goals as goal

pub returns : goal.returns
returns c = λ yes h call stood.
    let puts = subst (λ (qs : List ℕ). Puts c.args.ranks.now.items c.put-is_put.new.ranks.items c.args.split.now.rank c.args.split.now.place (WaitAll qs))
    (c.these-completes.ensures ∙ c.in_ok-from_slice.ensures.items) (c.put-is_put.ensures yes) in
    put_stood h c.args.split.now.rank c.args.split.now.place c.args.split.now.command c.args.outcome.now call.get call.choice
    c.args.ranks.now.items c.put-is_put.new.ranks.items puts stood
