use Rattle.coll_report.specs.Posts.{posts_left}
use Rattle.coll_report.specs.Scripts.{Says}
use Rattle.coll_run.specs.Commands.{all_traced}
use Rattle.coll_parser.specs.Histories.{commands_of}
use Rattle.std.proofs.Common.{[]}
use Rattle.coll_run.proofs.Comparing.{IsOnWay}
use Rattle.coll_run.proofs.following.rank_follows.Given as goal

abbrev pub invariant-loop-issued : goal.invariant-loop-issued
invariant-loop-issued l =
    IsOnWay l.rank l.commands l.issued-index l.comparison (Says [] (all_traced (commands_of l.history l.rank)) (posts_left l.fn.posts))
