use Rattle.std.proofs.Common.{◌≡◌, length}
use Rattle.coll_report.specs.Posts.{posts_left}
use Rattle.coll_report.proofs.posts.PostsIterator.next.Given as goal

-- what was passed by is no post of the rank
abbrev pub invariant-loop-first : goal.invariant-loop-first
invariant-loop-first l = posts_left l.self ≡ posts_left l.fn.self

abbrev pub decreases-loop-first : goal.decreases-loop-first
decreases-loop-first l = length l.self.rest.now
