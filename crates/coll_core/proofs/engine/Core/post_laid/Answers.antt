use Rattle.std.proofs.Common.{sym}
use Rattle.coll_core.specs.Posts.{post_of}
use Rattle.coll_core.proofs.post.Post.{refused_so}
use Rattle.coll_core.proofs.engine.Core.post_laid.Goals as goal

pub returns-in-Err-clause-refused : goal.returns-in-Err-clause-refused
returns-in-Err-clause-refused c =
    refused_so c.args.self.now (post_of c.args.rank c.args.comm c.args.offer) c.in-Err.why (sym c.in-Err.ensures.refused)
