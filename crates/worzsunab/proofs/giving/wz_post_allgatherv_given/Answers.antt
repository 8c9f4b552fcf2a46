use Rattle.std.proofs.Common.{List, ℕ, to_z, of_z, w32}
use Rattle.coll_kinds.specs.declared.kind.Mode.TheVariants.{Once}
use Rattle.coll_kinds.specs.declared.signature.Signature.{Signature}
use Rattle.worzsunab.specs.Calls.{IsCounted}
use Rattle.worzsunab.specs.Givings.{PostsGiven}
use Rattle.worzsunab.proofs.Answering.{of_bytes_then}
use Rattle.worzsunab.proofs.Recoding.{recoded}
use Rattle.worzsunab.proofs.giving.wz_post_allgatherv_given.Goals as goal

pub returns-in-Some-clause-answers : goal.returns-in-Some-clause-answers
returns-in-Some-clause-answers c named =
    let old = c.args.handle.now in let new = c.post_given.new.handle in let code = c.post_given.result in let left =
    c.post_given.new.held.held.bytes in let was = c.args.request.now in let is = c.post_given.new.request in
    of_bytes_then (λ bytes. PostsGiven old new code c.args.rank c.args.comm c.in-Some.sig bytes was is left)
    (λ bytes. (sig : Signature) × IsCounted c.args.ty c.args.counts.now Once sig
    × PostsGiven old new (to_z w32 (of_z w32 code)) c.args.rank c.args.comm sig bytes was is left)
    c.args.held.now.held.bytes (λ bytes posts. (c.in-Some.sig, c.in-Some.ensures.is, recoded posts)) c.post_given.ensures
