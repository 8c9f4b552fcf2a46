use Rattle.std.proofs.Common.{◌≡◌, ◌∙◌, ap, sym, arith, Bor}
use Rattle.std.specs.Prelude.{slice_get, option_map}
use Rattle.std.proofs.lemmas.Grind.{common_steps}
use Rattle.std.proofs.lemmas.Option.{gets}
use Rattle.coll_kinds.specs.declared.signature.Signature.{Signature}
use Rattle.coll_queues.specs.Lists.{signed_in}
use Rattle.coll_queues.proofs.Fronts.{signed_front}
use Rattle.coll_queues.proofs.posting_lists.PostingLists.signature.Goals as goal

pub returns : goal.returns
returns c =
    let read : option_map (λ (sig : Bor Signature). sig.now) c.get.result ≡ slice_get c.self.inside.signatures.items c.args.place =
    grind (arith, common_steps, gets) in
    read ∙ sym (signed_front _ _ _ c.self.inside.signatures.room c.self.invariant c.args.place) ∙ ap (λ v. signed_in v c.args.place) c.self.view_is
