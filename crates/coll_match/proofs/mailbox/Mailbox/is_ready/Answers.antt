use Rattle.std.proofs.Common.{◌∙◌, ap, is_some}
use Rattle.std.specs.List.{list_any}
use Rattle.coll_match.specs.Held.{sent_in}
use Rattle.coll_match.proofs.Messages.{is_it, list_any-is_it}
use Rattle.coll_match.proofs.mailbox.Mailbox.is_ready.Goals as goal

pub returns : goal.returns
returns c =
    c.has.ensures ∙ ap (list_any (is_it c.args.envelope)) c.deref.ensures.value ∙ list_any-is_it c.args.envelope c.self.inside.messages.items
    ∙ ap (λ messages. is_some (sent_in messages c.args.envelope.to c.args.envelope.round)) c.self.view_is
