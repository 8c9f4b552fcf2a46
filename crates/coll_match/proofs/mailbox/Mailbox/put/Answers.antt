use Rattle.std.proofs.Common.{◌≡◌, ◌∙◌, ap, subst, sym, List, Some, None}
use Rattle.std.specs.Map.{lookup}
use Rattle.coll_match.specs.declared.mailbox.Unreceived.{Unreceived}
use Rattle.coll_match.specs.Held.{put_sent, same_envelope, sent_in}
use Rattle.coll_match.specs.Messages.{messages_of}
use Rattle.coll_match.proofs.Messages.{Apart, pushed_apart, sent_pushed}
use Rattle.coll_match.proofs.mailbox.Mailbox.put.Goals as goal

pub invariant_of-self-2 : goal.invariant_of-self-2
invariant_of-self-2 c =
    let absent : lookup (same_envelope c.args.envelope) (messages_of c.self.inside.messages.items) ≡ None =
    subst (λ messages. lookup (same_envelope c.args.envelope) messages ≡ None) (sym c.self.view_is) c.requires in
    subst Apart (sym c.in_default.ensures.items)
    (pushed_apart c.self.inside.messages.items (record { envelope = c.args.envelope; bytes = c.args.bytes }) c.self.invariant absent)

pub returns-clause-sent : goal.returns-clause-sent
returns-clause-sent c =
    let absent : lookup (same_envelope c.args.envelope) (messages_of c.self.inside.messages.items) ≡ None =
    subst (λ messages. lookup (same_envelope c.args.envelope) messages ≡ None) (sym c.self.view_is) c.requires in
    ap (λ (messages : List Unreceived). sent_in (messages_of messages)) c.in_default.ensures.items
    ∙ sent_pushed c.self.inside.messages.items (record { envelope = c.args.envelope; bytes = c.args.bytes }) absent
    ∙ ap (λ messages. put_sent (sent_in messages) c.args.envelope.to c.args.envelope.round (Some c.args.bytes)) c.self.view_is
