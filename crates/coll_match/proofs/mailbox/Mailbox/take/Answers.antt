use Rattle.std.proofs.Common.{◌≡◌, ◌∙◌, ap, subst, sym, position, List, Some, None}
use Rattle.std.specs.Map.{lookup}
use Rattle.coll_match.specs.declared.mailbox.Unreceived.{Unreceived}
use Rattle.coll_match.specs.Held.{put_sent, same_envelope, sent_in}
use Rattle.coll_match.specs.Messages.{messages_of}
use Rattle.coll_match.proofs.Messages.{Apart, FoundAt, is_it, none_placed, placed, removed_apart, sent_removed, sent_same}
use Rattle.coll_match.proofs.mailbox.Mailbox.take.Goals as goal

absent : (c : goal.After-from_residual) → lookup (same_envelope c.args.envelope) c.args.self.now ≡ None
absent c = subst (λ messages. lookup (same_envelope c.args.envelope) messages ≡ None) c.self.view_is
    (none_placed c.args.envelope c.self.inside.messages.items
    (sym c.in_err-place.was ∙ c.place_of.ensures ∙ ap (position (is_it c.args.envelope)) c.deref.ensures.value))

pub returns-in_err-place-clause-taken : goal.returns-in_err-place-clause-taken
returns-in_err-place-clause-taken c = c.from_residual.ensures ∙ sym (absent c)

pub returns-in_err-place-clause-sent : goal.returns-in_err-place-clause-sent
returns-in_err-place-clause-sent c = sent_same c.args.envelope c.args.self.now (absent c)

found : (c : goal.After-remove-bytes) → FoundAt c.args.envelope c.self.inside.messages.items c.in_ok-place.place c.remove-bytes.result
found c = placed c.args.envelope c.self.inside.messages.items c.in_ok-place.place c.remove-bytes.result
    (sym c.in_ok-place.was ∙ c.place_of.ensures ∙ ap (position (is_it c.args.envelope)) c.deref.ensures.value)

pub invariant_of-self : goal.invariant_of-self
invariant_of-self c =
    subst Apart (sym c.remove-bytes.ensures.items)
    (removed_apart c.args.envelope c.self.inside.messages.items c.in_ok-place.place c.remove-bytes.result c.self.invariant (found c))

pub returns-clause-taken : goal.returns-clause-taken
returns-clause-taken c =
    ap (λ (unreceived : Unreceived). Some unreceived.bytes) c.remove-bytes.ensures.value ∙ sym (found c).value
    ∙ ap (λ messages. sent_in messages c.args.envelope.to c.args.envelope.round) c.self.view_is

pub returns-clause-sent : goal.returns-clause-sent
returns-clause-sent c =
    ap (λ (messages : List Unreceived). sent_in (messages_of messages)) c.remove-bytes.ensures.items
    ∙ sent_removed c.args.envelope c.self.inside.messages.items c.in_ok-place.place c.remove-bytes.result c.self.invariant (found c)
    ∙ ap (λ messages. put_sent (sent_in messages) c.args.envelope.to c.args.envelope.round None) c.self.view_is
