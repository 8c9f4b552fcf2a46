-- What the messages of a mailbox show.
use Rattle.std.specs.Prelude.{ℕ, List, map}
use Rattle.coll_match.specs.declared.envelope.Envelope.{Envelope}
use Rattle.coll_match.specs.declared.mailbox.Unreceived.{Unreceived}

abbrev pub messages_of : List Unreceived → List (Envelope × List ℕ)
messages_of messages = map (λ (unreceived : Unreceived). (unreceived.envelope, unreceived.bytes)) messages
