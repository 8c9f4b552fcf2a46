-- the theorem of Messages
use Rattle.coll_draw.proofs.Messages.{arrows_are_messages}
use Rattle.coll_draw.proofs.laws.arrows_are_messages.Goals as goal

pub returns : goal.returns
returns c = arrows_are_messages
