-- the theorem of Messages, for the family of a plan
use Rattle.coll_draw.proofs.Drawn.{drawn_arrows_are_messages}
use Rattle.coll_draw.proofs.laws.drawn_arrows_are_messages.Goals as goal

pub returns : goal.returns
returns c = drawn_arrows_are_messages
