-- Each arrow of a plan's family is a message
use Rattle.coll_plans.proofs.Plans.{all_served}
use Rattle.coll_draw.specs.Laws.{DrawnArrowsAreMessages}
use Rattle.coll_draw.proofs.Messages.{arrows_are_messages}

pub drawn_arrows_are_messages : DrawnArrowsAreMessages
drawn_arrows_are_messages sig n checked not_none few = arrows_are_messages n _ not_none (all_served sig n checked not_none few).serves.lawful
