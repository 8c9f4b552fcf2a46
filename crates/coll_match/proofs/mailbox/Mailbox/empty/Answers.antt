use Rattle.std.proofs.Common.{sym, subst}
use Rattle.coll_match.proofs.Messages.{Apart, none_apart}
use Rattle.coll_match.proofs.mailbox.Mailbox.empty.Goals as goal

pub invariant_of-self : goal.invariant_of-self
invariant_of-self c = subst Apart (sym c.clear.ensures.items) none_apart
