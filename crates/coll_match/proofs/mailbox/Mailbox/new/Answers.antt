use Rattle.std.proofs.Common.{sym, subst}
use Rattle.coll_match.proofs.Messages.{Apart, none_apart}
use Rattle.coll_match.proofs.mailbox.Mailbox.new.Goals as goal

pub invariant_of-result : goal.invariant_of-result
invariant_of-result c = subst Apart (sym c.new.ensures.items) none_apart
