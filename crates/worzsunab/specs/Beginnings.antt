-- What posts, initialisations and starts begin.
use Rattle.std.specs.Prelude.{ℕ, List, Option, IfSome}
use Rattle.coll_kinds.specs.declared.signature.Signature.{Signature}
use Rattle.coll_kinds.specs.declared.ticket.Ticket.{Ticket}
use Rattle.coll_arena.specs.Slots.{record_in}
use Rattle.coll_core.specs.Cores.{Parts, seen, setting}
use Rattle.coll_core.specs.Progress.{BeginsSchedule, KeepsProgress}
use Rattle.coll_core.specs.Requests.{schedule, shown}
use Rattle.coll_complete.specs.Starting.{StartsAt}
use Rattle.coll_serial.specs.Calls.{InitsTo, PostsTo, init_by, post_by, schedule_for}

-- the request is made, and no request makes progress but this one, which begins its schedule
pub record Posts (p r : Parts) (rank comm : ℕ) (sig : Signature) (bytes : List ℕ) (made : Option Ticket) : Type 0 where
  pub posts : PostsTo (setting p) (seen p) (post_by (setting p) rank comm sig bytes) (seen r) made
  pub begins : IfSome made (λ ticket. BeginsSchedule p r ticket.slot (schedule_for (setting p) rank comm sig))

-- the request is made, and none makes progress
pub record Inits (p r : Parts) (rank comm : ℕ) (sig : Signature) (made : Option Ticket) : Type 0 where
  pub inits : InitsTo (setting p) (seen p) (init_by (setting p) rank comm sig) (seen r) made
  pub progress : IfSome made (λ ticket. KeepsProgress p r ticket.slot)

-- the request that is named is started, and no request makes progress but this one, which begins its schedule
pub record StartsOne (p r : Parts) (rank : ℕ) (request : Option Ticket) (bytes : List ℕ) : Type 0 where
  pub starts : StartsAt (setting p) rank (seen p) (request, bytes) (seen r)
  pub begins : IfSome request (λ ticket. IfSome (record_in p.arena ticket.slot) (λ x. BeginsSchedule p r ticket.slot (schedule (shown x))))
