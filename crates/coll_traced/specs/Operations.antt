-- What one thread leaves to another to do for it, and what that answers.
use Rattle.std.specs.Prelude.{◌≡◌, ℕ, Some}
use Rattle.coll_kinds.specs.declared.refusal.Refusal.{Refusal}
use Rattle.coll_kinds.specs.declared.ticket.Ticket.{Ticket}
use Rattle.coll_machine.specs.Common.{Call, Start, Entry, Setting}
use Rattle.coll_core.specs.Posts.{post_of}
use Rattle.coll_traced.specs.Denials.{IsDenied}
use Rattle.coll_traced.specs.Calls.{IsPosted, IsStarted}
use Rattle.coll_traced.specs.declared.operation.Operation.{Operation}
use Rattle.coll_traced.specs.declared.operation.Operation.TheVariants as operation

-- the call that it asks for
abbrev pub call_of : Operation → ℕ → Call
call_of (operation.Post post) rank = post_of rank post.comm post.offer
call_of (operation.Start start) rank = Start rank start.ticket start.given

-- the entry is of just that call of the rank's, for this request
abbrev pub IsMade : Operation → ℕ → Ticket → Entry → Type 0
IsMade (operation.Post post) rank t e = IsPosted rank (Some t) post.comm post.offer.plan.sig post.offer.bytes e
IsMade (operation.Start start) rank t e = (t ≡ start.ticket) × IsStarted rank (Some t) start.given e

-- what lay under the lock denied it
pub record IsRefused (g : Setting) (made : ℕ) (o : Operation) (rank : ℕ) : Type 0 where
  pub why : Refusal
  pub denied : IsDenied g made (call_of o rank) why
