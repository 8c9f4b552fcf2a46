-- Whom a message wakes.
use Rattle.std.proofs.Common.{◌≡◌, ◌≢◌, ◌∙◌, ◌+◌, ◌*◌, ◌&&◌, ◌==◌, inr, ℕ, Bool, true, false, cond, Some, None, ap, refl, sym, subst, eqb-true}
use Rattle.std.proofs.lemmas.Bool.{and_parts}
use Rattle.std.proofs.lemmas.Option.{none-some, same_Some}
use Rattle.coll_kinds.specs.declared.ticket.Ticket.{Ticket}
use Rattle.coll_sched.specs.declared.action.Action.TheVariants.{Recv}
use Rattle.coll_arena.specs.Changes.{shifted}
use Rattle.coll_arena.specs.Lookups.{PutsSlot}
use Rattle.coll_arena.specs.Slots.{Slots, home, is_live, names, record_in, ticket_of, weight_of}
use Rattle.coll_arena.proofs.Sounds.{Named-names}
use Rattle.coll_machine.specs.declared.key.Key.{Key}
use Rattle.coll_match.specs.Instances.{mail, seats}
use Rattle.coll_refinement.specs.Engines.{Delivers}
use Rattle.coll_refinement.specs.Shown.{Instances}
use Rattle.coll_refinement.specs.Sound.{ready}
use Rattle.coll_refinement.proofs.engine.Slots.{one_shifted}
use Rattle.coll_core.specs.declared.request.Request.{Request}
use Rattle.coll_refinement.specs.Requests.{key}
use Rattle.coll_core.specs.Requests.{CanReceive, shown}
use Rattle.coll_core.specs.Advancing.{Brings, IsReceiver}

slot_by : (a : Slots Request) (slot : ℕ) (t : Ticket) (live : Bool) → Some t ≡ cond live (Some (ticket_of a slot)) None → t.slot ≡ slot
slot_by a slot t true e = ap (λ (u : Ticket). u.slot) (same_Some t (ticket_of a slot) e)
slot_by a slot t false e = absurd (none-some t (sym e))

pub is_receiver : (a : Slots Request) (n : Instances) (k : Key) (to slot : ℕ) (t : Ticket) (r : Request)
    → seats n k to ≡ Some slot
    → Some t ≡ cond (is_live a slot) (Some (ticket_of a slot)) None
    → record_in a t.slot ≡ Some r
    → true ≡ (names a t && (home a t.slot == 5 + 3 * r.comm))
    → CanReceive (mail n (key (shown r))) (shown r)
    → IsReceiver a n k to t
is_receiver a n k to slot t r seat found here on can_receive =
    let both = and_parts (names a t) (home a t.slot == 5 + 3 * r.comm) (sym on) in
    record {
      request = r;
      seat = seat ∙ ap Some (sym (slot_by a slot t (is_live a slot) found));
      live = both.0;
      here = here;
      waits = eqb-true (home a t.slot) (5 + 3 * r.comm) both.1;
      can_receive = can_receive;
    }

pub delivers : (a b : Slots Request) (n : Instances) (k : Key) (to : ℕ) (t : Ticket)
    → IsReceiver a n k to t
    → PutsSlot a b t.slot t.generation (weight_of a t.slot) (record_in a t.slot) 2
    → Delivers shown a b n k to
delivers a b n k to t h puts = inr (
  t,
  h.request,
  record {
    seat = h.seat;
    found = record { here = h.here; generation_is = (Named-names a t h.live).generation };
    waits = h.waits;
    ready = ready (Recv h.can_receive.of h.can_receive.into) refl refl h.can_receive.next_is h.can_receive.came;
    puts = one_shifted a b t.slot t.generation 2 h.request h.here puts;
  },
)

pub brings : (a b : Slots Request) (n : Instances) (k : Key) (to : ℕ) (t : Ticket)
    → IsReceiver a n k to t
    → b ≡ shifted a t.slot 2
    → Brings a b n k to
brings a b n k to t h is = inr (
  t.slot,
  record {
    request = h.request;
    seat = h.seat;
    here = h.here;
    waits = h.waits;
    records_are = ap (λ (z : Slots Request). z.records) is;
    lists_is = ap (λ (z : Slots Request). z.lists) is;
  },
)

-- the message that was sent is the one that is awaited
abbrev pub is_awaited : Key → Key → ℕ → ℕ → ℕ → ℕ → ℕ → ℕ → Bool
is_awaited k l of from member to round r =
    ((k.comm == l.comm) && ((k.place == l.place) && (k.start == l.start))) && ((of == from) && ((member == to) && (round == r)))

same_key : (k l : Key) → ((k.comm == l.comm) && ((k.place == l.place) && (k.start == l.start))) ≡ true → l ≡ k
same_key k l e =
    let one = and_parts (k.comm == l.comm) _ e in
    let two = and_parts (k.place == l.place) (k.start == l.start) one.1 in
    λ z. record { comm = sym (eqb-true k.comm l.comm one.0) z; place = sym (eqb-true k.place l.place two.0) z; start = sym (eqb-true k.start l.start two.1) z }

pub came : (n : Instances) (k l : Key) (of from member to round r : ℕ) → is_awaited k l of from member to round r ≡ true
    → mail n l from to r ≢ None → mail n k of member round ≢ None
came n k l of from member to round r e sent =
    let keys = and_parts ((k.comm == l.comm) && ((k.place == l.place) && (k.start == l.start))) _ e in
    let froms = and_parts (of == from) _ keys.1 in
    let tos = and_parts (member == to) (round == r) froms.1 in
    subst (λ x. mail n k of member x ≢ None) (sym (eqb-true round r tos.1))
    (subst (λ x. mail n k of x r ≢ None) (sym (eqb-true member to tos.0))
    (subst (λ x. mail n k x to r ≢ None) (sym (eqb-true of from froms.0))
    (subst (λ x. mail n x from to r ≢ None) (same_key k l keys.0) sent)))
