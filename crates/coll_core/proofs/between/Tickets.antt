-- What a ticket names, in the tables that the parts show.
use Rattle.std.proofs.Common.{◌≡◌, ◌∙◌, ◌<◌, ◌&&◌, ◌≤◌, ℕ, Bool, true, false, length, Option, Some, None, option_map, if◌then◌else◌, nat_lt, is_some}
use Rattle.std.proofs.Common.{ap, refl, sym, arith}
use Rattle.std.proofs.lemmas.Bool.{false≢true}
use Rattle.std.proofs.lemmas.Bool.Decides.{nat_tests}
use Rattle.std.proofs.lemmas.List.{get_or_past}
use Rattle.coll_kinds.specs.declared.ticket.Ticket.{Ticket}
use Rattle.coll_arena.specs.Slots.{Slots, count, home, is_live, names, record_in}
use Rattle.coll_arena.specs.Sound.{IsSound as IsArena}
use Rattle.coll_machine.specs.States.{found}
use Rattle.coll_refinement.specs.Requests.{as_request}
use Rattle.coll_refinement.specs.Tables.{asked}
use Rattle.coll_refinement.specs.Shown.{listed, seen as seen_on}
use Rattle.coll_core.specs.declared.request.Request.{Request}
use Rattle.coll_core.specs.Requests.{shown}
use Rattle.coll_core.specs.Cores.{Parts, seen}

unrecorded : (o : Option Request) → is_some o ≡ false → o ≡ None
unrecorded None e = refl
unrecorded (Some r) e = absurd (false≢true (sym e))

below : (i n : ℕ) → true ≡ nat_lt i n → i < n
below i n e = grind (arith, nat_tests)

past : (i n m : ℕ) → false ≡ nat_lt i n → m ≡ n → m ≤ i
past i n m e h = grind (arith, nat_tests)

-- a slot that isn't live has no record
no_record : (a : Slots Request) (i : ℕ) (low live : Bool) → IsArena a
    → low ≡ nat_lt i (count a) → live ≡ nat_lt 1 (home a i) → (low && live) ≡ false → record_in a i ≡ None
no_record a i true live s l h e = unrecorded (record_in a i) ((s.slots i (below i (count a) l)).recorded ∙ (sym h ∙ e))
no_record a i false live s l h e = get_or_past a.records i None (past i (count a) (length a.records) l s.records_len)

not_named : (a : Slots Request) (t : Ticket) (live same : Bool) → IsArena a
    → live ≡ is_live a t.slot → (live && same) ≡ false
    → (if same then asked (seen_on (home a t.slot) (option_map shown (record_in a t.slot))) else None) ≡ None
not_named a t live false s l e = refl
not_named a t false true s l e =
    ap (λ o. asked (seen_on (home a t.slot) (option_map shown o)))
    (no_record a t.slot _ _ s refl refl (sym l))
not_named a t true true s l e = absurd (false≢true (sym e))

pub found_none : (p : Parts) (t : Ticket) → IsArena p.arena → names p.arena t ≡ false → found (seen p).state t ≡ None
found_none p t s e = not_named p.arena t _ _ s refl e

is_named : (a : Slots Request) (t : Ticket) (r : Request) (live same : Bool)
    → (live && same) ≡ true → record_in a t.slot ≡ Some r
    → (if same then asked (seen_on (home a t.slot) (option_map shown (record_in a t.slot))) else None)
    ≡ Some (as_request (listed (home a t.slot) (shown r)))
is_named a t r false same e is = absurd (false≢true e)
is_named a t r true false e is = absurd (false≢true e)
is_named a t r true true e is = ap (λ o. asked (seen_on (home a t.slot) (option_map shown o))) is

pub found_some : (p : Parts) (t : Ticket) (r : Request)
    → names p.arena t ≡ true → record_in p.arena t.slot ≡ Some r
    → found (seen p).state t ≡ Some (as_request (listed (home p.arena t.slot) (shown r)))
found_some p t r e is = is_named p.arena t r _ _ e is
