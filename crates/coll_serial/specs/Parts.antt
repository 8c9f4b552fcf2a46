-- Requests of a list, each with its span of the memory that belongs to the list.
use Rattle.std.specs.Prelude.{◌==◌, ◌-◌, ℕ, nat_lt, List, drop, map, take, Option, Some, None, if◌then◌else◌}
use Rattle.coll_kinds.specs.declared.ticket.Ticket.{Ticket}
use Rattle.coll_serial.specs.declared.part.Part.{Part}

-- what a part names: nothing where its generation is 0
abbrev pub ticket_of : Part → Option Ticket
ticket_of p = if p.generation == 0 then None else Some (record { slot = p.slot; generation = p.generation })

abbrev pub tickets_of : List Part → List (Option Ticket)
tickets_of parts = map ticket_of parts

-- how a request is written in a part
abbrev pub slot_in : Option Ticket → ℕ
slot_in None = 0
slot_in (Some t) = t.slot

abbrev pub generation_in : Option Ticket → ℕ
generation_in None = 0
generation_in (Some t) = t.generation

-- a request that is kept, unless what is left of it is null
abbrev pub kept_in : Option Ticket → Option Ticket → Option Ticket
kept_in None was = None
kept_in (Some t) was = was

-- a part's span of memory, as far as that reaches, and the span's length
abbrev pub span_of : Part → List ℕ → List ℕ
span_of p memory = take p.room (drop p.at memory)

abbrev pub span_len : Part → ℕ → ℕ
span_len p len = if nat_lt p.room (len - p.at) then p.room else len - p.at
