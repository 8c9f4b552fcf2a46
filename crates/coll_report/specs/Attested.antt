-- Which outcomes a trace attests.
use Rattle.std.specs.Prelude.{◌≡◌, ◌==◌, ◌&&◌, ℕ, Bool, false, List, Contains}
use Rattle.std.specs.List.{AllZip}
use Rattle.std.specs.Str.{bytes_eq}
use Rattle.coll_kinds.specs.declared.ticket.Ticket.{Ticket}
use Rattle.coll_machine.specs.declared.key.Key.{Key}
use Rattle.coll_machine.specs.Entries.{Entry, Posted, Inited, Started, Retired, Freed}
use Rattle.coll_core.specs.declared.outcome.Outcome.{Outcome}
use Rattle.coll_report.specs.Traces.{completions_of}

-- some entry of the trace is the rank's completion of that collective, with these bytes
abbrev pub IsAttested : List Entry → ℕ → Key → List ℕ → Type 0
IsAttested es rank k bytes = (t : Ticket) × Contains es (Retired rank t k.comm k.place k.start bytes)

-- the collective of an outcome
abbrev pub key_of : Outcome → Key
key_of o = record { comm = o.comm; place = o.place; start = o.start }

-- the entry is the completion that handed out the outcome
abbrev pub HandsOut : Entry → Outcome → Type 0
HandsOut e o = (t : Ticket) × (e ≡ Retired o.rank t o.comm o.place o.start o.bytes)

-- a rank's completions handed out these outcomes, in this order
abbrev pub HandedOut : List Entry → ℕ → List Outcome → Type 0
HandedOut es rank outcomes = AllZip HandsOut (completions_of rank es) outcomes

-- the test of one entry
abbrev pub attests : ℕ → Key → List ℕ → Entry → Bool
attests r k b (Posted rank t comm place sig bytes) = false
attests r k b (Inited rank t comm place sig) = false
attests r k b (Started rank t start bytes) = false
attests r k b (Retired rank t comm place start bytes) =
    rank == r && comm == k.comm && place == k.place && start == k.start && bytes_eq bytes b
attests r k b (Freed rank t) = false
