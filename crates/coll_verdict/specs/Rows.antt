-- Worked rows: a job of one rank that ends and never stalls, and two ranks that wait for one another.
use Rattle.std.specs.Prelude.{◌≡◌, false, true, [], ◌∷◌, Some, None, refl}
use Rattle.coll_kinds.specs.declared.ticket.Ticket.{Ticket}
use Rattle.coll_kinds.specs.declared.kind.Kind.TheVariants.{Allreduce}
use Rattle.coll_kinds.specs.declared.kind.Mode.TheVariants.{Once}
use Rattle.coll_kinds.specs.declared.operation.Op.TheVariants.{Sum}
use Rattle.coll_kinds.specs.declared.signature.Signature.{Signature}
use Rattle.coll_kinds.specs.Puts.{put}
use Rattle.coll_machine.specs.Common.{Setting, Request, Machine, nothing, key_of, new_request, created, started, holding, forgotten, phased, barrier}
use Rattle.coll_parser.specs.declared.command.Command.TheVariants.{Post, Init, Wait, WaitAll}
use Rattle.coll_parser.specs.Histories.{History}
use Rattle.coll_verdict.specs.Standings.{Standing, Reaches}
use Rattle.coll_verdict.specs.Stalls.{lines_of, StallsAlways, StallsNever}
use Rattle.coll_verdict.specs.Lasts.{IsLast, AreAccepted}
use Rattle.coll_verdict.specs.Waiting.{Hearing, StallsAlwaysBy, StallsNeverBy}
use Rattle.coll_verdict.specs.Sketches.{sketch_at}

-- ---- one rank posts a barrier

abbrev pub lone : History
lone = record {
  ranks = Some 1;
  groups = (0 ∷ []) ∷ [];
  opened = Some 0;
  commands = record { line = 3; rank = 0; command = Post 0 barrier [] } ∷ [];
}

lone_lines : lines_of lone 0 ≡ Post 0 barrier [] ∷ WaitAll (0 ∷ []) ∷ []
lone_lines = refl

abbrev pub one_rank : Setting
one_rank = record { ranks = 1; groups = (0 ∷ []) ∷ []; slots = 1; places = 1; wear = 1; starts = 1; trace = 2 }

abbrev pub only_ticket : Ticket
only_ticket = record { slot = 0; generation = 1 }

abbrev pub only_request : Request
only_request = new_request 0 0 0 0 Once

-- it has posted it,
abbrev pub posted : Machine
posted = phased (started (created nothing only_ticket only_request barrier) 0 only_request []) (λ slot. false)

-- the barrier is Done,
abbrev pub done : Machine
done = phased posted.state (put posted.done 0 true)

-- and it has left it
abbrev pub left : Machine
left = phased (forgotten (holding posted.state 0 None) (key_of only_request 0)) (put done.done 0 false)

-- so the job comes to its end
abbrev pub LoneBarrierEnds : Type 0
LoneBarrierEnds = StallsAlways lone → ⊥

-- and no run of it stalls
abbrev pub LoneBarrierNeverStalls : Type 0
LoneBarrierNeverStalls = StallsNever lone

-- whomever a library's requests wait for, it comes to its end,
abbrev pub LoneBarrierEndsBy : Type 0
LoneBarrierEndsBy = (hears : Hearing) → StallsAlwaysBy hears lone → ⊥

-- and doesn't stall
abbrev pub LoneBarrierNeverStallsBy : Type 0
LoneBarrierNeverStallsBy = (hears : Hearing) → StallsNeverBy hears lone

-- ---- two ranks post the barriers of two communicators, each waits for its first, and they don't begin with the same

abbrev pub crossed : History
crossed = record {
  ranks = Some 2;
  groups = (0 ∷ 1 ∷ []) ∷ (0 ∷ 1 ∷ []) ∷ [];
  opened = Some 1;
  commands =
      record { line = 4; rank = 0; command = Post 0 barrier [] }
      ∷ record { line = 5; rank = 0; command = Wait 0 }
      ∷ record { line = 6; rank = 0; command = Post 1 barrier [] }
      ∷ record { line = 8; rank = 1; command = Post 1 barrier [] }
      ∷ record { line = 9; rank = 1; command = Wait 0 }
      ∷ record { line = 10; rank = 1; command = Post 0 barrier [] }
      ∷ [];
}

first_waits : lines_of crossed 0 ≡ Post 0 barrier [] ∷ Wait 0 ∷ Post 1 barrier [] ∷ WaitAll (0 ∷ 1 ∷ []) ∷ []
first_waits = refl

second_waits : lines_of crossed 1 ≡ Post 1 barrier [] ∷ Wait 0 ∷ Post 0 barrier [] ∷ WaitAll (0 ∷ 1 ∷ []) ∷ []
second_waits = refl

-- at its first wait each has posted on one communicator, and not on the other
first_is_on_0 : (sketch_at (lines_of crossed 0) 1).comm 0 ≡ 0
first_is_on_0 = refl

second_is_on_1 : (sketch_at (lines_of crossed 1) 1).comm 0 ≡ 1
second_is_on_1 = refl

-- no run comes to its end
abbrev pub CrossedBarriersStall : Type 0
CrossedBarriersStall = StallsAlways crossed

-- and so it isn't true that none stalls
abbrev pub CrossedBarriersMayStall : Type 0
CrossedBarriersMayStall = StallsNever crossed → ⊥

-- whomever a library's requests wait for, no run comes to its end,
abbrev pub CrossedBarriersStallBy : Type 0
CrossedBarriersStallBy = (hears : Hearing) → StallsAlwaysBy hears crossed

-- and it isn't true that none stalls
abbrev pub CrossedBarriersMayStallBy : Type 0
CrossedBarriersMayStallBy = (hears : Hearing) → StallsNeverBy hears crossed → ⊥

-- a run comes to where it can't go on, though no call is refused
abbrev pub CrossedRunIsLast : Type 0
CrossedRunIsLast = (g : Setting) × (g.groups ≡ crossed.groups) × (s : Standing)
    × Reaches g (lines_of crossed) s × IsLast g (lines_of crossed) s × AreAccepted g (lines_of crossed) s

-- ---- two ranks initialise barriers on two communicators, and don't begin with the same

abbrev pub inits : History
inits = record crossed {
  commands =
      record { line = 4; rank = 0; command = Init 0 barrier }
      ∷ record { line = 5; rank = 0; command = Init 1 barrier }
      ∷ record { line = 7; rank = 1; command = Init 1 barrier }
      ∷ record { line = 8; rank = 1; command = Init 0 barrier }
      ∷ [];
}

-- a library may let both wait in their first calls
abbrev pub CrossedInitsMayStall : Type 0
CrossedInitsMayStall = StallsNever inits → ⊥

-- one whose initialisations don't wait never stalls so
abbrev pub CrossedInitsNeverStallBy : Type 0
CrossedInitsNeverStallBy = (hears : Hearing) → StallsNeverBy hears inits

-- ---- two ranks cross collectives of no elements

abbrev pub no_sum : Signature
no_sum = record barrier { kind = Allreduce; op = Some Sum }

abbrev pub empties : History
empties = record crossed {
  commands =
      record { line = 4; rank = 0; command = Post 0 no_sum [] }
      ∷ record { line = 5; rank = 0; command = Wait 0 }
      ∷ record { line = 6; rank = 0; command = Post 1 no_sum [] }
      ∷ record { line = 8; rank = 1; command = Post 1 no_sum [] }
      ∷ record { line = 9; rank = 1; command = Wait 0 }
      ∷ record { line = 10; rank = 1; command = Post 0 no_sum [] }
      ∷ [];
}

-- a library needn't wait where there is nothing to give
abbrev pub CrossedEmptiesMayEnd : Type 0
CrossedEmptiesMayEnd = StallsAlways empties → ⊥
