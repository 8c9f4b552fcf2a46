-- What steps do to an engine.
use Rattle.std.specs.Prelude.{◌≡◌, ◌≢◌, ◌<◌, ◌≤◌, ◌+◌, ◌==◌, ◌⊎◌, ℕ, suc, length, List, [], Bool, true, false, IfSome, Some, if◌then◌else◌}
use Rattle.coll_kinds.specs.declared.ticket.Ticket.{Ticket}
use Rattle.coll_lists.specs.Layouts.{Layout, list_of, sequence}
use Rattle.coll_lists.specs.Moves.{moved_back, taken_out}
use Rattle.coll_lists.specs.Neighbours.{first_in}
use Rattle.coll_sched.specs.declared.action.Action.{Action}
use Rattle.coll_sched.specs.declared.action.Action.TheVariants.{Combine, Send}
use Rattle.coll_sched.specs.declared.region.Region.{Region}
use Rattle.coll_sched.specs.Common.{Fits, IsCombine, Over, written, Progress}
use Rattle.coll_arena.specs.declared.list_name.ListName.TheVariants.{Ready, Running, Queue}
use Rattle.coll_arena.specs.Changes.{shifted, shifted_front}
use Rattle.coll_arena.specs.ListNames.{number_of}
use Rattle.coll_arena.specs.Slots.{home, names, record_in}
use Rattle.coll_match.specs.Instances.{mail}
use Rattle.coll_machine.specs.Common.{Setting, Machine, Finish, Nothing, MachineStep}
use Rattle.coll_refinement.specs.Remaining.{actions_left}
use Rattle.coll_refinement.specs.Sound.{Doable}
use Rattle.coll_core.specs.declared.request.Request.{Request}
use Rattle.coll_core.specs.declared.stepped.Stepped.{Stepped}
use Rattle.coll_core.specs.declared.stepped.Stepped.TheVariants.{Quiet, Moved, Finished, Out}
use Rattle.coll_core.specs.Cores.{Parts, seen, setting, tables}
use Rattle.coll_refinement.specs.Requests.{advanced, key}
use Rattle.coll_core.specs.Requests.{next_of, schedule, shown}
use Rattle.coll_core.specs.Works.{IsOwnResult, IsShort, Made, NamesSame, Piece, StandsAt, result_of}

-- the actions that all requests have still to do
abbrev pub left : Parts → ℕ
left p = actions_left (tables p)

abbrev pub ready : Parts → List ℕ
ready p = sequence p.arena.lists (number_of Ready)

abbrev pub running : Parts → List ℕ
running p = sequence p.arena.lists (number_of Running)

-- one slot goes to the back of the list on which it lies then; every other slot keeps its record and its place
pub record MovesOne (p r : Parts) (slot : ℕ) : Type 0 where
  pub lists_is : r.arena.lists ≡ moved_back slot (home r.arena slot) p.arena.lists
  pub others : (other : ℕ) → other ≢ slot → record_in r.arena other ≡ record_in p.arena other

-- the ticket's request is the first of Ready, and can do this action next
pub record IsActingAt (p : Parts) (t : Ticket) (a : Action) (request : Request) : Type 0 where
  pub first : first_in (ready p) ≡ Some t.slot
  pub live : names p.arena t ≡ true
  pub here : record_in p.arena t.slot ≡ Some request
  pub on_ready : home p.arena t.slot ≡ number_of Ready
  pub next_is : next_of (shown request) ≡ Some a
  pub doable : Doable (mail p.matches (key (shown request))) (shown request) a
  pub fits : Fits (schedule (shown request)).size a
  pub filled : length request.buffer ≡ (schedule (shown request)).size
  pub round_in : request.round ≤ length (schedule (shown request)).rounds
  pub comm_in : request.comm < p.arena.comms

abbrev pub IsActing : Parts → Ticket → Action → Type 0
IsActing p t a = (request : Request) × IsActingAt p t a request

-- the ticket names a request whose next action is a Combine
abbrev pub CombinesNext : Parts → Ticket → Type 0
CombinesNext p t = (r : Request) → record_in p.arena t.slot ≡ Some r → IfSome (next_of (shown r)) IsCombine

-- a request becomes Done, or nothing changes that callers see
abbrev pub StepsBy : Bool → Setting → Machine → Machine → Type 0
StepsBy true g m n = MachineStep g m Finish Nothing n
StepsBy false g m n = n ≡ m

-- one action was done, the last of its request or another one
pub record Goes (p r : Parts) (finished : Bool) : Type 0 where
  pub set : setting r ≡ setting p
  pub steps : StepsBy finished (setting p) (seen p) (seen r)
  pub lowers : suc (left r) ≡ left p

-- a slot at the back of a list, unless it lies on that list already
abbrev pub placed : ℕ → ℕ → Layout → Layout
placed slot list lists = if list_of lists slot == list then lists else moved_back slot list lists

-- the slot's request is that of the member to which a request sends, in the same collective, and waits for a message
pub record Receives (p : Parts) (sender : Request) (action : Action) (slot : ℕ) : Type 0 where
  pub request : Request
  pub to : ℕ
  pub from : Region
  pub sends : action ≡ Send to from
  pub here : record_in p.arena slot ≡ Some request
  pub key_is : key (shown request) ≡ key (shown sender)
  pub member_is : request.plan.member ≡ to
  pub waits : home p.arena slot ≡ number_of (Queue request.comm)

-- the first of Ready is one action on, and lies where its next one puts it; before that the receiver of its message may
-- come to the back of Ready; every other slot keeps its record and its place
pub record ActsFirst (p r : Parts) : Type 0 where
  pub slot : ℕ
  pub from : Request
  pub to : Request
  pub action : Action
  pub point : Progress
  pub first : first_in (ready p) ≡ Some slot
  pub here : record_in p.arena slot ≡ Some from
  pub there : record_in r.arena slot ≡ Some to
  pub next_is : next_of (shown from) ≡ Some action
  pub is : shown to ≡ advanced (shown from) point
  pub over : Over (schedule (shown from)) from.round (suc from.index) point.round point.index
  pub others : (other : ℕ) → other ≢ slot → record_in r.arena other ≡ record_in p.arena other
  pub lists_is :
      (r.arena.lists ≡ placed slot (home r.arena slot) p.arena.lists)
      ⊎ ((receiver : ℕ)
      × Receives p from action receiver
      × (r.arena.lists ≡ placed slot (home r.arena slot) (moved_back receiver (number_of Ready) p.arena.lists)))

-- the same of a request of Ready
pub record Acts (p r : Parts) (finished : Bool) : Type 0 where
  pub goes : Goes p r finished
  pub acts : ActsFirst p r
  pub running_is : running r ≡ running p
  -- the first of Ready stays the first where it can still go on
  pub stays_first :
      IfSome (first_in (ready p)) (λ slot. home r.arena slot ≡ number_of Ready → first_in (ready r) ≡ Some slot)

-- the work is out: its request runs, and stands before that combination with these operands
pub record IsOut (p : Parts) (w : Piece) : Type 0 where
  pub request : Request
  pub live : names p.arena w.ticket ≡ true
  pub here : record_in p.arena w.ticket.slot ≡ Some request
  pub runs : home p.arena w.ticket.slot ≡ number_of Running
  pub stands : StandsAt (shown request) w

-- nothing that callers see changes, and no action is done
pub record Stays (p r : Parts) : Type 0 where
  pub set : setting r ≡ setting p
  pub same : seen r ≡ seen p
  pub keeps : left r ≡ left p

-- the first request of Ready goes out, to the back of Running, and nothing else changes
pub record HandsOut (p r : Parts) (w : Piece) : Type 0 where
  pub first : first_in (ready p) ≡ Some w.ticket.slot
  pub out : IsOut r w
  pub is : r ≡ record p { arena = shifted p.arena w.ticket.slot (number_of Running) }
  pub stays : Stays p r

abbrev pub Steps : Parts → Parts → Stepped → Type 0
Steps p r Quiet = r ≡ p
Steps p r Moved = Acts p r false
Steps p r Finished = Acts p r true
Steps p r (Out w) = HandsOut p r w

-- a combination was handed out
abbrev pub IsWork : Stepped → Type 0
IsWork Quiet = ⊥
IsWork Moved = ⊥
IsWork Finished = ⊥
IsWork (Out w) = Unit {0}

-- the next action of the first ready request is a combination
pub record CombinesFirst (p : Parts) : Type 0 where
  pub slot : ℕ
  pub request : Request
  pub action : Action
  pub first : first_in (ready p) ≡ Some slot
  pub here : record_in p.arena slot ≡ Some request
  pub next_is : next_of (shown request) ≡ Some action
  pub combines : IsCombine action

-- the next action of the first ready request is a combination of operands of up to eight bytes
pub record CombinesShort (p : Parts) : Type 0 where
  pub slot : ℕ
  pub request : Request
  pub action : Action
  pub first : first_in (ready p) ≡ Some slot
  pub here : record_in p.arena slot ≡ Some request
  pub next_is : next_of (shown request) ≡ Some action
  pub short : IsShort action

-- nothing can be done without a combination
abbrev pub AwaitsWork : Parts → Type 0
AwaitsWork p = (ready p ≡ []) ⊎ CombinesFirst p

-- the work's result stands in its request's buffer
pub record HasResult (p r : Parts) (d : Made) : Type 0 where
  pub from : Request
  pub to : Request
  pub into : Region
  pub here : record_in p.arena d.piece.ticket.slot ≡ Some from
  pub there : record_in r.arena d.piece.ticket.slot ≡ Some to
  pub next_is : (l : Region) × (m : Region) × (next_of (shown from) ≡ Some (Combine d.piece.op d.piece.ty l m into))
  pub buf : to.buffer ≡ written from.buffer into d.bytes

-- a combination that was out is done
pub record Commits (p r : Parts) (d : Made) (finished : Bool) : Type 0 where
  pub goes : Goes p r finished
  pub moves : MovesOne p r d.piece.ticket.slot
  pub result : HasResult p r d
  pub running_is : running r ≡ taken_out d.piece.ticket.slot (running p)

abbrev pub CommitSteps : Parts → Parts → Made → Stepped → Type 0
CommitSteps p r d Quiet = ⊥
CommitSteps p r d Moved = Commits p r d false
CommitSteps p r d Finished = Commits p r d true
CommitSteps p r d (Out w) = ⊥

-- the request that the piece names runs, and these bytes combine its own operands at the action that the piece names
pub record HasOwnResult (p : Parts) (w : Piece) (bytes : List ℕ) : Type 0 where
  pub request : Request
  pub live : names p.arena w.ticket ≡ true
  pub here : record_in p.arena w.ticket.slot ≡ Some request
  pub runs : home p.arena w.ticket.slot ≡ number_of Running
  pub result : IsOwnResult (shown request) w bytes

-- the combination that is out for the action that the piece names is done, with the combination of its request's own operands
pub record CommitsOwn (p r : Parts) (w : Piece) (stepped : Stepped) : Type 0 where
  pub own : Piece
  pub names : NamesSame own w
  pub out : IsOut p own
  pub steps : CommitSteps p r (record { piece = own; bytes = result_of own }) stepped

-- some requests became Done, one after the other
pub data Finishings (g : Setting) (m : Machine) : Machine → Type 0 where
  none : Finishings g m m
  more : {mid n : Machine} → Finishings g m mid → MachineStep g mid Finish Nothing n → Finishings g m n

-- what a step did, by whether the request is Done
abbrev pub stepped_by : Bool → Stepped
stepped_by true = Finished
stepped_by false = Moved

-- that many steps were made, one after the other
pub data Makes (p : Parts) : ℕ → Parts → Type 0 where
  no_step : Makes p 0 p
  one_more : {n : ℕ} {mid r : Parts} (finished : Bool) → Makes p n mid → Acts mid r finished → Makes p (suc n) r

-- that many actions were done
pub record Ran (p r : Parts) (steps : ℕ) : Type 0 where
  pub makes : Makes p steps r
  pub set : setting r ≡ setting p
  pub finishes : Finishings (setting p) (seen p) (seen r)
  pub running_is : running r ≡ running p
  pub lowers : left r + steps ≡ left p

-- a combination that was out comes back undone: its request goes to the front of Ready, and nothing else changes
pub record Returns (p r : Parts) (w : Piece) : Type 0 where
  pub first : first_in (ready r) ≡ Some w.ticket.slot
  pub is : r ≡ record p { arena = shifted_front p.arena w.ticket.slot (number_of Ready) }
  pub stays : Stays p r
  pub running_is : running r ≡ taken_out w.ticket.slot (running p)
