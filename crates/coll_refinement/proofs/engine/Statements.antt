-- What lemmas say of each call of an engine, in the words of its arena, posting lists and instances: it keeps the engine's
-- condition, and is the machine's step.
use Rattle.std.specs.Prelude.{◌≡◌, ℕ, suc, Bool, List, [], ◌∷◌, ◌++◌, Some, None, ◌≢◌, ◌<◌, ◌≤◌, length, Option, nat_lt}
use Rattle.coll_kinds.specs.declared.datatype.Datatype.{Datatype}
use Rattle.coll_kinds.specs.declared.kind.Mode.{Mode}
use Rattle.coll_kinds.specs.declared.kind.Mode.TheVariants.{Once, Persistent}
use Rattle.coll_kinds.specs.declared.operation.Op.{Op}
use Rattle.coll_kinds.specs.declared.ticket.Ticket.{Ticket}
use Rattle.coll_kinds.specs.Common.{given_len, broken}
use Rattle.coll_sched.specs.declared.action.Action.{Action}
use Rattle.coll_sched.specs.declared.action.Action.TheVariants.{Combine, Send, Recv}
use Rattle.coll_sched.specs.declared.region.Region.{Region}
use Rattle.coll_sched.specs.Common.{Family, lock_step, actions_of, read_of, written, Progress, filled, put_mail, IsLocal, wrote}
use Rattle.coll_plans.specs.Plans.{family}
use Rattle.coll_lists.specs.Layouts.{sequence}
use Rattle.coll_arena.specs.declared.list_name.ListName.TheVariants.{Free as FreeList, Ready, Running, Idle}
use Rattle.coll_arena.specs.ListNames.{number_of}
use Rattle.coll_arena.specs.Slots.{Slots, home, record_in, lent}
use Rattle.coll_queues.specs.Postings.{Postings, groups_of, number_of as number_in, place_of, posts}
use Rattle.coll_machine.specs.declared.key.Key.{Key}
use Rattle.coll_machine.specs.Common.{put_key, Setting, AreGroups, size, Planned, Post, Init, Start, Retire, Free, Ticketed, Outcome, Nothing}
use Rattle.coll_machine.specs.Common.{refusal, first_of, unless, wrong_length, lent_bytes, MachineStep, MayFinish, StepsTo}
use Rattle.coll_match.specs.Instances.{given, mail, members, seats}
use Rattle.coll_refinement.specs.Requests.{Live, at, key, before}
use Rattle.coll_refinement.specs.Sound.{next, Doable}
use Rattle.coll_refinement.specs.Shown.{Instances, tables}
use Rattle.coll_arena.specs.Changes.{opened as arena_opened}
use Rattle.coll_machine.specs.Runs.{opened as machine_opened}
use Rattle.coll_refinement.specs.Tables.{machine, state}
use Rattle.coll_refinement.specs.FreeLocks.{NothingGoes}
use Rattle.coll_refinement.specs.Remaining.{actions_left}
use Rattle.coll_refinement.specs.Cores.{IsCore}
use Rattle.coll_kinds.specs.declared.refusal.Refusal.{Refusal}
use Rattle.coll_kinds.specs.declared.refusal.Refusal.TheVariants.{Full}
use Rattle.coll_queues.specs.Refusing.{judge_refusal, member_refusal}
use Rattle.coll_arena.specs.Sound as arena
use Rattle.coll_refinement.specs.Engines.{Delivers, entry_refusals}
use Rattle.coll_refinement.proofs.engine.Changes.{Advances, Completes, HasMade, Initialises, KeepsContributions, Moves, Posts, Releases, Restarts}

-- a request has in two regions what its member has there in lock-step
pub record AreOperands (f : Family) (contributions : ℕ → Option (List ℕ)) (x : Live) (left right : Region) : Type 0 where
  pub left_is : read_of x.buf left ≡ read_of (lock_step f (filled f contributions) x.round x.member) left
  pub right_is : read_of x.buf right ≡ read_of (lock_step f (filled f contributions) x.round x.member) right

module _ {R : Type 0} (shown : R → Live) (g : Setting) where
  -- an action: the condition, perhaps a request that becomes Done, and one action less that is left
  pub record ActsOnce (a b : Slots R) (q : Postings) (m n : Instances) : Type 0 where
    pub core : IsCore shown g b q n
    pub steps : MayFinish g (machine (tables shown g a q m)) (machine (tables shown g b q n))
    pub lowers : suc (actions_left (tables shown g b q n)) ≡ actions_left (tables shown g a q m)

  -- what an active request has, and what its next action finds
  pub record IsActive (a : Slots R) (m : Instances) (x : R) : Type 0 where
    pub round_in : (shown x).round ≤ length (family (shown x).sig (shown x).members (shown x).member).rounds
    pub index_in : (shown x).index
        ≤ length (actions_of (family (shown x).sig (shown x).members (shown x).member) (shown x).round)
    pub filled : length (shown x).buf ≡ (family (shown x).sig (shown x).members (shown x).member).size
    pub gave : given m (key (shown x)) (shown x).member ≢ None
    pub seated : seats m (key (shown x)) (shown x).member ≢ None
    pub sends : (to : ℕ) (from : Region) → next (shown x).members (shown x) ≡ Some (Send to from)
        → mail m (key (shown x)) (shown x).member to (shown x).round ≡ None
    pub takes : (of : ℕ) (into : Region) (bytes : List ℕ) → next (shown x).members (shown x) ≡ Some (Recv of into)
        → mail m (key (shown x)) of (shown x).member (shown x).round ≡ Some bytes
        → length bytes ≡ into.len
    -- the operands of a Combine are those of lock-step over what was given
    pub operands : (op : Op) (ty : Datatype) (left right into : Region)
        → next (shown x).members (shown x) ≡ Some (Combine op ty left right into)
        → AreOperands (family (shown x).sig (shown x).members) (given m (key (shown x))) (shown x) left right

-- an engine just opened
abbrev pub OpenCore : Type 0 → Type 0
OpenCore R =
    (shown : R → Live) (g : Setting) (q : Postings) (m : Instances)
    → 0 < g.wear
    → AreGroups g
    → g.groups ≡ groups_of q
    → g.places ≡ q.places
    → posts q ≡ (λ comm member. [])
    → members m ≡ (λ k. None)
    → given m ≡ (λ k member. None)
    → seats m ≡ (λ k member. None)
    → mail m ≡ (λ k from to round. None)
    → (let a = arena_opened g.slots (length g.groups) g.wear in
    IsCore shown g a q m × (machine (tables shown g a q m) ≡ machine_opened))

abbrev pub InitCore : Type 0 → Type 0
InitCore R =
    (shown : R → Live) (g : Setting) (a b : Slots R) (q r : Postings) (m : Instances)
    (t : Ticket) (rank comm : ℕ) (plan : Planned) (y : R)
    → IsCore shown g a q m
    → arena.IsSound a
    → Initialises shown g (state (tables shown g a q m)) a b q r t rank comm plan y
    → IsCore shown g b r m
    × MachineStep g (machine (tables shown g a q m)) (Init rank comm plan) (Ticketed t) (machine (tables shown g b r m))

abbrev pub PostCore : Type 0 → Type 0
PostCore R =
    (shown : R → Live) (g : Setting) (a b : Slots R) (q r : Postings) (m n : Instances)
    (t : Ticket) (rank comm : ℕ) (plan : Planned) (bytes : List ℕ) (y : R) (o : Progress) (list : ℕ)
    → IsCore shown g a q m
    → arena.IsSound a
    → Posts shown g (state (tables shown g a q m)) a b q r m n t rank comm plan bytes y o list
    → IsCore shown g b r n
    × StepsTo g (machine (tables shown g a q m)) (Post rank comm plan bytes) (Ticketed t)
    (machine (tables shown g b r n))

abbrev pub StartCore : Type 0 → Type 0
StartCore R =
    (shown : R → Live) (g : Setting) (a b : Slots R) (q : Postings) (m n : Instances)
    (t : Ticket) (rank : ℕ) (bytes : List ℕ) (x y : R) (o : Progress) (list : ℕ)
    → IsCore shown g a q m
    → Restarts shown g (state (tables shown g a q m)) a b m n t rank bytes x y o list
    → IsCore shown g b q n
    × StepsTo g (machine (tables shown g a q m)) (Start rank t bytes) Nothing (machine (tables shown g b q n))

abbrev pub RetireCore : Type 0 → Type 0
RetireCore R =
    (shown : R → Live) (g : Setting) (a b : Slots R) (q : Postings) (m n : Instances)
    (t : Ticket) (rank : ℕ) (x : R) (bytes : List ℕ) (last : Bool)
    → IsCore shown g a q m
    → Completes shown g (state (tables shown g a q m)) a b m n t rank x bytes last
    → IsCore shown g b q n
    × MachineStep g (machine (tables shown g a q m)) (Retire rank t)
    (Outcome rank (shown x).comm (shown x).place (before (shown x).starts) bytes)
    (machine (tables shown g b q n))

abbrev pub FreeCore : Type 0 → Type 0
FreeCore R =
    (shown : R → Live) (g : Setting) (a b : Slots R) (q : Postings) (m : Instances) (t : Ticket) (rank : ℕ) (x : R)
    → IsCore shown g a q m
    → Releases shown g (state (tables shown g a q m)) a b t rank x
    → IsCore shown g b q m
    × MachineStep g (machine (tables shown g a q m)) (Free rank t) Nothing (machine (tables shown g b q m))

-- room changes nothing that the tables show
abbrev pub RoomCore : Type 0 → Type 0
RoomCore R =
    (shown : R → Live) (g : Setting) (a : Slots R) (q r : Postings) (m n : Instances) (k : Key)
    → IsCore shown g a q m
    → HasMade q r m n k (size g k.comm)
    → IsCore shown g a r n × (tables shown g a r n ≡ tables shown g a q m)

-- ---- what a call may rely on

-- what is active: on whatever list but Idle
abbrev pub ActiveCore : Type 0 → Type 0
ActiveCore R =
    (shown : R → Live) (g : Setting) (a : Slots R) (q : Postings) (m : Instances) (i : ℕ) (x : R)
    → IsCore shown g a q m
    → record_in a i ≡ Some x
    → home a i ≢ number_of (Idle (shown x).comm)
    → IsActive shown g a m x

-- a post's collective and a request's next start are new to the member
abbrev pub NewCore : Type 0 → Type 0
NewCore R =
    (shown : R → Live) (g : Setting) (a : Slots R) (q : Postings) (m : Instances)
    → IsCore shown g a q m
    → ((rank comm : ℕ) (plan : Planned) (bytes : List ℕ)
    → refusal g (state (tables shown g a q m)) (Post rank comm plan bytes) ≡ None
    → given m (record { comm = comm; place = place_of q comm rank; start = 0 }) plan.member ≡ None)
    × ((i : ℕ) (x : R)
    → record_in a i ≡ Some x
    → given m (at (shown x) (shown x).starts) (shown x).member ≡ None)

-- ---- between the calls

-- the sum that the arena keeps is that of the bytes lent
abbrev pub LentCore : Type 0 → Type 0
LentCore R =
    (shown : R → Live) (g : Setting) (a : Slots R) (q : Postings) (m : Instances)
    → IsCore shown g a q m
    → arena.IsSound a
    → lent a ≡ lent_bytes g (state (tables shown g a q m))

-- where Ready and Running are empty nothing can go on
abbrev pub QuietCore : Type 0 → Type 0
QuietCore R =
    (shown : R → Live) (g : Setting) (a : Slots R) (q : Postings) (m : Instances)
    → IsCore shown g a q m
    → arena.IsSound a
    → length (sequence a.lists (number_of Ready)) ≡ 0
    → length (sequence a.lists (number_of Running)) ≡ 0
    → NothingGoes (tables shown g a q m)

-- ---- actions

abbrev pub ComputeCore : Type 0 → Type 0
ComputeCore R =
    (shown : R → Live) (g : Setting) (a b : Slots R) (q : Postings) (m : Instances)
    (t : Ticket) (x y : R) (act : Action) (o : Progress) (list : ℕ)
    → IsCore shown g a q m
    → Advances shown a b m t x y act o list
    → IsLocal act
    → o.buf ≡ wrote (λ from. []) (shown x).buf act (shown x).buf
    → ActsOnce shown g a b q m m

abbrev pub ReceiveCore : Type 0 → Type 0
ReceiveCore R =
    (shown : R → Live) (g : Setting) (a b : Slots R) (q : Postings) (m n : Instances)
    (t : Ticket) (x y : R) (of : ℕ) (into : Region) (bytes : List ℕ) (o : Progress) (list : ℕ)
    → IsCore shown g a q m
    → Advances shown a b n t x y (Recv of into) o list
    → KeepsContributions m n
    → mail m (key (shown x)) of (shown x).member (shown x).round ≡ Some bytes
    → mail n ≡ put_key (mail m) (key (shown x))
    (put_mail (mail m (key (shown x))) of (shown x).member (shown x).round None)
    → o.buf ≡ written (shown x).buf into bytes
    → ActsOnce shown g a b q m n

-- the message is delivered, and then the sender goes on
abbrev pub SendCore : Type 0 → Type 0
SendCore R =
    (shown : R → Live) (g : Setting) (a b c : Slots R) (q : Postings) (m n : Instances)
    (t : Ticket) (x y : R) (to : ℕ) (from : Region) (o : Progress) (list : ℕ)
    → IsCore shown g a q m
    → Delivers shown a b n (key (shown x)) to
    → Advances shown b c n t x y (Send to from) o list
    → KeepsContributions m n
    → mail n ≡ put_key (mail m) (key (shown x))
    (put_mail (mail m (key (shown x))) (shown x).member to (shown x).round (Some (read_of (shown x).buf from)))
    → o.buf ≡ (shown x).buf
    → ActsOnce shown g a c q m n

-- a Combine that is handed out, or comes back, changes nothing that callers see
abbrev pub MoveCore : Type 0 → Type 0
MoveCore R =
    (shown : R → Live) (g : Setting) (a b : Slots R) (q : Postings) (m : Instances) (t : Ticket) (x : R) (list : ℕ)
    → IsCore shown g a q m
    → Moves shown a b t x list
    → IsCore shown g b q m
    × (machine (tables shown g b q m) ≡ machine (tables shown g a q m))
    × (actions_left (tables shown g b q m) ≡ actions_left (tables shown g a q m))

-- what is Ready has an action that can be done
abbrev pub ReadyCore : Type 0 → Type 0
ReadyCore R =
    (shown : R → Live) (g : Setting) (a : Slots R) (q : Postings) (m : Instances) (i : ℕ) (x : R)
    → IsCore shown g a q m
    → record_in a i ≡ Some x
    → home a i ≡ number_of Ready
    → (act : Action)
    × (next (shown x).members (shown x) ≡ Some act)
    × Doable (mail m (key (shown x))) (shown x) act

-- ---- the machine's refusals, in the words of the tests that an engine makes on its arena and posting lists

-- no slot on Free
abbrev pub full_refusal : {R : Type 0} → Slots R → Option Refusal
full_refusal a = unless (nat_lt 0 (length (sequence a.lists (number_of FreeList)))) Full

abbrev pub PostRefused : Type 0 → Type 0
PostRefused R =
    (shown : R → Live) (g : Setting) (a : Slots R) (q : Postings) (m : Instances)
    (rank comm : ℕ) (plan : Planned) (bytes : List ℕ)
    → IsCore shown g a q m
    → arena.IsSound a
    → refusal g (state (tables shown g a q m)) (Post rank comm plan bytes)
    ≡ first_of (entry_refusals q rank comm Once plan
    ++ wrong_length plan.sig plan.n plan.member bytes
    ∷ full_refusal a
    ∷ [])

abbrev pub InitRefused : Type 0 → Type 0
InitRefused R =
    (shown : R → Live) (g : Setting) (a : Slots R) (q : Postings) (m : Instances)
    (rank comm : ℕ) (plan : Planned)
    → IsCore shown g a q m
    → arena.IsSound a
    → refusal g (state (tables shown g a q m)) (Init rank comm plan)
    ≡ first_of (entry_refusals q rank comm Persistent plan ++ full_refusal a ∷ [])

-- ---- what an accepted call has tested

-- of a post or an initialisation
pub record MayEnter {R : Type 0} (g : Setting) (a : Slots R) (q : Postings) (rank comm : ℕ) (mode : Mode)
    (plan : Planned) : Type 0 where
  pub member_there : member_refusal q comm rank ≡ None
  pub judged : judge_refusal q comm rank plan.sig ≡ None
  pub number_is : number_in q comm rank ≡ plan.member
  pub size_is : plan.n ≡ size g comm
  pub low : plan.member < plan.n
  pub few : plan.n ≤ 64
  pub checked : broken plan.sig plan.n ≡ None
  pub mode_is : plan.sig.mode ≡ mode
  pub free : 0 < length (sequence a.lists (number_of FreeList))

abbrev pub EntryCore : Type 0 → Type 0
EntryCore R =
    (shown : R → Live) (g : Setting) (a : Slots R) (q : Postings) (m : Instances) (rank comm : ℕ) (plan : Planned)
    → IsCore shown g a q m
    → arena.IsSound a
    → ((bytes : List ℕ)
    → refusal g (state (tables shown g a q m)) (Post rank comm plan bytes) ≡ None
    → MayEnter g a q rank comm Once plan × (length bytes ≡ given_len plan.sig plan.n plan.member))
    × (refusal g (state (tables shown g a q m)) (Init rank comm plan) ≡ None
    → MayEnter g a q rank comm Persistent plan)
