-- What lemmas say of each change of the tables: each keeps the condition, and is the machine's step.
use Rattle.std.specs.Prelude.{◌≡◌, ◌≢◌, ◌<◌, ◌≤◌, ◌*◌, ℕ, suc, true, List, [], length, Some, None}
use Rattle.coll_kinds.specs.declared.kind.Mode.TheVariants.{Once, Persistent}
use Rattle.coll_kinds.specs.Common.{AreBytes, given_len}
use Rattle.coll_sched.specs.declared.action.Action.{Action}
use Rattle.coll_sched.specs.declared.action.Action.TheVariants.{Send, Recv}
use Rattle.coll_sched.specs.declared.region.Region.{Region}
use Rattle.coll_sched.specs.Common.{IsLocal, wrote, laid_in, written, Progress}
use Rattle.coll_plans.specs.Plans.{family, most_actions}
use Rattle.coll_arena.specs.declared.list_name.ListName.TheVariants.{Free as FreeList, Ready, Idle, Done}
use Rattle.coll_arena.specs.ListNames.{number_of}
use Rattle.coll_machine.specs.Common.{Setting, size, Planned, Post, Init, Start, Retire, Free, Ticketed, Outcome, Nothing, refusal, MachineStep}
use Rattle.coll_machine.specs.Common.{MayFinish, StepsTo}
use Rattle.coll_machine.specs.declared.key.Key.{Key}
use Rattle.coll_refinement.specs.Requests.{Live, before, key, advanced}
use Rattle.coll_refinement.specs.Tables.{Mail, Tables, machine, opened, state}
use Rattle.coll_refinement.specs.Sound.{IsSound, Lies, Stands}
use Rattle.coll_refinement.specs.Changes.{posting, joining, acting, leaving, dissolving, freeing, rehoming, delivered, newcomer, received}
use Rattle.coll_refinement.proofs.tables.CallTests.{Acting, Away, Starting, IsLast, Joining, New, Retiring, Waking, new_ticket, ticket}
use Rattle.coll_refinement.specs.Remaining.{actions_left}
use Rattle.coll_refinement.specs.FreeLocks.{FreeLock, HasHeard, NothingGoes}

abbrev pub OpenKeeps : Type 0
OpenKeeps =
    (g : Setting) (home : ℕ → ℕ)
    → 0 < g.wear
    → ((i : ℕ) → i < g.slots → home i ≡ number_of FreeList)
    → IsSound (opened g home)

abbrev pub InitKeeps : Type 0
InitKeeps =
    (v : Tables) (i : ℕ) (q : Live) (rank : ℕ) (plan : Planned) (home : ℕ → ℕ)
    → IsSound v
    → New v i q rank Persistent plan
    → refusal v.setting (state v) (Init rank q.comm plan) ≡ None
    → Away v i home
    → home i ≡ number_of (Idle q.comm)
    → IsSound (posting v i q home)
    × MachineStep v.setting (machine v) (Init rank q.comm plan) (Ticketed (new_ticket v i))
    (machine (posting v i q home))

abbrev pub PostKeeps : Type 0
PostKeeps =
    (v : Tables) (i : ℕ) (q : Live) (rank : ℕ) (plan : Planned) (bytes : List ℕ) (o : Progress) (home : ℕ → ℕ)
    → IsSound v
    → New v i q rank Once plan
    → refusal v.setting (state v) (Post rank q.comm plan bytes) ≡ None
    → Away v i home
    → Starting (posting v i q home) i q bytes o home
    → IsSound (joining (posting v i q home) i q bytes o home)
    × StepsTo v.setting (machine v) (Post rank q.comm plan bytes) (Ticketed (new_ticket v i))
    (machine (joining (posting v i q home) i q bytes o home))

abbrev pub StartKeeps : Type 0
StartKeeps =
    (v : Tables) (i : ℕ) (q : Live) (rank : ℕ) (bytes : List ℕ) (o : Progress) (home : ℕ → ℕ)
    → IsSound v
    → refusal v.setting (state v) (Start rank (ticket v i) bytes) ≡ None
    → Starting v i q bytes o home
    → IsSound (joining v i q bytes o home)
    × StepsTo v.setting (machine v) (Start rank (ticket v i) bytes) Nothing (machine (joining v i q bytes o home))

-- what an accepted call has tested is what the laws ask for, but for the spare slot
abbrev pub AcceptedPost : Type 0
AcceptedPost =
    (v : Tables) (i comm rank : ℕ) (plan : Planned) (bytes : List ℕ)
    → IsSound v
    → size v.setting comm ≤ 64
    → v.request i ≡ None
    → i < v.setting.slots
    → v.generation i < v.setting.wear
    → refusal v.setting (state v) (Post rank comm plan bytes) ≡ None
    → New v i (newcomer v comm rank plan) rank Once plan
    × (length bytes ≡ given_len plan.sig (size v.setting comm) plan.member)

abbrev pub AcceptedInit : Type 0
AcceptedInit =
    (v : Tables) (i comm rank : ℕ) (plan : Planned)
    → IsSound v
    → size v.setting comm ≤ 64
    → v.request i ≡ None
    → i < v.setting.slots
    → v.generation i < v.setting.wear
    → refusal v.setting (state v) (Init rank comm plan) ≡ None
    → New v i (newcomer v comm rank plan) rank Persistent plan

abbrev pub AcceptedStart : Type 0
AcceptedStart =
    (v : Tables) (i : ℕ) (q : Live) (rank : ℕ) (bytes : List ℕ)
    → IsSound v
    → v.request i ≡ Some q
    → AreBytes bytes
    → refusal v.setting (state v) (Start rank (ticket v i) bytes) ≡ None
    → Joining v i q bytes
    (record { round = 0; index = 0; buf = laid_in (family q.sig (size v.setting q.comm) q.member) bytes })

-- some member has still to give or to leave
abbrev pub RetireKeeps : Type 0
RetireKeeps =
    (v : Tables) (i : ℕ) (q : Live) (rank : ℕ) (bytes : List ℕ) (home : ℕ → ℕ)
    → IsSound v
    → Retiring v i q rank bytes home
    → (IsLast (leaving v i q home) (key q) → ⊥)
    → IsSound (leaving v i q home)
    × MachineStep v.setting (machine v) (Retire rank (ticket v i))
    (Outcome rank q.comm q.place (before q.starts) bytes)
    (machine (leaving v i q home))

-- the member is the last to leave
abbrev pub LastRetireKeeps : Type 0
LastRetireKeeps =
    (v : Tables) (i : ℕ) (q : Live) (rank : ℕ) (bytes : List ℕ) (home : ℕ → ℕ)
    → IsSound v
    → Retiring v i q rank bytes home
    → IsLast (leaving v i q home) (key q)
    → IsSound (dissolving (leaving v i q home) (key q))
    × MachineStep v.setting (machine v) (Retire rank (ticket v i))
    (Outcome rank q.comm q.place (before q.starts) bytes)
    (machine (dissolving (leaving v i q home) (key q)))

abbrev pub FreeKeeps : Type 0
FreeKeeps =
    (v : Tables) (i : ℕ) (q : Live) (rank : ℕ) (home : ℕ → ℕ)
    → IsSound v
    → v.request i ≡ Some q
    → refusal v.setting (state v) (Free rank (ticket v i)) ≡ None
    → Away v i home
    → Lies v.setting.wear (v.generation i) (home i)
    → IsSound (freeing v i home)
    × MachineStep v.setting (machine v) (Free rank (ticket v i)) Nothing (machine (freeing v i home))

-- a Copy, a Combine
abbrev pub ComputeKeeps : Type 0
ComputeKeeps =
    (v : Tables) (i : ℕ) (q : Live) (a : Action) (o : Progress) (home : ℕ → ℕ)
    → IsSound v
    → Acting v i q a o home
    → IsLocal a
    → o.buf ≡ wrote (λ x. []) q.buf a q.buf
    → Stands (size v.setting q.comm) (v.mail (key q)) (home i) (advanced q o)
    → IsSound (acting v i q o v.mail home) × MayFinish v.setting (machine v) (machine (acting v i q o v.mail home))

-- a Recv, whose message is there
abbrev pub ReceiveKeeps : Type 0
ReceiveKeeps =
    (v : Tables) (i : ℕ) (q : Live) (of : ℕ) (into : Region) (bytes : List ℕ) (o : Progress) (home : ℕ → ℕ)
    → IsSound v
    → Acting v i q (Recv of into) o home
    → v.mail (key q) of q.member q.round ≡ Some bytes
    → o.buf ≡ written q.buf into bytes
    → Stands (size v.setting q.comm) (received v q of (key q)) (home i) (advanced q o)
    → (let w = acting v i q o (received v q of) home in IsSound w × MayFinish v.setting (machine v) (machine w))

-- a Send: its delivery looks at one slot, and moves that one to Ready, or none
abbrev pub SendKeeps : Type 0
SendKeeps =
    (v : Tables) (i : ℕ) (q : Live) (to : ℕ) (from : Region) (o : Progress) (home : ℕ → ℕ)
    → IsSound v
    → Acting v i q (Send to from) o home
    → o.buf ≡ q.buf
    → Stands (size v.setting q.comm) (delivered v q to from (key q)) (home i) (advanced q o)
    → (let w = acting v i q o (delivered v q to from) home in
    (((j : ℕ) → Waking w (key q) to j → ⊥) → IsSound w × MayFinish v.setting (machine v) (machine w))
    × ((j : ℕ) (later : ℕ → ℕ)
    → Waking w (key q) to j
    → later j ≡ number_of Ready
    → Away w j later
    → IsSound (rehoming w later) × MayFinish v.setting (machine v) (machine (rehoming w later))))

-- a Combine goes out, or comes back undone: a request that isn't Done, before and after, lies elsewhere
abbrev pub RehomeKeeps : Type 0
RehomeKeeps =
    (v : Tables) (i : ℕ) (q : Live) (home : ℕ → ℕ)
    → IsSound v
    → v.request i ≡ Some q
    → v.home i ≢ number_of (Done q.comm)
    → home i ≢ number_of (Done q.comm)
    → Away v i home
    → Stands (size v.setting q.comm) (v.mail (key q)) (home i) q
    → IsSound (rehoming v home) × (machine (rehoming v home) ≡ machine v)

-- each action lowers what is left by one
abbrev pub ActsLower : Type 0
ActsLower =
    (v : Tables) (i : ℕ) (q : Live) (a : Action) (o : Progress) (mail : Key → Mail) (home : ℕ → ℕ)
    → IsSound v
    → Acting v i q a o home
    → suc (actions_left (acting v i q o mail home)) ≡ actions_left v

abbrev pub LittleLeft : Type 0
LittleLeft = (v : Tables) → IsSound v → actions_left v ≤ most_actions * v.setting.slots

-- ---- between the calls

abbrev pub LockIsFree : Type 0
LockIsFree = (v : Tables) → IsSound v → FreeLock v

-- where nothing can go on, each start to which all have given is Done at each member that works on it
abbrev pub QuietIsFinished : Type 0
QuietIsFinished =
    (v : Tables)
    → IsSound v
    → NothingGoes v
    → (i : ℕ) (q : Live)
    → v.request i ≡ Some q
    → q.active ≡ true
    → ((m : ℕ) → m < size v.setting q.comm → v.given (key q) m ≢ None)
    → v.home i ≡ number_of (Done q.comm)

-- and it is Done at a member before all have given: once those have from whom the member hears
abbrev pub QuietHasHeard : Type 0
QuietHasHeard =
    (v : Tables)
    → IsSound v
    → NothingGoes v
    → (i : ℕ) (q : Live)
    → v.request i ≡ Some q
    → q.active ≡ true
    → HasHeard v q
    → v.home i ≡ number_of (Done q.comm)

-- but not earlier
abbrev pub DoneHasHeard : Type 0
DoneHasHeard =
    (v : Tables)
    → IsSound v
    → (i : ℕ) (q : Live)
    → v.request i ≡ Some q
    → v.home i ≡ number_of (Done q.comm)
    → HasHeard v q
