-- An outcome isn't longer than the room that was tested for it.
use Rattle.std.proofs.Common.{◌≡◌, ℕ, ◌≤◌, ◌<◌, true, false, List, length, Option, Some, None, inr, refl, sym, ap, subst, ◌∙◌, arith, length-take}
use Rattle.std.specs.Prelude.{slice_get, is_some}
use Rattle.std.proofs.lemmas.Bool.{false≢true}
use Rattle.std.proofs.lemmas.Option.{none-some, same_Some, slice_get_within}
use Rattle.coll_kinds.specs.declared.ticket.Ticket.{Ticket}
use Rattle.coll_kinds.specs.Lengths.{got_len}
use Rattle.coll_ops.specs.Values.{value}
use Rattle.coll_sched.specs.declared.region.Region.{Region}
use Rattle.coll_sched.specs.Regions.{read_of}
use Rattle.coll_plans.specs.Plans.{family}
use Rattle.coll_machine.specs.Calls as calls
use Rattle.coll_machine.specs.Common.{MachineStep, retire, Runs, Setting, size, Machine, State, Request, found, signature_of, Retires, filled}
use Rattle.coll_machine.proofs.Accepted.{found_is}
use Rattle.coll_refinement.specs.FreeLocks.{FreeLock}
use Rattle.coll_refinement.specs.Requests.{Live, as_request, before, key}
use Rattle.coll_refinement.specs.Tables.{Tables, asked, machine}
use Rattle.coll_core.specs.declared.outcome.Outcome.{Outcome}
use Rattle.coll_core.specs.declared.phase.Phase.{Phase}
use Rattle.coll_core.specs.declared.phase.Phase.TheVariants.{Done}
use Rattle.coll_core.specs.Cores.{Parts, seen, setting, tables}
use Rattle.coll_core.specs.Phases.{phase_in, phase_of}
use Rattle.coll_complete.specs.Completing.{completion, completion_if}
use Rattle.coll_complete.specs.Requests.{done_by, is_done}
use Rattle.coll_serial.specs.Calls.{Completes, DeniesTest, Fills, IsShort, Takes}
use Rattle.coll_serial.specs.Tests.{IfTaken}
use Rattle.coll_serial.specs.declared.taken.Taken.{Taken}
use Rattle.coll_serial.specs.declared.taken.Taken.TheVariants.{Completed}
use Rattle.coll_serial.specs.Lengths.{AreMeasured, HasRoom, IsOutcomeLength, IsOutcomeLengthAt, RoomFor}
use Rattle.coll_kinds.specs.declared.refusal.Refusal.TheVariants.{BadLength}

live : (o : Option Live) (r : Request) → asked o ≡ Some r → (q : Live) × (o ≡ Some q) × (as_request q ≡ r)
live None r e = absurd (none-some r e)
live (Some q) r e = (q, refl, same_Some (as_request q) r e)

length-read : (buf : List ℕ) (region : Region) → length (read_of buf region) ≤ region.len
length-read buf region = simp length-take (omega arith)

-- the bytes of an outcome are what the buffer of a Done request has at its output
fits_in : (v : Tables) (rank : ℕ) (t : Ticket) (comm place start : ℕ) (bytes : List ℕ) (u : State) (room : ℕ)
    → FreeLock v → Retires v.setting (machine v).state rank t comm place start bytes u → (machine v).done t.slot ≡ true
    → HasRoom v.setting (machine v).state t room → length bytes ≤ room
fits_in v rank t comm place start bytes u room lock p done has =
    let s : State = (machine v).state in
    let w = live (v.request t.slot) p.request (found_is s t p.request p.is).1 in
    let q : Live = w.0 in
    let r : Request = p.request in
    let same : r ≡ as_request q = sym w.2 in
    let own : signature_of s r ≡ Some q.sig = ap (signature_of s) same ∙ lock.own t.slot q w.1 in
    let sig : p.sig ≡ q.sig = same_Some p.sig q.sig (sym p.ready.sig_is ∙ own) in
    let comm_is : r.comm ≡ q.comm = ap (λ (r : Request). r.comm) same in
    let member_is : r.member ≡ q.member = ap (λ (r : Request). r.member) same in
    let place_is : r.place ≡ q.place = ap (λ (r : Request). r.place) same in
    let start_is : start ≡ before q.starts = ap before (p.ready.start_is ∙ ap (λ (r : Request). r.starts) same) in
    let size_is : comm ≡ q.comm = sym p.comm_is ∙ comm_is in
    let held = lock.held t.slot q w.1 done in
    let bytes_are : bytes ≡ value q.sig (filled q.sig (size v.setting q.comm) (v.given (key q))) q.member =
    p.bytes_is ∙ (λ z. value (sig z)
    (filled (sig z) (size v.setting (size_is z)) (v.given (record { comm = comm_is z; place = place_is z; start = start_is z }))) (member_is z)) in
    let read : bytes ≡ read_of q.buf (family q.sig (size v.setting q.comm) q.member).output = bytes_are ∙ sym held.value_is in
    let len : length bytes ≤ (family q.sig (size v.setting q.comm) q.member).output.len =
    rw read (length-read q.buf (family q.sig (size v.setting q.comm) q.member).output) in
    let tested : (family p.sig (size v.setting r.comm) r.member).output.len ≤ room = has r p.sig p.is p.ready.sig_is in
    let output : (family p.sig (size v.setting r.comm) r.member).output.len ≡ (family q.sig (size v.setting q.comm) q.member).output.len =
    (λ z. (family (sig z) (size v.setting (comm_is z)) (member_is z)).output.len) in
    omega (arith, len, tested, output)

record Retired (g : Setting) (m : Machine) (rank : ℕ) (t : Ticket) (comm place start : ℕ) (bytes : List ℕ) : Type 0 where
  after : State
  retires : Retires g m.state rank t comm place start bytes after
  done : m.done t.slot ≡ true

retired : (g : Setting) (rank who : ℕ) (t : Ticket) (comm place start : ℕ) (bytes : List ℕ) (m n : Machine)
    → MachineStep g m (calls.Retire rank t) (calls.Outcome who comm place start bytes) n → Retired g m rank t comm place start bytes
retired g rank who t comm place start bytes _ _ (retire {s} {u} {done} _ _ _ _ _ _ h is) = record { after = u; retires = h; done = is }

pub outcome_fits : (p : Parts) (n : Machine) (rank : ℕ) (r : Option Ticket) (o : Outcome) (room : ℕ) → FreeLock (tables p) → is_done (seen p) r ≡ true
    → Runs (setting p) (seen p) (completion rank r o) n → RoomFor (setting p) (seen p) r room → length o.bytes ≤ room
outcome_fits p n rank None o room lock done runs has = absurd (false≢true done)
outcome_fits p n rank (Some t) o room lock done runs has =
    let h = retired (setting p) rank o.rank t o.comm o.place o.start o.bytes (seen p) runs.0 runs.1 in
    fits_in (tables p) rank t o.comm o.place o.start o.bytes h.after room lock h.retires h.done (has done)

-- ---- the test of room

-- a ticket that names something Done names a request
record Names (m : Machine) (t : Ticket) : Type 0 where
  request : Request
  is : found m.state t ≡ Some request

named : (m : Machine) (t : Ticket) (phase : Phase) → phase_in m t ≡ Some phase → Names m t
named m t phase e = go (found m.state t) refl
  where
    go : (o : Option Request) → found m.state t ≡ o → Names m t
    go None is = absurd (none-some phase (sym (ap (phase_of m t) is) ∙ e))
    go (Some q) is = record { request = q; is = is }

pub named_low : (g : Setting) (m : Machine) (t : Ticket) (phase : Phase) (lengths : List ℕ) → AreMeasured g m.state lengths
    → phase_in m t ≡ Some phase → t.slot < length lengths
named_low g m t phase lengths a e =
    let w = named m t phase e in
    slice_get_within lengths t.slot _ (a.each t.slot w.request (found_is m.state t w.request w.is).1).is

pub has_room : (g : Setting) (m : Machine) (t : Ticket) (lengths : List ℕ) (want room : ℕ) → AreMeasured g m.state lengths
    → slice_get lengths t.slot ≡ Some want → want ≤ room
    → RoomFor g m (Some t) room
has_room g m t lengths want room a is le done q sig found_q sig_q =
    let k = a.each t.slot q (found_is m.state t q found_q).1 in
    let same : k.sig ≡ sig = same_Some k.sig sig (sym k.sig_is ∙ sig_q) in
    let w : got_len k.sig (size g q.comm) q.member ≡ want = same_Some _ want (sym k.is ∙ is) in
    let o : (family sig (size g q.comm) q.member).output.len ≡ got_len k.sig (size g q.comm) q.member =
    (λ z. (family (sym same z) (size g q.comm) q.member).output.len) ∙ k.output_is in
    omega (arith, w, o, le)

pub outcome_length : (g : Setting) (m : Machine) (t : Ticket) (phase : Phase) (lengths : List ℕ) (len : ℕ)
    → AreMeasured g m.state lengths → phase_in m t ≡ Some phase
    → slice_get lengths t.slot ≡ Some len → IsOutcomeLength g m.state t len
outcome_length g m t phase lengths len a e is =
    let w = named m t phase e in
    let k = a.each t.slot w.request (found_is m.state t w.request w.is).1 in
    record { request = w.request; sig = k.sig; found_is = w.is; sig_is = k.sig_is; is = same_Some len _ (sym is ∙ k.is) }

pub is_short : (g : Setting) (m : Machine) (t : Ticket) (lengths : List ℕ) (want room : ℕ) → AreMeasured g m.state lengths
    → slice_get lengths t.slot ≡ Some want → phase_in m t ≡ Some Done
    → room < want → IsShort g m t room (BadLength want room)
is_short g m t lengths want room a is phase lt =
    record { want = want; want_is = outcome_length g m t Done lengths want a phase is; done = ap done_by phase; is = refl; less = lt }

-- where the request isn't Done, no room is wanted
pub no_room : (g : Setting) (m : Machine) (t : Ticket) (phase : Phase) (room : ℕ) → phase_in m t ≡ Some phase
    → done_by (Some phase) ≡ false → RoomFor g m (Some t) room
no_room g m t phase room e not done = absurd (false≢true (sym not ∙ (sym (ap done_by e) ∙ done)))

-- in an engine's words: of what it shows, and of the caller's request
pub denies_short : (p v : Parts) → p ≡ v → (rank : ℕ) (r : Option Ticket) (t : Ticket) → r ≡ Some t
    → (lengths : List ℕ) (want room : ℕ) → AreMeasured (setting p) (seen p).state lengths → slice_get lengths t.slot ≡ Some want
    → phase_in (seen p) t ≡ Some Done → room < want → DeniesTest (setting v) (seen v) rank r room (BadLength want room)
denies_short p v same rank r t is lengths want room a want_is phase lt =
    let at : DeniesTest (setting p) (seen p) rank (Some t) room (BadLength want room) =
    inr (is_short (setting p) (seen p) t lengths want room a want_is phase lt) in
    subst (λ (k : Parts). DeniesTest (setting k) (seen k) rank r room (BadLength want room)) same
    (subst (λ (q : Option Ticket). DeniesTest (setting p) (seen p) rank q room (BadLength want room)) (sym is) at)

pub room_for : (p v : Parts) → p ≡ v → (r : Option Ticket) (t : Ticket) → r ≡ Some t → (lengths : List ℕ) (want room : ℕ)
    → AreMeasured (setting p) (seen p).state lengths → slice_get lengths t.slot ≡ Some want → want ≤ room
    → RoomFor (setting v) (seen v) r room
room_for p v same r t is lengths want room a want_is le =
    subst (λ (k : Parts). RoomFor (setting k) (seen k) r room) same
    (subst (λ (q : Option Ticket). RoomFor (setting p) (seen p) q room) (sym is) (has_room (setting p) (seen p) t lengths want room a want_is le))

pub length_for : (p v : Parts) → p ≡ v → (r : Option Ticket) (t : Ticket) → r ≡ Some t
    → (lengths : List ℕ) (phase : Phase) (len : ℕ) → AreMeasured (setting p) (seen p).state lengths → phase_in (seen p) t ≡ Some phase
    → slice_get lengths t.slot ≡ Some len → IsOutcomeLengthAt (setting v) (seen v).state r len
length_for p v same r t is lengths phase len a e len_is =
    subst (λ (k : Parts). IsOutcomeLengthAt (setting k) (seen k).state r len) same
    (subst (λ (q : Option Ticket). IsOutcomeLengthAt (setting p) (seen p).state q len) (sym is)
    (outcome_length (setting p) (seen p) t phase lengths len a e len_is))

-- the outcome of a test
pub tested_fits : (p v : Parts) → p ≡ v → (n : Machine) (rank : ℕ) (r : Option Ticket) (tested : Option Outcome) (o : Outcome)
    → tested ≡ Some o → (room : ℕ) → FreeLock (tables p) → is_some tested ≡ is_done (seen p) r
    → Runs (setting p) (seen p) (completion_if rank r tested) n → RoomFor (setting v) (seen v) r room → length o.bytes ≤ room
tested_fits p v same n rank r tested o is room lock some runs has =
    outcome_fits p n rank r o room lock (sym some ∙ ap is_some is)
    (subst (λ (x : Option Outcome). Runs (setting p) (seen p) (completion_if rank r x) n) is runs)
    (subst (λ (k : Parts). RoomFor (setting k) (seen k) r room) (sym same) has)

pub taken : (p v : Parts) → p ≡ v → (n : Machine) (rank : ℕ) (r : Option Ticket) (tested : Option Outcome) (o : Outcome)
    → tested ≡ Some o → Runs (setting p) (seen p) (completion_if rank r tested) n
    → (room : ℕ) → length o.bytes ≤ room → Takes (setting v) (seen v) rank r room o n
taken p v same n rank r tested o is runs room within = record {
  runs = subst (λ (k : Parts). Runs (setting k) (seen k) (completion rank r o) n) same
      (subst (λ (x : Option Outcome). Runs (setting p) (seen p) (completion_if rank r x) n) is runs);
  within = within;
}

pub taken_at : (P : Outcome → Type 0) (found : Taken) (o : Outcome) → found ≡ Completed o → IfTaken P found → P o
taken_at P found o is h = subst (IfTaken P) is h

-- and copied
pub completed : (g : Setting) (m n : Machine) (rank : ℕ) (r : Option Ticket) (o : Outcome) (room : ℕ) → Takes g m rank r room o n
    → (count : ℕ) (old new laid : List ℕ) → room ≡ length old → count ≡ length o.bytes → laid ≡ o.bytes → Fills old new laid
    → Completes g m rank r old count new n
completed g m n rank r o room takes count old new laid room_is count_is laid_is fills = record {
  outcome = o;
  runs = takes.runs;
  count_is = count_is;
  room = omega (arith, count_is, room_is, takes.within);
  fills = subst (λ (xs : List ℕ). Fills old new xs) laid_is fills;
}
