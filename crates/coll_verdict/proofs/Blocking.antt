-- No run goes beyond closed stands.
use Rattle.std.proofs.Common.{◌≡◌, ℕ, suc, ◌<◌, ◌≤◌, ◌⊎◌, inl, inr, Bool, true, false, ◌&&◌, List, [], ◌∷◌, length, Option, Some, None, refl, sym, ap}
use Rattle.std.proofs.Common.{subst, ◌∙◌, arith, eq-eqb}
use Rattle.std.proofs.lemmas.Bool.{cases_eq, false≢true}
use Rattle.std.proofs.lemmas.Option.{none-some, same_Some}
use Rattle.std.specs.Prelude.{slice_get}
use Rattle.coll_kinds.specs.declared.signature.Signature.{Signature}
use Rattle.coll_kinds.specs.declared.ticket.Ticket.{Ticket}
use Rattle.coll_kinds.specs.Common.{member_of, is_among, needs, put}
use Rattle.coll_kinds.proofs.Puts.{put_at, put_other, put_cases}
use Rattle.coll_machine.specs.Common.{Setting, group, size, Request, Machine, key_of, phased, signature_of, IsReady, MachineStep}
use Rattle.coll_machine.specs.Steps.{Finishes}
use Rattle.coll_machine.specs.Calls as calls
use Rattle.coll_machine.specs.Machines as machine
use Rattle.coll_machine.proofs.Held.{runs_are_posted, done_is_held}
use Rattle.coll_parser.specs.declared.command.Command.{Command}
use Rattle.coll_parser.specs.declared.command.Command.TheVariants.{Wait, WaitAny, WaitSome, WaitAll}
use Rattle.coll_verdict.specs.Standings.{Holding, Standing, beginning, carried_out, nothing_made, active_in, is_active, is_done, is_pending}
use Rattle.coll_verdict.specs.Standings.{NoneActive, NonePending, SomeDone, Completes, Carries, Steps, Reaches, AtEnd, Each}
use Rattle.coll_verdict.specs.Standings as standings
use Rattle.coll_verdict.specs.Sketches.{Sketch, sketched, sketched_if, sketch_at}
use Rattle.coll_verdict.specs.Stands.{Lacks, CantBeDone, IsBlocked, sketches, AreClosed, IsShort}
use Rattle.coll_verdict.specs.Stands as stands
use Rattle.coll_verdict.specs.Waiting.{Hearing, HasHeard, StepsBy, carries, finishes, ReachesBy, begins, goes_on}
use Rattle.coll_verdict.specs.Laws.{ClosedStandsStall, ClosedStandsStallBy}
use Rattle.coll_verdict.proofs.Sketched.{Grows, sketch_grows, lt_le}
use Rattle.coll_verdict.proofs.Agreeing.{IsLive}
use Rattle.coll_verdict.proofs.Heeding.{HeardAt, AreHeard, followed_heard, carried_heard, finished_heard, none_heard}
use Rattle.coll_verdict.proofs.Tracking.{found_at, unpending, Gave, Tracks, NeverDone, retire_is, carried, finished}

-- ---- a request that lacks a member isn't Done

late_never : (start starts mine theirs last : ℕ) → suc start ≡ starts → starts ≡ mine → start < theirs → theirs ≤ last → last < mine → ⊥
late_never start starts mine theirs last a b c d e = absurd (omega arith)

right_true : (a b : Bool) → (a && b) ≡ true → b ≡ true
right_true true b e = e
right_true false b e = absurd (false≢true e)

-- ---- what a command that was carried out found

wait_is : (g : Setting) (rank : ℕ) (m : Machine) (h : Holding) (q : ℕ) (n : Machine) (i : Holding) → Carries g rank m h (Wait q) n i → NonePending m h (q ∷ [])
wait_is g rank m h q _ _ (standings.wait {n} {i} _ ready completion over) = ready

wait_all_is : (g : Setting) (rank : ℕ) (m : Machine) (h : Holding) (qs : List ℕ) (n : Machine) (i : Holding)
    → Carries g rank m h (WaitAll qs) n i → NonePending m h qs
wait_all_is g rank m h qs _ _ (standings.wait_all {n} {i} _ ready completion over) = ready

-- one of these was Done
abbrev OneDone : Machine → Holding → List ℕ → Type 0
OneDone m h qs = (q : ℕ) × (is_among q qs ≡ true) × ((t : Ticket) × (h.of q ≡ Some t) × (m.done t.slot ≡ true))

one_done : (m : Machine) (h : Holding) (qs : List ℕ) → SomeDone m h qs → OneDone m h qs
one_done m h qs d = (d.0, d.1, go (h.of d.0) refl)
  where
    go : (o : Option Ticket) → h.of d.0 ≡ o → (t : Ticket) × (h.of d.0 ≡ Some t) × (m.done t.slot ≡ true)
    go None e = absurd (false≢true (ap (is_done m) (sym e) ∙ d.2))
    go (Some t) e = (t, e, right_true (is_active m (Some t)) (m.done t.slot) (ap (is_done m) (sym e) ∙ d.2))

wait_some_is : (g : Setting) (rank : ℕ) (m : Machine) (h : Holding) (qs : List ℕ) (n : Machine) (i : Holding)
    → Carries g rank m h (WaitSome qs) n i → NoneActive m h qs ⊎ OneDone m h qs
wait_some_is g rank m h qs _ _ (standings.wait_some {n} {i} _ ready completion over) = go ready
  where
    go : NoneActive m h qs ⊎ SomeDone m h qs → NoneActive m h qs ⊎ OneDone m h qs
    go (inl a) = inl a
    go (inr d) = inr (one_done m h qs d)

wait_any_is : (g : Setting) (rank : ℕ) (m : Machine) (h : Holding) (qs : List ℕ) (n : Machine) (i : Holding)
    → Carries g rank m h (WaitAny qs) n i → NoneActive m h qs ⊎ OneDone m h qs
wait_any_is g rank m h qs _ _ (standings.wait_for_none _ idle) = inl idle
wait_any_is g rank m h qs _ _ (standings.wait_any {n} _ q comm place begin bytes t among held step) =
    inr (q, among, (t, held, (retire_is g rank rank comm place begin bytes t m n step).1))

-- ---- requests that can't be Done before the stands

-- the request lacks a member, and was started as often as it is before the stand
abbrev IsUp : Hearing → Setting → (ℕ → Sketch) → ℕ → ℕ → ℕ → Type 0
IsUp hears g last rank q n = Lacks hears g last rank q × (n ≡ (last rank).starts q) × (0 < n)

never_up : (hears : Hearing) (g : Setting) (last : ℕ → Sketch) (rank q : ℕ) → IsUp hears g last rank q 0 → ⊥
never_up hears g last rank q u = let h : 0 < 0 = u.2 in absurd (omega arith)

module _ (hears : Hearing) (g : Setting) (k last : ℕ → Sketch) (grows : (r : ℕ) → Grows (k r) (last r)) (m : Machine)
    (h : ℕ → Holding) (tr : Tracks (IsUp hears g last) g m h k) (heard : AreHeard hears g m k) (rank : ℕ) where
  not_heard : (q : ℕ) (t : Ticket) (request : Request) → Lacks hears g last rank q → (k rank).starts q ≡ (last rank).starts q
      → IsLive (IsUp hears g last rank) m.state rank (k rank) q t request → (d : HeardAt hears g m.state k t.slot) → d.request ≡ request → ⊥
  not_heard q t request lacks same l d is = gave_it (d.heard lacks.other (subst (λ (c : ℕ). lacks.other < size g c) (sym own_comm) lacks.low) awaited)
    where
      comm_is : request.comm ≡ (last rank).comm q
      comm_is = l.comm_is ∙ sym ((grows rank).comm q l.low)

      own_comm : d.request.comm ≡ (last rank).comm q
      own_comm = ap (λ (r : Request). r.comm) is ∙ comm_is

      place_is : request.place ≡ (last rank).place q
      place_is = l.place_is ∙ sym ((grows rank).place q l.low)

      sig_is : d.sig ≡ lacks.sig
      sig_is = same_Some d.sig lacks.sig
          (sym d.sig_is ∙ (ap (signature_of m.state) is ∙ (l.sig_is ∙ (sym l.sketched ∙ (sym ((grows rank).sig q l.low) ∙ lacks.sig_is)))))

      member_is : d.request.member ≡ lacks.member
      member_is =
          let p = (runs_are_posted g tr.events m tr.run).posted t.slot request l.is in
          let seat : member_of request.rank (group g request.comm) ≡ member_of rank (group g ((last rank).comm q)) =
          λ z. member_of (l.rank_is z) (group g (comm_is z)) in
          ap (λ (r : Request). r.member) is ∙ same_Some request.member lacks.member (sym p.member_is ∙ (seat ∙ lacks.member_is))

      awaited : hears d.sig (size g d.request.comm) d.request.member lacks.other ≡ true
      awaited =
          let so : hears d.sig (size g d.request.comm) d.request.member lacks.other ≡ hears lacks.sig (size g ((last rank).comm q)) lacks.member lacks.other =
          λ z. hears (sig_is z) (size g (own_comm z)) (member_is z) lacks.other in
          so ∙ lacks.awaited

      gave_it : Gave g k (key_of d.request d.start) lacks.other → ⊥
      gave_it v =
          let late : (last v.rank).starts v.q < (last rank).starts q = lacks.late v.rank
          (ap (λ (c : ℕ). member_of v.rank (group g c)) (sym own_comm) ∙ v.member_is)
          v.q
          (lt_le v.q (k v.rank).made (last v.rank).made v.low (grows v.rank).made)
          ((grows v.rank).comm v.q v.low ∙ (v.comm_is ∙ own_comm))
          ((grows v.rank).place v.q v.low ∙ (v.place_is ∙ (ap (λ (r : Request). r.place) is ∙ place_is))) in
          late_never d.start d.request.starts ((last rank).starts q) ((k v.rank).starts v.q) ((last v.rank).starts v.q)
          d.start_is (ap (λ (r : Request). r.starts) is ∙ (l.starts_is ∙ same)) v.begun ((grows v.rank).starts v.q v.low) late

  not_done : (q : ℕ) (t : Ticket) → Lacks hears g last rank q → (k rank).starts q ≡ (last rank).starts q → (h rank).of q ≡ Some t → m.done t.slot ≡ true → ⊥
  not_done q t lacks same held done =
      let l = (tr.agrees rank).live q t held in
      let d = heard t.slot done in
      not_heard q t l.0 lacks same l.1 d (same_Some d.request l.0 (sym d.is ∙ l.1.is))

  -- nor one that was never started
  not_begun : (q : ℕ) (t : Ticket) → (k rank).starts q ≡ 0 → (h rank).of q ≡ Some t → m.done t.slot ≡ true → ⊥
  not_begun q t none held done =
      let l = (tr.agrees rank).live q t held in
      let d = done_is_held g tr.events m tr.run t.slot done in
      let is : d.request ≡ l.0 = same_Some d.request l.0 (sym d.is ∙ l.1.is) in
      let starts : suc d.start ≡ 0 = d.ready.start_is ∙ (ap (λ (r : Request). r.starts) is ∙ (l.1.starts_is ∙ none)) in
      absurd (omega arith)

  -- nor one that has been waited for
  not_rested : (q : ℕ) (t : Ticket) → (k rank).rested q ≡ true → (h rank).of q ≡ Some t → m.done t.slot ≡ true → ⊥
  not_rested q t rested held done =
      let l = (tr.agrees rank).live q t held in
      let d = done_is_held g tr.events m tr.run t.slot done in
      let is : d.request ≡ l.0 = same_Some d.request l.0 (sym d.is ∙ l.1.is) in
      false≢true (sym (l.1.rested rested) ∙ (ap (λ (r : Request). r.active) (sym is) ∙ d.ready.active))

pub never_done : (hears : Hearing) (g : Setting) (k last : ℕ → Sketch) → ((r : ℕ) → Grows (k r) (last r)) → (m : Machine)
    → AreHeard hears g m k → NeverDone (IsUp hears g last) g m k
never_done hears g k last grows from heard m f h tr rank q t held done up =
    not_done hears g k last grows m h tr (followed_heard hears g from m k heard f) rank q t up.0 up.1 held done

-- ---- a rank at its stand

module _ (hears : Hearing) (g : Setting) (m : Machine) (h : ℕ → Holding) (k last : ℕ → Sketch) (rank : ℕ)
    (tr : Tracks (IsUp hears g last) g m h k) (heard : AreHeard hears g m k) (grows : (r : ℕ) → Grows (k r) (last r)) (there : k rank ≡ last rank) where
  same_starts : (q : ℕ) → (k rank).starts q ≡ (last rank).starts q
  same_starts q = ap (λ (j : Sketch). j.starts q) there

  -- a request that was started and lacks a member is held, and active
  held_active : (q : ℕ) → 0 < (last rank).starts q → Lacks hears g last rank q → (t : Ticket) × ((h rank).of q ≡ Some t) × (is_active m (Some t) ≡ true)
  held_active q begun lacks = go ((h rank).of q) refl
    where
      up : IsUp hears g last rank q ((k rank).starts q)
      up = (lacks, same_starts q, subst (λ (n : ℕ). 0 < n) (sym (same_starts q)) begun)

      go : (o : Option Ticket) → (h rank).of q ≡ o → (t : Ticket) × ((h rank).of q ≡ Some t) × (is_active m (Some t) ≡ true)
      go None e = absurd ((tr.agrees rank).idle q e up)
      go (Some t) e =
          let l = (tr.agrees rank).live q t e in
          (t, e, ap active_in (found_at m.state t l.0 l.1.current l.1.is) ∙ l.1.active up)

  -- so a wait for it doesn't end
  waits : (qs : List ℕ) (q : ℕ) → is_among q qs ≡ true → 0 < (last rank).starts q → Lacks hears g last rank q → NonePending m (h rank) qs → ⊥
  waits qs q among begun lacks ready =
      let a = held_active q begun lacks in
      not_done hears g k last grows m h tr heard rank q a.0 lacks (same_starts q) a.1
      (unpending (is_active m (Some a.0)) (m.done a.0.slot) a.2 (ap (is_pending m) (sym a.1) ∙ ready q among))

  -- nor one for some, where none can be Done
  waits_for_some : (qs : List ℕ) (q : ℕ) → is_among q qs ≡ true → 0 < (last rank).starts q → Lacks hears g last rank q
      → Each qs (CantBeDone hears g last rank) → NoneActive m (h rank) qs ⊎ OneDone m (h rank) qs → ⊥
  waits_for_some qs q among begun lacks each (inl idle) =
      let a = held_active q begun lacks in
      false≢true (sym (ap (is_active m) (sym a.1) ∙ idle q among) ∙ a.2)
  waits_for_some qs q among begun lacks each (inr d) = go (each d.0 d.1)
    where
      go : (((last rank).starts d.0 ≡ 0) ⊎ ((last rank).rested d.0 ≡ true)) ⊎ Lacks hears g last rank d.0 → ⊥
      go (inl (inl none)) = not_begun hears g k last grows m h tr heard rank d.0 d.2.0 (same_starts d.0 ∙ none) d.2.1 d.2.2
      go (inl (inr rested)) = not_rested hears g k last grows m h tr heard rank d.0 d.2.0 (ap (λ (j : Sketch). j.rested d.0) there ∙ rested) d.2.1 d.2.2
      go (inr lacks) = not_done hears g k last grows m h tr heard rank d.0 d.2.0 lacks (same_starts d.0) d.2.1 d.2.2

  among_one : (q : ℕ) → is_among q (q ∷ []) ≡ true
  among_one q = rw (eq-eqb q q refl) refl

  blocked : (c : Command) (n : Machine) (i : Holding) → IsBlocked hears g last rank c → Carries g rank m (h rank) c n i → ⊥
  blocked _ n i (stands.wait q begun lacks) step = waits (q ∷ []) q (among_one q) begun lacks (wait_is g rank m (h rank) q n i step)
  blocked _ n i (stands.wait_all qs q among begun lacks) step = waits qs q among begun lacks (wait_all_is g rank m (h rank) qs n i step)
  blocked _ n i (stands.wait_some qs q among begun lacks each) step = waits_for_some qs q among begun lacks each (wait_some_is g rank m (h rank) qs n i step)
  blocked _ n i (stands.wait_any qs q among begun lacks each) step = waits_for_some qs q among begun lacks each (wait_any_is g rank m (h rank) qs n i step)

-- ---- runs

record IsWithin (hears : Hearing) (g : Setting) (lines : ℕ → List Command) (last : ℕ → ℕ) (s : Standing) : Type 0 where
  tracks : Tracks (IsUp hears g (sketches lines last)) g s.machine s.holds (sketches lines s.at)
  heard : AreHeard hears g s.machine (sketches lines s.at)
  within : (rank : ℕ) → s.at rank ≤ last rank

pub one_more_sketched : (lines : ℕ → List Command) (at : ℕ → ℕ) (rank : ℕ) (c : Command) → slice_get (lines rank) (at rank) ≡ Some c
    → put (sketches lines at) rank (sketched c (sketches lines at rank)) ≡ sketches lines (put at rank (suc (at rank)))
one_more_sketched lines at rank c get = λ z r. each r (cases_eq r rank) z
  where
    each : (r : ℕ) → (r ≡ rank) ⊎ (r ≡ rank → ⊥)
        → put (sketches lines at) rank (sketched c (sketches lines at rank)) r ≡ sketches lines (put at rank (suc (at rank))) r
    each r (inl e) =
        let after : sketches lines (put at rank (suc (at rank))) r ≡ sketch_at (lines rank) (suc (at rank)) =
        λ z. sketch_at (lines (e z)) (put_at at rank (suc (at rank)) r e z) in
        put_at (sketches lines at) rank (sketched c (sketches lines at rank)) r e
        ∙ sym (after ∙ ap (λ (o : Option Command). sketched_if o (sketch_at (lines rank) (at rank))) get)
    each r (inr d) =
        put_other (sketches lines at) rank (sketched c (sketches lines at rank)) r d ∙ sym (ap (sketch_at (lines r)) (put_other at rank (suc (at rank)) r d))

-- a request that is ready may become Done
pub finish_of : (g : Setting) (m : Machine) (slot start : ℕ) (q : Request) (sig : Signature) → m.state.request slot ≡ Some q
    → m.done slot ≡ false → IsReady g m.state q start sig
    → MachineStep g m calls.Finish calls.Nothing (phased m.state (put m.done slot true))
finish_of g m slot start q sig is pending ready =
    machine.finish slot (record { request = q; sig = sig; start = start; is = is; pending = pending; ready = ready; leaves = refl })

finishes_of : (g : Setting) (m n : Machine) → MachineStep g m calls.Finish calls.Nothing n
    → (slot : ℕ) × Finishes g m slot (put m.done slot true) × (n ≡ phased m.state (put m.done slot true))
finishes_of g _ _ (machine.finish {m} {done} slot f) = (
  slot,
  record { request = f.request; sig = f.sig; start = f.start; is = f.is; pending = f.pending; ready = f.ready; leaves = refl },
  ap (phased m.state) f.leaves,
)

one_later : (a b c : ℕ) → b ≡ a → c ≡ suc a → b ≤ c
one_later a b c e f = omega arith

sym_le : (a b : ℕ) → a ≡ b → b ≤ a
sym_le a b e = omega arith

less : (a b : ℕ) → a ≤ b → (a ≡ b → ⊥) → a < b
less a b l d = omega arith

up_to : (a b c d : ℕ) → d ≡ suc a → a < b → b ≡ c → d ≤ c
up_to a b c d x l y = omega arith

le_at : (a b c : ℕ) → b ≡ a → a ≤ c → b ≤ c
le_at a b c e l = omega arith

module _ (hears : Hearing) (g : Setting) (lines : ℕ → List Command) (last : ℕ → ℕ) (closed : AreClosed hears g lines last) where
  grown : (s : Standing) → IsWithin hears g lines last s → (r : ℕ) → Grows (sketches lines s.at r) (sketches lines last r)
  grown s w r = sketch_grows (lines r) (s.at r) (last r) (w.within r)

  before : (s : Standing) (rank : ℕ) (c : Command) (n : Machine) (i : Holding) → IsWithin hears g lines last s
      → slice_get (lines rank) (s.at rank) ≡ Some c → Carries g rank s.machine (s.holds rank) c n i → s.at rank < last rank
  before s rank c n i w get step = go (cases_eq (s.at rank) (last rank))
    where
      go : (s.at rank ≡ last rank) ⊎ (s.at rank ≡ last rank → ⊥) → s.at rank < last rank
      go (inl e) =
          absurd (blocked hears g s.machine s.holds (sketches lines s.at) (sketches lines last) rank w.tracks w.heard (grown s w)
          (ap (sketch_at (lines rank)) e) c n i
          (closed rank c (ap (slice_get (lines rank)) (sym e) ∙ get)) step)
      go (inr d) = less (s.at rank) (last rank) (w.within rank) d

  within_carries : (s : Standing) (rank : ℕ) (c : Command) (n : Machine) (i : Holding) → IsWithin hears g lines last s
      → slice_get (lines rank) (s.at rank) ≡ Some c → Carries g rank s.machine (s.holds rank) c n i
      → IsWithin hears g lines last (carried_out s rank n i)
  within_carries s rank c n i w get step = record {
    tracks = subst (λ (k : ℕ → Sketch). Tracks (IsUp hears g (sketches lines last)) g n (put s.holds rank i) k) (one_more_sketched lines s.at rank c get)
        (carried (IsUp hears g (sketches lines last)) g s.machine s.holds (sketches lines s.at) rank
        (never_up hears g (sketches lines last) rank)
        (never_done hears g (sketches lines s.at) (sketches lines last) (grown s w) s.machine w.heard) w.tracks c n i step);
    heard = carried_heard hears g s.machine (s.holds rank) (sketches lines s.at)
        (sketches lines (put s.at rank (suc (s.at rank)))) rank more w.heard c n i step;
    within = λ r. go r (put_cases s.at rank (suc (s.at rank)) r);
  }
    where
      later : (r : ℕ) → ((r ≡ rank) × (put s.at rank (suc (s.at rank)) r ≡ suc (s.at rank)))
          ⊎ ((r ≡ rank → ⊥) × (put s.at rank (suc (s.at rank)) r ≡ s.at r)) → s.at r ≤ put s.at rank (suc (s.at rank)) r
      later r (inl a) = one_later (s.at rank) (s.at r) (put s.at rank (suc (s.at rank)) r) (ap s.at a.0) a.1
      later r (inr a) = le_at (s.at r) (s.at r) (put s.at rank (suc (s.at rank)) r) refl (sym_le (put s.at rank (suc (s.at rank)) r) (s.at r) a.1)

      more : (r : ℕ) → Grows (sketches lines s.at r) (sketches lines (put s.at rank (suc (s.at rank))) r)
      more r = sketch_grows (lines r) (s.at r) (put s.at rank (suc (s.at rank)) r) (later r (put_cases s.at rank (suc (s.at rank)) r))

      go : (r : ℕ) → ((r ≡ rank) × (put s.at rank (suc (s.at rank)) r ≡ suc (s.at rank)))
          ⊎ ((r ≡ rank → ⊥) × (put s.at rank (suc (s.at rank)) r ≡ s.at r)) → put s.at rank (suc (s.at rank)) r ≤ last r
      go r (inl a) = up_to (s.at rank) (last rank) (last r) (put s.at rank (suc (s.at rank)) r) a.1 (before s rank c n i w get step) (ap last (sym a.0))
      go r (inr a) = le_at (s.at r) (put s.at rank (suc (s.at rank)) r) (last r) a.1 (w.within r)

  within_step : (s u : Standing) → IsWithin hears g lines last s → StepsBy hears g lines s u → IsWithin hears g lines last u
  within_step s _ w (carries {n} {i} rank c get step) = within_carries s rank c n i w get step
  within_step s _ w (finishes slot start q sig is pending has) = record {
    tracks = finished (IsUp hears g (sketches lines last)) g s.machine (phased s.machine.state (put s.machine.done slot true))
        s.holds (sketches lines s.at) w.tracks (finish_of g s.machine slot start q sig is pending has.ready);
    heard = finished_heard hears (IsUp hears g (sketches lines last)) g s.machine s.holds (sketches lines s.at) slot start q sig w.tracks is has w.heard;
    within = w.within;
  }

  within_begins : IsWithin hears g lines last beginning
  within_begins = record {
    tracks = record {
      events = [];
      run = refl;
      agrees = λ rank. record {
        made = refl;
        idle = λ q e up. never_up hears g (sketches lines last) rank q up;
        live = λ q t e. absurd (none-some t e);
        apart = λ p q t u e f z. absurd (none-some t e);
        posted = λ comm member is. refl;
      };
      gave = λ key member bytes e. absurd (none-some bytes e);
    };
    heard = none_heard hears g beginning.machine (sketches lines beginning.at) (λ slot. refl);
    within = λ rank. omega arith;
  }

  reached : (s : Standing) → ReachesBy hears g lines s → IsWithin hears g lines last s
  reached _ begins = within_begins
  reached _ (goes_on {s} {u} r step) = within_step s u (reached s r) step

-- no run goes beyond closed stands
pub within_stands : (hears : Hearing) (g : Setting) (lines : ℕ → List Command) (last : ℕ → ℕ) → AreClosed hears g lines last
    → (s : Standing) → ReachesBy hears g lines s → (rank : ℕ) → s.at rank ≤ last rank
within_stands hears g lines last closed s r = (reached hears g lines last closed s r).within

pub closed_stands_stall_by : ClosedStandsStallBy
closed_stands_stall_by hears g lines last closed short s r end =
    let w = reached hears g lines last closed s r in
    let low : s.at short.0 ≤ last short.0 = w.within short.0 in
    let there : s.at short.0 ≡ length (lines short.0) = end short.0 in
    let high : last short.0 < length (lines short.0) = short.1 in
    absurd (omega arith)

-- every library waits for those on whom a value rests
step_by_needs : (g : Setting) (lines : ℕ → List Command) (s u : Standing) → Steps g lines s u → StepsBy needs g lines s u
step_by_needs g lines s _ (standings.carries {n} {i} rank c get step) = carries rank c get step
step_by_needs g lines s _ (standings.finishes {n} step) =
    let f = finishes_of g s.machine n step in
    subst (λ (m : Machine). StepsBy needs g lines s (record s { machine = m })) (sym f.2)
    (finishes f.0 f.1.start f.1.request f.1.sig f.1.is f.1.pending (record { ready = f.1.ready; heard = λ p low need. f.1.ready.needed p need }))

pub reaches_by_needs : (g : Setting) (lines : ℕ → List Command) (s : Standing) → Reaches g lines s → ReachesBy needs g lines s
reaches_by_needs g lines _ standings.begins = begins
reaches_by_needs g lines _ (standings.goes_on {s} {u} r step) = goes_on (reaches_by_needs g lines s r) (step_by_needs g lines s u step)

pub closed_stands_stall : ClosedStandsStall
closed_stands_stall g lines last closed short s r end = closed_stands_stall_by needs g lines last closed short s (reaches_by_needs g lines s r) end
