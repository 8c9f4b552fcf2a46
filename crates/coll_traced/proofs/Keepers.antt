-- Each call keeps what the lock keeps.
use Rattle.std.proofs.Common.{◌≡◌, ◌⊎◌, inl, inr, Bool, true, ℕ, zero, suc, ◌+◌, ◌<◌, ◌≤◌, List, [], ◌∷◌, ◌++◌, length, Some, None, refl, sym, ap}
use Rattle.std.proofs.Common.{subst, ◌∙◌, arith}
use Rattle.coll_kinds.specs.declared.refusal.Refusal.TheVariants.{NoMemory, TraceFull}
use Rattle.coll_core.specs.Calls.{Refuses}
use Rattle.std.specs.Prelude.{is_some, IfErr, IfOk, IfSome, OnErr, OnOk, Option, Result, Ok, Err}
use Rattle.std.proofs.lemmas.Option.{same_Some}
use Rattle.coll_kinds.specs.declared.kind.Mode.TheVariants.{Once, Persistent}
use Rattle.coll_kinds.specs.declared.refusal.Refusal.{Refusal}
use Rattle.coll_kinds.specs.declared.signature.Signature.{Signature}
use Rattle.coll_kinds.specs.declared.ticket.Ticket.{Ticket}
use Rattle.coll_core.specs.declared.offer.Offer.{Offer}
use Rattle.coll_traced.specs.declared.prepared.Prepared.{Prepared}
use Rattle.coll_traced.specs.Prepared.{IsPreparedFor}
use Rattle.coll_machine.specs.Common.{Setting, AreGroups, State, Machine, Request, found, nothing, Planned, Entry, Posted, Inited, Started, Retired}
use Rattle.coll_machine.specs.Common.{Freed, MachineStep, StepsTo, Posts, Inits, Starts, Retires, Enters, Leads, LegalTrace, over_slots, reserved}
use Rattle.coll_machine.specs.Common.{new_request, once_more}
use Rattle.coll_machine.specs.Calls as calls
use Rattle.coll_machine.specs.Traces.{reserved_for}
use Rattle.coll_machine.specs.Laws.{HasRoom, Reserves}
use Rattle.coll_machine.proofs.Rooms.{legal_goes_on, reserved_changes}
use Rattle.coll_core.proofs.opening.Groups.{are_groups}
use Rattle.coll_core.specs.Configs.{idle, setting_by, IsConfig}
use Rattle.coll_core.specs.declared.config.Config.{Config}
use Rattle.coll_core.specs.declared.outcome.Outcome.{Outcome}
use Rattle.coll_core.specs.declared.stepped.Stepped.{Stepped}
use Rattle.coll_core.specs.declared.stepped.Stepped.TheVariants.{Quiet, Moved, Finished, Out}
use Rattle.coll_core.specs.Steps.{Steps, CommitSteps, CommitsOwn, HandsOut, Returns}
use Rattle.coll_core.specs.Works.{Made, Piece, result_of}
use Rattle.coll_core.specs.declared.about.About.{About}
use Rattle.coll_core.specs.Phases.{about_in, about_of}
use Rattle.coll_core.specs.Cores.{Parts, seen, setting}
use Rattle.coll_traced.specs.Waits.{WaitFor}
use Rattle.coll_traced.specs.Traced.{Traced, IsKept, IsFull, Denies}
use Rattle.coll_traced.proofs.Entering.{means, posts, starts, found_posted, found_inited, found_started}

-- what the lock keeps but for the configuration
pub record IsKeeping (core : Parts) (entries : List Entry) (spoken_for limit : ℕ) : Type 0 where
  pub legal : LegalTrace (setting core) entries (seen core).state
  pub limit_is : limit ≡ (setting core).trace
  pub reserves : spoken_for ≡ reserved (setting core) (seen core).state

pub traced_in : {g : Setting} {config : Config} {p : Parts} {es : List Entry} {n : ℕ} → IsKept g config p es n → IsKeeping p es n config.trace
traced_in k = record { legal = k.legal; limit_is = k.limit_is; reserves = k.reserves }

-- the trace is legal in the setting of the ledger's type
pub legal_kept : {g : Setting} {config : Config} {p : Parts} {es : List Entry} {n : ℕ} → IsKept g config p es n
    → LegalTrace g es (seen p).state
legal_kept {g} {config} {p} {es} {n} k = subst (λ (h : Setting). LegalTrace h es (seen p).state) (k.opened ∙ k.set) k.legal

-- how the entries that are spoken for change is fixed by the entry
same_reserves : (e : Entry) (n a b : ℕ) → Reserves e n a → Reserves e n b → a ≡ b
same_reserves (Posted rank t comm place sig bytes) n a b x y = let x : a ≡ n + 1 = x in let y : b ≡ n + 1 = y in omega arith
same_reserves (Inited rank t comm place sig) n a b x y = let x : a ≡ n + 1 = x in let y : b ≡ n + 1 = y in omega arith
same_reserves (Started rank t start bytes) n a b x y = let x : a ≡ n + 1 = x in let y : b ≡ n + 1 = y in omega arith
same_reserves (Retired rank t comm place start bytes) n a b x y = let x : a + 1 ≡ n = x in let y : b + 1 ≡ n = y in omega arith
same_reserves (Freed rank t) n a b x y = let x : a + 1 ≡ n = x in let y : b + 1 ≡ n = y in omega arith

-- one entry more
pub traced_goes_on : (p r : Parts) (es fs : List Entry) (n m limit : ℕ) (e : Entry) → IsKeeping p es n limit → setting r ≡ setting p
    → Enters (setting p) (seen p).state e (seen r).state → HasRoom (setting p) (seen p).state es e → Reserves e n m → fs ≡ es ++ e ∷ []
    → IsKeeping r fs m limit
traced_goes_on p r es fs n m limit e h same enters room reserves fs_is =
    let changes = reserved_changes (setting p) (seen p).state (seen r).state es e h.legal.leads enters in
    let count : m ≡ reserved (setting p) (seen r).state =
    same_reserves e n m (reserved (setting p) (seen r).state) reserves
    (subst (λ k. Reserves e k (reserved (setting p) (seen r).state)) (sym h.reserves) changes) in
    record {
      legal = rw (same, fs_is) (legal_goes_on (setting p) (seen p).state (seen r).state es e h.legal enters room);
      limit_is = h.limit_is ∙ ap (λ (g : Setting). g.trace) (sym same);
      reserves = count ∙ ap (λ (g : Setting). reserved g (seen r).state) (sym same);
    }

-- nothing that callers see
pub traced_stays : (p r : Parts) (es : List Entry) (n limit : ℕ) → IsKeeping p es n limit → setting r ≡ setting p
    → (seen r).state ≡ (seen p).state → IsKeeping r es n limit
traced_stays p r es n limit h same state = record {
  legal = (rw (same, state) h.legal);
  limit_is = h.limit_is ∙ ap (λ (g : Setting). g.trace) (sym same);
  reserves = h.reserves ∙ (λ z. reserved (sym same z) (sym state z));
}

-- an engine that was just opened
none_reserved : (n : ℕ) → over_slots reserved_for (λ slot. None) n ≡ 0
none_reserved zero = refl
none_reserved (suc n) = λ z. none_reserved n z + 0

pub opened_traced : (p : Parts) (es : List Entry) (n : ℕ) (config : Config) → setting p ≡ setting_by config → seen p ≡ idle
    → es ≡ [] → n ≡ 0 → IsKeeping p es n config.trace
opened_traced p es n config set new empty none =
    let state : (seen p).state ≡ nothing = ap (λ (m : Machine). m.state) new in
    let count : reserved (setting p) (seen p).state ≡ 0 = ap (λ (s : State). reserved (setting p) s) state ∙ none_reserved (setting p).slots in
    record {
      legal = record { leads = subst (λ es. Leads (setting p) nothing es (seen p).state) (sym empty) (sym state); room = rw (empty, count) (omega arith) };
      limit_is = ap (λ (g : Setting). g.trace) (sym set);
      reserves = none ∙ sym count;
    }

pub opened_kept : (g : Setting) (p : Parts) (es : List Entry) (n : ℕ) (config copy : Config) → g ≡ setting_by config
    → IsConfig config → setting_by copy ≡ setting_by config → setting p ≡ setting_by config → seen p ≡ idle → es ≡ [] → n ≡ 0
    → IsKept g copy p es n
opened_kept g p es n config copy g_is fits same set new empty none =
    let h = opened_traced p es n copy (set ∙ sym same) new empty none in
    record {
      set = same ∙ sym g_is;
      opened = set ∙ sym same;
      groups =
          subst AreGroups (sym same) (are_groups config.ranks config.groups.items fits.groups.2);
      legal = h.legal;
      limit_is = h.limit_is;
      reserves = h.reserves;
    }

-- what an answer of the core's about says
abbrev as_about : Request → About
as_about q = record { rank = q.rank; comm = q.comm; place = q.place; mode = q.mode; starts = q.starts }

-- ---- a post

pub posted_there : (g : Setting) (m n : Machine) (rank comm : ℕ) (plan : Planned) (bytes : List ℕ) (t : Ticket)
    → StepsTo g m (calls.Post rank comm plan bytes) (calls.Ticketed t) n → is_some (found n.state t) ≡ true
posted_there g m n rank comm plan bytes t step =
    let p = posts g m n rank comm plan bytes t step in
    ap is_some (found_posted g m.state n.state rank t comm p.0 plan bytes p.1)

-- there is room for an entry and the one that it speaks for
room_for : (p : Parts) (es : List Entry) (n limit : ℕ) → IsKeeping p es n limit → (limit < length es + n + 2 → ⊥)
    → length es + reserved (setting p) (seen p).state + 2 ≤ (setting p).trace
room_for p es n limit h fits =
    let limit_is : limit ≡ (setting p).trace = h.limit_is in
    let count : n ≡ reserved (setting p) (seen p).state = h.reserves in
    omega arith

pub posted_traced : (p r : Parts) (es fs : List Entry) (n m limit : ℕ) (rank comm : ℕ) (plan : Planned) (bytes : List ℕ) (t : Ticket) (a : About)
    → IsKeeping p es n limit → setting r ≡ setting p
    → StepsTo (setting p) (seen p) (calls.Post rank comm plan bytes) (calls.Ticketed t) (seen r) → about_in (seen r) t ≡ Some a
    → (limit < length es + n + 2 → ⊥)
    → fs ≡ es ++ Posted rank t comm a.place plan.sig bytes ∷ [] → m ≡ n + 1
    → IsKeeping r fs m limit
posted_traced p r es fs n m limit rank comm plan bytes t a h same step about fits fs_is m_is =
    let s = posts (setting p) (seen p) (seen r) rank comm plan bytes t step in
    let named = found_posted (setting p) (seen p).state (seen r).state rank t comm s.0 plan bytes s.1 in
    let place : s.0 ≡ a.place =
    ap (λ (a : About). a.place) (same_Some (as_about (once_more (new_request rank comm s.1.member s.0 Once))) a (sym (ap about_of named) ∙ about)) in
    let posting : Posts (setting p) (seen p).state rank t comm a.place plan bytes (seen r).state =
    subst (λ k. Posts (setting p) (seen p).state rank t comm k plan bytes (seen r).state) place s.1 in
    traced_goes_on p r es fs n m limit (Posted rank t comm a.place plan.sig bytes) h same (plan, refl, posting) (room_for p es n limit h fits) m_is fs_is

-- what was kept for a post, and why nothing was
pub keeps_for : (r : Result Prepared Refusal) (offer : Offer) (kept : Prepared) → IfOk r (IsPreparedFor offer) → r ≡ Ok kept → IsPreparedFor offer kept
keeps_for r offer kept all is = subst (λ x. IfOk x (IsPreparedFor offer)) is all

pub kept_refused : (r : Result Prepared Refusal) (why : Refusal) → IfErr r (λ w. w ≡ NoMemory) → r ≡ Err why → why ≡ NoMemory
kept_refused r why all is = subst (λ x. IfErr x (λ w. w ≡ NoMemory)) is all

-- the entry with the code's copy of the bytes
pub posted_entry : (old middle new : List Entry) (rank : ℕ) (t : Ticket) (comm place : ℕ) (sig same : Signature) (bytes given : List ℕ)
    → middle ≡ old → new ≡ middle ++ Posted rank t comm place sig bytes ∷ [] → sig ≡ same → bytes ≡ given
    → new ≡ old ++ Posted rank t comm place same given ∷ []
posted_entry old middle new rank t comm place sig same bytes given kept pushed sig_is bytes_are =
    pushed ∙ (λ z. kept z ++ Posted rank t comm place (sig_is z) (bytes_are z) ∷ [])

-- ---- an initialisation

pub inited_there : (g : Setting) (m n : Machine) (rank comm : ℕ) (plan : Planned) (t : Ticket)
    → MachineStep g m (calls.Init rank comm plan) (calls.Ticketed t) n → is_some (found n.state t) ≡ true
inited_there g m n rank comm plan t step =
    let p = means g m n (calls.Init rank comm plan) (calls.Ticketed t) step in
    ap is_some (found_inited g m.state n.state rank t comm p.0 plan p.1)

pub inited_traced : (p r : Parts) (es fs : List Entry) (n m limit : ℕ) (rank comm : ℕ) (plan : Planned) (t : Ticket) (a : About)
    → IsKeeping p es n limit → setting r ≡ setting p
    → MachineStep (setting p) (seen p) (calls.Init rank comm plan) (calls.Ticketed t) (seen r) → about_in (seen r) t ≡ Some a → (limit < length es + n + 2 → ⊥)
    → fs ≡ es ++ Inited rank t comm a.place plan.sig ∷ [] → m ≡ n + 1
    → IsKeeping r fs m limit
inited_traced p r es fs n m limit rank comm plan t a h same step about fits fs_is m_is =
    let s = means (setting p) (seen p) (seen r) (calls.Init rank comm plan) (calls.Ticketed t) step in
    let named = found_inited (setting p) (seen p).state (seen r).state rank t comm s.0 plan s.1 in
    let place : s.0 ≡ a.place =
    ap (λ (a : About). a.place) (same_Some (as_about (new_request rank comm s.1.member s.0 Persistent)) a (sym (ap about_of named) ∙ about)) in
    let initing : Inits (setting p) (seen p).state rank t comm a.place plan (seen r).state =
    subst (λ k. Inits (setting p) (seen p).state rank t comm k plan (seen r).state) place s.1 in
    traced_goes_on p r es fs n m limit (Inited rank t comm a.place plan.sig) h same (plan, refl, initing) (room_for p es n limit h fits) m_is fs_is

pub inited_entry : (old middle new : List Entry) (rank : ℕ) (t : Ticket) (comm place : ℕ) (sig same : Signature) → middle ≡ old
    → new ≡ middle ++ Inited rank t comm place sig ∷ [] → sig ≡ same
    → new ≡ old ++ Inited rank t comm place same ∷ []
inited_entry old middle new rank t comm place sig same kept pushed sig_is = pushed ∙ (λ z. kept z ++ Inited rank t comm place (sig_is z) ∷ [])

-- ---- a start

pub started_there : (g : Setting) (m n : Machine) (rank : ℕ) (t : Ticket) (bytes : List ℕ)
    → StepsTo g m (calls.Start rank t bytes) calls.Nothing n → is_some (found n.state t) ≡ true
started_there g m n rank t bytes step =
    let p = starts g m n rank t bytes step in
    ap is_some (found_started g m.state n.state rank t p.0 bytes p.1)

-- which of its starts it is, counted from 0
started_number : (g : Setting) (m n : Machine) (rank : ℕ) (t : Ticket) (bytes : List ℕ) (a : About)
    → (step : StepsTo g m (calls.Start rank t bytes) calls.Nothing n) → about_in n t ≡ Some a → suc (starts g m n rank t bytes step).0 ≡ a.starts
started_number g m n rank t bytes a step about =
    let s = starts g m n rank t bytes step in
    let named = found_started g m.state n.state rank t s.0 bytes s.1 in
    ap suc s.1.start_is ∙ ap (λ (a : About). a.starts) (same_Some (as_about (once_more s.1.request)) a (sym (ap about_of named) ∙ about))

pub started_once : (g : Setting) (m n : Machine) (rank : ℕ) (t : Ticket) (bytes : List ℕ) (a : About)
    → StepsTo g m (calls.Start rank t bytes) calls.Nothing n → about_in n t ≡ Some a → 1 ≤ a.starts
started_once g m n rank t bytes a step about =
    let number : suc (starts g m n rank t bytes step).0 ≡ a.starts = started_number g m n rank t bytes a step about in
    omega arith

pub started_traced : (p r : Parts) (es fs : List Entry) (n m limit : ℕ) (rank : ℕ) (t : Ticket) (bytes : List ℕ) (a : About) (begin : ℕ)
    → IsKeeping p es n limit → setting r ≡ setting p
    → StepsTo (setting p) (seen p) (calls.Start rank t bytes) calls.Nothing (seen r) → about_in (seen r) t ≡ Some a
    → begin + 1 ≡ a.starts → (limit < length es + n + 2 → ⊥)
    → fs ≡ es ++ Started rank t begin bytes ∷ [] → m ≡ n + 1
    → IsKeeping r fs m limit
started_traced p r es fs n m limit rank t bytes a begin h same step about begin_is fits fs_is m_is =
    let s = starts (setting p) (seen p) (seen r) rank t bytes step in
    let number : suc s.0 ≡ a.starts = started_number (setting p) (seen p) (seen r) rank t bytes a step about in
    let number_is : s.0 ≡ begin = omega arith in
    let starting : Starts (setting p) (seen p).state rank t begin bytes (seen r).state =
    subst (λ k. Starts (setting p) (seen p).state rank t k bytes (seen r).state) number_is s.1 in
    traced_goes_on p r es fs n m limit (Started rank t begin bytes) h same starting (room_for p es n limit h fits) m_is fs_is

pub started_entry : (old middle new : List Entry) (rank : ℕ) (t : Ticket) (begin : ℕ) (bytes given : List ℕ) → middle ≡ old
    → new ≡ middle ++ Started rank t begin bytes ∷ [] → bytes ≡ given
    → new ≡ old ++ Started rank t begin given ∷ []
started_entry old middle new rank t begin bytes given kept pushed bytes_are = pushed ∙ (λ z. kept z ++ Started rank t begin (bytes_are z) ∷ [])

-- ---- a free

-- an entry that was spoken for
one_reserved : (p : Parts) (es : List Entry) (n limit : ℕ) (after : ℕ) → IsKeeping p es n limit → after + 1 ≡ reserved (setting p) (seen p).state → 0 < n
one_reserved p es n limit after h changes =
    let count : n ≡ reserved (setting p) (seen p).state = h.reserves in
    omega arith

pub freed_reserved : (p r : Parts) (es : List Entry) (n limit : ℕ) (rank : ℕ) (t : Ticket) → IsKeeping p es n limit
    → MachineStep (setting p) (seen p) (calls.Free rank t) calls.Nothing (seen r) → 0 < n
freed_reserved p r es n limit rank t h step =
    one_reserved p es n limit (reserved (setting p) (seen r).state) h
    (reserved_changes (setting p) (seen p).state (seen r).state es (Freed rank t) h.legal.leads
    (means (setting p) (seen p) (seen r) (calls.Free rank t) calls.Nothing step))

pub freed_traced : (p r : Parts) (es fs : List Entry) (n m limit : ℕ) (rank : ℕ) (t : Ticket) → IsKeeping p es n limit → setting r ≡ setting p
    → MachineStep (setting p) (seen p) (calls.Free rank t) calls.Nothing (seen r) → fs ≡ es ++ Freed rank t ∷ [] → m + 1 ≡ n → IsKeeping r fs m limit
freed_traced p r es fs n m limit rank t h same step fs_is m_is =
    let s = means (setting p) (seen p) (seen r) (calls.Free rank t) calls.Nothing step in
    traced_goes_on p r es fs n m limit (Freed rank t) h same s tt m_is fs_is

-- ---- a completion

abbrev Retiring : Parts → Parts → ℕ → Ticket → Outcome → Type 0
Retiring p r rank t o = MachineStep (setting p) (seen p) (calls.Retire rank t) (calls.Outcome o.rank o.comm o.place o.start o.bytes) (seen r)

retires : (p r : Parts) (rank : ℕ) (t : Ticket) (o : Outcome) → Retiring p r rank t o
    → Retires (setting p) (seen p).state rank t o.comm o.place o.start o.bytes (seen r).state
retires p r rank t o step = (means (setting p) (seen p) (seen r) (calls.Retire rank t) (calls.Outcome o.rank o.comm o.place o.start o.bytes) step).retires

pub retired_reserved : (p r : Parts) (es : List Entry) (n limit : ℕ) (rank : ℕ) (t : Ticket) (o : Outcome)
    → IsKeeping p es n limit → Retiring p r rank t o → 0 < n
retired_reserved p r es n limit rank t o h step =
    one_reserved p es n limit (reserved (setting p) (seen r).state) h
    (reserved_changes (setting p) (seen p).state (seen r).state es (Retired rank t o.comm o.place o.start o.bytes)
    h.legal.leads (retires p r rank t o step))

pub retired_traced : (p r : Parts) (es fs : List Entry) (n m limit : ℕ) (rank : ℕ) (t : Ticket) (o : Outcome)
    → IsKeeping p es n limit → setting r ≡ setting p → Retiring p r rank t o
    → fs ≡ es ++ Retired rank t o.comm o.place o.start o.bytes ∷ [] → m + 1 ≡ n → IsKeeping r fs m limit
retired_traced p r es fs n m limit rank t o h same step fs_is m_is =
    let s = retires p r rank t o step in
    traced_goes_on p r es fs n m limit (Retired rank t o.comm o.place o.start o.bytes) h same s tt m_is fs_is

pub retired_entry : (old new : List Entry) (rank : ℕ) (t : Ticket) (comm place begin : ℕ) (bytes outcome : List ℕ)
    → new ≡ old ++ Retired rank t comm place begin bytes ∷ [] → bytes ≡ outcome
    → new ≡ old ++ Retired rank t comm place begin outcome ∷ []
retired_entry old new rank t comm place begin bytes outcome pushed bytes_are = pushed ∙ (λ z. old ++ Retired rank t comm place begin (bytes_are z) ∷ [])

-- ---- with the configuration

pub kept : {g : Setting} (config : Config) (p r : Parts) (es fs : List Entry) (n m : ℕ) → IsKept g config p es n
    → setting r ≡ setting p → IsKeeping r fs m config.trace → IsKept g config r fs m
kept config p r es fs n m k same h =
    record { set = k.set; opened = same ∙ k.opened; groups = k.groups; legal = h.legal; limit_is = h.limit_is; reserves = h.reserves }

-- ---- steps

-- nothing that callers see
kept_stays : {g : Setting} (config : Config) (p r : Parts) (es : List Entry) (n : ℕ) → IsKept g config p es n
    → setting r ≡ setting p → (seen r).state ≡ (seen p).state → IsKept g config r es n
kept_stays config p r es n k same state = kept config p r es es n n k same (traced_stays p r es n config.trace (traced_in k) same state)

step_kept : {g : Setting} (config : Config) (p r : Parts) (es : List Entry) (n : ℕ) (stepped : Stepped) → IsKept g config p es n
    → Steps p r stepped → IsKept g config r es n
step_kept {g} config p r es n Quiet k same = subst (λ q. IsKept g config q es n) (sym same) k
step_kept {g} config p r es n Moved k a = kept_stays config p r es n k a.goes.set (ap (λ (m : Machine). m.state) a.goes.steps)
step_kept {g} config p r es n Finished k a =
    kept_stays config p r es n k a.goes.set (means (setting p) (seen p) (seen r) calls.Finish calls.Nothing a.goes.steps)
step_kept {g} config p r es n (Out w) k a = kept_stays config p r es n k a.stays.set (ap (λ (m : Machine). m.state) a.stays.same)

commit_kept : {g : Setting} (config : Config) (p r : Parts) (es : List Entry) (n : ℕ) (d : Made) (stepped : Stepped)
    → IsKept g config p es n → CommitSteps p r d stepped → IsKept g config r es n
commit_kept {g} config p r es n d Quiet k c = absurd c
commit_kept {g} config p r es n d Moved k c = kept_stays config p r es n k c.goes.set (ap (λ (m : Machine). m.state) c.goes.steps)
commit_kept {g} config p r es n d Finished k c =
    kept_stays config p r es n k c.goes.set (means (setting p) (seen p) (seen r) calls.Finish calls.Nothing c.goes.steps)
commit_kept {g} config p r es n d (Out w) k c = absurd c

-- calls that may be refused, as a whole
pub step_ended : {g : Setting} (config : Config) (p r : Parts) (es : List Entry) (n : ℕ) (o : Result Stepped Refusal)
    → IsKept g config p es n → IfOk o (Steps p r) → OnErr o (r ≡ p) → IsKept g config r es n
step_ended {g} config p r es n (Ok stepped) k ok err = step_kept config p r es n stepped k ok
step_ended {g} config p r es n (Err why) k ok err = subst (λ q. IsKept g config q es n) (sym err) k

pub commit_ended : {g : Setting} (config : Config) (p r : Parts) (es : List Entry) (n : ℕ) (d : Made) (o : Result Stepped Refusal)
    → IsKept g config p es n → IfOk o (CommitSteps p r d) → OnErr o (r ≡ p) → IsKept g config r es n
commit_ended {g} config p r es n d (Ok stepped) k ok err = commit_kept config p r es n d stepped k ok
commit_ended {g} config p r es n d (Err why) k ok err = subst (λ q. IsKept g config q es n) (sym err) k

pub commit_own_ended : {g : Setting} (config : Config) (p r : Parts) (es : List Entry) (n : ℕ) (w : Piece) (o : Result Stepped Refusal)
    → IsKept g config p es n → IfOk o (CommitsOwn p r w) → OnErr o (r ≡ p) → IsKept g config r es n
commit_own_ended {g} config p r es n w (Ok stepped) k ok err =
    commit_kept config p r es n (record { piece = ok.own; bytes = result_of ok.own }) stepped k ok.steps
commit_own_ended {g} config p r es n w (Err why) k ok err = subst (λ q. IsKept g config q es n) (sym err) k

pub abandon_ended : {g : Setting} (config : Config) (p r : Parts) (es : List Entry) (n : ℕ) (w : Piece) (o : Result (Unit {0}) Refusal)
    → IsKept g config p es n → OnOk o (Returns p r w) → OnErr o (r ≡ p) → IsKept g config r es n
abandon_ended {g} config p r es n w (Ok x) k ok err = kept_stays config p r es n k ok.stays.set (ap (λ (m : Machine). m.state) ok.stays.same)
abandon_ended {g} config p r es n w (Err why) k ok err = subst (λ q. IsKept g config q es n) (sym err) k

pub handed_out : {g : Setting} (config : Config) (p r : Parts) (es : List Entry) (n : ℕ) (o : Option Piece)
    → IsKept g config p es n → IfSome o (HandsOut p r) → (o ≡ None → r ≡ p) → IsKept g config r es n
handed_out {g} config p r es n (Some w) k out none = kept_stays config p r es n k out.stays.set (ap (λ (m : Machine). m.state) out.stays.same)
handed_out {g} config p r es n None k out none = subst (λ q. IsKept g config q es n) (sym (none refl)) k

-- ---- refusals

full_at : {g : Setting} {config : Config} {p : Parts} {es : List Entry} {n : ℕ} (ns : List WaitFor) (st : List Bool)
    → IsKept g config p es n → config.trace < length es + n + 2 → IsFull (record { core = p; entries = es; waits = ns; stalled = st })
full_at {g} {config} {p} {es} {n} ns st k lt =
    let limit : config.trace ≡ (setting p).trace = k.limit_is in
    let count : n ≡ reserved (setting p) (seen p).state = k.reserves in
    omega arith

fits_at : {g : Setting} {config : Config} {p : Parts} {es : List Entry} {n : ℕ} (ns : List WaitFor) (st : List Bool)
    → IsKept g config p es n → IsFull (record { core = p; entries = es; waits = ns; stalled = st }) → config.trace < length es + n + 2
fits_at {g} {config} {p} {es} {n} ns st k lt =
    let limit : config.trace ≡ (setting p).trace = k.limit_is in
    let count : n ≡ reserved (setting p) (seen p).state = k.reserves in
    let less : (setting p).trace < length es + reserved (setting p) (seen p).state + 2 = lt in
    omega arith

pub denies_room : {g : Setting} {config : Config} {p : Parts} {es : List Entry} {n : ℕ} {ns : List WaitFor} {st : List Bool}
    {h : Traced} {call : calls.Call} {why : Refusal} → IsKept g config p es n → record { core = p; entries = es; waits = ns; stalled = st } ≡ h
    → ((why ≡ TraceFull) × (config.trace < length es + n + 2)) ⊎ ((config.trace < length es + n + 2 → ⊥) × (why ≡ NoMemory)) → Denies h call why
denies_room {g} {config} {p} {es} {n} {ns} {st} {h} {call} {why} k view (inl full) =
    subst (λ (h : Traced). Denies h call why) view (inl (full.0, full_at ns st k full.1))
denies_room {g} {config} {p} {es} {n} {ns} {st} {h} {call} {why} k view (inr none) =
    subst (λ (h : Traced). Denies h call why) view (inr (λ full. none.0 (fits_at ns st k full), inl none.1))

pub denies_memory : {g : Setting} {config : Config} {p : Parts} {es : List Entry} {n : ℕ} {ns : List WaitFor} {st : List Bool}
    {h : Traced} {call : calls.Call} {why : Refusal} → IsKept g config p es n
    → record { core = p; entries = es; waits = ns; stalled = st } ≡ h → (config.trace < length es + n + 2 → ⊥)
    → why ≡ NoMemory → Denies h call why
denies_memory {g} {config} {p} {es} {n} {ns} {st} {h} {call} {why} k view fits none =
    subst (λ (h : Traced). Denies h call why) view (inr (λ full. fits (fits_at ns st k full), inl none))

pub denies_core : {g : Setting} {config : Config} {p : Parts} {es : List Entry} {n : ℕ} {ns : List WaitFor} {st : List Bool}
    {h : Traced} {call : calls.Call} {why : Refusal} → IsKept g config p es n
    → record { core = p; entries = es; waits = ns; stalled = st } ≡ h → (config.trace < length es + n + 2 → ⊥)
    → Refuses (setting p) (seen p) call why → Denies h call why
denies_core {g} {config} {p} {es} {n} {ns} {st} {h} {call} {why} k view fits refuses =
    subst (λ (h : Traced). Denies h call why) view (inr (λ full. fits (fits_at ns st k full), inr refuses))
