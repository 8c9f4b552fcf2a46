-- What an export's call did, in the words of its answer.
use Rattle.std.proofs.Common.{◌≡◌, ◌∙◌, ◌++◌, ℕ, ℤ, List, drop, length, Option, Some, None, true, false, refl, sym, ap, subst}
use Rattle.std.specs.Prelude.{IfSome, is_some}
use Rattle.std.proofs.lemmas.Bool.{false≢true}
use Rattle.coll_kinds.specs.declared.refusal.Refusal.{Refusal}
use Rattle.coll_kinds.specs.declared.ticket.Ticket.{Ticket}
use Rattle.coll_machine.specs.Common.{Runs, Machine}
use Rattle.coll_core.specs.declared.phase.Phase.{Phase}
use Rattle.coll_core.specs.declared.phase.Phase.TheVariants.{Done, Idle, Pending}
use Rattle.coll_serial.specs.declared.combination.Stage.{Stage}
use Rattle.coll_serial.specs.declared.test.Test.{Test}
use Rattle.coll_core.specs.Cores.{Parts, seen, setting}
use Rattle.coll_arena.specs.Slots.{record_in}
use Rattle.coll_core.specs.Progress.{BeginsSchedule}
use Rattle.coll_core.specs.Requests.{schedule, shown}
use Rattle.coll_core.specs.Steps.{Finishings, none}
use Rattle.coll_complete.specs.Completing.{freeing}
use Rattle.coll_complete.specs.Requests.{active_by, done_by, free_refusal, is_active, is_done, is_pending, left_of, pending_by, phase_at}
use Rattle.coll_complete.specs.Starting.{StartsAt}
use Rattle.coll_core.specs.declared.outcome.Outcome.{Outcome}
use Rattle.coll_serial.specs.declared.taken.Taken.{Taken}
use Rattle.coll_serial.specs.declared.taken.Taken.TheVariants as taken
use Rattle.coll_serial.specs.Tests.{IfTaken}
use Rattle.coll_serial.specs.Calls.{Completes, DeniesStart, DeniesTest, Fills, Takes, about_at, naming_refusal}
use Rattle.coll_serial.specs.Lengths.{IsOutcomeLengthAt}
use Rattle.coll_core.specs.declared.about.About as told
use Rattle.worzsunab.specs.declared.forms.About.{About}
use Rattle.worzsunab.specs.Forms.{IsAbout, about_of}
use Rattle.worzsunab.specs.declared.reason.Reason.{Reason}
use Rattle.coll_serial.specs.Combinations.{TakesBack}
use Rattle.coll_kinds.specs.declared.refusal.Refusal.TheVariants.{Stale}
use Rattle.worzsunab.specs.Beginnings.{StartsOne}
use Rattle.worzsunab.specs.Answers.{Answers, IsPhase, IsSame, Tested, phase_number}
use Rattle.worzsunab.specs.Givings.{Took}

pub none_of : {X : Type 0} (x : Option X) → is_some x ≡ false → x ≡ None
none_of None e = refl
none_of (Some y) e = absurd (false≢true (sym e))

pub was_open : (old : Option Parts) (engine p : Parts) → old ≡ Some engine → p ≡ engine → old ≡ Some p
was_open old engine p found is = found ∙ ap Some (sym is)

pub same_as : (p r : Parts) → r ≡ p → IsSame p r
same_as p r e = record { setting_is = ap setting e; seen_is = ap seen e }

pub freed : (p r : Parts) (rank : ℕ) (held named : Option Ticket) → held ≡ named
    → Runs (setting p) (seen p) (freeing rank held) (seen r) → Runs (setting p) (seen p) (freeing rank named) (seen r)
freed p r rank held named is runs = subst (λ (q : Option Ticket). Runs (setting p) (seen p) (freeing rank q) (seen r)) is runs

pub not_freed : (p : Parts) (rank : ℕ) (held named : Option Ticket) (why : Refusal) → held ≡ named
    → Some why ≡ free_refusal (setting p) (seen p).state rank held → free_refusal (setting p) (seen p).state rank named ≡ Some why
not_freed p rank held named why is e = ap (free_refusal (setting p) (seen p).state rank) (sym is) ∙ sym e

pub started : (p r : Parts) (rank : ℕ) (held named : Option Ticket) (bytes : List ℕ) → held ≡ named
    → StartsAt (setting p) rank (seen p) (held, bytes) (seen r) → StartsAt (setting p) rank (seen p) (named, bytes) (seen r)
started p r rank held named bytes is h = subst (λ (q : Option Ticket). StartsAt (setting p) rank (seen p) (q, bytes) (seen r)) is h

pub begun : (p r : Parts) (rank : ℕ) (held named : Option Ticket) (bytes : List ℕ) → held ≡ named → StartsAt (setting p) rank (seen p) (held, bytes) (seen r)
    → IfSome held (λ ticket. IfSome (record_in p.arena ticket.slot) (λ x. BeginsSchedule p r ticket.slot (schedule (shown x)))) → StartsOne p r rank named bytes
begun p r rank held named bytes is h begins = record {
  starts = started p r rank held named bytes is h;
  begins = subst (λ (q : Option Ticket). IfSome q
      (λ ticket. IfSome (record_in p.arena ticket.slot) (λ x. BeginsSchedule p r ticket.slot (schedule (shown x))))) is begins;
}

pub not_started : (p : Parts) (rank : ℕ) (held named : Option Ticket) (bytes : List ℕ) (why : Refusal) → held ≡ named
    → DeniesStart (setting p) rank (seen p) (held, bytes) why → DeniesStart (setting p) rank (seen p) (named, bytes) why
not_started p rank held named bytes why is h = subst (λ (q : Option Ticket). DeniesStart (setting p) rank (seen p) (q, bytes) why) is h

pub long : (v p : Parts) → v ≡ p → (held named : Option Ticket) (len : ℕ) → held ≡ named
    → IsOutcomeLengthAt (setting v) (seen v).state held len → IsOutcomeLengthAt (setting p) (seen p).state named len
long v p same held named len is h =
    subst (λ (k : Parts). IsOutcomeLengthAt (setting k) (seen k).state named len) same
    (subst (λ (q : Option Ticket). IsOutcomeLengthAt (setting v) (seen v).state q len) is h)

pub not_named : (v p : Parts) → v ≡ p → (rank : ℕ) (held named : Option Ticket) (why : Refusal) → held ≡ named
    → Some why ≡ naming_refusal (setting v) (seen v).state rank held → naming_refusal (setting p) (seen p).state rank named ≡ Some why
not_named v p same rank held named why is e = (λ z. naming_refusal (setting (sym same z)) (seen (sym same z)).state rank (sym is z)) ∙ sym e

pub phased : (v p : Parts) → v ≡ p → (held named : Option Ticket) (phase : Phase) (number : ℕ) → held ≡ named
    → phase_at (seen v) held ≡ Some phase → number ≡ phase_number phase → IsPhase (phase_at (seen p) named) number
phased v p same held named phase number is e n =
    let at : phase_at (seen p) named ≡ Some phase = (λ z. phase_at (seen (sym same z)) (sym is z)) ∙ e in
    subst (λ (o : Option Phase). IsPhase o number) (sym at) n

about_same : (v p : Parts) → v ≡ p → (held named : Option Ticket) → held ≡ named → about_at (seen p) named ≡ about_at (seen v) held
about_same v p same held named is = λ z. about_at (seen (sym same z)) (sym is z)

pub told_of : (v p : Parts) → v ≡ p → (held named : Option Ticket) → held ≡ named → (o : Option told.About) (a : told.About)
    → o ≡ Some a → o ≡ about_at (seen v) held → (about : About) → about ≡ about_of a
    → IsAbout (about_at (seen p) named) about
told_of v p same held named is o a some found about e =
    let at : about_at (seen p) named ≡ Some a = about_same v p same held named is ∙ (sym found ∙ some) in
    subst (λ (k : Option told.About). IsAbout k about) (sym at) e

pub untold : (v p : Parts) → v ≡ p → (held named : Option Ticket) → held ≡ named → (o : Option told.About) → o ≡ None
    → o ≡ about_at (seen v) held → about_at (seen p) named ≡ None
untold v p same held named is o nothing found = about_same v p same held named is ∙ (sym found ∙ nothing)

-- what is answered where a combination comes back
abbrev pub ReturnAnswers : (old new : Option Parts) (had noted : Reason) (code : ℤ) → Option Stage → Type 0
ReturnAnswers old new had noted code combination = Answers old new had noted code (Unit {0}) (λ p why. why ≡ Stale) (λ p r. TakesBack p r combination)

-- what holds of the combination that is there
pub of_combination : (P : Option Stage → Type 0) (o : Option (Option Stage)) (v : Option Stage) → o ≡ Some v → P v → IfSome o P
of_combination P o v is h = subst (λ (k : Option (Option Stage)). IfSome k P) (sym is) h

-- an engine that stays as it was
pub unchanged : (o : Option Parts) → IfSome o (λ p. IfSome o (λ r. (setting r ≡ setting p) × Finishings (setting p) (seen p) (seen r)))
unchanged None = tt
unchanged (Some p) = (refl, none)

-- ---- tests

pub ok_at : (P : Test → Type 0) (found test : Test) → found ≡ test → P found → P test
ok_at P found test is h = subst P is h

inactive_by : (o : Option Phase) → false ≡ pending_by o → false ≡ done_by o → active_by o ≡ false
inactive_by None a b = refl
inactive_by (Some Idle) a b = refl
inactive_by (Some Pending) a b = absurd (false≢true a)
inactive_by (Some Done) a b = absurd (false≢true b)

pub not_active : (m : Machine) (held named : Option Ticket) → held ≡ named → false ≡ is_pending m held → false ≡ is_done m held → is_active m named ≡ false
not_active m held named is a b = subst (λ (r : Option Ticket). is_active m r ≡ false) is (inactive_by (phase_at m held) a b)

pub is_waiting : (m : Machine) (held named : Option Ticket) → held ≡ named → true ≡ is_pending m held → is_pending m named ≡ true
is_waiting m held named is a = subst (λ (r : Option Ticket). is_pending m r ≡ true) is (sym a)

pub completing : (p r : Parts) (rank : ℕ) (held named left : Option Ticket) (old new : List ℕ) (count : ℕ) → held ≡ named
    → Completes (setting p) (seen p) rank held old count new (seen r) → left ≡ left_of (seen p) held
    → Tested p r rank named left old new count
completing p r rank held named left old new count is h l =
    record {
      completes =
          subst (λ (q : Option Ticket). Completes (setting p) (seen p) rank q old count new (seen r)) is h;
      left_is = l ∙ ap (left_of (seen p)) is;
    }

pub not_tested : (p : Parts) (rank : ℕ) (held named : Option Ticket) (room : ℕ) (why : Refusal) → held ≡ named
    → DeniesTest (setting p) (seen p) rank held room why → DeniesTest (setting p) (seen p) rank named room why
not_tested p rank held named room why is h = subst (λ (q : Option Ticket). DeniesTest (setting p) (seen p) rank q room why) is h

-- ---- bytes that are copied outside

-- what holds of the bytes that are there
pub of_bytes : (P : List ℕ → Type 0) (o : Option (List ℕ)) (v : List ℕ) → o ≡ Some v → P v → IfSome o P
of_bytes P o v is h = subst (λ (k : Option (List ℕ)). IfSome k P) (sym is) h

-- what holds of them gives what else holds of them
pub of_bytes_then : (P Q : List ℕ → Type 0) (o : Option (List ℕ)) → ((v : List ℕ) → P v → Q v) → IfSome o P → IfSome o Q
of_bytes_then P Q None gives h = tt
of_bytes_then P Q (Some v) gives h = gives v h

pub outcome_at : (P : Outcome → Type 0) (found : Taken) (o : Outcome) → found ≡ taken.Completed o → IfTaken P found → P o
outcome_at P found o is h = subst (IfTaken P) is h

pub taken_at : (P : Taken → Type 0) (found taken : Taken) → found ≡ taken → P found → P taken
taken_at P found taken is h = subst P is h

pub taking : (p r : Parts) (rank : ℕ) (held named left : Option Ticket) (room : ℕ) (o : Outcome) (bytes : List ℕ) → held ≡ named
    → Takes (setting p) (seen p) rank held room o (seen r) → bytes ≡ o.bytes → left ≡ left_of (seen p) held
    → Took p r rank named left room bytes
taking p r rank held named left room o bytes is h b l =
    record {
      outcome = o;
      takes =
          subst (λ (q : Option Ticket). Takes (setting p) (seen p) rank q room o (seen r)) is h;
      bytes_are = b;
      left_is = l ∙ ap (left_of (seen p)) is;
    }

-- bytes at the front of memory
pub filled_by : (front bytes out : List ℕ) (n : ℕ) → front ≡ bytes → n ≡ length bytes → Fills out (front ++ drop n out) bytes
filled_by front bytes out n same count = λ z. same z ++ drop (count z) out
