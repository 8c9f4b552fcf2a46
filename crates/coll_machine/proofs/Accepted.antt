-- What it says of a call that none of its refusals has its condition.
use Rattle.std.proofs.Common.{◌≡◌, ℕ, Bool, true, false, not, cond, eqb, List, [], ◌∷◌, ◌++◌, length, Option, Some, None, refl, sym, ap, ◌∙◌}
use Rattle.std.specs.Prelude.{option_map, unwrap_or}
use Rattle.std.specs.List.{AllByRecursion}
use Rattle.std.proofs.lemmas.Bool.{eqb-true, not-true, false≢true}
use Rattle.std.proofs.lemmas.Option.{none-some}
use Rattle.coll_kinds.specs.declared.refusal.Refusal.{Refusal}
use Rattle.coll_kinds.specs.declared.refusal.SignatureFault.{SignatureFault}
use Rattle.coll_kinds.specs.declared.refusal.SignatureFault.TheVariants.{Mode as WrongMode}
use Rattle.coll_kinds.specs.declared.refusal.Refusal.TheVariants.{BadSignature, Stale, NotYours, Active, NotPersistent}
use Rattle.coll_kinds.specs.declared.kind.Mode.{Mode}
use Rattle.coll_kinds.specs.declared.kind.Mode.TheVariants.{Once, Persistent}
use Rattle.coll_kinds.specs.declared.ticket.Ticket.{Ticket}
use Rattle.coll_kinds.specs.Common.{broken, member_of, mode_number}
use Rattle.coll_machine.specs.Common.{Setting, group, size, State, Request, found, Planned, Post, Init, Start, Retire, Free, first_of, unless}
use Rattle.coll_machine.specs.Common.{mismatch_in, naming_refusals, idle_refusals, start_refusals, refusals, refusal}

-- where no condition is the first, none holds
pub all_none : (xs : List (Option Refusal)) → first_of xs ≡ None → AllByRecursion (λ (o : Option Refusal). o ≡ None) xs
all_none [] e = tt
all_none (None ∷ xs) e = (refl, all_none xs e)
all_none (Some why ∷ xs) e = absurd (none-some why (sym e))

pub fits : (b : Bool) (why : Refusal) → unless b why ≡ None → b ≡ true
fits true why e = refl
fits false why e = absurd (none-some why (sym e))

pub unbroken : (o : Option SignatureFault) → option_map BadSignature o ≡ None → o ≡ None
unbroken None e = refl
unbroken (Some cause) e = absurd (none-some (BadSignature cause) (sym e))

pub same_mode : (a b : Mode) → eqb (mode_number a) (mode_number b) ≡ true → a ≡ b
same_mode Once Once e = refl
same_mode Once Persistent e = absurd (false≢true e)
same_mode Persistent Once e = absurd (false≢true e)
same_mode Persistent Persistent e = refl

-- ---- a post, an initialisation

pub record Accepted (g : Setting) (s : State) (comm member : ℕ) (mode : Mode) (plan : Planned) : Type 0 where
  pub checked : broken plan.sig (size g comm) ≡ None
  pub mode_is : plan.sig.mode ≡ mode
  pub agrees : mismatch_in (group g comm) (s.posts comm) (length (s.posts comm member)) plan.sig ≡ None

abbrev as_member : Setting → ℕ → ℕ → ℕ
as_member g comm rank = unwrap_or (member_of rank (group g comm)) 0

number_is : (g : Setting) (comm rank member : ℕ) → member_of rank (group g comm) ≡ Some member → as_member g comm rank ≡ member
number_is g comm rank member is = ap (λ (o : Option ℕ). unwrap_or o 0) is

pub accepted_post : (g : Setting) (s : State) (rank comm member : ℕ) (plan : Planned) (bytes : List ℕ)
    → refusal g s (Post rank comm plan bytes) ≡ None → member_of rank (group g comm) ≡ Some member
    → Accepted g s comm member Once plan
accepted_post g s rank comm member plan bytes e is =
    let h = all_none (refusals g s (Post rank comm plan bytes)) e in
    record {
      checked = unbroken (broken plan.sig (size g comm)) h.1.1.0;
      mode_is = same_mode plan.sig.mode Once (fits _ (BadSignature WrongMode) h.1.1.1.0);
      agrees = ap (λ m. mismatch_in (group g comm) (s.posts comm) (length (s.posts comm m)) plan.sig) (sym (number_is g comm rank member is)) ∙ h.1.1.1.1.1.0;
    }

pub accepted_init : (g : Setting) (s : State) (rank comm member : ℕ) (plan : Planned) → refusal g s (Init rank comm plan) ≡ None
    → member_of rank (group g comm) ≡ Some member → Accepted g s comm member Persistent plan
accepted_init g s rank comm member plan e is =
    let h = all_none (refusals g s (Init rank comm plan)) e in
    record {
      checked = unbroken (broken plan.sig (size g comm)) h.1.1.0;
      mode_is = same_mode plan.sig.mode Persistent (fits _ (BadSignature WrongMode) h.1.1.1.0);
      agrees = ap (λ m. mismatch_in (group g comm) (s.posts comm) (length (s.posts comm m)) plan.sig) (sym (number_is g comm rank member is)) ∙ h.1.1.1.1.1.0;
    }

-- ---- a call that names a request

pub found_is : (s : State) (t : Ticket) (q : Request) → found s t ≡ Some q → (s.generation t.slot ≡ t.generation) × (s.request t.slot ≡ Some q)
found_is s t q e = go (eqb (s.generation t.slot) t.generation) refl e
  where
    go : (b : Bool) → eqb (s.generation t.slot) t.generation ≡ b → cond b (s.request t.slot) None ≡ Some q
        → (s.generation t.slot ≡ t.generation) × (s.request t.slot ≡ Some q)
    go true is e = (eqb-true _ _ is, e)
    go false is e = absurd (none-some q e)

-- it is the caller's
pub retired_mine : (g : Setting) (s : State) (rank : ℕ) (t : Ticket) (q : Request) → found s t ≡ Some q → refusal g s (Retire rank t) ≡ None → q.rank ≡ rank
retired_mine g s rank t q is e =
    let h = all_none (naming_refusals (Some q) rank) (ap (λ (o : Option Request). first_of (naming_refusals o rank)) (sym is) ∙ e) in
    eqb-true q.rank rank (fits (eqb q.rank rank) NotYours h.1.0)

-- and persistent and inactive, for a start and a free
pub record IsIdleOf (rank : ℕ) (q : Request) : Type 0 where
  pub rank_is : q.rank ≡ rank
  pub mode_is : q.mode ≡ Persistent
  pub idle : q.active ≡ false

pub started_mine : (g : Setting) (s : State) (rank : ℕ) (t : Ticket) (bytes : List ℕ) (q : Request) → found s t ≡ Some q
    → refusal g s (Start rank t bytes) ≡ None → IsIdleOf rank q
started_mine g s rank t bytes q is e =
    let list : Option Request → List (Option Refusal) = λ o. naming_refusals o rank ++ idle_refusals o ++ start_refusals g s bytes o in
    let h = all_none (list (Some q)) (ap (λ o. first_of (list o)) (sym is) ∙ e) in
    record {
      rank_is = eqb-true q.rank rank (fits (eqb q.rank rank) NotYours h.1.0);
      mode_is = same_mode q.mode Persistent (fits _ NotPersistent h.1.1.0);
      idle = not-true q.active (fits (not q.active) Active h.1.1.1.0);
    }

-- a free names a live request
pub record FreesIdle (s : State) (rank : ℕ) (t : Ticket) : Type 0 where
  pub request : Request
  pub is : s.request t.slot ≡ Some request
  pub idle_of : IsIdleOf rank request

pub freed_mine : (g : Setting) (s : State) (rank : ℕ) (t : Ticket) → refusal g s (Free rank t) ≡ None → FreesIdle s rank t
freed_mine g s rank t e = go (found s t) refl
  where
    go : (o : Option Request) → found s t ≡ o → FreesIdle s rank t
    go None is = absurd (none-some Stale (sym (ap (λ (o : Option Request). first_of (naming_refusals o rank ++ idle_refusals o)) (sym is) ∙ e)))
    go (Some q) is =
        let h = all_none (naming_refusals (Some q) rank ++ idle_refusals (Some q))
        (ap (λ (o : Option Request). first_of (naming_refusals o rank ++ idle_refusals o)) (sym is) ∙ e) in
        record {
          request = q;
          is = (found_is s t q is).1;
          idle_of = record {
            rank_is = eqb-true q.rank rank (fits (eqb q.rank rank) NotYours h.1.0);
            mode_is = same_mode q.mode Persistent (fits _ NotPersistent h.1.1.0);
            idle = not-true q.active (fits (not q.active) Active h.1.1.1.0);
          };
        }
