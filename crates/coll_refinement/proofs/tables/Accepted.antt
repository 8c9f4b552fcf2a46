-- What an accepted post, initialisation, start or free has tested is what the condition asks for.
use Rattle.std.proofs.Common.{◌≡◌, ℕ, ◌==◌, ◌<◌, ◌≤◌, true, false, List, ◌++◌, length, unwrap_or, Option, Some, None, refl, sym, ap, subst, ◌∙◌, arith}
use Rattle.std.specs.Prelude.{is_some, option_and_then}
use Rattle.std.specs.List.{AllByRecursion}
use Rattle.std.proofs.lemmas.Option.{same_Some}
use Rattle.std.proofs.lemmas.Bool.{eqb-true, ltb-true, false≢true, and_parts}
use Rattle.coll_kinds.specs.declared.signature.Signature.{Signature}
use Rattle.coll_kinds.specs.declared.refusal.Refusal.{Refusal}
use Rattle.coll_kinds.specs.declared.kind.Mode.{Mode}
use Rattle.coll_kinds.specs.declared.kind.Mode.TheVariants.{Once, Persistent}
use Rattle.coll_kinds.specs.Common.{broken, member_of, given_len}
use Rattle.coll_machine.specs.Common.{group, size, Request, new_request, Planned, Post, Init, Start, Free, first_of, mismatch_in, wrong_length}
use Rattle.coll_machine.specs.Common.{naming_refusals, idle_refusals, start_refusals, refusals, refusal}
use Rattle.coll_machine.specs.Refusals.{posting_refusals}
use Rattle.coll_machine.proofs.Accepted.{all_none, fits, unbroken, same_mode, started_mine, freed_mine}
use Rattle.coll_machine.proofs.First.{agrees_with}
use Rattle.coll_machine.proofs.Members.{member_at}
use Rattle.coll_plans.proofs.Plans.{all_served}
use Rattle.coll_refinement.specs.Requests.{Live, as_request}
use Rattle.coll_refinement.specs.Tables.{Tables, Paths, asked, state}
use Rattle.coll_refinement.specs.Sound.{Base}
use Rattle.coll_refinement.specs.Changes.{newcomer}
use Rattle.coll_refinement.proofs.tables.CallTests.{New, ticket}
use Rattle.coll_refinement.proofs.tables.Statements.{AcceptedPost, AcceptedInit, AcceptedStart}
use Rattle.coll_refinement.proofs.tables.Simulation.{finds}

-- where no mismatch is told the signature that stands at the place is the same
pub judged : (v : Tables) (paths : Paths) → Base v paths → (comm place : ℕ) (sig s : Signature)
    → mismatch_in (group v.setting comm) (v.posts comm) place sig ≡ None → v.signed comm place ≡ Some s → s ≡ sig
judged v paths b comm place sig s fit e =
    let m = b.signs comm place s e in
    let a = agrees_with v.setting (state v) comm place m.0 sig s fit m.1 m.2 in
    same_Some s sig (sym e ∙ b.agreed comm a.0 place sig a.2)

-- what the tests of a posting leave
pub record Passed (v : Tables) (comm rank : ℕ) (mode : Mode) (plan : Planned) : Type 0 where
  pub member_is : member_of rank (group v.setting comm) ≡ Some plan.member
  pub low : plan.member < size v.setting comm
  pub checked : broken plan.sig (size v.setting comm) ≡ None
  pub mode_is : plan.sig.mode ≡ mode
  pub n_is : plan.n ≡ size v.setting comm
  pub agrees : mismatch_in (group v.setting comm) (v.posts comm) (length (v.posts comm plan.member)) plan.sig ≡ None
  pub place_low : length (v.posts comm plan.member) < v.setting.places

pub passed : (v : Tables) (comm rank : ℕ) (mode : Mode) (plan : Planned)
    → AllByRecursion (λ (o : Option Refusal). o ≡ None)
    (posting_refusals v.setting (state v) rank comm (unwrap_or (member_of rank (group v.setting comm)) 0) mode plan) → Passed v comm rank mode plan
passed v comm rank mode plan h = go (member_of rank (group v.setting comm)) refl (fits _ _ h.1.0)
  where
    go : (o : Option ℕ) → member_of rank (group v.setting comm) ≡ o → is_some (member_of rank (group v.setting comm)) ≡ true → Passed v comm rank mode plan
    go None e t = absurd (false≢true (ap (λ (o : Option ℕ). is_some o) (sym e) ∙ t))
    go (Some m) e t =
        let both = and_parts (plan.n == size v.setting comm) (plan.member == unwrap_or (member_of rank (group v.setting comm)) 0) (fits _ _ h.1.1.1.1.0) in
        let mine : plan.member ≡ unwrap_or (member_of rank (group v.setting comm)) 0 =
        eqb-true plan.member (unwrap_or (member_of rank (group v.setting comm)) 0) both.1 in
        let is : m ≡ plan.member = sym (mine ∙ ap (λ (o : Option ℕ). unwrap_or o 0) e) in
        let member : member_of rank (group v.setting comm) ≡ Some plan.member = e ∙ ap Some is in
        record {
          member_is = member;
          low = (member_at v.setting comm rank plan.member member).0;
          checked = unbroken (broken plan.sig (size v.setting comm)) h.1.1.0;
          mode_is = same_mode plan.sig.mode mode (fits _ _ h.1.1.1.0);
          n_is = eqb-true plan.n (size v.setting comm) both.0;
          agrees = subst (λ m. mismatch_in (group v.setting comm) (v.posts comm) (length (v.posts comm m)) plan.sig ≡ None) (sym mine) h.1.1.1.1.1.0;
          place_low = subst (λ m. length (v.posts comm m) < v.setting.places) (sym mine)
              (ltb-true (length (v.posts comm (unwrap_or (member_of rank (group v.setting comm)) 0))) v.setting.places (fits _ _ h.1.1.1.1.1.1.0));
        }

-- an accepted post offers the right number of bytes
pub posted_passed : (v : Tables) (comm rank : ℕ) (plan : Planned) (bytes : List ℕ)
    → refusal v.setting (state v) (Post rank comm plan bytes) ≡ None
    → Passed v comm rank Once plan × (length bytes ≡ given_len plan.sig (size v.setting comm) plan.member)
posted_passed v comm rank plan bytes e =
    let member = unwrap_or (member_of rank (group v.setting comm)) 0 in
    let h = all_none (refusals v.setting (state v) (Post rank comm plan bytes)) e in
    let p : Passed v comm rank Once plan =
    passed v comm rank Once plan (h.0, (h.1.0, (h.1.1.0, (h.1.1.1.0, (h.1.1.1.1.0, (h.1.1.1.1.1.0, (h.1.1.1.1.1.1.0, tt))))))) in
    let is : member ≡ plan.member = ap (λ (o : Option ℕ). unwrap_or o 0) p.member_is in (
      p,
      sym (eqb-true (given_len plan.sig (size v.setting comm) plan.member) (length bytes)
          (fits _ _ (subst (λ m. wrong_length plan.sig (size v.setting comm) m bytes ≡ None) is h.1.1.1.1.1.1.1.0))),
    )

pub inited_passed : (v : Tables) (comm rank : ℕ) (plan : Planned) → refusal v.setting (state v) (Init rank comm plan) ≡ None
    → Passed v comm rank Persistent plan
inited_passed v comm rank plan e =
    let h = all_none (refusals v.setting (state v) (Init rank comm plan)) e in
    passed v comm rank Persistent plan (h.0, (h.1.0, (h.1.1.0, (h.1.1.1.0, (h.1.1.1.1.0, (h.1.1.1.1.1.0, (h.1.1.1.1.1.1.0, tt)))))))

-- an accepted start names a persistent request that isn't active, and offers the right number of bytes
pub record Startable (v : Tables) (q : Live) (rank : ℕ) (bytes : List ℕ) : Type 0 where
  pub rank_is : q.rank ≡ rank
  pub inactive : q.active ≡ false
  pub mode_is : q.sig.mode ≡ Persistent
  pub long : length bytes ≡ given_len q.sig (size v.setting q.comm) q.member
  pub more : q.starts < v.setting.starts

pub start_passed : (v : Tables) (paths : Paths) → Base v paths → (i : ℕ) (q : Live) → v.request i ≡ Some q
    → (rank : ℕ) (bytes : List ℕ) → refusal v.setting (state v) (Start rank (ticket v i) bytes) ≡ None → Startable v q rank bytes
start_passed v paths b i q here rank bytes e =
    let r : Request = as_request q in
    let list : Option Request → List (Option Refusal) = λ o. naming_refusals o rank ++ idle_refusals o ++ start_refusals v.setting (state v) bytes o in
    let h = all_none (list (Some r)) (ap (λ o. first_of (list o)) (sym (finds v i q here)) ∙ e) in
    let mine = started_mine v.setting (state v) rank (ticket v i) bytes r (finds v i q here) e in
    let fit : wrong_length q.sig (size v.setting q.comm) q.member bytes ≡ None =
    ap (λ (o : Option Signature). option_and_then (λ sig. wrong_length sig (size v.setting q.comm) q.member bytes) o) (sym (b.own i q here))
    ∙ h.1.1.1.1.0 in
    record {
      rank_is = mine.rank_is;
      inactive = mine.idle;
      mode_is = mine.mode_is;
      long = sym (eqb-true (given_len q.sig (size v.setting q.comm) q.member) (length bytes) (fits _ _ fit));
      more = ltb-true q.starts v.setting.starts (fits _ _ h.1.1.1.1.1.0);
    }

-- a request that is freed isn't active, and persistent
pub free_passed : (v : Tables) (i : ℕ) (q : Live) → v.request i ≡ Some q → (rank : ℕ)
    → refusal v.setting (state v) (Free rank (ticket v i)) ≡ None → (q.active ≡ false) × (q.sig.mode ≡ Persistent)
free_passed v i q here rank e =
    let f = freed_mine v.setting (state v) rank (ticket v i) e in
    let same : f.request ≡ as_request q = same_Some f.request (as_request q) (sym f.is ∙ asked_here) in
    (ap (λ (r : Request). r.active) (sym same) ∙ f.idle_of.idle, ap (λ (r : Request). r.mode) (sym same) ∙ f.idle_of.mode_is)
  where
    asked_here : (state v).request i ≡ Some (as_request q)
    asked_here = ap asked here

new_of : (v : Tables) (paths : Paths) → Base v paths → (i comm rank : ℕ) (mode : Mode) (plan : Planned)
    → size v.setting comm ≤ 64 → v.request i ≡ None → i < v.setting.slots → v.generation i < v.setting.wear
    → Passed v comm rank mode plan → New v i (newcomer v comm rank plan) rank mode plan
new_of v paths b i comm rank mode plan few spare low unworn p = record {
  posting = record {
    spare = spare;
    low = low;
    unworn = unworn;
    inactive = refl;
    unstarted = refl;
    members_is = p.n_is;
    member_in = p.low;
    place_is = refl;
    judged = λ s e. judged v paths b comm (length (v.posts comm plan.member)) plan.sig s p.agrees e;
    planned = all_served plan.sig (size v.setting comm) p.checked (let l : plan.member < size v.setting comm = p.low in omega arith) few;
  };
  member_is = p.member_is;
  sig_is = refl;
  is = ap (λ m. new_request rank comm plan.member (length (v.posts comm plan.member)) m) p.mode_is;
}

pub accepted_post : AcceptedPost
accepted_post v i comm rank plan bytes s few spare low unworn e = let p =
    posted_passed v comm rank plan bytes e in (new_of v s.paths s.sound.base i comm rank Once plan few spare low unworn p.0, p.1)

pub accepted_init : AcceptedInit
accepted_init v i comm rank plan s few spare low unworn e =
    new_of v s.paths s.sound.base i comm rank Persistent plan few spare low unworn (inited_passed v comm rank plan e)

pub accepted_start : AcceptedStart
accepted_start v i q rank bytes s here are e =
    let p = start_passed v s.paths s.sound.base i q here rank bytes e in
    record { here = here; inactive = p.inactive; long = p.long; are = are; start = refl }
