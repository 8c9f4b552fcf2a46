-- Which requests are Done where nothing can go on, and that nothing is Done early.
use Rattle.std.proofs.Common.{◌≡◌, ℕ, suc, ◌<◌, true, length, Option, Some, None, refl, sym, ap, subst, ◌∙◌, arith, eq-eqb, eqb-true}
use Rattle.std.proofs.lemmas.Bool.{false≢true}
use Rattle.std.proofs.lemmas.Option.{none-some, same_Some}
use Rattle.coll_kinds.specs.declared.signature.Signature.{Signature}
use Rattle.coll_kinds.specs.Common.{broken}
use Rattle.coll_sched.specs.Families.{Family, IsLawful}
use Rattle.coll_sched.proofs.Serving.{heard_member}
use Rattle.coll_plans.specs.Plans.{family}
use Rattle.coll_plans.specs.Hearings.{hears_here}
use Rattle.coll_plans.proofs.Hearings.{heard_is_heard}
use Rattle.coll_plans.proofs.Plans.{all_served}
use Rattle.coll_arena.specs.declared.list_name.ListName.TheVariants.{Done}
use Rattle.coll_arena.specs.ListNames.{number_of}
use Rattle.coll_machine.specs.Common.{size, Request, key_of, signature_of, IsReady, IsPosted, AreGroups, ArePosted}
use Rattle.coll_machine.specs.declared.key.Key.{Key}
use Rattle.coll_machine.proofs.Members.{member_at}
use Rattle.coll_refinement.specs.FreeLocks.{FreeLock}
use Rattle.coll_refinement.specs.FreeLocks as locks
use Rattle.coll_refinement.specs.Requests.{Live, as_request, before, key}
use Rattle.coll_refinement.specs.Tables.{Tables, asked, is_done, machine, state}
use Rattle.coll_core.specs.BetweenCalls.{BetweenCalls}
use Rattle.coll_core.specs.Cores.{Parts, seen, setting, tables}
use Rattle.coll_core.specs.Phases.{AreDoneOnceHeard}
use Rattle.coll_verdict.specs.Waiting.{HasHeard}
use Rattle.coll_deadlock.specs.Heard.{IsSettled, NoneEarly, SlotHasHeard}
use Rattle.coll_deadlock.specs.CoreLaws.{QuietIsSettled}

record IsAsked (o : Option Live) (r : Request) : Type 0 where
  live : Live
  here : o ≡ Some live
  same : as_request live ≡ r

asked_some : (o : Option Live) (r : Request) → asked o ≡ Some r → IsAsked o r
asked_some None r e = absurd (none-some r e)
asked_some (Some q) r e = record { live = q; here = refl; same = same_Some (as_request q) r e }

above : (m n : ℕ) → m < n → 0 < n
above m n low = omega arith

module _ (v : Tables) (free : FreeLock v) (slot : ℕ) (l : Live) (here : v.request slot ≡ Some l) (start : ℕ) (sig : Signature) (last : suc start ≡ l.starts)
    (sig_is : signature_of (state v) (as_request l) ≡ Some sig) where
  abbrev n : ℕ
  n = size v.setting l.comm

  abbrev f : Family
  f = family l.sig n

  -- the machine's signature of the request is its own,
  own : sig ≡ l.sig
  own = same_Some sig l.sig (sym sig_is ∙ free.own slot l here)

  -- and the start that it works on is its last
  key_is : key_of (as_request l) start ≡ key l
  key_is = λ z. record { comm = l.comm; place = l.place; start = before (last z) }

  lawful : AreGroups v.setting → IsPosted v.setting (state v) (as_request l) → IsLawful n f
  lawful groups posted =
      let mine : posted.sig ≡ l.sig = same_Some posted.sig l.sig (sym posted.sig_is ∙ free.own slot l here) in
      let low : l.member < n = (member_at v.setting l.comm l.rank l.member posted.member_is).0 in
      (all_served l.sig n (ap (λ sig. broken sig n) (sym mine) ∙ posted.checked) (above l.member n low) (groups l.comm).few).serves.lawful

  -- what has heard in the machine's words has heard in those of the tables,
  in_tables : AreGroups v.setting → IsPosted v.setting (state v) (as_request l)
      → HasHeard hears_here v.setting (state v) (as_request l) start sig → locks.HasHeard v l
  in_tables groups posted has m hears none =
      let low : m < n =
      heard_member n f (lawful groups posted) (length (f l.member).rounds) l.member m
      (member_at v.setting l.comm l.rank l.member posted.member_is).0 hears in
      has.heard m low (ap (λ sig. hears_here sig n l.member m) own
      ∙ (heard_is_heard f (length (f l.member).rounds) l.member m).1 hears) (ap (λ (k : Key). v.given k m) key_is ∙ none)

  -- and the other way round
  in_machine : locks.HasHeard v l → IsReady v.setting (state v) (as_request l) start sig → HasHeard hears_here v.setting (state v) (as_request l) start sig
  in_machine heard ready = record {
    ready = ready;
    heard = λ m low hears none.
        heard m ((heard_is_heard f (length (f l.member).rounds) l.member m).0 (ap (λ sig. hears_here sig n l.member m) (sym own) ∙ hears))
        (ap (λ (k : Key). v.given k m) (sym key_is) ∙ none);
  }

settled : (v : Tables) → FreeLock v → AreGroups v.setting → ArePosted v.setting (state v)
    → ((i : ℕ) (q : Live) → v.request i ≡ Some q → q.active ≡ true → locks.HasHeard v q → v.home i ≡ number_of (Done q.comm))
    → IsSettled v.setting (machine v)
settled v free groups posted once slot start q sig is has =
    let a = asked_some (v.request slot) q is in
    let mine : HasHeard hears_here v.setting (state v) (as_request a.live) start sig =
    subst (λ (q : Request). HasHeard hears_here v.setting (state v) q start sig) (sym a.same) has in
    let there : v.home slot ≡ number_of (Done a.live.comm) =
    once slot a.live a.here mine.ready.active
    (in_tables v free slot a.live a.here start sig mine.ready.start_is mine.ready.sig_is groups
    (posted.posted slot (as_request a.live) (ap asked a.here)) mine) in
    ap (is_done (v.home slot)) a.here ∙ eq-eqb (v.home slot) (number_of (Done a.live.comm)) there

pub quiet_is_settled : (p : Parts) → FreeLock (tables p) → AreDoneOnceHeard p → QuietIsSettled p
quiet_is_settled p free heard groups posted quiet = settled (tables p) free groups posted (heard.once quiet)

pub none_early : (p : Parts) → BetweenCalls p → FreeLock (tables p) → AreDoneOnceHeard p → NoneEarly (setting p) (seen p)
none_early p between free heard slot done = go ((tables p).request slot) refl done
  where
    go : (o : Option Live) → (tables p).request slot ≡ o → is_done ((tables p).home slot) o ≡ true → SlotHasHeard (setting p) (seen p).state slot
    go None e d = absurd (false≢true d)
    go (Some l) e d =
        let held = between.held slot (as_request l) (ap asked e) done in
        record {
          request = as_request l;
          start = held.start;
          sig = held.sig;
          is = ap asked e;
          heard = in_machine (tables p) free slot l e held.start held.sig held.ready.start_is held.ready.sig_is
              (heard.not_before slot l e (eqb-true ((tables p).home slot) (number_of (Done l.comm)) d)) held.ready;
        }
