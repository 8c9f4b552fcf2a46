-- A start from its tests to its steps.
use Rattle.std.proofs.Common.{◌≡◌, ◌∙◌, ◌<◌, ◌^◌, ◌+◌, ◌*◌, ◌==◌, not, false, ℕ, suc, true, List, Option, Some, None, is_some, ap, refl, sym, subst}
use Rattle.std.specs.Prelude.{IfSome}
use Rattle.std.proofs.lemmas.Bool.{false≢true}
use Rattle.coll_kinds.specs.declared.ticket.Ticket.{Ticket}
use Rattle.coll_kinds.specs.declared.refusal.Refusal.{Refusal}
use Rattle.coll_kinds.specs.declared.refusal.Refusal.TheVariants.{NoMemory}
use Rattle.coll_kinds.specs.Elements.{AreBytes}
use Rattle.coll_sched.specs.Families.{laid_in}
use Rattle.coll_arena.specs.ListNames.{number_of}
use Rattle.coll_arena.specs.Slots.{Slots, generation_of, home, names, record_in}
use Rattle.coll_arena.specs.Sound.{IsSound as IsArena}
use Rattle.coll_arena.proofs.Sounds.{Named-names}
use Rattle.coll_match.specs.Instances.{mail, size}
use Rattle.coll_machine.specs.Common.{Nothing, Start, refuse, short, StepsTo, refusal}
use Rattle.coll_refinement.specs.Cores as tabled
use Rattle.coll_refinement.specs.Requests.{Live, begun as begun_at}
use Rattle.coll_refinement.specs.Shown.{Instances, listed}
use Rattle.coll_refinement.specs.Sound.{Stands}
use Rattle.coll_refinement.proofs.tables.Accepted.{start_passed}
use Rattle.coll_refinement.specs.Tables.{Tables, machine}
use Rattle.coll_refinement.proofs.engine.Calls.{start_core}
use Rattle.coll_refinement.proofs.engine.Reads.{new_core}
use Rattle.coll_core.specs.declared.request.Request.{Request}
use Rattle.coll_core.specs.Calls.{Refuses}
use Rattle.coll_core.specs.Cores.{IsCore, Parts, seen, setting, tables, Unchanged}
use Rattle.coll_core.specs.Progress.{BeginsSchedule}
use Rattle.coll_core.specs.Requests.{schedule, shown}
use Rattle.coll_core.specs.Starts.{Begun, CanBegin, next_instance}
use Rattle.coll_core.proofs.retire.Retire.{generation_named, if_some, setting_with, the_one, with}
use Rattle.coll_core.proofs.step.Act.{list_low}
use Rattle.coll_core.proofs.between.NoStep.{begins_schedule, begins_since, idle_by, left_inactive, three_idle}
use Rattle.coll_core.proofs.between.LiveRequests.{comm_in, live as request_here}

-- the bytes as they were handed in
pub read_as : (p : Parts) (rank : ℕ) (t : Ticket) (d bytes : List ℕ) (o : Option Refusal) → d ≡ bytes
    → o ≡ refusal (setting p) (seen p).state (Start rank t d) → o ≡ refusal (setting p) (seen p).state (Start rank t bytes)
read_as p rank t d bytes o same e = subst (λ d. o ≡ refusal (setting p) (seen p).state (Start rank t d)) same e

pub refused_so : (p : Parts) (rank : ℕ) (t : Ticket) (bytes : List ℕ) (why : Refusal)
    → Some why ≡ refusal (setting p) (seen p).state (Start rank t bytes)
    → Refuses (setting p) (seen p) (Start rank t bytes) why
refused_so p rank t bytes why e = refuse (Start rank t bytes) why (sym e)

pub short_so : (p : Parts) (rank : ℕ) (t : Ticket) (bytes : List ℕ) (why : Refusal)
    → None ≡ refusal (setting p) (seen p).state (Start rank t bytes) → why ≡ NoMemory
    → Refuses (setting p) (seen p) (Start rank t bytes) why
short_so p rank t bytes why e n =
    subst (λ why. Refuses (setting p) (seen p) (Start rank t bytes) why) (sym n) (short (Start rank t bytes) refl (sym e))

pub the_record : {A : Type 0} (o : Option A) → is_some o ≡ true → (x : A) × (o ≡ Some x)
the_record None e = absurd (false≢true e)
the_record (Some x) e = (x, refl)

-- p is the engine o once room was made
module _ (p o w : Parts) (view : p ≡ w) (same : Unchanged o w) (arena : w.arena ≡ o.arena) (t : Ticket) (core : IsCore p)
    (x : Request) (was : record_in o.arena t.slot ≡ Some x) where
  arena_is : p.arena ≡ o.arena
  arena_is = ap (λ p. p.arena) view ∙ arena

  setting_is : setting p ≡ setting o
  setting_is = ap setting view ∙ same.setting_is

  tables_is : tables p ≡ tables o
  tables_is = ap tables view ∙ same.tables_is

  found : record_in p.arena t.slot ≡ Some x
  found = ap (λ a. record_in a t.slot) arena_is ∙ was

  pub can_begin : IfSome (record_in o.arena t.slot) (λ x. suc x.starts < 2 ^ 32)
      → IfSome (record_in o.arena t.slot) (λ x. x.plan.member < size w.matches (next_instance x))
      → IfSome (record_in p.arena t.slot) (CanBegin p.arena p.matches)
  can_begin low room = if_some (CanBegin p.arena p.matches) (record_in p.arena t.slot) x found (record {
    comm_in = comm_in p t.slot x core found;
    short = the_one (λ x. suc x.starts < 2 ^ 32) (record_in o.arena t.slot) x was low;
    room = subst (λ w. x.plan.member < size w.matches (next_instance x)) (sym view)
        (the_one (λ x. x.plan.member < size w.matches (next_instance x)) (record_in o.arena t.slot) x was room);
    new = (new_core shown (setting p) p.arena p.queues p.matches core).1 t.slot x found;
  })

  module _ (b : Slots Request) (n : Instances) (rank : ℕ) (bytes buf : List ℕ)
      (accepted : None ≡ refusal (setting o) (seen o).state (Start rank t bytes)) (live : names o.arena t ≡ true) (are : AreBytes bytes)
      (laid : IfSome (record_in o.arena t.slot) (λ x. buf ≡ laid_in (schedule (shown x)) bytes))
      (begun : IfSome (record_in p.arena t.slot) (λ x. Begun p.arena b p.matches n t x bytes buf)) where
    now : Begun p.arena b p.matches n t x bytes buf
    now = the_one (λ x. Begun p.arena b p.matches n t x bytes buf) (record_in p.arena t.slot) x found begun

    done : tabled.IsCore shown (setting p) b p.queues n × StepsTo (setting p) (seen p) (Start rank t bytes) Nothing (seen (with p b n))
    done = start_core shown (setting p) p.arena b p.queues p.matches n t rank bytes x now.to
        (record { round = now.to.round; index = now.to.index; buf = buf }) _ core (record {
          accepted = (λ z. refusal (setting_is z) (machine (tables_is z)).state (Start rank t bytes)) ∙ sym accepted;
          are = are;
          found = record { here = found; generation_is = generation_named p.arena t (subst (λ a. names a t ≡ true) (sym arena_is) live) };
          joined = now.joined;
          puts = now.puts;
          is = now.begins.is;
          buf = the_one (λ x. buf ≡ laid_in (schedule (shown x)) bytes) (record_in o.arena t.slot) x was laid;
          over = now.begins.over;
          stands = now.stands;
        })

    pub started_core : IsCore (with p b n)
    started_core = subst (λ g. tabled.IsCore shown g b p.queues n) (sym (setting_with p b n now.puts.count_is now.puts.wear_is)) done.0

    pub started_setting : setting (with p b n) ≡ setting o
    started_setting = setting_with p b n now.puts.count_is now.puts.wear_is ∙ setting_is

    pub starts : StepsTo (setting o) (seen o) (Start rank t bytes) Nothing (seen (with p b n))
    starts =
        subst (λ (v : Tables). StepsTo (setting o) (machine v) (Start rank t bytes) Nothing (seen (with p b n))) tables_is
        (subst (λ g. StepsTo g (seen p) (Start rank t bytes) Nothing (seen (with p b n))) setting_is done.1)

    generation_is : generation_of p.arena t.slot ≡ t.generation
    generation_is = generation_named p.arena t (subst (λ a. names a t ≡ true) (sym arena_is) live)

    idle : not (home p.arena t.slot == 4 + 3 * x.comm) ≡ false
    idle = (start_passed (tables p) core.sound.paths core.sound.sound.base t.slot (listed (home p.arena t.slot) (shown x))
        (request_here p t.slot x found) rank bytes
        ((λ z. refusal (setting_is z) (machine (tables_is z)).state (Start rank (record { slot = t.slot; generation = generation_is z }) bytes))
        ∙ sym accepted)).inactive

    pub started_begins : IsArena p.arena → IfSome (record_in o.arena t.slot) (λ x. BeginsSchedule o (with p b n) t.slot (schedule (shown x)))
    started_begins sound =
        if_some (λ x. BeginsSchedule o (with p b n) t.slot (schedule (shown x))) (record_in o.arena t.slot) x was
        (begins_since o w (with p b n) t.slot (schedule (shown x)) same
        (subst (λ (v : Parts). BeginsSchedule v (with p b n) t.slot (schedule (shown x))) view
        (begins_schedule p (with p b n) t.slot t.generation _ (number_of now.list) (Some now.to) now.puts
        (setting_with p b n now.puts.count_is now.puts.wear_is) sound
        (Named-names p.arena t (subst (λ a. names a t ≡ true) (sym arena_is) live)).low
        (λ e. list_low x.comm now.list now.onto (sym e)) (three_idle (home p.arena t.slot) x.comm (idle_by (home p.arena t.slot) x.comm idle))
        (left_inactive p.arena t.slot x found idle) now.lists_is
        now.to (begun_at (shown x) (record { round = now.to.round; index = now.to.index; buf = buf })) (mail p.matches (next_instance x))
        refl now.begins.is (subst (λ (q : Live). Stands x.plan.n (mail p.matches (next_instance x)) (number_of now.list) q)
        now.begins.is now.stands) refl now.begins.over)))
