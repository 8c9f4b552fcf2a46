-- What a start and a free have tested, and what they change.
use Rattle.std.proofs.Common.{◌≡◌, ◌∙◌, ◌<◌, ◌≤◌, ◌++◌, ◌==◌, ◌+◌, ◌*◌, ℕ, Bool, true, false, List, Option, Some, None, ap, refl, sym, subst, arith}
use Rattle.std.proofs.Common.{not, is_some, eq-eqb}
use Rattle.std.specs.Prelude.{length, nat_lt, option_and_then, slice_get}
use Rattle.std.specs.Option.{option_or}
use Rattle.std.proofs.lemmas.Option.{none-some}
use Rattle.std.proofs.lemmas.Bool.{eqb-true, false≢true}
use Rattle.std.proofs.lemmas.Bool.Decides.{nat_tests}
use Rattle.coll_kinds.specs.declared.ticket.Ticket.{Ticket}
use Rattle.coll_arena.specs.Lookups.{PutsSlot}
use Rattle.coll_arena.specs.Changes.{retired}
use Rattle.coll_arena.specs.Slots.{Slots, home, names, record_in}
use Rattle.coll_arena.specs.Sound.{IsSound as IsArena}
use Rattle.coll_arena.proofs.Sounds.{Named-names}
use Rattle.coll_lists.specs.Moves.{moved_back}
use Rattle.coll_kinds.specs.declared.refusal.Refusal.{Refusal}
use Rattle.coll_kinds.specs.declared.refusal.Refusal.TheVariants.{Active, BadLength, NotPersistent, NotYours, Stale, StartsUsed}
use Rattle.coll_kinds.specs.declared.signature.Signature.{Signature}
use Rattle.coll_machine.specs.Common.{size, Free, Nothing, Start, MachineStep, first_of, idle_refusals, naming_refusals, refusal, start_refusals}
use Rattle.coll_machine.specs.Common.{unless, wrong_length, found}
use Rattle.coll_machine.specs.States.{Request as Asked}
use Rattle.coll_kinds.specs.Common.{given_len, mode_number}
use Rattle.coll_kinds.specs.declared.kind.Mode.TheVariants.{Persistent}
use Rattle.coll_refinement.specs.Shown.{listed}
use Rattle.coll_core.proofs.between.Tickets.{found_some}
use Rattle.coll_core.proofs.between.LiveRequests.{live}
use Rattle.coll_refinement.specs.Cores as tabled
use Rattle.coll_refinement.specs.Engines.{given_up}
use Rattle.coll_refinement.proofs.tables.Accepted.{free_passed}
use Rattle.coll_refinement.proofs.engine.Slots.{one_slot}
use Rattle.coll_refinement.proofs.engine.Calls.{free_core}
use Rattle.coll_core.specs.declared.request.Request.{Request}
use Rattle.coll_core.specs.Cores.{IsCore, Parts, seen, setting, tables}
use Rattle.coll_core.specs.Requests.{shown}
use Rattle.coll_core.specs.Progress.{KeepsProgress}
use Rattle.coll_core.proofs.between.NoStep.{idle_by, keeps_progress, left_inactive, three_given_up, three_idle}
use Rattle.coll_core.proofs.retire.Retire.{generation_named, setting_with, with}

module _ (p o : Parts) (same : p ≡ o) (b : Slots Request) (t : Ticket) (rank : ℕ) (x : Request) (core : IsCore p)
    (accepted : None ≡ refusal (setting o) (seen o).state (Free rank t)) (named : names o.arena t ≡ true)
    (found : record_in p.arena t.slot ≡ Some x)
    (puts : PutsSlot p.arena b t.slot t.generation 0 None (given_up p.arena.wear t.generation)) where
  freed : tabled.IsCore shown (setting p) b p.queues p.matches
      × MachineStep (setting p) (seen p) (Free rank t) Nothing (seen (with p b p.matches))
  freed = free_core shown (setting p) p.arena b p.queues p.matches t rank x core (record {
    accepted = subst (λ p. refusal (setting p) (seen p).state (Free rank t) ≡ None) (sym same) (sym accepted);
    found = record { here = found; generation_is = generation_named p.arena t (subst (λ p. names p.arena t ≡ true) (sym same) named) };
    puts = one_slot p.arena b t.slot t.generation 0 (given_up p.arena.wear t.generation) None puts;
  })

  pub freed_core : IsCore (with p b p.matches)
  freed_core = subst (λ g. tabled.IsCore shown g b p.queues p.matches) (sym (setting_with p b p.matches puts.count_is puts.wear_is)) freed.0

  pub frees : MachineStep (setting o) (seen o) (Free rank t) Nothing (seen (with p b p.matches))
  frees = subst (λ o. MachineStep (setting o) (seen o) (Free rank t) Nothing (seen (with p b p.matches))) same freed.1

  idle : not (home p.arena t.slot == 4 + 3 * x.comm) ≡ false
  idle = (free_passed (tables p) t.slot (listed (home p.arena t.slot) (shown x)) (live p t.slot x found) rank
      (ap (λ g. refusal (setting p) (seen p).state (Free rank (record { slot = t.slot; generation = g })))
      (generation_named p.arena t (subst (λ p. names p.arena t ≡ true) (sym same) named))
      ∙ subst (λ p. refusal (setting p) (seen p).state (Free rank t) ≡ None) (sym same) (sym accepted))).0

  -- it goes to Free or Worn, and had no actions left
  pub frees_alone : IsArena p.arena → b ≡ retired p.arena t.slot → KeepsProgress o (with p b p.matches) t.slot
  frees_alone sound is =
      let generation_is = generation_named p.arena t (subst (λ p. names p.arena t ≡ true) (sym same) named) in
      subst (λ o. KeepsProgress o (with p b p.matches) t.slot) same
      (keeps_progress p (with p b p.matches) t.slot t.generation 0 (given_up p.arena.wear t.generation) None
      (one_slot p.arena b t.slot t.generation 0 (given_up p.arena.wear t.generation) None puts)
      (setting_with p b p.matches puts.count_is puts.wear_is) sound
      (Named-names p.arena t (subst (λ p. names p.arena t ≡ true) (sym same) named)).low
      (three_given_up (t.generation == p.arena.wear))
      (three_idle (home p.arena t.slot) x.comm (idle_by (home p.arena t.slot) x.comm idle))
      (left_inactive p.arena t.slot x found idle)
      (ap (λ (z : Slots Request). z.lists) is ∙ ap (λ g. moved_back t.slot (given_up p.arena.wear g) p.arena.lists) generation_is)
      refl)

-- ---- a start's tests

past_four : (a b c d rest : Option Refusal) → option_or a (option_or b (option_or c (option_or d None))) ≡ None
    → option_or a (option_or b (option_or c (option_or d rest))) ≡ rest
past_four None None None None rest e = refl
past_four (Some x) b c d rest e = absurd (none-some x (sym e))
past_four None (Some x) c d rest e = absurd (none-some x (sym e))
past_four None None (Some x) d rest e = absurd (none-some x (sym e))
past_four None None None (Some x) rest e = absurd (none-some x (sym e))

past_free : (q : Option Asked) (rank : ℕ) (rest : Option Refusal)
    → first_of (naming_refusals q rank ++ idle_refusals q) ≡ None
    → option_or (unless (is_some q) Stale) (option_or (option_and_then (λ q. unless (q.rank == rank) NotYours) q)
    (option_or (option_and_then (λ q. unless (mode_number q.mode == mode_number Persistent) NotPersistent) q)
    (option_or (option_and_then (λ q. unless (not q.active) Active) q) rest)))
    ≡ rest
past_free q rank rest e =
    past_four (unless (is_some q) Stale) (option_and_then (λ q. unless (q.rank == rank) NotYours) q)
    (option_and_then (λ q. unless (mode_number q.mode == mode_number Persistent) NotPersistent) q)
    (option_and_then (λ q. unless (not q.active) Active) q) rest e

-- what is tested after what a free tests
abbrev pub own_refusal : Parts → Request → List ℕ → Option Refusal
own_refusal p x bytes = option_or (wrong_length x.plan.sig x.plan.n x.plan.member bytes) (option_or (unless (nat_lt x.starts p.starts) StartsUsed) None)

own_by : (p : Parts) (x : Request) (bytes : List ℕ) (n : ℕ) (sig : Option Signature) → n ≡ x.plan.n → sig ≡ Some x.plan.sig
    → option_or (option_and_then (λ sig. wrong_length sig n x.plan.member bytes) sig) (option_or (unless (nat_lt x.starts p.starts) StartsUsed) None)
    ≡ own_refusal p x bytes
own_by p x bytes n sig e f =
    λ z. option_or (option_and_then (λ sig. wrong_length sig (e z) x.plan.member bytes) (f z)) (option_or (unless (nat_lt x.starts p.starts) StartsUsed) None)

pub start_refused : (p : Parts) (rank : ℕ) (t : Ticket) (bytes : List ℕ) (x : Request) → IsCore p
    → None ≡ refusal (setting p) (seen p).state (Free rank t) → names p.arena t ≡ true → record_in p.arena t.slot ≡ Some x
    → refusal (setting p) (seen p).state (Start rank t bytes) ≡ own_refusal p x bytes
start_refused p rank t bytes x core free live_is is =
    let q = listed (home p.arena t.slot) (shown x) in
    let base = core.sound.sound.base in
    let here = live p t.slot x is in
    past_free (found (seen p).state t) rank (first_of (start_refusals (setting p) (seen p).state bytes (found (seen p).state t))) (sym free)
    ∙ (ap (λ q. first_of (start_refusals (setting p) (seen p).state bytes q)) (found_some p t x live_is is)
    ∙ own_by p x bytes (size (setting p) x.comm) (slice_get ((seen p).state.posts x.comm x.plan.member) x.place)
    (sym (base.sized t.slot q here)) (base.own t.slot q here))

wrong_by : (g want len : ℕ) (rest : Option Refusal) (fits : Bool) → fits ≡ (g == len) → want ≡ g → (len ≡ want → ⊥)
    → Some (BadLength want len) ≡ option_or (unless fits (BadLength g len)) rest
wrong_by g want len rest true e w ne = absurd (ne (sym (eqb-true g len (sym e)) ∙ sym w))
wrong_by g want len rest false e w ne = ap (λ n. Some (BadLength n len)) w

right_by : (g len : ℕ) (rest : Option Refusal) (fits : Bool) → fits ≡ (g == len) → g ≡ len
    → option_or (unless fits (BadLength g len)) rest ≡ rest
right_by g len rest true e same = refl
right_by g len rest false e same = absurd (false≢true (e ∙ eq-eqb g len same))

used_by : (starts most : ℕ) (low : Bool) → low ≡ nat_lt starts most → most ≤ starts → Some StartsUsed ≡ option_or (unless low StartsUsed) None
used_by starts most true e h = absurd (no_start starts most (less starts most e) h)
  where
    less : (starts most : ℕ) → true ≡ nat_lt starts most → starts < most
    less starts most e = grind (arith, nat_tests)

    no_start : (starts most : ℕ) → starts < most → most ≤ starts → ⊥
    no_start starts most h k = omega arith
used_by starts most false e h = refl

unused_by : (starts most : ℕ) (low : Bool) → low ≡ nat_lt starts most → starts < most → None ≡ option_or (unless low StartsUsed) None
unused_by starts most true e h = refl
unused_by starts most false e h = absurd (no_start starts most (more starts most e) h)
  where
    more : (starts most : ℕ) → false ≡ nat_lt starts most → most ≤ starts
    more starts most e = grind (arith, nat_tests)

    no_start : (starts most : ℕ) → most ≤ starts → starts < most → ⊥
    no_start starts most h k = omega arith

module _ (p : Parts) (x : Request) (bytes : List ℕ) (want : ℕ) (is : want ≡ given_len x.plan.sig x.plan.n x.plan.member) where
  pub bad_length : (length bytes ≡ want → ⊥) → Some (BadLength want (length bytes)) ≡ own_refusal p x bytes
  bad_length ne = wrong_by (given_len x.plan.sig x.plan.n x.plan.member) want (length bytes) _ _ refl is ne

  pub starts_used : length bytes ≡ want → p.starts ≤ x.starts → Some StartsUsed ≡ own_refusal p x bytes
  starts_used same h =
      used_by x.starts p.starts _ refl h
      ∙ sym (right_by (given_len x.plan.sig x.plan.n x.plan.member) (length bytes)
      (option_or (unless (nat_lt x.starts p.starts) StartsUsed) None) _ refl (sym is ∙ sym same))

  pub may_start : length bytes ≡ want → x.starts < p.starts → None ≡ own_refusal p x bytes
  may_start same h =
      unused_by x.starts p.starts _ refl h
      ∙ sym (right_by (given_len x.plan.sig x.plan.n x.plan.member) (length bytes)
      (option_or (unless (nat_lt x.starts p.starts) StartsUsed) None) _ refl (sym is ∙ sym same))
