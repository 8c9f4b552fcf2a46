-- What a completion leaves in the arena.
use Rattle.std.proofs.Common.{◌≡◌, ◌≢◌, ◌∙◌, ◌+◌, ◌*◌, ◌==◌, ◌&&◌, ℕ, Bool, true, false, List, [], Option, Some, None, ap, refl, sym, subst, arith, ◌<◌}
use Rattle.std.specs.Prelude.{IfSome, option_map}
use Rattle.std.proofs.lemmas.Bool.{eqb-true, false≢true}
use Rattle.coll_kinds.specs.declared.kind.Mode.{Mode}
use Rattle.coll_kinds.specs.declared.kind.Mode.TheVariants.{Once, Persistent}
use Rattle.coll_kinds.specs.declared.ticket.Ticket.{Ticket}
use Rattle.coll_arena.specs.declared.list_name.ListName.TheVariants.{Idle}
use Rattle.coll_arena.specs.ListNames.{number_of}
use Rattle.coll_kinds.proofs.Puts.{put_same}
use Rattle.coll_lists.specs.Moves.{moved_back}
use Rattle.coll_arena.specs.Changes.{retired, reweighed, rewritten, shifted}
use Rattle.coll_arena.specs.Lookups.{PutsSlot}
use Rattle.coll_arena.specs.Slots.{Slots, count, generation_of, home, is_live, names, record_in, weight_of}
use Rattle.coll_arena.specs.Sound.{IsSound}
use Rattle.coll_arena.proofs.Sounds.{Named-names}
use Rattle.coll_sched.specs.Regions.{read_of}
use Rattle.coll_queues.specs.Postings.{groups_of}
use Rattle.coll_machine.specs.declared.key.Key.{Key}
use Rattle.coll_match.specs.Instances.{mail, seats}
use Rattle.coll_machine.specs.Common.{size, Nothing, Outcome, Retire, MachineStep, wait, refusal}
use Rattle.coll_refinement.specs.Cores as tabled
use Rattle.coll_refinement.proofs.engine.Changes.{IsLeft}
use Rattle.coll_refinement.specs.Engines.{Rests, given_up}
use Rattle.coll_refinement.proofs.engine.Statements.{IsActive}
use Rattle.coll_refinement.specs.Requests.{Live, before, advanced, key}
use Rattle.coll_refinement.specs.Remaining.{left_by}
use Rattle.coll_refinement.specs.Shown.{Instances, listed}
use Rattle.coll_refinement.specs.Shown as tabled_parts
use Rattle.coll_refinement.specs.Tables.{is_done}
use Rattle.coll_refinement.specs.OneSlots.{OneSlot}
use Rattle.coll_refinement.proofs.engine.ActionsLeft.{left_done, left_idle}
use Rattle.coll_refinement.proofs.engine.Slots.{home_here, one_written, then_reweighed, then_shifted}
use Rattle.coll_refinement.proofs.tables.OtherLists.{finished_there}
use Rattle.coll_refinement.proofs.engine.Completions.{retire_core}
use Rattle.coll_refinement.proofs.engine.Reads.{active_core}
use Rattle.coll_core.specs.Progress.{KeepsProgress}
use Rattle.coll_core.proofs.between.NoStep.{has_left, keeps_progress, three_done, three_given_up, three_idle}
use Rattle.coll_core.specs.declared.request.Request.{Request}
use Rattle.coll_core.specs.Completions.{GivesUp, Owns}
use Rattle.coll_core.specs.Cores.{IsCore, Parts, seen, setting}
use Rattle.coll_core.specs.Requests.{schedule, shown}
use Rattle.coll_core.proofs.between.LiveRequests.{comm_in, live, outcome_in}

pub if_some : {A : Type 0} (P : A → Type 0) (o : Option A) (x : A) → o ≡ Some x → P x → IfSome o P
if_some P o x e h = subst (λ o. IfSome o P) (sym e) h

-- a write, another weight, another list
pub rested : (a b c : Slots Request) (t : Ticket) (x y : Request) (comm : ℕ)
    → IsSound a → names a t ≡ true → record_in a t.slot ≡ Some x
    → shown y ≡ advanced (shown x) (record { round = 0; index = 0; buf = [] })
    → comm ≡ x.comm
    → PutsSlot (rewritten a t.slot y) b t.slot t.generation 0 (record_in (rewritten a t.slot y) t.slot) (home (rewritten a t.slot y) t.slot)
    → PutsSlot b c t.slot t.generation (weight_of b t.slot) (record_in b t.slot) (number_of (Idle comm))
    → IfSome (record_in a t.slot) (λ x. Rests shown Persistent a c t x)
rested a b c t x y comm sound live here is same weighs moves =
    if_some (λ x. Rests shown Persistent a c t x) (record_in a t.slot) x here
    (y, subst (λ n. OneSlot a c t.slot t.generation 0 (Some y) (number_of (Idle n))) same moved, is)
  where
    written : OneSlot a (rewritten a t.slot y) t.slot (generation_of a t.slot) (weight_of a t.slot) (Some y) (home a t.slot)
    written = one_written a sound t.slot (Named-names a t live).low y

    weighed : OneSlot a b t.slot t.generation 0 (Some y) (home a t.slot)
    weighed = then_reweighed a (rewritten a t.slot y) t.slot (generation_of a t.slot) (weight_of a t.slot) (home a t.slot)
        (Some y) written b t.generation 0 weighs

    moved : OneSlot a c t.slot t.generation 0 (Some y) (number_of (Idle comm))
    moved = then_shifted a b t.slot t.generation 0 (home a t.slot) (Some y) weighed c t.generation (number_of (Idle comm)) moves

-- the slot is at the back of the list that it lies on
pub rested_lists : (a b c : Slots Request) (t : Ticket) (y : Request) (comm : ℕ)
    → b ≡ reweighed (rewritten a t.slot y) t.slot 0
    → c ≡ shifted b t.slot (number_of (Idle comm))
    → PutsSlot b c t.slot t.generation (weight_of b t.slot) (record_in b t.slot) (number_of (Idle comm))
    → c.lists ≡ moved_back t.slot (home c t.slot) a.lists
rested_lists a b c t y comm weighs moves puts =
    ap (λ (z : Slots Request). z.lists) moves
    ∙ (ap (λ (z : Slots Request). moved_back t.slot (number_of (Idle comm)) z.lists) weighs
    ∙ ap (λ l. moved_back t.slot l a.lists) (sym (ap (λ (f : ℕ → ℕ). f t.slot) puts.homes ∙ put_same (home b) t.slot (number_of (Idle comm)))))

pub ended_lists : (a b : Slots Request) (t : Ticket) → names a t ≡ true
    → b ≡ retired a t.slot
    → PutsSlot a b t.slot t.generation 0 None (given_up a.wear t.generation)
    → b.lists ≡ moved_back t.slot (home b t.slot) a.lists
ended_lists a b t named is puts =
    ap (λ (z : Slots Request). z.lists) is
    ∙ ap (λ l. moved_back t.slot l a.lists)
    (ap (given_up a.wear) (Named-names a t named).generation
    ∙ sym (ap (λ (f : ℕ → ℕ). f t.slot) puts.homes ∙ put_same (home a) t.slot (given_up a.wear t.generation)))

-- ---- the tests

-- the fields of an engine are what it shows
pub owned : (p o : Parts) (rank : ℕ) (t : Ticket) (x : Request) → p ≡ o
    → None ≡ refusal (setting o) (seen o).state (Retire rank t) → names o.arena t ≡ true → record_in o.arena t.slot ≡ Some x
    → Owns p rank t x
owned p o rank t x same accepted named found =
    subst (λ p. Owns p rank t x) (sym same) (record { accepted = sym accepted; named = named; found = found })

both : (a b : Bool) → true ≡ (a && b) → b ≡ true
both true b e = sym e
both false b e = absurd (false≢true (sym e))

second : (a b : Bool) → a ≡ true → false ≡ (a && b) → b ≡ false
second true b t e = sym e
second false b t e = absurd (false≢true t)

pub on_done : (a : Slots Request) (t : Ticket) (l : ℕ) → true ≡ (names a t && (home a t.slot == l)) → home a t.slot ≡ l
on_done a t l e = eqb-true (home a t.slot) l (both (names a t) (home a t.slot == l) e)

-- one that isn't on Done waits
pub waits : (p o : Parts) (rank : ℕ) (t : Ticket) (x : Request) → p ≡ o → Owns p rank t x
    → false ≡ (names p.arena t && (home p.arena t.slot == 6 + 3 * x.comm))
    → MachineStep (setting o) (seen o) (Retire rank t) Nothing (seen o)
waits p o rank t x same owns off =
    subst (λ o. MachineStep (setting o) (seen o) (Retire rank t) Nothing (seen o)) same
    (wait rank t owns.accepted
    (ap (λ (q : Option Live). is_done (home p.arena t.slot) q) (live p t.slot x owns.found) ∙ second (names p.arena t) _ owns.named off))

not_idle : (l comm : ℕ) → l ≡ 6 + 3 * comm → l ≢ 4 + 3 * comm
not_idle l comm e f = omega arith

module _ (p : Parts) (rank : ℕ) (t : Ticket) (x : Request) (core : IsCore p) (owns : Owns p rank t x)
    (on : home p.arena t.slot ≡ 6 + 3 * x.comm) where
  pub acting : IsActive shown (setting p) p.arena p.matches x
  acting = active_core shown (setting p) p.arena p.queues p.matches t.slot x core owns.found (not_idle (home p.arena t.slot) x.comm on)

  pub gives_up : IfSome (record_in p.arena t.slot) (GivesUp p.arena)
  gives_up = if_some (GivesUp p.arena) (record_in p.arena t.slot) x owns.found (record {
    comm_in = comm_in p t.slot x core owns.found;
    outcome_in = outcome_in p t.slot x core owns.found acting.filled;
  })

  pub seated : (k : Key) (member : ℕ) → k ≡ key (shown x) → member ≡ x.plan.member → seats p.matches k member ≢ None
  seated k member e f n = acting.seated (subst (λ k. seats p.matches k x.plan.member ≡ None) e (subst (λ m. seats p.matches k m ≡ None) f n))

-- ---- the change

-- the engine with another arena, and other instances
abbrev pub with : Parts → Slots Request → Instances → Parts
with p b n = record {
  ranks = p.ranks;
  starts = p.starts;
  trace = p.trace;
  arena = b;
  queues = p.queues;
  matches = n;
}

pub setting_with : (p : Parts) (b : Slots Request) (n : Instances) → count b ≡ count p.arena → b.wear ≡ p.arena.wear
    → setting (with p b n) ≡ setting p
setting_with p b n count_is wear_is = λ z. record {
  ranks = p.ranks;
  groups = groups_of p.queues;
  slots = count_is z;
  places = p.queues.places;
  wear = wear_is z;
  starts = p.starts;
  trace = p.trace;
}

same_limits : (mode : Mode) (a b : Slots Request) (t : Ticket) (x : Request) → Rests shown mode a b t x → (count b ≡ count a) × (b.wear ≡ a.wear)
same_limits Once a b t x h = (h.count_is, h.wear_is)
same_limits Persistent a b t x h = (h.1.count_is, h.1.wear_is)

named_generation : (live same : Bool) → (live && same) ≡ true → same ≡ true
named_generation true same e = e
named_generation false same e = absurd (false≢true e)

pub generation_named : (a : Slots Request) (t : Ticket) → names a t ≡ true → generation_of a t.slot ≡ t.generation
generation_named a t e = eqb-true (generation_of a t.slot) t.generation (named_generation (is_live a t.slot) _ e)

-- what the record has, where it is there
pub the_one : {A : Type 0} (P : A → Type 0) (o : Option A) (x : A) → o ≡ Some x → IfSome o P → P x
the_one P o x e h = subst (λ o. IfSome o P) e h

module _ (p : Parts) (b : Slots Request) (n : Instances) (t : Ticket) (rank : ℕ) (x : Request) (bytes : List ℕ) (last : Bool)
    (k : Key) (member : ℕ) (core : IsCore p) (owns : Owns p rank t x)
    (on : home p.arena t.slot ≡ 6 + 3 * x.comm)
    (bytes_is : IfSome (record_in p.arena t.slot) (λ x. bytes ≡ read_of x.buffer (schedule (shown x)).output))
    (left_there : IfSome (record_in p.arena t.slot) (λ x. Rests shown x.plan.sig.mode p.arena b t x))
    (key_is : k ≡ key (shown x)) (member_is : member ≡ x.plan.member) (leaves : IsLeft p.matches n k member last) where
  left : Rests shown x.plan.sig.mode p.arena b t x
  left = the_one (λ x. Rests shown x.plan.sig.mode p.arena b t x) (record_in p.arena t.slot) x owns.found left_there

  completed : tabled.IsCore shown (setting p) b p.queues n
      × MachineStep (setting p) (seen p) (Retire rank t) (Outcome rank x.comm x.place (before x.starts) bytes) (seen (with p b n))
  completed = retire_core shown (setting p) p.arena b p.queues p.matches n t rank x bytes last core (record {
    accepted = owns.accepted;
    found = record { here = owns.found; generation_is = generation_named p.arena t owns.named };
    on_done = on;
    bytes_is = the_one (λ x. bytes ≡ read_of x.buffer (schedule (shown x)).output) (record_in p.arena t.slot) x owns.found bytes_is;
    rests = left;
    left = subst (λ k. IsLeft p.matches n k x.plan.member last) key_is (subst (λ m. IsLeft p.matches n k m last) member_is leaves);
  })

  pub kept : IsCore (with p b n)
  kept =
      let same = same_limits x.plan.sig.mode p.arena b t x left in
      subst (λ g. tabled.IsCore shown g b p.queues n) (sym (setting_with p b n same.0 same.1)) completed.0

  pub completes : (o : Parts) → p ≡ o
      → MachineStep (setting o) (seen o) (Retire rank t) (Outcome rank k.comm k.place k.start bytes) (seen (with p b n))
  completes o same =
      subst (λ o. MachineStep (setting o) (seen o) (Retire rank t) (Outcome rank k.comm k.place k.start bytes) (seen (with p b n))) same
      (subst (λ (k : Key). MachineStep (setting p) (seen p) (Retire rank t) (Outcome rank k.comm k.place k.start bytes) (seen (with p b n)))
      (sym key_is) completed.1)

  -- it had no actions left, and goes to Free, to Worn or to Idle
  had_none : has_left p.arena t.slot ≡ 0
  had_none =
      let q : Live = listed (home p.arena t.slot) (shown x) in
      let here = live p t.slot x owns.found in
      let stands = core.sound.sound.stands t.slot q here in
      ap (λ (r : Option Request). left_by (tabled_parts.seen (home p.arena t.slot) (option_map shown r))) owns.found
      ∙ left_done (size (setting p) x.comm) (home p.arena t.slot) (mail p.matches (key (shown x))) q stands
      (finished_there (size (setting p) x.comm) (home p.arena t.slot) (mail p.matches (key (shown x))) q on stands).0
      (core.sound.sound.base.sized t.slot q here) on

  pub retires_alone : (o : Parts) → p ≡ o → IsSound p.arena → b.lists ≡ moved_back t.slot (home b t.slot) p.arena.lists
      → KeepsProgress o (with p b n) t.slot
  retires_alone o same sound lists_is = subst (λ o. KeepsProgress o (with p b n) t.slot) same (by x.plan.sig.mode left)
    where
      low : t.slot < count p.arena
      low = (Named-names p.arena t owns.named).low

      at_list : (list : ℕ) → home b t.slot ≡ list → b.lists ≡ moved_back t.slot list p.arena.lists
      at_list list e = lists_is ∙ ap (λ l. moved_back t.slot l p.arena.lists) e

      by : (mode : Mode) → Rests shown mode p.arena b t x → KeepsProgress p (with p b n) t.slot
      by Once h =
          let list : ℕ = given_up p.arena.wear t.generation in
          keeps_progress p (with p b n) t.slot t.generation 0 list None h (setting_with p b n h.count_is h.wear_is) sound low
          (three_given_up (t.generation == p.arena.wear)) (three_done (home p.arena t.slot) x.comm on) had_none
          (at_list list (home_here p.arena b t.slot t.generation 0 list None h)) refl
      by Persistent h =
          keeps_progress p (with p b n) t.slot t.generation 0 (4 + 3 * x.comm) (Some h.0) h.1 (setting_with p b n h.1.count_is h.1.wear_is) sound low
          (three_idle (4 + 3 * x.comm) x.comm refl) (three_done (home p.arena t.slot) x.comm on) had_none
          (at_list (4 + 3 * x.comm) (home_here p.arena b t.slot t.generation 0 (4 + 3 * x.comm) (Some h.0) h.1))
          (left_idle x.comm (shown h.0) (ap (λ (q : Live). q.comm) h.2))
