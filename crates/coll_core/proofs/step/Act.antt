-- A request that did one action: the engine after it.
use Rattle.std.proofs.Common.{◌≡◌, ◌≢◌, ◌∙◌, ◌<◌, ◌≤◌, length, ◌+◌, ◌*◌, ◌==◌, ◌⊎◌, inl, inr, ℕ, suc, Bool, true, false, List, Option, Some, ap, refl}
use Rattle.std.proofs.Common.{sym, subst, arith, eq-eqb, ne_eqb}
use Rattle.std.specs.Prelude.{option_map}
use Rattle.std.proofs.lemmas.Bool.{cases_eq, false≢true}
use Rattle.std.proofs.lemmas.Option.{none-some, same_Some}
use Rattle.coll_kinds.specs.declared.ticket.Ticket.{Ticket}
use Rattle.coll_kinds.proofs.Puts.{put_same, put_other}
use Rattle.coll_sched.specs.declared.action.Action.{Action}
use Rattle.coll_sched.specs.Common.{Over, Progress}
use Rattle.coll_arena.specs.declared.list_name.ListName.{ListName}
use Rattle.coll_arena.specs.declared.list_name.ListName.TheVariants.{Free, Worn, Ready, Running, Idle, Queue, Done}
use Rattle.coll_arena.specs.ListNames.{number_of}
use Rattle.coll_arena.specs.Changes.{rewritten}
use Rattle.coll_arena.specs.Lookups.{PutsSlot}
use Rattle.coll_arena.specs.Slots.{Slots, count, home, names, record_in, weight_of}
use Rattle.coll_arena.specs.Sound.{IsSound}
use Rattle.coll_arena.proofs.Sounds.{Named-names}
use Rattle.coll_queues.specs.Postings.{Postings}
use Rattle.coll_match.specs.Instances.{mail}
use Rattle.coll_machine.specs.Common.{Setting, Machine, Finish, Nothing, MachineStep, finish, MayFinish}
use Rattle.coll_refinement.specs.Requests.{Live, advanced, key}
use Rattle.coll_refinement.specs.Tables.{is_done, machine}
use Rattle.coll_refinement.specs.Shown.{Instances, tables}
use Rattle.coll_refinement.specs.Shown as tabled
use Rattle.coll_refinement.specs.Sound.{Stands}
use Rattle.coll_refinement.specs.Remaining.{actions_left}
use Rattle.coll_refinement.specs.Cores as tabled_core
use Rattle.coll_refinement.proofs.engine.Changes.{Advances}
use Rattle.coll_refinement.proofs.engine.Statements.{ActsOnce}
use Rattle.coll_refinement.proofs.engine.Slots.{one_slot}
use Rattle.coll_core.specs.declared.request.Request.{Request}
use Rattle.coll_core.specs.Cores.{IsCore, Parts, setting}
use Rattle.coll_core.specs.Requests.{IsListOf, next_of, schedule, shown}
use Rattle.coll_core.specs.Advancing.{CanAdvance, HasAdvanced, is_end}
use Rattle.coll_core.specs.Steps.{Goes, StepsBy, placed}
use Rattle.coll_core.proofs.step.Advance.{puts_written, record_written}

-- ---- from advance's words

-- the request x, with these bytes in its buffer, is one action on
pub record Gone (a b : Slots Request) (n : Instances) (t : Ticket) (x : Request) (bytes : List ℕ) (finished : Bool) : Type 0 where
  pub to : Request
  pub point : Progress
  pub list : ListName
  pub puts : PutsSlot a b t.slot t.generation (weight_of a t.slot) (Some to) (number_of list)
  pub stays : home a t.slot ≡ number_of list → b.lists ≡ a.lists
  pub placed_is : b.lists ≡ placed t.slot (number_of list) a.lists
  pub is : shown to ≡ advanced (shown x) point
  pub buf : point.buf ≡ bytes
  pub over : Over (schedule (shown x)) x.round (suc x.index) point.round point.index
  pub stands : Stands x.plan.n (mail n (key (shown x))) (number_of list) (shown to)
  pub onto : IsListOf x.comm list
  pub finished_is : finished ≡ is_end list

pub gone_from : (a b : Slots Request) (n : Instances) (t : Ticket) (x : Request) (finished : Bool)
    → record_in a t.slot ≡ Some x → HasAdvanced a b n t finished → Gone a b n t x x.buffer finished
gone_from a b n t x finished here g =
    subst (λ (r : Request). Gone a b n t r r.buffer finished) (same_Some g.from x (sym g.here ∙ here))
    (record {
      to = g.to;
      point = g.point;
      list = g.list;
      puts = g.puts;
      stays = g.stays;
      placed_is = g.placed_is;
      is = g.is;
      buf = g.buf;
      over = g.over;
      stands = g.stands;
      onto = g.onto;
      finished_is = g.finished_is;
    })

-- y is x with another buffer
pub record Rewrites (x y : Request) (bytes : List ℕ) : Type 0 where
  pub is : shown y ≡ advanced (shown x) (record { round = x.round; index = x.index; buf = y.buffer })
  pub round_is : y.round ≡ x.round
  pub index_is : y.index ≡ x.index
  pub buf : y.buffer ≡ bytes

pub gone_written : (a b : Slots Request) (n : Instances) (t : Ticket) (x y : Request) (bytes : List ℕ) (finished : Bool)
    → IsSound a → t.slot < count a → Rewrites x y bytes
    → HasAdvanced (rewritten a t.slot y) b n t finished → Gone a b n t x bytes finished
gone_written a b n t x y bytes finished sound low w g = record {
  to = on.to;
  point = on.point;
  list = on.list;
  puts = puts_written a b t.slot t.generation (weight_of a t.slot) (number_of on.list) y (Some on.to) sound low on.puts;
  stays = on.stays;
  placed_is = on.placed_is;
  is = on.is ∙ ap (λ (q : Live). advanced q on.point) w.is;
  buf = on.buf ∙ w.buf;
  over = subst (λ (q : Live). Over (schedule q) q.round (suc q.index) on.point.round on.point.index) w.is on.over;
  stands = subst (λ (q : Live). Stands q.members (mail n (key q)) (number_of on.list) (shown on.to)) w.is on.stands;
  onto = subst (λ (q : Live). IsListOf q.comm on.list) w.is on.onto;
  finished_is = on.finished_is;
}
  where
    on : Gone (rewritten a t.slot y) b n t y y.buffer finished
    on = gone_from (rewritten a t.slot y) b n t y finished (record_written a t.slot y sound low) g

-- in the words of the laws
pub goes_on : (a b : Slots Request) (n : Instances) (t : Ticket) (x : Request) (bytes : List ℕ) (finished : Bool) (act : Action)
    → names a t ≡ true → record_in a t.slot ≡ Some x → (home a t.slot ≡ 2) ⊎ (home a t.slot ≡ 3)
    → next_of (shown x) ≡ Some act
    → (g : Gone a b n t x bytes finished) → Advances shown a b n t x g.to act g.point (number_of g.list)
goes_on a b n t x bytes finished act live here from next g = record {
  found = record { here = here; generation_is = (Named-names a t live).generation };
  active = refl;
  from = from;
  next_is = next;
  puts = one_slot a b t.slot t.generation (weight_of a t.slot) (number_of g.list) (Some g.to) g.puts;
  is = g.is;
  over = g.over;
  stands = g.stands;
}

-- a request can go on after its buffer was written
pub can_go_on : (a : Slots Request) (t : Ticket) (x y : Request) (bytes : List ℕ) (act : Action)
    → IsSound a → names a t ≡ true → Rewrites x y bytes
    → x.comm < a.comms → x.round ≤ length (schedule (shown x)).rounds → next_of (shown x) ≡ Some act
    → CanAdvance (rewritten a t.slot y) t
can_go_on a t x y bytes act sound live w comm_in round_in next = record {
  request = y;
  live = live;
  here = record_written a t.slot y sound (Named-names a t live).low;
  comm_in = subst (λ (q : Live). q.comm < a.comms) (sym w.is) comm_in;
  round_in = subst (λ (q : Live). q.round ≤ length (schedule q).rounds) (sym w.is) round_in;
  some = λ none. none-some act (sym (sym (ap next_of w.is ∙ next) ∙ none));
}

-- ---- who is Done

abbrev pub done_in : Slots Request → ℕ → Bool
done_in a i = is_done (home a i) (tabled.seen (home a i) (option_map shown (record_in a i)))

pub done_by : (a : Slots Request) (i : ℕ) (r : Request) → record_in a i ≡ Some r → done_in a i ≡ (home a i == 6 + 3 * r.comm)
done_by a i r here = ap (λ (o : Option Request). is_done (home a i) (tabled.seen (home a i) (option_map shown o))) here

low_not_done : (l c : ℕ) → (l ≡ 2) ⊎ (l ≡ 3) → (l == 6 + 3 * c) ≡ false
low_not_done l c (inl e) = ne_eqb l (6 + 3 * c) (λ f. absurd (omega (arith, e, f)))
low_not_done l c (inr e) = ne_eqb l (6 + 3 * c) (λ f. absurd (omega (arith, e, f)))

pub going_not_done : (a : Slots Request) (i : ℕ) (r : Request) → record_in a i ≡ Some r → (home a i ≡ 2) ⊎ (home a i ≡ 3) → done_in a i ≡ false
going_not_done a i r here from = done_by a i r here ∙ low_not_done (home a i) r.comm from

list_done : (c d : ℕ) (list : ListName) → IsListOf c list → d ≡ c → (number_of list == 6 + 3 * d) ≡ is_end list
list_done c d Free on e = absurd on
list_done c d Worn on e = absurd on
list_done c d Ready on e = ne_eqb 2 (6 + 3 * d) (λ f. absurd (omega (arith, f)))
list_done c d Running on e = absurd on
list_done c d (Idle k) on e = absurd on
list_done c d (Queue k) on e = ne_eqb (5 + 3 * k) (6 + 3 * d) (λ f. absurd (omega (arith, f)))
list_done c d (Done k) on e = eq-eqb (6 + 3 * k) (6 + 3 * d) (ap (λ z. 6 + 3 * z) (on ∙ sym e))

pub list_low : (c : ℕ) (list : ListName) → IsListOf c list → number_of list ≢ 3
list_low c Free on e = on
list_low c Worn on e = on
list_low c Ready on e = absurd (omega (arith, e))
list_low c Running on e = on
list_low c (Idle k) on e = on
list_low c (Queue k) on e = absurd (omega (arith, e))
list_low c (Done k) on e = absurd (omega (arith, e))

-- whoever is Done after it was Done before
abbrev pub NoneEnds : Slots Request → Slots Request → Type 0
NoneEnds a b = (i : ℕ) → done_in b i ≡ true → done_in a i ≡ true

module _ (a b : Slots Request) (n : Instances) (t : Ticket) (x : Request) (bytes : List ℕ) where
  pub done_here : (finished : Bool) → Gone a b n t x bytes finished → done_in b t.slot ≡ finished
  done_here finished g = done_by b t.slot g.to there
      ∙ (ap (λ l. l == 6 + 3 * g.to.comm) (ap (λ (f : ℕ → ℕ). f t.slot) g.puts.homes ∙ put_same (home a) t.slot (number_of g.list))
      ∙ (list_done x.comm g.to.comm g.list g.onto (ap (λ (q : Live). q.comm) g.is) ∙ sym g.finished_is))
    where
      there : record_in b t.slot ≡ Some g.to
      there = ap (λ (f : ℕ → Option Request). f t.slot) g.puts.records ∙ put_same (record_in a) t.slot (Some g.to)

  pub none_ends : Gone a b n t x bytes false → NoneEnds a b
  none_ends g i e = go (cases_eq i t.slot)
    where
      go : (i ≡ t.slot) ⊎ (i ≡ t.slot → ⊥) → done_in a i ≡ true
      go (inl here) = absurd (false≢true (sym (done_here false g) ∙ (ap (done_in b) (sym here) ∙ e)))
      go (inr away) =
          sym ((λ z. is_done (home_is z) (tabled.seen (home_is z) (option_map shown (record_is z))))) ∙ e
        where
          home_is : home b i ≡ home a i
          home_is = ap (λ (f : ℕ → ℕ). f i) g.puts.homes ∙ put_other (home a) t.slot (number_of g.list) i away

          record_is : record_in b i ≡ record_in a i
          record_is = ap (λ (f : ℕ → Option Request). f i) g.puts.records ∙ put_other (record_in a) t.slot (Some g.to) i away

-- ---- the machine's step

no_finish : (g : Setting) (m n : Machine) → ((i : ℕ) → n.done i ≡ true → m.done i ≡ true) → MayFinish g m n → n ≡ m
no_finish g m n none (inl same) = sym same
no_finish g m n none (inr (finish slot f)) =
    absurd (false≢true (sym f.pending ∙ none slot (ap (λ (h : ℕ → Bool). h slot) f.leaves ∙ put_same m.done slot true)))

a_finish : (g : Setting) (m n : Machine) (i : ℕ) → n.done i ≡ true → m.done i ≡ false → MayFinish g m n → MachineStep g m Finish Nothing n
a_finish g m n i now before (inl same) = absurd (false≢true (sym before ∙ (ap (λ (k : Machine). k.done i) same ∙ now)))
a_finish g m n i now before (inr step) = step

pub steps_by : (g : Setting) (a b : Slots Request) (q : Postings) (m n : Instances) (i : ℕ) (finished : Bool)
    → done_in a i ≡ false → done_in b i ≡ finished → (finished ≡ false → NoneEnds a b)
    → MayFinish g (machine (tables shown g a q m)) (machine (tables shown g b q n))
    → StepsBy finished g (machine (tables shown g a q m)) (machine (tables shown g b q n))
steps_by g a b q m n i true before now none may = a_finish g _ _ i now before may
steps_by g a b q m n i false before now none may = no_finish g _ _ (none refl) may

-- ---- the engine

abbrev pub parts : ℕ → ℕ → ℕ → Slots Request → Postings → Instances → Parts
parts ranks starts trace a q m = record { ranks = ranks; starts = starts; trace = trace; arena = a; queues = q; matches = m }

module _ (ranks starts trace : ℕ) (a b : Slots Request) (q : Postings) (m n : Instances) where
  abbrev before : Parts
  before = parts ranks starts trace a q m

  abbrev after : Parts
  after = parts ranks starts trace b q n

  pub same_setting : count b ≡ count a → b.wear ≡ a.wear → setting after ≡ setting before
  same_setting count_is wear_is = λ z. record {
    ranks = ranks;
    groups = (setting before).groups;
    slots = count_is z;
    places = q.places;
    wear = wear_is z;
    starts = starts;
    trace = trace;
  }

  module _ (count_is : count b ≡ count a) (wear_is : b.wear ≡ a.wear) (once : ActsOnce shown (setting before) a b q m n) where
    pub core_after : IsCore after
    core_after = subst (λ g. tabled_core.IsCore shown g b q n) (sym (same_setting count_is wear_is)) once.core

    pub goes : (i : ℕ) (finished : Bool) → done_in a i ≡ false → done_in b i ≡ finished → (finished ≡ false → NoneEnds a b) → Goes before after finished
    goes i finished was now none = record {
      set = same_setting count_is wear_is;
      steps = steps_by (setting before) a b q m n i finished was now none once.steps;
      lowers = ap (λ g. suc (actions_left (tables shown g b q n))) (same_setting count_is wear_is) ∙ once.lowers;
    }
