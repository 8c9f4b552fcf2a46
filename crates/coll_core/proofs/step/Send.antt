-- A Send with its delivery.
use Rattle.std.proofs.Common.{◌≡◌, ◌≢◌, ◌∙◌, ◌<◌, ◌+◌, ◌*◌, ◌==◌, ◌&&◌, ◌⊎◌, nat_lt, inl, inr, ℕ, Bool, true, false, List, Option, Some, None, ap}
use Rattle.std.proofs.Common.{refl, sym, subst, arith, cond, ne_eqb}
use Rattle.std.specs.Prelude.{IfSome, option_map}
use Rattle.std.proofs.lemmas.Bool.{and_from, cases_eq, eq-eqb}
use Rattle.std.proofs.lemmas.Option.{IfSome_then, none-some}
use Rattle.coll_kinds.specs.declared.ticket.Ticket.{Ticket}
use Rattle.coll_kinds.proofs.Puts.{put_same, put_other}
use Rattle.coll_lists.specs.Layouts.{sequence}
use Rattle.coll_lists.specs.Neighbours.{first_in}
use Rattle.coll_sched.specs.declared.action.Action.TheVariants.{Send}
use Rattle.coll_sched.specs.declared.region.Region.{Region}
use Rattle.coll_sched.specs.Common.{read_of, put_mail}
use Rattle.coll_arena.specs.ListNames.{number_of}
use Rattle.coll_arena.specs.Slots.{Slots, count, generation_of, home, names, record_in, weight_of}
use Rattle.coll_queues.specs.Postings.{Postings}
use Rattle.coll_machine.specs.declared.key.Key.{Key}
use Rattle.coll_machine.specs.Changes.{put_key}
use Rattle.coll_match.specs.Instances.{given, mail}
use Rattle.coll_match.proofs.Standing.{put_key_at}
use Rattle.coll_refinement.specs.Tables.{is_done}
use Rattle.coll_refinement.specs.Engines.{Delivers, Wakes}
use Rattle.coll_refinement.proofs.engine.Changes.{KeepsContributions}
use Rattle.coll_refinement.proofs.engine.Statements.{ActsOnce}
use Rattle.coll_refinement.specs.Shown.{Instances}
use Rattle.coll_refinement.specs.Shown as tabled
use Rattle.coll_refinement.proofs.engine.Sends.{send_core}
use Rattle.coll_core.specs.declared.request.Request.{Request}
use Rattle.coll_core.specs.Cores.{IsCore, Parts, setting}
use Rattle.coll_refinement.specs.Requests.{key}
use Rattle.coll_core.specs.Requests.{shown}
use Rattle.coll_core.specs.Advancing.{Brings, CanAdvance, HasAdvanced}
use Rattle.coll_core.specs.Steps.{Acts, IsActingAt}
use Rattle.coll_core.proofs.step.Act.{Gone, core_after, done_by, done_here, done_in, goes, goes_on, going_not_done, gone_from, list_low, none_ends, parts}
use Rattle.coll_core.proofs.step.OneActs.{acts_alone, lists_brought, records_brought}
use Rattle.coll_core.proofs.between.FirstOfReady.{acting}
use Rattle.coll_core.proofs.step.NextOfReady.{first_stays}

-- ---- what the calls ask for

module _ (p : Parts) (t : Ticket) (x : Request) (to : ℕ) (from : Region) (core : IsCore p) (at : IsActingAt p t (Send to from) x)
    (k : Key) (member : ℕ) (k_is : k ≡ key (shown x)) (member_is : member ≡ x.plan.member) where
  pub has_given : given p.matches k member ≢ None
  has_given none = (acting p core t.slot x at.here at.on_ready).gave (sym (λ z. given p.matches (k_is z) (member_is z)) ∙ none)

  pub no_message : mail p.matches k member to x.round ≡ None
  no_message = (λ z. mail p.matches (k_is z) (member_is z) to x.round) ∙ (acting p core t.slot x at.here at.on_ready).sends to from at.next_is

-- ---- a delivery

module _ (b d : Slots Request) (n : Instances) (k : Key) (to : ℕ) where
  queue_not_done : (l c : ℕ) → l ≡ 5 + 3 * c → (l == 6 + 3 * c) ≡ false
  queue_not_done l c e = ne_eqb l (6 + 3 * c) (λ f. absurd (omega (arith, e, f)))

  ready_not_done : (l c : ℕ) → l ≡ 2 → (l == 6 + 3 * c) ≡ false
  ready_not_done l c e = ne_eqb l (6 + 3 * c) (λ f. absurd (omega (arith, e, f)))

  woken_same : (u : Ticket) (r : Request) → Wakes shown b d n k to u r → (i : ℕ) → (i ≡ u.slot) ⊎ (i ≡ u.slot → ⊥) → done_in d i ≡ done_in b i
  woken_same u r w i (inl e) = ap (done_in d) e
      ∙ ((done_by d u.slot r there ∙ ready_not_done (home d u.slot) r.comm (ap (λ (f : ℕ → ℕ). f u.slot) w.puts.homes ∙ put_same (home b) u.slot 2))
      ∙ (sym (done_by b u.slot r w.found.here ∙ queue_not_done (home b u.slot) r.comm w.waits) ∙ ap (done_in b) (sym e)))
    where
      there : record_in d u.slot ≡ Some r
      there = ap (λ (f : ℕ → Option Request). f u.slot) w.puts.records ∙ put_same (record_in b) u.slot (Some r)
  woken_same u r w i (inr away) = λ z. is_done (home_is z) (tabled.seen (home_is z) (option_map shown (record_is z)))
    where
      home_is : home d i ≡ home b i
      home_is = ap (λ (f : ℕ → ℕ). f i) w.puts.homes ∙ put_other (home b) u.slot 2 i away

      record_is : record_in d i ≡ record_in b i
      record_is = ap (λ (f : ℕ → Option Request). f i) w.puts.records ∙ put_other (record_in b) u.slot (Some r) i away

  pub done_same : Delivers shown b d n k to → (i : ℕ) → done_in d i ≡ done_in b i
  done_same (inl same) i = ap (λ (z : Slots Request). done_in z i) same.1
  done_same (inr w) i = woken_same w.0 w.1 w.2 i (cases_eq i (w.0).slot)

  pub count_same : Delivers shown b d n k to → count d ≡ count b
  count_same (inl same) = ap count same.1
  count_same (inr w) = w.2.puts.count_is

  pub wear_same : Delivers shown b d n k to → d.wear ≡ b.wear
  wear_same (inl same) = ap (λ (z : Slots Request). z.wear) same.1
  wear_same (inr w) = w.2.puts.wear_is

-- ---- the sender, when its message was delivered

-- it stands where it stood
pub record Stood (a b : Slots Request) (t : Ticket) (x : Request) : Type 0 where
  pub live : names b t ≡ true
  pub here : record_in b t.slot ≡ Some x
  pub home_is : home b t.slot ≡ home a t.slot
  pub comms_is : b.comms ≡ a.comms

pub stood : (a b : Slots Request) (n : Instances) (k : Key) (to : ℕ) (t : Ticket) (x : Request)
    → names a t ≡ true → record_in a t.slot ≡ Some x → home a t.slot ≡ 2
    → Delivers shown a b n k to → Stood a b t x
stood a b n k to t x live here ready (inl same) =
    subst (λ z. Stood a z t x) (sym same.1) (record { live = live; here = here; home_is = refl; comms_is = refl })
stood a b n k to t x live here ready (inr w) = record {
  live = (λ z. (nat_lt t.slot (w.2.puts.count_is z) && nat_lt 1 (home_is z)) && (generation_is z == t.generation)) ∙ live;
  here = ap (λ (f : ℕ → Option Request). f t.slot) w.2.puts.records ∙ (put_other (record_in a) (w.0).slot (Some w.1) t.slot away ∙ here);
  home_is = home_is;
  comms_is = w.2.puts.comms_is;
}
  where
    apart : (l c : ℕ) → l ≡ 2 → l ≡ 5 + 3 * c → ⊥
    apart l c e f = absurd (omega (arith, e, f))

    away : t.slot ≢ (w.0).slot
    away e = apart (home a (w.0).slot) w.1.comm (ap (home a) (sym e) ∙ ready) w.2.waits

    home_is : home b t.slot ≡ home a t.slot
    home_is = ap (λ (f : ℕ → ℕ). f t.slot) w.2.puts.homes ∙ put_other (home a) (w.0).slot 2 t.slot away

    generation_is : generation_of b t.slot ≡ generation_of a t.slot
    generation_is = ap (λ (f : ℕ → ℕ). f t.slot) w.2.puts.generations
        ∙ put_other (generation_of a) (w.0).slot (w.0).generation t.slot away

pub can_go_then : (p : Parts) (b : Slots Request) (t : Ticket) (x : Request) (to : ℕ) (from : Region)
    → IsActingAt p t (Send to from) x → Stood p.arena b t x → CanAdvance b t
can_go_then p b t x to from at s = record {
  request = x;
  live = s.live;
  here = s.here;
  comm_in = subst (λ n. x.comm < n) (sym s.comms_is) at.comm_in;
  round_in = at.round_in;
  some = λ none. none-some (Send to from) (sym none ∙ at.next_is);
}

-- ---- the message stands then

pub stands_sent : (m n : Instances) (k : Key) (from to round : ℕ) (message : List ℕ)
    → mail n ≡ put_key (mail m) k (put_mail (mail m k) from to round (Some message)) → mail n k from to round ≢ None
stands_sent m n k from to round message mails none = none-some message (sym none ∙ there)
  where
    there : mail n k from to round ≡ Some message
    there =
        ap (λ f. f k from to round) mails
        ∙ ap (λ f. f from to round) (put_key_at (mail m) k (put_mail (mail m k) from to round (Some message)))
        ∙ ap (λ b. cond b (Some message) (mail m k from to round))
        (and_from _ _ (eq-eqb from from refl) (and_from _ _ (eq-eqb to to refl) (eq-eqb round round refl)))

-- ---- both

pub sent : (ranks starts trace : ℕ) (a b d : Slots Request) (q : Postings) (m n : Instances) (t : Ticket) (x : Request) (to : ℕ)
    (from : Region) (k : Key) (member : ℕ) (message : List ℕ) (finished : Bool)
    → IsCore (parts ranks starts trace a q m) → IsActingAt (parts ranks starts trace a q m) t (Send to from) x
    → k ≡ key (shown x) → member ≡ x.plan.member → message ≡ read_of x.buffer from
    → KeepsContributions m n
    → mail n ≡ put_key (mail m) k (put_mail (mail m k) member to x.round (Some message))
    → Delivers shown a b n k to
    → Brings a b n k to
    → sequence b.lists 3 ≡ sequence a.lists 3
    → IfSome (first_in (sequence a.lists 2)) (λ slot. first_in (sequence b.lists 2) ≡ Some slot)
    → HasAdvanced b d n t finished
    → IsCore (parts ranks starts trace d q n) × Acts (parts ranks starts trace a q m) (parts ranks starts trace d q n) finished
sent ranks starts trace a b d q m n t x to from k member message finished core at k_is member_is message_is keeps mails delivered brings runs first gone = (
  core_after ranks starts trace a d q m n count_is wear_is once,
  record {
    goes = goes ranks starts trace a d q m n count_is wear_is once t.slot finished
        (going_not_done a t.slot x at.here (inl at.on_ready))
        (done_here b d n t x x.buffer finished on)
        (λ e i done. sym (done_same a b n k to delivered i)
        ∙ none_ends b d n t x x.buffer (subst (λ f. Gone b d n t x x.buffer f) e on) i done);
    acts = acts_alone (parts ranks starts trace a q m) (parts ranks starts trace d q n) n b t x (Send to from) x.buffer finished at on
        (records_brought a b n k to brings)
        (lists_brought (parts ranks starts trace a q m) b n x to from k core k_is keeps.seats brings);
    running_is = on.puts.others 3 (λ e. off (home b t.slot) (at_b.home_is ∙ at.on_ready) e) (λ e. list_low x.comm on.list on.onto (sym e)) ∙ runs;
    stays_first = IfSome_then (first_in (sequence a.lists 2)) first
        (first_stays b d t.slot t.generation (weight_of b t.slot) (number_of on.list) (Some on.to) (at_b.home_is ∙ at.on_ready) on.puts on.stays);
  },
)
  where
    off : (l : ℕ) → l ≡ 2 → 3 ≢ l
    off l e f = absurd (omega (arith, e, f))

    at_b : Stood a b t x
    at_b = stood a b n k to t x at.live at.here at.on_ready delivered

    on : Gone b d n t x x.buffer finished
    on = gone_from b d n t x finished at_b.here gone

    count_is : count d ≡ count a
    count_is = on.puts.count_is ∙ count_same a b n k to delivered

    wear_is : d.wear ≡ a.wear
    wear_is = on.puts.wear_is ∙ wear_same a b n k to delivered

    once : ActsOnce shown (setting (parts ranks starts trace a q m)) a d q m n
    once = send_core shown (setting (parts ranks starts trace a q m)) a b d q m n t x on.to to from on.point (number_of on.list) core
        (subst (λ (l : Key). Delivers shown a b n l to) k_is delivered)
        (goes_on b d n t x x.buffer finished (Send to from) at_b.live at_b.here (inl (at_b.home_is ∙ at.on_ready)) at.next_is on) keeps
        (mails ∙ (λ z. put_key (mail m) (k_is z) (put_mail (mail m (k_is z)) (member_is z) to x.round (Some (message_is z)))))
        on.buf
