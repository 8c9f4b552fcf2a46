-- Actions of requests of Ready, each with what it writes.
use Rattle.std.proofs.Common.{◌≡◌, ◌≢◌, ◌∙◌, inl, ℕ, Bool, List, [], length, Option, Some, None, Result, Ok, Err, ap, refl, sym, subst, arith}
use Rattle.std.specs.Prelude.{OnErr, slice_set}
use Rattle.std.proofs.lemmas.List.{set-get_or}
use Rattle.coll_kinds.specs.declared.ticket.Ticket.{Ticket}
use Rattle.coll_lists.specs.Layouts.{sequence}
use Rattle.coll_lists.specs.Neighbours.{first_in}
use Rattle.coll_sched.specs.declared.action.Action.{Action}
use Rattle.coll_sched.specs.declared.action.Action.TheVariants.{Recv}
use Rattle.coll_sched.specs.declared.region.Region.{Region}
use Rattle.coll_sched.specs.Common.{IsLocal, wrote, written, put_mail}
use Rattle.coll_arena.specs.ListNames.{number_of}
use Rattle.coll_arena.specs.Changes.{rewritten}
use Rattle.coll_arena.specs.Slots.{Slots, home, record_in, weight_of}
use Rattle.coll_arena.specs.Sound.{IsSound}
use Rattle.coll_arena.proofs.Sounds.{Named-names}
use Rattle.coll_queues.specs.Postings.{Postings}
use Rattle.coll_machine.specs.declared.key.Key.{Key}
use Rattle.coll_machine.specs.Changes.{put_key}
use Rattle.coll_match.specs.Instances.{mail}
use Rattle.coll_refinement.specs.Shown.{Instances}
use Rattle.coll_refinement.proofs.engine.Changes.{KeepsContributions}
use Rattle.coll_refinement.proofs.engine.Statements.{ActsOnce}
use Rattle.coll_refinement.proofs.engine.Actions.{compute_core, receive_core}
use Rattle.coll_core.specs.declared.request.Request.{Request}
use Rattle.coll_core.specs.Cores.{IsCore, Parts, setting}
use Rattle.coll_refinement.specs.Requests.{key}
use Rattle.coll_core.specs.Requests.{shown}
use Rattle.coll_core.specs.Advancing.{HasAdvanced}
use Rattle.coll_core.specs.Steps.{Acts, IsActingAt}
use Rattle.coll_core.proofs.between.FirstOfReady.{acting}
use Rattle.coll_core.proofs.step.NextOfReady.{first_stays, if_some}
use Rattle.coll_core.proofs.step.OneActs.{acts_alone}
use Rattle.coll_core.proofs.step.Act.{Gone, Rewrites, core_after, done_here, goes, goes_on, going_not_done, gone_written, list_low, none_ends, parts}

-- ---- nothing was written

pub on_err : {A E : Type 0} (r : Result A E) (P : Type 0) → P → OnErr r P
on_err (Ok x) P p = tt
on_err (Err e) P p = p

pub same_arena : (a : Slots Request) (i : ℕ) (x : Request) → record_in a i ≡ Some x → rewritten a i x ≡ a
same_arena a i x here =
    ap (λ (rs : List (Option Request)). record
    { generations = a.generations; weights = a.weights; records = rs; lists = a.lists; comms = a.comms; wear = a.wear })
    (ap (λ (o : Option Request). slice_set a.records i o) (sym here) ∙ set-get_or a.records i None)

-- ---- an action with its write

module _ (ranks starts trace : ℕ) (a b : Slots Request) (q : Postings) (m n : Instances) (t : Ticket) (x : Request)
    (act : Action) (bytes : List ℕ) (finished : Bool) where
  pub acted : IsActingAt (parts ranks starts trace a q m) t act x → (g : Gone a b n t x bytes finished)
      → ActsOnce shown (setting (parts ranks starts trace a q m)) a b q m n
      → IsCore (parts ranks starts trace b q n) × Acts (parts ranks starts trace a q m) (parts ranks starts trace b q n) finished
  acted at g once = (
    core_after ranks starts trace a b q m n g.puts.count_is g.puts.wear_is once,
    record {
      goes = goes ranks starts trace a b q m n g.puts.count_is g.puts.wear_is once t.slot finished
          (going_not_done a t.slot x at.here (inl at.on_ready)) (done_here a b n t x bytes finished g)
          (λ e. none_ends a b n t x bytes (subst (λ f. Gone a b n t x bytes f) e g));
      acts = acts_alone (parts ranks starts trace a q m) (parts ranks starts trace b q n) n a t x act bytes finished at g (λ j. refl) (inl refl);
      running_is = g.puts.others 3 (λ e. off (home a t.slot) at.on_ready e) (λ e. list_low x.comm g.list g.onto (sym e));
      stays_first = if_some (first_in (sequence a.lists 2)) _
          (first_stays a b t.slot t.generation (weight_of a t.slot) (number_of g.list) (Some g.to) at.on_ready g.puts g.stays);
    },
  )
    where
      off : (l : ℕ) → l ≡ 2 → 3 ≢ l
      off l e f = absurd (omega (arith, e, f))

pub computed : (ranks starts trace : ℕ) (a b : Slots Request) (q : Postings) (m : Instances) (t : Ticket) (x y : Request)
    (act : Action) (bytes : List ℕ) (finished : Bool)
    → IsSound a → IsCore (parts ranks starts trace a q m) → IsActingAt (parts ranks starts trace a q m) t act x
    → IsLocal act → bytes ≡ wrote (λ from. []) x.buffer act x.buffer → Rewrites x y bytes
    → HasAdvanced (rewritten a t.slot y) b m t finished
    → IsCore (parts ranks starts trace b q m) × Acts (parts ranks starts trace a q m) (parts ranks starts trace b q m) finished
computed ranks starts trace a b q m t x y act bytes finished sound core at local wrote_is w g =
    let on : Gone a b m t x bytes finished = gone_written a b m t x y bytes finished sound (Named-names a t at.live).low w g in
    acted ranks starts trace a b q m m t x act bytes finished at on
    (compute_core shown (setting (parts ranks starts trace a q m)) a b q m t x on.to act on.point (number_of on.list) core
    (goes_on a b m t x bytes finished act at.live at.here (inl at.on_ready) at.next_is on) local (on.buf ∙ wrote_is))

-- the bytes that stood there, written again
pub same_written : (a : Slots Request) (i : ℕ) (x : Request) (ws : List ℕ) → record_in a i ≡ Some x → ws ≡ x.buffer
    → rewritten a i (record x { buffer = ws }) ≡ a
same_written a i x ws here e =
    ap (λ (v : List ℕ). rewritten a i (record x { buffer = v })) e
    ∙ same_arena a i x here

pub received : (ranks starts trace : ℕ) (a b : Slots Request) (q : Postings) (m n : Instances) (t : Ticket) (x y : Request)
    (of : ℕ) (into : Region) (message bytes : List ℕ) (finished : Bool)
    → IsSound a → IsCore (parts ranks starts trace a q m) → IsActingAt (parts ranks starts trace a q m) t (Recv of into) x
    → KeepsContributions m n
    → mail m (key (shown x)) of x.plan.member x.round ≡ Some message
    → mail n ≡ put_key (mail m) (key (shown x)) (put_mail (mail m (key (shown x))) of x.plan.member x.round None)
    → bytes ≡ written x.buffer into message → Rewrites x y bytes
    → HasAdvanced (rewritten a t.slot y) b n t finished
    → IsCore (parts ranks starts trace b q n) × Acts (parts ranks starts trace a q m) (parts ranks starts trace b q n) finished
received ranks starts trace a b q m n t x y of into message bytes finished sound core at keeps came mails wrote_is w g =
    let on : Gone a b n t x bytes finished = gone_written a b n t x y bytes finished sound (Named-names a t at.live).low w g in
    acted ranks starts trace a b q m n t x (Recv of into) bytes finished at on
    (receive_core shown (setting (parts ranks starts trace a q m)) a b q m n t x on.to of into message on.point (number_of on.list) core
    (goes_on a b n t x bytes finished (Recv of into) at.live at.here (inl at.on_ready) at.next_is on) keeps came mails (on.buf ∙ wrote_is))

-- a message that was taken, under the names of a call
module _ (m : Instances) (x : Request) (of : ℕ) (k : Key) (member : ℕ) (k_is : k ≡ key (shown x)) (member_is : member ≡ x.plan.member) where
  pub message_came : (message : List ℕ) → Some message ≡ mail m k of member x.round → mail m (key (shown x)) of x.plan.member x.round ≡ Some message
  message_came message e = sym (e ∙ (λ z. mail m (k_is z) of (member_is z) x.round))

  pub message_taken : (n : Instances) → mail n ≡ put_key (mail m) k (put_mail (mail m k) of member x.round None)
      → mail n ≡ put_key (mail m) (key (shown x)) (put_mail (mail m (key (shown x))) of x.plan.member x.round None)
  message_taken n e = e ∙ (λ z. put_key (mail m) (k_is z) (put_mail (mail m (k_is z)) of (member_is z) x.round None))

-- a message is as long as the region into which it goes
pub message_long : (p : Parts) (t : Ticket) (x : Request) (of : ℕ) (into : Region) (message : List ℕ) → IsCore p → IsActingAt p t (Recv of into) x
    → mail p.matches (key (shown x)) of x.plan.member x.round ≡ Some message → length message ≡ into.len
message_long p t x of into message core at came = (acting p core t.slot x at.here at.on_ready).takes of into message at.next_is came
