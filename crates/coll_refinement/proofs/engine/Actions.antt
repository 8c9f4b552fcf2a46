-- The engine's actions, in the words of its arena and instances.
use Rattle.std.proofs.Common.{◌≡◌, ℕ, suc, ◌+◌, ◌*◌, ◌≢◌, ◌⊎◌, inl, inr, true, Option, Some, None, refl, sym, ap, subst, ◌∙◌, arith}
use Rattle.std.specs.Prelude.{option_map}
use Rattle.std.proofs.lemmas.Option.{none-some, same_Some}
use Rattle.coll_kinds.specs.declared.ticket.Ticket.{Ticket}
use Rattle.coll_kinds.specs.Puts.{put}
use Rattle.coll_sched.specs.declared.action.Action.{Action}
use Rattle.coll_sched.specs.declared.action.Action.TheVariants.{Send, Combine, Recv}
use Rattle.coll_sched.specs.declared.region.Region.{Region}
use Rattle.coll_sched.specs.Common.{Over, read_of, Progress, put_mail}
use Rattle.coll_plans.specs.Plans.{family}
use Rattle.coll_arena.specs.Slots.{Slots, generation_of, home, record_in, weight_of}
use Rattle.coll_queues.specs.Postings.{Postings, posts, signed}
use Rattle.coll_machine.specs.declared.key.Key.{Key}
use Rattle.coll_machine.specs.Common.{put_key, Setting, size, MayFinish}
use Rattle.coll_match.specs.Instances.{mail}
use Rattle.coll_refinement.specs.Requests.{Live, key, advanced}
use Rattle.coll_refinement.specs.Tables.{Mail, Tables, machine}
use Rattle.coll_refinement.specs.Sound.{next, Doable, Stands, ready, running, idle, queued, done, Called, IsSound}
use Rattle.coll_refinement.specs.Changes.{acting, rehoming, delivered, received}
use Rattle.coll_refinement.proofs.tables.CallTests.{Acting, Away, Waking}
use Rattle.coll_refinement.specs.Remaining.{actions_left}
use Rattle.coll_refinement.specs.Shown.{Instances, seen, listed, tables, weight, weight_by}
use Rattle.coll_refinement.specs.Cores.{IsCore}
use Rattle.coll_refinement.proofs.engine.Changes.{Advances, KeepsContributions}
use Rattle.coll_refinement.specs.Engines.{IsCalled, Wakes}
use Rattle.coll_refinement.proofs.engine.Statements.{ActsOnce, ComputeCore, ReceiveCore, MoveCore}
use Rattle.coll_refinement.proofs.tables.LiveRequests.{put_self}
use Rattle.coll_refinement.proofs.tables.Actions.{going, compute_keeps, receive_keeps, send_keeps, rehome_keeps}
use Rattle.coll_refinement.proofs.tables.ActionsLeft.{acts_lower}
use Rattle.coll_refinement.proofs.engine.Slots.{core_of, home_away, home_here, listed_active, listed_stands, record_here, set_of, shown_requests}
use Rattle.coll_refinement.proofs.engine.Slots.{shown_same, weights_of}
use Rattle.coll_sched.proofs.Counts.{put_cases}
use Rattle.coll_kinds.proofs.Puts.{put_other}
use Rattle.std.proofs.lemmas.Bool.{cases_eq}

pub going_on : (l c : ℕ) → (l ≡ 2) ⊎ (l ≡ 3) → l ≢ 4 + 3 * c
going_on l c (inl e) x = omega arith
going_on l c (inr e) x = omega arith

-- a live request as the tables show it, where it is active
pub shown_here : {R : Type 0} (shown : R → Live) (a : Slots R) (i : ℕ) (x : R) → record_in a i ≡ Some x → (shown x).active ≡ true
    → home a i ≢ 4 + 3 * (shown x).comm → seen (home a i) (option_map shown (record_in a i)) ≡ Some (shown x)
shown_here shown a i x e t d = ap (λ (o : Option _). seen (home a i) (option_map shown o)) e ∙ ap Some (listed_active (home a i) (shown x) d t)

-- a slot weighs what its request lends
pub weighs : {R : Type 0} (shown : R → Live) (g : Setting) (a : Slots R) (q : Postings) (m : Instances) → IsCore shown g a q m
    → (i : ℕ) (x : Live) → (tables shown g a q m).request i ≡ Some x → weight_of a i ≡ weight x
weighs shown g a q m c i x e = ap (λ (f : ℕ → ℕ). f i) c.weights ∙ ap weight_by e

module _ {R : Type 0} (shown : R → Live) (g : Setting) (a b : Slots R) (q : Postings) (m n : Instances) (t : Ticket) (x y : R)
    (act : Action) (o : Progress) (list : ℕ)
    (c : IsCore shown g a q m) (h : Advances shown a b n t x y act o list) (k : KeepsContributions m n) where
  abbrev v : Tables
  v = tables shown g a q m

  abbrev w : Tables
  w = tables shown g b q n

  abbrev p : Live
  p = shown x

  here : v.request t.slot ≡ Some p
  here = shown_here shown a t.slot x h.found.here h.active (going_on (home a t.slot) p.comm h.from)

  pub sized : p.members ≡ size g p.comm
  sized = c.sound.sound.base.sized t.slot p here

  there : (shown y).active ≡ true
  there = ap (λ (z : Live). z.active) h.is ∙ h.active

  -- the new request as the tables show it
  lies_as : listed list (shown y) ≡ advanced p o
  lies_as = listed_stands p.members list (mail n (key p)) (shown y) h.stands there ∙ h.is

  generations : generation_of b ≡ generation_of a
  generations = h.puts.generations ∙ put_self (generation_of a) t.slot t.generation h.found.generation_is

  module _ (mails : Key → Mail) (e : (λ (l : Key). mail n l) ≡ mails) where
    pub acted : w ≡ acting v t.slot p o mails (home b)
    acted = λ z. record {
      setting = g;
      generation = generations z;
      request = (shown_requests shown g a b t.slot t.generation (weight_of a t.slot) list (Some y) h.puts
          ∙ ap (λ (r : Live). put v.request t.slot (Some r)) lies_as) z;
      home = home b;
      posts = posts q;
      signed = signed q;
      given = λ l. k.given z l;
      seats = λ l. k.seats z l;
      mail = e z;
    }

    pub mine : Stands (size g p.comm) (mails (key p)) (home b t.slot) (advanced p o)
    mine = subst (λ s. Stands s (mails (key p)) (home b t.slot) (advanced p o)) sized
        (subst (λ (f : Key → Mail). Stands p.members (f (key p)) (home b t.slot) (advanced p o)) e
        (subst (λ l. Stands p.members (mail n (key p)) l (advanced p o)) (sym (home_here a b t.slot t.generation (weight_of a t.slot) list (Some y) h.puts))
        (subst (λ (r : Live). Stands p.members (mail n (key p)) list r) h.is h.stands)))

  pub acts : Acting v t.slot p act o (home b)
  acts = record {
    here = here;
    list = h.from;
    next_is = subst (λ s. next s p ≡ Some act) sized h.next_is;
    over = subst (λ s. Over (family p.sig s p.member) p.round (suc p.index) o.round o.index) sized h.over;
    away = home_away a b t.slot t.generation (weight_of a t.slot) list (Some y) h.puts;
  }

  pub weighs_on : weight_of a t.slot ≡ weight_by (seen list (option_map shown (Some y)))
  weighs_on = weighs shown g a q m c t.slot p here ∙ ap weight (sym lies_as)

  pub core_on : IsSound w → IsCore shown g b q n
  core_on s = core_of shown g a b t.slot t.generation (weight_of a t.slot) list (Some y) h.puts q q m n c refl refl
      (λ l z e. c.sizes l z (ap (λ (f : Key → Option ℕ). f l) (sym k.members) ∙ e)) weighs_on s

  -- from what the tables' laws say of them
  pub once : (mails : Key → Mail) → (λ (l : Key). mail n l) ≡ mails → IsSound (acting v t.slot p o mails (home b))
      → MayFinish g (machine v) (machine (acting v t.slot p o mails (home b))) → ActsOnce shown g a b q m n
  once mails e s step = record {
    core = core_on (subst (λ (u : Tables). IsSound u) (sym (acted mails e)) s);
    steps = subst (λ (u : Tables). MayFinish g (machine v) (machine u)) (sym (acted mails e)) step;
    lowers = ap (λ (u : Tables). suc (actions_left u)) (acted mails e) ∙ acts_lower v t.slot p act o mails (home b) c.sound acts;
  }

same_contributions : (m : Instances) → KeepsContributions m m
same_contributions m = record { members = refl; given = refl; seats = refl }

pub compute_core : {R : Type 0} → ComputeCore R
compute_core {R} shown g a b q m t x y act o list c h loc buf =
    let k = same_contributions m in
    let both = compute_keeps (v shown g a b q m m t x y act o list c h k) t.slot (shown x) act o (home b) c.sound
    (acts shown g a b q m m t x y act o list c h k) loc buf (mine shown g a b q m m t x y act o list c h k (λ l. mail m l) refl) in
    once shown g a b q m m t x y act o list c h k (λ l. mail m l) refl both.0 both.1

pub receive_core : {R : Type 0} → ReceiveCore R
receive_core {R} shown g a b q m n t x y of into bytes o list c h k there mails buf =
    let act = Recv of into in
    let e : (λ (l : Key). mail n l) ≡ received (tables shown g a q m) (shown x) of = λ z l. mails z l in
    let both = receive_keeps (tables shown g a q m) t.slot (shown x) of into bytes o (home b) c.sound
    (acts shown g a b q m n t x y act o list c h k) there buf
    (mine shown g a b q m n t x y act o list c h k (received (tables shown g a q m) (shown x) of) e) in
    once shown g a b q m n t x y act o list c h k (received (tables shown g a q m) (shown x) of) e both.0 both.1

-- ---- a Send

-- what lies on a Queue waited for a message; if it can go on now, that one has come
pub queue_called : (n l : ℕ) (old new : Mail) (p : Live) → l ≡ 5 + 3 * p.comm → Stands n old l p → Stands n new 2 p → Called n new l p
queue_called n l old new p e (ready a t f nx d) st = absurd (omega arith)
queue_called n l old new p e (running op ty a b into t f nx) st = absurd (omega arith)
queue_called n l old new p e (done t f r) st = absurd (omega arith)
queue_called n l old new p e (idle t f r) st = absurd (omega arith)
queue_called n l old new p e (queued of into t f nx none) (running op ty a b into2 u k nx2) = absurd (omega arith)
queue_called n l old new p e (queued of into t f nx none) (queued of2 into2 u k nx2 none2) = absurd (omega arith)
queue_called n l old new p e (queued of into t f nx none) (done u k r) = absurd (omega arith)
queue_called n l old new p e (queued of into t f nx none) (idle u k r) = absurd (omega arith)
queue_called n l old new p e (queued of into t f nx none) (ready a u k nx2 d) =
    record {
      of = of;
      into = into;
      active = t;
      on_queue = e;
      next_is = nx;
      came =
          subst (λ (z : Action). Doable new p z) (same_Some a (Recv of into) (sym nx2 ∙ nx)) d;
    }

pub seen_some : {R : Type 0} (shown : R → Live) (l : ℕ) (o : Option R) (q : Live) → seen l (option_map shown o) ≡ Some q
    → (r : R) × (o ≡ Some r) × (listed l (shown r) ≡ q)
seen_some shown l None q e = absurd (none-some q e)
seen_some shown l (Some r) q e = (r, refl, same_Some (listed l (shown r)) q e)

module _ {R : Type 0} (shown : R → Live) (g : Setting) (a b : Slots R) (q : Postings) (m n : Instances) (t : Ticket) (x y : R)
    (to : ℕ) (from : Region) (o : Progress) (list : ℕ)
    (c : IsCore shown g a q m) (h : Advances shown a b n t x y (Send to from) o list) (k : KeepsContributions m n)
    (mails : mail n ≡ put_key (mail m) (key (shown x))
    (put_mail (mail m (key (shown x))) (shown x).member to (shown x).round (Some (read_of (shown x).buf from))))
    (buf : o.buf ≡ (shown x).buf) where
  abbrev before : Tables
  before = tables shown g a q m

  abbrev messages : Key → Mail
  messages = delivered before (shown x) to from

  abbrev after : Tables
  after = acting before t.slot (shown x) o messages (home b)

  mails_are : (λ (l : Key). mail n l) ≡ messages
  mails_are = λ z l. mails z l

  is_after : tables shown g b q n ≡ after
  is_after = acted shown g a b q m n t x y (Send to from) o list c h k messages mails_are

  actions : Acting before t.slot (shown x) (Send to from) o (home b)
  actions = acts shown g a b q m n t x y (Send to from) o list c h k

  both : (((j : ℕ) → Waking after (key (shown x)) to j → ⊥) → IsSound after × MayFinish g (machine before) (machine after))
      × ((j : ℕ) (later : ℕ → ℕ) → Waking after (key (shown x)) to j → later j ≡ 2 → Away after j later
      → IsSound (rehoming after later) × MayFinish g (machine before) (machine (rehoming after later)))
  both = send_keeps before t.slot (shown x) to from o (home b) c.sound actions buf (mine shown g a b q m n t x y (Send to from) o list c h k messages mails_are)

  still_sized : (j : ℕ) (r : Live) → put before.request t.slot (Some (advanced (shown x) o)) j ≡ Some r → r.members ≡ size g r.comm
  still_sized j r e = go (put_cases before.request t.slot (Some (advanced (shown x) o)) j (Some r) e)
    where
      go : ((j ≡ t.slot) × (Some (advanced (shown x) o) ≡ Some r)) ⊎ ((j ≢ t.slot) × (before.request j ≡ Some r)) → r.members ≡ size g r.comm
      go (inl z) =
          subst (λ (p : Live). p.members ≡ size g p.comm) (same_Some (advanced (shown x) o) r z.1) (sized shown g a b q m n t x y (Send to from) o list c h k)
      go (inr z) = c.sound.sound.base.sized j r z.1

  -- whom the tables call the arena calls
  calls : (j : ℕ) → Waking after (key (shown x)) to j → (r : R) × IsCalled shown b n (key (shown x)) to j r
  calls j w =
      let there : Waking (tables shown g b q n) (key (shown x)) to j = subst (λ (u : Tables). Waking u (key (shown x)) to j) (sym is_after) w in
      let fits : there.req.members ≡ size g there.req.comm = still_sized j there.req (ap (λ (u : Tables). u.request j) (sym is_after) ∙ there.is) in
      let s = seen_some shown (home b j) (record_in b j) there.req there.is in (
        s.0,
        record {
          seat = there.seat;
          here = s.1;
          called = subst (λ (p : Live). Called p.members (mail n (key p)) (home b j) p) (sym s.2)
              (subst (λ s. Called s (mail n (key there.req)) (home b j) there.req) (sym fits) there.called);
        },
      )

  pub unwoken : ((j : ℕ) (r : R) → IsCalled shown b n (key (shown x)) to j r → ⊥) → ActsOnce shown g a b q m n
  unwoken none =
      let s = both.0 (λ j w. let r = calls j w in none j r.0 r.1) in
      once shown g a b q m n t x y (Send to from) o list c h k messages mails_are s.0 s.1

  module _ (d : Slots R) (u : Ticket) (r : R) (w : Wakes shown b d n (key (shown x)) to u r) where
    awake : (shown r).active ≡ true
    awake = going (shown r).members 2 (mail n (key (shown r))) (shown r) (inl refl) w.ready

    waits_off : (l : ℕ) → l ≡ 5 + 3 * (shown r).comm → l ≢ 4 + 3 * (shown r).comm
    waits_off l e f = omega arith

    shown_there : seen (home b u.slot) (option_map shown (record_in b u.slot)) ≡ Some (shown r)
    shown_there = shown_here shown b u.slot r w.found.here awake (waits_off (home b u.slot) w.waits)

    in_after : after.request u.slot ≡ Some (shown r)
    in_after = ap (λ (z : Tables). z.request u.slot) (sym is_after) ∙ shown_there

    -- as it lay before its message came
    stood : (u.slot ≡ t.slot) ⊎ (u.slot ≡ t.slot → ⊥) → (old : Mail) × Stands (shown r).members old (home b u.slot) (shown r)
    stood (inl e) =
        let same : y ≡ r =
        same_Some y r (sym (record_here a b t.slot t.generation (weight_of a t.slot) list (Some y) h.puts) ∙ (ap (record_in b) (sym e) ∙ w.found.here)) in
        let sits : home b u.slot ≡ list = ap (home b) e ∙ home_here a b t.slot t.generation (weight_of a t.slot) list (Some y) h.puts in
        let members_are : (shown x).members ≡ (shown y).members = ap (λ (z : Live). z.members) (sym h.is) in (
          mail n (key (shown x)),
          subst (λ (z : R). Stands (shown z).members (mail n (key (shown x))) (home b u.slot) (shown z)) same
              (subst (λ l. Stands (shown y).members (mail n (key (shown x))) l (shown y)) (sym sits)
              (subst (λ s. Stands s (mail n (key (shown x))) list (shown y)) members_are h.stands)),
        )
    stood (inr e) =
        let was : record_in a u.slot ≡ Some r =
        sym (ap (λ (f : ℕ → Option R). f u.slot) h.puts.records ∙ put_other (record_in a) t.slot (Some y) u.slot e) ∙ w.found.here in
        let lay : home b u.slot ≡ home a u.slot = home_away a b t.slot t.generation (weight_of a t.slot) list (Some y) h.puts u.slot e in
        let is : before.request u.slot ≡ Some (shown r) = shown_here shown a u.slot r was awake (waits_off (home a u.slot) (sym lay ∙ w.waits)) in
        let fits : (shown r).members ≡ size g (shown r).comm = c.sound.sound.base.sized u.slot (shown r) is in (
          mail m (key (shown r)),
          subst (λ l. Stands (shown r).members (mail m (key (shown r))) l (shown r)) (sym lay)
              (subst (λ s. Stands s (mail m (key (shown r))) (home a u.slot) (shown r)) (sym fits) (c.sound.sound.stands u.slot (shown r) is)),
        )

    wakes : Waking after (key (shown x)) to u.slot
    wakes =
        let old = stood (cases_eq u.slot t.slot) in
        let called : Called (shown r).members (mail n (key (shown r))) (home b u.slot) (shown r) =
        queue_called (shown r).members (home b u.slot) old.0 (mail n (key (shown r))) (shown r) w.waits old.1 w.ready in
        record {
          req = shown r;
          seat = ap (λ (z : Tables). z.seats (key (shown x)) to) (sym is_after) ∙ w.seat;
          is = in_after;
          called = subst (λ (f : Key → Mail). Called (size g (shown r).comm) (f (key (shown r))) (home b u.slot) (shown r)) mails_are
              (subst (λ s. Called s (mail n (key (shown r))) (home b u.slot) (shown r)) (still_sized u.slot (shown r) in_after) called);
        }

    lies_ready : listed 2 (shown r) ≡ shown r
    lies_ready = listed_stands (shown r).members 2 (mail n (key (shown r))) (shown r) w.ready awake

    same_requests : ◌≡◌ {A = ℕ → Option Live} (λ j. seen (home d j) (option_map shown (record_in d j)))
        (λ j. seen (home b j) (option_map shown (record_in b j)))
    same_requests = shown_same shown g b d u.slot u.generation (weight_of b u.slot) 2 (Some r) w.puts (shown_there ∙ ap Some (sym lies_ready))

    is_later : tables shown g d q n ≡ rehoming after (home d)
    is_later = λ z. record {
      setting = g;
      generation =
          ((w.puts.generations ∙ put_self (generation_of b) u.slot u.generation w.found.generation_is)
          ∙ generations shown g a b q m n t x y (Send to from) o list c h k) z;
      request = (same_requests ∙ ap (λ (z : Tables). z.request) is_after) z;
      home = home d;
      posts = posts q;
      signed = signed q;
      given = λ l. k.given z l;
      seats = λ l. k.seats z l;
      mail = mails_are z;
    }

    woken : ActsOnce shown g a d q m n
    woken =
        let s = both.1 u.slot (home d) wakes (home_here b d u.slot u.generation (weight_of b u.slot) 2 (Some r) w.puts)
        (home_away b d u.slot u.generation (weight_of b u.slot) 2 (Some r) w.puts) in
        let first = h.puts in
        record {
          core = record {
            set = set_of shown g b d u.slot u.generation (weight_of b u.slot) 2 (Some r) w.puts q q
                (set_of shown g a b t.slot t.generation (weight_of a t.slot) list (Some y) first q q c.set refl refl) refl refl;
            sound = subst (λ (z : Tables). IsSound z) (sym is_later) s.0;
            sizes = λ l z e. c.sizes l z (ap (λ (f : Key → Option ℕ). f l) (sym k.members) ∙ e);
            weights = weights_of shown g b d u.slot u.generation (weight_of b u.slot) 2 (Some r) w.puts heavy_before heavy_now;
          };
          steps = subst (λ (z : Tables). MayFinish g (machine before) (machine z)) (sym is_later) s.1;
          lowers = ap (λ (z : Tables). suc (actions_left z)) is_later ∙ acts_lower before t.slot (shown x) (Send to from) o messages (home b) c.sound actions;
        }
      where
        heavy_before : weight_of b ≡ (λ j. weight_by (seen (home b j) (option_map shown (record_in b j))))
        heavy_before =
            weights_of shown g a b t.slot t.generation (weight_of a t.slot) list (Some y) h.puts c.weights
            (weighs_on shown g a b q m n t x y (Send to from) o list c h k)

        heavy_now : weight_of b u.slot ≡ weight_by (seen 2 (option_map shown (Some r)))
        heavy_now = ap (λ (f : ℕ → ℕ). f u.slot) heavy_before ∙ (ap weight_by shown_there ∙ ap weight (sym lies_ready))

-- ---- a Combine that goes out or comes back

pub move_core : {R : Type 0} → MoveCore R
move_core {R} shown g a b q m t x list c h = (core, ap machine is_moved ∙ same.1, ap actions_left is_moved)
  where
    v : Tables
    v = tables shown g a q m

    here : v.request t.slot ≡ Some (shown x)
    here = shown_here shown a t.slot x h.found.here h.active (going_on (home a t.slot) (shown x).comm h.from)

    sits : home b t.slot ≡ list
    sits = home_here a b t.slot t.generation (weight_of a t.slot) list (Some x) h.puts

    combines : next (size g (shown x).comm) (shown x) ≡ Some (Combine h.op h.ty h.left h.right h.into)
    combines = subst (λ s. next s (shown x) ≡ Some (Combine h.op h.ty h.left h.right h.into)) (c.sound.sound.base.sized t.slot (shown x) here) h.next_is

    lies : (list ≡ 2) ⊎ (list ≡ 3) → Stands (size g (shown x).comm) (v.mail (key (shown x))) list (shown x)
    lies (inl e) = ready (Combine h.op h.ty h.left h.right h.into) h.active e combines tt
    lies (inr e) = running h.op h.ty h.left h.right h.into h.active e combines

    off : (l : ℕ) → (l ≡ 2) ⊎ (l ≡ 3) → l ≢ 6 + 3 * (shown x).comm
    off l (inl e) z = omega arith
    off l (inr e) z = omega arith

    same : IsSound (rehoming v (home b)) × (machine (rehoming v (home b)) ≡ machine v)
    same = rehome_keeps v t.slot (shown x) (home b) c.sound here (off (home a t.slot) h.from)
        (subst (λ l. l ≢ 6 + 3 * (shown x).comm) (sym sits) (off list h.onto))
        (home_away a b t.slot t.generation (weight_of a t.slot) list (Some x) h.puts)
        (subst (λ l. Stands (size g (shown x).comm) (v.mail (key (shown x))) l (shown x)) (sym sits) (lies h.onto))

    lies_as : listed list (shown x) ≡ shown x
    lies_as = listed_active list (shown x) (going_on list (shown x).comm h.onto) h.active

    is_moved : tables shown g b q m ≡ rehoming v (home b)
    is_moved = λ z. record {
      setting = g;
      generation = (h.puts.generations ∙ put_self (generation_of a) t.slot t.generation h.found.generation_is) z;
      request = shown_same shown g a b t.slot t.generation (weight_of a t.slot) list (Some x) h.puts (here ∙ ap Some (sym lies_as)) z;
      home = home b;
      posts = posts q;
      signed = signed q;
      given = v.given;
      seats = v.seats;
      mail = v.mail;
    }

    core : IsCore shown g b q m
    core = core_of shown g a b t.slot t.generation (weight_of a t.slot) list (Some x) h.puts q q m m c refl refl c.sizes
        (weighs shown g a q m c t.slot (shown x) here ∙ ap weight (sym lies_as)) (subst (λ (u : Tables). IsSound u) (sym is_moved) same.0)
