-- A Send whose message is delivered before its sender goes on.
use Rattle.std.proofs.Common.{◌≡◌, ℕ, suc, ◌+◌, ◌*◌, ◌≢◌, ◌⊎◌, inl, inr, true, Option, Some, refl, sym, ap, subst, ◌∙◌, arith}
use Rattle.std.specs.Prelude.{option_map}
use Rattle.std.proofs.lemmas.Bool.{cases_eq, false≢true}
use Rattle.std.proofs.lemmas.Option.{same_Some}
use Rattle.coll_kinds.specs.declared.ticket.Ticket.{Ticket}
use Rattle.coll_kinds.specs.Puts.{put}
use Rattle.coll_kinds.proofs.Puts.{put_same, put_other}
use Rattle.coll_sched.specs.declared.action.Action.TheVariants.{Send, Recv}
use Rattle.coll_sched.specs.declared.region.Region.{Region}
use Rattle.coll_sched.specs.Common.{is_recv, Over, read_of, Progress, put_mail}
use Rattle.coll_plans.specs.Plans.{family}
use Rattle.coll_arena.specs.Slots.{Slots, generation_of, home, record_in, weight_of}
use Rattle.coll_queues.specs.Postings.{Postings, posts, signed}
use Rattle.coll_machine.specs.declared.key.Key.{Key}
use Rattle.coll_machine.specs.Common.{put_key, Setting, size, MayFinish}
use Rattle.coll_match.specs.Instances.{mail}
use Rattle.coll_refinement.specs.Requests.{Live, key, advanced}
use Rattle.coll_refinement.specs.Tables.{Mail, Tables, machine}
use Rattle.coll_refinement.specs.Sound.{next, Stands, Called, IsSound}
use Rattle.coll_refinement.specs.Changes.{acting, rehoming, delivered}
use Rattle.coll_refinement.proofs.tables.CallTests.{Acting, Waking}
use Rattle.coll_refinement.specs.Remaining.{actions_left}
use Rattle.coll_refinement.specs.Shown.{Instances, seen, listed, tables, weight, weight_by}
use Rattle.coll_refinement.specs.Cores.{IsCore}
use Rattle.coll_refinement.proofs.engine.Changes.{Advances, KeepsContributions}
use Rattle.coll_refinement.specs.Engines.{IsCalled, Wakes}
use Rattle.coll_refinement.proofs.engine.Statements.{ActsOnce, SendCore}
use Rattle.coll_refinement.proofs.tables.LiveRequests.{put_self}
use Rattle.coll_refinement.proofs.tables.Actions.{going, not_both, send_keeps}
use Rattle.coll_refinement.proofs.tables.ActionsLeft.{acts_lower}
use Rattle.coll_refinement.proofs.engine.Slots.{home_away, home_here, listed_stands, record_here, set_of, shown_requests, shown_same, weights_of}
use Rattle.coll_refinement.proofs.engine.Actions.{going_on, queue_called, shown_here, unwoken, weighs}

-- ---- nobody is called

module _ {R : Type 0} (shown : R → Live) (g : Setting) (a c : Slots R) (q : Postings) (m n : Instances) (t : Ticket) (x y : R)
    (to : ℕ) (from : Region) (o : Progress) (list : ℕ) (k : Key)
    (h : Advances shown a c n t x y (Send to from) o list) (none : (j : ℕ) (r : R) → IsCalled shown a n k to j r → ⊥) where
  -- nor is anybody when the sender has gone on
  still_none : (j : ℕ) (r : R) → IsCalled shown c n k to j r → ⊥
  still_none j r w = go (cases_eq j t.slot)
    where
      awake : (shown y).active ≡ true
      awake = ap (λ (z : Live). z.active) h.is ∙ h.active

      lies_as : listed list (shown y) ≡ shown y
      lies_as = listed_stands (shown x).members list (mail n (key (shown x))) (shown y) h.stands awake

      sits : home c t.slot ≡ list
      sits = home_here a c t.slot t.generation (weight_of a t.slot) list (Some y) h.puts

      go : (j ≡ t.slot) ⊎ (j ≡ t.slot → ⊥) → ⊥
      go (inl e) =
          let same : r ≡ y =
          same_Some r y (sym w.here ∙ (ap (record_in c) e ∙ record_here a c t.slot t.generation (weight_of a t.slot) list (Some y) h.puts)) in
          let lay : home c j ≡ list = ap (home c) e ∙ sits in
          let called : Called (shown y).members (mail n (key (shown y))) list (listed list (shown y)) =
          subst (λ (z : R). Called (shown z).members (mail n (key (shown z))) list (listed list (shown z))) same
          (subst (λ l. Called (shown r).members (mail n (key (shown r))) l (listed l (shown r))) lay w.called) in
          let there : Called (shown x).members (mail n (key (shown x))) list (shown y) =
          subst (λ (z : Live). Called z.members (mail n (key z)) list (shown y)) h.is
          (subst (λ (z : Live). Called (shown y).members (mail n (key (shown y))) list z) lies_as called) in
          not_both (shown x).members list (mail n (key (shown x))) (shown y) h.stands there
      go (inr d) =
          let lay : home c j ≡ home a j = home_away a c t.slot t.generation (weight_of a t.slot) list (Some y) h.puts j d in
          none j r (record {
            seat = w.seat;
            here = sym (ap (λ (f : ℕ → Option R). f j) h.puts.records ∙ put_other (record_in a) t.slot (Some y) j d) ∙ w.here;
            called = subst (λ l. Called (shown r).members (mail n (key (shown r))) l (listed l (shown r))) lay w.called;
          })

-- ---- one request is woken

module _ {R : Type 0} (shown : R → Live) (g : Setting) (a b c : Slots R) (q : Postings) (m n : Instances) (t u : Ticket)
    (x y r : R) (to : ℕ) (from : Region) (o : Progress) (list : ℕ)
    (s : IsCore shown g a q m) (w : Wakes shown a b n (key (shown x)) to u r)
    (h : Advances shown b c n t x y (Send to from) o list) (k : KeepsContributions m n)
    (mails : mail n ≡ put_key (mail m) (key (shown x))
    (put_mail (mail m (key (shown x))) (shown x).member to (shown x).round (Some (read_of (shown x).buf from))))
    (buf : o.buf ≡ (shown x).buf) where
  abbrev v : Tables
  v = tables shown g a q m

  abbrev p : Live
  p = shown x

  abbrev messages : Key → Mail
  messages = delivered v p to from

  mails_are : (λ (l : Key). mail n l) ≡ messages
  mails_are = λ z l. mails z l

  -- the woken request as it lay
  awake : (shown r).active ≡ true
  awake = going (shown r).members 2 (mail n (key (shown r))) (shown r) (inl refl) w.ready

  waited : v.request u.slot ≡ Some (shown r)
  waited = shown_here shown a u.slot r w.found.here awake (subst (λ l. l ≢ 4 + 3 * (shown r).comm) (sym w.waits) (λ z. omega arith))

  fits : (shown r).members ≡ size g (shown r).comm
  fits = s.sound.sound.base.sized u.slot (shown r) waited

  stood : Stands (shown r).members (mail m (key (shown r))) (home a u.slot) (shown r)
  stood = subst (λ z. Stands z (mail m (key (shown r))) (home a u.slot) (shown r)) (sym fits) (s.sound.sound.stands u.slot (shown r) waited)

  called : Called (shown r).members (mail n (key (shown r))) (home a u.slot) (shown r)
  called = queue_called (shown r).members (home a u.slot) (mail m (key (shown r))) (mail n (key (shown r))) (shown r) w.waits stood w.ready

  -- it isn't the sender
  apart : t.slot ≢ u.slot
  apart e =
      let same : r ≡ x =
      same_Some r x (sym (record_here a b u.slot u.generation (weight_of a u.slot) 2 (Some r) w.puts) ∙ (ap (record_in b) (sym e) ∙ h.found.here)) in
      let recv : next (shown x).members (shown x) ≡ Some (Recv called.of called.into) =
      subst (λ (z : R). next (shown z).members (shown z) ≡ Some (Recv called.of called.into)) same called.next_is in
      false≢true (ap is_recv (same_Some (Send to from) (Recv called.of called.into) (sym h.next_is ∙ recv)))

  -- the sender as it lay
  record_was : record_in a t.slot ≡ Some x
  record_was = sym (ap (λ (f : ℕ → Option R). f t.slot) w.puts.records ∙ put_other (record_in a) u.slot (Some r) t.slot apart) ∙ h.found.here

  home_was : home b t.slot ≡ home a t.slot
  home_was = home_away a b u.slot u.generation (weight_of a u.slot) 2 (Some r) w.puts t.slot apart

  lay : (home a t.slot ≡ 2) ⊎ (home a t.slot ≡ 3)
  lay = subst (λ l. (l ≡ 2) ⊎ (l ≡ 3)) home_was h.from

  here : v.request t.slot ≡ Some p
  here = shown_here shown a t.slot x record_was h.active (going_on (home a t.slot) p.comm lay)

  sized : p.members ≡ size g p.comm
  sized = s.sound.sound.base.sized t.slot p here

  -- the homes as if the sender advanced on first
  abbrev homes : ℕ → ℕ
  homes = put (home a) t.slot list

  acts : Acting v t.slot p (Send to from) o homes
  acts = record {
    here = here;
    list = lay;
    next_is = subst (λ z. next z p ≡ Some (Send to from)) sized h.next_is;
    over = subst (λ z. Over (family p.sig z p.member) p.round (suc p.index) o.round o.index) sized h.over;
    away = λ j d. put_other (home a) t.slot list j d;
  }

  mine : Stands (size g p.comm) (messages (key p)) (homes t.slot) (advanced p o)
  mine = subst (λ z. Stands z (messages (key p)) (homes t.slot) (advanced p o)) sized
      (subst (λ (f : Key → Mail). Stands p.members (f (key p)) (homes t.slot) (advanced p o)) mails_are
      (subst (λ l. Stands p.members (mail n (key p)) l (advanced p o)) (sym (put_same (home a) t.slot list))
      (subst (λ (z : Live). Stands p.members (mail n (key p)) list z) h.is h.stands)))

  abbrev after : Tables
  after = acting v t.slot p o messages homes

  other : u.slot ≢ t.slot
  other e = apart (sym e)

  wakes : Waking after (key p) to u.slot
  wakes = record {
    req = shown r;
    seat = sym (ap (λ (f : Key → ℕ → Option ℕ). f (key p) to) k.seats) ∙ w.seat;
    is = put_other v.request t.slot (Some (advanced p o)) u.slot other ∙ waited;
    called = subst (λ (f : Key → Mail). Called (size g (shown r).comm) (f (key (shown r))) (homes u.slot) (shown r)) mails_are
        (subst (λ z. Called z (mail n (key (shown r))) (homes u.slot) (shown r)) fits
        (subst (λ l. Called (shown r).members (mail n (key (shown r))) l (shown r)) (sym (put_other (home a) t.slot list u.slot other)) called));
  }

  lies_ready : listed 2 (shown r) ≡ shown r
  lies_ready = listed_stands (shown r).members 2 (mail n (key (shown r))) (shown r) w.ready awake

  lies_on : listed list (shown y) ≡ advanced p o
  lies_on = listed_stands p.members list (mail n (key p)) (shown y) h.stands (ap (λ (z : Live). z.active) h.is ∙ h.active) ∙ h.is

  same_requests : ◌≡◌ {A = ℕ → Option Live} (λ j. seen (home b j) (option_map shown (record_in b j))) (λ j. seen (home a j) (option_map shown (record_in a j)))
  same_requests = shown_same shown g a b u.slot u.generation (weight_of a u.slot) 2 (Some r) w.puts (waited ∙ ap Some (sym lies_ready))

  is_later : tables shown g c q n ≡ rehoming after (home c)
  is_later = λ z. record {
    setting = g;
    generation =
        ((h.puts.generations ∙ put_self (generation_of b) t.slot t.generation h.found.generation_is)
        ∙ (w.puts.generations ∙ put_self (generation_of a) u.slot u.generation w.found.generation_is)) z;
    request = (shown_requests shown g b c t.slot t.generation (weight_of b t.slot) list (Some y) h.puts
        ∙ (λ z. put (same_requests z) t.slot (Some (lies_on z)))) z;
    home = home c;
    posts = posts q;
    signed = signed q;
    given = λ l. k.given z l;
    seats = λ l. k.seats z l;
    mail = mails_are z;
  }

  later_ready : home c u.slot ≡ 2
  later_ready =
      home_away b c t.slot t.generation (weight_of b t.slot) list (Some y) h.puts u.slot other
      ∙ home_here a b u.slot u.generation (weight_of a u.slot) 2 (Some r) w.puts

  later_away : (j : ℕ) → j ≢ u.slot → home c j ≡ homes j
  later_away j d = go (cases_eq j t.slot)
    where
      go : (j ≡ t.slot) ⊎ (j ≡ t.slot → ⊥) → home c j ≡ homes j
      go (inl e) =
          ap (home c) e ∙ (home_here b c t.slot t.generation (weight_of b t.slot) list (Some y) h.puts
          ∙ (sym (put_same (home a) t.slot list) ∙ ap homes (sym e)))
      go (inr f) =
          home_away b c t.slot t.generation (weight_of b t.slot) list (Some y) h.puts j f
          ∙ (home_away a b u.slot u.generation (weight_of a u.slot) 2 (Some r) w.puts j d ∙ sym (put_other (home a) t.slot list j f))

  heavy_woken : weight_of a u.slot ≡ weight_by (seen 2 (option_map shown (Some r)))
  heavy_woken = weighs shown g a q m s u.slot (shown r) waited ∙ ap weight (sym lies_ready)

  heavy_between : weight_of b ≡ (λ j. weight_by (seen (home b j) (option_map shown (record_in b j))))
  heavy_between = weights_of shown g a b u.slot u.generation (weight_of a u.slot) 2 (Some r) w.puts s.weights heavy_woken

  heavy_on : weight_of b t.slot ≡ weight_by (seen list (option_map shown (Some y)))
  heavy_on = ap (λ (f : ℕ → ℕ). f t.slot) heavy_between
      ∙ (ap (λ (f : ℕ → Option Live). weight_by (f t.slot)) same_requests ∙ (ap weight_by here ∙ ap weight (sym lies_on)))

  woken_first : ActsOnce shown g a c q m n
  woken_first =
      let both = (send_keeps v t.slot p to from o homes s.sound acts buf mine).1 u.slot (home c) wakes later_ready later_away in
      record {
        core = record {
          set = set_of shown g b c t.slot t.generation (weight_of b t.slot) list (Some y) h.puts q q
              (set_of shown g a b u.slot u.generation (weight_of a u.slot) 2 (Some r) w.puts q q s.set refl refl) refl refl;
          sound = subst (λ (z : Tables). IsSound z) (sym is_later) both.0;
          sizes = λ l z e. s.sizes l z (ap (λ (f : Key → Option ℕ). f l) (sym k.members) ∙ e);
          weights = weights_of shown g b c t.slot t.generation (weight_of b t.slot) list (Some y) h.puts heavy_between heavy_on;
        };
        steps = subst (λ (z : Tables). MayFinish g (machine v) (machine z)) (sym is_later) both.1;
        lowers = ap (λ (z : Tables). suc (actions_left z)) is_later ∙ acts_lower v t.slot p (Send to from) o messages homes s.sound acts;
      }

pub send_core : {R : Type 0} → SendCore R
send_core {R} shown g a b c q m n t x y to from o list s (inl none) h k mails buf =
    let goes : Advances shown a c n t x y (Send to from) o list = subst (λ (z : Slots R). Advances shown z c n t x y (Send to from) o list) none.1 h in
    unwoken shown g a c q m n t x y to from o list s goes k mails buf (still_none shown g a c q m n t x y to from o list (key (shown x)) goes none.0)
send_core {R} shown g a b c q m n t x y to from o list s (inr w) h k mails buf =
    woken_first shown g a b c q m n t w.0 x y w.1 to from o list s w.2 h k mails buf
