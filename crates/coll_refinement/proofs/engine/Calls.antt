-- Initialisations, posts, starts and frees, in the words of the engine's arena, posting lists and instances.
use Rattle.std.proofs.Common.{◌≡◌, ℕ, suc, ◌+◌, ◌*◌, ◌<◌, ◌≤◌, ◌⊎◌, inl, inr, true, false, cond, List, [], ◌∷◌, ◌++◌, length, slice_get, unwrap_or}
use Rattle.std.proofs.Common.{Option, Some, None, is_some, refl, sym, ap, subst, ◌∙◌, arith, eq-eqb, ne_eqb, add-one}
use Rattle.std.specs.Prelude.{option_map, nat_lt}
use Rattle.std.proofs.lemmas.Bool.{cases_eq, false≢true}
use Rattle.coll_kinds.specs.declared.kind.Mode.TheVariants.{Once, Persistent}
use Rattle.coll_kinds.specs.declared.ticket.Ticket.{Ticket}
use Rattle.coll_kinds.specs.Common.{member_of, given_len, lent, put}
use Rattle.coll_kinds.proofs.Puts.{put_same, put_put}
use Rattle.coll_sched.specs.Common.{laid_in, Over, Progress}
use Rattle.coll_plans.specs.Plans.{family}
use Rattle.coll_arena.specs.Slots.{Slots, count, generation_of, home, record_in}
use Rattle.coll_arena.specs.Sound as arena
use Rattle.coll_arena.proofs.Sounds.{free_first}
use Rattle.coll_queues.specs.Postings.{Postings, number_of as number_in, place_of, posts, signed}
use Rattle.coll_machine.specs.declared.key.Key.{Key}
use Rattle.coll_machine.specs.Common.{put_key, put2, Setting, group, size, Planned, Post, Init, Start, Free, Ticketed, Nothing, refusal, MachineStep, StepsTo}
use Rattle.coll_match.specs.Instances.{given, mail, seats}
use Rattle.coll_refinement.specs.Requests.{Live, at, begun}
use Rattle.coll_refinement.specs.Tables.{Tables, machine, state}
use Rattle.coll_refinement.specs.Sound.{Stands, Lies, IsSound}
use Rattle.coll_refinement.specs.Changes.{posting, joining, freeing, newcomer}
use Rattle.coll_refinement.proofs.tables.CallTests.{Starting, Joining, New, new_ticket, ticket}
use Rattle.coll_refinement.specs.Shown.{Instances, seen, listed, tables, weight}
use Rattle.coll_refinement.specs.Cores.{IsCore}
use Rattle.coll_refinement.specs.OneSlots.{OneSlot}
use Rattle.coll_refinement.specs.Engines.{IsFound, given_up}
use Rattle.coll_refinement.proofs.engine.Changes.{IsFree, IsOffered}
use Rattle.coll_refinement.proofs.engine.Statements.{InitCore, PostCore, StartCore, FreeCore}
use Rattle.coll_refinement.proofs.tables.LiveRequests.{put_self}
use Rattle.coll_refinement.proofs.tables.WholeCalls.{init_keeps, post_keeps, start_keeps, free_keeps}
use Rattle.coll_refinement.proofs.tables.Accepted.{Passed, inited_passed, posted_passed, accepted_init, accepted_post, accepted_start}
use Rattle.coll_refinement.proofs.engine.Slots.{core_of, home_away, home_here, listed_idle, listed_stands, shown_requests}

-- ---- the first slot of Free

pub none_of : {X : Type 0} (o : Option X) → is_some o ≡ false → o ≡ None
none_of None e = refl
none_of (Some x) e = absurd (false≢true (sym e))

module _ {R : Type 0} (a : Slots R) (s : arena.IsSound a) (t : Ticket) (f : IsFree a t) where
  pub free_low : t.slot < count a
  free_low = (free_first a s t.slot f.first).0

  free_home : home a t.slot ≡ 0
  free_home = (free_first a s t.slot f.first).1

  pub free_spare : record_in a t.slot ≡ None
  free_spare = none_of (record_in a t.slot) ((s.slots t.slot free_low).recorded ∙ ap (λ l. nat_lt 1 l) free_home)

  pub free_unworn : generation_of a t.slot < a.wear
  free_unworn = (s.slots t.slot free_low).free free_home

  pub free_next : t.generation ≡ suc (generation_of a t.slot)
  free_next = f.next ∙ add-one (generation_of a t.slot)

-- ---- where a slot goes that was given up

pub lies_given_up : (wear generation : ℕ) → generation ≤ wear → Lies wear generation (given_up wear generation)
lies_given_up wear generation low = go (cases_eq generation wear)
  where
    go : (generation ≡ wear) ⊎ (generation ≡ wear → ⊥) → Lies wear generation (given_up wear generation)
    go (inl e) = inr (ap (λ b. cond b 1 0) (eq-eqb generation wear e), e)
    go (inr d) = inl (ap (λ b. cond b 1 0) (ne_eqb generation wear d), omega (arith, low, d))

-- ---- posting lists

module _ {R : Type 0} (shown : R → Live) (g : Setting) (a : Slots R) (q : Postings) (m : Instances) (c : IsCore shown g a q m) where
  pub few : (comm : ℕ) → size g comm ≤ 64
  few comm = (c.set.groups comm).few

  module _ (comm rank : ℕ) (plan : Planned) (is : member_of rank (group g comm) ≡ Some plan.member) where
    pub number_is : number_in q comm rank ≡ plan.member
    number_is = ap (λ (gs : List (List ℕ)). unwrap_or (member_of rank (unwrap_or (slice_get gs comm) [])) 0) (sym c.set.groups_is)
        ∙ ap (λ (o : Option ℕ). unwrap_or o 0) is

    pub place_is : place_of q comm rank ≡ length (posts q comm plan.member)
    place_is = ap (λ n. length (posts q comm n)) number_is

    module _ (r : Postings) (o : IsOffered q r comm rank plan) where
      pub posts_are : posts r ≡ put2 (posts q) comm plan.member (posts q comm plan.member ++ plan.sig ∷ [])
      posts_are = o.posted ∙ (λ z. put2 (posts q) comm (number_is z) (posts q comm (number_is z) ++ plan.sig ∷ []))

      pub signed_are : signed r ≡ put2 (signed q) comm (length (posts q comm plan.member)) (Some plan.sig)
      signed_are = o.signs ∙ (λ z. put2 (signed q) comm (place_is z) (Some plan.sig))

pub init_core : {R : Type 0} → InitCore R
init_core {R} shown g a b q r m t rank comm plan y c s h = (core, step)
  where
    v : Tables
    v = tables shown g a q m

    nq : Live
    nq = newcomer v comm rank plan

    p : Passed v comm rank Persistent plan
    p = inited_passed v comm rank plan h.accepted

    new : New v t.slot nq rank Persistent plan
    new = accepted_init v t.slot comm rank plan c.sound (few shown g a q m c comm)
        (ap (λ (o : Option R). seen (home a t.slot) (option_map shown o)) (free_spare a s t h.free))
        (subst (λ n. t.slot < n) (sym c.set.slots_is) (free_low a s t h.free))
        (subst (λ n. generation_of a t.slot < n) (sym c.set.wear_is) (free_unworn a s t h.free)) h.accepted

    lies_as : listed (4 + 3 * comm) (shown y) ≡ nq
    lies_as = ap (listed (4 + 3 * comm)) h.is
        ∙ (λ z. record {
          rank = rank;
          comm = comm;
          members = plan.n;
          member = plan.member;
          place =
              place_is shown g a q m c comm rank plan p.member_is z;
          sig = plan.sig;
          starts = 0;
          active = listed_idle comm z;
          round = 0;
          index = 0;
          buf = [];
        })

    both : IsSound (posting v t.slot nq (home b))
        × MachineStep g (machine v) (Init rank comm plan) (Ticketed (new_ticket v t.slot)) (machine (posting v t.slot nq (home b)))
    both = init_keeps v t.slot nq rank plan (home b) c.sound new h.accepted
        (home_away a b t.slot t.generation 0 (4 + 3 * comm) (Some y) h.puts) (home_here a b t.slot t.generation 0 (4 + 3 * comm) (Some y) h.puts)

    is_after : tables shown g b r m ≡ posting v t.slot nq (home b)
    is_after = λ z. record {
      setting = g;
      generation = (h.puts.generations ∙ ap (λ n. put (generation_of a) t.slot n) (free_next a s t h.free)) z;
      request = (shown_requests shown g a b t.slot t.generation 0 (4 + 3 * comm) (Some y) h.puts ∙ ap (λ (x : Live). put v.request t.slot (Some x)) lies_as) z;
      home = home b;
      posts = posts_are shown g a q m c comm rank plan p.member_is r h.offered z;
      signed = signed_are shown g a q m c comm rank plan p.member_is r h.offered z;
      given = v.given;
      seats = v.seats;
      mail = v.mail;
    }

    core : IsCore shown g b r m
    core = core_of shown g a b t.slot t.generation 0 (4 + 3 * comm) (Some y) h.puts q r m m c h.offered.groups h.offered.places
        c.sizes (sym (ap weight lies_as)) (subst (λ (u : Tables). IsSound u) (sym is_after) both.0)

    named_so : new_ticket v t.slot ≡ t
    named_so = λ z. record { slot = t.slot; generation = sym (free_next a s t h.free) z }

    step : MachineStep g (machine v) (Init rank comm plan) (Ticketed t) (machine (tables shown g b r m))
    step = subst (λ (u : Tables). MachineStep g (machine v) (Init rank comm plan) (Ticketed t) (machine u)) (sym is_after)
        (subst (λ (x : Ticket). MachineStep g (machine v) (Init rank comm plan) (Ticketed x) (machine (posting v t.slot nq (home b)))) named_so both.1)

pub post_core : {R : Type 0} → PostCore R
post_core {R} shown g a b q r m n t rank comm plan bytes y o list c s h = (core, step)
  where
    v : Tables
    v = tables shown g a q m

    nq : Live
    nq = newcomer v comm rank plan

    p : Passed v comm rank Once plan
    p = (posted_passed v comm rank plan bytes h.accepted).0

    new : New v t.slot nq rank Once plan × (length bytes ≡ given_len plan.sig (size g comm) plan.member)
    new = accepted_post v t.slot comm rank plan bytes c.sound (few shown g a q m c comm)
        (ap (λ (o : Option R). seen (home a t.slot) (option_map shown o)) (free_spare a s t h.free))
        (subst (λ n. t.slot < n) (sym c.set.slots_is) (free_low a s t h.free))
        (subst (λ n. generation_of a t.slot < n) (sym c.set.wear_is) (free_unworn a s t h.free)) h.accepted

    w : ℕ
    w = lent plan.sig plan.n plan.member

    place : place_of q comm rank ≡ length (posts q comm plan.member)
    place = place_is shown g a q m c comm rank plan p.member_is

    key_is : ◌≡◌ {A = Key} (record { comm = comm; place = place_of q comm rank; start = 0 }) (at nq 0)
    key_is = λ z. record { comm = comm; place = place z; start = 0 }

    begins : shown y ≡ begun nq o
    begins = h.is ∙ (λ z. record {
      rank = rank;
      comm = comm;
      members = plan.n;
      member = plan.member;
      place = place z;
      sig =
          plan.sig;
      starts = 1;
      active = true;
      round = o.round;
      index = o.index;
      buf = o.buf;
    })

    lies_as : listed list (shown y) ≡ begun nq o
    lies_as = listed_stands plan.n list (mail m (record { comm = comm; place = place_of q comm rank; start = 0 })) (shown y)
        h.stands (ap (λ (x : Live). x.active) h.is) ∙ begins

    sits : home b t.slot ≡ list
    sits = home_here a b t.slot t.generation w list (Some y) h.puts

    from : Progress
    from = record { round = 0; index = 0; buf = laid_in (family plan.sig (size g comm) plan.member) bytes }

    joins : Joining (posting v t.slot nq (home b)) t.slot nq bytes from
    joins = record { here = put_same v.request t.slot (Some nq); inactive = refl; long = new.1; are = h.are; start = refl }

    comes : Starting (posting v t.slot nq (home b)) t.slot nq bytes o (home b)
    comes = record {
      from = from;
      joining = joins;
      buf = h.buf ∙ ap (λ s. laid_in (family plan.sig s plan.member) bytes) p.n_is;
      over = subst (λ s. Over (family plan.sig s plan.member) 0 0 o.round o.index) p.n_is h.over;
      away = λ j d. refl;
      stands = subst (λ s. Stands s (mail m (at nq 0)) (home b t.slot) (begun nq o)) p.n_is
          (subst (λ (k : Key). Stands plan.n (mail m k) (home b t.slot) (begun nq o)) key_is
          (subst (λ l. Stands plan.n (mail m (record { comm = comm; place = place_of q comm rank; start = 0 })) l (begun nq o)) (sym sits)
          (subst (λ (x : Live). Stands plan.n (mail m (record { comm = comm; place = place_of q comm rank; start = 0 })) list x) begins h.stands)));
    }

    after : Tables
    after = joining (posting v t.slot nq (home b)) t.slot nq bytes o (home b)

    both : IsSound after × StepsTo g (machine v) (Post rank comm plan bytes) (Ticketed (new_ticket v t.slot)) (machine after)
    both = post_keeps v t.slot nq rank plan bytes o (home b) c.sound new.0 h.accepted (home_away a b t.slot t.generation w list (Some y) h.puts) comes

    is_after : tables shown g b r n ≡ after
    is_after = λ z. record {
      setting = g;
      generation = (h.puts.generations ∙ ap (λ n. put (generation_of a) t.slot n) (free_next a s t h.free)) z;
      request = (shown_requests shown g a b t.slot t.generation w list (Some y) h.puts
          ∙ (ap (λ (x : Live). put v.request t.slot (Some x)) lies_as ∙ sym (put_put v.request t.slot (Some nq) (Some (begun nq o))))) z;
      home = home b;
      posts = posts_are shown g a q m c comm rank plan p.member_is r h.offered z;
      signed = signed_are shown g a q m c comm rank plan p.member_is r h.offered z;
      given = λ l. (ap (λ (f : Key → ℕ → Option (List ℕ)). f l) h.joined.given
          ∙ ap (λ (k : Key). put_key (given m) k (put (given m k) plan.member (Some bytes)) l) key_is) z;
      seats = λ l. (ap (λ (f : Key → ℕ → Option ℕ). f l) h.joined.seats
          ∙ ap (λ (k : Key). put_key (seats m) k (put (seats m k) plan.member (Some t.slot)) l) key_is) z;
      mail = λ l. h.joined.mail z l;
    }

    core : IsCore shown g b r n
    core = core_of shown g a b t.slot t.generation w list (Some y) h.puts q r m n c h.offered.groups h.offered.places
        (λ l z e. c.sizes l z (ap (λ (f : Key → Option ℕ). f l) (sym h.joined.members) ∙ e)) (sym (ap weight lies_as))
        (subst (λ (u : Tables). IsSound u) (sym is_after) both.0)

    named_so : new_ticket v t.slot ≡ t
    named_so = λ z. record { slot = t.slot; generation = sym (free_next a s t h.free) z }

    step : StepsTo g (machine v) (Post rank comm plan bytes) (Ticketed t) (machine (tables shown g b r n))
    step = subst (λ (u : Tables). StepsTo g (machine v) (Post rank comm plan bytes) (Ticketed t) (machine u)) (sym is_after)
        (subst (λ (x : Ticket). StepsTo g (machine v) (Post rank comm plan bytes) (Ticketed x) (machine after)) named_so both.1)

-- ---- of the ticket's request

module _ {R : Type 0} (shown : R → Live) (g : Setting) (a : Slots R) (q : Postings) (m : Instances) (t : Ticket) (x : R) (f : IsFound a t x) where
  -- as the tables show it
  abbrev seen_as : Live
  seen_as = listed (home a t.slot) (shown x)

  pub found_here : (tables shown g a q m).request t.slot ≡ Some seen_as
  found_here = ap (λ (o : Option R). seen (home a t.slot) (option_map shown o)) f.here

  pub ticket_is : ticket (tables shown g a q m) t.slot ≡ t
  ticket_is = λ z. record { slot = t.slot; generation = f.generation_is z }

  pub same_generation : (b : Slots R) (w l : ℕ) (o : Option R) → OneSlot a b t.slot t.generation w o l → generation_of b ≡ generation_of a
  same_generation b w l o h = h.generations ∙ put_self (generation_of a) t.slot t.generation f.generation_is

pub start_core : {R : Type 0} → StartCore R
start_core {R} shown g a b q m n t rank bytes x y o list c h = (core, step)
  where
    v : Tables
    v = tables shown g a q m

    p : Live
    p = listed (home a t.slot) (shown x)

    here : v.request t.slot ≡ Some p
    here = found_here shown g a q m t x h.found

    sized : p.members ≡ size g p.comm
    sized = c.sound.sound.base.sized t.slot p here

    w : ℕ
    w = lent p.sig p.members p.member

    accepted : refusal g (state v) (Start rank (ticket v t.slot) bytes) ≡ None
    accepted = ap (λ (u : Ticket). refusal g (state v) (Start rank u bytes)) (ticket_is shown g a q m t x h.found) ∙ h.accepted

    lies_as : listed list (shown y) ≡ begun p o
    lies_as = listed_stands p.members list (mail m (at p p.starts)) (shown y) h.stands (ap (λ (z : Live). z.active) h.is) ∙ h.is

    sits : home b t.slot ≡ list
    sits = home_here a b t.slot t.generation w list (Some y) h.puts

    comes : Starting v t.slot p bytes o (home b)
    comes = record {
      from = record { round = 0; index = 0; buf = laid_in (family p.sig (size g p.comm) p.member) bytes };
      joining = accepted_start v t.slot p rank bytes c.sound here h.are accepted;
      buf = h.buf ∙ ap (λ s. laid_in (family p.sig s p.member) bytes) sized;
      over = subst (λ s. Over (family p.sig s p.member) 0 0 o.round o.index) sized h.over;
      away = home_away a b t.slot t.generation w list (Some y) h.puts;
      stands = subst (λ s. Stands s (mail m (at p p.starts)) (home b t.slot) (begun p o)) sized
          (subst (λ l. Stands p.members (mail m (at p p.starts)) l (begun p o)) (sym sits)
          (subst (λ (z : Live). Stands p.members (mail m (at p p.starts)) list z) h.is h.stands));
    }

    after : Tables
    after = joining v t.slot p bytes o (home b)

    both : IsSound after × StepsTo g (machine v) (Start rank (ticket v t.slot) bytes) Nothing (machine after)
    both = start_keeps v t.slot p rank bytes o (home b) c.sound accepted comes

    is_after : tables shown g b q n ≡ after
    is_after = λ z. record {
      setting = g;
      generation = same_generation shown g a q m t x h.found b w list (Some y) h.puts z;
      request = (shown_requests shown g a b t.slot t.generation w list (Some y) h.puts ∙ ap (λ (z : Live). put v.request t.slot (Some z)) lies_as) z;
      home = home b;
      posts = posts q;
      signed = signed q;
      given = λ l. h.joined.given z l;
      seats = λ l. h.joined.seats z l;
      mail = λ l. h.joined.mail z l;
    }

    core : IsCore shown g b q n
    core = core_of shown g a b t.slot t.generation w list (Some y) h.puts q q m n c refl refl
        (λ l z e. c.sizes l z (ap (λ (f : Key → Option ℕ). f l) (sym h.joined.members) ∙ e)) (sym (ap weight lies_as))
        (subst (λ (u : Tables). IsSound u) (sym is_after) both.0)

    step : StepsTo g (machine v) (Start rank t bytes) Nothing (machine (tables shown g b q n))
    step = subst (λ (u : Tables). StepsTo g (machine v) (Start rank t bytes) Nothing (machine u)) (sym is_after)
        (subst (λ (u : Ticket). StepsTo g (machine v) (Start rank u bytes) Nothing (machine after)) (ticket_is shown g a q m t x h.found) both.1)

pub free_core : {R : Type 0} → FreeCore R
free_core {R} shown g a b q m t rank x c h = (core, step)
  where
    v : Tables
    v = tables shown g a q m

    p : Live
    p = listed (home a t.slot) (shown x)

    here : v.request t.slot ≡ Some p
    here = found_here shown g a q m t x h.found

    l : ℕ
    l = given_up a.wear t.generation

    accepted : refusal g (state v) (Free rank (ticket v t.slot)) ≡ None
    accepted = ap (λ (u : Ticket). refusal g (state v) (Free rank u)) (ticket_is shown g a q m t x h.found) ∙ h.accepted

    lies : Lies g.wear (generation_of a t.slot) (home b t.slot)
    lies = subst (λ l. Lies g.wear (generation_of a t.slot) l)
        ((λ z. given_up (c.set.wear_is z) (h.found.generation_is z)) ∙ sym (home_here a b t.slot t.generation 0 l None h.puts))
        (lies_given_up g.wear (generation_of a t.slot) (c.sound.sound.numbered t.slot p here).1)

    both : IsSound (freeing v t.slot (home b)) × MachineStep g (machine v) (Free rank (ticket v t.slot)) Nothing (machine (freeing v t.slot (home b)))
    both = free_keeps v t.slot p rank (home b) c.sound here accepted (home_away a b t.slot t.generation 0 l None h.puts) lies

    is_after : tables shown g b q m ≡ freeing v t.slot (home b)
    is_after = λ z. record {
      setting = g;
      generation = same_generation shown g a q m t x h.found b 0 l None h.puts z;
      request = shown_requests shown g a b t.slot t.generation 0 l None h.puts z;
      home = home b;
      posts = posts q;
      signed = signed q;
      given = v.given;
      seats = v.seats;
      mail = v.mail;
    }

    core : IsCore shown g b q m
    core = core_of shown g a b t.slot t.generation 0 l None h.puts q q m m c refl refl c.sizes refl (subst (λ (u : Tables). IsSound u) (sym is_after) both.0)

    step : MachineStep g (machine v) (Free rank t) Nothing (machine (tables shown g b q m))
    step = subst (λ (u : Tables). MachineStep g (machine v) (Free rank t) Nothing (machine u)) (sym is_after)
        (subst (λ (u : Ticket). MachineStep g (machine v) (Free rank u) Nothing (machine (freeing v t.slot (home b))))
        (ticket_is shown g a q m t x h.found) both.1)
