-- Completions, and room that is made, in the words of the engine's arena, posting lists and instances.
use Rattle.std.proofs.Common.{◌≡◌, ℕ, ◌+◌, ◌*◌, ◌<◌, ◌≢◌, ◌⊎◌, inl, inr, Bool, true, false, cond, List, [], length, slice_get, unwrap_or, Option}
use Rattle.std.proofs.Common.{Some, None, refl, sym, ap, subst, ◌∙◌}
use Rattle.std.specs.Prelude.{option_map}
use Rattle.std.proofs.lemmas.Bool.{false≢true}
use Rattle.std.proofs.lemmas.Option.{none-some, same_Some}
use Rattle.coll_kinds.specs.declared.kind.Mode.{Mode}
use Rattle.coll_kinds.specs.declared.kind.Mode.TheVariants.{Once, Persistent}
use Rattle.coll_kinds.specs.declared.ticket.Ticket.{Ticket}
use Rattle.coll_kinds.specs.Puts.{put}
use Rattle.coll_sched.specs.Regions.{read_of}
use Rattle.coll_plans.specs.Plans.{family}
use Rattle.coll_arena.specs.Slots.{Slots, generation_of, home, record_in}
use Rattle.coll_machine.specs.Common.{first_there, refusal, put_key, put_in, Setting, size, Retire, Outcome, MachineStep}
use Rattle.coll_queues.specs.Postings.{Postings, posts, signed}
use Rattle.coll_machine.specs.declared.key.Key.{Key}
use Rattle.coll_match.specs.Held.{Held}
use Rattle.coll_match.specs.Instances.{given, given_of, mail, members, members_of, seats, standing, IsLast as LeavesLast}
use Rattle.coll_refinement.specs.Requests.{Live, before, key, rests, rests_by}
use Rattle.coll_refinement.specs.Tables.{Mail, Tables, machine, state}
use Rattle.coll_refinement.specs.Sound.{Lies, IsSound}
use Rattle.coll_refinement.specs.Changes.{dissolving, leaving}
use Rattle.coll_refinement.proofs.tables.CallTests.{IsLast, LeftAt, Retiring, ticket}
use Rattle.coll_refinement.specs.Shown.{Instances, seen, listed, tables, weight_by}
use Rattle.coll_refinement.specs.Cores.{IsCore}
use Rattle.coll_refinement.specs.OneSlots.{OneSlot}
use Rattle.coll_refinement.proofs.engine.Changes.{Completes}
use Rattle.coll_refinement.specs.Engines.{Rests, given_up}
use Rattle.coll_refinement.proofs.engine.Statements.{RetireCore, RoomCore}
use Rattle.coll_refinement.proofs.tables.LiveRequests.{has_given}
use Rattle.coll_refinement.proofs.tables.Keys.{split_key, at_key, off_key}
use Rattle.coll_refinement.proofs.tables.OtherLists.{finished_there}
use Rattle.coll_refinement.proofs.tables.WholeCalls.{retire_keeps, last_retire_keeps}
use Rattle.coll_refinement.proofs.engine.Slots.{core_of, home_away, home_here, listed_idle, shown_requests}
use Rattle.coll_refinement.proofs.engine.Calls.{found_here, lies_given_up, same_generation, ticket_is}

-- ---- functions of collectives

pub put_own : {X : Type 0} (f : Key → X) (k : Key) → put_key f k (f k) ≡ f
put_own {X} f k = λ z l. here l (split_key l k) z
  where
    here : (l : Key) → (l ≡ k) ⊎ (l ≢ k) → put_key f k (f k) l ≡ f l
    here l (inl e) = at_key f k (f k) l e ∙ ap f (sym e)
    here l (inr d) = off_key f k (f k) l d

-- an instance that has a contribution stands
stands_given : (o : Option Held) (member : ℕ) → given_of o member ≢ None → (n : ℕ) × (members_of o ≡ Some n)
stands_given None member h = absurd (h refl)
stands_given (Some x) member h = (length x.shares, refl)

-- ---- a completion

module _ {R : Type 0} (shown : R → Live) (g : Setting) (a b : Slots R) (q : Postings) (m n : Instances) (t : Ticket) (rank : ℕ)
    (x : R) (bytes : List ℕ) (last : Bool)
    (c : IsCore shown g a q m) (h : Completes shown g (state (tables shown g a q m)) a b m n t rank x bytes last) where
  abbrev v : Tables
  v = tables shown g a q m

  abbrev p : Live
  p = listed (home a t.slot) (shown x)

  here : v.request t.slot ≡ Some p
  here = found_here shown g a q m t x h.found

  sized : p.members ≡ size g p.comm
  sized = c.sound.sound.base.sized t.slot p here

  -- the slot, by the request's mode
  pub record LeftSlot : Type 0 where
    pub found : Option R
    pub list : ℕ
    pub puts : OneSlot a b t.slot t.generation 0 found list
    pub is : seen list (option_map shown found) ≡ rests p
    pub left : LeftAt p.sig.mode v t.slot p list

  left_slot : LeftSlot
  left_slot = by p.sig.mode refl h.rests
    where
      by : (mode : Mode) → p.sig.mode ≡ mode → Rests shown mode a b t x → LeftSlot
      by Once e one = record {
        found = None;
        list = given_up a.wear t.generation;
        puts = one;
        is = ap (λ m. rests_by m p) (sym e);
        left = subst (λ m. LeftAt m v t.slot p (given_up a.wear t.generation)) (sym e)
            (subst (λ l. Lies g.wear (generation_of a t.slot) l) (λ z. given_up (c.set.wear_is z) (h.found.generation_is z))
            (lies_given_up g.wear (generation_of a t.slot) (c.sound.sound.numbered t.slot p here).1));
      }
      by Persistent e one = record {
        found = Some one.0;
        list = 4 + 3 * p.comm;
        puts = one.1;
        is = ap (λ (z : Live). Some (listed (4 + 3 * p.comm) z)) one.2
            ∙ ((λ z. Some (record {
              rank = p.rank;
              comm = p.comm;
              members = p.members;
              member = p.member;
              place = p.place;
              sig =
                  p.sig;
              starts = p.starts;
              active = listed_idle p.comm z;
              round = 0;
              index = 0;
              buf = [];
            }))
            ∙ ap (λ m. rests_by m p) (sym e));
        left = subst (λ m. LeftAt m v t.slot p (4 + 3 * p.comm)) (sym e) refl;
      }

  abbrev s : LeftSlot
  s = left_slot

  retiring : Retiring v t.slot p rank bytes (home b)
  retiring = record {
    here = here;
    list = h.on_done;
    accepted = ap (λ (u : Ticket). refusal g (state v) (Retire rank u)) (ticket_is shown g a q m t x h.found) ∙ h.accepted;
    bytes_is = h.bytes_is ∙ ap (λ s. read_of p.buf (family p.sig s p.member).output) sized;
    away = home_away a b t.slot t.generation 0 s.list s.found s.puts;
    left = subst (λ l. LeftAt p.sig.mode v t.slot p l) (sym (home_here a b t.slot t.generation 0 s.list s.found s.puts)) s.left;
  }

  -- the instance stands, with its communicator's members
  stands : (n : ℕ) × (members m (key p) ≡ Some n)
  stands = stands_given (standing m (key p)) p.member
      (has_given v c.sound.paths c.sound.sound.base t.slot p here
      (finished_there (size g p.comm) (home a t.slot) (v.mail (key p)) p h.on_done (c.sound.sound.stands t.slot p here)).0)

  size_is : unwrap_or (members m (key p)) 0 ≡ size g p.comm
  size_is = ap (λ (o : Option ℕ). unwrap_or o 0) stands.1 ∙ c.sizes (key p) stands.0 stands.1

  -- the mailbox's test of the last member is that of the tables
  seat_is : (member : ℕ) → (leaving v t.slot p (home b)).seats (key p) member ≡ put (v.seats (key p)) p.member None member
  seat_is member = ap (λ (f : ℕ → Option ℕ). f member) (at_key v.seats (key p) (put (v.seats (key p)) p.member None) (key p) refl)

  last_there : LeavesLast m (key p) p.member → IsLast (leaving v t.slot p (home b)) (key p)
  last_there l member low = let both = l member (subst (λ s. member < s) (sym size_is) low) in (both.0, seat_is member ∙ both.1)

  there_last : IsLast (leaving v t.slot p (home b)) (key p) → LeavesLast m (key p) p.member
  there_last l member low = let both = l member (subst (λ s. member < s) size_is low) in (both.0, sym (seat_is member) ∙ both.1)

  abbrev by_last : {X : Type 0} → X → X → X
  by_last y z = cond last y z

  contributions : ◌≡◌ {A = Key → ℕ → Option (List ℕ)} (λ l. given n l) (put_key v.given (key p) (cond last (λ _. None) (v.given (key p))))
  contributions = λ z l. h.left.given z l

  notes : ◌≡◌ {A = Key → ℕ → Option ℕ} (λ l. seats n l) (put_in v.seats (key p) p.member None)
  notes = λ z l. h.left.seats z l

  messages : ◌≡◌ {A = Key → Mail} (λ l. mail n l) (put_key v.mail (key p) (cond last (λ _ _ _. None) (v.mail (key p))))
  messages = λ z l. h.left.mail z l

  leaves_with : (given_is : Key → ℕ → Option (List ℕ)) (mail_is : Key → Mail)
      → ◌≡◌ {A = Key → ℕ → Option (List ℕ)} (λ l. given n l) given_is → ◌≡◌ {A = Key → Mail} (λ l. mail n l) mail_is
      → tables shown g b q n ≡ record {
        setting = g;
        generation = v.generation;
        request = put v.request t.slot (rests p);
        home =
            home b;
        posts = v.posts;
        signed = v.signed;
        given = given_is;
        seats = put_in v.seats (key p) p.member None;
        mail = mail_is;
      }
  leaves_with given_is mail_is e f = λ z. record {
    setting = g;
    generation = same_generation shown g a q m t x h.found b 0 s.list s.found s.puts z;
    request = (shown_requests shown g a b t.slot t.generation 0 s.list s.found s.puts ∙ ap (λ (o : Option Live). put v.request t.slot o) s.is) z;
    home = home b;
    posts = posts q;
    signed = signed q;
    given = e z;
    seats = notes z;
    mail = f z;
  }

  light : 0 ≡ weight_by (seen s.list (option_map shown s.found))
  light = sym (ap weight_by s.is ∙ none p.sig.mode)
    where
      none : (mode : Mode) → weight_by (rests_by mode p) ≡ 0
      none Once = refl
      none Persistent = refl

  sizes : (l : Key) (z : ℕ) → members n l ≡ Some z → z ≡ size g l.comm
  sizes l z e = go (split_key k (key p)) last (sym (here_is) ∙ e)
    where
      k : Key
      k = record { comm = l.comm; place = l.place; start = l.start }

      here_is : members n l ≡ put_key (λ (i : Key). members m i) (key p) (cond last None (members m (key p))) k
      here_is = ap (λ (f : Key → Option ℕ). f l) h.left.members

      go : (k ≡ key p) ⊎ (k ≢ key p) → (d : Bool) → put_key (λ (i : Key). members m i) (key p) (cond d None (members m (key p))) k ≡ Some z → z ≡ size g l.comm
      go (inr off) d f = c.sizes l z (sym (off_key (λ (i : Key). members m i) (key p) (cond d None (members m (key p))) k off) ∙ f)
      go (inl on) true f = absurd (none-some z (sym (at_key (λ (i : Key). members m i) (key p) None k on) ∙ f))
      go (inl on) false f =
          c.sizes (key p) z (sym (at_key (λ (i : Key). members m i) (key p) (members m (key p)) k on) ∙ f) ∙ ap (λ (i : Key). size g i.comm) (sym on)

  abbrev Step : Tables → Type 0
  Step u = MachineStep g (machine v) (Retire rank (ticket v t.slot)) (Outcome rank p.comm p.place (before p.starts) bytes) (machine u)

  finally : IsSound (tables shown g b q n) × Step (tables shown g b q n)
      → IsCore shown g b q n × MachineStep g (machine v) (Retire rank t) (Outcome rank p.comm p.place (before p.starts) bytes) (machine (tables shown g b q n))
  finally r = (
    core_of shown g a b t.slot t.generation 0 s.list s.found s.puts q q m n c refl refl sizes light r.0,
    subst (λ (u : Ticket). MachineStep g (machine v) (Retire rank u) (Outcome rank p.comm p.place (before p.starts) bytes) (machine (tables shown g b q n)))
        (ticket_is shown g a q m t x h.found) r.1,
  )

  retired : IsSound (tables shown g b q n) × Step (tables shown g b q n)
  retired = by last refl
    where
      by : (d : Bool) → last ≡ d → IsSound (tables shown g b q n) × Step (tables shown g b q n)
      by false e =
          let is : tables shown g b q n ≡ leaving v t.slot p (home b) = leaves_with v.given v.mail
          (contributions ∙ (ap (λ d. put_key v.given (key p) (cond d (λ _. None) (v.given (key p)))) e ∙ put_own v.given (key p)))
          (messages ∙ (ap (λ d. put_key v.mail (key p) (cond d (λ _ _ _. None) (v.mail (key p)))) e ∙ put_own v.mail (key p))) in
          let both = retire_keeps v t.slot p rank bytes (home b) c.sound retiring (λ l. false≢true (sym e ∙ h.left.last_is.1 (there_last l))) in
          subst (λ (u : Tables). IsSound u × Step u) (sym is) both
      by true e =
          let is : tables shown g b q n ≡ dissolving (leaving v t.slot p (home b)) (key p) =
          leaves_with (put_key v.given (key p) (λ _. None)) (put_key v.mail (key p) (λ _ _ _. None))
          (contributions ∙ ap (λ d. put_key v.given (key p) (cond d (λ _. None) (v.given (key p)))) e)
          (messages ∙ ap (λ d. put_key v.mail (key p) (cond d (λ _ _ _. None) (v.mail (key p)))) e) in
          let both = last_retire_keeps v t.slot p rank bytes (home b) c.sound retiring (last_there (h.left.last_is.0 e)) in
          subst (λ (u : Tables). IsSound u × Step u) (sym is) both

pub retire_core : {R : Type 0} → RetireCore R
retire_core {R} shown g a b q m n t rank x bytes last c h =
    finally shown g a b q m n t rank x bytes last c h (retired shown g a b q m n t rank x bytes last c h)

-- ---- room

pub room_core : {R : Type 0} → RoomCore R
room_core {R} shown g a q r m n k c h = (
  record {
    set = record {
      slots_is = c.set.slots_is;
      wear_is = c.set.wear_is;
      comms_is = c.set.comms_is;
      groups_is = c.set.groups_is ∙ sym h.groups;
      places_is = c.set.places_is ∙ sym h.places;
      groups = c.set.groups;
    };
    sound = subst (λ (u : Tables). IsSound u) (sym same) c.sound;
    sizes = λ l z e. sizes l z e h.members;
    weights = c.weights;
  },
  same,
)
  where
    same : tables shown g a r n ≡ tables shown g a q m
    same = λ z. record {
      setting = g;
      generation = generation_of a;
      request = λ i. seen (home a i) (option_map shown (record_in a i));
      home = home a;
      posts = h.posted z;
      signed = λ comm place. option_map (λ first. first.1) (first_there (h.posted z comm) place 0 (length (unwrap_or (slice_get (h.groups z) comm) [])));
      given = λ l. h.given z l;
      seats = λ l. h.seats z l;
      mail = λ l. h.mail z l;
    }

    sizes : (l : Key) (z : ℕ) → members n l ≡ Some z
        → (members n ≡ members m) ⊎ (members n ≡ put_key (members m) k (Some (unwrap_or (members m k) (size g k.comm)))) → z ≡ size g l.comm
    sizes l z e (inl f) = c.sizes l z (ap (λ (o : Key → Option ℕ). o l) (sym f) ∙ e)
    sizes l z e (inr f) = go (split_key i j) (sym (ap (λ (o : Key → Option ℕ). o l) f) ∙ e)
      where
        i : Key
        i = record { comm = l.comm; place = l.place; start = l.start }

        j : Key
        j = record { comm = k.comm; place = k.place; start = k.start }

        known : (o : Option ℕ) → members m k ≡ o → unwrap_or (members m k) (size g k.comm) ≡ size g k.comm
        known None e = ap (λ (o : Option ℕ). unwrap_or o (size g k.comm)) e
        known (Some y) e = ap (λ (o : Option ℕ). unwrap_or o (size g k.comm)) e ∙ c.sizes k y e

        go : (i ≡ j) ⊎ (i ≢ j) → put_key (λ (u : Key). members m u) j (Some (unwrap_or (members m k) (size g k.comm))) i ≡ Some z → z ≡ size g l.comm
        go (inl on) e =
            let is : unwrap_or (members m k) (size g k.comm) ≡ z =
            same_Some (unwrap_or (members m k) (size g k.comm)) z
            (sym (at_key (λ (u : Key). members m u) j (Some (unwrap_or (members m k) (size g k.comm))) i on) ∙ e) in
            sym is ∙ (known (members m k) refl ∙ ap (λ (u : Key). size g u.comm) (sym on))
        go (inr off) e = c.sizes l z (sym (off_key (λ (u : Key). members m u) j (Some (unwrap_or (members m k) (size g k.comm))) i off) ∙ e)
