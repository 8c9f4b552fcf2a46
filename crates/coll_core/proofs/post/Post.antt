-- A post, in the shapes of the code's calls.
use Rattle.std.proofs.Common.{◌≡◌, ◌≢◌, ◌∙◌, ◌==◌, ◌<◌, ◌+◌, ◌*◌, [], ℕ, true, cond, List, Option, Some, None, ap, refl, sym, subst, arith}
use Rattle.std.proofs.lemmas.Bool.Decides.{nat_tests}
use Rattle.std.proofs.lemmas.Option.{none-some}
use Rattle.coll_kinds.specs.Common.{AreBytes, lent, put}
use Rattle.coll_kinds.specs.declared.signature.Signature.{Signature}
use Rattle.coll_kinds.specs.declared.ticket.Ticket.{Ticket}
use Rattle.coll_lists.specs.Moves.{moved_back}
use Rattle.coll_arena.specs.Lookups.{PutsSlot}
use Rattle.coll_arena.specs.Slots.{Slots, home}
use Rattle.coll_arena.proofs.Sounds.{free_first}
use Rattle.coll_arena.specs.Sound.{IsSound as IsArena}
use Rattle.coll_machine.specs.Common.{Call, Planned, Post, Init, Ticketed, MachineStep, refuse, short, StepsTo, Setting, put_key, refusal}
use Rattle.coll_machine.specs.Machines.{takes_memory}
use Rattle.coll_machine.specs.declared.key.Key.{Key}
use Rattle.coll_match.specs.Instances.{given, mail, members, seats}
use Rattle.coll_plans.specs.Plans.{family}
use Rattle.coll_queues.specs.Postings.{Postings, place_of}
use Rattle.coll_sched.specs.Common.{laid_in, Over, Progress}
use Rattle.coll_refinement.specs.Cores as tabled
use Rattle.coll_refinement.specs.Shown as tabled_parts
use Rattle.coll_refinement.proofs.engine.Changes.{Initialises, IsFree, IsOffered, Posts, made}
use Rattle.coll_refinement.specs.Engines.{IsJoined}
use Rattle.coll_refinement.specs.OneSlots.{OneSlot}
use Rattle.coll_refinement.specs.Requests.{Live, advanced, key}
use Rattle.coll_refinement.specs.Shown.{Instances}
use Rattle.coll_refinement.specs.Sound.{Stands}
use Rattle.coll_refinement.specs.Tables.{Mail, Tables, machine, state}
use Rattle.coll_core.specs.declared.request.Request.{Request}
use Rattle.coll_core.specs.Cores.{Parts, IsCore, seen, setting, Unchanged}
use Rattle.coll_core.specs.Progress.{BeginsSchedule, KeepsProgress}
use Rattle.coll_core.specs.Requests.{PassesEnds, shown}
use Rattle.coll_core.specs.Posts.{next_instance, refused_in}
use Rattle.coll_core.specs.Calls.{Refuses}
use Rattle.coll_kinds.specs.declared.refusal.Refusal.{Refusal}
use Rattle.coll_kinds.specs.declared.refusal.Refusal.TheVariants.{NoMemory}
use Rattle.coll_refinement.proofs.engine.Calls.{free_low, free_spare, init_core, post_core}
use Rattle.coll_refinement.proofs.engine.ActionsLeft.{left_idle}
use Rattle.coll_core.proofs.between.NoStep.{begins_schedule, keeps_progress, left_without, three_free, three_idle}
use Rattle.coll_core.proofs.post.Room.{at_own_key}

pub one_slot : (a b : Slots Request) (slot generation weight lends : ℕ) (found : Option Request) (list : ℕ) → weight ≡ lends
    → PutsSlot a b slot generation weight found list → OneSlot a b slot generation lends found list
one_slot a b slot generation weight lends found list e p =
    subst (λ w. OneSlot a b slot generation w found list) e (record {
      count_is = p.count_is;
      comms_is = p.comms_is;
      wear_is = p.wear_is;
      generations = p.generations;
      weights = p.weights;
      records = p.records;
      homes = p.homes;
    })

-- bytes enter an instance, and then a slot is noted
pub record Joins (m j n : Instances) (k : Key) (member slot : ℕ) (bytes : List ℕ) : Type 0 where
  pub members_is : members j ≡ members m
  pub given_is : given j ≡ put_key (given m) k (put (given m k) member (Some bytes))
  pub seats_is : seats j ≡ seats m
  pub mail_is : mail j ≡ mail m
  pub then_members : members n ≡ members j
  pub then_given : given n ≡ given j
  pub then_seats : seats n ≡ put_key (seats j) k (put (seats j k) member (Some slot))
  pub then_mail : mail n ≡ mail j

joined : (m j n : Instances) (k : Key) (member slot : ℕ) (bytes : List ℕ) → Joins m j n k member slot bytes
    → IsJoined m n k member slot bytes
joined m j n k member slot bytes h = record {
  members = h.then_members ∙ h.members_is;
  given = h.then_given ∙ h.given_is;
  seats = h.then_seats ∙ ap (λ (f : Key → ℕ → Option ℕ). put_key f k (put (f k) member (Some slot))) h.seats_is;
  mail = h.then_mail ∙ h.mail_is;
}

-- all that the calls of a post ensure
pub record Calls (p : Parts) (b : Slots Request) (r : Postings) (j n : Instances) (t : Ticket) (rank comm : ℕ)
    (plan : Planned) (bytes : List ℕ) (sig : Signature) (k : Key) (place member weight list : ℕ)
    (x y : Request) : Type 0 where
  pub accepted : refused_in p (Post rank comm plan bytes) ≡ None
  pub are : AreBytes bytes
  pub free : IsFree p.arena t
  pub offered : IsOffered p.queues r comm rank (record { sig = sig; n = plan.n; member = plan.member })
  pub sig_is : sig ≡ plan.sig
  pub place_is : place ≡ place_of p.queues comm rank
  pub key_is : k ≡ record { comm = comm; place = place; start = 0 }
  pub member_is : member ≡ plan.member
  pub joins : Joins p.matches j n k member t.slot bytes
  pub puts : PutsSlot p.arena b t.slot t.generation weight (Some y) list
  pub weight_is : weight ≡ lent plan.sig plan.n plan.member
  pub made_is : shown x ≡ made rank comm plan place 1 (record { round = 0; index = 0; buf = x.buffer })
  pub over : PassesEnds (shown x) (shown y) 0
  pub buf : x.buffer ≡ laid_in (family plan.sig plan.n plan.member) bytes
  pub stands : Stands y.plan.n (mail j (key (shown y))) list (shown y)
  pub taken_is : b.lists ≡ moved_back t.slot list p.arena.lists
  pub apart : 3 ≢ list

abbrev pub parts_of : Parts → Slots Request → Postings → Instances → Parts
parts_of p b r n = record {
  ranks = p.ranks;
  starts = p.starts;
  trace = p.trace;
  arena = b;
  queues = r;
  matches = n;
}

module _ (p : Parts) (b : Slots Request) (r : Postings) (j n : Instances) (t : Ticket) (rank comm : ℕ) (plan : Planned)
    (bytes : List ℕ) (sig : Signature) (k : Key) (place member weight list : ℕ) (x y : Request)
    (core : IsCore p) (sound : IsArena p.arena)
    (c : Calls p b r j n t rank comm plan bytes sig k place member weight list x y) where
  abbrev o : Progress
  o = record { round = y.round; index = y.index; buf = x.buffer }

  is : shown y ≡ made rank comm plan (place_of p.queues comm rank) 1 o
  is =
      c.over.is ∙ (ap (λ (q : Live). advanced q o) c.made_is
      ∙ ap (λ l. made rank comm plan l 1 o) c.place_is)

  posts : Posts shown (setting p) (seen p).state p.arena b p.queues r p.matches n t rank comm plan bytes y o list
  posts = record {
    accepted = c.accepted;
    are = c.are;
    free = c.free;
    offered = subst (λ (s : Signature). IsOffered p.queues r comm rank (record { sig = s; n = plan.n; member = plan.member })) c.sig_is c.offered;
    joined = subst (λ (l : Key). IsJoined p.matches n l plan.member t.slot bytes) (c.key_is ∙ ap (λ q. record { comm = comm; place = q; start = 0 }) c.place_is)
        (subst (λ m. IsJoined p.matches n k m t.slot bytes) c.member_is (joined p.matches j n k member t.slot bytes c.joins));
    puts = one_slot p.arena b t.slot t.generation weight (lent plan.sig plan.n plan.member) (Some y) list c.weight_is c.puts;
    is = is;
    buf = c.buf;
    over = subst (λ (q : Live). Over (family q.sig q.members q.member) q.round 0 y.round y.index) c.made_is c.over.over;
    stands = subst (λ (f : Key → Mail). Stands plan.n (f (next_instance p.queues rank comm)) list (shown y)) c.joins.mail_is
        (subst (λ (q : Live). Stands q.members (mail j (key q)) list (shown y)) is c.stands);
  }

  setting_same : setting (parts_of p b r n) ≡ setting p
  setting_same = λ i. record {
    ranks = p.ranks;
    groups = c.offered.groups i;
    slots = c.puts.count_is i;
    places = c.offered.places i;
    wear = c.puts.wear_is i;
    starts = p.starts;
    trace = p.trace;
  }

  both : tabled.IsCore shown (setting p) b r n
      × StepsTo (setting p) (seen p) (Post rank comm plan bytes) (Ticketed t) (machine (tabled_parts.tables shown (setting p) b r n))
  both = post_core shown (setting p) p.arena b p.queues r p.matches n t rank comm plan bytes y o list core sound posts

  pub post_kept : IsCore (parts_of p b r n)
  post_kept = subst (λ (g : Setting). tabled.IsCore shown g b r n) (sym setting_same) both.0

  pub post_steps : StepsTo (setting p) (seen p) (Post rank comm plan bytes) (Ticketed t) (seen (parts_of p b r n))
  post_steps =
      subst (λ (g : Setting). StepsTo (setting p) (seen p) (Post rank comm plan bytes) (Ticketed t) (machine (tabled_parts.tables shown g b r n)))
      (sym setting_same) both.1

  -- it goes to the back of its list, with all its actions left
  pub post_begins : BeginsSchedule p (parts_of p b r n) t.slot (family plan.sig plan.n plan.member)
  post_begins =
      begins_schedule p (parts_of p b r n) t.slot t.generation (lent plan.sig plan.n plan.member) list (Some y) posts.puts setting_same sound
      (free_low p.arena sound t c.free) c.apart (three_free (home p.arena t.slot) (free_first p.arena sound t.slot c.free.first).1)
      (left_without p.arena t.slot (free_spare p.arena sound t c.free)) c.taken_is
      y (made rank comm plan (place_of p.queues comm rank) 1 o) (mail p.matches (next_instance p.queues rank comm)) refl is
      (subst (λ (q : Live). Stands plan.n (mail p.matches (next_instance p.queues rank comm)) list q) is posts.stands) refl posts.over

-- ---- an initialisation

pub offered_as : (q r : Postings) (comm rank : ℕ) (sig : Signature) (plan : Planned) → sig ≡ plan.sig
    → IsOffered q r comm rank (record { sig = sig; n = plan.n; member = plan.member }) → IsOffered q r comm rank plan
offered_as q r comm rank sig plan e h =
    subst (λ (s : Signature). IsOffered q r comm rank (record { sig = s; n = plan.n; member = plan.member })) e h

pub initialised_as : (q : Postings) (rank comm place : ℕ) (plan : Planned) (bytes : List ℕ) → bytes ≡ []
    → place ≡ place_of q comm rank
    → made rank comm plan place 0 (record { round = 0; index = 0; buf = bytes })
    ≡ made rank comm plan (place_of q comm rank) 0 (record { round = 0; index = 0; buf = [] })
initialised_as q rank comm place plan bytes e f =
    ap (λ (l : List ℕ). made rank comm plan place 0 (record { round = 0; index = 0; buf = l })) e
    ∙ ap (λ l. made rank comm plan l 0 (record { round = 0; index = 0; buf = [] })) f

module _ (p : Parts) (b : Slots Request) (r : Postings) (t : Ticket) (rank comm : ℕ) (plan : Planned) (y : Request)
    (core : IsCore p) (sound : IsArena p.arena)
    (h : Initialises shown (setting p) (seen p).state p.arena b p.queues r t rank comm plan y) where
  setting_kept : setting (parts_of p b r p.matches) ≡ setting p
  setting_kept = λ i. record {
    ranks = p.ranks;
    groups = h.offered.groups i;
    slots = h.puts.count_is i;
    places = h.offered.places i;
    wear = h.puts.wear_is i;
    starts = p.starts;
    trace = p.trace;
  }

  initialised : tabled.IsCore shown (setting p) b r p.matches
      × MachineStep (setting p) (seen p) (Init rank comm plan) (Ticketed t)
      (machine (tabled_parts.tables shown (setting p) b r p.matches))
  initialised = init_core shown (setting p) p.arena b p.queues r p.matches t rank comm plan y core sound h

  pub init_kept : IsCore (parts_of p b r p.matches)
  init_kept = subst (λ (g : Setting). tabled.IsCore shown g b r p.matches) (sym setting_kept) initialised.0

  pub init_steps : MachineStep (setting p) (seen p) (Init rank comm plan) (Ticketed t) (seen (parts_of p b r p.matches))
  init_steps =
      subst (λ (g : Setting). MachineStep (setting p) (seen p) (Init rank comm plan) (Ticketed t)
      (machine (tabled_parts.tables shown g b r p.matches)))
      (sym setting_kept) initialised.1

  pub init_progress : b.lists ≡ moved_back t.slot (4 + 3 * comm) p.arena.lists → KeepsProgress p (parts_of p b r p.matches) t.slot
  init_progress lists_is =
      keeps_progress p (parts_of p b r p.matches) t.slot t.generation 0 (4 + 3 * comm) (Some y) h.puts setting_kept sound
      (free_low p.arena sound t h.free) (three_idle (4 + 3 * comm) comm refl)
      (three_free (home p.arena t.slot) (free_first p.arena sound t.slot h.free.first).1)
      (left_without p.arena t.slot (free_spare p.arena sound t h.free)) lists_is
      (left_idle comm (shown y) (ap (λ (q : Live). q.comm) h.is))

-- ---- what the calls ask for

same_number : (x : ℕ) → (x == x) ≡ true
same_number x = grind (arith, nat_tests)

put_own : {X : Type 0} (f : ℕ → X) (k : ℕ) (x : X) → put f k x k ≡ x
put_own f k x = ap (λ t. cond t x (f k)) (same_number k)

pub given_now : (m j : Instances) (k : Key) (member : ℕ) (bytes : List ℕ)
    → given j ≡ put_key (given m) k (put (given m k) member (Some bytes)) → given j k member ≢ None
given_now m j k member bytes e none =
    none-some bytes (sym none ∙ (ap (λ (f : Key → ℕ → Option (List ℕ)). f k member) e
    ∙ (ap (λ (f : ℕ → Option (List ℕ)). f member) (at_own_key (given m) k (put (given m k) member (Some bytes)))
    ∙ put_own (given m k) member (Some bytes))))

pub not_given : (m : Instances) (k l : Key) (member n : ℕ) → k ≡ l → member ≡ n → given m l n ≡ None → given m k member ≡ None
not_given m k l member n e f none = ap (λ (x : Key). given m x member) e ∙ (ap (given m l) f ∙ none)

pub emptied : (n : ℕ) → true ≡ (n == 0) → 0 < n → ⊥
emptied n e h = grind (arith, nat_tests)

pub lent_moved : (s t : Signature) (n m a b : ℕ) → s ≡ t → n ≡ m → a ≡ b → lent s n a ≡ lent t m b
lent_moved s t n m a b e f g =
    ap (λ (x : Signature). lent x n a) e ∙ (ap (λ x. lent t x a) f ∙ ap (lent t m) g)

pub accepted_from : (p q : Parts) (call : Call) → p ≡ q → refused_in q call ≡ None → refused_in p call ≡ None
accepted_from p q call e h = ap (λ (x : Parts). refused_in x call) e ∙ h

-- where nothing but memory has changed a call is accepted as before
pub still_accepted : (p q : Parts) (call : Call) → Unchanged p q → refused_in p call ≡ None → refused_in q call ≡ None
still_accepted p q call u h =
    ap (λ (g : Setting). refusal g (seen q).state call) u.setting_is
    ∙ (ap (λ (v : Tables). refusal (setting p) (state v) call) u.tables_is ∙ h)

pub refused_so : (p : Parts) (call : Call) (why : Refusal) → refused_in p call ≡ Some why → Refuses (setting p) (seen p) call why
refused_so p call why e = refuse call why e

pub short_of : (p : Parts) (call : Call) (why : Refusal) → takes_memory call ≡ true → refused_in p call ≡ None → why ≡ NoMemory
    → Refuses (setting p) (seen p) call why
short_of p call why t e is = subst (Refuses (setting p) (seen p) call) (sym is) (short call t e)
