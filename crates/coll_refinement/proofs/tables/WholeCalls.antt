-- Each call, whole.
use Rattle.std.proofs.Common.{◌≡◌, ℕ, ◌+◌, ◌*◌, ◌==◌, inl, inr, Bool, true, false, List, length, Option, Some, None, refl, sym, ap, subst, ◌∙◌, arith}
use Rattle.std.proofs.Common.{eq-eqb, ne_eqb}
use Rattle.std.proofs.lemmas.Option.{same_Some}
use Rattle.std.proofs.lemmas.Bool.{false≢true, eqb-true}
use Rattle.coll_kinds.specs.declared.kind.Mode.{Mode}
use Rattle.coll_kinds.specs.declared.kind.Mode.TheVariants.{Once, Persistent}
use Rattle.coll_kinds.specs.Puts.{put}
use Rattle.coll_kinds.proofs.Puts.{put_same, put_put}
use Rattle.coll_machine.specs.Common.{size, Request, Machine, MachineStep, post, init, start, retire, free, Post, Init, Start, Retire, Free, Ticketed}
use Rattle.coll_machine.specs.Common.{Outcome, Nothing, put_in}
use Rattle.coll_machine.specs.declared.key.Key.{Key}
use Rattle.coll_plans.specs.Plans.{family}
use Rattle.coll_refinement.specs.Requests.{Live, before, at, key, begun, at_rest, rests, rests_by}
use Rattle.coll_refinement.specs.Tables.{Mail, Tables, Paths, is_done, state, machine}
use Rattle.coll_refinement.specs.Sound.{Stands, ready, running, idle, queued, done, Sound, IsSound}
use Rattle.coll_refinement.specs.Changes.{posting, joining, leaving, dissolving, freeing}
use Rattle.coll_refinement.proofs.tables.CallTests.{Away, ticket, new_ticket, LeftAt, Retiring}
use Rattle.coll_refinement.proofs.tables.Statements.{LockIsFree, InitKeeps, PostKeeps, StartKeeps, RetireKeeps, LastRetireKeeps, FreeKeeps}
use Rattle.coll_refinement.specs.FreeLocks.{LiesBy}
use Rattle.coll_refinement.proofs.tables.OtherLists.{finished_there}
use Rattle.coll_refinement.proofs.tables.Accepted.{free_passed}
use Rattle.coll_refinement.proofs.tables.Invariant.{Besides, besides, all_stand, all_lie, besides_posts, besides_joins, besides_leaves, besides_frees}
use Rattle.coll_refinement.proofs.tables.Invariant.{besides_dissolves}
use Rattle.coll_refinement.proofs.tables.LiveRequests.{put_self, holding_value}
use Rattle.coll_refinement.proofs.tables.Simulation.{done_changes, may_finish, inits, posts, starts, frees, retires_kept, retires_last}

-- a slot that isn't done stays so
undone : (v : Tables) (i : ℕ) (o : Option Live) (home : ℕ → ℕ) → Away v i home → (machine v).done i ≡ false
    → is_done (home i) o ≡ false → (λ j. is_done (home j) (put v.request i o j)) ≡ (machine v).done
undone v i o home away was is = done_changes v i o home away ∙ (ap (λ b. put (machine v).done i b) is ∙ put_self (machine v).done i false was)

idle_undone : (c l : ℕ) → l ≡ 4 + 3 * c → (l == 6 + 3 * c) ≡ false
idle_undone c l e = ne_eqb l (6 + 3 * c) (λ x. omega arith)

pub init_keeps : InitKeeps
init_keeps v i q rank plan home s n accepted away list = (record { paths = s.paths; sound = sound }, step)
  where
    mode_is : q.sig.mode ≡ Persistent
    mode_is = ap (λ (r : Request). r.mode) n.is

    sound : Sound (posting v i q home) s.paths
    sound = all_stand (posting v i q home) s.paths i
        (besides_posts v s.paths i q home away (besides v s.paths i s.sound) n.posting) q (put_same v.request i (Some q)) (idle n.posting.inactive list mode_is)

    same : (machine (posting v i q home)).done ≡ (machine v).done
    same = undone v i (Some q) home away (ap (is_done (v.home i)) n.posting.spare) (idle_undone q.comm (home i) list)

    step : MachineStep v.setting (machine v) (Init rank q.comm plan) (Ticketed (new_ticket v i)) (machine (posting v i q home))
    step = subst (λ (m : Machine). MachineStep v.setting (machine v) (Init rank q.comm plan) (Ticketed (new_ticket v i)) m)
        (λ z. record { state = state (posting v i q home); done = sym same z })
        (init rank q.comm q.place plan (new_ticket v i)
        (inits v i q n.posting.low n.posting.spare n.posting.unworn rank plan n.member_is n.posting.place_is n.sig_is home n.is accepted))

pub post_keeps : PostKeeps
post_keeps v i q rank plan bytes o home s n accepted away c =
    (record { paths = ways; sound = sound }, (mid, step, may_finish new ways sound i (begun q o) here mid refl (ap (is_done (v.home i)) n.posting.spare) now))
  where
    posted : Tables
    posted = posting v i q home

    new : Tables
    new = joining posted i q bytes o home

    here : put (put v.request i (Some q)) i (Some (begun q o)) i ≡ Some (begun q o)
    here = put_same (put v.request i (Some q)) i (Some (begun q o))

    ways : Paths
    ways = put_in (put_in s.paths (at q q.starts) q.member (Some c.from)) (at q q.starts) q.member (Some o)

    sound : Sound new ways
    sound = all_stand new ways i
        (besides_joins posted s.paths i q home c.away
        (besides_posts v s.paths i q home away (besides v s.paths i s.sound) n.posting) bytes c.from o c.joining c.buf c.over) (begun q o) here c.stands

    mid : Machine
    mid = record { state = state new; done = (machine v).done }

    step : MachineStep v.setting (machine v) (Post rank q.comm plan bytes) (Ticketed (new_ticket v i)) mid
    step = post rank q.comm q.place plan bytes (new_ticket v i)
        (posts v i q n.posting.low n.posting.spare n.posting.unworn rank plan n.member_is n.posting.place_is n.sig_is home bytes o n.is accepted)

    now : (machine new).done ≡ put (machine v).done i (is_done (home i) (Some (begun q o)))
    now = done_changes posted i (Some (begun q o)) home c.away ∙ ap (λ (f : ℕ → Bool). put f i (is_done (home i) (Some (begun q o)))) before_it ∙ again
      where
        before_it : (machine posted).done ≡ put (machine v).done i (is_done (home i) (Some q))
        before_it = done_changes v i (Some q) home away

        again : put (put (machine v).done i (is_done (home i) (Some q))) i (is_done (home i) (Some (begun q o)))
            ≡ put (machine v).done i (is_done (home i) (Some (begun q o)))
        again = put_put (machine v).done i (is_done (home i) (Some q)) (is_done (home i) (Some (begun q o)))

-- an inactive request isn't done
resting : (n l : ℕ) (mail : Mail) (q : Live) → q.active ≡ false → Stands n mail l q → (l == 6 + 3 * q.comm) ≡ false
resting n l mail q f (idle t e p) = idle_undone q.comm l e
resting n l mail q f (ready a t e nx d) = absurd (false≢true (sym f ∙ t))
resting n l mail q f (running op ty a b into t e nx) = absurd (false≢true (sym f ∙ t))
resting n l mail q f (queued of into t e nx none) = absurd (false≢true (sym f ∙ t))
resting n l mail q f (done t e r) = absurd (false≢true (sym f ∙ t))

pub start_keeps : StartKeeps
start_keeps v i q rank bytes o home s accepted c = (
  record { paths = ways; sound = sound },
  (mid, step, may_finish new ways sound i (begun q o) here mid refl pending (done_changes v i (Some (begun q o)) home c.away)),
)
  where
    new : Tables
    new = joining v i q bytes o home

    here : put v.request i (Some (begun q o)) i ≡ Some (begun q o)
    here = put_same v.request i (Some (begun q o))

    ways : Paths
    ways = put_in (put_in s.paths (at q q.starts) q.member (Some c.from)) (at q q.starts) q.member (Some o)

    sound : Sound new ways
    sound = all_stand new ways i
        (besides_joins v s.paths i q home c.away (besides v s.paths i s.sound) bytes c.from o c.joining c.buf c.over) (begun q o) here c.stands

    mid : Machine
    mid = record { state = state new; done = (machine v).done }

    pending : (machine v).done i ≡ false
    pending = ap (is_done (v.home i)) c.joining.here
        ∙ resting (size v.setting q.comm) (v.home i) (v.mail (key q)) q c.joining.inactive (s.sound.stands i q c.joining.here)

    step : MachineStep v.setting (machine v) (Start rank (ticket v i) bytes) Nothing mid
    step = start rank q.starts (ticket v i) bytes (starts v i q c.joining.here rank home bytes o accepted)

-- ---- retire

module _ (v : Tables) (i : ℕ) (q : Live) (rank : ℕ) (bytes : List ℕ) (home : ℕ → ℕ) (s : IsSound v) (r : Retiring v i q rank bytes home) where
  over : (q.active ≡ true) × (q.round ≡ length (family q.sig (size v.setting q.comm) q.member).rounds)
  over = finished_there (size v.setting q.comm) (v.home i) (v.mail (key q)) q r.list (s.sound.stands i q r.here)

  was_done : (machine v).done i ≡ true
  was_done = ap (is_done (v.home i)) r.here ∙ eq-eqb (v.home i) (6 + 3 * q.comm) r.list

  abbrev gone : Tables
  gone = leaving v i q home

  left : Besides gone (put_in s.paths (key q) q.member None) i
  left = besides_leaves v s.paths i q home r.away (besides v s.paths i s.sound) r.here over.0 over.1

  abbrev with : (Key → ℕ → Option (List ℕ)) → (Key → Mail) → Tables
  with given mail =
      record {
        setting = v.setting;
        generation = v.generation;
        request = put v.request i (rests q);
        home = home;
        posts =
            v.posts;
        signed = v.signed;
        given = given;
        seats = gone.seats;
        mail = mail;
      }

  -- the slot that was left, by mode
  settled : (given : Key → ℕ → Option (List ℕ)) (mail : Key → Mail) (paths : Paths) → Besides (with given mail) paths i → Sound (with given mail) paths
  settled given mail paths b = by q.sig.mode refl r.left
    where
      by : (m : Mode) → q.sig.mode ≡ m → LeftAt q.sig.mode v i q (home i) → Sound (with given mail) paths
      by Once e l = all_lie (with given mail) paths i b (put_same v.request i (rests q) ∙ ap (λ m. rests_by m q) e) (subst (λ m. LeftAt m v i q (home i)) e l)
      by Persistent e l =
          all_stand (with given mail) paths i b (at_rest q) (put_same v.request i (rests q) ∙ ap (λ m. rests_by m q) e)
          (idle refl (subst (λ m. LeftAt m v i q (home i)) e l) e)

  now : (machine gone).done ≡ put (machine v).done i false
  now = done_changes v i (rests q) home r.away ∙ ap (λ b. put (machine v).done i b) (by q.sig.mode refl r.left)
    where
      by : (m : Mode) → q.sig.mode ≡ m → LeftAt q.sig.mode v i q (home i) → is_done (home i) (rests q) ≡ false
      by Once e l = ap (λ m. is_done (home i) (rests_by m q)) e
      by Persistent e l = ap (λ m. is_done (home i) (rests_by m q)) e ∙ idle_undone q.comm (home i) (subst (λ m. LeftAt m v i q (home i)) e l)

pub retire_keeps : RetireKeeps
retire_keeps v i q rank bytes home s r more = (
  record { paths = _; sound = settled v i q rank bytes home s r v.given v.mail _ (left v i q rank bytes home s r) },
  subst (λ (m : Machine). MachineStep v.setting (machine v) (Retire rank (ticket v i)) (Outcome rank q.comm q.place (before q.starts) bytes) m)
      (λ z. record { state = state (leaving v i q home); done = sym (now v i q rank bytes home s r) z })
      (retire rank (ticket v i) q.comm q.place (before q.starts) bytes
      (retires_kept v i q r.here rank home s.paths s.sound r.list bytes r.bytes_is r.accepted more) (was_done v i q rank bytes home s r)),
)

pub last_retire_keeps : LastRetireKeeps
last_retire_keeps v i q rank bytes home s r last = (
  record {
    paths = _;
    sound =
        settled v i q rank bytes home s r new.given new.mail _ (besides_dissolves (leaving v i q home) _ i (left v i q rank bytes home s r) (key q) last);
  },
  subst (λ (m : Machine). MachineStep v.setting (machine v) (Retire rank (ticket v i)) (Outcome rank q.comm q.place (before q.starts) bytes) m)
      (λ z. record { state = state new; done = sym (now v i q rank bytes home s r) z })
      (retire rank (ticket v i) q.comm q.place (before q.starts) bytes
      (retires_last v i q r.here rank home s.paths s.sound r.list bytes r.bytes_is r.accepted last) (was_done v i q rank bytes home s r)),
)
  where
    new : Tables
    new = dissolving (leaving v i q home) (key q)

-- ---- free

pub free_keeps : FreeKeeps
free_keeps v i q rank home s here accepted away lies = (
  record {
    paths = s.paths;
    sound =
        all_lie (freeing v i home) s.paths i (besides_frees v s.paths i q home away (besides v s.paths i s.sound) here idle_here)
        (put_same v.request i None) lies;
  },
  subst (λ (m : Machine). MachineStep v.setting (machine v) (Free rank (ticket v i)) Nothing m)
      (λ z. record { state = state (freeing v i home); done = sym same z })
      (free rank (ticket v i) (frees v i q here rank home accepted)),
)
  where
    idle_here : q.active ≡ false
    idle_here = (free_passed v i q here rank accepted).0

    same : (machine (freeing v i home)).done ≡ (machine v).done
    same = undone v i None home away
        (ap (is_done (v.home i)) here ∙ resting (size v.setting q.comm) (v.home i) (v.mail (key q)) q idle_here (s.sound.stands i q here)) refl

-- ---- whenever the lock is free

lies_by : (n l : ℕ) (mail : Mail) (q : Live) (d : Bool) → d ≡ (l == 6 + 3 * q.comm) → Stands n mail l q → LiesBy q.active d q.comm l
lies_by n l mail q d e st = go st
  where
    -- by the two tests
    by : (a b : Bool) → q.active ≡ a → d ≡ b → LiesBy a b q.comm l → LiesBy q.active d q.comm l
    by a b x y h = subst (λ c. LiesBy c d q.comm l) (sym x) (subst (λ c. LiesBy a c q.comm l) (sym y) h)

    go : Stands n mail l q → LiesBy q.active d q.comm l
    go (idle t x p) = by false d t refl x
    go (ready a t x nx h) = by true false t (e ∙ ne_eqb l (6 + 3 * q.comm) (λ z. omega arith)) (inl x)
    go (running op ty a b into t x nx) = by true false t (e ∙ ne_eqb l (6 + 3 * q.comm) (λ z. omega arith)) (inr (inl x))
    go (queued of into t x nx none) = by true false t (e ∙ ne_eqb l (6 + 3 * q.comm) (λ z. omega arith)) (inr (inr x))
    go (done t x r) = by true true t (e ∙ eq-eqb l (6 + 3 * q.comm) x) x

pub lock_is_free : LockIsFree
lock_is_free v s = record {
  lists = λ i q here. lies_by (size v.setting q.comm) (v.home i) (v.mail (key q)) q ((machine v).done i)
      (ap (is_done (v.home i)) here) (s.sound.stands i q here);
  spare = s.sound.lies;
  agree = λ c m n p a b x y. same_Some a b (sym (s.sound.base.agreed c m p a x) ∙ s.sound.base.agreed c n p b y);
  own = s.sound.base.own;
  alone = s.sound.base.alone;
  held = λ i q here d. holding_value v s.paths s.sound i q here (eqb-true (v.home i) (6 + 3 * q.comm) (sym (ap (is_done (v.home i)) here) ∙ d));
}
