-- What the condition says between calls, in the words of the machine and of the lists.
use Rattle.std.proofs.Common.{◌≡◌, ◌∙◌, ◌+◌, ◌*◌, ℕ, true, slice_get, Option, Some, None, ap, refl, sym, subst, arith}
use Rattle.std.specs.Prelude.{option_map}
use Rattle.std.proofs.lemmas.Option.{none-some, same_Some}
use Rattle.coll_kinds.specs.declared.datatype.Datatype.{Datatype}
use Rattle.coll_kinds.specs.declared.operation.Op.{Op}
use Rattle.coll_sched.specs.declared.action.Action.TheVariants.{Combine, Recv}
use Rattle.coll_sched.specs.declared.region.Region.{Region}
use Rattle.coll_sched.specs.Regions.{read_of}
use Rattle.coll_plans.specs.Plans.{family}
use Rattle.coll_arena.specs.Slots.{home, record_in}
use Rattle.coll_arena.specs.Sound.{IsSound as IsArena}
use Rattle.coll_arena.proofs.Homes.{StandsAtHome-sound}
use Rattle.coll_machine.specs.Settings.{size}
use Rattle.coll_machine.specs.States.{Request as Asked}
use Rattle.coll_refinement.specs.FreeLocks.{FreeLock, Holding, LiesBy}
use Rattle.coll_refinement.specs.Requests.{Live, as_request, before, key}
use Rattle.coll_refinement.specs.Shown.{listed}
use Rattle.coll_refinement.specs.Shown as tabled
use Rattle.coll_refinement.specs.Sound.{Stands, ready, running, idle, queued, done, next}
use Rattle.coll_refinement.specs.Tables.{Mail, Tables, asked, machine}
use Rattle.coll_refinement.proofs.engine.Reads.{lent_core, ready_core}
use Rattle.coll_refinement.proofs.tables.LiveRequests.{counted}
use Rattle.coll_refinement.proofs.tables.OtherLists.{finished_there}
use Rattle.coll_refinement.proofs.tables.WholeCalls.{lock_is_free}
use Rattle.coll_core.specs.declared.request.Request.{Request}
use Rattle.coll_core.specs.BetweenCalls.{BetweenCalls, HoldsValue, Waits}
use Rattle.coll_core.specs.Cores.{IsCore, Parts, seen, setting, tables}
use Rattle.coll_core.specs.Requests.{shown}
use Rattle.coll_core.proofs.between.LiveRequests.{live}

-- the tables' request that callers see as this one
pub record Behind (v : Tables) (slot : ℕ) (q : Asked) : Type 0 where
  pub live : Live
  pub here : v.request slot ≡ Some live
  pub is : as_request live ≡ q

behind_by : (o : Option Live) (q : Asked) → asked o ≡ Some q → (l : Live) × (o ≡ Some l) × (as_request l ≡ q)
behind_by None q e = absurd (none-some q e)
behind_by (Some l) q e = (l, refl, same_Some (as_request l) q e)

behind : (v : Tables) (slot : ℕ) (q : Asked) → (machine v).state.request slot ≡ Some q → Behind v slot q
behind v slot q e = let b = behind_by (v.request slot) q e in record { live = b.0; here = b.1; is = b.2 }

-- ---- the lists

-- what a list tells of a request that lies there
running_by : (n l : ℕ) (mail : Mail) (q : Live) → Stands n mail l q → l ≡ 3
    → (op : Op) × (ty : Datatype) × (left : Region) × (right : Region) × (into : Region) × (next n q ≡ Some (Combine op ty left right into))
running_by n l mail q (ready a t e nx d) on = absurd (omega (arith, e, on))
running_by n l mail q (running op ty x y into t e nx) on = (op, ty, x, y, into, nx)
running_by n l mail q (queued of into t e nx none) on = absurd (omega (arith, e, on))
running_by n l mail q (done t e r) on = absurd (omega (arith, e, on))
running_by n l mail q (idle f e p) on = absurd (omega (arith, e, on))

queued_by : (n l : ℕ) (mail : Mail) (q : Live) → Stands n mail l q → l ≡ 5 + 3 * q.comm
    → (of : ℕ) × (into : Region) × (next n q ≡ Some (Recv of into)) × (mail of q.member q.round ≡ None)
queued_by n l mail q (ready a t e nx d) on = absurd (omega (arith, e, on))
queued_by n l mail q (running op ty x y into t e nx) on = absurd (omega (arith, e, on))
queued_by n l mail q (queued of into t e nx none) on = (of, into, nx, none)
queued_by n l mail q (done t e r) on = absurd (omega (arith, e, on))
queued_by n l mail q (idle f e p) on = absurd (omega (arith, e, on))

module _ (p : Parts) (core : IsCore p) where
  waits : (slot : ℕ) (r : Request) → record_in p.arena slot ≡ Some r → Waits p slot r
  waits slot r here =
      let q : Live = listed (home p.arena slot) (shown r) in
      let stands : Stands r.plan.n ((tables p).mail (key (shown r))) (home p.arena slot) q =
      subst (λ n. Stands n ((tables p).mail (key (shown r))) (home p.arena slot) q) (sym (core.sound.sound.base.sized slot q (live p slot r here)))
      (core.sound.sound.stands slot q (live p slot r here)) in
      record {
        ready = λ on. ready_core shown (setting p) p.arena p.queues p.matches slot r core here on;
        running = running_by r.plan.n (home p.arena slot) ((tables p).mail (key (shown r))) q stands;
        queued = queued_by r.plan.n (home p.arena slot) ((tables p).mail (key (shown r))) q stands;
        done = λ on. (finished_there r.plan.n (home p.arena slot) ((tables p).mail (key (shown r))) q on stands).1;
      }

  -- ---- the value

  record_by : (slot : ℕ) (l : Live) → (o : Option Request) → record_in p.arena slot ≡ o
      → tabled.seen (home p.arena slot) (option_map shown o) ≡ Some l
      → (r : Request) × (record_in p.arena slot ≡ Some r) × (listed (home p.arena slot) (shown r) ≡ l)
  record_by slot l None e is = absurd (none-some l is)
  record_by slot l (Some r) e is = (r, e, same_Some (listed (home p.arena slot) (shown r)) l is)

  holds : (slot : ℕ) (l : Live) → (tables p).request slot ≡ Some l → (machine (tables p)).done slot ≡ true → HoldsValue p slot (as_request l)
  holds slot l here ends =
      let held : Holding (tables p) l = (lock_is_free (tables p) core.sound).held slot l here ends in
      let r = record_by slot l (record_in p.arena slot) refl here in
      let sized : l.members ≡ size (setting p) l.comm = core.sound.sound.base.sized slot l here in
      record {
        start = before l.starts;
        sig = l.sig;
        request = r.0;
        ready = record {
          active = held.active;
          start_is = counted (tables p) core.sound.paths core.sound.sound.base slot l here held.active;
          sig_is = core.sound.sound.base.own slot l here;
          needed = held.needed;
        };
        here = r.1;
        value_is = ap (λ (q : Live). read_of q.buf (family q.sig q.members q.member).output) r.2
            ∙ (ap (λ n. read_of l.buf (family l.sig n l.member).output) sized ∙ held.value_is);
      }

  module _ (sound : IsArena p.arena) where
    lock : FreeLock (tables p)
    lock = lock_is_free (tables p) core.sound

    spare_by : (o : Option Live) → asked o ≡ None → o ≡ None
    spare_by None e = refl
    spare_by (Some l) e = absurd (none-some (as_request l) (sym e))

    pub between_calls : BetweenCalls p
    between_calls = record {
      once = StandsAtHome-sound p.arena sound;
      lists = λ slot q e.
          let b = behind (tables p) slot q e in
          subst (λ (q : Asked). LiesBy q.active ((seen p).done slot) q.comm (home p.arena slot)) b.is (lock.lists slot b.live b.here);
      spare = λ slot low e. lock.spare slot low (spare_by ((tables p).request slot) e);
      agree = lock.agree;
      own = λ slot q e.
          let b = behind (tables p) slot q e in (
            b.live.sig,
            ap (λ (q : Asked). slice_get ((seen p).state.posts q.comm q.member) q.place) (sym b.is)
                ∙ lock.own slot b.live b.here,
            ap (λ (q : Asked). q.mode) b.is,
          );
      alone = λ i j q r e f comm place member.
          let b = behind (tables p) i q e in
          let c = behind (tables p) j r f in
          lock.alone i j b.live c.live b.here c.here
          (ap (λ (q : Asked). q.comm) b.is ∙ (comm ∙ sym (ap (λ (q : Asked). q.comm) c.is)))
          (ap (λ (q : Asked). q.place) b.is ∙ (place ∙ sym (ap (λ (q : Asked). q.place) c.is)))
          (ap (λ (q : Asked). q.member) b.is ∙ (member ∙ sym (ap (λ (q : Asked). q.member) c.is)));
      held = λ slot q e ends.
          let b = behind (tables p) slot q e in
          subst (λ (q : Asked). HoldsValue p slot q) b.is (holds slot b.live b.here ends);
      waits = waits;
      lent_is = lent_core shown (setting p) p.arena p.queues p.matches core sound;
    }
