-- Each change of the tables is the machine's step.
use Rattle.std.proofs.Common.{◌≡◌, ℕ, suc, ◌+◌, ◌*◌, ◌<◌, ◌≢◌, ◌⊎◌, inl, inr, Bool, true, false, eqb, List, length, Option, Some, None, refl, sym, ap}
use Rattle.std.proofs.Common.{subst, ◌∙◌, arith, eq-eqb, ne_eqb}
use Rattle.std.proofs.lemmas.Bool.{cases_eq, cond-true, eqb-true}
use Rattle.coll_kinds.specs.declared.kind.Mode.{Mode}
use Rattle.coll_kinds.specs.declared.kind.Mode.TheVariants.{Once, Persistent}
use Rattle.coll_sched.specs.Common.{read_of, Progress}
use Rattle.coll_kinds.specs.Common.{put, member_of}
use Rattle.coll_kinds.proofs.Puts.{put_same, put_other}
use Rattle.coll_machine.specs.Common.{group, size, State, Request, Machine, found, holding, created, new_request, started, rested, rested_by}
use Rattle.coll_machine.specs.Common.{forgotten, put_in, Planned, Post, Init, Start, Retire, Free, Finish, Nothing, refusal, IsNew, Posts, Inits}
use Rattle.coll_machine.specs.Common.{Starts, Retires, Frees, IsOver, IsReady, Clears, MachineStep, finish, MayFinish}
use Rattle.coll_machine.specs.declared.key.Key.{Key}
use Rattle.coll_machine.specs.Steps.{Finishes}
use Rattle.coll_plans.specs.Plans.{family}
use Rattle.coll_refinement.specs.Requests.{Live, before, at, key, advanced, begun, rests, rests_by, as_request}
use Rattle.coll_refinement.specs.Tables.{Mail, Tables, Paths, asked, is_done, state, machine}
use Rattle.coll_refinement.specs.Sound.{Base, Sound}
use Rattle.coll_refinement.specs.Changes.{posting, joining, acting, leaving, dissolving, freeing, rehoming}
use Rattle.coll_refinement.proofs.tables.CallTests.{IsLast, ticket, new_ticket}
use Rattle.coll_refinement.proofs.tables.OtherLists.{finished_there}
use Rattle.coll_refinement.proofs.tables.OneRequest.{base_leaves}
use Rattle.coll_refinement.proofs.tables.LiveRequests.{map_put, put_self, counted, last_is_over, over_is_last, holding_value}
use Rattle.coll_refinement.specs.FreeLocks.{Holding}

-- a ticket of the slot's last generation finds its request
pub finds : (v : Tables) (i : ℕ) (q : Live) → v.request i ≡ Some q → found (state v) (ticket v i) ≡ Some (as_request q)
finds v i q here = cond-true (eqb (v.generation i) (v.generation i)) (asked (v.request i)) None (eq-eqb (v.generation i) (v.generation i) refl) ∙ ap asked here

-- ---- who is done

pub done_changes : (v : Tables) (i : ℕ) (o : Option Live) (home : ℕ → ℕ) → ((j : ℕ) → j ≢ i → home j ≡ v.home j)
    → (λ j. is_done (home j) (put v.request i o j)) ≡ put (machine v).done i (is_done (home i) o)
done_changes v i o home away = λ z j. here j (cases_eq j i) z
  where
    here : (j : ℕ) → (j ≡ i) ⊎ (j ≡ i → ⊥) → is_done (home j) (put v.request i o j) ≡ put (machine v).done i (is_done (home i) o) j
    here j (inl e) =
        (λ z. is_done (home (e z)) (put v.request i o (e z)))
        ∙ (ap (is_done (home i)) (put_same v.request i o)
        ∙ (sym (put_same (machine v).done i (is_done (home i) o)) ∙ ap (put (machine v).done i (is_done (home i) o)) (sym e)))
    here j (inr d) = (λ z. is_done (away j d z) (put_other v.request i o j d z)) ∙ sym (put_other (machine v).done i (is_done (home i) o) j d)

-- a request on Done is finished, also as a state before says it
pub finishes : (v : Tables) (paths : Paths) → Sound v paths → (i : ℕ) (q : Live) → v.request i ≡ Some q
    → v.home i ≡ 6 + 3 * q.comm → (m : Machine) → m.state ≡ state v → m.done i ≡ false → Finishes v.setting m i (put m.done i true)
finishes v paths s i q here list m same pending =
    let h : Holding v q = holding_value v paths s i q here list in
    record {
      request = as_request q;
      sig = q.sig;
      start = before q.starts;
      is = ap (λ (u : State). u.request i) same ∙ ap asked here;
      pending = pending;
      ready = subst (λ (u : State). IsReady v.setting u (as_request q) (before q.starts) q.sig) (sym same)
          (record { active = h.active; start_is = counted v paths s.base i q here h.active; sig_is = s.base.own i q here; needed = h.needed });
      leaves = refl;
    }

-- a request that was not done is now done, or the state is the same
pub may_finish : (v : Tables) (paths : Paths) → Sound v paths → (i : ℕ) (q : Live) → v.request i ≡ Some q → (m : Machine)
    → m.state ≡ state v → m.done i ≡ false → (machine v).done ≡ put m.done i (is_done (v.home i) (Some q)) → MayFinish v.setting m (machine v)
may_finish v paths s i q here m same pending now = go (eqb (v.home i) (6 + 3 * q.comm)) refl
  where
    go : (b : Bool) → eqb (v.home i) (6 + 3 * q.comm) ≡ b → MayFinish v.setting m (machine v)
    go true e = inr (subst (λ (u : Machine). MachineStep v.setting m Finish Nothing u)
        (λ z. record { state = same z; done = ((ap (λ b. put m.done i b) (sym e)) ∙ sym now) z })
        (finish i (finishes v paths s i q here (eqb-true (v.home i) (6 + 3 * q.comm) e) m same pending)))
    go false e = inl (λ z. record { state = same z; done = sym (now ∙ (ap (λ b. put m.done i b) e ∙ put_self m.done i false pending)) z })

-- ---- init and post

module _ (v : Tables) (i : ℕ) (q : Live) (home : ℕ → ℕ) where
  pub inited_state : state (posting v i q home) ≡ created (state v) (new_ticket v i) (as_request q) q.sig
  inited_state =
      λ z. record {
        generation = put v.generation i (suc (v.generation i));
        request =
            map_put asked v.request i (Some q) z;
        posts = (posting v i q home).posts;
        given = v.given;
      }

  -- a start, of the slot's request
  pub started_state : (bytes : List ℕ) (o : Progress) → state (joining v i q bytes o home) ≡ started (state v) i (as_request q) bytes
  started_state bytes o =
      λ z. record {
        generation = v.generation;
        request = map_put asked v.request i (Some (begun q o)) z;
        posts = v.posts;
        given =
            put_in v.given (at q q.starts) q.member (Some bytes);
      }

  pub posted_state : (bytes : List ℕ) (o : Progress)
      → state (joining (posting v i q home) i q bytes o home) ≡ started (created (state v) (new_ticket v i) (as_request q) q.sig) i (as_request q) bytes
  posted_state bytes o =
      λ z. record {
        generation = put v.generation i (suc (v.generation i));
        request =
            (map_put asked (put v.request i (Some q)) i (Some (begun q o))
            ∙ ap (λ (f : ℕ → Option Request). put f i (Some (as_request (begun q o)))) (map_put asked v.request i (Some q))) z;
        posts =
            (posting v i q home).posts;
        given = put_in v.given (at q q.starts) q.member (Some bytes);
      }

module _ (v : Tables) (i : ℕ) (q : Live) (low : i < v.setting.slots) (spare : v.request i ≡ None)
    (unworn : v.generation i < v.setting.wear) (rank : ℕ) (plan : Planned)
    (member_is : member_of rank (group v.setting q.comm) ≡ Some q.member) (place_is : q.place ≡ length (v.posts q.comm q.member))
    (sig_is : q.sig ≡ plan.sig) where
  is_new : IsNew v.setting (state v) (new_ticket v i)
  is_new = record { low = low; spare = ap asked spare; unworn = unworn; next = refl }

  pub inits : (home : ℕ → ℕ) → as_request q ≡ new_request rank q.comm q.member q.place Persistent
      → refusal v.setting (state v) (Init rank q.comm plan) ≡ None
      → Inits v.setting (state v) rank (new_ticket v i) q.comm q.place plan (state (posting v i q home))
  inits home is accepted = record {
    member = q.member;
    accepted = accepted;
    member_is = member_is;
    place_is = place_is;
    new = is_new;
    leaves = inited_state v i q home ∙ (λ z. created (state v) (new_ticket v i) (is z) (sig_is z));
  }

  pub posts : (home : ℕ → ℕ) (bytes : List ℕ) (o : Progress) → as_request q ≡ new_request rank q.comm q.member q.place Once
      → refusal v.setting (state v) (Post rank q.comm plan bytes) ≡ None
      → Posts v.setting (state v) rank (new_ticket v i) q.comm q.place plan bytes (state (joining (posting v i q home) i q bytes o home))
  posts home bytes o is accepted = record {
    member = q.member;
    accepted = accepted;
    member_is = member_is;
    place_is = place_is;
    new = is_new;
    leaves = posted_state v i q home bytes o ∙ (λ z. started (created (state v) (new_ticket v i) (is z) (sig_is z)) i (is z) bytes);
  }

-- ---- start, retire, free: of the slot's request

module _ (v : Tables) (i : ℕ) (q : Live) (here : v.request i ≡ Some q) (rank : ℕ) (home : ℕ → ℕ) where
  pub starts : (bytes : List ℕ) (o : Progress) → refusal v.setting (state v) (Start rank (ticket v i) bytes) ≡ None
      → Starts v.setting (state v) rank (ticket v i) q.starts bytes (state (joining v i q bytes o home))
  starts bytes o accepted = record {
    request = as_request q;
    accepted = accepted;
    is = finds v i q here;
    start_is = refl;
    leaves = started_state v i q home bytes o;
  }

  pub frees : refusal v.setting (state v) (Free rank (ticket v i)) ≡ None → Frees v.setting (state v) rank (ticket v i) (state (freeing v i home))
  frees accepted =
      record {
        accepted = accepted;
        leaves =
            λ z. record { generation = v.generation; request = map_put asked v.request i None z; posts = v.posts; given = v.given };
      }

  pub left_state : state (leaving v i q home) ≡ holding (state v) i (rested (as_request q))
  left_state =
      λ z. record {
        generation = v.generation;
        request =
            (map_put asked v.request i (rests q) ∙ ap (λ (o : Option Request). put (state v).request i o) (by q.sig.mode refl)) z;
        posts = v.posts;
        given = v.given;
      }
    where
      by : (m : Mode) → q.sig.mode ≡ m → asked (rests_by q.sig.mode q) ≡ rested_by q.sig.mode (as_request q)
      by Once e = subst (λ (m : Mode). asked (rests_by m q) ≡ rested_by m (as_request q)) (sym e) refl
      by Persistent e = (λ z. asked (rests_by (e z) q)) ∙ sym (λ z. rested_by (e z) (as_request q))

  module _ (paths : Paths) (s : Sound v paths) (list : v.home i ≡ 6 + 3 * q.comm) (bytes : List ℕ)
      (bytes_is : bytes ≡ read_of q.buf (family q.sig (size v.setting q.comm) q.member).output)
      (accepted : refusal v.setting (state v) (Retire rank (ticket v i)) ≡ None) where
    held : Holding v q
    held = holding_value v paths s i q here list

    retired : (u : State) → Clears v.setting (holding (state v) i (rested (as_request q))) (key q) u
        → Retires v.setting (state v) rank (ticket v i) q.comm q.place (before q.starts) bytes u
    retired u clears = record {
      request = as_request q;
      sig = q.sig;
      accepted = accepted;
      is = finds v i q here;
      comm_is = refl;
      place_is = refl;
      ready = record { active = held.active; start_is = counted v paths s.base i q here held.active; sig_is = s.base.own i q here; needed = held.needed };
      bytes_is = bytes_is ∙ held.value_is;
      leaves = clears;
    }

    after : (over : q.round ≡ length (family q.sig (size v.setting q.comm) q.member).rounds) → Base (leaving v i q home) (put_in paths (key q) q.member None)
    after over = base_leaves v paths s.base i q here held.active home over

    finished : q.round ≡ length (family q.sig (size v.setting q.comm) q.member).rounds
    finished = (finished_there (size v.setting q.comm) (v.home i) (v.mail (key q)) q list (s.stands i q here)).1

    pub retires_kept : (IsLast (leaving v i q home) (key q) → ⊥)
        → Retires v.setting (state v) rank (ticket v i) q.comm q.place (before q.starts) bytes (state (leaving v i q home))
    retires_kept more =
        retired (state (leaving v i q home))
        (inr (
          (λ over. more (over_is_last (leaving v i q home) (put_in paths (key q) q.member None) (after finished) (key q)
              (subst (λ (u : State). IsOver v.setting u (key q)) (sym left_state) over))),
          left_state,
        ))

    pub retires_last : IsLast (leaving v i q home) (key q)
        → Retires v.setting (state v) rank (ticket v i) q.comm q.place (before q.starts) bytes (state (dissolving (leaving v i q home) (key q)))
    retires_last last =
        retired (state (dissolving (leaving v i q home) (key q)))
        (inl (
          subst (λ (u : State). IsOver v.setting u (key q)) left_state
              (last_is_over (leaving v i q home) (put_in paths (key q) q.member None) (after finished) (key q) last),
          ap (λ (u : State). forgotten u (key q)) left_state,
        ))

-- ---- an action, and a delivery

pub acted_state : (v : Tables) (i : ℕ) (q : Live) → v.request i ≡ Some q → (p : Progress) (mail : Key → Mail) (home : ℕ → ℕ)
    → state (acting v i q p mail home) ≡ state v
acted_state v i q here p mail home =
    λ z. record {
      generation = v.generation;
      request =
          (map_put asked v.request i (Some (advanced q p)) ∙ put_self (λ j. asked (v.request j)) i (Some (as_request q)) (ap asked here)) z;
      posts =
          v.posts;
      given = v.given;
    }

-- an action is no step, or a finish
pub acted_steps : (v : Tables) (i : ℕ) (q : Live) (here : v.request i ≡ Some q) (p : Progress) (mail : Key → Mail) (home : ℕ → ℕ)
    → ((j : ℕ) → j ≢ i → home j ≡ v.home j) → (v.home i ≢ 6 + 3 * q.comm) → (after : Paths)
    → Sound (acting v i q p mail home) after → MayFinish v.setting (machine v) (machine (acting v i q p mail home))
acted_steps v i q here p mail home away going after s =
    may_finish (acting v i q p mail home) after s i (advanced q p) (put_same v.request i (Some (advanced q p))) (machine v)
    (sym (acted_state v i q here p mail home))
    (ap (is_done (v.home i)) here ∙ ne_eqb (v.home i) (6 + 3 * q.comm) going)
    (done_changes v i (Some (advanced q p)) home away)

-- who is called to Ready was not done and is not
pub woken_same : (v : Tables) (i : ℕ) (q : Live) → v.request i ≡ Some q → v.home i ≡ 5 + 3 * q.comm → (home : ℕ → ℕ) → home i ≡ 2
    → ((j : ℕ) → j ≢ i → home j ≡ v.home j) → machine (rehoming v home) ≡ machine v
woken_same v i q here queue home two away = λ z. record { state = state v; done = λ j. same j (cases_eq j i) z }
  where
    same : (j : ℕ) → (j ≡ i) ⊎ (j ≡ i → ⊥) → is_done (home j) (v.request j) ≡ is_done (v.home j) (v.request j)
    same j (inr d) = ap (λ l. is_done l (v.request j)) (away j d)
    same j (inl e) =
        (λ z. is_done (home (e z)) (v.request (e z)))
        ∙ ((λ z. is_done (two z) (here z))
        ∙ (ne_eqb 2 (6 + 3 * q.comm) (λ x. omega arith)
        ∙ (sym (ne_eqb (5 + 3 * q.comm) (6 + 3 * q.comm) (λ x. omega arith))
        ∙ ((λ z. is_done (sym queue z) (sym here z)) ∙ (λ z. is_done (v.home (sym e z)) (v.request (sym e z)))))))
