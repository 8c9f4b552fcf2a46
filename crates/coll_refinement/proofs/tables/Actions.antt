-- Each action, whole.
use Rattle.std.proofs.Common.{◌≡◌, ℕ, ◌+◌, ◌*◌, ◌≢◌, ◌⊎◌, inl, inr, true, false, Some, None, sym, ap, subst, ◌∙◌, arith, ne_eqb}
use Rattle.std.proofs.lemmas.Option.{same_Some}
use Rattle.std.proofs.lemmas.Bool.{cases_eq}
use Rattle.coll_sched.specs.Worlds.{Progress}
use Rattle.coll_kinds.specs.Puts.{put}
use Rattle.coll_kinds.proofs.Puts.{put_same}
use Rattle.coll_machine.specs.Common.{size, Machine, put_in, MayFinish}
use Rattle.coll_machine.specs.declared.key.Key.{Key}
use Rattle.coll_refinement.specs.Requests.{Live, key, advanced}
use Rattle.coll_refinement.specs.Tables.{Mail, Tables, Paths, is_done, state, machine}
use Rattle.coll_refinement.specs.Sound.{Stands, ready, running, idle, queued, done, Lies, Sound, IsSound, Called}
use Rattle.coll_refinement.specs.Changes.{acting, rehoming, received, delivered}
use Rattle.coll_refinement.proofs.tables.CallTests.{Away, Acting, Waking}
use Rattle.coll_refinement.proofs.tables.Invariant.{all_stand, Sent, sound_compute, sound_receive, sent, none_called, delivered as wakened}
use Rattle.coll_refinement.proofs.tables.Simulation.{done_changes, may_finish, acted_state, acted_steps, woken_same}
use Rattle.coll_sched.specs.declared.region.Region.{Region}
use Rattle.coll_sched.specs.declared.action.Action.{Action}
use Rattle.coll_sched.specs.declared.action.Action.TheVariants.{Send, Recv}
use Rattle.coll_refinement.proofs.tables.Statements.{ComputeKeeps, ReceiveKeeps, SendKeeps, RehomeKeeps}
use Rattle.coll_refinement.proofs.tables.OneRequest.{base_rehomes}

-- on Ready and Running it is active
pub going : (n l : ℕ) (mail : Mail) (q : Live) → (l ≡ 2) ⊎ (l ≡ 3) → Stands n mail l q → q.active ≡ true
going n l mail q h (ready a t e nx d) = t
going n l mail q h (running op ty a b into t e nx) = t
going n l mail q h (queued of into t e nx none) = t
going n l mail q h (done t e r) = t
going n l mail q (inl h) (idle t e p) = absurd (omega arith)
going n l mail q (inr h) (idle t e p) = absurd (omega arith)

not_done : (l c : ℕ) → (l ≡ 2) ⊎ (l ≡ 3) → l ≢ 6 + 3 * c
not_done l c (inl h) e = omega arith
not_done l c (inr h) e = omega arith

-- nobody stands right and is called
pub not_both : (n l : ℕ) (mail : Mail) (q : Live) → Stands n mail l q → Called n mail l q → ⊥
not_both n l mail q (idle t e p) h = let x : l ≡ 5 + 3 * q.comm = h.on_queue in absurd (omega arith)
not_both n l mail q (ready a t e nx d) h = let x : l ≡ 5 + 3 * q.comm = h.on_queue in absurd (omega arith)
not_both n l mail q (running op ty a b into t e nx) h = let x : l ≡ 5 + 3 * q.comm = h.on_queue in absurd (omega arith)
not_both n l mail q (done t e r) h = let x : l ≡ 5 + 3 * q.comm = h.on_queue in absurd (omega arith)
not_both n l mail q (queued of into t e nx none) h =
    h.came (subst (λ x. mail x q.member q.round ≡ None) (same_of (same_Some (Recv of into) (Recv h.of h.into) (sym nx ∙ h.next_is))) none)
  where
    same_of : {a b : ℕ} {g k : Region} → Recv a g ≡ Recv b k → a ≡ b
    same_of e = cc

module _ (v : Tables) (i : ℕ) (q : Live) (a : Action) (o : Progress) (home : ℕ → ℕ) (s : IsSound v) (h : Acting v i q a o home) where
  moves : q.active ≡ true
  moves = going (size v.setting q.comm) (v.home i) (v.mail (key q)) q h.list (s.sound.stands i q h.here)

  abbrev ways : Paths
  ways = put_in s.paths (key q) q.member (Some o)

  stepped : (mail : Key → Mail) (after : Paths) → Sound (acting v i q o mail home) after → MayFinish v.setting (machine v) (machine (acting v i q o mail home))
  stepped mail after = acted_steps v i q h.here o mail home h.away (not_done (v.home i) q.comm h.list) after

pub compute_keeps : ComputeKeeps
compute_keeps v i q a o home s h loc b mine =
    (record { paths = ways v i q a o home s h; sound = sound }, stepped v i q a o home s h v.mail (ways v i q a o home s h) sound)
  where
    sound : Sound (acting v i q o v.mail home) (ways v i q a o home s h)
    sound = sound_compute v s.paths s.sound i q h.here (moves v i q a o home s h) o home h.away a h.next_is loc b h.over mine

pub receive_keeps : ReceiveKeeps
receive_keeps v i q of into bytes o home s h there b mine = (
  record { paths = ways v i q (Recv of into) o home s h; sound = sound },
  stepped v i q (Recv of into) o home s h (received v q of) (ways v i q (Recv of into) o home s h) sound,
)
  where
    sound : Sound (acting v i q o (received v q of) home) (ways v i q (Recv of into) o home s h)
    sound = sound_receive v s.paths s.sound i q h.here (moves v i q (Recv of into) o home s h) o home h.away of into bytes h.next_is there b h.over mine

pub send_keeps : SendKeeps
send_keeps v i q to from o home s h b mine =
    (λ none. let x = still none in (record { paths = after; sound = x }, stepped v i q (Send to from) o home s h (delivered v q to from) after x), woken)
  where
    w : Tables
    w = acting v i q o (delivered v q to from) home

    after : Paths
    after = put_in s.paths (key q) q.member (Some o)

    gone : Sent w after (key q) to
    gone = sent v s.paths s.sound i q h.here (moves v i q (Send to from) o home s h) o home h.away to from h.next_is b h.over mine

    still : ((j : ℕ) → Waking w (key q) to j → ⊥) → Sound w after
    still none = none_called w after (key q) to gone (λ j r seat is called. none j (record { req = r; seat = seat; is = is; called = called }))

    here : put v.request i (Some (advanced q o)) i ≡ Some (advanced q o)
    here = put_same v.request i (Some (advanced q o))

    woken : (j : ℕ) (later : ℕ → ℕ) → Waking w (key q) to j → later j ≡ 2 → Away w j later
        → IsSound (rehoming w later) × MayFinish v.setting (machine v) (machine (rehoming w later))
    woken j later x two away = (
      record { paths = after; sound = sound },
      may_finish (rehoming w later) after sound i (advanced q o) here (machine v) (sym (acted_state v i q h.here o (delivered v q to from) home)) pending now,
    )
      where
        sound : Sound (rehoming w later) after
        sound = wakened w after (key q) to gone j x.req later x.seat x.is x.called two away

        apart : i ≢ j
        apart e =
            let same : advanced q o ≡ x.req = same_Some (advanced q o) x.req (sym here ∙ (ap (put v.request i (Some (advanced q o))) e ∙ x.is)) in
            not_both (size v.setting q.comm) (home i) (delivered v q to from (key q)) (advanced q o) mine
            (subst (λ (r : Live). Called (size v.setting r.comm) (delivered v q to from (key r)) (home i) r) (sym same)
            (subst (λ l. Called (size v.setting x.req.comm) (delivered v q to from (key x.req)) (home l) x.req) (sym e) x.called))

        pending : (machine v).done i ≡ false
        pending = ap (is_done (v.home i)) h.here ∙ ne_eqb (v.home i) (6 + 3 * q.comm) (not_done (v.home i) q.comm h.list)

        now : (machine (rehoming w later)).done ≡ put (machine v).done i (is_done (later i) (Some (advanced q o)))
        now = ap (λ (m : Machine). m.done) (woken_same w j x.req x.is x.called.on_queue later two away)
            ∙ (done_changes v i (Some (advanced q o)) home h.away ∙ ap (λ l. put (machine v).done i (is_done l (Some (advanced q o)))) (sym (away i apart)))

pub rehome_keeps : RehomeKeeps
rehome_keeps v i q home s here was is away mine =
    (record { paths = s.paths; sound = sound }, λ z. record { state = state v; done = λ j. same j (cases_eq j i) z })
  where
    sound : Sound (rehoming v home) s.paths
    sound = all_stand (rehoming v home) s.paths i (record {
      base = base_rehomes v s.paths home s.sound.base;
      stands = λ j r d e. subst (λ l. Stands (size v.setting r.comm) (v.mail (key r)) l r) (sym (away j d)) (s.sound.stands j r e);
      lies = λ j d low e. subst (λ l. Lies v.setting.wear (v.generation j) l) (sym (away j d)) (s.sound.lies j low e);
      numbered = s.sound.numbered;
    }) q here mine

    same : (j : ℕ) → (j ≡ i) ⊎ (j ≡ i → ⊥) → is_done (home j) (v.request j) ≡ is_done (v.home j) (v.request j)
    same j (inr d) = ap (λ l. is_done l (v.request j)) (away j d)
    same j (inl e) =
        (λ z. is_done (home (e z)) (v.request (e z)))
        ∙ (ap (is_done (home i)) here
        ∙ (ne_eqb (home i) (6 + 3 * q.comm) is
        ∙ (sym (ne_eqb (v.home i) (6 + 3 * q.comm) was) ∙ (ap (is_done (v.home i)) (sym here) ∙ (λ z. is_done (v.home (sym e z)) (v.request (sym e z)))))))
