-- What the engine's condition says of the first request of Ready.
use Rattle.std.proofs.Common.{◌≡◌, ◌≢◌, ◌∙◌, ◌<◌, ◌+◌, ◌*◌, ℕ, zero, suc, List, [], ◌∷◌, Option, Some, None, length, slice_get, unwrap_or, ap, sym}
use Rattle.std.proofs.Common.{subst, arith}
use Rattle.std.proofs.lemmas.Option.{none-some, same_Some}
use Rattle.coll_kinds.specs.declared.ticket.Ticket.{Ticket}
use Rattle.coll_sched.specs.declared.action.Action.{Action}
use Rattle.coll_sched.specs.Actions.{Fits}
use Rattle.coll_arena.specs.Lookups.{IsFirst}
use Rattle.coll_arena.specs.Slots.{home, record_in}
use Rattle.coll_match.specs.Instances.{mail}
use Rattle.coll_refinement.proofs.engine.Statements as statements
use Rattle.coll_refinement.specs.Shown.{listed}
use Rattle.coll_refinement.specs.Shown as tabled
use Rattle.coll_refinement.specs.Sound.{Doable}
use Rattle.coll_refinement.proofs.engine.Reads.{active_core, ready_core}
use Rattle.std.specs.Prelude.{option_map}
use Rattle.coll_core.specs.declared.request.Request.{Request}
use Rattle.coll_core.specs.Cores.{IsCore, Parts, setting}
use Rattle.coll_core.specs.Advancing.{HaveLists}
use Rattle.coll_refinement.specs.Requests.{key}
use Rattle.coll_core.specs.Requests.{next_of, schedule, shown}
use Rattle.coll_core.specs.Steps.{IsActing, IsActingAt}

-- a communicator with members is one
some_group : (groups : List (List ℕ)) (c m : ℕ) → m < length (unwrap_or (slice_get groups c) []) → c < length groups
some_group [] c m low = absurd (omega (arith, low))
some_group (g ∷ rest) zero m low = omega arith
some_group (g ∷ rest) (suc c) m low = let h : c < length rest = some_group rest c m low in omega (arith, h)

pub have_lists : (p : Parts) → IsCore p → HaveLists p.arena
have_lists p core slot r here =
    subst (λ n. r.comm < n) core.set.comms_is
    (some_group (setting p).groups r.comm r.plan.member
    (core.sound.sound.base.member_in slot (listed (home p.arena slot) (shown r))
    (ap (λ (o : Option Request). tabled.seen (home p.arena slot) (option_map shown o)) here)))

two_not_idle : (l c : ℕ) → l ≡ 2 → l ≢ 4 + 3 * c
two_not_idle l c e f = omega (arith, e, f)

three_not_idle : (l c : ℕ) → l ≡ 3 → l ≢ 4 + 3 * c
three_not_idle l c e f = omega (arith, e, f)

pub acting : (p : Parts) → IsCore p → (i : ℕ) (x : Request) → record_in p.arena i ≡ Some x → home p.arena i ≡ 2
    → statements.IsActive shown (setting p) p.arena p.matches x
acting p core i x here home_is = active_core shown (setting p) p.arena p.queues p.matches i x core here (two_not_idle (home p.arena i) x.comm home_is)

pub running_acting : (p : Parts) → IsCore p → (i : ℕ) (x : Request) → record_in p.arena i ≡ Some x → home p.arena i ≡ 3
    → statements.IsActive shown (setting p) p.arena p.matches x
running_acting p core i x here home_is = active_core shown (setting p) p.arena p.queues p.matches i x core here (three_not_idle (home p.arena i) x.comm home_is)

at_first : (p : Parts) (t : Ticket) (x : Request) (a : Action) → IsCore p → IsFirst p.arena 2 t
    → record_in p.arena t.slot ≡ Some x → next_of (shown x) ≡ Some a → Fits (schedule (shown x)).size a
    → IsActingAt p t a x
at_first p t x a core first here next fits = record {
  first = first.first;
  live = first.live;
  here = here;
  on_ready = first.home_is;
  next_is = next;
  doable = subst (λ (b : Action). Doable (mail p.matches (key (shown x))) (shown x) b) (same_Some does.0 a (sym does.1 ∙ next)) does.2;
  fits = fits;
  filled = acts.filled;
  round_in = acts.round_in;
  comm_in = have_lists p core t.slot x here;
}
  where
    acts : statements.IsActive shown (setting p) p.arena p.matches x
    acts = acting p core t.slot x here first.home_is

    does : (b : Action) × (next_of (shown x) ≡ Some b) × Doable (mail p.matches (key (shown x))) (shown x) b
    does = ready_core shown (setting p) p.arena p.queues p.matches t.slot x core here first.home_is

pub first_acts : (p v : Parts) (t : Ticket) (x : Request) (a : Action) → p ≡ v → IsCore p → IsFirst v.arena 2 t
    → record_in p.arena t.slot ≡ Some x → next_of (shown x) ≡ Some a → Fits (schedule (shown x)).size a
    → IsActing v t a
first_acts p v t x a e core first here next fits =
    subst (λ (z : Parts). IsActing z t a) e (x, at_first p t x a core (subst (λ (z : Parts). IsFirst z.arena 2 t) (sym e) first) here next fits)

pub first_some : (p v : Parts) (t : Ticket) (x : Request) → p ≡ v → IsCore p → IsFirst v.arena 2 t
    → record_in p.arena t.slot ≡ Some x → next_of (shown x) ≢ None
first_some p v t x e core first here none =
    let does = ready_core shown (setting p) p.arena p.queues p.matches t.slot x core here (ap (λ (z : Parts). home z.arena t.slot) e ∙ first.home_is) in
    none-some does.0 (sym none ∙ does.1)

-- the same of the request that was read
pub acts_at : (p v : Parts) (t : Ticket) (x : Request) (a : Action) → p ≡ v → IsActing v t a → record_in p.arena t.slot ≡ Some x → IsActingAt p t a x
acts_at p v t x a e h here =
    let at : IsActing p t a = subst (λ (z : Parts). IsActing z t a) (sym e) h in
    subst (λ (r : Request). IsActingAt p t a r) (same_Some at.0 x (sym at.1.here ∙ here)) at.1
