-- A step of the machine, and its entry; a run, and its trace.
use Rattle.std.proofs.Common.{List, [], ◌∷◌, ◌++◌, refl, sym, ap, subst}
use Rattle.coll_kinds.specs.declared.refusal.Refusal.{Refusal}
use Rattle.coll_kinds.specs.declared.refusal.Refusal.TheVariants.{NoMemory}
use Rattle.coll_machine.specs.Common.{Setting, State, Machine, nothing, Call, Entry, Posted, Inited, Started, Retired, Freed, MachineStep, post, init}
use Rattle.coll_machine.specs.Common.{start, finish, retire, wait, free, refuse, short, Event, Runs, Enters, Leads}
use Rattle.coll_machine.specs.Calls as calls
use Rattle.coll_machine.specs.Laws.{Adds, StepsAreTraced, Shows, RunsAreTraced}

-- one entry more
pub leads_push : (g : Setting) (s t u : State) (es : List Entry) (e : Entry) → Leads g s es t → Enters g t e u → Leads g s (es ++ e ∷ []) u
leads_push g s t u [] e l h = (u, subst (λ (s : State). Enters g s e u) (sym l) h, refl)
leads_push g s t u (x ∷ es) e l h = (l.0, l.1, leads_push g l.0 t u es e l.2 h)

-- what an accepted step leads to, by its own entry alone
pub record Step (g : Setting) (s u : State) (call : Call) (reply : calls.Reply) : Type 0 where
  pub added : List Entry
  pub adds : Adds call reply added
  pub leads : Leads g s added u

adds_none : (call : Call) (why : Refusal) → Adds call (calls.Refused why) []
adds_none (calls.Post rank comm plan bytes) why = refl
adds_none (calls.Init rank comm plan) why = refl
adds_none (calls.Start rank t bytes) why = refl
adds_none (calls.Retire rank t) why = refl
adds_none (calls.Free rank t) why = refl
adds_none calls.Finish why = refl

pub step_of : (g : Setting) (m n : Machine) (call : Call) (reply : calls.Reply) → MachineStep g m call reply n → Step g m.state n.state call reply
step_of g _ _ _ _ (post {s} {u} {done} rank comm place plan bytes t h) =
    record { added = Posted rank t comm place plan.sig bytes ∷ []; adds = (place, refl); leads = (u, (plan, refl, h), refl) }
step_of g _ _ _ _ (init {s} {u} {done} rank comm place plan t h) =
    record { added = Inited rank t comm place plan.sig ∷ []; adds = (place, refl); leads = (u, (plan, refl, h), refl) }
step_of g _ _ _ _ (start {s} {u} {done} rank begin t bytes h) = record { added = Started rank t begin bytes ∷ []; adds = (begin, refl); leads = (u, h, refl) }
step_of g _ _ _ _ (finish {m} {done} slot h) = record { added = []; adds = refl; leads = refl }
step_of g _ _ _ _ (retire {s} {u} {done} rank t comm place begin bytes h d) =
    record { added = Retired rank t comm place begin bytes ∷ []; adds = refl; leads = (u, h, refl) }
step_of g _ _ _ _ (wait {m} rank t h d) = record { added = []; adds = refl; leads = refl }
step_of g _ _ _ _ (free {s} {u} {done} rank t h) = record { added = Freed rank t ∷ []; adds = refl; leads = (u, h, refl) }
step_of g _ _ _ _ (refuse {m} call why h) = record { added = []; adds = adds_none call why; leads = refl }
step_of g _ _ _ _ (short {m} call takes h) = record { added = []; adds = adds_none call NoMemory; leads = refl }

-- traces one after the other, as completion calls make them
pub leads_append : (g : Setting) (s t u : State) (es fs : List Entry) → Leads g s es t → Leads g t fs u → Leads g s (es ++ fs) u
leads_append g s t u [] fs l h = subst (λ (s : State). Leads g s fs u) (sym l) h
leads_append g s t u (x ∷ es) fs l h = (l.0, l.1, leads_append g l.0 t u es fs l.2 h)

pub steps_are_traced : StepsAreTraced
steps_are_traced g m n call reply es l step =
    let h = step_of g m n call reply step in
    (h.added, h.adds, leads_append g nothing m.state n.state es h.added l h.leads)

runs_from : (g : Setting) (m n : Machine) (events : List Event) → Runs g m events n → (es : List Entry) × Shows events es × Leads g m.state es n.state
runs_from g m n [] r = ([], refl, ap (λ (m : Machine). m.state) r)
runs_from g m n (e ∷ events) r =
    let h = step_of g m r.0 e.call e.reply r.1 in
    let rest = runs_from g r.0 n events r.2 in
    (h.added ++ rest.0, (h.added, rest.0, h.adds, rest.1, refl), leads_append g m.state r.0.state n.state h.added rest.0 h.leads rest.2)

pub runs_are_traced : RunsAreTraced
runs_are_traced g events m r = runs_from g _ m events r
