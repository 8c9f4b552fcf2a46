-- What an accepted call of the engine has tested.
use Rattle.std.proofs.Common.{◌≡◌, ℕ, ◌<◌, ◌≤◌, List, ◌∷◌, ◌++◌, [], length, None, sym, ap, subst, ◌∙◌, ltb-true}
use Rattle.std.specs.Prelude.{nat_lt}
use Rattle.coll_kinds.specs.declared.kind.Mode.{Mode}
use Rattle.coll_kinds.specs.declared.kind.Mode.TheVariants.{Once, Persistent}
use Rattle.coll_kinds.specs.declared.refusal.Refusal.TheVariants.{Full}
use Rattle.coll_kinds.specs.Common.{broken, given_len}
use Rattle.coll_lists.specs.Layouts.{sequence}
use Rattle.coll_arena.specs.Slots.{Slots}
use Rattle.coll_queues.specs.Postings.{Postings}
use Rattle.coll_queues.specs.Refusing.{judge_refusal, member_refusal}
use Rattle.coll_machine.specs.Common.{Setting, Planned, Post, Init, refusal, wrong_length}
use Rattle.coll_machine.proofs.Accepted.{all_none, fits}
use Rattle.coll_refinement.specs.Requests.{Live}
use Rattle.coll_refinement.specs.Tables.{Tables, state}
use Rattle.coll_refinement.specs.Shown.{Instances, tables}
use Rattle.coll_refinement.specs.Cores.{IsCore}
use Rattle.coll_refinement.proofs.engine.Statements.{EntryCore, MayEnter, full_refusal}
use Rattle.coll_refinement.specs.Engines.{entry_refusals}
use Rattle.coll_refinement.proofs.tables.Accepted.{Passed, inited_passed, posted_passed}
use Rattle.coll_refinement.proofs.engine.Calls.{few, number_is}
use Rattle.coll_refinement.proofs.engine.Tests.{init_refused, post_refused}

module _ {R : Type 0} (shown : R → Live) (g : Setting) (a : Slots R) (q : Postings) (m : Instances) (rank comm : ℕ)
    (plan : Planned) (c : IsCore shown g a q m) where
  may_enter : (mode : Mode) → Passed (tables shown g a q m) comm rank mode plan → member_refusal q comm rank ≡ None
      → judge_refusal q comm rank plan.sig ≡ None → full_refusal a ≡ None → MayEnter g a q rank comm mode plan
  may_enter mode p there judged room = record {
    member_there = there;
    judged = judged;
    number_is = number_is shown g a q m c comm rank plan p.member_is;
    size_is = p.n_is;
    low = subst (λ n. plan.member < n) (sym p.n_is) p.low;
    few = subst (λ n. n ≤ 64) (sym p.n_is) (few shown g a q m c comm);
    checked = subst (λ n. broken plan.sig n ≡ None) (sym p.n_is) p.checked;
    mode_is = p.mode_is;
    free = ltb-true 0 (length (sequence a.lists 0)) (fits (nat_lt 0 (length (sequence a.lists 0))) Full room);
  }

pub entry_core : {R : Type 0} → EntryCore R
entry_core {R} shown g a q m rank comm plan c s = (of_post, of_init)
  where
    v : Tables
    v = tables shown g a q m

    of_post : (bytes : List ℕ) → refusal g (state v) (Post rank comm plan bytes) ≡ None
        → MayEnter g a q rank comm Once plan × (length bytes ≡ given_len plan.sig plan.n plan.member)
    of_post bytes e =
        let h = all_none (entry_refusals q rank comm Once plan
        ++ wrong_length plan.sig plan.n plan.member bytes ∷ full_refusal a ∷ []) (sym (post_refused shown g a q m rank comm plan bytes c s) ∙ e) in
        let p = posted_passed v comm rank plan bytes e in
        (may_enter shown g a q m rank comm plan c Once p.0 h.0 h.1.1.1.1.0 h.1.1.1.1.1.1.0, p.1 ∙ ap (λ n. given_len plan.sig n plan.member) (sym p.0.n_is))

    of_init : refusal g (state v) (Init rank comm plan) ≡ None → MayEnter g a q rank comm Persistent plan
    of_init e =
        let h = all_none (entry_refusals q rank comm Persistent plan ++ full_refusal a ∷ []) (sym (init_refused shown g a q m rank comm plan c s) ∙ e) in
        may_enter shown g a q m rank comm plan c Persistent (inited_passed v comm rank plan e) h.0 h.1.1.1.1.0 h.1.1.1.1.1.0
