use Rattle.std.proofs.Common.{◌≡◌, ◌<◌, ◌≤◌, ◌+◌, ◌++◌, ℕ, List, Vec, vec_capacity, vec_len, length, slice_index_or, arith, ap, sym, ◌∙◌}
use Rattle.std.specs.Global.{Global}
use Rattle.coll_core.specs.declared.outcome.Outcome.{Outcome}
use Rattle.coll_machine.specs.Settings.{Setting}
use Rattle.coll_complete.specs.Requests.{refusal_at}
use Rattle.coll_complete.proofs.Sweeps.{noted, noted-none, swept-at, swept-fits, swept-left, swept_list-set, swept_pushed}
use Rattle.coll_complete.proofs.completing.complete_all.Goals as goal
use Rattle.coll_complete.proofs.completing.complete_all.Goals.{in-Some, in_default}

abbrev Outcomes : Type 0
Outcomes = Vec (ℕ × Outcome) Global

abbrev items_of : Outcomes → List (ℕ × Outcome)
items_of v = v.items

pub complete_if_done-requires : goal.complete_if_done-requires
complete_if_done-requires g c =
    let m = g.C.Requests.machine c.args.core.now in
    let n = g.C.Requests.machine c.loop-position.core in
    let i = c.loop-position.position in
    let list = c.args.requests.now in
    let lt : i < length list = omega arith in
    let x = slice_index_or c.loop-position.requests i c.index-requests-position.result in
    let at = swept-at m list c.loop-position.requests i c.index-requests-position.result
    c.loop-position.invariant.requests lt in
    let p = c.loop-position.invariant.pushes in
    record {
      accepted =
          ap (λ (g : Setting). refusal_at g n.state c.args.rank x) c.loop-position.invariant.set
          ∙ swept-fits (g.C.Requests.setting c.args.core.now) c.args.rank list m n i _ p.0 x p.2 c.requires.accepted at;
    }

pub loop-position-preserved : goal.loop-position-preserved
loop-position-preserved g c =
    let m = g.C.Requests.machine c.args.core.now in
    let n = g.C.Requests.machine c.loop-position.core in
    let i = c.loop-position.position in
    let list = c.args.requests.now in
    let lt : i < length list = omega arith in
    let x = slice_index_or c.loop-position.requests i c.index-requests-position.result in
    let at = swept-at m list c.loop-position.requests i c.index-requests-position.result
    c.loop-position.invariant.requests lt in
    let p = c.loop-position.invariant.pushes in
    let r = c.complete_if_done.result in
    let pushed : c.match-complete_if_done.out.items ≡ c.loop-position.out.items ++ noted i r =
    elim c.match-complete_if_done.branch [
      | in-Some w ↦ ap items_of w.out-is
          ∙ (w.push_reserved.ensures.items ∙ ap (λ r. c.loop-position.out.items ++ noted i r) (sym w.in-Some.is))
      | in_default w ↦ ap items_of w.out-is ∙ sym (noted-none i r c.loop-position.out.items w.in_default.not-Some)
    ] in
    let long : vec_len c.match-complete_if_done.out ≤ vec_len c.loop-position.out + 1 =
    elim c.match-complete_if_done.branch [
      | in-Some w ↦ (let e = ap vec_len w.out-is in let h = w.push_reserved.ensures.len in omega (arith, e, h))
      | in_default w ↦ (let e = ap vec_len w.out-is in omega (arith, e))
    ] in
    let capacity : vec_capacity c.match-complete_if_done.out ≡ vec_capacity c.loop-position.out =
    elim c.match-complete_if_done.branch [
      | in-Some w ↦ ap vec_capacity w.out-is ∙ w.push_reserved.ensures.capacity
      | in_default w ↦ ap vec_capacity w.out-is
    ] in
    record {
      set = c.complete_if_done.ensures.setting ∙ c.loop-position.invariant.set;
      requests =
          swept_list-set m n list c.loop-position.requests i x c.complete_if_done.new.request
          c.loop-position.invariant.requests at c.complete_if_done.ensures.request
          (swept-left c.args.rank list m n i _ p.0 x p.2 at);
      room = omega arith;
      capacity = capacity ∙ c.loop-position.invariant.capacity;
      pushes =
          swept_pushed (g.C.Requests.setting c.args.core.now) (g.C.Requests.setting c.loop-position.core) c.args.rank
          list m n (g.C.Requests.machine c.complete_if_done.new.core) i _ _
          c.args.out.now.items c.loop-position.out.items c.match-complete_if_done.out.items x r
          c.requires.distinct c.requires.accepted p at
          c.complete_if_done.ensures.outcome
          (g.met.C.Requests.did_runs _ _ _ _ _ c.complete_if_done.ensures.completes)
          (λ es before. g.met.C.Requests.did_more _ _ _ _ _ _ es _ before c.complete_if_done.ensures.completes) pushed;
    }
