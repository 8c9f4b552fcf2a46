-- The actions that are left.
use Rattle.std.proofs.Common.{◌≡◌, ℕ, zero, suc, ◌+◌, ◌*◌, ◌<◌, ◌≤◌, Bool, true, false, List, [], ◌∷◌, length, Option, Some, None, refl, sym, ap}
use Rattle.std.proofs.Common.{subst, ◌∙◌, arith}
use Rattle.std.proofs.lemmas.Bool.{cond-true, cond-false}
use Rattle.std.proofs.lemmas.Option.{slice_get_within}
use Rattle.std.proofs.Math.Nat.{mul-suc}
use Rattle.coll_kinds.specs.Puts.{put}
use Rattle.coll_sched.specs.declared.action.Action.{Action}
use Rattle.coll_sched.specs.Common.{actions_of, left_in, remaining, Parts}
use Rattle.coll_sched.proofs.Points.{keeps_remaining, lowers_remaining}
use Rattle.coll_arena.specs.Totals.{sum_to}
use Rattle.coll_arena.proofs.Totals.{sum_to-put}
use Rattle.coll_machine.specs.Settings.{size}
use Rattle.coll_plans.specs.Plans.{IsPlanned, family, most_actions}
use Rattle.coll_refinement.specs.Requests.{Live, key, advanced}
use Rattle.coll_refinement.specs.Tables.{Tables}
use Rattle.coll_refinement.specs.Sound.{IsSound}
use Rattle.coll_refinement.specs.Remaining.{left_of, left_by, actions_left}
use Rattle.coll_refinement.proofs.tables.Statements.{ActsLower, LittleLeft}
use Rattle.coll_refinement.proofs.tables.Actions.{going}
use Rattle.coll_refinement.proofs.tables.OneRequest.{signed_own}

-- ---- no point has more left than the first

left_first : (rounds : List (List Action)) (k i : ℕ) → left_in rounds k i ≤ left_in rounds 0 0
left_first [] k i = omega arith
left_first (actions ∷ rest) zero i = omega arith
left_first (actions ∷ rest) (suc k) i = let below : left_in rest k i ≤ left_in rest 0 0 = left_first rest k i in omega arith

sum_most : (f : ℕ → ℕ) (most n : ℕ) → ((i : ℕ) → f i ≤ most) → sum_to f n ≤ most * n
sum_most f most zero h = omega arith
sum_most f most (suc n) h =
    let below : sum_to f n ≤ most * n = sum_most f most n h in
    let this : f n ≤ most = h n in
    let more : most * suc n ≡ most * n + most = mul-suc most n in
    omega arith

-- ---- of one request

module _ (v : Tables) (s : IsSound v) (i : ℕ) (q : Live) (here : v.request i ≡ Some q) where
  abbrev mine : Parts
  mine = family q.sig q.members q.member

  pub left_active : q.active ≡ true → left_of q ≡ remaining mine q.round q.index
  left_active t = cond-true q.active (remaining mine q.round q.index) 0 t

  pub left_inactive : q.active ≡ false → left_of q ≡ 0
  left_inactive f = cond-false q.active (remaining mine q.round q.index) 0 f

  planned_own : IsPlanned q.sig q.members (family q.sig q.members)
  planned_own =
      subst (λ n. IsPlanned q.sig n (family q.sig n)) (sym (s.sound.base.sized i q here))
      (s.sound.base.planned q.comm q.place q.sig (signed_own v s.paths s.sound.base i q here))

  pub left_few : left_of q ≤ most_actions
  left_few = by q.active refl
    where
      by : (b : Bool) → q.active ≡ b → left_of q ≤ most_actions
      by false e = let none : left_of q ≡ 0 = left_inactive e in omega arith
      by true e =
          let is : left_of q ≡ remaining mine q.round q.index = left_active e in
          let below : remaining mine q.round q.index ≤ remaining mine 0 0 = left_first mine.rounds q.round q.index in
          let all : remaining mine 0 0 ≤ most_actions = planned_own.short q.member in
          omega arith

pub acts_lower : ActsLower
acts_lower v i q a o mail home s h =
    let n : ℕ = size v.setting q.comm in
    let f = family q.sig q.members in
    let sized : q.members ≡ n = s.sound.base.sized i q h.here in
    let t : q.active ≡ true = going n (v.home i) (v.mail (key q)) q h.list (s.sound.stands i q h.here) in
    let within : q.index < length (actions_of (f q.member) q.round) =
    subst (λ m. q.index < length (actions_of (family q.sig m q.member) q.round)) (sym sized)
    (slice_get_within (actions_of (family q.sig n q.member) q.round) q.index a h.next_is) in
    let low : remaining (f q.member) q.round q.index ≡ suc (remaining (f q.member) q.round (suc q.index)) =
    lowers_remaining (f q.member) q.round q.index within in
    let keep : remaining (f q.member) o.round o.index ≡ remaining (f q.member) q.round (suc q.index) =
    subst (λ m. remaining (family q.sig m q.member) o.round o.index ≡ remaining (family q.sig m q.member) q.round (suc q.index))
    (sym sized) (keeps_remaining (family q.sig n q.member) q.round (suc q.index) o.round o.index h.over) in
    let was : left_by (v.request i) ≡ remaining (f q.member) q.round q.index = ap left_by h.here ∙ left_active v s i q h.here t in
    let is : left_of (advanced q o) ≡ remaining (f q.member) o.round o.index = cond-true q.active (remaining (f q.member) o.round o.index) 0 t in
    let sum : actions_left (record {
      setting = v.setting;
      generation = v.generation;
      request =
          put v.request i (Some (advanced q o));
      home = home;
      posts = v.posts;
      signed = v.signed;
      given = v.given;
      seats = v.seats;
      mail = mail;
    })
    + left_by (v.request i) ≡ actions_left v + left_of (advanced q o) =
    sum_to-put left_by v.request i (Some (advanced q o)) v.setting.slots (s.sound.numbered i q h.here).0 in
    omega arith

pub little_left : LittleLeft
little_left v s = sum_most (λ i. left_by (v.request i)) most_actions v.setting.slots (λ i. few i (v.request i) refl)
  where
    few : (i : ℕ) (o : Option Live) → v.request i ≡ o → left_by (v.request i) ≤ most_actions
    few i None e = let none : left_by (v.request i) ≡ 0 = ap left_by e in omega arith
    few i (Some q) e =
        let is : left_by (v.request i) ≡ left_of q = ap left_by e in
        let low : left_of q ≤ most_actions = left_few v s i q e in
        omega arith
