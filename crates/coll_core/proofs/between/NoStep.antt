-- What a call that is no step leaves of the lists, of the actions left and of what is Done.
use Rattle.std.proofs.Common.{◌≡◌, ◌≢◌, ◌∙◌, ◌+◌, ◌*◌, ◌==◌, ◌<◌, ℕ, Bool, true, false, cond, not, [], ◌++◌, ◌∷◌, Option, Some, None, ap, refl, sym, arith}
use Rattle.std.specs.Prelude.{option_map}
use Rattle.std.proofs.lemmas.Bool.{cond-false, eqb-true, false≢true}
use Rattle.std.proofs.lemmas.List.{get_or-set_other}
use Rattle.coll_kinds.proofs.Puts.{put_other}
use Rattle.coll_lists.specs.Layouts.{Layout, sequence}
use Rattle.coll_lists.specs.Moves.{moved_back, without}
use Rattle.coll_lists.proofs.Occurrences.{sequence-without}
use Rattle.coll_sched.specs.Points.{Over, remaining}
use Rattle.coll_sched.specs.Schedules.{Parts as Schedule}
use Rattle.coll_plans.specs.Plans.{family}
use Rattle.coll_arena.specs.Slots.{Slots, count, home, record_in}
use Rattle.coll_arena.specs.Sound.{IsSound}
use Rattle.coll_arena.proofs.Lookups.{still-out}
use Rattle.coll_refinement.specs.OneSlots.{OneSlot}
use Rattle.coll_refinement.specs.Remaining.{actions_left, left_by}
use Rattle.coll_refinement.specs.Requests.{Live}
use Rattle.coll_refinement.specs.Shown as tabled
use Rattle.coll_refinement.specs.Sound.{Stands}
use Rattle.coll_refinement.specs.Tables.{Mail, Tables, machine}
use Rattle.coll_refinement.proofs.engine.ActionsLeft.{done_away, done_entered, done_here, left_changes, left_entered}
use Rattle.coll_refinement.proofs.engine.Slots.{home_here}
use Rattle.coll_core.specs.declared.request.Request.{Request}
use Rattle.coll_core.specs.Cores.{Parts, setting, Unchanged}
use Rattle.coll_core.specs.Progress.{BeginsSchedule, KeepsProgress}
use Rattle.coll_core.specs.Requests.{schedule, shown}
use Rattle.coll_core.specs.Steps.{MovesOne, left, running}

-- a slot that goes elsewhere leaves the other lists as they are
pub sequence_kept : (a : Slots Request) (b : Layout) (i list k : ℕ) → IsSound a → b ≡ moved_back i list a.lists → k ≢ list
    → k ≢ home a i → sequence b k ≡ sequence a.lists k
sequence_kept a b i list k sound is off away =
    ap (λ (l : Layout). sequence l k) is
    ∙ (get_or-set_other (without i a.lists) list k (sequence (without i a.lists) list ++ i ∷ []) [] off
    ∙ (sequence-without i a.lists k ∙ still-out (count a) i a.lists sound.lawful k away))

-- what a slot has left
abbrev pub has_left : Slots Request → ℕ → ℕ
has_left a i = left_by (tabled.seen (home a i) (option_map shown (record_in a i)))

-- ---- a slot that moves, with another record

module _ (p r : Parts) (i gen w list : ℕ) (o : Option Request) (h : OneSlot p.arena r.arena i gen w o list) (set : setting r ≡ setting p)
    (sound : IsSound p.arena) (low : i < count p.arena) (onto : 3 ≢ list) (from : 3 ≢ home p.arena i)
    (was : has_left p.arena i ≡ 0) (lists_is : r.arena.lists ≡ moved_back i list p.arena.lists) where
  pub moves_one : MovesOne p r i
  moves_one = record {
    lists_is = lists_is ∙ ap (λ l. moved_back i l p.arena.lists) (sym (home_here p.arena r.arena i gen w list o h));
    others = λ j away. ap (λ (f : ℕ → Option Request). f j) h.records ∙ put_other (record_in p.arena) i o j away;
  }

  running_kept : running r ≡ running p
  running_kept = sequence_kept p.arena r.arena.lists i list 3 sound lists_is onto from

  left_now : left r ≡ left p + left_by (tabled.seen list (option_map shown o))
  left_now =
      ap (λ g. actions_left (tabled.tables shown g r.arena r.queues r.matches)) set
      ∙ sum_of _ _ _ (has_left p.arena i) (left_changes shown (setting p) p.arena r.arena p.queues r.queues p.matches r.matches i gen w list o h low) was
    where
      sum_of : (x y z k : ℕ) → x + k ≡ y + z → k ≡ 0 → x ≡ y + z
      sum_of x y z k e f = omega (arith, e, f)

  pub keeps_progress : left_by (tabled.seen list (option_map shown o)) ≡ 0 → KeepsProgress p r i
  keeps_progress none = record { moves = moves_one; running_is = running_kept; left_is = left_now ∙ no_more (left p) _ none }
    where
      no_more : (n k : ℕ) → k ≡ 0 → n + k ≡ n
      no_more n k e = omega (arith, e)

  pub begins_schedule : (y : Request) (q : Live) (mail : Mail) → o ≡ Some y → shown y ≡ q → Stands q.members mail list q → q.active ≡ true
      → Over (schedule q) 0 0 q.round q.index → BeginsSchedule p r i (schedule q)
  begins_schedule y q mail here is stands active over = record {
    moves = moves_one;
    running_is = running_kept;
    left_is = left_now
        ∙ ap (λ n. left p + n)
        (ap (λ (x : Option Request). left_by (tabled.seen list (option_map shown x))) here
        ∙ (ap (λ (x : Live). left_by (tabled.seen list (Some x))) is
        ∙ left_entered q.members list mail q stands active refl over));
    done_is = done_here shown (setting p) p.arena r.arena p.queues r.queues p.matches r.matches i gen w list o h y here
        ∙ (ap (λ (x : Live). list == 6 + 3 * x.comm) is ∙ done_entered q.members list mail q stands active over);
    others_done = done_away shown (setting p) p.arena r.arena p.queues r.queues p.matches r.matches i gen w list o h;
  }

-- ---- what a slot has left before and after

pub left_without : (a : Slots Request) (i : ℕ) → record_in a i ≡ None → has_left a i ≡ 0
left_without a i e = ap (λ (o : Option Request). left_by (tabled.seen (home a i) (option_map shown o))) e

-- one that isn't active lies on Idle, and has none
pub idle_by : (l c : ℕ) → not (l == 4 + 3 * c) ≡ false → l ≡ 4 + 3 * c
idle_by l c e = by (l == 4 + 3 * c) refl e
  where
    by : (b : Bool) → (l == 4 + 3 * c) ≡ b → not b ≡ false → l ≡ 4 + 3 * c
    by true f e = eqb-true l (4 + 3 * c) f
    by false f e = absurd (false≢true (sym e))

pub left_inactive : (a : Slots Request) (i : ℕ) (x : Request) → record_in a i ≡ Some x → not (home a i == 4 + 3 * x.comm) ≡ false → has_left a i ≡ 0
left_inactive a i x here off =
    ap (λ (o : Option Request). left_by (tabled.seen (home a i) (option_map shown o))) here
    ∙ cond-false (not (home a i == 4 + 3 * x.comm)) (remaining (family x.plan.sig x.plan.n x.plan.member) x.round x.index) 0 off

pub three_idle : (l c : ℕ) → l ≡ 4 + 3 * c → 3 ≢ l
three_idle l c e f = omega (arith, e, f)

pub three_done : (l c : ℕ) → l ≡ 6 + 3 * c → 3 ≢ l
three_done l c e f = omega (arith, e, f)

pub three_free : (l : ℕ) → l ≡ 0 → 3 ≢ l
three_free l e f = absurd (omega (arith, e, f))

pub three_given_up : (worn : Bool) → ◌≢◌ {A = ℕ} 3 (cond worn 1 0)
three_given_up true e = let h : ◌≡◌ {A = ℕ} 3 1 = e in absurd (omega (arith, h))
three_given_up false e = let h : ◌≡◌ {A = ℕ} 3 0 = e in absurd (omega (arith, h))

-- ---- where room was made before

module _ (o w r : Parts) (i : ℕ) (same : Unchanged o w) where
  moved_since : MovesOne w r i → MovesOne o r i
  moved_since m = record {
    lists_is = m.lists_is ∙ ap (λ (a : Slots Request). moved_back i (home r.arena i) a.lists) same.arena_is;
    others = λ j away. m.others j away ∙ ap (λ (a : Slots Request). record_in a j) same.arena_is;
  }

  pub keeps_since : KeepsProgress w r i → KeepsProgress o r i
  keeps_since k = record {
    moves = moved_since k.moves;
    running_is = k.running_is ∙ ap (λ (a : Slots Request). sequence a.lists 3) same.arena_is;
    left_is = k.left_is ∙ ap (λ (v : Tables). actions_left v) same.tables_is;
  }

pub begins_since : (o w r : Parts) (i : ℕ) (s : Schedule) → Unchanged o w → BeginsSchedule w r i s → BeginsSchedule o r i s
begins_since o w r i s same b = record {
  moves = moved_since o w r i same b.moves;
  running_is = b.running_is ∙ ap (λ (a : Slots Request). sequence a.lists 3) same.arena_is;
  left_is = b.left_is ∙ ap (λ (v : Tables). actions_left v + remaining s 0 0) same.tables_is;
  done_is = b.done_is;
  others_done = λ j away. b.others_done j away ∙ ap (λ (v : Tables). (machine v).done j) same.tables_is;
}
