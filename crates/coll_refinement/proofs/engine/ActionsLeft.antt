-- The actions that are left, and who is Done, where one slot of an engine changes.
use Rattle.std.proofs.Common.{◌≡◌, ◌≢◌, ◌∙◌, ◌+◌, ◌*◌, ◌==◌, ◌<◌, ℕ, suc, true, false, not, length, Option, Some, ap, sym, arith, eq-eqb, ne_eqb, inr}
use Rattle.std.specs.Prelude.{option_map}
use Rattle.std.proofs.lemmas.Bool.{cond-true, cond-false, eqb-true, false≢true}
use Rattle.std.proofs.lemmas.Option.{slice_get_within}
use Rattle.coll_kinds.proofs.Puts.{put_other}
use Rattle.coll_sched.specs.declared.action.Action.{Action}
use Rattle.coll_sched.specs.declared.action.Action.TheVariants.{Recv, Combine}
use Rattle.coll_sched.specs.Common.{Over, actions_of, remaining, Parts}
use Rattle.coll_sched.proofs.Points.{keeps_remaining, lowers_remaining, ends}
use Rattle.coll_plans.specs.Plans.{family}
use Rattle.coll_arena.specs.Slots.{Slots, home, record_in}
use Rattle.coll_arena.proofs.Totals.{sum_to-put}
use Rattle.coll_queues.specs.Postings.{Postings}
use Rattle.coll_machine.specs.Settings.{Setting}
use Rattle.coll_refinement.specs.Requests.{Live}
use Rattle.coll_refinement.specs.Tables.{Mail, is_done, machine}
use Rattle.coll_refinement.specs.Sound.{Stands, ready, running, idle, queued, done, next}
use Rattle.coll_refinement.specs.Shown.{Instances, seen, tables}
use Rattle.coll_refinement.specs.OneSlots.{OneSlot}
use Rattle.coll_refinement.specs.Remaining.{actions_left, left_by, left_of}
use Rattle.coll_refinement.proofs.engine.Slots.{home_away, home_here, listed_idle, listed_stands, record_here, shown_requests}

-- ---- of one slot

module _ {R : Type 0} (shown : R → Live) (g : Setting) (a b : Slots R) (q r : Postings) (m n : Instances)
    (i gen w l : ℕ) (o : Option R) (h : OneSlot a b i gen w o l) where
  -- one term of the sum changes
  pub left_changes : i < g.slots
      → actions_left (tables shown g b r n) + left_by (seen (home a i) (option_map shown (record_in a i)))
      ≡ actions_left (tables shown g a q m) + left_by (seen l (option_map shown o))
  left_changes low =
      ap (λ (f : ℕ → Option Live). actions_left (record (tables shown g b r n) { request = f }) + left_by (seen (home a i) (option_map shown (record_in a i))))
      (shown_requests shown g a b i gen w l o h)
      ∙ sum_to-put left_by (λ j. seen (home a j) (option_map shown (record_in a j))) i (seen l (option_map shown o)) g.slots low

  -- nobody else's phase changes
  pub done_away : (j : ℕ) → j ≢ i → (machine (tables shown g b r n)).done j ≡ (machine (tables shown g a q m)).done j
  done_away j away = λ z. is_done (home_is z) (seen (home_is z) (option_map shown (record_is z)))
    where
      home_is : home b j ≡ home a j
      home_is = home_away a b i gen w l o h j away

      record_is : record_in b j ≡ record_in a j
      record_is = ap (λ (f : ℕ → Option R). f j) h.records ∙ put_other (record_in a) i o j away

  pub done_here : (y : R) → o ≡ Some y → (machine (tables shown g b r n)).done i ≡ (l == 6 + 3 * (shown y).comm)
  done_here y e =
      (λ z. is_done (home_here a b i gen w l o h z) (seen (home_here a b i gen w l o h z) (option_map shown (record_here a b i gen w l o h z))))
      ∙ ap (λ (x : Option R). is_done l (seen l (option_map shown x))) e

-- ---- what a slot has left

-- none without a request, or with one that isn't active
pub left_idle : (c : ℕ) (x : Live) → x.comm ≡ c → left_by (seen (4 + 3 * c) (Some x)) ≡ 0
left_idle c x e =
    ap (λ c. left_by (seen (4 + 3 * c) (Some x))) (sym e)
    ∙ cond-false (not (4 + 3 * x.comm == 4 + 3 * x.comm)) (remaining (family x.sig x.members x.member) x.round x.index) 0 (listed_idle x.comm)

-- an active request has what is left from its point on
pub left_standing : (n l : ℕ) (mail : Mail) (x : Live) → Stands n mail l x → x.active ≡ true
    → left_by (seen l (Some x)) ≡ remaining (family x.sig x.members x.member) x.round x.index
left_standing n l mail x stands active =
    ap left_of (listed_stands n l mail x stands active)
    ∙ cond-true x.active (remaining (family x.sig x.members x.member) x.round x.index) 0 active

-- one that is Done has none, and it alone
some_left : (n : ℕ) (x : Live) (act : Action) → next n x ≡ Some act → (remaining (family x.sig n x.member) x.round x.index == 0) ≡ false
some_left n x act e =
    let p : Parts = family x.sig n x.member in
    let low : remaining p x.round x.index ≡ suc (remaining p x.round (suc x.index)) =
    lowers_remaining p x.round x.index (slice_get_within (actions_of p x.round) x.index act e) in
    ne_eqb (remaining p x.round x.index) 0 (λ none. absurd (omega (arith, low, none)))

none_left : (n : ℕ) (x : Live) → x.round ≡ length (family x.sig n x.member).rounds → (remaining (family x.sig n x.member) x.round x.index == 0) ≡ true
none_left n x e =
    let p : Parts = family x.sig n x.member in
    eq-eqb (remaining p x.round x.index) 0 ((ends p x.round x.index (inr e)).nothing e)

off_done : (l k c : ℕ) → l ≡ k → k ≢ 6 + 3 * c → (l == 6 + 3 * c) ≡ false
off_done l k c e d = ne_eqb l (6 + 3 * c) (λ f. d (sym e ∙ f))

pub done_standing : (n l : ℕ) (mail : Mail) (x : Live) → Stands n mail l x → x.active ≡ true
    → (l == 6 + 3 * x.comm) ≡ (remaining (family x.sig n x.member) x.round x.index == 0)
done_standing n l mail x (ready act t e nx d) active = off_done l 2 x.comm e (λ f. absurd (omega (arith, f))) ∙ sym (some_left n x act nx)
done_standing n l mail x (running op ty p q into t e nx) active =
    off_done l 3 x.comm e (λ f. absurd (omega (arith, f))) ∙ sym (some_left n x (Combine op ty p q into) nx)
done_standing n l mail x (queued of into t e nx none) active =
    off_done l (5 + 3 * x.comm) x.comm e (λ f. absurd (omega (arith, f))) ∙ sym (some_left n x (Recv of into) nx)
done_standing n l mail x (done t e h) active = eq-eqb l (6 + 3 * x.comm) e ∙ sym (none_left n x h)
done_standing n l mail x (idle f e p) active = absurd (false≢true (sym f ∙ active))

-- ---- a request that enters

-- from the first point of its schedule on, all actions of it are left
pub left_entered : (n l : ℕ) (mail : Mail) (x : Live) → Stands n mail l x → x.active ≡ true → x.members ≡ n
    → Over (family x.sig n x.member) 0 0 x.round x.index
    → left_by (seen l (Some x)) ≡ remaining (family x.sig n x.member) 0 0
left_entered n l mail x stands active size over =
    left_standing n l mail x stands active
    ∙ (ap (λ s. remaining (family x.sig s x.member) x.round x.index) size
    ∙ keeps_remaining (family x.sig n x.member) 0 0 x.round x.index over)

pub done_entered : (n l : ℕ) (mail : Mail) (x : Live) → Stands n mail l x → x.active ≡ true
    → Over (family x.sig n x.member) 0 0 x.round x.index
    → (l == 6 + 3 * x.comm) ≡ (remaining (family x.sig n x.member) 0 0 == 0)
done_entered n l mail x stands active over =
    done_standing n l mail x stands active
    ∙ ap (λ k. k == 0) (keeps_remaining (family x.sig n x.member) 0 0 x.round x.index over)

-- ---- a request that is Done, and goes

pub left_done : (n l : ℕ) (mail : Mail) (x : Live) → Stands n mail l x → x.active ≡ true → x.members ≡ n → l ≡ 6 + 3 * x.comm → left_by (seen l (Some x)) ≡ 0
left_done n l mail x stands active size on =
    left_standing n l mail x stands active
    ∙ (ap (λ s. remaining (family x.sig s x.member) x.round x.index) size
    ∙ zero_of (remaining (family x.sig n x.member) x.round x.index) (sym (done_standing n l mail x stands active) ∙ eq-eqb l (6 + 3 * x.comm) on))
  where
    zero_of : (k : ℕ) → (k == 0) ≡ true → k ≡ 0
    zero_of k e = eqb-true k 0 e
