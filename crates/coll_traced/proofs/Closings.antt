-- Closing an engine.
use Rattle.std.proofs.Common.{◌≡◌, ℕ, ◌+◌, ◌<◌, ◌⊎◌, inl, inr, Bool, false, List, Option, Some, None, sym, ap, subst, ◌∙◌, arith}
use Rattle.std.specs.Prelude.{◌↔◌, IfSome, IsNone, IsTrue}
use Rattle.std.proofs.lemmas.Bool.{cases_eq}
use Rattle.coll_machine.specs.Common.{Entry, Setting, AreGroups}
use Rattle.coll_report.specs.Told.{IsIdle}
use Rattle.coll_core.specs.declared.config.Config.{Config}
use Rattle.coll_core.specs.Configs.{setting_by}
use Rattle.coll_core.specs.Cores.{Parts, seen, setting}
use Rattle.coll_report.specs.Reports.{EndsWith, IsClosed}
use Rattle.coll_traced.specs.Traced.{IsKept}
use Rattle.coll_traced.specs.Closings.{IsBalanced, IsFirstBusy}
use Rattle.coll_traced.proofs.Balances.{balanced, unbalanced, all_balanced}

-- a test that says false of what is so
pub wrong_end : {P : Type 0} (b : Bool) → IsTrue b ↔ P → b ≡ false → P → IsTrue false
wrong_end b test is p = sym is ∙ test.1 p

-- one number more
pub up_to : (P : ℕ → Type 0) (n : ℕ) → ((r : ℕ) → r < n → P r) → P n → (r : ℕ) → r < n + 1 → P r
up_to P n below here r lt = go (cases_eq r n)
  where
    go : (r ≡ n) ⊎ (r ≡ n → ⊥) → P r
    go (inl e) = subst P (sym e) here
    go (inr d) = below r (omega (arith, d, lt))

-- ---- what the lock keeps

legal_there : {g : Setting} {config : Config} {p : Parts} {es : List Entry} {n : ℕ} → IsKept g config p es n → AreGroups (setting p)
legal_there k = subst AreGroups (sym k.opened) k.groups

pub idle_if : {g : Setting} {config : Config} {p : Parts} {es : List Entry} {n : ℕ} (o : Option ℕ) → IsKept g config p es n
    → (IsNone o → (r : ℕ) → r < config.ranks → IsBalanced r es) → IsNone o → IsIdle (seen p).state
idle_if {g} {config} {p} {es} {n} o k same none =
    all_balanced (setting p) (seen p).state es (legal_there k) k.legal.leads (λ r lt. same none r (subst (λ (g : Setting). r < g.ranks) k.opened lt))

pub balanced_if : {g : Setting} {config : Config} {p : Parts} {es : List Entry} {n : ℕ} (o : Option ℕ) → IsKept g config p es n
    → (IsNone o → (r : ℕ) → r < config.ranks → IsBalanced r es) → IsNone o → (r : ℕ) → r < g.ranks → IsBalanced r es
balanced_if o k all none r lt = all none r (subst (λ (g : Setting). r < g.ranks) (sym k.set) lt)

pub busy_if : {g : Setting} {config : Config} {p : Parts} {es : List Entry} {n : ℕ} (o : Option ℕ) → IsKept g config p es n
    → IfSome o (λ rank. IsBalanced rank es → ⊥) → IfSome o (λ rank. (r : ℕ) → r < rank → IsBalanced r es) → IfSome o (IsFirstBusy (seen p).state)
busy_if None k other first = tt
busy_if {g} {config} {p} {es} {n} (Some rank) k other first = record {
  busy = unbalanced (setting p) rank (seen p).state es k.legal.leads other;
  first = λ r lt. balanced (setting p) r (seen p).state es k.legal.leads (first r lt);
}

pub closed : {g : Setting} {config : Config} {p : Parts} {es : List Entry} {n : ℕ} (s : Setting) (fs : List Entry) → IsKept g config p es n
    → IsIdle (seen p).state → s ≡ setting_by config → fs ≡ es → IsClosed (record { setting = s; entries = fs })
closed {g} {config} {p} {es} {n} s fs k idle s_is fs_is =
    let same : s ≡ setting p = s_is ∙ sym k.opened in
    record {
      groups = subst AreGroups (sym s_is) k.groups;
      last = (seen p).state;
      legal = rw (same, fs_is) k.legal;
      idle = idle;
    }

-- at the trace's end the core is the one whose trace it is
pub ends_with : {g : Setting} {config : Config} {p : Parts} {es : List Entry} {n : ℕ} (s : Setting) (fs : List Entry) → IsKept g config p es n
    → IsIdle (seen p).state → s ≡ setting_by config → fs ≡ es → (q : Parts) → q ≡ p → EndsWith q (record { setting = s; entries = fs })
unfolding closed
ends_with {g} {config} {p} {es} {n} s fs k idle s_is fs_is q q_is = record {
  closed = closed s fs k idle s_is fs_is;
  setting_is = (s_is ∙ sym k.opened) ∙ ap setting (sym q_is);
  last_is = ap (λ (r : Parts). (seen r).state) (sym q_is);
}
