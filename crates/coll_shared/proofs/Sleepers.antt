-- Sets of the ports that sleep, and of those that are to be woken.
use Rattle.std.proofs.Common.{ℕ, inl, inr}
use Rattle.std.proofs.lemmas.Bool.{cases_eq}
use Rattle.coll_traced.specs.Ranks.{AreWith, AreWithout, IsIn}
use Rattle.coll_shared.specs.Sleepers.{Wakes}

-- nothing changes
pub wakes_none : (parked wake : ℕ) → Wakes parked wake parked wake
wakes_none parked wake = record { woken = λ rank has. inl has; kept = λ rank has. has; fewer = λ rank has. has }

-- one port is taken over
pub wakes_one : (parked wake one parked_after wake_after : ℕ) → AreWithout parked one parked_after → AreWith wake one wake_after
    → Wakes parked wake parked_after wake_after
wakes_one parked wake one parked_after wake_after without with = record {
  woken = λ rank has. elim (cases_eq rank one) [
    | inl same ↦ inr ((with rank).1 (inr same))
    | inr differs ↦ inl ((without rank).1 (has, differs))
  ];
  kept = λ rank has. (with rank).1 (inl has);
  fewer = λ rank has. ((without rank).0 has).0;
}

-- one change after the other
pub wakes_then : {parked wake parked_then wake_then parked_after wake_after : ℕ} → Wakes parked wake parked_then wake_then
    → Wakes parked_then wake_then parked_after wake_after → Wakes parked wake parked_after wake_after
wakes_then first second = record {
  woken = λ rank has. elim (first.woken rank has) [ inl still ↦ second.woken rank still | inr woken ↦ inr (second.kept rank woken) ];
  kept = λ rank has. second.kept rank (first.kept rank has);
  fewer = λ rank has. first.fewer rank (second.fewer rank has);
}
