-- An instance whose index is known.
use Rattle.std.proofs.Common.{◌≡◌, ℕ, zero, suc, true, false, cond, List, [], ◌∷◌, sym, ap, ◌∙◌, Some}
use Rattle.std.specs.Prelude.{slice_get}
use Rattle.std.specs.List.{AllByRecursion, IsDistinct}
use Rattle.std.specs.Map.{keys_of, lookup, set_value, values_of}
use Rattle.indexmap.specs.IndexMap.{set_value_at}
use Rattle.coll_machine.specs.declared.key.Key.{Key}
use Rattle.coll_match.specs.Held.{Held}
use Rattle.coll_machine.specs.Changes.{same_key}
use Rattle.coll_match.specs.Instances.{is_of, standing}
use Rattle.coll_match.proofs.Standing.{same_at, same_keys}

-- ---- one key, and one that is apart from it

-- who is apart from all keys isn't the one at an index
apart : (x k : Key) (es : List (Key × Held)) (i : ℕ) → AllByRecursion (λ y. same_key x y ≡ false) (keys_of es)
    → is_of k (slice_get es i) ≡ true → same_key x k ≡ false
apart x k [] i all here = absurd cc
apart x k (e ∷ es) zero all here = ap (same_key x) (same_at k e.0 here) ∙ all.0
apart x k (e ∷ es) (suc i) all here = apart x k es i all.1 here

-- ---- the instance there is what a look-up finds, and a value written there is written for its key

pub standing-at : (es : List (Key × Held)) (i : ℕ) (k : Key) → IsDistinct same_key (keys_of es) → is_of k (slice_get es i) ≡ true
    → slice_get (values_of es) i ≡ standing es k
unfolding IsDistinct
standing-at [] i k distinct here = absurd cc
standing-at (e ∷ es) zero k distinct here = sym (ap (λ b. cond b (Some e.1) (lookup (same_key k) es)) here)
standing-at (e ∷ es) (suc i) k distinct here =
    standing-at es i k distinct.1 here ∙ sym (ap (λ b. cond b (Some e.1) (lookup (same_key k) es)) (same_keys.symm k e.0 ∙ apart e.0 k es i distinct.0 here))

pub set_value_at-set_value : (es : List (Key × Held)) (i : ℕ) (k : Key) (w : Held) → IsDistinct same_key (keys_of es)
    → is_of k (slice_get es i) ≡ true → set_value_at es i w ≡ set_value (same_key k) es w
unfolding IsDistinct
set_value_at-set_value [] i k w distinct here = absurd cc
set_value_at-set_value (e ∷ es) zero k w distinct here = sym (ap (λ b. cond b ((e.0, w) ∷ es) (e ∷ set_value (same_key k) es w)) here)
set_value_at-set_value (e ∷ es) (suc i) k w distinct here =
    ap (λ rest. e ∷ rest) (set_value_at-set_value es i k w distinct.1 here)
    ∙ sym (ap (λ b. cond b ((e.0, w) ∷ es) (e ∷ set_value (same_key k) es w)) (same_keys.symm k e.0 ∙ apart e.0 k es i distinct.0 here))
