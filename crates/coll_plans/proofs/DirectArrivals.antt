-- what a direct exchange leaves: for each member that has bytes for r, the part of its contribution that is for r
use Rattle.std.proofs.Common.{◌≡◌, ℕ, zero, suc, ◌+◌, ◌-◌, ◌*◌, ◌<◌, ◌≤◌, inl, true, List, [], ◌∷◌, ◌++◌, take, drop, length, flat_map, sym, ap, ◌∙◌}
use Rattle.std.proofs.Common.{arith, zero-mul, suc-mul, add_comm, drop-drop}
use Rattle.std.proofs.lemmas.List.{drop-take, take-take}
use Rattle.coll_ops.specs.Values.{part, row_of}
use Rattle.coll_sched.specs.Common.{read_of, Family, actions_at, lock_step, Heard, IsLawful}
use Rattle.coll_sched.proofs.Rounds.{GivenFits}
use Rattle.coll_sched.proofs.Builders.{read_split, input_held}
use Rattle.coll_plans.specs.declared.direct_blocks.Blocks.{Blocks}
use Rattle.coll_plans.specs.declared.direct_pattern.Pattern.{Pattern}
use Rattle.coll_plans.specs.DirectExchange.{place, carries, alike, exchange as exchange_of}
use Rattle.coll_plans.specs.DirectFamilies.{blocks_from, all_blocks}
use Rattle.coll_plans.proofs.DirectExchange.{arrives, hears}

-- a part of the contribution, read where it was laid
given_part : (n : ℕ) (f : Family) (lawful : IsLawful n f) (given : ℕ → List ℕ) (laid : GivenFits n f given) (r a l : ℕ) → r < n
    → a + l ≤ (f r).input.len → read_of (lock_step f given 0 r) (record { at = (f r).input.at + a; len = l }) ≡ part a l (given r)
given_part n f lawful given laid r a l low within =
    let buf : List ℕ = lock_step f given 0 r in
    let whole : a + ((f r).input.len - a) ≡ (f r).input.len = omega arith in
    let held : drop a (given r) ≡ take ((f r).input.len - a) (drop a (drop (f r).input.at buf)) =
    ap (drop a) (sym (input_held n f lawful given laid r low))
    ∙ (ap (λ k. drop a (take k (drop (f r).input.at buf))) (sym whole) ∙ drop-take a ((f r).input.len - a) (drop (f r).input.at buf)) in
    sym (ap (take l) (held ∙ ap (take ((f r).input.len - a)) (drop-drop a (f r).input.at buf))
    ∙ take-take l ((f r).input.len - a) (drop ((f r).input.at + a) buf) (omega arith))

-- blocks that hold a part of each row hold these parts joined
pub read-joined : (at b : ℕ) (buf : List ℕ) (F : List ℕ → List ℕ) (rows : List (List ℕ)) (k : ℕ)
    → ((i : ℕ) → i < length rows → read_of buf (place (blocks_from at b) (k + i)) ≡ F (row_of rows i))
    → read_of buf (record { at = at + k * b; len = length rows * b }) ≡ flat_map F rows
read-joined at b buf F [] k h = ap (λ l. take l (drop (at + k * b) buf)) (zero-mul b)
read-joined at b buf F (row ∷ rows) k h =
    let first : read_of buf (place (blocks_from at b) k) ≡ F row =
    ap (λ m. read_of buf (place (blocks_from at b) m)) (let z : k ≡ k + 0 = omega arith in z) ∙ h 0 (omega arith) in
    ap (λ l. take l (drop (at + k * b) buf)) (suc-mul (length rows) b ∙ add_comm (length rows * b) b)
    ∙ (read_split buf (at + k * b) b (length rows * b)
    ∙ (ap (λ xs. xs ++ read_of buf (record { at = at + k * b + b; len = length rows * b })) first
    ∙ ap (λ xs. F row ++ xs)
    (ap (λ a. take (length rows * b) (drop a buf)) (let s : suc k * b ≡ k * b + b = suc-mul k b in let z : at + k * b + b ≡ at + suc k * b = omega arith in z)
    ∙ read-joined at b buf F rows (suc k)
    (λ i low. ap (λ m. read_of buf (place (blocks_from at b) m)) (let z : suc k + i ≡ k + suc i = omega arith in z) ∙ h (suc i) (omega arith)))))

-- a family whose first round is a direct exchange
module _ (n : ℕ) (pattern : Pattern) (from into : Blocks) (f : Family) (lawful : IsLawful n f)
    (acts : (r : ℕ) → actions_at f 0 r ≡ exchange_of pattern from into n r) where
  -- what member r gets of q is its part of what q gave
  pub got_part : (given : ℕ → List ℕ) → GivenFits n f given → (r q : ℕ) → r < n → q < n → carries pattern q r ≡ true
      → (f q).input.at ≡ from.at → r * from.step + from.len ≤ (f q).input.len
      → read_of (lock_step f given 1 r) (place into q) ≡ part (r * from.step) from.len (given q)
  got_part given laid r q hr hq h at within =
      arrives n pattern (alike from) (alike into) f lawful acts given laid r q hr hq h
      ∙ (ap (λ a. read_of (lock_step f given 0 q) (record { at = a + r * from.step; len = from.len })) (sym at)
      ∙ given_part n f lawful given laid q (r * from.step) from.len hq within)

  -- and r has heard of q, also after further rounds
  pub heard_of : (j r q : ℕ) → q < n → carries pattern q r ≡ true → Heard f (suc j) r q
  heard_of zero r q hq h = hears n pattern (alike from) (alike into) f lawful acts r q hq h
  heard_of (suc j) r q hq h = inl (heard_of j r q hq h)

-- where all have bytes for r, it gets the parts of all, joined
module _ (n : ℕ) (pattern : Pattern) (from : Blocks) (at : ℕ) (f : Family) (lawful : IsLawful n f)
    (acts : (r : ℕ) → actions_at f 0 r ≡ exchange_of pattern from (blocks_from at from.len) n r) where
  pub got_all : (given : List (List ℕ)) → length given ≡ n → GivenFits n f (row_of given) → (r : ℕ) → r < n
      → ((q : ℕ) → q < n → (carries pattern q r ≡ true) × ((f q).input.at ≡ from.at) × (r * from.step + from.len ≤ (f q).input.len))
      → read_of (lock_step f (row_of given) 1 r) (all_blocks at n from.len) ≡ flat_map (part (r * from.step) from.len) given
  got_all given each laid r low all =
      let start : at ≡ at + 0 * from.len = omega (arith, zero-mul from.len) in
      ap (λ a. read_of (lock_step f (row_of given) 1 r) (record { at = a; len = n * from.len })) start
      ∙ (ap (λ m. read_of (lock_step f (row_of given) 1 r) (record { at = at + 0 * from.len; len = m * from.len })) (sym each)
      ∙ read-joined at from.len (lock_step f (row_of given) 1 r) (part (r * from.step) from.len) given 0
      (λ i h. ap (λ m. read_of (lock_step f (row_of given) 1 r) (place (blocks_from at from.len) m)) (let z : 0 + i ≡ i = omega arith in z)
      ∙ (let a = all i (omega arith) in got_part n pattern from (blocks_from at from.len) f lawful acts (row_of given) laid r i low (omega arith) a.0 a.1 a.2)))
