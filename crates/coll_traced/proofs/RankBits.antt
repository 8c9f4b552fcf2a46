-- What a number's bits are, whose bits are ranks.
use Rattle.std.proofs.Common.{◌≡◌, ◌≢◌, ◌↔◌, ◌<◌, ◌≤◌, ◌^◌, ◌*◌, ◌%◌, ◌-◌, ℕ, max, min, Bool, false, not, IsTrue, bit_and, bit_or, nat_eq, w64}
use Rattle.std.proofs.Common.{inl, inr, subst, ap, ◌∙◌, arith, rules}
use Rattle.std.proofs.lemmas.Bool.{cases_eq, cases_lt}
use Rattle.std.proofs.lemmas.Bool.Decides.{nat_tests}
use Rattle.std.proofs.lemmas.Nat.{one_shl, pow_below, pow_pos}
use Rattle.std.proofs.lemmas.Nat.Bits.{and_pow, bit_at-lt, bit_at-pow_other, bit_at-pow_same, bit_at-trailing_zeros, bit_at-zero}
use Rattle.std.proofs.lemmas.Nat.Bits.{bit_at_above, bit_at_and, bit_at_not, bit_at_or}
use Rattle.std.specs.Int.{bit_at, bit_not, trailing_zeros}
use Rattle.coll_traced.specs.Ranks.{AreBut, AreNone, AreWith, AreWithout, IsIn, IsLowest}

-- the bit of a rank
bit_same : (rank b : ℕ) → rank < 64 → b ≡ 1 * 2 ^ rank % 2 ^ 64 → bit_at b rank ≡ 1
bit_same rank b below is = ap (λ n. bit_at n rank) (is ∙ one_shl rank 64 below) ∙ bit_at-pow_same rank

bit_other : (rank b other : ℕ) → rank < 64 → b ≡ 1 * 2 ^ rank % 2 ^ 64 → other ≢ rank → bit_at b other ≡ 0
bit_other rank b other below is differ = ap (λ n. bit_at n other) (is ∙ one_shl rank 64 below) ∙ bit_at-pow_other rank other differ

pub with_is : (ranks rank b : ℕ) → rank < 64 → b ≡ 1 * 2 ^ rank % 2 ^ 64 → AreWith ranks rank (bit_or ranks b)
with_is ranks rank b below is other =
    let or : bit_at (bit_or ranks b) other ≡ max (bit_at ranks other) (bit_at b other) = bit_at_or ranks b other in
    let small : bit_at ranks other < 2 = bit_at-lt ranks other in
    elim (cases_eq other rank) [
      | inl same ↦
          (let set : bit_at b other ≡ 1 = ap (λ n. bit_at b n) same ∙ bit_same rank b below is in
          (λ _. inr same, λ _. omega arith))
      | inr differ ↦
          (let clear : bit_at b other ≡ 0 = bit_other rank b other below is differ in
          (λ has. inl (omega arith), λ either. elim either [ inl has ↦ omega arith | inr same ↦ absurd (differ same) ]))
    ]

-- a bit of a number's complement
not_bit : (n i : ℕ) → n < 2 ^ 64 → bit_at (18446744073709551615 - n) i ≤ 1 - bit_at n i
not_bit n i below = elim (cases_lt i 64) [
  | inl low ↦ (let is : bit_at (bit_not w64 n) i ≡ 1 - bit_at n i = bit_at_not w64 n i below low in omega arith)
  | inr high ↦ (let none : bit_at (18446744073709551615 - n) i ≡ 0 = bit_at_above (18446744073709551615 - n) 64 i (omega arith) high in omega arith)
]

-- who is in a set is below 64
low_bit : (n i : ℕ) → n < 2 ^ 64 → bit_at n i ≡ 1 → i < 64
low_bit n i below set = elim (cases_lt i 64) [
  | inl low ↦ low
  | inr high ↦ (let none : bit_at n i ≡ 0 = bit_at_above n 64 i below high in absurd (omega arith))
]

pub without_is : (ranks rank b : ℕ) → ranks < 2 ^ 64 → rank < 64 → b ≡ 1 * 2 ^ rank % 2 ^ 64
    → AreWithout ranks rank (bit_and ranks (18446744073709551615 - b))
without_is ranks rank b fits below is other =
    let and : bit_at (bit_and ranks (18446744073709551615 - b)) other ≡ min (bit_at ranks other) (bit_at (18446744073709551615 - b) other)
    = bit_at_and ranks (18446744073709551615 - b) other in
    let small : bit_at ranks other < 2 = bit_at-lt ranks other in
    let one : b ≡ 2 ^ rank = is ∙ one_shl rank 64 below in
    let power : 2 ^ rank < 2 ^ 64 = pow_below rank 64 below in
    elim (cases_eq other rank) [
      | inl same ↦
          (let set : bit_at b other ≡ 1 = ap (λ n. bit_at b n) same ∙ bit_same rank b below is in
          let not_set : bit_at (18446744073709551615 - b) other ≤ 1 - bit_at b other = not_bit b other (omega arith) in
          (λ has. absurd (omega arith), λ both. absurd (both.1 same)))
      | inr differ ↦
          (let clear : bit_at b other ≡ 0 = bit_other rank b other below is differ in (
            λ has. (omega arith, differ),
            λ both.
                let set : bit_at ranks other ≡ 1 = both.0 in
                let low : other < 64 = low_bit ranks other fits set in
                let is_set : bit_at (18446744073709551615 - b) other ≡ 1 - bit_at b other = bit_at_not w64 b other (omega arith) low in
                omega arith,
          ))
    ]

pub but_is : (ranks others : ℕ) → ranks < 2 ^ 64 → others < 2 ^ 64 → AreBut ranks others (bit_and ranks (18446744073709551615 - others))
but_is ranks others fits fit rank =
    let and : bit_at (bit_and ranks (18446744073709551615 - others)) rank ≡ min (bit_at ranks rank) (bit_at (18446744073709551615 - others) rank)
    = bit_at_and ranks (18446744073709551615 - others) rank in
    let small : bit_at ranks rank < 2 = bit_at-lt ranks rank in
    let few : bit_at others rank < 2 = bit_at-lt others rank in
    let not_set : bit_at (18446744073709551615 - others) rank ≤ 1 - bit_at others rank = not_bit others rank fit in (
      λ has. (omega arith, λ set. let one : bit_at others rank ≡ 1 = set in omega arith),
      λ both.
          let set : bit_at ranks rank ≡ 1 = both.0 in
          let low : rank < 64 = low_bit ranks rank fits set in
          let is_set : bit_at (18446744073709551615 - others) rank ≡ 1 - bit_at others rank = bit_at_not w64 others rank fit low in
          elim (cases_eq (bit_at others rank) 1) [ inl one ↦ absurd (both.1 one) | inr other ↦ omega arith ],
    )

pub none_is : (ranks : ℕ) → ranks < 2 ^ 64 → (ranks ≡ 0) ↔ AreNone ranks
none_is ranks fits = (
  λ zero rank set. let one : bit_at ranks rank ≡ 1 = set in
      let none : bit_at ranks rank ≡ 0 = ap (λ n. bit_at n rank) zero ∙ bit_at-zero rank in omega arith,
  λ none. elim (cases_lt 0 ranks) [
    | inl some ↦ absurd (none (trailing_zeros w64 ranks) ((bit_at-trailing_zeros w64 ranks some fits).1))
    | inr zero ↦ omega arith
  ],
)

pub lowest_is : (ranks : ℕ) → ranks < 2 ^ 64 → 0 < ranks → IsLowest ranks (trailing_zeros w64 ranks)
lowest_is ranks fits some =
    let is = bit_at-trailing_zeros w64 ranks some fits in
    record {
      has = is.1;
      below = λ other before set.
          let one : bit_at ranks other ≡ 1 = set in let none : bit_at ranks other ≡ 0 = is.2 other before in omega arith;
    }

pub has_is : (ranks rank b : ℕ) → rank < 64 → b ≡ 1 * 2 ^ rank % 2 ^ 64 → IsTrue (not (nat_eq (bit_and ranks b) 0)) ↔ IsIn ranks rank
has_is ranks rank b below is =
    let one : b ≡ 2 ^ rank = is ∙ one_shl rank 64 below in
    let and : bit_and ranks b ≡ bit_at ranks rank * 2 ^ rank = ap (λ n. bit_and ranks n) one ∙ and_pow ranks rank in
    let small : bit_at ranks rank < 2 = bit_at-lt ranks rank in
    let some : 0 < 2 ^ rank = pow_pos rank in
    elim (cases_eq (bit_at ranks rank) 1) [
      | inl set ↦ (let is_one : bit_and ranks b ≡ 2 ^ rank = and ∙ ap (λ n. n * 2 ^ rank) set ∙ omega arith in (λ _. set, λ _. search (rules, is_one, some)))
      | inr unset ↦ (let zero : bit_at ranks rank ≡ 0 = omega arith in
          let is_none : bit_and ranks b ≡ 0 = and ∙ ap (λ n. n * 2 ^ rank) zero ∙ omega arith in
          (λ has. absurd (grind (arith, nat_tests, is_none, has)), λ set. absurd (unset set)))
    ]

pub is_none : (ranks : ℕ) → ranks < 2 ^ 64 → IsTrue (nat_eq ranks 0) ↔ AreNone ranks
is_none ranks fits = (
  λ is. (none_is ranks fits).0 (grind (arith, nat_tests, is)),
  λ none. let zero : ranks ≡ 0 = (none_is ranks fits).1 none in grind (arith, nat_tests, zero),
)

pub not_none : (b : Bool) → b ≡ false → IsTrue b → ⊥
not_none b is holds = let is_true : IsTrue false = subst IsTrue is holds in search rules
