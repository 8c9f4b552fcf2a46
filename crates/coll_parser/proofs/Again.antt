-- What is written is read again.
use Rattle.std.proofs.Common.{◌≡◌, ℕ, suc, ◌+◌, ◌-◌, ◌^◌, ◌<◌, ◌≤◌, Bool, true, false, not, cond, eqb, ltb, leb, List, [], ◌∷◌, ◌++◌, length, take}
use Rattle.std.proofs.Common.{drop, replicate, map, Option, Some, None, Ok, refl, sym, ap, subst, ◌∙◌, append_assoc, arith, inl, inr}
use Rattle.std.specs.Prelude.{ℤ, pos, negsuc, ◌&&◌, ◌||◌, MatchBool, flat_map, slice_index, unwrap_or, is_some, ok_or, decimal}
use Rattle.std.specs.List.{AllByRecursion, list_all, position, position_or_len}
use Rattle.std.specs.Char.{is_ascii_digit}
use Rattle.std.specs.Fmt.{signed_decimal}
use Rattle.std.specs.Str.{all_ascii_digits}
use Rattle.std.specs.Str.Parse.{digits_value}
use Rattle.std.proofs.lemmas.Str.Parse.{IsNumeralModel, numerals_by_value, tells_all_ascii_digits}
use Rattle.std.proofs.lemmas.Fmt.{digits_decimal, digits_value-decimal, length-decimal-le, decimal_nonempty}
use Rattle.std.proofs.lemmas.Bool.{cases_eq, eq-eqb, ne_eqb, lt-ltb, le-leb, ltb-true, and_parts, not-true}
use Rattle.std.proofs.lemmas.List.{append-nil, length-map, length-append, take_at, drop_at}
use Rattle.std.proofs.lemmas.List.Concat.{flat_map-cons}
use Rattle.coll_kinds.specs.declared.datatype.Datatype.{Datatype}
use Rattle.coll_kinds.specs.declared.datatype.Datatype.TheVariants.{I8, I16, I32, I64, U8, U16, U32, U64, Byte, Pair}
use Rattle.coll_kinds.specs.declared.operation.Op.{Op}
use Rattle.coll_kinds.specs.declared.operation.Op.TheVariants.{Max, Min, Sum, Prod, Land, Lor, Lxor, Band, Bor, Bxor, LastNz, MaxLoc, MinLoc}
use Rattle.coll_kinds.specs.declared.kind.Kind.{Kind}
use Rattle.coll_kinds.specs.declared.kind.Kind.TheVariants.{Barrier, Bcast, Gather, Scatter, Allgather, Allgatherv, Alltoall, Reduce, Allreduce}
use Rattle.coll_kinds.specs.declared.kind.Kind.TheVariants.{Rsblock, Scan, Exscan}
use Rattle.coll_kinds.specs.declared.signature.Signature.{Signature}
use Rattle.coll_kinds.specs.Common.{has_root, has_operation, is_barrier, has_counts, broken, max_ranks, Element, whole, pair, is_signed, is_pair}
use Rattle.coll_kinds.specs.Common.{limit, in_range, IsElement, element_bytes, number_in, pair_of, value_of, text_of, kind_word, operation_word}
use Rattle.coll_kinds.specs.Common.{datatype_word, kind_of, operation_of, datatype_of}
use Rattle.coll_kinds.specs.Texts.{number_of}
use Rattle.coll_parser.specs.declared.cause.Cause.TheVariants.{BadSignature, NamedTwice}
use Rattle.coll_parser.specs.Reading.{and_then, ◌>>=◌, give, numbers_from}
use Rattle.coll_parser.specs.Lines.{number_within, request_in, next, values, count_in, counts_from, some_counts, fields, signature}
use Rattle.coll_parser.specs.Writing.{NoneTwice, AreValues, value_words, operation_words, count_words, signature_words, AreCounts, HasWords}

-- ---- numbers

pub numerals : IsNumeralModel (λ ds. all_ascii_digits ds ≡ true) (digits_value 10)
numerals = numerals_by_value _ tells_all_ascii_digits

pub number-again : (n : ℕ) → n < 2 ^ 64 → number_of (decimal n) ≡ Some n
number-again n small =
    let digits : all_ascii_digits (decimal n) ≡ true = digits_decimal numerals n small in
    let some : leb 1 (length (decimal n)) ≡ true = le-leb 1 (length (decimal n)) (omega (arith, decimal_nonempty n small)) in
    let few : leb (length (decimal n)) 20 ≡ true = le-leb (length (decimal n)) 20 (length-decimal-le 20 n (omega arith) (omega arith) small) in
    let value : digits_value 10 (decimal n) ≡ n = digits_value-decimal numerals n small in
    rw (some, few, digits) (ap Some value)

pub within-again : (low limit n : ℕ) → low ≤ n → n < limit → n < 2 ^ 64 → number_within low limit (decimal n) ≡ Some n
within-again low limit n le lt small = rw (number-again n small, le-leb low n le, lt-ltb n limit lt) refl

pub request-again : (count q : ℕ) → q < 2 ^ 64 → q < count → request_in count (decimal q) ≡ Ok q
request-again count q small lt = rw (number-again q small, lt-ltb q count lt) refl

pub numbers-again : (count : ℕ) (before qs : List ℕ) → AllByRecursion (λ q. (q < 2 ^ 64) × (q < count)) qs → NoneTwice before qs
    → numbers_from (request_in count) NamedTwice before (map decimal qs) ≡ Ok (before ++ qs)
numbers-again count before [] made none = ap Ok (sym (append-nil before))
numbers-again count before (q ∷ qs) made none =
    rw (request-again count q made.0.0 made.0.1, none.0) (numbers-again count (before ++ q ∷ []) qs made.1 none.1 ∙ ap Ok (append_assoc before (q ∷ []) qs))

-- ---- words of kinds, operations and types

pub kind-again : (kind : Kind) → kind_of (kind_word kind) ≡ Some kind
kind-again Barrier = refl
kind-again Bcast = refl
kind-again Gather = refl
kind-again Scatter = refl
kind-again Allgather = refl
kind-again Allgatherv = refl
kind-again Alltoall = refl
kind-again Reduce = refl
kind-again Allreduce = refl
kind-again Rsblock = refl
kind-again Scan = refl
kind-again Exscan = refl

pub operation-again : (op : Op) → operation_of (operation_word op) ≡ Some op
operation-again Max = refl
operation-again Min = refl
operation-again Sum = refl
operation-again Prod = refl
operation-again Land = refl
operation-again Lor = refl
operation-again Lxor = refl
operation-again Band = refl
operation-again Bor = refl
operation-again Bxor = refl
operation-again LastNz = refl
operation-again MaxLoc = refl
operation-again MinLoc = refl

pub datatype-again : (ty : Datatype) → datatype_of (datatype_word ty) ≡ Some ty
datatype-again I8 = refl
datatype-again I16 = refl
datatype-again I32 = refl
datatype-again I64 = refl
datatype-again U8 = refl
datatype-again U16 = refl
datatype-again U32 = refl
datatype-again U64 = refl
datatype-again Byte = refl
datatype-again Pair = refl

-- ---- values

limit-le : (ty : Datatype) → limit ty ≤ 2 ^ 64
limit-le I8 = omega arith
limit-le I16 = omega arith
limit-le I32 = omega arith
limit-le I64 = omega arith
limit-le U8 = omega arith
limit-le U16 = omega arith
limit-le U32 = omega arith
limit-le U64 = omega arith
limit-le Byte = omega arith
limit-le Pair = omega arith

limit-signed : (ty : Datatype) → is_signed ty ≡ true → limit ty ≤ 2 ^ 63
limit-signed I8 e = omega arith
limit-signed I16 e = omega arith
limit-signed I32 e = omega arith
limit-signed I64 e = omega arith
limit-signed U8 e = absurd cc
limit-signed U16 e = absurd cc
limit-signed U32 e = absurd cc
limit-signed U64 e = absurd cc
limit-signed Byte e = absurd cc
limit-signed Pair e = absurd cc

-- a number in a type's range has the digits of a u64
pub small-positive : (ty : Datatype) (n : ℕ) → in_range ty (pos n) ≡ true → n < 2 ^ 64
small-positive ty n is = omega (arith, ltb-true n (limit ty) is, limit-le ty)

pub small-negative : (ty : Datatype) (n : ℕ) → in_range ty (negsuc n) ≡ true → suc n < 2 ^ 64
small-negative ty n is =
    let parts = and_parts (is_signed ty) (ltb n (limit ty)) is in
    omega (arith, ltb-true n (limit ty) parts.1, limit-signed ty parts.0)

-- a text of digits doesn't begin with a minus sign
not-minus : (ds : List ℕ) → all_ascii_digits ds ≡ true → eqb (slice_index ds 0) 45 ≡ false
not-minus [] digits = refl
not-minus (c ∷ ds) digits =
    elim (cases_eq c 45) [
      | inl e ↦ absurd (let none : false ≡ true = subst (λ d. all_ascii_digits (d ∷ ds) ≡ true) e digits in cc)
      | inr ne ↦ ne_eqb c 45 ne
    ]

number-in-again : (ty : Datatype) (z : ℤ) → in_range ty z ≡ true → number_in ty (signed_decimal z) ≡ Some z
number-in-again ty (pos n) is =
    let small = small-positive ty n is in
    let plain : eqb (slice_index (decimal n) 0) 45 ≡ false = not-minus (decimal n) (digits_decimal numerals n small) in
    rw (plain, number-again n small, is) refl
number-in-again ty (negsuc n) is = rw (number-again (suc n) (small-negative ty n is), is) refl

-- ---- pairs

-- the byte is no comma
abbrev is_other : ℕ → Bool
is_other c = not (eqb c 44)

other-digits : (ds : List ℕ) → all_ascii_digits ds ≡ true → list_all is_other ds ≡ true
other-digits [] digits = refl
other-digits (c ∷ ds) digits =
    let parts = and_parts (is_ascii_digit c) (all_ascii_digits ds) digits in
    let other : eqb c 44 ≡ false = ne_eqb c 44 (λ e. absurd (let none : false ≡ true = subst (λ d. is_ascii_digit d ≡ true) e parts.0 in cc)) in
    rw (other, other-digits ds parts.1) refl

-- there is no comma in the text of a number
other-number : (ty : Datatype) (z : ℤ) → in_range ty z ≡ true → list_all is_other (signed_decimal z) ≡ true
other-number ty (pos n) is = other-digits (decimal n) (digits_decimal numerals n (small-positive ty n is))
other-number ty (negsuc n) is = other-digits (decimal (suc n)) (digits_decimal numerals (suc n) (small-negative ty n is))

-- the first comma stands after a text that has none
first-comma : (text behind : List ℕ) → list_all is_other text ≡ true → position_or_len (λ c. eqb c 44) (text ++ 44 ∷ behind) ≡ length text
first-comma [] behind others = refl
first-comma (c ∷ text) behind others =
    let parts = and_parts (is_other c) (list_all is_other text) others in
    rw parts.0 (omega (arith, first-comma text behind parts.1))

comma-again : (text behind : List ℕ) → list_all is_other text ≡ true → position (λ c. eqb c 44) (text ++ 44 ∷ behind) ≡ Some (length text)
comma-again text behind others =
    let within : ltb (length text) (length (text ++ 44 ∷ behind)) ≡ true = lt-ltb _ _ (omega (arith, length-append text (44 ∷ behind))) in
    rw (first-comma text behind others, within) refl

behind-again : (text behind : List ℕ) → drop (length text + 1) (text ++ 44 ∷ behind) ≡ behind
behind-again text behind =
    ap (drop (length text + 1)) (sym (append_assoc text (44 ∷ []) behind)) ∙ drop_at (text ++ 44 ∷ []) behind (length text + 1) (length-append text (44 ∷ []))

pair-read : (word : List ℕ) (comma : ℕ) (z at : ℤ) → position (λ c. eqb c 44) word ≡ Some comma
    → number_in I32 (take comma word) ≡ Some z → number_in I32 (drop (comma + 1) word) ≡ Some at → pair_of word ≡ Some (pair z at)
pair-read word comma z at there first second = rw (there, first, second) refl

pair-again : (z at : ℤ) → in_range I32 z ≡ true → in_range I32 at ≡ true → pair_of (text_of (pair z at)) ≡ Some (pair z at)
pair-again z at value index =
    let text = signed_decimal z in
    let behind = signed_decimal at in
    pair-read (text ++ 44 ∷ behind) (length text) z at (comma-again text behind (other-number I32 z value))
    (ap (number_in I32) (take_at text (44 ∷ behind) (length text) refl) ∙ number-in-again I32 z value)
    (ap (number_in I32) (behind-again text behind) ∙ number-in-again I32 at index)

-- ---- elements

pub value-again : (ty : Datatype) (e : Element) → IsElement ty e → value_of ty (text_of e) ≡ Some e
value-again ty (whole z) is =
    let parts = and_parts (not (is_pair ty)) (in_range ty z) is in
    rw (not-true (is_pair ty) parts.0, number-in-again ty z parts.1) refl
value-again ty (pair z at) is =
    let parts = and_parts (is_pair ty) (in_range I32 z && in_range I32 at) is in
    let numbers = and_parts (in_range I32 z) (in_range I32 at) parts.1 in
    rw parts.0 (pair-again z at numbers.0 numbers.1)

all-again : (ty : Datatype) (es : List Element) → AllByRecursion (IsElement ty) es → list_all (λ w. is_some (value_of ty w)) (map text_of es) ≡ true
all-again ty [] are = refl
all-again ty (e ∷ es) are = rw (value-again ty e are.0, all-again ty es are.1) refl

abbrev bytes_of : Datatype → List ℕ → List ℕ
bytes_of ty w = element_bytes ty (unwrap_or (value_of ty w) (whole (pos 0)))

bytes-again : (ty : Datatype) (es : List Element) → AllByRecursion (IsElement ty) es → flat_map (bytes_of ty) (map text_of es) ≡ flat_map (element_bytes ty) es
bytes-again ty [] are = refl
bytes-again ty (e ∷ es) are =
    let here : bytes_of ty (text_of e) ≡ element_bytes ty e = rw (value-again ty e are.0) refl in
    flat_map-cons (bytes_of ty) (text_of e) (map text_of es) ∙ (ap (λ (x : List ℕ). x ++ flat_map (bytes_of ty) (map text_of es)) here
    ∙ ap (λ (x : List ℕ). element_bytes ty e ++ x) (bytes-again ty es are.1)) ∙ sym (flat_map-cons (element_bytes ty) e es)

pub values-again : (ty : Datatype) (count : ℕ) (elements : List Element) (given : List ℕ) → AreValues ty count elements given
    → values count ty (value_words elements) ≡ Ok (given, [])
unfolding values
values-again ty count elements given are =
    let counted : eqb (length (map text_of elements)) count ≡ true = eq-eqb _ _ (length-map elements text_of ∙ are.0) in
    rw (counted, all-again ty elements are.1) (ap (λ (x : List ℕ). Ok (x, [])) (bytes-again ty elements are.1 ∙ sym are.2))

-- ---- signatures

root-again : (b : Bool) (root : ℕ) (rest : List (List ℕ)) → MatchBool b (root < 256) (root ≡ 0)
    → cond b (next (λ w. ok_or (number_within 0 256 w) BadSignature)) (give 0) (cond b (decimal root ∷ []) [] ++ rest) ≡ Ok (root, rest)
root-again true root rest fits = rw (within-again 0 256 root (omega arith) fits (omega (arith, fits))) refl
root-again false root rest fits = ap (λ n. Ok (n, rest)) (sym fits)

op-again : (b : Bool) (op : Option Op) (rest : List (List ℕ)) → MatchBool b ((o : Op) × (op ≡ Some o)) (op ≡ None)
    → cond b (next (λ w. and_then (ok_or (operation_of w) BadSignature) (λ o. Ok (Some o)))) (give None) (operation_words op ++ rest) ≡ Ok (op, rest)
op-again true op rest fits = rw (fits.1, operation-again fits.0) refl
op-again false op rest fits = rw fits refl

counts-again : (before cs : List ℕ) (rest : List (List ℕ)) → AllByRecursion (λ c. c < 2 ^ 32) cs
    → counts_from before (length cs) (map decimal cs ++ rest) ≡ Ok (before ++ cs, rest)
counts-again before [] rest fit = ap (λ (x : List ℕ). Ok (x, rest)) (sym (append-nil before))
counts-again before (c ∷ cs) rest fit =
    rw (within-again 0 (2 ^ 32) c (omega arith) fit.0 (omega (arith, fit.0)))
    (counts-again (before ++ c ∷ []) cs rest fit.1 ∙ ap (λ (x : List ℕ). Ok (x, rest)) (append_assoc before (c ∷ []) cs))

each-again : (n : ℕ) (cs : List ℕ) (rest : List (List ℕ)) → length cs ≡ n → AllByRecursion (λ c. c < 2 ^ 32) cs
    → some_counts n (map decimal (take n (cs ++ replicate (max_ranks - n) 0)) ++ rest) ≡ Ok (Some (cs ++ replicate (max_ranks - n) 0), rest)
each-again n cs rest count fit =
    let read : counts_from [] n (map decimal cs ++ rest) ≡ Ok (cs, rest) =
    subst (λ m. counts_from [] m (map decimal cs ++ rest) ≡ Ok (cs, rest)) count (counts-again [] cs rest fit) in
    rw (take_at cs (replicate (max_ranks - n) 0) n count, read) refl

-- no kind has both no elements and a count for each member
not-both : (kind : Kind) → is_barrier kind ≡ true → has_counts kind ≡ true → ⊥
not-both Barrier none counted = absurd cc
not-both Bcast none counted = absurd cc
not-both Gather none counted = absurd cc
not-both Scatter none counted = absurd cc
not-both Allgather none counted = absurd cc
not-both Allgatherv none counted = absurd cc
not-both Alltoall none counted = absurd cc
not-both Reduce none counted = absurd cc
not-both Allreduce none counted = absurd cc
not-both Rsblock none counted = absurd cc
not-both Scan none counted = absurd cc
not-both Exscan none counted = absurd cc

module _ (n : ℕ) (ty : Datatype) (count : ℕ) (each : Option (List ℕ)) (rest : List (List ℕ)) (sig : Datatype → ℕ → Option (List ℕ) → Signature) where
  tail-again : (b c : Bool) → (b ≡ true → c ≡ true → ⊥) → (b ≡ true → ty ≡ Byte)
      → MatchBool (b || c) (count ≡ 0) (count < 2 ^ 32) → MatchBool c (AreCounts n each) (each ≡ None)
      → (cond b (give Byte) (next (λ w. ok_or (datatype_of w) BadSignature)) >>= λ t. cond (b || c) (give 0) (next count_in) >>=
      λ m. cond c (some_counts n) (give None) >>= λ e. give (sig t m e))
      (cond b [] (datatype_word ty ∷ count_words n count each) ++ rest) ≡ Ok (sig ty count each, rest)
  tail-again true true apart byte fits are = absurd (apart refl refl)
  tail-again true false apart byte fits are = rw (byte refl, fits, are) refl
  tail-again false true apart byte fits are = rw (datatype-again ty, fits, are.all, each-again n are.counts rest are.count are.fit) refl
  tail-again false false apart byte fits are = rw (datatype-again ty, are, within-again 0 (2 ^ 32) count (omega arith) fits (omega (arith, fits))) refl

fields-again : (sig : Signature) (n : ℕ) (rest : List (List ℕ)) → HasWords n sig
    → fields sig.mode n sig.kind
    (cond (has_root sig.kind) (decimal sig.root ∷ []) []
    ++ (operation_words sig.op ++ (cond (is_barrier sig.kind) [] (datatype_word sig.ty ∷ count_words n sig.count sig.each) ++ rest))) ≡ Ok (sig, rest)
unfolding fields
fields-again sig n rest has =
    rw (
      root-again (has_root sig.kind) sig.root
          (operation_words sig.op ++ (cond (is_barrier sig.kind) [] (datatype_word sig.ty ∷ count_words n sig.count sig.each) ++ rest)) has.root,
      op-again (has_operation sig.kind) sig.op (cond (is_barrier sig.kind) [] (datatype_word sig.ty ∷ count_words n sig.count sig.each) ++ rest) has.operation,
    )
    (tail-again n sig.ty sig.count sig.each rest
    (λ t m e. record { kind = sig.kind; mode = sig.mode; root = sig.root; op = sig.op; ty = t; count = m; each = e })
    (is_barrier sig.kind) (has_counts sig.kind) (not-both sig.kind) has.datatype has.count has.each)

pub signature-again : (sig : Signature) (n : ℕ) (rest : List (List ℕ)) → HasWords n sig → broken sig n ≡ None
    → signature sig.mode n (signature_words n sig ++ rest) ≡ Ok (sig, rest)
unfolding signature
signature-again sig n rest has checked =
    let roots = cond (has_root sig.kind) (decimal sig.root ∷ []) [] in
    let tail = cond (is_barrier sig.kind) [] (datatype_word sig.ty ∷ count_words n sig.count sig.each) in
    let regrouped : signature_words n sig ++ rest ≡ kind_word sig.kind ∷ (roots ++ (operation_words sig.op ++ (tail ++ rest))) =
    simp append_assoc in
    ap (signature sig.mode n) regrouped ∙ rw (kind-again sig.kind, fields-again sig n rest has, checked) refl
