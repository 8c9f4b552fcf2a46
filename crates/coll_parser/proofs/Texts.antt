-- A text that is written so is read so.
use Rattle.std.proofs.Common.{◌≡◌, ℕ, suc, ◌+◌, ◌-◌, ◌^◌, ◌<◌, ◌≤◌, Bool, true, false, cond, List, [], ◌∷◌, ◌++◌, length, take, replicate, map}
use Rattle.std.proofs.Common.{Option, Some, None, Result, Ok, refl, sym, ap, ◌∙◌, append_assoc, arith, inl, inr}
use Rattle.std.specs.Prelude.{ℤ, pos, negsuc, not, ◌&&◌, ◌||◌, MatchBool, codes, decimal}
use Rattle.std.specs.List.{AllByRecursion, list_all}
use Rattle.std.specs.Fmt.{signed_decimal}
use Rattle.std.proofs.lemmas.Bool.{eq-eqb, lt-ltb, and_parts}
use Rattle.std.proofs.lemmas.List.{append-nil, length-append, take_at}
use Rattle.std.proofs.lemmas.Fmt.{digits_decimal, decimal_nonempty}
use Rattle.coll_kinds.specs.declared.datatype.Datatype.{Datatype}
use Rattle.coll_kinds.specs.declared.datatype.Datatype.TheVariants.{I8, I16, I32, I64, U8, U16, U32, U64, Byte, Pair}
use Rattle.coll_kinds.specs.declared.operation.Op.{Op}
use Rattle.coll_kinds.specs.declared.operation.Op.TheVariants.{Max, Min, Sum, Prod, Land, Lor, Lxor, Band, Bor, Bxor, LastNz, MaxLoc, MinLoc}
use Rattle.coll_kinds.specs.declared.kind.Kind.{Kind}
use Rattle.coll_kinds.specs.declared.kind.Kind.TheVariants.{Barrier, Bcast, Gather, Scatter, Allgather, Allgatherv, Alltoall, Reduce, Allreduce}
use Rattle.coll_kinds.specs.declared.kind.Kind.TheVariants.{Rsblock, Scan, Exscan}
use Rattle.coll_kinds.specs.declared.signature.Signature.{Signature}
use Rattle.coll_kinds.specs.Common.{has_root, is_barrier, has_counts, max_ranks, Element, whole, pair, is_pair, in_range, IsElement, kind_word}
use Rattle.coll_kinds.specs.Common.{operation_word, datatype_word}
use Rattle.coll_kinds.specs.Texts.{text_of as element_text}
use Rattle.coll_parser.specs.declared.cause.Cause.{Cause}
use Rattle.coll_parser.specs.declared.cause.Cause.TheVariants.{BadRank}
use Rattle.coll_parser.specs.declared.command.Command.{Command}
use Rattle.coll_parser.specs.declared.command.Command.TheVariants.{Post, Init, Start, Wait, Test, Free, WaitAny, WaitSome, WaitAll}
use Rattle.coll_parser.specs.Cutting.{lines_of, words_of}
use Rattle.coll_parser.specs.Reading.{and_then, numbers_from, numbers}
use Rattle.coll_parser.specs.Histories.{History, beginning}
use Rattle.coll_parser.specs.Lines.{rank_in, ranks, comm, section, line}
use Rattle.coll_parser.specs.Judging.{judged}
use Rattle.coll_parser.specs.Writing.{is_plain, IsWord, IsSkipped, skipped_line, operation_words, count_words, signature_words, value_words}
use Rattle.coll_parser.specs.Writing.{AreCounts, HasWords, members, IsMade, IsSome, NoneTwice, Writes, Says, ranks_line, comm_line, rank_line}
use Rattle.coll_parser.specs.Writing.{command_line, Tells, spaced, text_of}
use Rattle.coll_parser.proofs.Again.{numerals, small-positive, small-negative, within-again}
use Rattle.coll_parser.proofs.SaidAgain.{command-again}
use Rattle.coll_parser.proofs.Cuts.{plain-digits, AllByRecursion-append, words_of-spaced, lines_of-text}

-- ---- what is written are words

number-word : (n : ℕ) → n < 2 ^ 64 → IsWord (decimal n)
number-word n small = record { some = decimal_nonempty n small; plain = plain-digits (decimal n) (digits_decimal numerals n small) }

signed-word : (ty : Datatype) (z : ℤ) → in_range ty z ≡ true → IsWord (signed_decimal z)
signed-word ty (pos n) is = number-word n (small-positive ty n is)
signed-word ty (negsuc n) is =
    let digits = number-word (suc n) (small-negative ty n is) in
    record { some = omega arith; plain = digits.plain }

plain-append : (v w : List ℕ) → list_all is_plain v ≡ true → list_all is_plain w ≡ true → list_all is_plain (v ++ w) ≡ true
plain-append [] w first second = second
plain-append (c ∷ v) w first second =
    let parts = and_parts (is_plain c) (list_all is_plain v) first in
    rw (parts.0, plain-append v w parts.1 second) refl

-- a comma cuts no word
pair-word : (v w : List ℕ) → IsWord v → IsWord w → IsWord (v ++ 44 ∷ w)
pair-word v w first second = record {
  some = omega (arith, length-append v (44 ∷ w));
  plain = plain-append v (44 ∷ w) first.plain second.plain;
}

element-word : (ty : Datatype) (e : Element) → IsElement ty e → IsWord (element_text e)
element-word ty (whole z) is = signed-word ty z (and_parts (not (is_pair ty)) (in_range ty z) is).1
element-word ty (pair z at) is =
    let numbers = and_parts (in_range I32 z) (in_range I32 at) (and_parts (is_pair ty) (in_range I32 z && in_range I32 at) is).1 in
    pair-word (signed_decimal z) (signed_decimal at) (signed-word I32 z numbers.0) (signed-word I32 at numbers.1)

kind-word : (kind : Kind) → IsWord (kind_word kind)
kind-word Barrier = record { some = omega arith; plain = refl }
kind-word Bcast = record { some = omega arith; plain = refl }
kind-word Gather = record { some = omega arith; plain = refl }
kind-word Scatter = record { some = omega arith; plain = refl }
kind-word Allgather = record { some = omega arith; plain = refl }
kind-word Allgatherv = record { some = omega arith; plain = refl }
kind-word Alltoall = record { some = omega arith; plain = refl }
kind-word Reduce = record { some = omega arith; plain = refl }
kind-word Allreduce = record { some = omega arith; plain = refl }
kind-word Rsblock = record { some = omega arith; plain = refl }
kind-word Scan = record { some = omega arith; plain = refl }
kind-word Exscan = record { some = omega arith; plain = refl }

operation-word : (op : Op) → IsWord (operation_word op)
operation-word Max = record { some = omega arith; plain = refl }
operation-word Min = record { some = omega arith; plain = refl }
operation-word Sum = record { some = omega arith; plain = refl }
operation-word Prod = record { some = omega arith; plain = refl }
operation-word Land = record { some = omega arith; plain = refl }
operation-word Lor = record { some = omega arith; plain = refl }
operation-word Lxor = record { some = omega arith; plain = refl }
operation-word Band = record { some = omega arith; plain = refl }
operation-word Bor = record { some = omega arith; plain = refl }
operation-word Bxor = record { some = omega arith; plain = refl }
operation-word LastNz = record { some = omega arith; plain = refl }
operation-word MaxLoc = record { some = omega arith; plain = refl }
operation-word MinLoc = record { some = omega arith; plain = refl }

datatype-word : (ty : Datatype) → IsWord (datatype_word ty)
datatype-word I8 = record { some = omega arith; plain = refl }
datatype-word I16 = record { some = omega arith; plain = refl }
datatype-word I32 = record { some = omega arith; plain = refl }
datatype-word I64 = record { some = omega arith; plain = refl }
datatype-word U8 = record { some = omega arith; plain = refl }
datatype-word U16 = record { some = omega arith; plain = refl }
datatype-word U32 = record { some = omega arith; plain = refl }
datatype-word U64 = record { some = omega arith; plain = refl }
datatype-word Byte = record { some = omega arith; plain = refl }
datatype-word Pair = record { some = omega arith; plain = refl }

abbrev AreWords : List (List ℕ) → Type 0
AreWords words = AllByRecursion IsWord words

numbers-words : (qs : List ℕ) → AllByRecursion (λ q. q < 2 ^ 64) qs → AreWords (map decimal qs)
numbers-words [] are = tt
numbers-words (q ∷ qs) are = (number-word q are.0, numbers-words qs are.1)

elements-words : (ty : Datatype) (es : List Element) → AllByRecursion (IsElement ty) es → AreWords (map element_text es)
elements-words ty [] are = tt
elements-words ty (e ∷ es) are = (element-word ty e are.0, elements-words ty es are.1)

values-words : (ty : Datatype) (es : List Element) → AllByRecursion (IsElement ty) es → AreWords (value_words es)
values-words ty es are = (record { some = omega arith; plain = refl }, elements-words ty es are)

root-words : (b : Bool) (root : ℕ) → MatchBool b (root < 256) (root ≡ 0) → AreWords (cond b (decimal root ∷ []) [])
root-words true root fits = (number-word root (omega (arith, fits)), tt)
root-words false root fits = tt

op-words : (op : Option Op) → AreWords (operation_words op)
op-words None = tt
op-words (Some op) = (operation-word op, tt)

counts-words : (cs : List ℕ) → AllByRecursion (λ c. c < 2 ^ 32) cs → AreWords (map decimal cs)
counts-words [] fit = tt
counts-words (c ∷ cs) fit = (number-word c (omega (arith, fit.0)), counts-words cs fit.1)

each-words : (n : ℕ) (cs : List ℕ) → length cs ≡ n → AllByRecursion (λ c. c < 2 ^ 32) cs → AreWords (map decimal (take n (cs ++ replicate (max_ranks - n) 0)))
each-words n cs count fit = rw (take_at cs (replicate (max_ranks - n) 0) n count) (counts-words cs fit)

tail-words : (n : ℕ) (b c : Bool) (ty : Datatype) (count : ℕ) (each : Option (List ℕ))
    → MatchBool (b || c) (count ≡ 0) (count < 2 ^ 32) → MatchBool c (AreCounts n each) (each ≡ None)
    → AreWords (cond b [] (datatype_word ty ∷ count_words n count each))
tail-words n true c ty count each fits are = tt
tail-words n false true ty count each fits are = rw are.all (datatype-word ty, each-words n are.counts are.count are.fit)
tail-words n false false ty count each fits are = rw are (datatype-word ty, (number-word count (omega (arith, fits)), tt))

signature-words : (n : ℕ) (sig : Signature) → HasWords n sig → AreWords (signature_words n sig)
signature-words n sig has =
    let roots = cond (has_root sig.kind) (decimal sig.root ∷ []) [] in
    let tail = cond (is_barrier sig.kind) [] (datatype_word sig.ty ∷ count_words n sig.count sig.each) in (
      kind-word sig.kind,
      AllByRecursion-append IsWord (roots ++ operation_words sig.op) tail
          (AllByRecursion-append IsWord roots (operation_words sig.op) (root-words (has_root sig.kind) sig.root has.root) (op-words sig.op))
          (tail-words n (is_barrier sig.kind) (has_counts sig.kind) sig.ty sig.count sig.each has.count has.each),
    )

abbrev plain_word : (w : List ℕ) → 0 < length w → list_all is_plain w ≡ true → IsWord w
plain_word w some plain = record { some = some; plain = plain }

made-small : (h : History) (rank : ℕ) (qs : List ℕ) → AllByRecursion (IsMade h rank) qs → AllByRecursion (λ q. q < 2 ^ 64) qs
made-small h rank [] are = tt
made-small h rank (q ∷ qs) are = (are.0.0, made-small h rank qs are.1)

command-words : (h : History) (rank : ℕ) (c : Command) (words : List (List ℕ)) → Writes h rank c words → AreWords words
command-words h rank (Post comm sig given) words w =
    rw w.3 (
      plain_word (codes "post") (omega arith) refl,
      (
        number-word comm w.0.small,
        AllByRecursion-append IsWord (signature_words (members h comm) sig) (value_words w.1)
            (signature-words (members h comm) sig w.0.words) (values-words sig.ty w.1 w.2.1),
      ),
    )
command-words h rank (Init comm sig) words w =
    rw w.1 (plain_word (codes "init") (omega arith) refl, (number-word comm w.0.small, signature-words (members h comm) sig w.0.words))
command-words h rank (Start q given) words w =
    rw w.4 (plain_word (codes "start") (omega arith) refl, (number-word q w.1.small, values-words w.0.sig.ty w.2 w.3.1))
command-words h rank (Wait q) words w = rw w.1 (plain_word (codes "wait") (omega arith) refl, (number-word q w.0.0, tt))
command-words h rank (Test q) words w = rw w.1 (plain_word (codes "test") (omega arith) refl, (number-word q w.0.0, tt))
command-words h rank (Free q) words w = rw w.2 (plain_word (codes "free") (omega arith) refl, (number-word q w.1.small, tt))
command-words h rank (WaitAny qs) words w = rw w.2 (plain_word (codes "waitany") (omega arith) refl, numbers-words qs (made-small h rank qs w.1.0))
command-words h rank (WaitSome qs) words w = rw w.2 (plain_word (codes "waitsome") (omega arith) refl, numbers-words qs (made-small h rank qs w.1.0))
command-words h rank (WaitAll qs) words w =
    elim w [
      | inl named ↦ rw named.2 (plain_word (codes "waitall") (omega arith) refl, numbers-words qs (made-small h rank qs named.1.0))
      | inr bare ↦ rw bare.1 (plain_word (codes "waitall") (omega arith) refl, tt)
    ]

-- ---- lines

distinct-again : (read : List ℕ → Result ℕ Cause) (twice : Cause) (before qs : List ℕ)
    → AllByRecursion (λ q. read (decimal q) ≡ Ok q) qs → NoneTwice before qs → numbers_from read twice before (map decimal qs) ≡ Ok (before ++ qs)
distinct-again read twice before [] are none = ap Ok (sym (append-nil before))
distinct-again read twice before (q ∷ qs) are none =
    rw (are.0, none.0) (distinct-again read twice (before ++ q ∷ []) qs are.1 none.1 ∙ ap Ok (append_assoc before (q ∷ []) qs))

ranks-read : (n : ℕ) (group : List ℕ) → n ≤ 64 → AllByRecursion (λ r. r < n) group → AllByRecursion (λ r. rank_in n (decimal r) ≡ Ok r) group
ranks-read n [] few are = tt
ranks-read n (r ∷ group) few are = (let read = within-again 0 n r (omega arith) are.0 (omega (arith, are.0)) in rw read refl, ranks-read n group few are.1)

ranks-small : (n : ℕ) (group : List ℕ) → n ≤ 64 → AllByRecursion (λ r. r < n) group → AllByRecursion (λ r. r < 2 ^ 64) group
ranks-small n [] few are = tt
ranks-small n (r ∷ group) few are = (omega (arith, are.0), ranks-small n group few are.1)

group-again : (n : ℕ) (group : List ℕ) → n ≤ 64 → IsSome group → AllByRecursion (λ r. r < n) group → NoneTwice [] group
    → numbers (rank_in n) BadRank (map decimal group) ≡ Ok (group, [])
group-again n [] few some are none = absurd some
group-again n (r ∷ group) few some are none =
    ap (λ (x : Result (List ℕ) Cause). and_then x (λ ns. Ok (ns, [])))
    (distinct-again (rank_in n) BadRank [] (r ∷ group) (ranks-read n (r ∷ group) few are) none)

skips : (number : ℕ) (h : History) (words : List (List ℕ)) → IsSkipped words → line number h words ≡ Ok h
unfolding line
skips number h [] skipped = refl
skips number h (w ∷ words) skipped = rw (eq-eqb _ _ skipped) refl

says-reads : (number : ℕ) (h : History) (words : List (List ℕ)) (next : History) → Says number h words next → (line number h words ≡ Ok next) × AreWords words
unfolding line ranks comm section
says-reads number h words next (skipped_line all are skipped) = (skips number h all skipped, are)
says-reads number h words next (ranks_line n none low high) =
    (rw (none, within-again 1 65 n low (omega arith) (omega arith)) refl, (plain_word (codes "ranks") (omega arith) refl, (number-word n (omega arith), tt)))
says-reads number h words next (comm_line n group ranks few closed room some are none) = (
  rw (ranks, closed, lt-ltb (length h.groups) 16 room, group-again n group few some are none) refl,
  (plain_word (codes "comm") (omega arith) refl, numbers-words group (ranks-small n group few are)),
)
says-reads number h words next (rank_line n rank ranks few lt) = (
  rw (ranks, within-again 0 n rank (omega arith) lt (omega arith)) refl,
  (plain_word (codes "rank") (omega arith) refl, (number-word rank (omega arith), tt)),
)
says-reads number h words next (command_line n rank c w ranks opened writes) =
    (command-again number rank n h ranks opened c w writes, command-words h rank c w writes)

-- ---- texts

pub tells-reads : (number : ℕ) (h : History) (lines : List (List (List ℕ))) (last : History) → Tells number h lines last
    → (judged number h (map spaced lines) ≡ Ok last) × AllByRecursion AreWords lines
tells-reads number h [] last tells = (ap Ok (sym tells), tt)
tells-reads number h (words ∷ lines) last tells =
    let says = says-reads number h words tells.0 tells.1 in
    let rest = tells-reads (number + 1) tells.0 lines last tells.2 in
    let read : line number h (words_of (spaced words)) ≡ Ok tells.0 = rw (words_of-spaced words says.1) says.0 in
    (rw read rest.0, (says.1, rest.1))

-- what is written is read
pub text-again : (words : List (List ℕ)) (lines : List (List (List ℕ))) (last : History) → Tells 1 beginning (words ∷ lines) last
    → judged 1 beginning (lines_of (text_of (words ∷ lines))) ≡ Ok last
text-again words lines last tells =
    let reads = tells-reads 1 beginning (words ∷ lines) last tells in
    ap (judged 1 beginning) (lines_of-text words lines reads.1) ∙ reads.0
