-- A command that is accepted could have been written: the words that write it.
use Rattle.std.proofs.Common.{◌≡◌, ℕ, zero, suc, ◌+◌, ◌-◌, ◌/◌, ◌^◌, ◌<◌, ◌≤◌, Bool, true, false, cond, ltb, leb, eqb, List, [], ◌∷◌, ◌++◌, length}
use Rattle.std.proofs.Common.{take, drop, replicate, map, Option, Some, None, Result, Ok, Err, refl, sym, ap, subst, ◌∙◌, append_assoc, arith, inl}
use Rattle.std.proofs.Common.{inr}
use Rattle.std.specs.Prelude.{ℤ, pos, MatchBool, codes, decimal, flat_map, is_some, is_none, ok_or, unwrap_or, option_and_then, ◌&&◌, ◌||◌, IsTrue}
use Rattle.std.specs.Option.{option_map}
use Rattle.std.specs.List.{AllByRecursion, list_all, position, range_with_len}
use Rattle.std.specs.Str.{bytes_eq}
use Rattle.std.proofs.lemmas.Bool.{eqb-true, leb-true, ltb-true, and_parts}
use Rattle.std.proofs.lemmas.List.{append-nil, length-map}
use Rattle.std.proofs.lemmas.List.Concat.{flat_map-cons}
use Rattle.std.proofs.lemmas.Option.{slice_get_within}
use Rattle.coll_kinds.specs.declared.datatype.Datatype.{Datatype}
use Rattle.coll_kinds.specs.declared.datatype.Datatype.TheVariants.{I32, Byte}
use Rattle.coll_kinds.specs.declared.kind.Kind.{Kind}
use Rattle.coll_kinds.specs.declared.kind.Mode.{Mode}
use Rattle.coll_kinds.specs.declared.kind.Mode.TheVariants.{Once, Persistent}
use Rattle.coll_kinds.specs.declared.operation.Op.{Op}
use Rattle.coll_kinds.specs.declared.signature.Signature.{Signature}
use Rattle.coll_kinds.specs.Common.{has_root, has_operation, is_barrier, has_counts, broken, max_ranks, Element, whole, pair, width, is_pair}
use Rattle.coll_kinds.specs.Common.{in_range, element_bytes, IsElement, is_among, number_in, pair_of, value_of, kind_of, operation_of, datatype_of}
use Rattle.coll_kinds.specs.Texts.{number_of, whole_number_of}
use Rattle.coll_parser.specs.declared.cause.Cause.{Cause}
use Rattle.coll_parser.specs.declared.cause.Cause.TheVariants.{BadSignature, BadValue, WrongValueCount, NamedTwice}
use Rattle.coll_parser.specs.declared.command.Command.{Command}
use Rattle.coll_parser.specs.declared.command.Command.TheVariants.{Post, Init, Start, Wait, Test, Free, WaitAny, WaitSome, WaitAll}
use Rattle.coll_parser.specs.Reading.{Reading, and_then, ◌>>=◌, give, must, end, numbers_from, numbers}
use Rattle.coll_parser.specs.Histories.{History, Posting, group_of, total}
use Rattle.coll_parser.specs.Lines.{number_within, request_in, next, communicator, count_in, counts_from, counts, some_counts, fields, signature, due}
use Rattle.coll_parser.specs.Lines.{colon, values, room, post, init, made, startable, start, free, one, some, all, wait, test, waitany, waitsome}
use Rattle.coll_parser.specs.Lines.{waitall, command_of}
use Rattle.coll_parser.specs.Sound.{IsPosting}
use Rattle.coll_parser.specs.Writing.{AreValues, value_words, signature_words, AreCounts, HasWords, members, MayPost, MayStart, IsMade, NoneTwice}
use Rattle.coll_parser.specs.Writing.{MayName, IsSome, Writes}
use Rattle.coll_parser.proofs.Allowed.{then-is, bind-is, must-is, room-is, communicator-is, signature-checked, one-below, twice-not, next-is}
use Rattle.coll_parser.proofs.Allowed.{request-below, startable-is}
use Rattle.coll_parser.proofs.Readers.{count-le}

-- ---- what a history keeps, so that its numbers can be written

pub record IsSmall (h : History) : Type 0 where
  pub ranks : unwrap_or h.ranks 0 ≤ 64
  pub groups : length h.groups ≤ 16
  pub commands : total h.commands ≤ 4096

few-made : (h : History) (rank : ℕ) → IsSmall h → length (made h rank) ≤ 4096
few-made h rank small = omega (arith, small.commands, count-le rank h.commands)

-- ---- numbers

within-from : (low limit n m : ℕ) (a b : Bool) → cond (a && b) (Some n) None ≡ Some m → (a ≡ true → low ≤ n) → (b ≡ true → n < limit) → (low ≤ m) × (m < limit)
within-from low limit n m true true e f g = let same : n ≡ m = cc in subst (λ k. (low ≤ k) × (k < limit)) same (f refl, g refl)
within-from low limit n m true false e f g = absurd cc
within-from low limit n m false b e f g = absurd cc

within-some : (low limit : ℕ) (o : Option ℕ) (m : ℕ) → option_and_then (λ n. cond (leb low n && ltb n limit) (Some n) None) o ≡ Some m → (low ≤ m) × (m < limit)
within-some low limit None m e = absurd cc
within-some low limit (Some n) m e = within-from low limit n m (leb low n) (ltb n limit) e (leb-true low n) (ltb-true n limit)

ok-some : {A : Type 0} (o : Option A) (cause : Cause) (a : A) → ok_or o cause ≡ Ok a → o ≡ Some a
ok-some (Some x) cause a e = cc
ok-some None cause a e = absurd cc

-- a number that was read lies where it was asked to
pub number-within : (low limit : ℕ) (cause : Cause) (w : List ℕ) (n : ℕ) → ok_or (number_within low limit w) cause ≡ Ok n → (low ≤ n) × (n < limit)
number-within low limit cause w n e = within-some low limit (number_of w) n (ok-some (number_within low limit w) cause n e)

-- numbers that were read, after those before
pub record AreRead (P : ℕ → Type 0) (before all : List ℕ) : Type 0 where
  pub more : List ℕ
  pub parts : all ≡ before ++ more
  pub each : AllByRecursion P more
  pub differ : NoneTwice before more

free-of : {A : Type 0} (b : Bool) (cause : Cause) (r : Result A Cause) (a : A) → cond b (Err cause) r ≡ Ok a → b ≡ false
free-of true cause r a e = absurd cc
free-of false cause r a e = refl

numbers-read : (P : ℕ → Type 0) (read : List ℕ → Result ℕ Cause) (twice : Cause) → ((w : List ℕ) (n : ℕ) → read w ≡ Ok n → P n)
    → (before : List ℕ) (words : List (List ℕ)) (all : List ℕ)
    → numbers_from read twice before words ≡ Ok all → AreRead P before all
numbers-read P read twice each before [] all e = let same : before ≡ all =
    cc in record { more = []; parts = sym same ∙ sym (append-nil before); each = tt; differ = tt }
numbers-read P read twice each before (w ∷ words) all e =
    let one = then-is (read w) (λ n. cond (is_among n before) (Err twice) (numbers_from read twice (before ++ n ∷ []) words)) all e in
    let n = one.0 in
    let behind = numbers_from read twice (before ++ n ∷ []) words in
    let rest = numbers-read P read twice each (before ++ n ∷ []) words all (twice-not (is_among n before) twice behind all one.2) in
    record {
      more = n ∷ rest.more;
      parts = rest.parts ∙ append_assoc before (n ∷ []) rest.more;
      each = (each w n one.1, rest.each);
      differ = (free-of (is_among n before) twice behind all one.2, rest.differ);
    }

abbrev pub AreNumbers : (ℕ → Type 0) → List ℕ → Type 0
AreNumbers P ns = IsSome ns × AllByRecursion P ns × NoneTwice [] ns

pub numbers-are : (P : ℕ → Type 0) (read : List ℕ → Result ℕ Cause) (twice : Cause)
    → ((w : List ℕ) (n : ℕ) → read w ≡ Ok n → P n) → (words : List (List ℕ)) (a : List ℕ × List (List ℕ))
    → numbers read twice words ≡ Ok a → AreNumbers P a.0
numbers-are P read twice each [] a e = absurd cc
numbers-are P read twice each (w ∷ words) a e =
    let found = then-is (numbers_from read twice [] (w ∷ words)) (λ ns. Ok (ns, [])) a e in
    let one = then-is (read w) (λ n. cond (is_among n []) (Err twice) (numbers_from read twice (n ∷ []) words)) found.0 found.1 in
    let n = one.0 in
    let rest = numbers-read P read twice each (n ∷ []) words found.0 one.2 in
    let same : n ∷ rest.more ≡ a.0 = sym rest.parts ∙ (let last : (found.0, []) ≡ a = cc in ap (λ y. y.0) last) in
    subst (AreNumbers P) same (tt, (each w n one.1, rest.each), (refl, rest.differ))

-- ---- values

abbrev element_of : Datatype → List ℕ → Element
element_of ty w = unwrap_or (value_of ty w) (whole (pos 0))

-- what was read lies in the range
abbrev AreRanged : Datatype → Option ℤ → Type 0
AreRanged ty read = (z : ℤ) → read ≡ Some z → in_range ty z ≡ true

number-from : (ty : Datatype) (z y : ℤ) (b : Bool) → in_range ty z ≡ b → cond b (Some z) None ≡ Some y → in_range ty y ≡ true
number-from ty z y true is e = let same : z ≡ y = cc in subst (λ x. in_range ty x ≡ true) same is
number-from ty z y false is e = absurd cc

number-some : (ty : Datatype) (o : Option ℤ) (y : ℤ) → option_and_then (λ z. cond (in_range ty z) (Some z) None) o ≡ Some y → in_range ty y ≡ true
number-some ty None y e = absurd cc
number-some ty (Some z) y e = number-from ty z y (in_range ty z) refl e

number-ranged : (ty : Datatype) (text : List ℕ) → AreRanged ty (number_in ty text)
number-ranged ty text = number-some ty (whole_number_of text)

whole-is : (ty : Datatype) → is_pair ty ≡ false → (o : Option ℤ) → AreRanged ty o → (e : Element) → option_map whole o ≡ Some e → IsElement ty e
whole-is ty plain None ranged e is = absurd cc
whole-is ty plain (Some z) ranged e is = let same : whole z ≡ e = cc in subst (IsElement ty) same (rw (plain, ranged z refl) refl)

pair-is : (ty : Datatype) → is_pair ty ≡ true → (value index : Option ℤ) → AreRanged I32 value → AreRanged I32 index
    → (e : Element) → option_and_then (λ z. option_map (pair z) index) value ≡ Some e → IsElement ty e
pair-is ty two None index first second e is = absurd cc
pair-is ty two (Some z) None first second e is = absurd cc
pair-is ty two (Some z) (Some at) first second e is = let same : pair z at ≡ e = cc in subst (IsElement ty) same (rw (two, first z refl, second at refl) refl)

pair-from : (ty : Datatype) → is_pair ty ≡ true → (word : List ℕ) (comma : Option ℕ) (e : Element)
    → option_and_then (λ comma. option_and_then (λ z. option_map (pair z) (number_in I32 (drop (comma + 1) word))) (number_in I32 (take comma word))) comma
    ≡ Some e → IsElement ty e
pair-from ty two word None e is = absurd cc
pair-from ty two word (Some comma) e is =
    pair-is ty two (number_in I32 (take comma word)) (number_in I32 (drop (comma + 1) word))
    (number-ranged I32 (take comma word)) (number-ranged I32 (drop (comma + 1) word)) e is

element-from : (ty : Datatype) (b : Bool) → is_pair ty ≡ b → (word : List ℕ) (e : Element)
    → cond b (pair_of word) (option_map whole (number_in ty word)) ≡ Some e → IsElement ty e
element-from ty true two word e is = pair-from ty two word (position (λ c. eqb c 44) word) e is
element-from ty false plain word e is = whole-is ty plain (number_in ty word) (number-ranged ty word) e is

element-some : (ty : Datatype) (word : List ℕ) (e : Element) → value_of ty word ≡ Some e → IsElement ty e
element-some ty word e is = element-from ty (is_pair ty) refl word e is

unwrapped : (ty : Datatype) (o : Option Element) → is_some o ≡ true → ((e : Element) → o ≡ Some e → IsElement ty e) → IsElement ty (unwrap_or o (whole (pos 0)))
unwrapped ty None is f = absurd cc
unwrapped ty (Some e) is f = f e refl

elements-are : (ty : Datatype) (words : List (List ℕ)) → list_all (λ w. is_some (value_of ty w)) words ≡ true
    → AllByRecursion (IsElement ty) (map (element_of ty) words)
elements-are ty [] e = tt
elements-are ty (w ∷ words) e =
    let parts = and_parts (is_some (value_of ty w)) (list_all (λ v. is_some (value_of ty v)) words) e in
    (unwrapped ty (value_of ty w) parts.0 (element-some ty w), elements-are ty words parts.1)

bytes-map : (ty : Datatype) (words : List (List ℕ))
    → flat_map (λ w. element_bytes ty (element_of ty w)) words ≡ flat_map (element_bytes ty) (map (element_of ty) words)
bytes-map ty [] = refl
bytes-map ty (w ∷ words) =
    flat_map-cons (λ v. element_bytes ty (element_of ty v)) w words ∙ ap (λ (bytes : List ℕ). element_bytes ty (element_of ty w) ++ bytes) (bytes-map ty words)
    ∙ sym (flat_map-cons (element_bytes ty) (element_of ty w) (map (element_of ty) words))

-- bytes that were read are those of values
abbrev pub CanGive : Datatype → ℕ → List ℕ → Type 0
CanGive ty count given = (elements : List Element) × AreValues ty count elements given

values-given : (count : ℕ) (ty : Datatype) (words : List (List ℕ)) (a : List ℕ × List (List ℕ)) → values count ty words ≡ Ok a → CanGive ty count a.0
unfolding values
values-given count ty words a e =
    let bytes = λ (w : List ℕ). element_bytes ty (unwrap_or (value_of ty w) (whole (pos 0))) in
    let first = bind-is (colon count)
    (λ ws. must (eqb (length ws) count) WrongValueCount >>= λ counted. must (list_all (λ w. is_some (value_of ty w)) ws)
    BadValue >>= λ valued. give (flat_map bytes ws)) words a e in
    let ws = first.0.0 in
    let second =
    bind-is (must (eqb (length ws) count) WrongValueCount)
    (λ counted. must (list_all (λ w. is_some (value_of ty w)) ws) BadValue >>= λ valued. give (flat_map bytes ws)) first.0.1 a first.2 in
    let third = bind-is (must (list_all (λ w. is_some (value_of ty w)) ws) BadValue) (λ valued. give (flat_map bytes ws)) second.0.1 a second.2 in
    let counted : length ws ≡ count = eqb-true _ _ (must-is _ WrongValueCount first.0.1 second.0 second.1) in
    let given : flat_map bytes ws ≡ a.0 = cc in
    let valued : list_all (λ w. is_some (value_of ty w)) ws ≡ true = must-is _ BadValue second.0.1 third.0 third.1 in
    (map (element_of ty) ws, (length-map ws (element_of ty) ∙ counted, elements-are ty ws valued, sym given ∙ bytes-map ty ws))

-- ---- signatures

root-is : (b : Bool) (words : List (List ℕ)) (a : ℕ × List (List ℕ))
    → cond b (next (λ w. ok_or (number_within 0 256 w) BadSignature)) (give 0) words ≡ Ok a → MatchBool b (a.0 < 256) (a.0 ≡ 0)
root-is true words a e = let read =
    next-is (λ w. ok_or (number_within 0 256 w) BadSignature) words a e in (number-within 0 256 BadSignature read.0 a.0 read.1).1
root-is false words a e = cc

op-is : (b : Bool) (words : List (List ℕ)) (a : Option Op × List (List ℕ))
    → cond b (next (λ w. and_then (ok_or (operation_of w) BadSignature) (λ op. Ok (Some op)))) (give None) words ≡ Ok a
    → MatchBool b ((op : Op) × (a.0 ≡ Some op)) (a.0 ≡ None)
op-is true words a e =
    let read = next-is (λ w. and_then (ok_or (operation_of w) BadSignature) (λ op. Ok (Some op))) words a e in
    let found = then-is (ok_or (operation_of read.0) BadSignature) (λ op. Ok (Some op)) a.0 read.1 in
    (found.0, cc)
op-is false words a e = cc

datatype-is : (b : Bool) (words : List (List ℕ)) (a : Datatype × List (List ℕ))
    → cond b (give Byte) (next (λ w. ok_or (datatype_of w) BadSignature)) words ≡ Ok a → IsTrue b → a.0 ≡ Byte
datatype-is true words a e is = cc
datatype-is false words a e is = absurd cc

count-is : (b : Bool) (words : List (List ℕ)) (a : ℕ × List (List ℕ)) → cond b (give 0) (next count_in) words ≡ Ok a → MatchBool b (a.0 ≡ 0) (a.0 < 2 ^ 32)
count-is true words a e = cc
count-is false words a e = let read = next-is count_in words a e in (number-within 0 (2 ^ 32) BadSignature read.0 a.0 read.1).1

-- that many counts that were read, after those before
record AreMore (k : ℕ) (before all : List ℕ) : Type 0 where
  pub more : List ℕ
  pub parts : all ≡ before ++ more
  pub count : length more ≡ k
  pub fit : AllByRecursion (λ c. c < 2 ^ 32) more

counts-are : (before : List ℕ) (k : ℕ) (words : List (List ℕ)) (a : List ℕ × List (List ℕ)) → counts_from before k words ≡ Ok a → AreMore k before a.0
counts-are before zero words a e = let same : before ≡ a.0 = cc in record { more = []; parts = sym same ∙ sym (append-nil before); count = refl; fit = tt }
counts-are before (suc k) words a e =
    let first = bind-is (next count_in) (λ c. counts_from (before ++ c ∷ []) k) words a e in
    let c = first.0.0 in
    let rest = counts-are (before ++ c ∷ []) k first.0.1 a first.2 in
    let read = next-is count_in words first.0 first.1 in
    record {
      more = c ∷ rest.more;
      parts = rest.parts ∙ append_assoc before (c ∷ []) rest.more;
      count = ap suc rest.count;
      fit = ((number-within 0 (2 ^ 32) BadSignature read.0 c read.1).1, rest.fit);
    }

each-is : (b : Bool) (n : ℕ) (words : List (List ℕ)) (a : Option (List ℕ) × List (List ℕ))
    → cond b (some_counts n) (give None) words ≡ Ok a → MatchBool b (AreCounts n a.0) (a.0 ≡ None)
each-is true n words a e =
    let first = bind-is (counts n) (λ all. give (Some all)) words a e in
    let second = bind-is (counts_from [] n) (λ read. give (read ++ replicate (max_ranks - n) 0)) words first.0 first.1 in
    let are = counts-are [] n words second.0 second.1 in
    let padded : second.0.0 ++ replicate (max_ranks - n) 0 ≡ first.0.0 = cc in
    let same : Some first.0.0 ≡ a.0 = cc in
    record {
      counts = are.more;
      count = are.count;
      fit = are.fit;
      all = sym same ∙ ap Some (sym padded ∙ ap (λ (cs : List ℕ). cs ++ replicate (max_ranks - n) 0) are.parts);
    }
each-is false n words a e = cc

abbrev IsWritten : Mode → ℕ → Signature → Type 0
IsWritten mode n sig = (sig.mode ≡ mode) × HasWords n sig

given-is : {A : Type 0} (x : A) (words : List (List ℕ)) (a : A × List (List ℕ)) → give x words ≡ Ok a → x ≡ a.0
given-is x words a e = cc

fields-are : (mode : Mode) (n : ℕ) (kind : Kind) (words : List (List ℕ)) (a : Signature × List (List ℕ))
    → fields mode n kind words ≡ Ok a → IsWritten mode n a.0
unfolding fields
fields-are mode n kind words a e =
    let roots = cond (has_root kind) (next (λ w. ok_or (number_within 0 256 w) BadSignature)) (give 0) in
    let ops = cond (has_operation kind) (next (λ w. and_then (ok_or (operation_of w) BadSignature) (λ op. Ok (Some op)))) (give None) in
    let types = cond (is_barrier kind) (give Byte) (next (λ w. ok_or (datatype_of w) BadSignature)) in
    let count = cond (is_barrier kind || has_counts kind) (give 0) (next count_in) in
    let each = cond (has_counts kind) (some_counts n) (give None) in
    let sig : ℕ → Option Op → Datatype → ℕ → Option (List ℕ)
    → Signature = λ root op ty count each. record { kind = kind; mode = mode; root = root; op = op; ty = ty; count = count; each = each } in
    let first = bind-is roots (λ root. ops >>= λ op. types >>= λ ty. count >>= λ m. each >>= λ cs. give (sig root op ty m cs)) words a e in
    let second = bind-is ops (λ op. types >>= λ ty. count >>= λ m. each >>= λ cs. give (sig first.0.0 op ty m cs)) first.0.1 a first.2 in
    let third = bind-is types (λ ty. count >>= λ m. each >>= λ cs. give (sig first.0.0 second.0.0 ty m cs)) second.0.1 a second.2 in
    let fourth = bind-is count (λ m. each >>= λ cs. give (sig first.0.0 second.0.0 third.0.0 m cs)) third.0.1 a third.2 in
    let fifth = bind-is each (λ cs. give (sig first.0.0 second.0.0 third.0.0 fourth.0.0 cs)) fourth.0.1 a fourth.2 in
    let same : sig first.0.0 second.0.0 third.0.0 fourth.0.0 fifth.0.0 ≡ a.0 =
    given-is (sig first.0.0 second.0.0 third.0.0 fourth.0.0 fifth.0.0) fifth.0.1 a fifth.2 in
    subst (IsWritten mode n) same (
      refl,
      record {
        root = root-is (has_root kind) words first.0 first.1;
        operation = op-is (has_operation kind) first.0.1 second.0 second.1;
        datatype = datatype-is (is_barrier kind) second.0.1 third.0 third.1;
        count = count-is (is_barrier kind || has_counts kind) third.0.1 fourth.0 fourth.1;
        each = each-is (has_counts kind) n fourth.0.1 fifth.0 fifth.1;
      },
    )

signature-is : (mode : Mode) (n : ℕ) (words : List (List ℕ)) (a : Signature × List (List ℕ)) → signature mode n words ≡ Ok a → IsWritten mode n a.0
unfolding signature
signature-is mode n words a e =
    let first = bind-is (next (λ w. ok_or (kind_of w) BadSignature))
    (λ kind. fields mode n kind >>= λ sig. must (is_none (broken sig n)) BadSignature >>= λ checked. give sig) words a e in
    let second = bind-is (fields mode n first.0.0) (λ sig. must (is_none (broken sig n)) BadSignature >>= λ checked. give sig) first.0.1 a first.2 in
    let third = bind-is (must (is_none (broken second.0.0 n)) BadSignature) (λ checked. give second.0.0) second.0.1 a second.2 in
    let same : second.0.0 ≡ a.0 = cc in
    subst (IsWritten mode n) same (fields-are mode n first.0.0 first.0.1 second.0 second.1)

-- ---- commands

abbrev pub CanSay : History → ℕ → Command → Type 0
CanSay h rank c = (words : List (List ℕ)) × Writes h rank c words

may-post : (h : History) (rank : ℕ) (mode : Mode) (comm : ℕ) (sig : Signature) → IsSmall h → IsPosting h.groups rank comm sig
    → IsWritten mode (members h comm) sig → total h.commands < 4096 → MayPost h rank mode comm sig
may-post h rank mode comm sig small is written room = record {
  small = (let within = slice_get_within h.groups comm is.group is.known in omega (arith, within, small.groups));
  group = is.group;
  known = is.known;
  member = is.member;
  is_member = is.is_member;
  mode_is = written.0;
  words = written.1;
  checked = is.checked;
  room = room;
}

module _ (h : History) (rank : ℕ) (small : IsSmall h) where
  post-sayable : (words : List (List ℕ)) (a : Command × List (List ℕ)) → post h rank words ≡ Ok a → CanSay h rank a.0
  unfolding post
  post-sayable words a e =
      let first = bind-is (communicator h.groups rank)
      (λ comm. signature Once (length (group_of h.groups comm)) >>= λ sig. values (due h.groups rank comm sig / width sig.ty)
      sig.ty >>= λ given. room h >>= λ fits. give (Post comm sig given)) words a e in
      let comm = first.0.0 in
      let size = length (group_of h.groups comm) in
      let second =
      bind-is (signature Once size)
      (λ sig. values (due h.groups rank comm sig / width sig.ty) sig.ty >>= λ given. room h >>= λ fits. give (Post comm sig given)) first.0.1 a first.2 in
      let sig = second.0.0 in
      let count = due h.groups rank comm sig / width sig.ty in
      let third = bind-is (values count sig.ty) (λ given. room h >>= λ fits. give (Post comm sig given)) second.0.1 a second.2 in
      let given = third.0.0 in
      let last = room-is h (Post comm sig given) third.0.1 a third.2 in
      let is = communicator-is h.groups rank words first.0 sig first.1 (signature-checked Once size first.0.1 second.0 second.1) in
      let may = may-post h rank Once comm sig small is (signature-is Once size first.0.1 second.0 second.1) last.1 in
      let valued = values-given count sig.ty second.0.1 third.0 third.1 in
      subst (CanSay h rank) last.0 (codes "post" ∷ decimal comm ∷ signature_words (members h comm) sig ++ value_words valued.0, (may, valued.0, valued.1, refl))

  init-sayable : (words : List (List ℕ)) (a : Command × List (List ℕ)) → init h rank words ≡ Ok a → CanSay h rank a.0
  unfolding init
  init-sayable words a e =
      let first = bind-is (communicator h.groups rank)
      (λ comm. signature Persistent (length (group_of h.groups comm)) >>= λ sig. end >>= λ ended. room h >>= λ fits. give (Init comm sig)) words a e in
      let comm = first.0.0 in
      let size = length (group_of h.groups comm) in
      let second = bind-is (signature Persistent size) (λ sig. end >>= λ ended. room h >>= λ fits. give (Init comm sig)) first.0.1 a first.2 in
      let sig = second.0.0 in
      let third = bind-is end (λ ended. room h >>= λ fits. give (Init comm sig)) second.0.1 a second.2 in
      let last = room-is h (Init comm sig) third.0.1 a third.2 in
      let is = communicator-is h.groups rank words first.0 sig first.1 (signature-checked Persistent size first.0.1 second.0 second.1) in
      let may = may-post h rank Persistent comm sig small is (signature-is Persistent size first.0.1 second.0 second.1) last.1 in
      subst (CanSay h rank) last.0 (codes "init" ∷ decimal comm ∷ signature_words (members h comm) sig, (may, refl))

  startable-may : (words : List (List ℕ)) (a : (ℕ × Posting) × List (List ℕ))
      → startable h rank words ≡ Ok a → MayStart h rank a.0.0 a.0.1
  startable-may words a e =
      let is = startable-is h rank words a e in
      let within = slice_get_within (made h rank) a.0.0 a.0.1 is.0 in
      record { small = omega (arith, within, few-made h rank small); posted = is.0; startable = is.1 }

  start-sayable : (words : List (List ℕ)) (a : Command × List (List ℕ)) → start h rank words ≡ Ok a → CanSay h rank a.0
  unfolding start
  start-sayable words a e =
      let first = bind-is (startable h rank)
      (λ it. values (due h.groups rank it.1.comm it.1.sig / width it.1.sig.ty) it.1.sig.ty >>= λ given. give (Start it.0 given)) words a e in
      let it = first.0.0 in
      let count = due h.groups rank it.1.comm it.1.sig / width it.1.sig.ty in
      let second = bind-is (values count it.1.sig.ty) (λ given. give (Start it.0 given)) first.0.1 a first.2 in
      let same : Start it.0 second.0.0 ≡ a.0 = cc in
      let valued = values-given count it.1.sig.ty first.0.1 second.0 second.1 in
      subst (CanSay h rank) same (codes "start" ∷ decimal it.0 ∷ value_words valued.0, (it.1, startable-may words first.0 first.1, valued.0, valued.1, refl))

  free-sayable : (words : List (List ℕ)) (a : Command × List (List ℕ)) → free h rank words ≡ Ok a → CanSay h rank a.0
  unfolding free
  free-sayable words a e =
      let first = bind-is (startable h rank) (λ it. end >>= λ ended. give (Free it.0)) words a e in
      let q = first.0.0.0 in
      let second = bind-is end (λ ended. give (Free q)) first.0.1 a first.2 in
      let same : Free q ≡ a.0 = cc in
      subst (CanSay h rank) same (codes "free" ∷ decimal q ∷ [], (first.0.0.1, startable-may words first.0 first.1, refl))

  is-made : (q : ℕ) → q < length (made h rank) → IsMade h rank q
  is-made q lt = (omega (arith, lt, few-made h rank small), lt)

  wait-sayable : (words : List (List ℕ)) (a : Command × List (List ℕ)) → wait h rank words ≡ Ok a → CanSay h rank a.0
  wait-sayable words a e =
      let first = bind-is (one h rank) (λ q. give (Wait q)) words a e in
      let same : Wait first.0.0 ≡ a.0 = cc in
      subst (CanSay h rank) same (codes "wait" ∷ decimal first.0.0 ∷ [], (is-made first.0.0 (one-below h rank words first.0 first.1), refl))

  test-sayable : (words : List (List ℕ)) (a : Command × List (List ℕ)) → test h rank words ≡ Ok a → CanSay h rank a.0
  test-sayable words a e =
      let first = bind-is (one h rank) (λ q. give (Test q)) words a e in
      let same : Test first.0.0 ≡ a.0 = cc in
      subst (CanSay h rank) same (codes "test" ∷ decimal first.0.0 ∷ [], (is-made first.0.0 (one-below h rank words first.0 first.1), refl))

  requests-are : (words : List (List ℕ)) (a : List ℕ × List (List ℕ)) → some h rank words ≡ Ok a → IsSome a.0 × MayName h rank a.0
  requests-are words a e =
      let are = numbers-are (IsMade h rank) (request_in (length (made h rank))) NamedTwice
      (λ w q read. is-made q (request-below (length (made h rank)) w q read)) words a e in
      (are.0, (are.1, are.2))

  waitany-sayable : (words : List (List ℕ)) (a : Command × List (List ℕ)) → waitany h rank words ≡ Ok a → CanSay h rank a.0
  waitany-sayable words a e =
      let first = bind-is (some h rank) (λ qs. give (WaitAny qs)) words a e in
      let same : WaitAny first.0.0 ≡ a.0 = cc in
      let are = requests-are words first.0 first.1 in
      subst (CanSay h rank) same (codes "waitany" ∷ map decimal first.0.0, (are.0, are.1, refl))

  waitsome-sayable : (words : List (List ℕ)) (a : Command × List (List ℕ)) → waitsome h rank words ≡ Ok a → CanSay h rank a.0
  waitsome-sayable words a e =
      let first = bind-is (some h rank) (λ qs. give (WaitSome qs)) words a e in
      let same : WaitSome first.0.0 ≡ a.0 = cc in
      let are = requests-are words first.0 first.1 in
      subst (CanSay h rank) same (codes "waitsome" ∷ map decimal first.0.0, (are.0, are.1, refl))

  all-sayable : (words : List (List ℕ)) (a : List ℕ × List (List ℕ)) → all h rank words ≡ Ok a → CanSay h rank (WaitAll a.0)
  all-sayable [] a e =
      let same : range_with_len 0 (length (made h rank)) ≡ a.0 = cc in
      (codes "waitall" ∷ [], inr (sym same, refl))
  all-sayable (w ∷ words) a e =
      let are = requests-are (w ∷ words) a e in
      (codes "waitall" ∷ map decimal a.0, inl (are.0, are.1, refl))

  waitall-sayable : (words : List (List ℕ)) (a : Command × List (List ℕ)) → waitall h rank words ≡ Ok a → CanSay h rank a.0
  waitall-sayable words a e =
      let first = bind-is (all h rank) (λ qs. give (WaitAll qs)) words a e in
      let same : WaitAll first.0.0 ≡ a.0 = cc in
      subst (CanSay h rank) same (all-sayable words first.0 first.1)

  -- what a command's word has its rank read can be written
  abbrev IsSayable : (History → ℕ → Reading Command) → Type 0
  IsSayable read = (words : List (List ℕ)) (a : Command × List (List ℕ)) → read h rank words ≡ Ok a → CanSay h rank a.0

  this-or : (b : Bool) (this read : History → ℕ → Reading Command) (others : Option (History → ℕ → Reading Command))
      → IsSayable this → (others ≡ Some read → IsSayable read) → cond b (Some this) others ≡ Some read → IsSayable read
  this-or true this read others here there e = let same : this ≡ read = cc in subst IsSayable same here
  this-or false this read others here there e = there e

  pub command-sayable : (w : List ℕ) (read : History → ℕ → Reading Command) → command_of w ≡ Some read → IsSayable read
  command-sayable w read e =
      let last : Option (History → ℕ → Reading Command) = cond (bytes_eq w (codes "waitall")) (Some waitall) None in
      let from_waitsome : Option (History → ℕ → Reading Command) = cond (bytes_eq w (codes "waitsome")) (Some waitsome) last in
      let from_waitany : Option (History → ℕ → Reading Command) = cond (bytes_eq w (codes "waitany")) (Some waitany) from_waitsome in
      let from_free : Option (History → ℕ → Reading Command) = cond (bytes_eq w (codes "free")) (Some free) from_waitany in
      let from_test : Option (History → ℕ → Reading Command) = cond (bytes_eq w (codes "test")) (Some test) from_free in
      let from_wait : Option (History → ℕ → Reading Command) = cond (bytes_eq w (codes "wait")) (Some wait) from_test in
      let from_start : Option (History → ℕ → Reading Command) = cond (bytes_eq w (codes "start")) (Some start) from_wait in
      let from_init : Option (History → ℕ → Reading Command) = cond (bytes_eq w (codes "init")) (Some init) from_start in
      this-or (bytes_eq w (codes "post")) post read from_init post-sayable
      (this-or (bytes_eq w (codes "init")) init read from_start init-sayable
      (this-or (bytes_eq w (codes "start")) start read from_wait start-sayable
      (this-or (bytes_eq w (codes "wait")) wait read from_test wait-sayable
      (this-or (bytes_eq w (codes "test")) test read from_free test-sayable
      (this-or (bytes_eq w (codes "free")) free read from_waitany free-sayable
      (this-or (bytes_eq w (codes "waitany")) waitany read from_waitsome waitany-sayable
      (this-or (bytes_eq w (codes "waitsome")) waitsome read last waitsome-sayable
      (this-or (bytes_eq w (codes "waitall")) waitall read None waitall-sayable (λ none. absurd cc))))))))) e
