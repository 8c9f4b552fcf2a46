-- Lines that are accepted could have been said: the lines that say the same.
use Rattle.std.proofs.Common.{◌≡◌, ℕ, ◌+◌, ◌<◌, ◌≤◌, Bool, true, false, cond, eqb, List, [], ◌∷◌, ◌++◌, length, map, Option, Some, None, Result, Ok}
use Rattle.std.proofs.Common.{Err, refl, sym, subst, arith}
use Rattle.std.specs.Prelude.{codes, decimal, is_none, ok_or, unwrap_or, slice_index, nat_lt}
use Rattle.std.specs.List.{range_with_len}
use Rattle.std.specs.Str.{bytes_eq}
use Rattle.std.proofs.lemmas.Bool.{ltb-true}
use Rattle.std.proofs.lemmas.List.{length-append}
use Rattle.coll_parser.specs.declared.cause.Cause.{Cause}
use Rattle.coll_parser.specs.declared.cause.Cause.TheVariants.{MissingRanks, UnknownCommand, OutOfPlace, BadNumber, BadRank, BadCommunicator}
use Rattle.coll_parser.specs.declared.command.Command.{Command}
use Rattle.coll_parser.specs.declared.command.Command.TheVariants.{Post, Init, Start, Wait, Test, Free, WaitAny, WaitSome, WaitAll}
use Rattle.coll_parser.specs.Cutting.{words_of}
use Rattle.coll_parser.specs.Reading.{Reading, and_then, ◌>>=◌, give, fault, known, must, end, numbers}
use Rattle.coll_parser.specs.Histories.{History, beginning, postings, total}
use Rattle.coll_parser.specs.Lines.{number_within, rank_in, next, command_of, ranks, comm, section, issue, command, line_by, line}
use Rattle.coll_parser.specs.Judging.{in_line, judged}
use Rattle.coll_parser.specs.Writing.{Writes, Says, skipped_line, ranks_line, comm_line, rank_line, command_line, Tells}
use Rattle.coll_parser.specs.Laws.{CanBeSaid}
use Rattle.coll_parser.proofs.Allowed.{then-is, bind-is, known-is, must-is, none-is, next-is}
use Rattle.coll_parser.proofs.Sounds.{total-more}
use Rattle.coll_parser.proofs.Sayable.{IsSmall, number-within, numbers-are, command-sayable}
use Rattle.coll_parser.proofs.Texts.{text-again}

-- ---- lines

abbrev CanTell : ℕ → History → History → Type 0
CanTell number h next = (words : List (List ℕ)) × Says number h words next

skips : (number : ℕ) (h : History) → CanTell number h h
skips number h = ([], skipped_line [] tt tt)

ranks-told : (number : ℕ) (h : History) → h.ranks ≡ None → (words : List (List ℕ)) (a : History × List (List ℕ)) → ranks h words ≡ Ok a → CanTell number h a.0
unfolding ranks
ranks-told number h none words a e =
    let first = bind-is (next (λ w. ok_or (number_within 1 65 w) BadNumber))
    (λ n. end >>= λ ended. give (record h { ranks = Some n; groups = range_with_len 0 n ∷ [] })) words a e in
    let n = first.0.0 in
    let second = bind-is end (λ ended. give (record h { ranks = Some n; groups = range_with_len 0 n ∷ [] })) first.0.1 a first.2 in
    let same : record h { ranks = Some n; groups = range_with_len 0 n ∷ [] } ≡ a.0 = cc in
    let read = next-is (λ w. ok_or (number_within 1 65 w) BadNumber) words first.0 first.1 in
    let within = number-within 1 65 BadNumber read.0 n read.1 in
    subst (CanTell number h) same (codes "ranks" ∷ decimal n ∷ [], ranks_line n none within.0 (omega (arith, within.1)))

comm-told : (number n : ℕ) (h : History) → h.ranks ≡ Some n → n ≤ 64 → (words : List (List ℕ)) (a : History × List (List ℕ))
    → comm n h words ≡ Ok a → CanTell number h a.0
unfolding comm
comm-told number n h known_ranks few words a e =
    let first = bind-is (must (is_none h.opened) OutOfPlace)
    (λ early. must (nat_lt (length h.groups) 16) BadCommunicator >>= λ room. numbers (rank_in n) BadRank >>= λ group. give
    (record h { groups = h.groups ++ group ∷ [] })) words a e in
    let second =
    bind-is (must (nat_lt (length h.groups) 16) BadCommunicator)
    (λ room. numbers (rank_in n) BadRank >>= λ group. give (record h { groups = h.groups ++ group ∷ [] })) first.0.1 a first.2 in
    let third = bind-is (numbers (rank_in n) BadRank) (λ group. give (record h { groups = h.groups ++ group ∷ [] })) second.0.1 a second.2 in
    let group = third.0.0 in
    let same : record h { groups = h.groups ++ group ∷ [] } ≡ a.0 = cc in
    let closed = none-is h.opened (must-is _ OutOfPlace words first.0 first.1) in
    let room = ltb-true (length h.groups) 16 (must-is _ BadCommunicator first.0.1 second.0 second.1) in
    let are = numbers-are (λ r. r < n) (rank_in n) BadRank (λ w r read. (number-within 0 n BadRank w r read).1) second.0.1 third.0 third.1 in
    subst (CanTell number h) same (codes "comm" ∷ map decimal group, comm_line n group known_ranks few closed room are.0 are.1 are.2)

section-told : (number n : ℕ) (h : History) → h.ranks ≡ Some n → n ≤ 64 → (words : List (List ℕ)) (a : History × List (List ℕ))
    → section n h words ≡ Ok a → CanTell number h a.0
unfolding section
section-told number n h known_ranks few words a e =
    let first = bind-is (next (rank_in n)) (λ rank. end >>= λ ended. give (record h { opened = Some rank })) words a e in
    let rank = first.0.0 in
    let second = bind-is end (λ ended. give (record h { opened = Some rank })) first.0.1 a first.2 in
    let same : record h { opened = Some rank } ≡ a.0 = cc in
    let read = next-is (rank_in n) words first.0 first.1 in
    subst (CanTell number h) same (codes "rank" ∷ decimal rank ∷ [], rank_line n rank known_ranks few (number-within 0 n BadRank read.0 rank read.1).1)

command-told : (number n : ℕ) (h : History) → h.ranks ≡ Some n → IsSmall h
    → (w : List ℕ) (words : List (List ℕ)) (a : History × List (List ℕ)) → command number w h words ≡ Ok a → CanTell number h a.0
unfolding command
command-told number n h known_ranks small w words a e =
    let first = bind-is (known (command_of w) UnknownCommand)
    (λ read. known h.opened OutOfPlace >>= λ rank. read h rank >>= λ issued. give (issue number rank issued h)) words a e in
    let read = first.0.0 in
    let second = bind-is (known h.opened OutOfPlace) (λ rank. read h rank >>= λ issued. give (issue number rank issued h)) first.0.1 a first.2 in
    let rank = second.0.0 in
    let third = bind-is (read h rank) (λ issued. give (issue number rank issued h)) second.0.1 a second.2 in
    let issued = third.0.0 in
    let same : issue number rank issued h ≡ a.0 = cc in
    let opened : h.opened ≡ Some rank = known-is h.opened OutOfPlace first.0.1 second.0 second.1 in
    let found : command_of w ≡ Some read = known-is (command_of w) UnknownCommand words first.0 first.1 in
    let can = command-sayable h rank small w read found second.0.1 third.0 third.1 in
    subst (CanTell number h) same (can.0, command_line n rank issued can.0 known_ranks opened can.1)

-- one of two steps was taken
chosen : (number : ℕ) (h : History) (b : Bool) (step other : Reading History) (words : List (List ℕ)) (a : History × List (List ℕ))
    → (step words ≡ Ok a → CanTell number h a.0) → (other words ≡ Ok a → CanTell number h a.0) → cond b step other words ≡ Ok a → CanTell number h a.0
chosen number h true step other words a f g e = f e
chosen number h false step other words a f g e = g e

line_by-told : (o : Option ℕ) (number : ℕ) (w : List ℕ) (h : History) → h.ranks ≡ o → IsSmall h
    → (words : List (List ℕ)) (a : History × List (List ℕ)) → line_by o number w h words ≡ Ok a → CanTell number h a.0
line_by-told None number w h is small words a e =
    chosen number h (bytes_eq w (codes "ranks")) (ranks h) (fault MissingRanks) words a (ranks-told number h is words a) (λ f. absurd cc) e
line_by-told (Some n) number w h is small words a e =
    let few : n ≤ 64 = subst (λ (o : Option ℕ). unwrap_or o 0 ≤ 64) is small.ranks in
    chosen number h (bytes_eq w (codes "ranks")) (fault OutOfPlace) _ words a (λ f. absurd cc)
    (chosen number h (bytes_eq w (codes "comm")) (comm n h) _ words a (comm-told number n h is few words a)
    (chosen number h (bytes_eq w (codes "rank")) (section n h) (command number w h) words a
    (section-told number n h is few words a) (command-told number n h is small w words a)))
    e

read-told : (number : ℕ) (h last : History) (b : Bool) (r : Result (History × List (List ℕ)) Cause)
    → ((a : History × List (List ℕ)) → r ≡ Ok a → CanTell number h a.0) → cond b (Ok h) (and_then r (λ read. Ok read.0)) ≡ Ok last → CanTell number h last
read-told number h last true r told e = let same : h ≡ last = cc in subst (CanTell number h) same (skips number h)
read-told number h last false r told e =
    let read = then-is r (λ a. Ok a.0) last e in
    let same : read.0.0 ≡ last = cc in
    subst (CanTell number h) same (told read.0 read.1)

line-told : (number : ℕ) (h last : History) (words : List (List ℕ)) → IsSmall h → line number h words ≡ Ok last → CanTell number h last
unfolding line
line-told number h last [] small e = let same : h ≡ last = cc in subst (CanTell number h) same (skips number h)
line-told number h last (w ∷ words) small e =
    read-told number h last (eqb (slice_index w 0) 35) (line_by h.ranks number w h words) (λ a f. line_by-told h.ranks number w h refl small words a f) e

-- ---- a history stays small

command-small : (number rank : ℕ) (c : Command) (h : History) (words : List (List ℕ)) → Writes h rank c words → IsSmall h
    → total h.commands + length (postings (c ∷ [])) ≤ 4096
command-small number rank (Post comm sig given) h words w small = omega (arith, w.0.room)
command-small number rank (Init comm sig) h words w small = omega (arith, w.0.room)
command-small number rank (Start q given) h words w small = omega (arith, small.commands)
command-small number rank (Wait q) h words w small = omega (arith, small.commands)
command-small number rank (Test q) h words w small = omega (arith, small.commands)
command-small number rank (Free q) h words w small = omega (arith, small.commands)
command-small number rank (WaitAny qs) h words w small = omega (arith, small.commands)
command-small number rank (WaitSome qs) h words w small = omega (arith, small.commands)
command-small number rank (WaitAll qs) h words w small = omega (arith, small.commands)

says-small : (number : ℕ) (h : History) (words : List (List ℕ)) (next : History) → Says number h words next → IsSmall h → IsSmall next
says-small number h words next (skipped_line all are skipped) small = small
says-small number h words next (ranks_line n none low high) small = record { ranks = high; groups = omega arith; commands = small.commands }
says-small number h words next (comm_line n group known_ranks few closed room some are none) small =
    record { ranks = small.ranks; groups = (let long = length-append h.groups (group ∷ []) in omega (arith, long, room)); commands = small.commands }
says-small number h words next (rank_line n rank known_ranks few lt) small = record { ranks = small.ranks; groups = small.groups; commands = small.commands }
says-small number h words next (command_line n rank c w known_ranks opened writes) small =
    let sum = total-more h.commands (record { line = number; rank = rank; command = c }) in
    record { ranks = small.ranks; groups = small.groups; commands = omega (arith, sum, command-small number rank c h w writes small) }

-- ---- texts

-- lines that tell the history behind them
record AreTold (number : ℕ) (h last : History) : Type 0 where
  pub lines : List (List (List ℕ))
  pub tells : Tells number h lines last

judged-step : (number : ℕ) (h last : History) (bytes : List ℕ) (lines : List (List ℕ)) (r : Result History Cause)
    → line number h (words_of bytes) ≡ r → IsSmall h
    → ((next : History) → IsSmall next → judged (number + 1) next lines ≡ Ok last → AreTold (number + 1) next last)
    → and_then (in_line number r) (λ next. judged (number + 1) next lines) ≡ Ok last → AreTold number h last
judged-step number h last bytes lines (Ok next) is small rest e =
    let here = line-told number h next (words_of bytes) small is in
    let behind = rest next (says-small number h here.0 next here.1 small) e in
    record { lines = here.0 ∷ behind.lines; tells = (next, here.1, behind.tells) }
judged-step number h last bytes lines (Err cause) is small rest e = absurd cc

judged-told : (number : ℕ) (h last : History) (lines : List (List ℕ)) → IsSmall h → judged number h lines ≡ Ok last → AreTold number h last
judged-told number h last [] small e = let same : h ≡ last = cc in record { lines = []; tells = sym same }
judged-told number h last (bytes ∷ lines) small e =
    judged-step number h last bytes lines (line number h (words_of bytes)) refl small (λ next is f. judged-told (number + 1) next last lines is f) e

-- a text has a first line
said-by : (lines : List (List (List ℕ))) (h : History) → Tells 1 beginning lines h → CanBeSaid h
said-by [] h tells =
    let told : Tells 1 beginning ([] ∷ []) h = (beginning, skipped_line [] tt tt, tells) in
    record { first = []; others = []; tells = told; reads = text-again [] [] h told }
said-by (first ∷ lines) h tells = record { first = first; others = lines; tells = tells; reads = text-again first lines h tells }

-- what is accepted could have been said
pub accepted-said : (lines : List (List ℕ)) (h : History) → judged 1 beginning lines ≡ Ok h → CanBeSaid h
accepted-said lines h e =
    let told = judged-told 1 beginning h lines (record { ranks = omega arith; groups = omega arith; commands = omega arith }) e in
    said-by told.lines h told.tells
