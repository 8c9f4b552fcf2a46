-- What a line that is accepted says could be said after the lines before it.
use Rattle.std.proofs.Common.{◌≡◌, ℕ, zero, suc, ◌+◌, ◌*◌, ◌/◌, ◌<◌, Bool, true, false, cond, ltb, eqb, List, [], ◌∷◌, ◌++◌, length, Option, Some}
use Rattle.std.proofs.Common.{None, Result, Ok, Err, refl, sym, ap, subst, ◌∙◌, arith}
use Rattle.std.specs.Prelude.{pos, is_some, is_none, flat_map, unwrap_or, slice_get, ok_or, IfSome}
use Rattle.std.specs.List.{AllByRecursion, list_all, range_with_len}
use Rattle.std.proofs.lemmas.Bool.{eqb-true, ltb-true}
use Rattle.std.proofs.lemmas.List.{length-append}
use Rattle.std.proofs.lemmas.List.Concat.{flat_map-cons}
use Rattle.std.proofs.lemmas.Option.{slice_get_within, get_or_from_slice_get}
use Rattle.coll_kinds.specs.declared.datatype.Datatype.{Datatype}
use Rattle.coll_kinds.specs.declared.datatype.Datatype.TheVariants.{I8, I16, I32, I64, U8, U16, U32, U64, Byte, Pair}
use Rattle.coll_kinds.specs.declared.kind.Mode.{Mode}
use Rattle.coll_kinds.specs.declared.kind.Mode.TheVariants.{Once, Persistent}
use Rattle.coll_kinds.specs.declared.signature.Signature.{Signature}
use Rattle.coll_kinds.specs.Common.{broken, Element, whole, element_bytes, width, member_of, is_among, value_of, kind_of}
use Rattle.coll_kinds.specs.Texts.{number_of}
use Rattle.coll_parser.specs.declared.cause.Cause.{Cause}
use Rattle.coll_parser.specs.declared.cause.Cause.TheVariants.{BadNumber, BadRank, BadCommunicator, BadSignature, BadValue, WrongValueCount}
use Rattle.coll_parser.specs.declared.cause.Cause.TheVariants.{UnknownRequest, NamedTwice, NotStartable, TooManyRequests}
use Rattle.coll_parser.specs.declared.command.Command.{Command}
use Rattle.coll_parser.specs.declared.command.Command.TheVariants.{Post, Init, Start, Wait, Test, Free, WaitAny, WaitSome, WaitAll}
use Rattle.coll_parser.specs.declared.verb.Verb.{Verb}
use Rattle.coll_parser.specs.declared.verb.Verb.TheVariants as verb
use Rattle.coll_parser.specs.Reading.{Reading, and_then, ◌>>=◌, give, known, must, end, numbers_from}
use Rattle.coll_parser.specs.Histories.{History, Posting, posting, group_of, issued_by, is_startable, total}
use Rattle.coll_parser.specs.Lines.{next, request_in, communicator, fields, signature, due, colon, values, room, post, init, made, startable, start}
use Rattle.coll_parser.specs.Lines.{free, one, some, all, wait, test, waitany, waitsome, waitall}
use Rattle.coll_parser.specs.Sound.{IsPosting, MayIssue}
use Rattle.coll_parser.specs.Code.{read_by}
use Rattle.coll_parser.proofs.Contributions.{given_len-whole}

-- ---- a step that was read, and what followed it

pub then-is : {A B E : Type 0} (r : Result A E) (rest : A → Result B E) (b : B) → and_then r rest ≡ Ok b → (a : A) × (r ≡ Ok a) × (rest a ≡ Ok b)
then-is (Ok a) rest b e = (a, refl, e)
then-is (Err cause) rest b e = absurd cc

pub bind-is : {A B : Type 0} (step : Reading A) (rest : A → Reading B) (words : List (List ℕ)) (b : B × List (List ℕ)) → (step >>= rest) words ≡ Ok b
    → (a : A × List (List ℕ)) × (step words ≡ Ok a) × (rest a.0 a.1 ≡ Ok b)
bind-is step rest words b e = then-is (step words) (λ a. rest a.0 a.1) b e

pub known-is : {A : Type 0} (o : Option A) (cause : Cause) (words : List (List ℕ)) (a : A × List (List ℕ)) → known o cause words ≡ Ok a → o ≡ Some a.0
known-is (Some x) cause words a e = cc
known-is None cause words a e = absurd cc

pub must-is : (b : Bool) (cause : Cause) (words : List (List ℕ)) (a : Unit {0} × List (List ℕ)) → must b cause words ≡ Ok a → b ≡ true
must-is true cause words a e = refl
must-is false cause words a e = absurd cc

pub next-is : {A : Type 0} (read : List ℕ → Result A Cause) (words : List (List ℕ)) (a : A × List (List ℕ))
    → next read words ≡ Ok a → (w : List ℕ) × (read w ≡ Ok a.0)
next-is read [] a e = absurd cc
next-is read (w ∷ words) a e =
    let it = then-is (read w) (λ x. Ok (x, words)) a e in
    (w, it.1 ∙ ap (λ (x : _). Ok x) (let same : (it.0, words) ≡ a = cc in ap (λ y. y.0) same))

-- ---- values

pub length-element_bytes : (ty : Datatype) (value : Element) → length (element_bytes ty value) ≡ width ty
length-element_bytes I8 value = refl
length-element_bytes I16 value = refl
length-element_bytes I32 value = refl
length-element_bytes I64 value = refl
length-element_bytes U8 value = refl
length-element_bytes U16 value = refl
length-element_bytes U32 value = refl
length-element_bytes U64 value = refl
length-element_bytes Byte value = refl
length-element_bytes Pair value = refl

abbrev bytes_of : Datatype → List ℕ → List ℕ
bytes_of ty w = element_bytes ty (unwrap_or (value_of ty w) (whole (pos 0)))

length-bytes : (ty : Datatype) (words : List (List ℕ)) → length (flat_map (bytes_of ty) words) ≡ length words * width ty
length-bytes ty [] = omega arith
length-bytes ty (w ∷ words) =
    ap length (flat_map-cons (bytes_of ty) w words) ∙ length-append (bytes_of ty w) (flat_map (bytes_of ty) words)
    ∙ omega (arith, length-element_bytes ty (unwrap_or (value_of ty w) (whole (pos 0))), length-bytes ty words)

-- the bytes of that many values
pub values-length : (count : ℕ) (ty : Datatype) (words : List (List ℕ)) (a : List ℕ × List (List ℕ))
    → values count ty words ≡ Ok a → length a.0 ≡ count * width ty
unfolding values
values-length count ty words a e =
    let first = bind-is (colon count)
    (λ ws. must (eqb (length ws) count) WrongValueCount >>= λ counted. must (list_all (λ w. is_some (value_of ty w)) ws)
    BadValue >>= λ valued. give (flat_map (bytes_of ty) ws)) words a e in
    let ws = first.0.0 in
    let second =
    bind-is (must (eqb (length ws) count) WrongValueCount)
    (λ counted. must (list_all (λ w. is_some (value_of ty w)) ws) BadValue >>= λ valued. give (flat_map (bytes_of ty) ws)) first.0.1 a first.2 in
    let third = bind-is (must (list_all (λ w. is_some (value_of ty w)) ws) BadValue) (λ valued. give (flat_map (bytes_of ty) ws)) second.0.1 a second.2 in
    let counted : length ws ≡ count = eqb-true _ _ (must-is _ WrongValueCount first.0.1 second.0 second.1) in
    let given : flat_map (bytes_of ty) ws ≡ a.0 = cc in
    ap length (sym given) ∙ length-bytes ty ws ∙ ap (λ n. n * width ty) counted

-- ---- posts

pub communicator-is : (groups : List (List ℕ)) (rank : ℕ) (words : List (List ℕ)) (a : ℕ × List (List ℕ)) (sig : Signature)
    → communicator groups rank words ≡ Ok a
    → broken sig (length (group_of groups a.0)) ≡ None → IsPosting groups rank a.0 sig
communicator-is groups rank words a sig e checked =
    let first = bind-is (next (λ w. ok_or (number_of w) BadNumber))
    (λ comm. known (slice_get groups comm) BadCommunicator >>= λ group. known (member_of rank group) BadRank >>= λ member. give comm) words a e in
    let comm = first.0.0 in
    let second =
    bind-is (known (slice_get groups comm) BadCommunicator) (λ group. known (member_of rank group) BadRank >>= λ member. give comm) first.0.1 a first.2 in
    let group = second.0.0 in
    let third = bind-is (known (member_of rank group) BadRank) (λ member. give comm) second.0.1 a second.2 in
    let same : comm ≡ a.0 = cc in
    let known_there : slice_get groups comm ≡ Some group = known-is _ BadCommunicator first.0.1 second.0 second.1 in
    let there : slice_get groups a.0 ≡ Some group = subst (λ n. slice_get groups n ≡ Some group) same known_there in
    record {
      group = group;
      known = there;
      member = third.0.0;
      is_member = known-is (member_of rank group) BadRank second.0.1 third.0 third.1;
      checked = ap (λ (g : List ℕ). broken sig (length g)) (sym (get_or_from_slice_get groups a.0 group [] there)) ∙ checked;
    }

pub none-is : {A : Type 0} (o : Option A) → is_none o ≡ true → o ≡ None
none-is None e = refl
none-is (Some x) e = absurd cc

pub signature-checked : (mode : Mode) (n : ℕ) (words : List (List ℕ)) (a : Signature × List (List ℕ)) → signature mode n words ≡ Ok a → broken a.0 n ≡ None
unfolding signature
signature-checked mode n words a e =
    let first = bind-is (next (λ w. ok_or (kind_of w) BadSignature))
    (λ kind. fields mode n kind >>= λ sig. must (is_none (broken sig n)) BadSignature >>= λ checked. give sig) words a e in
    let second = bind-is (fields mode n first.0.0) (λ sig. must (is_none (broken sig n)) BadSignature >>= λ checked. give sig) first.0.1 a first.2 in
    let sig = second.0.0 in
    let third = bind-is (must (is_none (broken sig n)) BadSignature) (λ checked. give sig) second.0.1 a second.2 in
    let same : sig ≡ a.0 = cc in
    subst (λ (s : Signature). broken s n ≡ None) same (none-is _ (must-is _ BadSignature second.0.1 third.0 third.1))

-- there is room for one more request
abbrev pub HasRoom : History → Command → Type 0
HasRoom h c = IfSome (posting c) (λ p. total h.commands < 4096)

abbrev pub Allows : History → ℕ → Command → Type 0
Allows h rank c = MayIssue h.groups rank (issued_by rank h.commands) c × HasRoom h c

last-is : (b : Bool) (cause : Cause) (c : Command) (words : List (List ℕ)) (a : Command × List (List ℕ))
    → (must b cause >>= λ fits. give c) words ≡ Ok a → (b ≡ true) × (c ≡ a.0)
last-is true cause c words a e = (refl, cc)
last-is false cause c words a e = absurd cc

pub room-is : (h : History) (c : Command) (words : List (List ℕ)) (a : Command × List (List ℕ))
    → (room h >>= λ fits. give c) words ≡ Ok a → (c ≡ a.0) × (total h.commands < 4096)
room-is h c words a e = let last = last-is (ltb (total h.commands) 4096) TooManyRequests c words a e in (last.1, ltb-true (total h.commands) 4096 last.0)

post-allowed : (h : History) (rank : ℕ) (words : List (List ℕ)) (a : Command × List (List ℕ)) → post h rank words ≡ Ok a → Allows h rank a.0
unfolding post
post-allowed h rank words a e =
    let first = bind-is (communicator h.groups rank)
    (λ comm. signature Once (length (group_of h.groups comm)) >>= λ sig. values (due h.groups rank comm sig / width sig.ty)
    sig.ty >>= λ given. room h >>= λ fits. give (Post comm sig given)) words a e in
    let comm = first.0.0 in
    let second =
    bind-is (signature Once (length (group_of h.groups comm)))
    (λ sig. values (due h.groups rank comm sig / width sig.ty) sig.ty >>= λ given. room h >>= λ fits. give (Post comm sig given)) first.0.1 a first.2 in
    let sig = second.0.0 in
    let third = bind-is (values (due h.groups rank comm sig / width sig.ty) sig.ty)
    (λ given. room h >>= λ fits. give (Post comm sig given)) second.0.1 a second.2 in
    let given = third.0.0 in
    let last = room-is h (Post comm sig given) third.0.1 a third.2 in
    let checked = signature-checked Once (length (group_of h.groups comm)) first.0.1 second.0 second.1 in
    let fits : length given ≡ due h.groups rank comm sig =
    values-length (due h.groups rank comm sig / width sig.ty) sig.ty second.0.1 third.0 third.1
    ∙ given_len-whole sig (length (group_of h.groups comm)) (unwrap_or (member_of rank (group_of h.groups comm)) 0) in
    subst (Allows h rank) last.0 ((communicator-is h.groups rank words first.0 sig first.1 checked, fits), last.1)

init-allowed : (h : History) (rank : ℕ) (words : List (List ℕ)) (a : Command × List (List ℕ)) → init h rank words ≡ Ok a → Allows h rank a.0
unfolding init
init-allowed h rank words a e =
    let first = bind-is (communicator h.groups rank)
    (λ comm. signature Persistent (length (group_of h.groups comm)) >>= λ sig. end >>= λ ended. room h >>= λ fits. give (Init comm sig)) words a e in
    let comm = first.0.0 in
    let second =
    bind-is (signature Persistent (length (group_of h.groups comm)))
    (λ sig. end >>= λ ended. room h >>= λ fits. give (Init comm sig)) first.0.1 a first.2 in
    let sig = second.0.0 in
    let third = bind-is end (λ ended. room h >>= λ fits. give (Init comm sig)) second.0.1 a second.2 in
    let last = room-is h (Init comm sig) third.0.1 a third.2 in
    let checked = signature-checked Persistent (length (group_of h.groups comm)) first.0.1 second.0 second.1 in
    subst (Allows h rank) last.0 (communicator-is h.groups rank words first.0 sig first.1 checked, last.1)

-- ---- starts and frees

-- the request that is read was posted so, and may be started
abbrev pub IsStartable : History → ℕ → ℕ × Posting → Type 0
IsStartable h rank it =
    (slice_get (made h rank) it.0 ≡ Some it.1) × (is_startable it.0 it.1 (issued_by rank h.commands) ≡ true)

pub startable-is : (h : History) (rank : ℕ) (words : List (List ℕ)) (a : (ℕ × Posting) × List (List ℕ))
    → startable h rank words ≡ Ok a → IsStartable h rank a.0
unfolding startable
startable-is h rank words a e =
    let first = bind-is (next (request_in (length (made h rank))))
    (λ q. known (slice_get (made h rank) q) UnknownRequest >>= λ p. must (is_startable q p (issued_by rank h.commands))
    NotStartable >>= λ fits. give (q, p)) words a e in
    let q = first.0.0 in
    let second =
    bind-is (known (slice_get (made h rank) q) UnknownRequest)
    (λ p. must (is_startable q p (issued_by rank h.commands)) NotStartable >>= λ fits. give (q, p)) first.0.1 a first.2 in
    let p = second.0.0 in
    let third = bind-is (must (is_startable q p (issued_by rank h.commands)) NotStartable) (λ fits. give (q, p)) second.0.1 a second.2 in
    let same : (q, p) ≡ a.0 = cc in
    let there : slice_get (made h rank) q ≡ Some p = known-is _ UnknownRequest first.0.1 second.0 second.1 in
    subst (IsStartable h rank) same (there, must-is _ NotStartable second.0.1 third.0 third.1)

start-allowed : (h : History) (rank : ℕ) (words : List (List ℕ)) (a : Command × List (List ℕ)) → start h rank words ≡ Ok a → Allows h rank a.0
unfolding start
start-allowed h rank words a e =
    let first = bind-is (startable h rank)
    (λ it. values (due h.groups rank it.1.comm it.1.sig / width it.1.sig.ty) it.1.sig.ty >>= λ given. give (Start it.0 given)) words a e in
    let it = first.0.0 in
    let second =
    bind-is (values (due h.groups rank it.1.comm it.1.sig / width it.1.sig.ty) it.1.sig.ty) (λ given. give (Start it.0 given)) first.0.1 a first.2 in
    let given = second.0.0 in
    let same : Start it.0 given ≡ a.0 = cc in
    let fits : length given ≡ due h.groups rank it.1.comm it.1.sig =
    values-length (due h.groups rank it.1.comm it.1.sig / width it.1.sig.ty) it.1.sig.ty first.0.1 second.0 second.1
    ∙ given_len-whole it.1.sig (length (group_of h.groups it.1.comm)) (unwrap_or (member_of rank (group_of h.groups it.1.comm)) 0) in
    subst (Allows h rank) same (record { p = it.1; known = (startable-is h rank words first.0 first.1).0; fits = fits }, tt)

free-allowed : (h : History) (rank : ℕ) (words : List (List ℕ)) (a : Command × List (List ℕ)) → free h rank words ≡ Ok a → Allows h rank a.0
unfolding free
free-allowed h rank words a e =
    let first = bind-is (startable h rank) (λ it. end >>= λ ended. give (Free it.0)) words a e in
    let second = bind-is end (λ ended. give (Free first.0.0.0)) first.0.1 a first.2 in
    let same : Free first.0.0.0 ≡ a.0 = cc in
    subst (Allows h rank) same (slice_get_within (made h rank) first.0.0.0 first.0.0.1 (startable-is h rank words first.0 first.1).0, tt)

-- ---- waits

below_from : (q count n : ℕ) (b : Bool) → cond b (Ok q) (Err UnknownRequest) ≡ Ok n → (b ≡ true → q < count) → n < count
below_from q count n true e f = let same : q ≡ n = cc in subst (λ m. m < count) same (f refl)
below_from q count n false e f = absurd cc

pub request-below : (count : ℕ) (w : List ℕ) (n : ℕ) → request_in count w ≡ Ok n → n < count
request-below count w n e =
    let read = then-is (ok_or (number_of w) BadNumber) (λ q. cond (ltb q count) (Ok q) (Err UnknownRequest)) n e in
    below_from read.0 count n (ltb read.0 count) read.2 (ltb-true read.0 count)

pub one-below : (h : History) (rank : ℕ) (words : List (List ℕ)) (a : ℕ × List (List ℕ)) → one h rank words ≡ Ok a → a.0 < length (made h rank)
one-below h rank words a e =
    let first = bind-is (next (request_in (length (made h rank)))) (λ q. end >>= λ ended. give q) words a e in
    let second = bind-is end (λ ended. give first.0.0) first.0.1 a first.2 in
    let read = next-is (request_in (length (made h rank))) words first.0 first.1 in
    let same : first.0.0 ≡ a.0 = cc in
    subst (λ q. q < length (made h rank)) same (request-below (length (made h rank)) read.0 first.0.0 read.1)

wait-allowed : (h : History) (rank : ℕ) (words : List (List ℕ)) (a : Command × List (List ℕ)) → wait h rank words ≡ Ok a → Allows h rank a.0
wait-allowed h rank words a e =
    let first = bind-is (one h rank) (λ q. give (Wait q)) words a e in
    let same : Wait first.0.0 ≡ a.0 = cc in
    subst (Allows h rank) same (one-below h rank words first.0 first.1, tt)

test-allowed : (h : History) (rank : ℕ) (words : List (List ℕ)) (a : Command × List (List ℕ)) → test h rank words ≡ Ok a → Allows h rank a.0
test-allowed h rank words a e =
    let first = bind-is (one h rank) (λ q. give (Test q)) words a e in
    let same : Test first.0.0 ≡ a.0 = cc in
    subst (Allows h rank) same (tt, tt)

waitany-allowed : (h : History) (rank : ℕ) (words : List (List ℕ)) (a : Command × List (List ℕ)) → waitany h rank words ≡ Ok a → Allows h rank a.0
waitany-allowed h rank words a e =
    let first = bind-is (some h rank) (λ qs. give (WaitAny qs)) words a e in
    let same : WaitAny first.0.0 ≡ a.0 = cc in
    subst (Allows h rank) same (tt, tt)

waitsome-allowed : (h : History) (rank : ℕ) (words : List (List ℕ)) (a : Command × List (List ℕ)) → waitsome h rank words ≡ Ok a → Allows h rank a.0
waitsome-allowed h rank words a e =
    let first = bind-is (some h rank) (λ qs. give (WaitSome qs)) words a e in
    let same : WaitSome first.0.0 ≡ a.0 = cc in
    subst (Allows h rank) same (tt, tt)

All-push : (count : ℕ) (qs : List ℕ) (q : ℕ) → AllByRecursion (λ n. n < count) qs → q < count → AllByRecursion (λ n. n < count) (qs ++ q ∷ [])
All-push count [] q are lt = (lt, tt)
All-push count (p ∷ qs) q are lt = (are.0, All-push count qs q are.1 lt)

pub twice-not : {A : Type 0} (b : Bool) (cause : Cause) (r : Result A Cause) (a : A) → cond b (Err cause) r ≡ Ok a → r ≡ Ok a
twice-not true cause r a e = absurd cc
twice-not false cause r a e = e

numbers-below : (count : ℕ) (before : List ℕ) (words : List (List ℕ)) (qs : List ℕ) → AllByRecursion (λ n. n < count) before
    → numbers_from (request_in count) NamedTwice before words ≡ Ok qs → AllByRecursion (λ n. n < count) qs
numbers-below count before [] qs are e = let same : before ≡ qs = cc in subst (AllByRecursion (λ n. n < count)) same are
numbers-below count before (w ∷ words) qs are e =
    let read = then-is (request_in count w)
    (λ n. cond (is_among n before) (Err NamedTwice) (numbers_from (request_in count) NamedTwice (before ++ n ∷ []) words)) qs e in
    let rest = twice-not (is_among read.0 before) NamedTwice (numbers_from (request_in count) NamedTwice (before ++ read.0 ∷ []) words) qs read.2 in
    numbers-below count (before ++ read.0 ∷ []) words qs (All-push count before read.0 are (request-below count w read.0 read.1)) rest

range-below : (first n count : ℕ) → first + n ≡ count → AllByRecursion (λ q. q < count) (range_with_len first n)
range-below first zero count e = tt
range-below first (suc n) count e = (omega arith, range-below (first + 1) n count (omega arith))

all-below : (h : History) (rank : ℕ) (words : List (List ℕ)) (a : List ℕ × List (List ℕ)) → all h rank words ≡ Ok a
    → AllByRecursion (λ q. q < length (made h rank)) a.0
all-below h rank [] a e =
    let same : range_with_len 0 (length (made h rank)) ≡ a.0 = cc in
    subst (AllByRecursion (λ q. q < length (made h rank))) same (range-below 0 (length (made h rank)) (length (made h rank)) (omega arith))
all-below h rank (w ∷ words) a e =
    let read = then-is (numbers_from (request_in (length (made h rank))) NamedTwice [] (w ∷ words)) (λ ns. Ok (ns, [])) a e in
    let same : read.0 ≡ a.0 = cc in
    subst (AllByRecursion (λ q. q < length (made h rank))) same (numbers-below (length (made h rank)) [] (w ∷ words) read.0 tt read.1)

waitall-allowed : (h : History) (rank : ℕ) (words : List (List ℕ)) (a : Command × List (List ℕ)) → waitall h rank words ≡ Ok a → Allows h rank a.0
waitall-allowed h rank words a e =
    let first = bind-is (all h rank) (λ qs. give (WaitAll qs)) words a e in
    let same : WaitAll first.0.0 ≡ a.0 = cc in
    subst (Allows h rank) same (all-below h rank words first.0 first.1, tt)

pub read-allowed : (v : Verb) (h : History) (rank : ℕ) (words : List (List ℕ)) (a : Command × List (List ℕ)) → read_by v h rank words ≡ Ok a → Allows h rank a.0
read-allowed verb.Post h rank words a e = post-allowed h rank words a e
read-allowed verb.Init h rank words a e = init-allowed h rank words a e
read-allowed verb.Start h rank words a e = start-allowed h rank words a e
read-allowed verb.Wait h rank words a e = wait-allowed h rank words a e
read-allowed verb.Test h rank words a e = test-allowed h rank words a e
read-allowed verb.Free h rank words a e = free-allowed h rank words a e
read-allowed verb.WaitAny h rank words a e = waitany-allowed h rank words a e
read-allowed verb.WaitSome h rank words a e = waitsome-allowed h rank words a e
read-allowed verb.WaitAll h rank words a e = waitall-allowed h rank words a e

-- ---- a post that is read, step by step

pub post-reads : (h : History) (rank comm n count : ℕ) (sig : Signature) (given : List ℕ) (words first second third : List (List ℕ))
    → communicator h.groups rank words ≡ Ok (comm, first) → n ≡ length (group_of h.groups comm)
    → signature Once n first ≡ Ok (sig, second) → count ≡ due h.groups rank comm sig / width sig.ty
    → values count sig.ty second ≡ Ok (given, third) → room h third ≡ Ok (tt, third) → post h rank words ≡ Ok (Post comm sig given, third)
unfolding post
post-reads h rank comm n count sig given words first second third at size signed amount valued fits =
    let signed_there : signature Once (length (group_of h.groups comm)) first ≡ Ok (sig, second) =
    subst (λ m. signature Once m first ≡ Ok (sig, second)) size signed in
    let valued_there : values (due h.groups rank comm sig / width sig.ty) sig.ty second ≡ Ok (given, third) =
    subst (λ m. values m sig.ty second ≡ Ok (given, third)) amount valued in
    rw (at, signed_there, valued_there, fits) refl
