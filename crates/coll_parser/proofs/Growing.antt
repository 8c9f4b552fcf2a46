-- What lines have said stays said, and lines that follow only add to it.
use Rattle.std.proofs.Common.{◌≡◌, ℕ, zero, suc, ◌+◌, Bool, true, false, cond, eqb, List, [], ◌∷◌, ◌++◌, map, Option, Some, None, Result, Ok, Err}
use Rattle.std.proofs.Common.{refl, sym, ap, subst, ◌∙◌, append_assoc}
use Rattle.std.specs.Prelude.{length, is_none, is_some, nat_lt, ok_or, codes, filter, fold}
use Rattle.std.specs.List.{range_with_len}
use Rattle.std.specs.Str.{bytes_eq}
use Rattle.std.proofs.lemmas.List.{append-nil, map-append}
use Rattle.std.proofs.lemmas.List.Sums.{fold-append}
use Rattle.std.proofs.lemmas.List.Elements.{filter-append}
use Rattle.coll_parser.specs.declared.cause.Cause.{Cause}
use Rattle.coll_parser.specs.declared.cause.Cause.TheVariants.{MissingRanks, UnknownCommand, OutOfPlace, BadNumber, BadRank, BadCommunicator}
use Rattle.coll_parser.specs.declared.command.Command.{Command}
use Rattle.coll_parser.specs.declared.command.Command.TheVariants.{Post, Init, Start, Wait, Test, Free, WaitAny, WaitSome, WaitAll}
use Rattle.coll_parser.specs.declared.issued_command.IssuedCommand.{IssuedCommand}
use Rattle.coll_parser.specs.Cutting.{words_of}
use Rattle.coll_parser.specs.Reading.{Reading, and_then, ◌>>=◌, give, fault, known, must, end, numbers}
use Rattle.coll_parser.specs.Histories.{History, Posting}
use Rattle.coll_parser.specs.Requests.{Request, place_on, request, requests_after, requests_of, changed_at, started}
use Rattle.coll_parser.specs.Lines.{number_within, rank_in, next, command_of, ranks, comm, section, issue, command, later, line_by, line}
use Rattle.coll_parser.specs.Judging.{in_line, judged}

-- once a section stands open, ranks and communicators stay as they are
pub record IsSettled (old new : History) : Type 0 where
  pub groups : new.groups ≡ old.groups
  pub ranks : new.ranks ≡ old.ranks
  pub opened : is_some new.opened ≡ true

pub record Grows (old new : History) : Type 0 where
  pub more : List IssuedCommand
  pub commands : new.commands ≡ old.commands ++ more
  pub settled : is_some old.ranks ≡ true → is_some old.opened ≡ true → IsSettled old new
  pub early : (is_some old.opened ≡ false → old.commands ≡ []) → is_some new.opened ≡ false → new.commands ≡ []
  pub begun : (is_some old.ranks ≡ false → is_some old.opened ≡ false) → is_some new.ranks ≡ false → is_some new.opened ≡ false

settled-then : (a b c : History) → IsSettled a b → IsSettled b c → IsSettled a c
settled-then a b c x y = record { groups = y.groups ∙ x.groups; ranks = y.ranks ∙ x.ranks; opened = y.opened }

Grows-none : (h : History) → Grows h h
Grows-none h =
    record {
      more = [];
      commands = sym (append-nil h.commands);
      settled =
          λ r o. record { groups = refl; ranks = refl; opened = o };
      early = λ f e. f e;
      begun = λ f e. f e;
    }

Grows-then : (a b c : History) → Grows a b → Grows b c → Grows a c
Grows-then a b c x y = record {
  more = x.more ++ y.more;
  commands = y.commands ∙ ap (λ (t : List IssuedCommand). t ++ y.more) x.commands ∙ append_assoc a.commands x.more y.more;
  settled = λ r o. (let one = x.settled r o in settled-then a b c one (y.settled (ap is_some one.ranks ∙ r) one.opened));
  early = λ f e. y.early (x.early f) e;
  begun = λ f e. y.begun (x.begun f) e;
}

-- a step that gives a history that grew
abbrev GivesMore : History → Reading History → Type 0
GivesMore h step = (words : List (List ℕ)) (x : History × List (List ℕ)) → step words ≡ Ok x → Grows h x.0

then-grows : {A : Type 0} (h : History) (r : Result (A × List (List ℕ)) Cause) (next : A → Reading History) (x : History × List (List ℕ))
    → ((a : A) → GivesMore h (next a)) → and_then r (λ read. next read.0 read.1) ≡ Ok x → Grows h x.0
then-grows h (Ok read) next x each e = each read.0 read.1 x e
then-grows h (Err cause) next x each e = absurd cc

bind : {A : Type 0} (h : History) (step : Reading A) (next : A → Reading History) → ((a : A) → GivesMore h (next a)) → GivesMore h (step >>= next)
bind h step next each words x e = then-grows h (step words) next x each e

-- a test that must hold, and a value that must be there
must-then : (h : History) (b : Bool) (cause : Cause) (next : Reading History) → (b ≡ true → GivesMore h next) → GivesMore h (must b cause >>= λ held. next)
must-then h true cause next each words x e = each refl words x e
must-then h false cause next each words x e = absurd cc

known-then : {A : Type 0} (h : History) (o : Option A) (cause : Cause) (next : A → Reading History)
    → ((a : A) → o ≡ Some a → GivesMore h (next a)) → GivesMore h (known o cause >>= next)
known-then h (Some a) cause next each words x e = each a refl words x e
known-then h None cause next each words x e = absurd cc

ok_is : (a : History) (words : List (List ℕ)) (x : History × List (List ℕ)) → ◌≡◌ {A = Result (History × List (List ℕ)) Cause} (Ok (a, words)) (Ok x) → a ≡ x.0
ok_is a words x e = cc

gives : (h next : History) → Grows h next → GivesMore h (give next)
gives h next grows words x e = subst (Grows h) (ok_is next words x e) grows

faults : (h : History) (cause : Cause) → GivesMore h (fault cause)
faults h cause words x e = absurd cc

either : (h : History) (b : Bool) (then other : Reading History) → GivesMore h then → GivesMore h other → GivesMore h (cond b then other)
either h true then other f g words x e = f words x e
either h false then other f g words x e = g words x e

is_some-not : {A : Type 0} (o : Option A) → is_some o ≡ true → is_none o ≡ true → ⊥
is_some-not None e f = absurd cc
is_some-not (Some a) e f = absurd cc

some-not : {A : Type 0} (o : Option A) (a : A) → o ≡ Some a → is_some o ≡ false → ⊥
some-not None a e f = absurd cc
some-not (Some b) a e f = absurd cc

none-not : {A : Type 0} (o : Option A) → o ≡ None → is_some o ≡ true → ⊥
none-not None e f = absurd cc
none-not (Some b) e f = absurd cc

abbrev ranked : History → ℕ → History
ranked h n = record h { ranks = Some n; groups = range_with_len 0 n ∷ [] }

ranked-grows : (h : History) (n : ℕ) → h.ranks ≡ None → Grows h (ranked h n)
ranked-grows h n none =
    record {
      more = [];
      commands = sym (append-nil h.commands);
      settled = λ r o. absurd (none-not h.ranks none r);
      early =
          λ f e. f e;
      begun = λ f e. absurd (some-not (Some n) n refl e);
    }

ranks-grows : (h : History) → h.ranks ≡ None → GivesMore h (ranks h)
unfolding ranks
ranks-grows h none =
    bind {A = ℕ} h (next (λ w. ok_or (number_within 1 65 w) BadNumber)) (λ n. end >>= λ ended. give (ranked h n))
    (λ n. bind {A = Unit {0}} h end (λ ended. give (ranked h n)) (λ ended. gives h (ranked h n) (ranked-grows h n none)))

abbrev grouped : History → List ℕ → History
grouped h group = record h { groups = h.groups ++ group ∷ [] }

grouped-grows : (h : History) (group : List ℕ) → is_none h.opened ≡ true → Grows h (grouped h group)
grouped-grows h group none =
    record { more = []; commands = sym (append-nil h.commands); settled = λ r o. absurd (is_some-not h.opened o none); early = λ f e. f e; begun = λ f e. f e }

comm-grows : (n : ℕ) (h : History) → GivesMore h (comm n h)
unfolding comm
comm-grows n h =
    must-then h (is_none h.opened) OutOfPlace
    (must (nat_lt (length h.groups) 16) BadCommunicator >>= λ few. numbers (rank_in n) BadRank >>= λ group. give (grouped h group))
    (λ early. bind {A = Unit {0}} h (must (nat_lt (length h.groups) 16) BadCommunicator)
    (λ few. numbers (rank_in n) BadRank >>= λ group. give (grouped h group))
    (λ few. bind {A = List ℕ} h (numbers (rank_in n) BadRank) (λ group. give (grouped h group))
    (λ group. gives h (grouped h group) (grouped-grows h group early))))

abbrev open_at : History → ℕ → History
open_at h rank = record h { opened = Some rank }

opened-grows : (h : History) (n rank : ℕ) → h.ranks ≡ Some n → Grows h (open_at h rank)
opened-grows h n rank some = record {
  more = [];
  commands = sym (append-nil h.commands);
  settled = λ r o. record { groups = refl; ranks = refl; opened = refl };
  early = λ f e. absurd (some-not (Some rank) rank refl e);
  begun = λ f e. absurd (some-not h.ranks n some e);
}

section-grows : (n : ℕ) (h : History) → h.ranks ≡ Some n → GivesMore h (section n h)
unfolding section
section-grows n h some =
    bind {A = ℕ} h (next (rank_in n)) (λ rank. end >>= λ ended. give (open_at h rank))
    (λ rank. bind {A = Unit {0}} h end (λ ended. give (open_at h rank)) (λ ended. gives h (open_at h rank) (opened-grows h n rank some)))

issue-grows : (number rank : ℕ) (issued : Command) (h : History) → h.opened ≡ Some rank → Grows h (issue number rank issued h)
issue-grows number rank issued h some = record {
  more = record { line = number; rank = rank; command = issued } ∷ [];
  commands = refl;
  settled = λ r o. record { groups = refl; ranks = refl; opened = o };
  early = λ f e. absurd (some-not h.opened rank some e);
  begun = λ f e. f e;
}

command-grows : (number : ℕ) (first : List ℕ) (h : History) → GivesMore h (command number first h)
unfolding command
command-grows number first h =
    bind {A = History → ℕ → Reading Command} h (known (command_of first) UnknownCommand)
    (λ read. known h.opened OutOfPlace >>= λ rank. read h rank >>= λ issued. give (issue number rank issued h))
    (λ read. known-then {A = ℕ} h h.opened OutOfPlace (λ rank. read h rank >>= λ issued. give (issue number rank issued h))
    (λ rank some. bind {A = Command} h (read h rank) (λ issued. give (issue number rank issued h))
    (λ issued. gives h (issue number rank issued h) (issue-grows number rank issued h some))))

later-grows : (number n : ℕ) (first : List ℕ) (h : History) → h.ranks ≡ Some n → GivesMore h (later number n first h)
later-grows number n first h some =
    either h (bytes_eq first (codes "ranks")) (fault OutOfPlace)
    (cond (bytes_eq first (codes "comm")) (comm n h) (cond (bytes_eq first (codes "rank")) (section n h) (command number first h))) (faults h OutOfPlace)
    (either h (bytes_eq first (codes "comm")) (comm n h) (cond (bytes_eq first (codes "rank")) (section n h) (command number first h)) (comm-grows n h)
    (either h (bytes_eq first (codes "rank")) (section n h) (command number first h) (section-grows n h some) (command-grows number first h)))

line_by-grows : (o : Option ℕ) (number : ℕ) (first : List ℕ) (h : History) → h.ranks ≡ o → GivesMore h (line_by o number first h)
line_by-grows None number first h is = either h (bytes_eq first (codes "ranks")) (ranks h) (fault MissingRanks) (ranks-grows h is) (faults h MissingRanks)
line_by-grows (Some n) number first h is = later-grows number n first h is

read-grows : (h next : History) (r : Result (History × List (List ℕ)) Cause)
    → ((x : History × List (List ℕ)) → r ≡ Ok x → Grows h x.0) → and_then r (λ read. Ok read.0) ≡ Ok next → Grows h next
read-grows h next (Ok x) each e = let same : x.0 ≡ next = cc in subst (Grows h) same (each x refl)
read-grows h next (Err cause) each e = absurd cc

chosen-grows : (h next : History) (b : Bool) (r : Result History Cause) → (r ≡ Ok next → Grows h next) → cond b (Ok h) r ≡ Ok next → Grows h next
chosen-grows h next true r other e = let same : h ≡ next = cc in subst (Grows h) same (Grows-none h)
chosen-grows h next false r other e = other e

line-grows : (number : ℕ) (h next : History) (words : List (List ℕ)) → line number h words ≡ Ok next → Grows h next
unfolding line
line-grows number h next [] e = let same : h ≡ next = cc in subst (Grows h) same (Grows-none h)
line-grows number h next (first ∷ words) e =
    chosen-grows h next _ _ (λ f. read-grows h next (line_by h.ranks number first h words) (line_by-grows h.ranks number first h refl words) f) e

step-grows : (number : ℕ) (h last : History) (bytes : List ℕ) (lines : List (List ℕ)) (r : Result History Cause)
    → line number h (words_of bytes) ≡ r → ((next : History) → judged (number + 1) next lines ≡ Ok last → Grows next last)
    → and_then (in_line number r) (λ next. judged (number + 1) next lines) ≡ Ok last → Grows h last
step-grows number h last bytes lines (Ok next) is rest e = Grows-then h next last (line-grows number h next (words_of bytes) is) (rest next e)
step-grows number h last bytes lines (Err cause) is rest e = absurd cc

pub judged-grows : (number : ℕ) (h last : History) (lines : List (List ℕ)) → judged number h lines ≡ Ok last → Grows h last
judged-grows number h last [] e = let same : h ≡ last = cc in subst (Grows h) same (Grows-none h)
judged-grows number h last (bytes ∷ lines) e =
    step-grows number h last bytes lines (line number h (words_of bytes)) refl (λ next f. judged-grows (number + 1) next last lines f) e

-- ---- requests keep what was posted

abbrev pub posting_of : Request → Posting
posting_of p = record { comm = p.comm; sig = p.sig }

pub record AddsTo (old new : List Request) : Type 0 where
  pub more : List Posting
  pub parts : map posting_of new ≡ map posting_of old ++ more

same-adds : (old new : List Request) → map posting_of new ≡ map posting_of old → AddsTo old new
same-adds old new e = record { more = []; parts = e ∙ sym (append-nil (map posting_of old)) }

one-adds : (old : List Request) (p : Request) → AddsTo old (old ++ p ∷ [])
one-adds old p = record { more = posting_of p ∷ []; parts = map-append posting_of old (p ∷ []) }

adds-then : (a b c : List Request) → AddsTo a b → AddsTo b c → AddsTo a c
adds-then a b c x y =
    record { more = x.more ++ y.more; parts = y.parts ∙ ap (λ (ps : List Posting). ps ++ y.more) x.parts ∙ append_assoc (map posting_of a) x.more y.more }

map-changed_same : (q line : ℕ) (given : List ℕ) (requests : List Request)
    → map posting_of (changed_at q (started line given) requests) ≡ map posting_of requests
map-changed_same q line given [] = refl
map-changed_same zero line given (p ∷ requests) = refl
map-changed_same (suc q) line given (p ∷ requests) = ap (λ (ps : List Posting). posting_of p ∷ ps) (map-changed_same q line given requests)

after-adds : (groups : List (List ℕ)) (line rank : ℕ) (c : Command) (requests : List Request) → AddsTo requests (requests_after groups line rank c requests)
after-adds groups line rank (Post comm sig given) requests = one-adds requests (started line given (request groups line rank comm (place_on comm requests) sig))
after-adds groups line rank (Init comm sig) requests = one-adds requests (request groups line rank comm (place_on comm requests) sig)
after-adds groups line rank (Start q given) requests = same-adds requests (changed_at q (started line given) requests) (map-changed_same q line given requests)
after-adds groups line rank (Wait q) requests = same-adds requests requests refl
after-adds groups line rank (Test q) requests = same-adds requests requests refl
after-adds groups line rank (Free q) requests = same-adds requests requests refl
after-adds groups line rank (WaitAny qs) requests = same-adds requests requests refl
after-adds groups line rank (WaitSome qs) requests = same-adds requests requests refl
after-adds groups line rank (WaitAll qs) requests = same-adds requests requests refl

fold-adds : (groups : List (List ℕ)) (issued : List IssuedCommand) (requests : List Request)
    → AddsTo requests (fold (λ rs t. requests_after groups t.line t.rank t.command rs) requests issued)
fold-adds groups [] requests = same-adds requests requests refl
fold-adds groups (t ∷ issued) requests =
    let next = requests_after groups t.line t.rank t.command requests in
    adds-then requests next (fold (λ rs u. requests_after groups u.line u.rank u.command rs) next issued)
    (after-adds groups t.line t.rank t.command requests) (fold-adds groups issued next)

pub requests-add : (groups : List (List ℕ)) (rank : ℕ) (issued more : List IssuedCommand)
    → AddsTo (requests_of groups rank issued) (requests_of groups rank (issued ++ more))
requests-add groups rank issued more =
    let step = λ (rs : List Request) (t : IssuedCommand). requests_after groups t.line t.rank t.command rs in
    let mine = λ (t : IssuedCommand). eqb t.rank rank in
    subst (AddsTo (requests_of groups rank issued))
    (sym (ap (fold step []) (filter-append mine issued more) ∙ fold-append step [] (filter mine issued) (filter mine more)))
    (fold-adds groups (filter mine more) (requests_of groups rank issued))
