-- What is kept beside a history goes on to be so.
use Rattle.std.proofs.Common.{◌≡◌, ℕ, zero, suc, ◌+◌, ◌<◌, ◌≤◌, Bool, true, false, cond, eqb, List, [], ◌∷◌, ◌++◌, length, set, get_or, take}
use Rattle.std.proofs.Common.{replicate, Option, Some, None, Ok, Err, Vec, refl, sym, ap, subst, ◌∙◌, arith, inl, inr}
use Rattle.std.specs.Prelude.{IfSome, slice_get, unwrap_or}
use Rattle.std.specs.Global.{Global}
use Rattle.std.specs.Option.{option_map}
use Rattle.std.specs.List.{AllByRecursion}
use Rattle.std.proofs.lemmas.Bool.{cases_eq}
use Rattle.std.proofs.lemmas.List.{length-append, length-map, length-set}
use Rattle.std.proofs.lemmas.List.Elements.{filter_map-append}
use Rattle.std.proofs.lemmas.Option.{slice_get_read, slice_get-map, same_Some}
use Rattle.coll_parser.specs.declared.command.Command.{Command}
use Rattle.coll_parser.specs.declared.issued_command.IssuedCommand.{IssuedCommand}
use Rattle.coll_parser.specs.declared.reader.Reader.{Reader}
use Rattle.coll_parser.specs.declared.section.Section.{Section}
use Rattle.coll_parser.specs.Histories.{History, Posting, posting, postings, issued_by, is_startable, total}
use Rattle.coll_parser.specs.Reading.{◌>>=◌, give, must}
use Rattle.coll_parser.specs.Lines.{next, request_in, made, startable, issue}
use Rattle.coll_parser.specs.declared.cause.Cause.TheVariants.{NotStartable}
use Rattle.coll_parser.specs.declared.section.SectionEntry.{SectionEntry}
use Rattle.coll_parser.proofs.Allowed.{next-is, request-below}
use Rattle.coll_parser.specs.Sound.{MayIssue, IsHistory}
use Rattle.coll_parser.specs.Code.{history_of, begun, posting_view, IsKeptOf, IsKept, AreStamps, IsReader, IsStamped, SameButStamps, rows_view}
use Rattle.coll_parser.proofs.Sounds.{few-members, IsHistory-begun, IsHistory-issued, total-more}
use Rattle.coll_parser.proofs.Lists.{AllByRecursion-some, AllByRecursion-read, AllByRecursion-from, AllByRecursion-take, AllByRecursion-replicate}
use Rattle.coll_parser.proofs.Cuts.{AllByRecursion-append}
use Rattle.coll_parser.proofs.Keeping.{IfSome-weaker, each-set, kept-later, issued-own, issued-other}

-- ---- a line that says no command

kept-all-later : (number : ℕ) (issued : List IssuedCommand) (sections : List Section)
    → ((rank : ℕ) → IfSome (slice_get sections rank) (IsKept number (issued_by rank issued))) → (rank : ℕ)
    → IfSome (slice_get sections rank) (IsKept (number + 1) (issued_by rank issued))
kept-all-later number issued sections kept rank =
    IfSome-weaker (slice_get sections rank) (IsKept number (issued_by rank issued)) (IsKept (number + 1) (issued_by rank issued))
    (λ s at is. kept-later number (issued_by rank issued) s is) (kept rank)

pub IsReader-goes_on : (number : ℕ) (old new : Reader) → IsReader number old → IsHistory (number + 1) (history_of new)
    → new.ranks ≡ old.ranks → new.sections.items ≡ old.sections.items → new.commands.items ≡ old.commands.items
    → new.total ≡ old.total → IsReader (number + 1) new
IsReader-goes_on number old new is history ranks sections issued total = record {
  history = history;
  members = few-members _ _ history.groups;
  sections = rw (ranks, sections) is.sections;
  kept = λ rank. rw (sections, issued) (kept-all-later number old.commands.items old.sections.items is.kept rank);
  total = rw (total, issued) is.total;
}

AreStamps-later : (number more count : ℕ) (stamps : List ℕ) → number ≤ more → AreStamps number count stamps → AreStamps more count stamps
AreStamps-later number more count stamps le are = (are.0, λ q lt. omega (arith, are.1 q lt, le))

pub IsStamped-goes_on : (number : ℕ) (old new : Reader) → IsStamped number old → new.ranks ≡ old.ranks
    → new.stamps.items ≡ old.stamps.items → new.commands.items ≡ old.commands.items → IsStamped (number + 1) new
IsStamped-goes_on number old new is ranks stamps issued = record {
  ranks = rw (ranks, stamps) is.ranks;
  each = λ rank.
      rw (stamps, issued)
      (IfSome-weaker (slice_get old.stamps.items rank)
      (λ s. AreStamps number (length (postings (issued_by rank old.commands.items))) s.items)
      (λ s. AreStamps (number + 1) (length (postings (issued_by rank old.commands.items))) s.items)
      (λ s at are. AreStamps-later number (number + 1) (length (postings (issued_by rank old.commands.items))) s.items (omega arith) are) (is.each rank));
}

-- ---- a command

pub kept-issued : (number : ℕ) (issued : List IssuedCommand) (sections : List Section) (t : IssuedCommand) (new : Section)
    → ((old : Section) → slice_get sections t.rank ≡ Some old → IsKept number (issued_by t.rank issued) old
    → IsKept (number + 1) (issued_by t.rank issued ++ t.command ∷ []) new)
    → ((rank : ℕ) → IfSome (slice_get sections rank) (IsKept number (issued_by rank issued)))
    → (rank : ℕ) → IfSome (slice_get (set sections t.rank new) rank) (IsKept (number + 1) (issued_by rank (issued ++ t ∷ [])))
kept-issued number issued sections t new here kept =
    each-set (λ rank. IsKept number (issued_by rank issued)) (λ rank. IsKept (number + 1) (issued_by rank (issued ++ t ∷ []))) sections t.rank new
    (λ old at is. subst (λ (commands : List Command). IsKept (number + 1) commands new) (sym (issued-own issued t)) (here old at is))
    (λ rank section ne is. subst (λ (commands : List Command). IsKept (number + 1) commands section)
    (sym (issued-other rank issued t ne)) (kept-later number (issued_by rank issued) section is))
    kept

abbrev pub count : ℕ → List IssuedCommand → ℕ
count rank issued = length (postings (issued_by rank issued))

count-grows : (rank : ℕ) (issued : List IssuedCommand) (t : IssuedCommand) → count rank issued ≤ count rank (issued ++ t ∷ [])
count-grows rank issued t = elim (cases_eq rank t.rank) [
  | inl e ↦
      let own : count t.rank (issued ++ t ∷ []) ≡ count t.rank issued + length (postings (t.command ∷ [])) =
      ap (λ (cs : List Command). length (postings cs)) (issued-own issued t)
      ∙ ap length (filter_map-append posting (issued_by t.rank issued) (t.command ∷ []))
      ∙ length-append (postings (issued_by t.rank issued)) (postings (t.command ∷ [])) in
      rw e (omega (arith, own))
  | inr ne ↦ let other : count rank (issued ++ t ∷ []) ≡ count rank issued =
      ap (λ (cs : List Command). length (postings cs)) (issued-other rank issued t ne) in omega (arith, other)
]

pub stamps-issued : (next : ℕ) (issued : List IssuedCommand) (stamps : List (Vec ℕ Global)) (t : IssuedCommand)
    → ((rank : ℕ) → IfSome (slice_get stamps rank) (λ s. AreStamps next (count rank issued) s.items))
    → (rank : ℕ) → IfSome (slice_get stamps rank) (λ s. AreStamps next (count rank (issued ++ t ∷ [])) s.items)
stamps-issued next issued stamps t each rank =
    IfSome-weaker (slice_get stamps rank) (λ s. AreStamps next (count rank issued) s.items) (λ s. AreStamps next (count rank (issued ++ t ∷ [])) s.items)
    (λ s at are. (omega (arith, are.0, count-grows rank issued t), are.1)) (each rank)

-- what a rank has kept for it tells how many requests it has
pub length-entries : (number rank : ℕ) (issued : List IssuedCommand) (section : Section)
    → IsKept number (issued_by rank issued) section → length section.entries.items ≡ count rank issued
length-entries number rank issued section is = sym (length-map section.entries.items posting_view) ∙ ap length is.posted

count-by : (rank : ℕ) (t : IssuedCommand) (issued : List IssuedCommand) (b : Bool) (o : Option Posting) → eqb t.rank rank ≡ b
    → posting t.command ≡ o → count rank issued ≤ total issued → count rank (t ∷ issued) ≤ total (t ∷ issued)
count-by rank t issued true (Some p) e f le = rw (e, f) (omega (arith, le))
count-by rank t issued true None e f le = rw (e, f) le
count-by rank t issued false (Some p) e f le = rw (e, f) (omega (arith, le))
count-by rank t issued false None e f le = rw (e, f) le

-- a rank has at most as many requests as there are in all
pub count-le : (rank : ℕ) (issued : List IssuedCommand) → count rank issued ≤ total issued
count-le rank [] = omega arith
count-le rank (t ∷ issued) = count-by rank t issued (eqb t.rank rank) (posting t.command) refl refl (count-le rank issued)

-- what is kept of the section of a rank
pub section-kept : (number rank : ℕ) (r : Reader) (section : Section) → IsReader number r → rank < unwrap_or r.ranks 0
    → section ≡ get_or r.sections.items rank section
    → IsKept number (issued_by rank r.commands.items) section × (length section.entries.items ≤ 4096)
section-kept number rank r section is lt read =
    let within : rank < length r.sections.items = omega (arith, lt, is.sections) in
    let at : slice_get r.sections.items rank ≡ Some section = slice_get_read r.sections.items (length r.sections.items) rank section refl within read in
    let kept : IsKept number (issued_by rank r.commands.items) section = rw at at (is.kept rank) in
    (kept, omega (arith, length-entries number rank r.commands.items section kept, count-le rank r.commands.items, is.history.few))

slice_get_some : {X : Type 0} (xs : List X) (i : ℕ) → i < length xs → (x : X) × (slice_get xs i ≡ Some x)
slice_get_some [] i lt = absurd (omega arith)
slice_get_some (x ∷ xs) zero lt = (x, refl)
slice_get_some (x ∷ xs) (suc i) lt = slice_get_some xs i (omega arith)

ask : (b : Bool) (q : ℕ) (p : Posting) (left : List (List ℕ))
    → ◌>>=◌ {B = ℕ × Posting} (must b NotStartable) (λ fits. give (q, p)) left ≡ cond b (Ok ((q, p), left)) (Err NotStartable)
ask true q p left = refl
ask false q p left = refl

pub startable-reads : (h : History) (rank : ℕ) (words : List (List ℕ)) (q : ℕ) (left : List (List ℕ)) (p : Posting)
    → next (request_in (length (made h rank))) words ≡ Ok (q, left) → slice_get (made h rank) q ≡ Some p
    → startable h rank words ≡ cond (is_startable q p (issued_by rank h.commands)) (Ok ((q, p), left)) (Err NotStartable)
unfolding startable
startable-reads h rank words q left p read there = rw (read, there) (ask (is_startable q p (issued_by rank h.commands)) q p left)

pub entry-posted : (number rank : ℕ) (h : History) (section : Section) (q : ℕ) (entry : SectionEntry)
    → IsKept number (issued_by rank h.commands) section → slice_get section.entries.items q ≡ Some entry → slice_get (made h rank) q ≡ Some (posting_view entry)
entry-posted number rank h section q entry is at =
    ap (λ (ps : List Posting). slice_get ps q) (sym is.posted) ∙ slice_get-map posting_view section.entries.items q ∙ ap (option_map posting_view) at

pub startable-not : (number rank : ℕ) (h : History) (section : Section) (words : List (List ℕ)) (q : ℕ) (left : List (List ℕ))
    → IsKept number (issued_by rank h.commands) section → next (request_in (length section.entries.items)) words ≡ Ok (q, left)
    → ((p : Posting) → slice_get (made h rank) q ≡ Some p → false ≡ is_startable q p (issued_by rank h.commands)) → startable h rank words ≡ Err NotStartable
startable-not number rank h section words q left is read none =
    let same : length section.entries.items ≡ length (made h rank) = length-entries number rank h.commands section is in
    let read_there : next (request_in (length (made h rank))) words ≡ Ok (q, left) = subst (λ n. next (request_in n) words ≡ Ok (q, left)) same read in
    let word = next-is (request_in (length section.entries.items)) words (q, left) read in
    let entry = slice_get_some section.entries.items q (request-below (length section.entries.items) word.0 q word.1) in
    let there = entry-posted number rank h section q entry.0 is entry.1 in
    startable-reads h rank words q left (posting_view entry.0) read_there there
    ∙ ap (λ b. cond b (Ok ((q, posting_view entry.0), left)) (Err NotStartable)) (sym (none (posting_view entry.0) there))

pub startable-is_read : (number rank : ℕ) (h : History) (section : Section) (words : List (List ℕ)) (q : ℕ) (left : List (List ℕ)) (entry : SectionEntry)
    → IsKept number (issued_by rank h.commands) section → next (request_in (length section.entries.items)) words ≡ Ok (q, left)
    → slice_get section.entries.items q ≡ Some entry
    → ((p : Posting) → slice_get (made h rank) q ≡ Some p → true ≡ is_startable q p (issued_by rank h.commands))
    → startable h rank words ≡ Ok ((q, posting_view entry), left)
startable-is_read number rank h section words q left entry is read at fits =
    let same : length section.entries.items ≡ length (made h rank) = length-entries number rank h.commands section is in
    let read_there : next (request_in (length (made h rank))) words ≡ Ok (q, left) = subst (λ n. next (request_in n) words ≡ Ok (q, left)) same read in
    let there = entry-posted number rank h section q entry is at in
    startable-reads h rank words q left (posting_view entry) read_there there
    ∙ ap (λ b. cond b (Ok ((q, posting_view entry), left)) (Err NotStartable)) (sym (fits (posting_view entry) there))

-- only stamps were written
pub same-history : (old new : Reader) → SameButStamps old new → history_of new ≡ history_of old
same-history old new same =
    λ i. record { ranks = same.ranks i; groups = rows_view (same.groups i).items; opened = same.opened i; commands = (same.commands i).items }

pub same-reader : (number : ℕ) (old new : Reader) → SameButStamps old new → IsReader number old → IsReader number new
same-reader number old new same is = record {
  history = rw (same-history old new same) is.history;
  members = rw same.groups is.members;
  sections = rw (same.sections, same.ranks) is.sections;
  kept = rw (same.sections, same.commands) is.kept;
  total = rw (same.total, same.commands) is.total;
}

IsKept-more : (number more : ℕ) (commands : List Command) (section : Section) → number ≤ more → IsKept number commands section → IsKept more commands section
IsKept-more number more commands section le is = record {
  posted = is.posted;
  earlier = omega (arith, is.earlier, le);
  each = λ q.
      IfSome-weaker (slice_get section.entries.items q) (IsKeptOf number section.waited commands q) (IsKeptOf more section.waited commands q)
      (λ p at kept. record { earlier = omega (arith, kept.earlier, le); active = kept.active; freed = kept.freed }) (is.each q);
  unmade = is.unmade;
}

-- a job of n ranks begins
pub IsReader-begun : (number n : ℕ) (old new : Reader) → IsReader number old → old.ranks ≡ None → n ≤ 64
    → history_of new ≡ begun n (history_of old) → new.total ≡ old.total
    → length new.sections.items ≡ n → AllByRecursion (IsKept 1 []) new.sections.items → IsReader (number + 1) new
IsReader-begun number n old new is none few same total sections kept =
    let issued : old.commands.items ≡ [] = is.history.early (is.history.begun none) in
    let still : new.commands.items ≡ [] = ap (λ (h : History). h.commands) same ∙ issued in
    let ranks : new.ranks ≡ Some n = ap (λ (h : History). h.ranks) same in
    let history : IsHistory (number + 1) (history_of new) =
    subst (IsHistory (number + 1)) (sym same) (IsHistory-begun number n (history_of old) is.history none few) in
    record {
      history = history;
      members = few-members _ _ history.groups;
      sections = rw ranks sections;
      kept = λ rank.
          rw still
          (IfSome-weaker (slice_get new.sections.items rank) (IsKept 1 []) (IsKept (number + 1) [])
          (λ s at one. IsKept-more 1 (number + 1) [] s (omega arith) one)
          (AllByRecursion-some (IsKept 1 []) new.sections.items kept rank));
      total = total ∙ is.total ∙ rw (issued, still) refl;
    }

stamped-by : (next rank : ℕ) (issued : List IssuedCommand) (stamps : List (Vec ℕ Global)) (i : ℕ)
    → AllByRecursion (λ (s : List ℕ). s ≡ []) (rows_view stamps) → IfSome (slice_get stamps i) (λ s. AreStamps next (count rank issued) s.items)
stamped-by next rank issued [] i none = tt
stamped-by next rank issued (s ∷ stamps) zero none = rw none.0 (omega arith, λ q lt. absurd (omega arith))
stamped-by next rank issued (s ∷ stamps) (suc i) none = stamped-by next rank issued stamps i none.1

pub IsStamped-begun : (next n : ℕ) (new : Reader) → new.ranks ≡ Some n → length new.stamps.items ≡ n
    → AllByRecursion (λ (s : List ℕ). s ≡ []) (rows_view new.stamps.items) → IsStamped next new
IsStamped-begun next n new ranks stamps none =
    record { ranks = rw ranks stamps; each = λ rank. stamped-by next rank new.commands.items new.stamps.items rank none }

-- a command is issued
pub IsReader-issued : (number rank : ℕ) (old new : Reader) (c : Command) (here section : Section) → IsReader number old
    → rank < unwrap_or old.ranks 0 → old.opened ≡ Some rank
    → MayIssue (rows_view old.groups.items) rank (issued_by rank old.commands.items) c → IfSome (posting c) (λ p. total old.commands.items < 4096)
    → here ≡ get_or old.sections.items rank here → ((commands : List Command) → IsKept number commands here → IsKept (number + 1) (commands ++ c ∷ []) section)
    → new.ranks ≡ old.ranks → new.groups ≡ old.groups → new.opened ≡ old.opened
    → new.commands.items ≡ old.commands.items ++ record { line = number; rank = rank; command = c } ∷ []
    → new.sections.items ≡ set old.sections.items rank section → new.total ≡ old.total + length (postings (c ∷ [])) → IsReader (number + 1) new
IsReader-issued number rank old new c here section is lt opened may room read noted ranks groups still issued sections sum =
    let t : IssuedCommand = record { line = number; rank = rank; command = c } in
    let within : rank < length old.sections.items = omega (arith, lt, is.sections) in
    let at : slice_get old.sections.items rank ≡ Some here = slice_get_read old.sections.items (length old.sections.items) rank here refl within read in
    let same : history_of new ≡ issue number rank c (history_of old) =
    λ i. record { ranks = ranks i; groups = rows_view (groups i).items; opened = still i; commands = issued i } in
    record {
      history = subst (IsHistory (number + 1)) (sym same) (IsHistory-issued number rank c (history_of old) is.history opened lt may room);
      members = rw groups is.members;
      sections = rw (sections, ranks) (length-set old.sections.items rank section ∙ is.sections);
      kept = λ r.
          rw (sections, issued)
          (kept-issued number old.commands.items old.sections.items t section
          (λ s there kept.
          let one : s ≡ here = same_Some s here (sym there ∙ at) in
          noted (issued_by rank old.commands.items) (subst (λ (x : Section). IsKept number (issued_by rank old.commands.items) x) one kept))
          is.kept r);
      total = rw issued (sum ∙ rw is.total (sym (total-more old.commands.items t)));
    }

pub IsStamped-issued : (next : ℕ) (old new : Reader) (t : IssuedCommand) → IsStamped next old → new.ranks ≡ old.ranks
    → new.stamps ≡ old.stamps → new.commands.items ≡ old.commands.items ++ t ∷ [] → IsStamped next new
IsStamped-issued next old new t is ranks stamps issued = record {
  ranks = rw (ranks, stamps) is.ranks;
  each = λ rank. rw (stamps, issued) (stamps-issued next old.commands.items old.stamps.items t is.each rank);
}

-- stamps of one rank were written
pub IsStamped-set : (number rank : ℕ) (old new : Reader) (stamps : Vec ℕ Global) → IsStamped number old → new.ranks ≡ old.ranks
    → new.commands ≡ old.commands → new.stamps.items ≡ set old.stamps.items rank stamps
    → AreStamps (number + 1) (count rank old.commands.items) stamps.items → IsStamped (number + 1) new
IsStamped-set number rank old new stamps is ranks issued written are = record {
  ranks = rw (ranks, written) (length-set old.stamps.items rank stamps ∙ is.ranks);
  each = rw (written, issued)
      (each-set (λ r s. AreStamps number (count r old.commands.items) s.items)
      (λ r s. AreStamps (number + 1) (count r old.commands.items) s.items) old.stamps.items rank stamps
      (λ s at earlier. are) (λ r s ne earlier. AreStamps-later number (number + 1) (count r old.commands.items) s.items (omega arith) earlier) is.each);
}

-- stamps, with some of requests that none has named so far
pub stamps-resized : (next n k : ℕ) (stamps new : List ℕ) → 0 < next → new ≡ take n stamps ++ replicate k 0
    → ((q : ℕ) → q < length stamps → get_or stamps q 0 < next) → (q : ℕ) → q < length new → get_or new q 0 < next
stamps-resized next n k stamps new some is each q lt =
    let all = AllByRecursion-append (λ x. x < next) (take n stamps) (replicate k 0)
    (AllByRecursion-take (λ x. x < next) n stamps (AllByRecursion-from (λ x. x < next) stamps each)) (AllByRecursion-replicate (λ x. x < next) k 0 some) in
    AllByRecursion-read (λ x. x < next) new q 0 (subst (AllByRecursion (λ x. x < next)) (sym is) all) lt

-- the stamps of a rank
pub stamps-at : (number rank : ℕ) (r : Reader) (stamps : Vec ℕ Global) → IsStamped number r → rank < unwrap_or r.ranks 0
    → stamps ≡ get_or r.stamps.items rank stamps → AreStamps number (count rank r.commands.items) stamps.items
stamps-at number rank r stamps is lt read =
    let within : rank < length r.stamps.items = omega (arith, lt, is.ranks) in
    let at : slice_get r.stamps.items rank ≡ Some stamps = slice_get_read r.stamps.items (length r.stamps.items) rank stamps refl within read in
    rw at at (is.each rank)
