-- The commands of a rank, one after the other among those of all ranks.
use Rattle.std.proofs.Common.{◌≡◌, ◌↔◌, ◌<◌, ◌≤◌, ◌+◌, ℕ, Bool, IsTrue, cond, true, false, eqb, List, [], ◌∷◌, ◌++◌, Result, Ok, Err, drop, get_or, map, length}
use Rattle.std.proofs.Common.{refl, sym, ap, subst, ◌∙◌, append_assoc}
use Rattle.std.specs.Prelude.{IfOk, filter}
use Rattle.std.specs.List.{range_with_len}
use Rattle.std.proofs.lemmas.Bool.{eq-eqb, false≢true, ne_eqb}
use Rattle.std.proofs.lemmas.List.{drop_all, map-append}
use Rattle.std.proofs.lemmas.List.Elements.{filter-append}
use Rattle.coll_parser.specs.declared.command.Command.TheVariants as line
use Rattle.coll_parser.specs.declared.issued_command.IssuedCommand.{IssuedCommand}
use Rattle.coll_parser.specs.Histories.{History, commands_of, issued_by, postings}
use Rattle.coll_parser.proofs.Lists.{drop-more}
use Rattle.coll_report.specs.Comparisons.{Compared, SaysLeft}
use Rattle.coll_report.specs.Scripts.{Command, Other, Says}
use Rattle.coll_machine.specs.Entries.{Entry}
use Rattle.coll_run.specs.Commands.{all_traced, traced}

-- of all commands, and of one and those after it
traced-append : (rank : ℕ) (xs ys : List IssuedCommand)
    → all_traced (issued_by rank (xs ++ ys)) ≡ all_traced (issued_by rank xs) ++ all_traced (issued_by rank ys)
traced-append rank xs ys =
    let own = λ (t : IssuedCommand). eqb t.rank rank in
    let command = λ (t : IssuedCommand). t.command in
    ap (λ (ts : List IssuedCommand). all_traced (map command ts)) (filter-append own xs ys)
    ∙ ap all_traced (map-append command (filter own xs) (filter own ys))
    ∙ map-append traced (map command (filter own xs)) (map command (filter own ys))

traced-next : (rank : ℕ) (ts : List IssuedCommand) (i : ℕ) (t : IssuedCommand) → i < length ts → t ≡ get_or ts i t
    → all_traced (issued_by rank (drop i ts)) ≡ all_traced (issued_by rank (t ∷ [])) ++ all_traced (issued_by rank (drop (i + 1) ts))
traced-next rank ts i t lt is =
    ap (λ (us : List IssuedCommand). all_traced (issued_by rank us)) (drop-more ts i t lt is) ∙ traced-append rank (t ∷ []) (drop (i + 1) ts)

-- the unwritten `waitall` comes after all others
traced-all : (h : History) (rank : ℕ) → all_traced (commands_of h rank) ≡ all_traced (issued_by rank h.commands) ++ Other ∷ []
traced-all h rank =
    map-append traced (issued_by rank h.commands) (line.WaitAll (range_with_len 0 (length (postings (issued_by rank h.commands)))) ∷ [])

-- ---- one command

traced-other : (t : IssuedCommand) (rank : ℕ) → (t.rank ≡ rank → ⊥) → all_traced (issued_by rank (t ∷ [])) ≡ []
traced-other t rank other =
    ap (λ (b : Bool). all_traced (map (λ (u : IssuedCommand). u.command) (cond b (t ∷ []) []))) (ne_eqb t.rank rank other)

traced-own : (t : IssuedCommand) (rank : ℕ) → t.rank ≡ rank → all_traced (issued_by rank (t ∷ [])) ≡ traced t.command ∷ []
traced-own t rank own =
    ap (λ (b : Bool). all_traced (map (λ (u : IssuedCommand). u.command) (cond b (t ∷ []) []))) (eq-eqb t.rank rank own)

-- another rank's is passed by
pub passed : (c : Compared) (t : IssuedCommand) (rank : ℕ) → (t.rank ≡ rank → ⊥) → (rest : List Command)
    → SaysLeft c (all_traced (issued_by rank (t ∷ [])) ++ rest) ↔ (IsTrue true × SaysLeft c rest)
passed c t rank other rest =
    subst (λ (cs : List Command). SaysLeft c (cs ++ rest) ↔ (IsTrue true × SaysLeft c rest)) (sym (traced-other t rank other))
    ((λ says. (refl, says)), (λ both. both.1))

-- the rank's own is compared
pub compared : {E : Type 0} (r : Result Bool E) (old new : Compared) (t : IssuedCommand) (rank : ℕ) (command : Command) → t.rank ≡ rank
    → command ≡ traced t.command
    → IfOk r (λ same. (rest : List Command) → SaysLeft old (command ∷ rest) ↔ (IsTrue same × SaysLeft new rest))
    → IfOk r (λ same. (rest : List Command) → SaysLeft old (all_traced (issued_by rank (t ∷ [])) ++ rest) ↔ (IsTrue same × SaysLeft new rest))
compared (Ok same) old new t rank command own is next = λ rest.
    subst (λ (cs : List Command). SaysLeft old (cs ++ rest) ↔ (IsTrue same × SaysLeft new rest))
    (ap (λ (one : Command). one ∷ []) is ∙ sym (traced-own t rank own)) (next rest)
compared (Err why) old new t rank command own is next = tt

-- ---- the walk

-- the rest of the commands are those that are left exactly where all are all
abbrev pub IsOnWay : ℕ → List IssuedCommand → ℕ → Compared → Type 0 → Type 0
IsOnWay rank ts i c Whole = SaysLeft c (all_traced (issued_by rank (drop i ts)) ++ Other ∷ []) ↔ Whole

pub begins : (h : History) (rank : ℕ) (ts : List IssuedCommand) (c : Compared) (entries : List Entry) → ts ≡ h.commands
    → c ≡ record { tickets = []; left = entries } → IsOnWay rank ts 0 c (Says [] (all_traced (commands_of h rank)) entries)
begins h rank ts c entries same is =
    let all : all_traced (commands_of h rank) ≡ all_traced (issued_by rank ts) ++ Other ∷ [] =
    traced-all h rank ∙ ap (λ (us : List IssuedCommand). all_traced (issued_by rank us) ++ Other ∷ []) (sym same) in
    subst (λ (cs : List Command). SaysLeft c (all_traced (issued_by rank ts) ++ Other ∷ []) ↔ Says [] cs entries) (sym all)
    (subst (λ (d : Compared). SaysLeft d (all_traced (issued_by rank ts) ++ Other ∷ []) ↔ Says [] (all_traced (issued_by rank ts) ++ Other ∷ []) entries)
    (sym is) ((λ says. says), (λ says. says)))

-- one command more
one-more : (rank : ℕ) (ts : List IssuedCommand) (i : ℕ) (t : IssuedCommand) (same : Bool) (old new : Compared) (Whole : Type 0)
    → i < length ts → t ≡ get_or ts i t
    → ((rest : List Command) → SaysLeft old (all_traced (issued_by rank (t ∷ [])) ++ rest) ↔ (IsTrue same × SaysLeft new rest))
    → IsOnWay rank ts i old Whole
    → Whole ↔ (IsTrue same × SaysLeft new (all_traced (issued_by rank (drop (i + 1) ts)) ++ Other ∷ []))
one-more rank ts i t same old new Whole lt is next way =
    let rest : List Command = all_traced (issued_by rank (drop (i + 1) ts)) ++ Other ∷ [] in
    let split : all_traced (issued_by rank (drop i ts)) ++ Other ∷ [] ≡ all_traced (issued_by rank (t ∷ [])) ++ rest =
    ap (λ (cs : List Command). cs ++ Other ∷ []) (traced-next rank ts i t lt is)
    ∙ append_assoc (all_traced (issued_by rank (t ∷ []))) (all_traced (issued_by rank (drop (i + 1) ts))) (Other ∷ []) in (
      (λ whole. (next rest).0 (subst (SaysLeft old) split (way.1 whole))),
      (λ both. way.0 (subst (SaysLeft old) (sym split) ((next rest).1 both))),
    )

pub goes-on : (rank : ℕ) (ts : List IssuedCommand) (i : ℕ) (t : IssuedCommand) (same : Bool) (old new : Compared) (Whole : Type 0)
    → i < length ts → t ≡ get_or ts i t
    → ((rest : List Command) → SaysLeft old (all_traced (issued_by rank (t ∷ [])) ++ rest) ↔ (IsTrue same × SaysLeft new rest))
    → IsOnWay rank ts i old Whole → same ≡ true → IsOnWay rank ts (i + 1) new Whole
goes-on rank ts i t same old new Whole lt is next way holds =
    let more = one-more rank ts i t same old new Whole lt is next way in
    ((λ says. more.1 (holds, says)), (λ whole. (more.0 whole).1))

pub stops : (rank : ℕ) (ts : List IssuedCommand) (i : ℕ) (t : IssuedCommand) (same : Bool) (old new : Compared) (Whole : Type 0)
    → i < length ts → t ≡ get_or ts i t
    → ((rest : List Command) → SaysLeft old (all_traced (issued_by rank (t ∷ [])) ++ rest) ↔ (IsTrue same × SaysLeft new rest))
    → IsOnWay rank ts i old Whole → same ≡ false → IsTrue false ↔ Whole
stops rank ts i t same old new Whole lt is next way fails =
    let more = one-more rank ts i t same old new Whole lt is next way in
    ((λ wrong. absurd (false≢true wrong)), (λ whole. sym fails ∙ (more.0 whole).0))

-- at the end the `waitall` alone is left, which no entry is of
pub over : (rank : ℕ) (ts : List IssuedCommand) (i : ℕ) (c : Compared) (is_over : Bool) (Whole : Type 0) → length ts ≤ i
    → IsOnWay rank ts i c Whole → (IsTrue is_over ↔ SaysLeft c []) → IsTrue is_over ↔ Whole
over rank ts i c is_over Whole past way done =
    let none : all_traced (issued_by rank (drop i ts)) ++ Other ∷ [] ≡ Other ∷ [] =
    ap (λ (us : List IssuedCommand). all_traced (issued_by rank us) ++ Other ∷ []) (drop_all i ts past) in
    ((λ ends. way.0 (subst (SaysLeft c) (sym none) (done.0 ends))), (λ whole. done.1 (subst (SaysLeft c) none (way.1 whole))))
