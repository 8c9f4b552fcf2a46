-- Each accepted line leaves the history as it should be.
use Rattle.std.proofs.Common.{◌≡◌, ℕ, ◌+◌, ◌<◌, ◌≤◌, List, [], ◌∷◌, ◌++◌, length, map, Option, Some, None, refl, sym, ap, subst, ◌∙◌, append_assoc, arith}
use Rattle.std.specs.Prelude.{IfSome, filter_map, unwrap_or}
use Rattle.std.specs.List.{AllByRecursion}
use Rattle.std.proofs.lemmas.List.{append-nil, length-append, map-append}
use Rattle.std.proofs.lemmas.List.Elements.{filter_map-append}
use Rattle.coll_kinds.specs.Groups.{IsGroup}
use Rattle.coll_kinds.proofs.Members.{IsGroup-range}
use Rattle.coll_parser.specs.declared.command.Command.{Command}
use Rattle.coll_parser.specs.declared.issued_command.IssuedCommand.{IssuedCommand}
use Rattle.coll_parser.specs.Histories.{History, Posting, posting, postings, issued_by, total, beginning}
use Rattle.coll_parser.specs.Lines.{issue}
use Rattle.coll_parser.specs.Sound.{MayIssue, AreAllowed, IsHistory}
use Rattle.coll_parser.specs.Code.{begun}
use Rattle.coll_parser.proofs.Lists.{AllByRecursion-push, AllByRecursion-weaker}

pub IsHistory-beginning : IsHistory 1 beginning
IsHistory-beginning =
    record {
      few_ranks = omega arith;
      few_groups = omega arith;
      groups = tt;
      begun = λ e. refl;
      opened = tt;
      early =
          λ e. refl;
      allowed = tt;
      few_commands = omega arith;
      few = omega arith;
    }

pub IsHistory-later : (number more : ℕ) (h : History) → number ≤ more → IsHistory number h → IsHistory more h
IsHistory-later number more h le is = record {
  few_ranks = is.few_ranks;
  few_groups = is.few_groups;
  groups = is.groups;
  begun = is.begun;
  opened = is.opened;
  early = is.early;
  allowed = is.allowed;
  few_commands = omega (arith, is.few_commands, le);
  few = is.few;
}

-- no member of a communicator is told of twice, so it has at most as many as there may be ranks
pub few-members : (n : ℕ) (groups : List (List ℕ)) → AllByRecursion (IsGroup n) groups → AllByRecursion (λ group. length group ≤ 64) groups
few-members n groups are = AllByRecursion-weaker (IsGroup n) (λ group. length group ≤ 64) (λ group is. is.few) groups are

-- ---- lines that say no command

pub IsHistory-begun : (number n : ℕ) (h : History) → IsHistory number h → h.ranks ≡ None → n ≤ 64 → IsHistory (number + 1) (begun n h)
IsHistory-begun number n h is none few =
    let closed : h.opened ≡ None = is.begun none in
    let issued : h.commands ≡ [] = is.early closed in
    record {
      few_ranks = few;
      few_groups = omega arith;
      groups = (IsGroup-range n few, tt);
      begun = λ e. absurd cc;
      opened = rw closed tt;
      early = λ e. issued;
      allowed = rw issued tt;
      few_commands = omega (arith, is.few_commands);
      few = is.few;
    }

pub IsHistory-group : (number n : ℕ) (group : List ℕ) (h : History) → IsHistory number h → h.ranks ≡ Some n → h.opened ≡ None
    → IsGroup n group → length h.groups < 16 → IsHistory (number + 1) (record h { groups = h.groups ++ group ∷ [] })
IsHistory-group number n group h is ranks closed fits room =
    let issued : h.commands ≡ [] = is.early closed in
    record {
      few_ranks = is.few_ranks;
      few_groups = omega (arith, length-append h.groups (group ∷ []), room);
      groups = AllByRecursion-push (IsGroup (unwrap_or h.ranks 0)) h.groups group is.groups (rw ranks fits);
      begun = is.begun;
      opened = is.opened;
      early = is.early;
      allowed = rw issued tt;
      few_commands = omega (arith, is.few_commands);
      few = is.few;
    }

pub IsHistory-section : (number n rank : ℕ) (h : History) → IsHistory number h → h.ranks ≡ Some n → rank < n
    → IsHistory (number + 1) (record h { opened = Some rank })
IsHistory-section number n rank h is ranks lt = record {
  few_ranks = is.few_ranks;
  few_groups = is.few_groups;
  groups = is.groups;
  begun = λ none. absurd (let both : None ≡ Some n = sym none ∙ ranks in cc);
  opened = rw ranks lt;
  early = λ e. absurd cc;
  allowed = is.allowed;
  few_commands = omega (arith, is.few_commands);
  few = is.few;
}

-- ---- commands

AreAllowed-push : (n : ℕ) (groups : List (List ℕ)) (before issued : List IssuedCommand) (t : IssuedCommand)
    → AreAllowed n groups before issued → (t.rank < n) × MayIssue groups t.rank (issued_by t.rank (before ++ issued)) t.command
    → AreAllowed n groups before (issued ++ t ∷ [])
AreAllowed-push n groups before [] t allowed may =
    (subst (λ (ts : List IssuedCommand). (t.rank < n) × MayIssue groups t.rank (issued_by t.rank ts) t.command) (append-nil before) may, tt)
AreAllowed-push n groups before (u ∷ issued) t allowed may = (
  allowed.0,
  AreAllowed-push n groups (before ++ u ∷ []) issued t allowed.1
      (subst (λ (ts : List IssuedCommand). (t.rank < n) × MayIssue groups t.rank (issued_by t.rank ts) t.command)
      (sym (append_assoc before (u ∷ []) issued)) may),
)

-- a command makes one request or none
length-made : (c : Command) (o : Option Posting) → posting c ≡ o → length (postings (c ∷ [])) ≡ length (filter_map (λ (p : Option Posting). p) (o ∷ []))
length-made c None e = rw e refl
length-made c (Some p) e = rw e refl

pub total-more : (issued : List IssuedCommand) (t : IssuedCommand) → total (issued ++ t ∷ []) ≡ total issued + length (postings (t.command ∷ []))
total-more issued t =
    ap length (ap postings (map-append (λ (u : IssuedCommand). u.command) issued (t ∷ []))
    ∙ filter_map-append posting (map (λ (u : IssuedCommand). u.command) issued) (t.command ∷ []))
    ∙ length-append (postings (map (λ (u : IssuedCommand). u.command) issued)) (postings (t.command ∷ []))

few-more : (issued : List IssuedCommand) (t : IssuedCommand) (o : Option Posting) → posting t.command ≡ o → total issued ≤ 4096
    → IfSome o (λ p. total issued < 4096) → total (issued ++ t ∷ []) ≤ 4096
few-more issued t None e few room = let made : length (postings (t.command ∷ [])) ≡ 0 =
    length-made t.command None e in omega (arith, total-more issued t, made, few)
few-more issued t (Some p) e few room = let made : length (postings (t.command ∷ [])) ≡ 1 =
    length-made t.command (Some p) e in omega (arith, total-more issued t, made, room)

pub IsHistory-issued : (number rank : ℕ) (c : Command) (h : History) → IsHistory number h → h.opened ≡ Some rank
    → rank < unwrap_or h.ranks 0 → MayIssue h.groups rank (issued_by rank h.commands) c → IfSome (posting c) (λ p. total h.commands < 4096)
    → IsHistory (number + 1) (issue number rank c h)
IsHistory-issued number rank c h is opened lt may room =
    let t : IssuedCommand = record { line = number; rank = rank; command = c } in
    record {
      few_ranks = is.few_ranks;
      few_groups = is.few_groups;
      groups = is.groups;
      begun = is.begun;
      opened = is.opened;
      early = λ none. absurd (let both : None ≡ Some rank = sym none ∙ opened in cc);
      allowed = AreAllowed-push (unwrap_or h.ranks 0) h.groups [] h.commands t is.allowed (lt, may);
      few_commands = omega (arith, is.few_commands, length-append h.commands (t ∷ []));
      few = few-more h.commands t (posting c) refl is.few room;
    }
