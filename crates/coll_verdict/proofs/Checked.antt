-- Where the checker's tests hold of the ranks of a history, no run of the job comes to its end.
use Rattle.std.proofs.Common.{◌≡◌, ℕ, zero, suc, ◌+◌, ◌<◌, inl, inr, Bool, true, false, cond, eqb, leb, ltb, ◌&&◌, ◌||◌, List, [], length, Option}
use Rattle.std.proofs.Common.{Some, None, Vec, Global, option_map, refl, sym, ap, subst, ◌∙◌, arith, eq-eqb, eqb-true, lt-ltb}
use Rattle.std.proofs.lemmas.Bool.{and_parts, false≢true, ltb-true}
use Rattle.std.proofs.lemmas.Option.{none-some, same_Some, slice_get_within, slice_get-map}
use Rattle.std.specs.Prelude.{slice_get, slice_index, unwrap_or}
use Rattle.std.specs.List.{list_any, list_all, range_with_len}
use Rattle.coll_kinds.specs.declared.signature.Signature.{Signature}
use Rattle.coll_kinds.specs.Common.{member_of, needs, needs_of, same_signature}
use Rattle.coll_kinds.proofs.Sameness.{same_signature-Decides}
use Rattle.coll_machine.specs.Settings.{Setting, group, group_in}
use Rattle.coll_machine.proofs.Members.{member_at}
use Rattle.coll_parser.specs.declared.command.Command.{Command}
use Rattle.coll_parser.specs.declared.command.Command.TheVariants.{Post, Init, Start, Wait, Test, Free, WaitAny, WaitSome, WaitAll}
use Rattle.coll_parser.specs.declared.issued_command.IssuedCommand.{IssuedCommand}
use Rattle.coll_parser.specs.Code.{rows_view}
use Rattle.coll_parser.specs.Histories.{History, commands_of}
use Rattle.coll_verdict.specs.declared.known.KnownRequest.{KnownRequest}
use Rattle.coll_verdict.specs.declared.stood.Stood.{Stood}
use Rattle.coll_verdict.specs.declared.library.Library.{Library}
use Rattle.coll_verdict.specs.declared.library.Library.TheVariants.{Any, Hears}
use Rattle.coll_verdict.specs.declared.library.HeardRows.{HeardRows}
use Rattle.coll_verdict.specs.Waiting.{Hearing}
use Rattle.coll_verdict.specs.Stalls.{lines_of, has_elements, gives, issues, StallsAlways}
use Rattle.coll_verdict.specs.Sketches.{Sketch, sketch_at}
use Rattle.coll_verdict.specs.Stands.{IsLate, Lacks, CantBeDone, IsBlocked, sketches, AreClosed, IsShort}
use Rattle.coll_verdict.specs.Stands as stands
use Rattle.coll_verdict.specs.Checking.{size_at, gives_at, issues_at, late_at, is_late, peer_is_late, size_in, says, is_yes, is_of, lacks_member}
use Rattle.coll_verdict.specs.Checking.{lacks_told, lacks_heard, lacks_by, lacks_some, lacks_in, lacks, is_awaited, cant_be_done, awaited_at, cant_at}
use Rattle.coll_verdict.specs.Checking.{is_held_up, stays, rank_stays, all_stay, is_short, all_issue}
use Rattle.coll_verdict.specs.Code.{AreTrue, AreAllTrue, HearsOf, AlwaysFor, IsKnown, IsSketch, IsStood, AreStood, stand_in, stand_of}
use Rattle.coll_verdict.proofs.Listed.{some_at, all_at, any_at, all_among, any_among, index_at, get_none}
use Rattle.coll_verdict.proofs.Blocking.{closed_stands_stall, closed_stands_stall_by}

-- ---- tests

is_late_so : (a b : ℕ) (c d x y : ℕ) → cond (eqb a c && eqb b d) (ltb x y) true ≡ true → a ≡ c → b ≡ d → x < y
is_late_so a b c d x y e p q = ltb-true x y (sym (ap (λ t. cond t (ltb x y) true) both) ∙ e)
  where
    both : (eqb a c && eqb b d) ≡ true
    both = rw (eq-eqb a c p) (eq-eqb b d q)

-- a number of members for which a need was found is that of the group
sized : (sig : Signature) (xs : List ℕ) (member other : ℕ) → needs sig (size_in xs) member other ≡ true → size_in xs ≡ length xs
sized sig xs member other e =
    go (leb (length xs) 64) (ltb-true other (size_in xs) (and_parts (ltb other (size_in xs)) (needs_of sig.kind sig.root member other) e).0)
  where
    go : (b : Bool) → other < cond b (length xs) 0 → cond b (length xs) 0 ≡ length xs
    go true low = refl
    go false low = absurd (omega arith)

-- ---- groups

pub group_is : (g : Setting) (groups : List (Vec ℕ Global)) (comm : ℕ) (v : Vec ℕ Global) → g.groups ≡ rows_view groups
    → slice_get groups comm ≡ Some v → group g comm ≡ v.items
group_is g groups comm v e some =
    let there : slice_get (rows_view groups) comm ≡ Some v.items =
    slice_get-map (λ (row : Vec ℕ Global). row.items) groups comm ∙ ap (option_map (λ (row : Vec ℕ Global). row.items)) some in
    ap (λ (groups : List (List ℕ)). unwrap_or (slice_get groups comm) []) e ∙ ap (λ (o : Option (List ℕ)). unwrap_or o []) there

-- ---- what the tests found

find_rank : (own : KnownRequest) (o : Option Stood) → is_late own o ≡ true
    → (y : Stood) × (o ≡ Some y) × (list_all (late_at own.comm own.place own.starts) y.requests.items ≡ true)
find_rank own None e = absurd (false≢true e)
find_rank own (Some y) e = (y, refl, e)

find_peer : (xs : List Stood) (own : KnownRequest) (o : Option ℕ) → peer_is_late xs own o ≡ true
    → (peer : ℕ) × (o ≡ Some peer) × (is_late own (slice_get xs peer) ≡ true)
find_peer xs own None e = absurd (false≢true e)
find_peer xs own (Some peer) e = (peer, refl, e)

-- a member of a group that one waits for, and which is late
record Found (hears : Hearing) (xs : List Stood) (members : List ℕ) (own : KnownRequest) (member : ℕ) : Type 0 where
  other : ℕ
  low : other < length members
  awaited : hears own.sig (length members) member other ≡ true
  late : peer_is_late xs own (slice_get members other) ≡ true

range_at : (a n i x : ℕ) → slice_get (range_with_len a n) i ≡ Some x → x < a + n
range_at a zero i x e = absurd (none-some x e)
range_at a (suc n) zero x e = let same : a ≡ x = same_Some a x e in omega arith
range_at a (suc n) (suc i) x e = let low : x < (a + 1) + n = range_at (a + 1) n i x e in omega arith

range_low : (n i x : ℕ) → slice_get (range_with_len 0 n) i ≡ Some x → x < n
range_low n i x e = let low : x < 0 + n = range_at 0 n i x e in omega arith

-- a table of a collective is of that one
pub of_is : (sig : Signature) (n : ℕ) (table : HeardRows) → is_of sig n table ≡ true → (table.sig ≡ sig) × (length table.rows.items ≡ n)
of_is sig n table e =
    let parts = and_parts (same_signature table.sig sig) (eqb (length table.rows.items) n) e in
    ((same_signature-Decides table.sig sig).0 parts.0, eqb-true (length table.rows.items) n parts.1)

yes_is : (o : Option Bool) → is_yes o ≡ true → o ≡ Some true
yes_is None e = absurd (false≢true e)
yes_is (Some b) e = ap Some e

found_by : (hears : Hearing) (library : Library) → HearsOf hears library
    → (xs : List Stood) (members : List ℕ) (own : KnownRequest) (member : ℕ) → lacks_by library xs members own member ≡ true → Found hears xs members own member
found_by hears Any is xs members own member e =
    let parts = and_parts (ltb member 64) (list_any (lacks_member xs members own member) (range_with_len 0 (size_in members))) e in
    let found = any_at (lacks_member xs members own member) (range_with_len 0 (size_in members)) parts.1 in
    let both = and_parts (needs own.sig (size_in members) member found.1) (peer_is_late xs own (slice_get members found.1)) found.3 in
    let same : size_in members ≡ length members = sized own.sig members member found.1 both.0 in
    record {
      other = found.1;
      low = subst (λ n. found.1 < n) same (range_low (size_in members) found.0 found.1 found.2);
      awaited = (λ z. is z own.sig (sym same z) member found.1) ∙ both.0;
      late = both.1;
    }
found_by hears (Hears tables) is xs members own member e =
    let table = any_at (lacks_heard xs members own member) tables.items e in
    let parts = and_parts (is_of own.sig (length members) table.1)
    (list_any (lacks_told xs members own member table.1) (range_with_len 0 (length members))) table.3 in
    let of = of_is own.sig (length members) table.1 parts.0 in
    let found = any_at (lacks_told xs members own member table.1) (range_with_len 0 (length members)) parts.1 in
    let both = and_parts (is_yes (says table.1 member found.1)) (peer_is_late xs own (slice_get members found.1)) found.3 in
    let low : found.1 < length members = range_low (length members) found.0 found.1 found.2 in
    record {
      other = found.1;
      low = low;
      awaited = (λ z. hears (sym of.0 z) (sym of.1 z) member found.1)
          ∙ (some_at (AreTrue hears) (slice_get tables.items table.0) table.1 (is table.0) table.2).said member found.1 true
          (subst (λ n. found.1 < n) (sym of.1) low) (yes_is (says table.1 member found.1) both.0);
      late = both.1;
    }

find_member : (hears : Hearing) (library : Library) → HearsOf hears library
    → (xs : List Stood) (members : List ℕ) (own : KnownRequest) (o : Option ℕ) → lacks_some library xs members own o ≡ true
    → (member : ℕ) × (o ≡ Some member) × Found hears xs members own member
find_member hears library is xs members own None e = absurd (false≢true e)
find_member hears library is xs members own (Some member) e = (member, refl, found_by hears library is xs members own member e)

find_group : (library : Library) (xs : List Stood) (rank : ℕ) (own : KnownRequest) (o : Option (Vec ℕ Global))
    → lacks_in library xs rank own o ≡ true → (v : Vec ℕ Global) × (o ≡ Some v) × (lacks_some library xs v.items own (member_of rank v.items) ≡ true)
find_group library xs rank own None e = absurd (false≢true e)
find_group library xs rank own (Some v) e = (v, refl, e)

-- ---- stands

module _ (h : History) (xs : List Stood) (groups : List (Vec ℕ Global)) (s : AreStood h xs) where
  abbrev pub said : ℕ → Sketch
  said = sketches (lines_of h) (stand_of xs)

  pub lines_at : (rank : ℕ) (x : Stood) → slice_get xs rank ≡ Some x → lines_of h rank ≡ commands_of h rank
  lines_at rank x some =
      let low : rank < unwrap_or h.ranks 0 = subst (λ n. rank < n) s.ranks (slice_get_within xs rank x some) in
      ap (λ (b : Bool). cond b (commands_of h rank) []) (lt-ltb rank (unwrap_or h.ranks 0) low)

  pub stood_at : (rank : ℕ) (x : Stood) → slice_get xs rank ≡ Some x → IsStood h rank x
  stood_at rank x some = some_at (IsStood h rank) (slice_get xs rank) x (s.each rank) some

  pub said_at : (rank : ℕ) (x : Stood) → slice_get xs rank ≡ Some x → IsSketch x.requests.items (said rank)
  said_at rank x some =
      let same : sketch_at (commands_of h rank) x.stand ≡ said rank = λ z. sketch_at (sym (lines_at rank x some) z) (stand_in (sym some z)) in
      subst (IsSketch x.requests.items) same (stood_at rank x some).sketched

  pub sketched_at : (rank : ℕ) (x : Stood) (q : ℕ) (own : KnownRequest) → slice_get xs rank ≡ Some x
      → slice_get x.requests.items q ≡ Some own → IsKnown (said rank) q own
  sketched_at rank x q own some at = some_at (IsKnown (said rank) q) (slice_get x.requests.items q) own ((said_at rank x some).each q) at

  late_rank : (rank : ℕ) (x : Stood) (own : KnownRequest) → slice_get xs rank ≡ Some x
      → list_all (late_at own.comm own.place own.starts) x.requests.items ≡ true → IsLate (said rank) own.comm own.place own.starts
  late_rank rank x own some late p low comm place = go (slice_get x.requests.items p) refl
    where
      go : (o : Option KnownRequest) → slice_get x.requests.items p ≡ o → (said rank).starts p < own.starts
      go None e = absurd (get_none x.requests.items p (subst (λ n. p < n) (sym (said_at rank x some).made) low) e)
      go (Some y) e =
          let t = sketched_at rank x p y some e in
          subst (λ n. n < own.starts) (sym t.starts)
          (is_late_so y.comm y.place own.comm own.place y.starts own.starts
          (all_at (late_at own.comm own.place own.starts) x.requests.items p y late e) (sym t.comm ∙ comm) (sym t.place ∙ place))

  module _ (hears : Hearing) (library : Library) (known : HearsOf hears library) (g : Setting) (same_groups : g.groups ≡ rows_view groups) where
    lacks_so : (rank : ℕ) (x : Stood) (q : ℕ) (own : KnownRequest) → slice_get xs rank ≡ Some x
        → slice_get x.requests.items q ≡ Some own → lacks library xs groups rank own ≡ true → Lacks hears g said rank q
    lacks_so rank x q own some at e =
        let t = sketched_at rank x q own some at in
        let f = find_group library xs rank own (slice_get groups own.comm) e in
        let m = find_member hears library known xs f.0.items own (member_of rank f.0.items) f.2 in
        let p = find_peer xs own (slice_get f.0.items m.2.other) m.2.late in
        let r = find_rank own (slice_get xs p.0) p.2 in
        let here : group g ((said rank).comm q) ≡ f.0.items = ap (group g) t.comm ∙ group_is g groups own.comm f.0 same_groups f.1 in
        record {
          sig = own.sig;
          sig_is = t.sig;
          member = m.0;
          member_is = ap (member_of rank) here ∙ m.1;
          other = m.2.other;
          low = subst (λ (ys : List ℕ). m.2.other < length ys) (sym here) m.2.low;
          awaited = ap (λ (ys : List ℕ). hears own.sig (length ys) m.0 m.2.other) here ∙ m.2.awaited;
          late = λ peer is. late_peer rank q own t f.0.items here m.2.other p.0 p.1 (late_rank p.0 r.0 own r.1 r.2) peer is;
        }
      where
        late_peer : (rank q : ℕ) (own : KnownRequest) → IsKnown (said rank) q own → (members : List ℕ)
            → group g ((said rank).comm q) ≡ members → (other lone : ℕ) → slice_get members other ≡ Some lone → IsLate (said lone) own.comm own.place own.starts
            → (peer : ℕ) → member_of peer (group g ((said rank).comm q)) ≡ Some other
            → IsLate (said peer) ((said rank).comm q) ((said rank).place q) ((said rank).starts q)
        late_peer rank q own t members here other lone at late peer is =
            let same : lone ≡ peer =
            sym (index_at members other lone at) ∙ (ap (λ xs. slice_index xs other) (sym here) ∙ (member_at g ((said rank).comm q) peer other is).1) in
            subst (λ r. IsLate (said r) ((said rank).comm q) ((said rank).place q) ((said rank).starts q)) same
            (λ p low comm place. subst (λ n. (said lone).starts p < n) (sym t.starts) (late p low (comm ∙ t.comm) (place ∙ t.place)))

    awaited_so : (rank : ℕ) (x : Stood) (q : ℕ) → slice_get xs rank ≡ Some x → awaited_at library xs groups x q ≡ true
        → (0 < (said rank).starts q) × Lacks hears g said rank q
    awaited_so rank x q some e = go (slice_get x.requests.items q) refl e
      where
        go : (o : Option KnownRequest) → slice_get x.requests.items q ≡ o → is_awaited library xs groups x.rank o ≡ true
            → (0 < (said rank).starts q) × Lacks hears g said rank q
        go None at e = absurd (false≢true e)
        go (Some own) at e =
            let parts = and_parts (ltb 0 own.starts) (lacks library xs groups x.rank own) e in (
              subst (λ n. 0 < n) (sym (sketched_at rank x q own some at).starts) (ltb-true 0 own.starts parts.0),
              lacks_so rank x q own some at (ap (λ r. lacks library xs groups r own) (sym (stood_at rank x some).rank_is) ∙ parts.1),
            )

    cant_so : (rank : ℕ) (x : Stood) (q : ℕ) → slice_get xs rank ≡ Some x → cant_at library xs groups x q ≡ true → CantBeDone hears g said rank q
    cant_so rank x q some e = go (slice_get x.requests.items q) refl e
      where
        either : (own : KnownRequest) → slice_get x.requests.items q ≡ Some own → (b c : Bool) → eqb own.starts 0 ≡ b
            → own.is_rested ≡ c → (b || c || lacks library xs groups x.rank own) ≡ true → CantBeDone hears g said rank q
        either own at true c is rests e = inl (inl ((sketched_at rank x q own some at).starts ∙ eqb-true own.starts 0 is))
        either own at false true is rests e = inl (inr ((sketched_at rank x q own some at).rested ∙ rests))
        either own at false false is rests e =
            inr (lacks_so rank x q own some at (ap (λ r. lacks library xs groups r own) (sym (stood_at rank x some).rank_is) ∙ e))

        go : (o : Option KnownRequest) → slice_get x.requests.items q ≡ o → cant_be_done library xs groups x.rank o ≡ true → CantBeDone hears g said rank q
        go None at e = absurd (false≢true e)
        go (Some own) at e = either own at (eqb own.starts 0) own.is_rested refl refl e

    held_so : (rank : ℕ) (x : Stood) (c : Command) → slice_get xs rank ≡ Some x → is_held_up library xs groups x c ≡ true → IsBlocked hears g said rank c
    held_so rank x (Post comm sig given) some e = absurd (false≢true e)
    held_so rank x (Init comm sig) some e = absurd (false≢true e)
    held_so rank x (Start q given) some e = absurd (false≢true e)
    held_so rank x (Wait q) some e = let a = awaited_so rank x q some e in stands.wait q a.0 a.1
    held_so rank x (Test q) some e = absurd (false≢true e)
    held_so rank x (Free q) some e = absurd (false≢true e)
    held_so rank x (WaitAny qs) some e =
        let parts = and_parts (list_any (awaited_at library xs groups x) qs) (list_all (cant_at library xs groups x) qs) e in
        let one = any_among (awaited_at library xs groups x) qs parts.0 in
        let a = awaited_so rank x one.0 some one.2 in
        stands.wait_any qs one.0 one.1 a.0 a.1 (λ q among. cant_so rank x q some (all_among (cant_at library xs groups x) qs parts.1 q among))
    held_so rank x (WaitSome qs) some e =
        let parts = and_parts (list_any (awaited_at library xs groups x) qs) (list_all (cant_at library xs groups x) qs) e in
        let one = any_among (awaited_at library xs groups x) qs parts.0 in
        let a = awaited_so rank x one.0 some one.2 in
        stands.wait_some qs one.0 one.1 a.0 a.1 (λ q among. cant_so rank x q some (all_among (cant_at library xs groups x) qs parts.1 q among))
    held_so rank x (WaitAll qs) some e =
        let one = any_among (awaited_at library xs groups x) qs e in
        let a = awaited_so rank x one.0 some one.2 in
        stands.wait_all qs one.0 one.1 a.0 a.1

    no_lines : (rank : ℕ) (c : Command) → slice_get xs rank ≡ None → slice_get (lines_of h rank) (stand_of xs rank) ≡ Some c → ⊥
    no_lines rank c none get = go (ltb rank (unwrap_or h.ranks 0)) refl get
      where
        go : (b : Bool) → ltb rank (unwrap_or h.ranks 0) ≡ b → slice_get (cond b (commands_of h rank) []) (stand_of xs rank) ≡ Some c → ⊥
        go true is get = get_none xs rank (subst (λ n. rank < n) (sym s.ranks) (ltb-true rank (unwrap_or h.ranks 0) is)) none
        go false is get = none-some c get

    pub are_closed : all_stay library xs groups ≡ true → AreClosed hears g (lines_of h) (stand_of xs)
    are_closed all rank c get = go (slice_get xs rank) refl
      where
        go : (o : Option Stood) → slice_get xs rank ≡ o → IsBlocked hears g said rank c
        go None none = absurd (no_lines rank c none get)
        go (Some x) some =
            let same : slice_get x.commands.items x.stand ≡ slice_get (lines_of h rank) (stand_of xs rank) =
            λ z. slice_get (((stood_at rank x some).commands ∙ sym (lines_at rank x some)) z) (stand_in (sym some z)) in
            let next : stays library xs groups x (Some c) ≡ true =
            ap (stays library xs groups x) (sym (same ∙ get)) ∙ all_at (rank_stays library xs groups) xs rank x all some in
            held_so rank x c some next

  are_short : list_any is_short xs ≡ true → IsShort (lines_of h) (stand_of xs)
  are_short e =
      let r = any_at is_short xs e in
      let same : length r.1.commands.items ≡ length (lines_of h r.0) = ap length ((stood_at r.0 r.1 r.2).commands ∙ sym (lines_at r.0 r.1 r.2)) in
      let low : r.1.stand < length r.1.commands.items = ltb-true r.1.stand (length r.1.commands.items) r.3 in
      (r.0, subst (λ n. stand_of xs r.0 < n) same (subst (λ o. stand_in o < length r.1.commands.items) (sym r.2) low))

-- ---- contributions

size_same : (groups : List (Vec ℕ Global)) (comm : ℕ) (o : Option (Vec ℕ Global))
    → slice_get (rows_view groups) comm ≡ option_map (λ (row : Vec ℕ Global). row.items) o → size_at o ≡ length (group_in (rows_view groups) comm)
size_same groups comm None there = ap (λ (o : Option (List ℕ)). length (unwrap_or o [])) (sym there)
size_same groups comm (Some v) there = ap (λ (o : Option (List ℕ)). length (unwrap_or o [])) (sym there)

sized_same : (groups : List (Vec ℕ Global)) (comm : ℕ) → size_at (slice_get groups comm) ≡ length (group_in (rows_view groups) comm)
sized_same groups comm = size_same groups comm (slice_get groups comm) (slice_get-map (λ (row : Vec ℕ Global). row.items) groups comm)

gives_same : (groups : List (Vec ℕ Global)) (c : Command) → gives_at groups c ≡ gives (rows_view groups) c
gives_same groups (Post comm sig given) = ap (has_elements sig) (sized_same groups comm)
gives_same groups (Init comm sig) = ap (has_elements sig) (sized_same groups comm)
gives_same groups (Start q given) = refl
gives_same groups (Wait q) = refl
gives_same groups (Test q) = refl
gives_same groups (Free q) = refl
gives_same groups (WaitAny qs) = refl
gives_same groups (WaitSome qs) = refl
gives_same groups (WaitAll qs) = refl

issues_same : (groups : List (Vec ℕ Global)) → issues_at groups ≡ issues (rows_view groups)
issues_same groups = λ z issued. gives_same groups issued.command z

pub checked : (library : Library) (h : History) (xs : List Stood) (groups : List (Vec ℕ Global)) → AreStood h xs
    → rows_view groups ≡ h.groups → all_issue library groups h.commands ≡ true → list_any is_short xs ≡ true → all_stay library xs groups ≡ true
    → AlwaysFor library h
checked Any h xs groups s same given short all = record {
  nonempty = ap (λ (f : IssuedCommand → Bool). list_all f h.commands) (sym (issues_same groups ∙ ap issues same)) ∙ given;
  stalls = λ g e. closed_stands_stall g (lines_of h) (stand_of xs) (are_closed h xs groups s needs Any refl g (e ∙ sym same) all)
      (are_short h xs groups s short);
}
checked (Hears tables) h xs groups s same given short all =
    λ hears are g e. closed_stands_stall_by hears g (lines_of h) (stand_of xs)
    (are_closed h xs groups s hears (Hears tables) are g (e ∙ sym same) all) (are_short h xs groups s short)
