-- What is kept of a section goes on to say what its commands say.
use Rattle.std.proofs.Common.{◌≡◌, ◌≢◌, ℕ, zero, suc, ◌+◌, ◌<◌, ◌≤◌, Bool, true, false, cond, not, ◌&&◌, ◌||◌, eqb, List, [], ◌∷◌, ◌++◌, length, map}
use Rattle.std.proofs.Common.{set, get_or, refl, sym, ap, ◌∙◌, arith, inl, inr}
use Rattle.std.specs.Prelude.{IfSome, Option, Some, None, slice_get, filter, nat_lt}
use Rattle.std.specs.List.{list_any, range_with_len, AllByRecursion}
use Rattle.std.specs.Option.{option_map}
use Rattle.std.proofs.lemmas.Bool.{cases_eq, eq-eqb, ne_eqb, le-ltb, lt-ltb}
use Rattle.std.proofs.lemmas.List.{append-nil, length-append, length-set, map-append}
use Rattle.std.proofs.lemmas.Option.{get_or_from_slice_get, slice_get_within}
use Rattle.std.proofs.lemmas.List.Sums.{fold-append}
use Rattle.std.proofs.lemmas.List.Folds.{list_any-append}
use Rattle.std.proofs.lemmas.List.Elements.{filter-append, filter_map-append}
use Rattle.coll_parser.specs.declared.command.Command.{Command}
use Rattle.coll_parser.specs.declared.command.Command.TheVariants.{Post, Init, Start, Wait, Test, Free, WaitAny, WaitSome, WaitAll}
use Rattle.coll_parser.specs.declared.section.SectionEntry.{SectionEntry}
use Rattle.coll_parser.specs.declared.section.Section.{Section}
use Rattle.coll_kinds.specs.Groups.{is_among}
use Rattle.coll_parser.specs.Histories.{Posting, posting, postings, issued_by, starts, frees, waits_for, may_be_active}
use Rattle.coll_parser.specs.Code.{posting_view, IsKeptOf, IsKept}
use Rattle.coll_parser.specs.declared.issued_command.IssuedCommand.{IssuedCommand}

-- ---- no command

pub IsKept-none : (section : Section) → section.entries.items ≡ [] → section.waited ≡ 0 → IsKept 1 [] section
IsKept-none section none zeroth = record {
  posted = rw none refl;
  earlier = omega (arith, zeroth);
  each = λ q. rw none tt;
  unmade = λ q le. (refl, refl);
}

-- ---- one command more

pub active-more : (q : ℕ) (commands : List Command) (c : Command)
    → may_be_active q (commands ++ c ∷ []) ≡ (starts q c || (may_be_active q commands && not (waits_for q c)))
active-more q commands c = fold-append _ false commands (c ∷ [])

or-false : (b : Bool) → (b || false) ≡ b
or-false true = refl
or-false false = refl

and-true : (b : Bool) → (b && true) ≡ b
and-true true = refl
and-true false = refl

or-true : (b : Bool) → (b || true) ≡ true
or-true true = refl
or-true false = refl

and-false : (b : Bool) → (b && false) ≡ false
and-false true = refl
and-false false = refl

pub freed-more : (q : ℕ) (commands : List Command) (c : Command) → list_any (frees q) (commands ++ c ∷ []) ≡ (list_any (frees q) commands || frees q c)
freed-more q commands c = list_any-append (frees q) commands (c ∷ []) ∙ ap (λ b. list_any (frees q) commands || b) (or-false (frees q c))

pub posted-more : (commands : List Command) (c : Command) → posting c ≡ None → postings (commands ++ c ∷ []) ≡ postings commands
posted-more commands c none = filter_map-append posting commands (c ∷ []) ∙ rw none (append-nil (postings commands))

-- a command that says nothing of a request
pub record SaysNothing (q : ℕ) (c : Command) : Type 0 where
  pub starts : starts q c ≡ false
  pub waits : waits_for q c ≡ false
  pub frees : frees q c ≡ false

active-same : (q : ℕ) (commands : List Command) (c : Command) → SaysNothing q c → may_be_active q (commands ++ c ∷ []) ≡ may_be_active q commands
active-same q commands c says = active-more q commands c ∙ rw (says.starts, says.waits) (and-true (may_be_active q commands))

freed-same : (q : ℕ) (commands : List Command) (c : Command) → frees q c ≡ false → list_any (frees q) (commands ++ c ∷ []) ≡ list_any (frees q) commands
freed-same q commands c none = freed-more q commands c ∙ rw none (or-false (list_any (frees q) commands))

later : (next waited q : ℕ) (commands : List Command) (c : Command) (p : SectionEntry) → SaysNothing q c
    → IsKeptOf next waited commands q p → IsKeptOf (next + 1) waited (commands ++ c ∷ []) q p
later next waited q commands c p says is = record {
  earlier = omega (arith, is.earlier);
  active = is.active ∙ sym (active-same q commands c says);
  freed = is.freed ∙ sym (freed-same q commands c says.frees);
}

-- ---- an entry more or less

pub IfSome-weaker : {X : Type 0} (o : Option X) (P Q : X → Type 0) → ((x : X) → o ≡ Some x → P x → Q x) → IfSome o P → IfSome o Q
IfSome-weaker None P Q f h = tt
IfSome-weaker (Some x) P Q f h = f x refl h

-- what holds at each place of a list with one element set
pub each-set : {X : Type 0} (P Q : ℕ → X → Type 0) (xs : List X) (k : ℕ) (y : X)
    → ((x : X) → slice_get xs k ≡ Some x → P k x → Q k y) → ((j : ℕ) (x : X) → j ≢ k → P j x → Q j x)
    → ((j : ℕ) → IfSome (slice_get xs j) (P j)) → (j : ℕ) → IfSome (slice_get (set xs k y) j) (Q j)
each-set P Q [] k y here others h j = tt
each-set P Q (x ∷ xs) zero y here others h zero = here x refl (h zero)
each-set P Q (x ∷ xs) zero y here others h (suc j) = IfSome-weaker (slice_get xs j) (P (suc j)) (Q (suc j)) (λ z e p. others (suc j) z (λ e. cc) p) (h (suc j))
each-set P Q (x ∷ xs) (suc k) y here others h zero = others zero x (λ e. cc) (h zero)
each-set P Q (x ∷ xs) (suc k) y here others h (suc j) =
    each-set (λ i. P (suc i)) (λ i. Q (suc i)) xs k y here (λ i z ne p. others (suc i) z (λ e. ne cc) p) (λ i. h (suc i)) j

map-set_same : {X Y : Type 0} (view : X → Y) (xs : List X) (k : ℕ) (y d : X) → k < length xs → view y ≡ view (get_or xs k d)
    → map view (set xs k y) ≡ map view xs
map-set_same view [] k y d lt e = refl
map-set_same {X} {Y} view (x ∷ xs) zero y d lt e = ap (λ (v : Y). v ∷ map view xs) e
map-set_same {X} {Y} view (x ∷ xs) (suc k) y d lt e = ap (λ (vs : List Y). view x ∷ vs) (map-set_same view xs k y d (omega arith) e)

eqb-other : (a b : ℕ) → a ≢ b → eqb a b ≡ false
eqb-other a b ne = ne_eqb a b ne

-- ---- the commands that a section notes

Start-others : (q j : ℕ) (given : List ℕ) → j ≢ q → SaysNothing j (Start q given)
Start-others q j given ne = record { starts = eqb-other q j (λ e. ne (sym e)); waits = refl; frees = refl }

Free-others : (q j : ℕ) → j ≢ q → SaysNothing j (Free q)
Free-others q j ne = record { starts = refl; waits = refl; frees = eqb-other q j (λ e. ne (sym e)) }

Wait-others : (q j : ℕ) → j ≢ q → SaysNothing j (Wait q)
Wait-others q j ne = record { starts = refl; waits = eqb-other q j (λ e. ne (sym e)); frees = refl }

eqb-self : (n : ℕ) → eqb n n ≡ true
eqb-self n = eq-eqb n n refl

unmade-more : (n : ℕ) (commands : List Command) (c : Command) → ((q : ℕ) → n ≤ q → SaysNothing q c)
    → ((q : ℕ) → n ≤ q → (may_be_active q commands ≡ false) × (list_any (frees q) commands ≡ false)) → (q : ℕ) → n ≤ q
    → (may_be_active q (commands ++ c ∷ []) ≡ false) × (list_any (frees q) (commands ++ c ∷ []) ≡ false)
unmade-more n commands c says unmade q le =
    (active-same q commands c (says q le) ∙ (unmade q le).0, freed-same q commands c (says q le).frees ∙ (unmade q le).1)

-- what an entry becomes: only since may change
pub record Becomes (old new : SectionEntry) (line : ℕ) : Type 0 where
  pub same : posting_view new ≡ posting_view old
  pub freed : new.freed ≡ old.freed
  pub since : new.since ≡ line

module _ (line q : ℕ) (commands : List Command) (section new : Section) (p d : SectionEntry)
    (lt : q < length section.entries.items) (is : IsKept line commands section) (waited : new.waited ≡ section.waited)
    (items : new.entries.items ≡ set section.entries.items q p) where
  -- one entry is changed, by a command that says nothing of other requests
  one-kept : (c : Command) → posting c ≡ None → ((j : ℕ) → j ≢ q → SaysNothing j c) → posting_view p ≡ posting_view (get_or section.entries.items q d)
      → ((x : SectionEntry) → slice_get section.entries.items q ≡ Some x → IsKeptOf line section.waited commands q x
      → IsKeptOf (line + 1) section.waited (commands ++ c ∷ []) q p)
      → IsKept (line + 1) (commands ++ c ∷ []) new
  one-kept c none says same here = record {
    posted = ap (map posting_view) items ∙ map-set_same posting_view section.entries.items q p d lt same ∙ is.posted ∙ sym (posted-more commands c none);
    earlier = omega (arith, is.earlier, waited);
    each = λ j.
        rw (items, waited)
        (each-set (IsKeptOf line section.waited commands) (IsKeptOf (line + 1) section.waited (commands ++ c ∷ [])) section.entries.items q p here
        (λ k x ne kept. later line section.waited k commands c x (says k ne) kept) is.each j);
    unmade = λ j le.
        let long : length section.entries.items ≤ j = omega (arith, ap length items, length-set section.entries.items q p, le) in
        unmade-more (length section.entries.items) commands c (λ k far. says k (λ e. omega (arith, far, lt, e))) is.unmade j long;
  }

  pub start-kept : (given : List ℕ) → Becomes (get_or section.entries.items q d) p line → IsKept (line + 1) (commands ++ Start q given ∷ []) new
  start-kept given becomes =
      one-kept (Start q given) refl (λ j ne. Start-others q j given ne) becomes.same
      (λ x at kept.
      let above : nat_lt section.waited p.since ≡ true = rw becomes.since (lt-ltb section.waited line is.earlier) in
      let started : may_be_active q (commands ++ Start q given ∷ []) ≡ true =
      active-more q commands (Start q given) ∙ ap (λ b. b || (may_be_active q commands && true)) (eqb-self q) in
      record {
        earlier = omega (arith, becomes.since);
        active = above ∙ sym started;
        freed = becomes.freed ∙ ap (λ (z : SectionEntry). z.freed) (get_or_from_slice_get section.entries.items q x d at)
            ∙ kept.freed ∙ sym (freed-same q commands (Start q given) refl);
      })

  pub wait-kept : Becomes (get_or section.entries.items q d) p 0 → IsKept (line + 1) (commands ++ Wait q ∷ []) new
  wait-kept becomes =
      one-kept (Wait q) refl (λ j ne. Wait-others q j ne) becomes.same
      (λ x at kept.
      let below : nat_lt section.waited p.since ≡ false = rw becomes.since (le-ltb section.waited 0 (omega arith)) in
      let waited_for : may_be_active q (commands ++ Wait q ∷ []) ≡ false =
      active-more q commands (Wait q) ∙ ap (λ b. may_be_active q commands && not b) (eqb-self q) ∙ and-false (may_be_active q commands) in
      record {
        earlier = omega (arith, becomes.since);
        active = below ∙ sym waited_for;
        freed = becomes.freed ∙ ap (λ (z : SectionEntry). z.freed) (get_or_from_slice_get section.entries.items q x d at)
            ∙ kept.freed ∙ sym (freed-same q commands (Wait q) refl);
      })

  pub free-kept : posting_view p ≡ posting_view (get_or section.entries.items q d)
      → p.since ≡ (get_or section.entries.items q d).since → p.freed ≡ true → IsKept (line + 1) (commands ++ Free q ∷ []) new
  free-kept same since freed =
      one-kept (Free q) refl (λ j ne. Free-others q j ne) same
      (λ x at kept.
      let old : p.since ≡ x.since = since ∙ ap (λ (z : SectionEntry). z.since) (get_or_from_slice_get section.entries.items q x d at) in
      record {
        earlier = omega (arith, old, kept.earlier);
        active = ap (λ n. nat_lt section.waited n) old ∙ kept.active ∙ sym (active-more q commands (Free q) ∙ and-true (may_be_active q commands));
        freed = freed ∙ sym (freed-more q commands (Free q) ∙ ap (λ b. list_any (frees q) commands || b) (eqb-self q) ∙ or-true (list_any (frees q) commands));
      })

-- ---- a wait for all

is_among-range : (a n q : ℕ) → a ≤ q → q < a + n → is_among q (range_with_len a n) ≡ true
is_among-range a zero q le lt = absurd (omega arith)
is_among-range a (suc n) q le lt =
    elim (cases_eq a q) [
      | inl e ↦ rw (eq-eqb a q e) refl
      | inr ne ↦ rw (ne_eqb a q ne, is_among-range (a + 1) n q (omega (arith, ne)) (omega arith)) refl
    ]

not_among-range : (a n q : ℕ) → a + n ≤ q → is_among q (range_with_len a n) ≡ false
not_among-range a zero q le = refl
not_among-range a (suc n) q le = rw (ne_eqb a q (λ e. omega (arith, e)), not_among-range (a + 1) n q (omega arith)) refl

pub wait_all-kept : (line : ℕ) (commands : List Command) (section : Section) → IsKept line commands section
    → IsKept (line + 1) (commands ++ WaitAll (range_with_len 0 (length section.entries.items)) ∷ []) (record section { waited = line })
wait_all-kept line commands section is =
    let n = length section.entries.items in
    let c = WaitAll (range_with_len 0 n) in
    record {
      posted = is.posted ∙ sym (posted-more commands c refl);
      earlier = omega arith;
      each = λ q.
          IfSome-weaker (slice_get section.entries.items q) (IsKeptOf line section.waited commands q) (IsKeptOf (line + 1) line (commands ++ c ∷ []) q)
          (λ p at kept.
          let known : q < n = slice_get_within section.entries.items q p at in
          record {
            earlier = omega (arith, kept.earlier);
            active = le-ltb line p.since (omega (arith, kept.earlier))
                ∙ sym (active-more q commands c ∙ rw (is_among-range 0 n q (omega arith) (omega arith)) (and-false (may_be_active q commands)));
            freed = kept.freed ∙ sym (freed-same q commands c refl);
          })
          (is.each q);
      unmade = unmade-more n commands c (λ q far. record { starts = refl; waits = not_among-range 0 n q (omega arith); frees = refl }) is.unmade;
    }

-- ---- a command that says nothing of any request

pub nothing-kept : (line : ℕ) (commands : List Command) (section : Section) (c : Command) → posting c ≡ None
    → ((q : ℕ) → SaysNothing q c) → IsKept line commands section → IsKept (line + 1) (commands ++ c ∷ []) section
nothing-kept line commands section c none says is = record {
  posted = is.posted ∙ sym (posted-more commands c none);
  earlier = omega (arith, is.earlier);
  each = λ q.
      IfSome-weaker (slice_get section.entries.items q) (IsKeptOf line section.waited commands q) (IsKeptOf (line + 1) section.waited (commands ++ c ∷ []) q)
      (λ p at kept. later line section.waited q commands c p (says q) kept) (is.each q);
  unmade = unmade-more (length section.entries.items) commands c (λ q le. says q) is.unmade;
}

-- ---- a request that is made

posting-says : (q : ℕ) (c : Command) (p : Posting) → posting c ≡ Some p → SaysNothing q c
posting-says q (Post comm sig given) p e = record { starts = refl; waits = refl; frees = refl }
posting-says q (Init comm sig) p e = record { starts = refl; waits = refl; frees = refl }
posting-says q (Start r given) p e = absurd cc
posting-says q (Wait r) p e = absurd cc
posting-says q (Test r) p e = absurd cc
posting-says q (Free r) p e = absurd cc
posting-says q (WaitAny qs) p e = absurd cc
posting-says q (WaitSome qs) p e = absurd cc
posting-says q (WaitAll qs) p e = absurd cc

each-push : {X : Type 0} (P Q : ℕ → X → Type 0) (xs : List X) (y : X) → ((i : ℕ) (x : X) → P i x → Q i x) → Q (length xs) y
    → ((i : ℕ) → IfSome (slice_get xs i) (P i)) → (i : ℕ) → IfSome (slice_get (xs ++ y ∷ []) i) (Q i)
each-push P Q [] y weaker here each zero = here
each-push P Q [] y weaker here each (suc i) = tt
each-push P Q (x ∷ xs) y weaker here each zero = weaker 0 x (each 0)
each-push P Q (x ∷ xs) y weaker here each (suc i) = each-push (λ k. P (suc k)) (λ k. Q (suc k)) xs y (λ k z p. weaker (suc k) z p) here (λ k. each (suc k)) i

pub made-kept : (line : ℕ) (commands : List Command) (section new : Section) (c : Command) (p : SectionEntry)
    → posting c ≡ Some (posting_view p) → p.since ≡ 0 → p.freed ≡ false → new.waited ≡ section.waited → new.entries.items ≡ section.entries.items ++ p ∷ []
    → IsKept line commands section → IsKept (line + 1) (commands ++ c ∷ []) new
made-kept line commands section new c p posts since freed waited items is =
    let n = length section.entries.items in
    let says : (q : ℕ) → SaysNothing q c = λ q. posting-says q c (posting_view p) posts in
    let grown : postings (commands ++ c ∷ []) ≡ postings commands ++ posting_view p ∷ [] = filter_map-append posting commands (c ∷ []) ∙ rw posts refl in
    record {
      posted = ap (map posting_view) items ∙ map-append posting_view section.entries.items (p ∷ [])
          ∙ ap (λ (ps : List Posting). ps ++ posting_view p ∷ []) is.posted ∙ sym grown;
      earlier = omega (arith, is.earlier, waited);
      each = rw (items, waited)
          (each-push (IsKeptOf line section.waited commands) (IsKeptOf (line + 1) section.waited (commands ++ c ∷ [])) section.entries.items p
          (λ q x kept. later line section.waited q commands c x (says q) kept)
          (record {
            earlier = omega (arith, since);
            active = ap (λ m. nat_lt section.waited m) since ∙ le-ltb section.waited 0 (omega arith)
                ∙ sym (active-same n commands c (says n) ∙ (is.unmade n (omega arith)).0);
            freed = freed ∙ sym (freed-same n commands c (says n).frees ∙ (is.unmade n (omega arith)).1);
          })
          is.each);
      unmade = λ q le. unmade-more n commands c (λ k far. says k) is.unmade q
          (omega (arith, le, ap length items, length-append section.entries.items (p ∷ [])));
    }

-- ---- a wait for several requests

-- an entry after a wait for these requests
abbrev pub waited_by : List ℕ → ℕ → SectionEntry → SectionEntry
waited_by qs q p = cond (is_among q qs) (record p { since = 0 }) p

-- the entries after a wait for these requests
abbrev pub AreWaited : List ℕ → List SectionEntry → List SectionEntry → Type 0
AreWaited qs old new = (length new ≡ length old) × ((q : ℕ) → slice_get new q ≡ option_map (waited_by qs q) (slice_get old q))

waited-posting : (b : Bool) (p : SectionEntry) → posting_view (cond b (record p { since = 0 }) p) ≡ posting_view p
waited-posting true p = refl
waited-posting false p = refl

map-pointwise : {X Y : Type 0} (view : X → Y) (f : ℕ → X → X) (old new : List X) → ((k : ℕ) (x : X) → view (f k x) ≡ view x)
    → ((q : ℕ) → slice_get new q ≡ option_map (f q) (slice_get old q)) → map view new ≡ map view old
map-pointwise view f [] [] same each = refl
map-pointwise view f [] (y ∷ new) same each = absurd (let none : Some y ≡ None = each 0 in cc)
map-pointwise view f (x ∷ old) [] same each = absurd (let none : None ≡ Some (f 0 x) = each 0 in cc)
map-pointwise {X} {Y} view f (x ∷ old) (y ∷ new) same each =
    let first : Some y ≡ Some (f 0 x) = each 0 in
    let here : y ≡ f 0 x = cc in
    ap (λ (v : Y). v ∷ map view new) (ap view here ∙ same 0 x)
    ∙ ap (λ (vs : List Y). view x ∷ vs) (map-pointwise view (λ k. f (suc k)) old new (λ k z. same (suc k) z) (λ k. each (suc k)))

WaitAll-says : (q : ℕ) (qs : List ℕ) → is_among q qs ≡ false → SaysNothing q (WaitAll qs)
WaitAll-says q qs none = record { starts = refl; waits = none; frees = refl }

waited-entry : (line waited q : ℕ) (commands : List Command) (qs : List ℕ) (p : SectionEntry) (b : Bool) → is_among q qs ≡ b
    → IsKeptOf line waited commands q p → IsKeptOf (line + 1) waited (commands ++ WaitAll qs ∷ []) q (cond b (record p { since = 0 }) p)
waited-entry line waited q commands qs p true named kept = record {
  earlier = omega arith;
  active = le-ltb waited 0 (omega arith) ∙ sym (active-more q commands (WaitAll qs) ∙ rw named (and-false (may_be_active q commands)));
  freed = kept.freed ∙ sym (freed-same q commands (WaitAll qs) refl);
}
waited-entry line waited q commands qs p false named kept = later line waited q commands (WaitAll qs) p (WaitAll-says q qs named) kept

IfSome-option_map : {X : Type 0} (f : X → X) (o : Option X) (P Q : X → Type 0) → ((x : X) → P x → Q (f x)) → IfSome o P → IfSome (option_map f o) Q
IfSome-option_map f None P Q g h = tt
IfSome-option_map f (Some x) P Q g h = g x h

among-below : (n q : ℕ) (qs : List ℕ) → AllByRecursion (λ k. k < n) qs → n ≤ q → is_among q qs ≡ false
among-below n q [] are le = refl
among-below n q (k ∷ qs) are le = rw (ne_eqb k q (λ e. omega (arith, e, are.0, le))) (among-below n q qs are.1 le)

pub wait_each-kept : (line : ℕ) (commands : List Command) (section new : Section) (qs : List ℕ)
    → AllByRecursion (λ q. q < length section.entries.items) qs → new.waited ≡ section.waited → AreWaited qs section.entries.items new.entries.items
    → IsKept line commands section → IsKept (line + 1) (commands ++ WaitAll qs ∷ []) new
wait_each-kept line commands section new qs below waited are is = record {
  posted = map-pointwise posting_view (waited_by qs) section.entries.items new.entries.items (λ k p. waited-posting (is_among k qs) p) are.1
      ∙ is.posted ∙ sym (posted-more commands (WaitAll qs) refl);
  earlier = omega (arith, is.earlier, waited);
  each = λ q.
      rw (are.1 q, waited)
      (IfSome-option_map (waited_by qs q) (slice_get section.entries.items q) (IsKeptOf line section.waited commands q)
      (IsKeptOf (line + 1) section.waited (commands ++ WaitAll qs ∷ []) q)
      (λ p kept. waited-entry line section.waited q commands qs p (is_among q qs) refl kept) (is.each q));
  unmade = λ q le. unmade-more (length section.entries.items) commands (WaitAll qs)
      (λ k far. WaitAll-says k qs (among-below (length section.entries.items) k qs below far)) is.unmade q (omega (arith, le, are.0));
}

-- ---- all sections

-- another rank's line
pub kept-later : (next : ℕ) (commands : List Command) (section : Section) → IsKept next commands section → IsKept (next + 1) commands section
kept-later next commands section is = record {
  posted = is.posted;
  earlier = omega (arith, is.earlier);
  each = λ q.
      IfSome-weaker (slice_get section.entries.items q) (IsKeptOf next section.waited commands q) (IsKeptOf (next + 1) section.waited commands q)
      (λ p at kept. record { earlier = omega (arith, kept.earlier); active = kept.active; freed = kept.freed }) (is.each q);
  unmade = is.unmade;
}

pub issued-own : (issued : List IssuedCommand) (t : IssuedCommand) → issued_by t.rank (issued ++ t ∷ []) ≡ issued_by t.rank issued ++ t.command ∷ []
issued-own issued t =
    let own : filter (λ u. eqb u.rank t.rank) (t ∷ []) ≡ t ∷ [] = rw (eqb-self t.rank) refl in
    ap (map (λ (u : IssuedCommand). u.command))
    (filter-append (λ u. eqb u.rank t.rank) issued (t ∷ []) ∙ ap (λ (us : List IssuedCommand). filter (λ u. eqb u.rank t.rank) issued ++ us) own)
    ∙ map-append _ (filter (λ u. eqb u.rank t.rank) issued) (t ∷ [])

pub issued-other : (rank : ℕ) (issued : List IssuedCommand) (t : IssuedCommand) → rank ≢ t.rank → issued_by rank (issued ++ t ∷ []) ≡ issued_by rank issued
issued-other rank issued t ne =
    let other : filter (λ u. eqb u.rank rank) (t ∷ []) ≡ [] = rw (ne_eqb t.rank rank (λ e. ne (sym e))) refl in
    ap (map (λ (u : IssuedCommand). u.command))
    (filter-append (λ u. eqb u.rank rank) issued (t ∷ [])
    ∙ ap (λ (us : List IssuedCommand). filter (λ u. eqb u.rank rank) issued ++ us) other ∙ append-nil _)
