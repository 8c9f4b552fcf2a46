-- A place mismatch stays, whatever lines follow.
use Rattle.std.proofs.Common.{◌≡◌, ℕ, zero, suc, ◌+◌, Bool, true, false, eqb, List, [], ◌∷◌, ◌++◌, map, Option, Some, None, Ok, refl, ap, subst, sym}
use Rattle.std.proofs.Common.{◌∙◌, arith, inl, inr}
use Rattle.std.specs.Prelude.{slice_get, unwrap_or, is_some, filter, flat_map}
use Rattle.std.specs.Option.{option_map}
use Rattle.std.proofs.lemmas.Bool.{cases_lt}
use Rattle.std.proofs.lemmas.List.Elements.{filter-append}
use Rattle.std.proofs.lemmas.Option.{none-some, same_Some, slice_get-map}
use Rattle.coll_parser.specs.declared.cause.Cause.TheVariants.{PlaceMismatch}
use Rattle.coll_parser.specs.Histories.{History, Posting, beginning}
use Rattle.coll_parser.specs.Judging.{judged, fault_at}
use Rattle.coll_parser.specs.Requests.{Request, requests}
use Rattle.coll_parser.specs.Requests as history
use Rattle.coll_parser.proofs.Growing.{Grows, IsSettled, AddsTo, posting_of, judged-grows, requests-add}
use Rattle.coll_script.specs.Postings.{posted_on, requests_of, postings}
use Rattle.coll_script.specs.Matching.{mismatch, differing, earliest}
use Rattle.coll_script.specs.Jobs.{job_of, all_postings, matched, belonging}
use Rattle.coll_script.specs.Belonging.{StandsAt, Differs}
use Rattle.coll_script.proofs.Posted.{filter-map}
use Rattle.coll_script.proofs.Matches.{least-none}
use Rattle.coll_script.proofs.Differing.{Among, among-all, one-differs, first-differs}
use Rattle.coll_script.proofs.Sections.{requests_of-rank, requests_of-past, each_of}
use Rattle.coll_script.proofs.Printed.{postings_from-get}

slice_get-front : {X : Type 0} (xs ys : List X) (k : ℕ) (x : X) → slice_get xs k ≡ Some x → slice_get (xs ++ ys) k ≡ Some x
slice_get-front [] ys k x e = absurd (none-some x e)
slice_get-front (z ∷ xs) ys zero x e = e
slice_get-front (z ∷ xs) ys (suc k) x e = slice_get-front xs ys k x e

-- what stands after a view
record Behind (X Y : Type 0) (f : X → Y) (o : Option X) (y : Y) : Type 0 where
  pub x : X
  pub is : o ≡ Some x
  pub view : f x ≡ y

behind : {X Y : Type 0} (f : X → Y) (o : Option X) (y : Y) → option_map f o ≡ Some y → Behind X Y f o y
behind f None y e = absurd (none-some y e)
behind f (Some x) y e = record { x = x; is = refl; view = same_Some (f x) y e }

behind-get : {X Y : Type 0} (f : X → Y) (xs : List X) (k : ℕ) (y : Y) → slice_get (map f xs) k ≡ Some y → Behind X Y f (slice_get xs k) y
behind-get f xs k y e = behind f (slice_get xs k) y (sym (slice_get-map f xs k) ∙ e)

-- ---- one rank

posted-keys : (comm : ℕ) (rs : List Request) → map posting_of (posted_on comm rs) ≡ filter (λ (g : Posting). eqb g.comm comm) (map posting_of rs)
posted-keys comm rs = filter-map posting_of (λ (g : Posting). eqb g.comm comm) rs

kept-request : (comm : ℕ) (old new : List Request) (k : ℕ) (p : Request) → AddsTo old new
    → slice_get (posted_on comm old) k ≡ Some p → Behind Request Posting posting_of (slice_get (posted_on comm new) k) (posting_of p)
kept-request comm old new k p adds e =
    let on = λ (g : Posting). eqb g.comm comm in
    let keys : map posting_of (posted_on comm new) ≡ map posting_of (posted_on comm old) ++ filter on adds.more =
    posted-keys comm new ∙ ap (filter on) adds.parts ∙ filter-append on (map posting_of old) adds.more
    ∙ ap (λ (gs : List Posting). gs ++ filter on adds.more) (sym (posted-keys comm old)) in
    let here : slice_get (map posting_of (posted_on comm old)) k ≡ Some (posting_of p) =
    slice_get-map posting_of (posted_on comm old) k ∙ ap (option_map posting_of) e in
    behind-get posting_of (posted_on comm new) k (posting_of p)
    (ap (λ (gs : List Posting). slice_get gs k) keys ∙ slice_get-front (map posting_of (posted_on comm old)) (filter on adds.more) k (posting_of p) here)

rank-adds : (h last : History) (grows : Grows h last) → IsSettled h last → (rank : ℕ)
    → AddsTo (requests_of (requests h) rank) (requests_of (requests last) rank)
rank-adds h last grows settled rank =
    let count : unwrap_or last.ranks 0 ≡ unwrap_or h.ranks 0 = ap (λ (o : Option ℕ). unwrap_or o 0) settled.ranks in
    elim (cases_lt rank (unwrap_or h.ranks 0)) [
      | inl lt ↦ (let later : requests_of (requests last) rank ≡ history.requests_of h.groups rank (h.commands ++ grows.more) =
          requests_of-rank last rank (omega (arith, lt, count))
          ∙ ap (λ (g : List (List ℕ)). history.requests_of g rank last.commands) settled.groups ∙ ap (history.requests_of h.groups rank) grows.commands in
          subst (λ (old : List Request). AddsTo old (requests_of (requests last) rank)) (sym (requests_of-rank h rank lt))
          (subst (AddsTo (history.requests_of h.groups rank h.commands)) (sym later) (requests-add h.groups rank h.commands grows.more)))
      | inr le ↦ subst (λ (old : List Request). AddsTo old (requests_of (requests last) rank)) (sym (requests_of-past h rank le))
          (subst (AddsTo []) (sym (requests_of-past last rank (omega (arith, le, count)))) (record { more = []; parts = refl }))
    ]

-- ---- a communicator

record Stands (lists : List (List Request)) (place : ℕ) (p : Request) : Type 0 where
  pub q : Request
  pub at : StandsAt lists place q
  pub sig : q.sig ≡ p.sig

stands-kept : (h last : History) → Grows h last → IsSettled h last → (comm : ℕ) (group : List ℕ) (place : ℕ) (p : Request)
    → StandsAt (postings (requests h) comm group) place p → Stands (postings (requests last) comm group) place p
stands-kept h last grows settled comm group place p stands =
    let rank = behind-get (λ r. posted_on comm (requests_of (requests h) r)) group stands.member stands.list stands.is_list in
    let here : slice_get (posted_on comm (requests_of (requests h) rank.x)) place ≡ Some p =
    ap (λ (l : List Request). slice_get l place) rank.view ∙ stands.is_there in
    let kept = kept-request comm (requests_of (requests h) rank.x) (requests_of (requests last) rank.x) place p (rank-adds h last grows settled rank.x) here in
    record {
      q = kept.x;
      at = record {
        member = stands.member;
        list = posted_on comm (requests_of (requests last) rank.x);
        is_list = slice_get-map (λ r. posted_on comm (requests_of (requests last) r)) group stands.member
            ∙ ap (option_map (λ r. posted_on comm (requests_of (requests last) r))) rank.is;
        is_there = kept.is;
      };
      sig = ap (λ (g : Posting). g.sig) kept.view;
    }

-- one that differs in a history differs from some one there in what it grows to
still-differs : (h last : History) → Grows h last → IsSettled h last → (p : Request) → Differs (all_postings (job_of h)) p
    → mismatch (all_postings (job_of last)) ≡ None → ⊥
still-differs h last grows settled p d none =
    let comm = d.comm in
    let group = behind (postings (requests h) (0 + comm)) (slice_get h.groups comm) d.lists
    (sym (postings_from-get (requests h) 0 h.groups comm) ∙ d.is_comm) in
    let lists = postings (requests last) (0 + comm) group.x in
    let known : slice_get (all_postings (job_of last)) comm ≡ Some lists =
    postings_from-get (requests last) 0 last.groups comm
    ∙ ap (λ (g : List (List ℕ)). option_map (postings (requests last) (0 + comm)) (slice_get g comm)) settled.groups
    ∙ ap (option_map (postings (requests last) (0 + comm))) group.is in
    let one = stands-kept h last grows settled (0 + comm) group.x d.place p
    (subst (λ (l : List (List Request)). StandsAt l d.place p) (sym group.view) d.there) in
    let other = stands-kept h last grows settled (0 + comm) group.x d.place d.first
    (subst (λ (l : List (List Request)). StandsAt l d.place d.first) (sym group.view) d.earliest.there) in
    let empty = (least-none None (flat_map differing (all_postings (job_of last))) none).1 in
    elim (one-differs (earliest None d.place lists) one.q other.q (λ same. d.differs (sym one.sig ∙ same ∙ other.sig))) [
      | inl fails ↦ subst (Among one.q.line) empty (among-all (all_postings (job_of last)) comm lists d.place one.q known one.at fails)
      | inr fails ↦ subst (Among other.q.line) empty (among-all (all_postings (job_of last)) comm lists d.place other.q known other.at fails)
    ]

-- ---- the histories of lines

ends-so : (last : ℕ) (h : History) (found : Option ℕ) → mismatch (all_postings (job_of h)) ≡ found → (found ≡ None → ⊥)
    → (line : ℕ) × (belonging last h ≡ fault_at line PlaceMismatch)
ends-so last h None is some = absurd (some refl)
ends-so last h (Some line) is some = (line, ap (matched last (all_postings (job_of h)) h) is)

is-true : (b : Bool) → (b ≡ false → ⊥) → b ≡ true
is-true true fails = refl
is-true false fails = absurd (fails refl)

nothing-stands : (h : History) → h.commands ≡ [] → (comm : ℕ) (group : List ℕ) (place : ℕ) (p : Request)
    → StandsAt (postings (requests h) comm group) place p → ⊥
nothing-stands h nothing comm group place p stands =
    let rank = behind-get (λ r. posted_on comm (requests_of (requests h) r)) group stands.member stands.list stands.is_list in
    let mine : requests_of (requests h) rank.x ≡ [] = each_of (λ (l : List Request). l ≡ []) h rank.x (ap (history.requests_of h.groups rank.x) nothing) refl in
    none-some p (sym (ap (λ (l : List Request). slice_get (posted_on comm l) place) mine)
    ∙ ap (λ (l : List Request). slice_get l place) rank.view ∙ stands.is_there)

differs-issued : (h : History) (p : Request) → Differs (all_postings (job_of h)) p → h.commands ≡ [] → ⊥
differs-issued h p d nothing =
    let group = behind (postings (requests h) (0 + d.comm)) (slice_get h.groups d.comm) d.lists
    (sym (postings_from-get (requests h) 0 h.groups d.comm) ∙ d.is_comm) in
    nothing-stands h nothing (0 + d.comm) group.x d.place p (subst (λ (l : List (List Request)). StandsAt l d.place p) (sym group.view) d.there)

pub mismatch-final : (lines : List (List ℕ)) (h : History) (line number : ℕ) (more : List (List ℕ)) (next : History) (last : ℕ)
    → judged 1 beginning lines ≡ Ok h → mismatch (all_postings (job_of h)) ≡ Some line → judged number h more ≡ Ok next
    → (other : ℕ) × (belonging last next ≡ fault_at other PlaceMismatch)
mismatch-final lines h line number more next last told found follows =
    let first = first-differs (all_postings (job_of h)) line found in
    let begun = judged-grows 1 beginning h lines told in
    let opened : is_some h.opened ≡ true = is-true (is_some h.opened) (λ e. differs-issued h first.p first.differs (begun.early (λ closed. refl) e)) in
    let ranks : is_some h.ranks ≡ true =
    is-true (is_some h.ranks) (λ e. (let closed = begun.begun (λ none. refl) e in let no : true ≡ false = sym opened ∙ closed in absurd cc)) in
    let grows = judged-grows number h next more follows in
    ends-so last next (mismatch (all_postings (job_of next))) refl (λ none. still-differs h next grows (grows.settled ranks opened) first.p first.differs none)
