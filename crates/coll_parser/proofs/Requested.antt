-- The requests of a rank after one more line, and what holds of them.
use Rattle.std.proofs.Common.{◌≡◌, ◌≢◌, ℕ, zero, suc, ◌<◌, eqb, List, [], ◌∷◌, ◌++◌, length, map, get_or, set, refl, sym, ap, ◌∙◌, arith}
use Rattle.std.specs.Prelude.{filter, fold}
use Rattle.std.proofs.lemmas.Bool.{eq-eqb, ne_eqb}
use Rattle.std.proofs.lemmas.List.{append-nil}
use Rattle.std.proofs.lemmas.List.Sums.{fold-append}
use Rattle.std.proofs.lemmas.List.Elements.{filter-append}
use Rattle.coll_parser.specs.declared.issued_command.IssuedCommand.{IssuedCommand}
use Rattle.coll_parser.specs.Requests.{changed_at, requests_after, requests_of}

pub requests-own : (groups : List (List ℕ)) (issued : List IssuedCommand) (t : IssuedCommand)
    → requests_of groups t.rank (issued ++ t ∷ []) ≡ requests_after groups t.line t.rank t.command (requests_of groups t.rank issued)
requests-own groups issued t =
    let own : filter (λ u. eqb u.rank t.rank) (t ∷ []) ≡ t ∷ [] = rw (eq-eqb t.rank t.rank refl) refl in
    ap (λ (us : List IssuedCommand). fold (λ requests u. requests_after groups u.line u.rank u.command requests) [] us)
    (filter-append (λ u. eqb u.rank t.rank) issued (t ∷ []) ∙ ap (λ (us : List IssuedCommand). filter (λ u. eqb u.rank t.rank) issued ++ us) own)
    ∙ fold-append (λ requests u. requests_after groups u.line u.rank u.command requests) [] (filter (λ u. eqb u.rank t.rank) issued) (t ∷ [])

pub requests-other : (groups : List (List ℕ)) (rank : ℕ) (issued : List IssuedCommand) (t : IssuedCommand) → rank ≢ t.rank
    → requests_of groups rank (issued ++ t ∷ []) ≡ requests_of groups rank issued
requests-other groups rank issued t ne =
    let other : filter (λ u. eqb u.rank rank) (t ∷ []) ≡ [] = rw (ne_eqb t.rank rank (λ e. ne (sym e))) refl in
    ap (λ (us : List IssuedCommand). fold (λ requests u. requests_after groups u.line u.rank u.command requests) [] us)
    (filter-append (λ u. eqb u.rank rank) issued (t ∷ []) ∙ ap (λ (us : List IssuedCommand). filter (λ u. eqb u.rank rank) issued ++ us) other ∙ append-nil _)

-- a write at a place, seen in a view, is a change there
pub map-changed_at : {X Y : Type 0} (view : X → Y) (f : Y → Y) (xs : List X) (k : ℕ) (x y : X) → k < length xs
    → x ≡ get_or xs k x → view y ≡ f (view x) → map view (set xs k y) ≡ changed_at k f (map view xs)
map-changed_at view f [] k x y lt is e = absurd (omega arith)
map-changed_at {X} {Y} view f (z ∷ zs) zero x y lt is e =
    let here : view y ≡ f (view z) = e ∙ ap (λ v. f (view v)) is in
    ap (λ (v : Y). v ∷ map view zs) here
map-changed_at {X} {Y} view f (z ∷ zs) (suc k) x y lt is e = ap (λ (vs : List Y). view z ∷ vs) (map-changed_at view f zs k x y (omega arith) is e)
