-- The commands of a rank, and how many requests they make.
use Rattle.std.proofs.Common.{◌≡◌, ℕ, ◌+◌, ◌<◌, ◌≤◌, Bool, true, false, cond, eqb, List, [], ◌∷◌, ◌++◌, length, take, get_or, Option, Some, None, ap}
use Rattle.std.proofs.Common.{sym, ◌∙◌, arith}
use Rattle.std.specs.Prelude.{filter, filter_map}
use Rattle.std.specs.List.{cons_option}
use Rattle.std.proofs.lemmas.List.{length-append, length-map, length-take}
use Rattle.std.proofs.lemmas.List.Elements.{filter_map-append}
use Rattle.coll_parser.specs.declared.command.Command.{Command}
use Rattle.coll_parser.specs.declared.issued_command.IssuedCommand.{IssuedCommand}
use Rattle.coll_parser.specs.Histories.{posting, postings, issued_by}
use Rattle.coll_parser.proofs.Keeping.{issued-own, issued-other}
use Rattle.coll_parser.proofs.Soundly.{take-next}

length-filter_map : {X Y : Type 0} (f : X → Option Y) (xs : List X) → length (filter_map f xs) ≤ length xs
length-filter_map f [] = omega arith
length-filter_map {X} {Y} f (x ∷ xs) = turn (f x) (length-filter_map f xs)
  where
    turn : (o : Option Y) → length (filter_map f xs) ≤ length xs → length (cons_option o (filter_map f xs)) ≤ length (x ∷ xs)
    turn None le = omega (arith, le)
    turn (Some y) le = omega (arith, le)

length-filter : {X : Type 0} (p : X → Bool) (xs : List X) → length (filter p xs) ≤ length xs
length-filter p [] = omega arith
length-filter {X} p (x ∷ xs) = turn (p x) (length-filter p xs)
  where
    turn : (b : Bool) → length (filter p xs) ≤ length xs → length (cond b (x ∷ filter p xs) (filter p xs)) ≤ length (x ∷ xs)
    turn true le = omega (arith, le)
    turn false le = omega (arith, le)

pub length-made : (rank : ℕ) (issued : List IssuedCommand) → length (postings (issued_by rank issued)) ≤ length issued
length-made rank issued =
    let made = length-filter_map posting (issued_by rank issued) in
    let mapped = length-map (filter (λ t. eqb t.rank rank) issued) (λ (t : IssuedCommand). t.command) in
    let kept = length-filter (λ (t : IssuedCommand). eqb t.rank rank) issued in
    omega (arith, made, mapped, kept)

pub length-made-take : (rank : ℕ) (issued : List IssuedCommand) (i : ℕ) → length (postings (issued_by rank (take i issued))) ≤ i
length-made-take rank issued i =
    let made = length-made rank (take i issued) in
    let short = length-take i issued in
    omega (arith, made, short)

pub length-one : (c : Command) → length (postings (c ∷ [])) ≤ 1
length-one c = length-filter_map posting (c ∷ [])

pub issued-next-own : (issued : List IssuedCommand) (i : ℕ) (t : IssuedCommand) (rank : ℕ) → i < length issued
    → t ≡ get_or issued i t → t.rank ≡ rank → issued_by rank (take (i + 1) issued) ≡ issued_by rank (take i issued) ++ t.command ∷ []
issued-next-own issued i t rank lt is own =
    ap (issued_by rank) (take-next issued i t lt is) ∙ ap (λ r. issued_by r (take i issued ++ t ∷ [])) (sym own) ∙ issued-own (take i issued) t
    ∙ ap (λ r. issued_by r (take i issued) ++ t.command ∷ []) own

pub issued-next-other : (issued : List IssuedCommand) (i : ℕ) (t : IssuedCommand) (rank : ℕ) → i < length issued
    → t ≡ get_or issued i t → (t.rank ≡ rank → ⊥) → issued_by rank (take (i + 1) issued) ≡ issued_by rank (take i issued)
issued-next-other issued i t rank lt is ne = ap (issued_by rank) (take-next issued i t lt is) ∙ issued-other rank (take i issued) t (λ e. ne (sym e))

pub made-next : (commands : List Command) (c : Command) → length (postings (commands ++ c ∷ [])) ≡ length (postings commands) + length (postings (c ∷ []))
made-next commands c = ap length (filter_map-append posting commands (c ∷ [])) ∙ length-append (postings commands) (postings (c ∷ []))
