-- Which of its kind the trace's last entry names.
use Rattle.std.proofs.Common.{◌≡◌, ◌+◌, ◌-◌, ℕ, List, [], ◌∷◌, ◌++◌, length, Some, slice_get, sym, ap, ◌∙◌, refl, arith}
use Rattle.std.specs.Prelude.{option_map, unwrap_or}
use Rattle.std.proofs.lemmas.List.{length-append, length-map}
use Rattle.std.proofs.lemmas.Option.{slice_get-map}
use Rattle.coll_kinds.specs.declared.signature.Signature.{Signature}
use Rattle.coll_kinds.specs.declared.ticket.Ticket.{Ticket}
use Rattle.coll_machine.specs.Entries.{Entry, Posted, Started}
use Rattle.coll_report.specs.declared.entry.Entry as rust_entry
use Rattle.coll_report.specs.Views.{seen, trace_seen}
use Rattle.coll_traced.specs.Places.{IsLast, NamesLast, place_in}

-- what stands after a list is found at its length
slice_get-behind : (xs : List Entry) (e : Entry) → slice_get (xs ++ e ∷ []) (length xs) ≡ Some e
slice_get-behind [] e = refl
slice_get-behind (x ∷ xs) e = slice_get-behind xs e

-- the last of the code's entries is the last entry
pub seen-last : (es : List rust_entry.Entry) (before : List Entry) (e : Entry) (x : rust_entry.Entry)
    → trace_seen es ≡ before ++ e ∷ [] → Some x ≡ slice_get es (length es - 1) → seen x ≡ e
seen-last es before e x is at =
    let long : length es ≡ length before + 1 = sym (length-map es seen) ∙ ap length is ∙ length-append before (e ∷ []) in
    let place : length es - 1 ≡ length before = omega arith in
    let found : Some (seen x) ≡ Some e =
    ap (λ o. option_map seen o) at ∙ sym (slice_get-map seen es (length es - 1))
    ∙ ap (λ k. slice_get (trace_seen es) k) place ∙ ap (λ l. slice_get l (length before)) is ∙ slice_get-behind before e in
    ap (λ o. unwrap_or o e) found

-- an entry that is made of the same again is the last entry
pub last_posted : (es before : List Entry) (e : Entry) (rank : ℕ) (t : Ticket) (comm at place : ℕ) (is sig : Signature) (are bytes : List ℕ)
    → es ≡ before ++ e ∷ [] → e ≡ Posted rank t comm at is are → NamesLast es place → sig ≡ is → bytes ≡ are → IsLast es (Posted rank t comm place sig bytes)
last_posted es before e rank t comm at place is sig are bytes last made names sig_is bytes_are =
    let place_is : place ≡ at = names before e last ∙ ap place_in made in
    let again : Posted rank t comm place sig bytes ≡ Posted rank t comm at is are = λ z. Posted rank t comm (place_is z) (sig_is z) (bytes_are z) in
    (before, last ∙ ap (λ (x : Entry). before ++ x ∷ []) (made ∙ sym again))

pub last_started : (es before : List Entry) (e : Entry) (rank : ℕ) (t : Ticket) (at start : ℕ) (are bytes : List ℕ)
    → es ≡ before ++ e ∷ [] → e ≡ Started rank t at are → NamesLast es start → bytes ≡ are → IsLast es (Started rank t start bytes)
last_started es before e rank t at start are bytes last made names bytes_are =
    let start_is : start ≡ at = names before e last ∙ ap place_in made in
    let again : Started rank t start bytes ≡ Started rank t at are = λ z. Started rank t (start_is z) (bytes_are z) in
    (before, last ∙ ap (λ (x : Entry). before ++ x ∷ []) (made ∙ sym again))
