-- The bytes of values, one after another.
use Rattle.std.proofs.Common.{◌≡◌, ℕ, ◌+◌, ◌<◌, ◌≤◌, Bool, true, false, cond, List, [], ◌∷◌, ◌++◌, length, take, drop, get_or, refl, sym, ap, ◌∙◌}
use Rattle.std.proofs.Common.{append_assoc, Option, Some, None, Result, Ok, Err, Bor}
use Rattle.std.specs.Prelude.{pos, flat_map, is_some, unwrap_or}
use Rattle.std.specs.List.{list_all}
use Rattle.std.specs.Option.{option_map}
use Rattle.std.proofs.lemmas.List.{take_at, append-nil}
use Rattle.coll_kinds.specs.declared.datatype.Datatype.{Datatype}
use Rattle.coll_kinds.specs.Elements.{Element, whole, element_bytes, width}
use Rattle.coll_kinds.specs.Texts.{value_of, padded_bytes}
use Rattle.coll_parser.specs.declared.cause.Cause.{Cause}
use Rattle.coll_parser.specs.declared.cause.Cause.TheVariants.{BadValue}
use Rattle.coll_parser.specs.Code.{texts, valued}
use Rattle.coll_parser.specs.Reading.{and_then}
use Rattle.coll_parser.proofs.Lists.{drop-past}
use Rattle.coll_parser.proofs.Numbers.{drop-texts}
use Rattle.coll_parser.proofs.Allowed.{length-element_bytes}

-- bytes that are read already, in front of those still to be read
abbrev pub with_front : List ℕ → Result (List ℕ) Cause → Result (List ℕ) Cause
with_front front read = and_then read (λ bytes. Ok (front ++ bytes))

pub with_front-none : (read : Result (List ℕ) Cause) → with_front [] read ≡ read
with_front-none (Ok bytes) = refl
with_front-none (Err cause) = refl

value-first : (b : Bool) (front first rest : List ℕ)
    → with_front front (cond b (Ok (first ++ rest)) (Err BadValue)) ≡ with_front (front ++ first) (cond b (Ok rest) (Err BadValue))
value-first true front first rest = ap Ok (sym (append_assoc front first rest))
value-first false front first rest = refl

with_front-value : (front : List ℕ) (ty : Datatype) (word : List ℕ) (words : List (List ℕ)) (value : Element) → value_of ty word ≡ Some value
    → with_front front (valued ty (word ∷ words)) ≡ with_front (front ++ element_bytes ty value) (valued ty words)
with_front-value front ty word words value e =
    rw e (value-first (list_all (λ w. is_some (value_of ty w)) words) front (element_bytes ty value)
    (flat_map (λ w. element_bytes ty (unwrap_or (value_of ty w) (whole (pos 0)))) words))

-- the word that was read is the text of a value
pub record IsValue (ty : Datatype) (word element : List ℕ) : Type 0 where
  pub value : Element
  pub read : value_of ty word ≡ Some value
  pub bytes : take (width ty) element ≡ element_bytes ty value
  pub length : length (take (width ty) element) ≡ width ty

is_value_from : (ty : Datatype) (word element : List ℕ) (read : Option Element) → value_of ty word ≡ read
    → option_map (padded_bytes ty) read ≡ Some element → IsValue ty word element
is_value_from ty word element None e is = absurd cc
is_value_from ty word element (Some value) e is =
    let padded : padded_bytes ty value ≡ element = cc in
    let bytes : take (width ty) element ≡ element_bytes ty value =
    rw (← padded) (take_at (element_bytes ty value) _ (width ty) (length-element_bytes ty value)) in
    record { value = value; read = e; bytes = bytes; length = ap length bytes ∙ length-element_bytes ty value }

pub is_value : (ty : Datatype) (word element : List ℕ) (result : Option (List ℕ))
    → result ≡ option_map (padded_bytes ty) (value_of ty word) → result ≡ Some element → IsValue ty word element
is_value ty word element result gives is = is_value_from ty word element (value_of ty word) refl (sym gives ∙ is)

is_none_from : (ty : Datatype) (read : Option Element) → option_map (padded_bytes ty) read ≡ None → read ≡ None
is_none_from ty None e = refl
is_none_from ty (Some value) e = absurd cc

-- the next word is a value
pub with_front-more : (front : List ℕ) (ty : Datatype) (words : List (Bor (List ℕ))) (i : ℕ) (d : Bor (List ℕ))
    (element : List ℕ) (total : Result (List ℕ) Cause) → i < length words
    → IsValue ty (get_or words i d).now element → with_front front (valued ty (drop i (texts words))) ≡ total
    → with_front (front ++ take (width ty) element) (valued ty (drop (i + 1) (texts words))) ≡ total
with_front-more front ty words i d element total lt value so_far =
    rw value.bytes (sym (with_front-value front ty (get_or words i d).now (drop (i + 1) (texts words)) value.value value.read)
    ∙ ap (λ (rest : List (List ℕ)). with_front front (valued ty rest)) (sym (drop-texts words i d lt)) ∙ so_far)

-- the next word is none
pub with_front-stops : (front : List ℕ) (ty : Datatype) (words : List (Bor (List ℕ))) (i : ℕ) (d : Bor (List ℕ))
    (result : Option (List ℕ)) (total : Result (List ℕ) Cause) → i < length words
    → result ≡ option_map (padded_bytes ty) (value_of ty (get_or words i d).now) → result ≡ None
    → with_front front (valued ty (drop i (texts words))) ≡ total → total ≡ Err BadValue
with_front-stops front ty words i d result total lt gives is so_far =
    let none : value_of ty (get_or words i d).now ≡ None = is_none_from ty (value_of ty (get_or words i d).now) (sym gives ∙ is) in
    let stops : with_front front (valued ty ((get_or words i d).now ∷ drop (i + 1) (texts words))) ≡ Err BadValue = rw none refl in
    sym so_far ∙ ap (λ (rest : List (List ℕ)). with_front front (valued ty rest)) (drop-texts words i d lt) ∙ stops

-- all words are values
pub with_front-all : (front : List ℕ) (ty : Datatype) (words : List (List ℕ)) (i : ℕ) (total : Result (List ℕ) Cause)
    → length words ≤ i → with_front front (valued ty (drop i words)) ≡ total → total ≡ Ok front
with_front-all front ty words i total le e =
    let none : drop i words ≡ [] = drop-past words i le in
    sym e ∙ ap (λ (ws : List (List ℕ)). with_front front (valued ty ws)) none ∙ ap Ok (append-nil front)
