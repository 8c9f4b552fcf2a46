-- A text is cut into the lines that it was made of, and a line into its words.
use Rattle.std.proofs.Common.{◌≡◌, ℕ, ◌-◌, Bool, true, false, not, eqb, List, [], ◌∷◌, ◌++◌, length, map, refl, sym, ap, subst, ◌∙◌, append_assoc, arith}
use Rattle.std.specs.Prelude.{filter, slice_index}
use Rattle.std.specs.List.{AllByRecursion, list_all, slice_split}
use Rattle.std.specs.Char.{is_ascii_digit}
use Rattle.std.specs.Str.{all_ascii_digits}
use Rattle.std.proofs.lemmas.Bool.{eq-eqb, ne_eqb, and_parts}
use Rattle.std.proofs.lemmas.List.{take_at, length-append}
use Rattle.std.proofs.lemmas.List.Elements.{All-from_recursion}
use Rattle.std.proofs.lemmas.List.Concat.{flat_map-cons}
use Rattle.std.proofs.lemmas.List.Splits.{slice_split_none, slice_split_at}
use Rattle.coll_parser.specs.Cutting.{is_line_feed, body_of, lines_of, is_blank, words_of}
use Rattle.coll_parser.specs.Writing.{is_plain, IsWord, spaced, text_of}

not-false : (b : Bool) → not b ≡ true → b ≡ false
not-false true e = sym e
not-false false e = refl

no-blanks : (w : List ℕ) → list_all is_plain w ≡ true → AllByRecursion (λ b. is_blank b ≡ false) w
no-blanks [] e = tt
no-blanks (b ∷ w) e =
    let parts = and_parts (is_plain b) (list_all is_plain w) e in
    (not-false (is_blank b) (and_parts _ _ parts.0).0, no-blanks w parts.1)

no-feeds : (w : List ℕ) → list_all is_plain w ≡ true → AllByRecursion (λ b. is_line_feed b ≡ false) w
no-feeds [] e = tt
no-feeds (b ∷ w) e =
    let parts = and_parts (is_plain b) (list_all is_plain w) e in
    (not-false (is_line_feed b) (and_parts _ _ parts.0).1, no-feeds w parts.1)

-- ---- words

split-spaced : (w : List ℕ) (words : List (List ℕ)) → AllByRecursion IsWord (w ∷ words) → slice_split is_blank (spaced (w ∷ words)) ≡ w ∷ words
split-spaced w [] are = slice_split_none is_blank w (All-from_recursion _ w (no-blanks w are.0.plain))
split-spaced w (v ∷ words) are =
    slice_split_at is_blank w 32 (spaced (v ∷ words)) (All-from_recursion _ w (no-blanks w are.0.plain)) refl
    ∙ ap (λ (ws : List (List ℕ)). w ∷ ws) (split-spaced v words are.1)

filter-words : (words : List (List ℕ)) → AllByRecursion IsWord words → filter (λ word. not (eqb (length word) 0)) words ≡ words
filter-words [] are = refl
filter-words (w ∷ words) are =
    let some : eqb (length w) 0 ≡ false = ne_eqb (length w) 0 (λ e. omega (arith, e, are.0.some)) in
    rw some (ap (λ (ws : List (List ℕ)). w ∷ ws) (filter-words words are.1))

pub words_of-spaced : (words : List (List ℕ)) → AllByRecursion IsWord words → words_of (spaced words) ≡ words
words_of-spaced [] are = refl
words_of-spaced (w ∷ words) are = ap (filter (λ (word : List ℕ). not (eqb (length word) 0))) (split-spaced w words are) ∙ filter-words (w ∷ words) are

-- ---- lines

pub AllByRecursion-append : {X : Type 0} (P : X → Type 0) (xs ys : List X) → AllByRecursion P xs → AllByRecursion P ys → AllByRecursion P (xs ++ ys)
AllByRecursion-append P [] ys a b = b
AllByRecursion-append P (x ∷ xs) ys a b = (a.0, AllByRecursion-append P xs ys a.1 b)

spaced-feeds : (words : List (List ℕ)) → AllByRecursion IsWord words → AllByRecursion (λ b. is_line_feed b ≡ false) (spaced words)
spaced-feeds [] are = tt
spaced-feeds (w ∷ []) are = no-feeds w are.0.plain
spaced-feeds (w ∷ v ∷ words) are = AllByRecursion-append _ w (32 ∷ spaced (v ∷ words)) (no-feeds w are.0.plain) (refl, spaced-feeds (v ∷ words) are.1)

-- lines with a line feed between
abbrev joined : List (List (List ℕ)) → List ℕ
joined [] = []
joined (words ∷ []) = spaced words
joined (words ∷ next ∷ lines) = spaced words ++ 10 ∷ joined (next ∷ lines)

text_of-joined : (words : List (List ℕ)) (lines : List (List (List ℕ))) → text_of (words ∷ lines) ≡ joined (words ∷ lines) ++ 10 ∷ []
text_of-joined words [] = flat_map-cons (λ ws. spaced ws ++ 10 ∷ []) words [] ∙ append_assoc (spaced words) (10 ∷ []) []
text_of-joined words (next ∷ lines) =
    flat_map-cons (λ ws. spaced ws ++ 10 ∷ []) words (next ∷ lines) ∙ (append_assoc (spaced words) (10 ∷ []) (text_of (next ∷ lines))
    ∙ ap (λ (rest : List ℕ). spaced words ++ 10 ∷ rest) (text_of-joined next lines)) ∙ sym (append_assoc (spaced words) (10 ∷ joined (next ∷ lines)) (10 ∷ []))

last-is : (front : List ℕ) → slice_index (front ++ 10 ∷ []) (length front) ≡ 10
last-is [] = refl
last-is (x ∷ front) = last-is front

body-is : (front : List ℕ) → body_of (front ++ 10 ∷ []) ≡ front
body-is front =
    let at : length (front ++ 10 ∷ []) - 1 ≡ length front = omega (arith, length-append front (10 ∷ [])) in
    let feed : eqb (slice_index (front ++ 10 ∷ []) (length front)) 10 ≡ true = eq-eqb _ _ (last-is front) in
    rw (at, feed) (take_at front (10 ∷ []) (length front) refl)

split-joined : (words : List (List ℕ)) (lines : List (List (List ℕ))) → AllByRecursion (AllByRecursion IsWord) (words ∷ lines)
    → slice_split is_line_feed (joined (words ∷ lines)) ≡ map spaced (words ∷ lines)
split-joined words [] are = slice_split_none is_line_feed (spaced words) (All-from_recursion _ (spaced words) (spaced-feeds words are.0))
split-joined words (next ∷ lines) are =
    slice_split_at is_line_feed (spaced words) 10 (joined (next ∷ lines)) (All-from_recursion _ (spaced words) (spaced-feeds words are.0)) refl
    ∙ ap (λ (rest : List (List ℕ)). spaced words ∷ rest) (split-joined next lines are.1)

pub lines_of-text : (words : List (List ℕ)) (lines : List (List (List ℕ)))
    → AllByRecursion (AllByRecursion IsWord) (words ∷ lines) → lines_of (text_of (words ∷ lines)) ≡ map spaced (words ∷ lines)
lines_of-text words lines are =
    ap lines_of (text_of-joined words lines) ∙ ap (slice_split is_line_feed) (body-is (joined (words ∷ lines))) ∙ split-joined words lines are

-- ---- digits are no blanks

plain-digit : (c : ℕ) → is_ascii_digit c ≡ true → is_plain c ≡ true
plain-digit c digit =
    let other : (b : ℕ) → is_ascii_digit b ≡ false
    → eqb c b ≡ false = λ b none. ne_eqb c b (λ e. absurd (let both : is_ascii_digit b ≡ true = subst (λ d. is_ascii_digit d ≡ true) e digit in cc)) in
    rw (other 32 refl, other 9 refl, other 13 refl, other 10 refl) refl

pub plain-digits : (ds : List ℕ) → all_ascii_digits ds ≡ true → list_all is_plain ds ≡ true
plain-digits [] e = refl
plain-digits (c ∷ ds) e =
    let parts = and_parts (is_ascii_digit c) (all_ascii_digits ds) e in
    rw (plain-digit c parts.0, plain-digits ds parts.1) refl
