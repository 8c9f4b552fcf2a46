-- What reads consume, one after another.
use Rattle.std.proofs.Common.{◌≡◌, ℕ, ◌≤◌, List, [], ◌++◌, length, take, Option, Some, None, refl, ap, sym, ◌∙◌, append_assoc}
use Rattle.std.specs.Prelude.{IfSome}
use Rattle.std.specs.Io.KnownBytes.{Consumes, Keeps, IsAtEnd}
use Rattle.std.proofs.lemmas.List.{append-nil, take_at, take_all}

pub Consumes-none : (left : Option (List ℕ)) → Consumes left left []
Consumes-none None = tt
Consumes-none (Some xs) = refl

pub Consumes-more : (start middle end : Option (List ℕ)) (xs ys : List ℕ) → Consumes start middle xs → Consumes middle end ys → Consumes start end (xs ++ ys)
Consumes-more None middle end xs ys first second = tt
Consumes-more (Some a) None end xs ys first second = absurd first
Consumes-more (Some a) (Some b) None xs ys first second = absurd second
Consumes-more (Some a) (Some b) (Some c) xs ys first second = first ∙ ap (λ (rest : List ℕ). xs ++ rest) second ∙ sym (append_assoc xs ys c)

-- all that a reader has is a text of at most that length
pub take-whole : (start end : Option (List ℕ)) (text : List ℕ) (limit : ℕ) → Consumes start end text → IsAtEnd end
    → length text ≤ limit → IfSome start (λ input. text ≡ take limit input)
take-whole None end text limit consumed over short = tt
take-whole (Some a) None text limit consumed over short = absurd consumed
take-whole (Some a) (Some b) text limit consumed over short =
    let whole : a ≡ text = consumed ∙ ap (λ (rest : List ℕ). text ++ rest) over ∙ append-nil text in
    sym (ap (take limit) whole ∙ take_all limit text short)

-- a text of that length is the front of what a reader has
pub take-front : (start end : Option (List ℕ)) (text : List ℕ) (limit : ℕ) → Consumes start end text → length text ≡ limit
    → IfSome start (λ input. text ≡ take limit input)
take-front None end text limit consumed len = tt
take-front (Some a) None text limit consumed len = absurd consumed
take-front (Some a) (Some b) text limit consumed len = sym (ap (take limit) consumed ∙ take_at text b limit len)

pub Keeps-self : (held : Option (List ℕ)) → Keeps held held
Keeps-self None = tt
Keeps-self (Some xs) = refl
