-- Texts that are appended one after the other.
use Rattle.std.proofs.Common.{◌≡◌, ◌∙◌, ◌++◌, ℕ, List, Result, Ok, Err, ap, subst, append_assoc, codes}
use Rattle.std.specs.Prelude.{OnOk}
use Rattle.coll_html.specs.Pages.{member, names_text}

-- two members, of which other texts with the same bytes are known
pub named : {T E : Type 0} (r : Result T E) (out mid new program file one two : List ℕ)
    → one ≡ program → two ≡ file
    → mid ≡ out ++ member (codes "{\"program\":") one
    → OnOk r (new ≡ mid ++ member (codes ",\"file\":") two)
    → OnOk r (new ≡ out ++ names_text program file)
unfolding names_text
named (Ok done) out mid new program file one two first second before after =
    let begins = subst (λ (text : List ℕ). mid ≡ out ++ member (codes "{\"program\":") text) first before in
    let ends = subst (λ (text : List ℕ). new ≡ mid ++ member (codes ",\"file\":") text) second after in
    ends
    ∙ ap (λ (front : List ℕ). front ++ member (codes ",\"file\":") file) begins
    ∙ append_assoc out (member (codes "{\"program\":") program) (member (codes ",\"file\":") file)
named (Err why) out mid new program file one two first second before after = tt
