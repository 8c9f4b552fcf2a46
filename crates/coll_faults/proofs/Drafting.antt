-- How patches are put into the lines of a draft, one after the other.
use Rattle.std.proofs.Common.{◌≡◌, ◌<◌, ◌≤◌, ◌+◌, ◌-◌, ℕ, zero, suc, List, [], ◌∷◌, ◌++◌, length, set, take, get_or, map, refl, ap, sym, ◌∙◌, arith}
use Rattle.std.proofs.lemmas.List.{length-map, map-set, take_more}
use denote.Ref.{Bor}
use Rattle.coll_parser.specs.Code.{texts}
use Rattle.coll_faults.specs.declared.patch.Patch.{Patch}
use Rattle.coll_faults.specs.Drafts.{put, put_all}

-- where there is no such place, nothing is put
set_beyond : {A : Type 0} (xs : List A) (k : ℕ) (v : A) → length xs ≤ k → set xs k v ≡ xs
set_beyond [] k v le = refl
set_beyond (x ∷ xs) zero v le = absurd (omega arith)
set_beyond {A} (x ∷ xs) (suc k) v le = ap (λ (rest : List A). x ∷ rest) (set_beyond xs k v (omega arith))

put_all-append : (lines : List (List ℕ)) (patches : List Patch) (last : Patch) → put_all lines (patches ++ last ∷ []) ≡ put (put_all lines patches) last
put_all-append lines [] last = refl
put_all-append lines (patch ∷ patches) last = put_all-append (put lines patch) patches last

-- the first patches, and the next
pub put_all-more : (lines : List (List ℕ)) (patches : List Patch) (i : ℕ) (next : Patch) → i < length patches → next ≡ get_or patches i next
    → put_all lines (take (i + 1) patches) ≡ put (put_all lines (take i patches)) next
put_all-more lines patches i next lt there =
    ap (put_all lines) (take_more patches i next lt ∙ ap (λ (p : Patch). take i patches ++ p ∷ []) (sym there))
    ∙ put_all-append lines (take i patches) next

-- a borrowed line is put
texts-set : (lines : List (Bor (List ℕ))) (k : ℕ) (line : Bor (List ℕ)) → texts (set lines k line) ≡ set (texts lines) k line.now
texts-set lines k line = map-set (λ (word : Bor (List ℕ)). word.now) lines k line

pub texts_put : (lines : List (Bor (List ℕ))) (k : ℕ) (line : Bor (List ℕ)) (patch : Patch) → k ≡ patch.line - 1 → line.now ≡ patch.block.items
    → texts (set lines k line) ≡ put (texts lines) patch
texts_put lines k line patch at is =
    texts-set lines k line
    ∙ (ap (λ (i : ℕ). set (texts lines) i line.now) at ∙ ap (λ (block : List ℕ). set (texts lines) (patch.line - 1) block) is)

-- there is no such line
pub put_beyond : (lines : List (Bor (List ℕ))) (k : ℕ) (patch : Patch) → k ≡ patch.line - 1 → length lines ≤ k → texts lines ≡ put (texts lines) patch
put_beyond lines k patch at beyond =
    sym (set_beyond (texts lines) (patch.line - 1) patch.block.items
    (let mapped = length-map lines (λ (word : Bor (List ℕ)). word.now) in omega (arith, mapped, at, beyond)))
