-- The first request of Ready, where one goes on and where another is woken.
use Rattle.std.proofs.Common.{◌≡◌, ◌≢◌, ◌∙◌, ◌<◌, ◌+◌, ◌*◌, ◌⊎◌, ◌++◌, inl, inr, ℕ, List, [], ◌∷◌, Option, Some, None, ap, refl, sym, subst, arith}
use Rattle.std.specs.Prelude.{IfSome}
use Rattle.std.proofs.lemmas.Bool.{cases_eq}
use Rattle.std.proofs.lemmas.Option.{same_Some, slice_get_within}
use Rattle.coll_kinds.proofs.Puts.{put_same}
use Rattle.coll_lists.specs.Layouts.{Layout, sequence}
use Rattle.coll_lists.specs.Moves.{taken_out}
use Rattle.coll_lists.specs.Neighbours.{first_in}
use Rattle.coll_lists.proofs.Occurrences.{sequence-moved_back}
use Rattle.coll_lists.proofs.Rings.{taken_out-other}
use Rattle.coll_lists.proofs.Walking.{first_in-append}
use Rattle.coll_arena.specs.Changes.{shifted}
use Rattle.coll_arena.specs.Lookups.{PutsSlot}
use Rattle.coll_arena.specs.Slots.{Slots, count, home}
use Rattle.coll_arena.specs.Sound.{IsSound}
use Rattle.coll_arena.proofs.Lookups.{still-out}
use Rattle.coll_core.specs.declared.request.Request.{Request}

pub if_some : (o : Option ℕ) (P : ℕ → Type 0) → ((x : ℕ) → o ≡ Some x → P x) → IfSome o P
if_some None P f = tt
if_some (Some x) P f = f x refl

first_in-taken_out : (x y : ℕ) (s : List ℕ) → y ≢ x → first_in s ≡ Some y → first_in (taken_out x s) ≡ Some y
first_in-taken_out x y [] ne e = e
first_in-taken_out x y (z ∷ rest) ne e = ap first_in (taken_out-other x z rest (λ f. ne (sym (same_Some z y e) ∙ f))) ∙ e

-- a request of Ready leaves it, or keeps its place there
pub first_stays : (a b : Slots Request) (i generation weight list : ℕ) (o : Option Request)
    → home a i ≡ 2 → PutsSlot a b i generation weight o list → (home a i ≡ list → b.lists ≡ a.lists)
    → (x : ℕ) → first_in (sequence a.lists 2) ≡ Some x → home b x ≡ 2 → first_in (sequence b.lists 2) ≡ Some x
first_stays a b i generation weight list o on puts stays x first still = go (cases_eq list 2)
  where
    other : list ≢ 2 → x ≢ i
    other away e = away (sym (ap (λ (f : ℕ → ℕ). f i) puts.homes ∙ put_same (home a) i list) ∙ (ap (home b) (sym e) ∙ still))

    go : (list ≡ 2) ⊎ (list ≡ 2 → ⊥) → first_in (sequence b.lists 2) ≡ Some x
    go (inl same) = ap (λ (l : Layout). first_in (sequence l 2)) (stays (on ∙ sym same)) ∙ first
    go (inr away) = ap first_in (puts.from 2 (λ e. away (sym e))) ∙ first_in-taken_out i x (sequence a.lists 2) (other away) first

-- a request that waits comes to the back of Ready
pub first_before : (a b : Slots Request) (i comm : ℕ) → IsSound a → home a i ≡ 5 + 3 * comm → b ≡ shifted a i 2
    → IfSome (first_in (sequence a.lists 2)) (λ x. first_in (sequence b.lists 2) ≡ Some x)
first_before a b i comm sound waits is =
    if_some (first_in (sequence a.lists 2)) _
    (λ x first. ap first_in pushed ∙ (first_in-append (sequence a.lists 2) (i ∷ []) (slice_get_within (sequence a.lists 2) 0 x first) ∙ first))
  where
    pushed : sequence b.lists 2 ≡ sequence a.lists 2 ++ i ∷ []
    pushed = ap (λ (z : Slots Request). sequence z.lists 2) is
        ∙ (sequence-moved_back i 2 a.lists (subst (λ n. 2 < n) (sym sound.lists_is) (omega arith))
        ∙ ap (λ (s : List ℕ). s ++ i ∷ []) (still-out (count a) i a.lists sound.lawful 2 (λ e. absurd (omega (arith, e, waits)))))
