-- What an export over a list did, in the words of its answer.
use Rattle.std.proofs.Common.{◌≡◌, ◌∙◌, ◌⊎◌, inl, inr, is_some, length, ℕ, Bool, true, false, List, Option, Some, None, not, refl, sym, ap, subst}
use Rattle.std.specs.Prelude.{IfNone, IfSome, OnSome, position}
use Rattle.std.specs.Bool.{OnFalse, OnTrue}
use Rattle.std.specs.List.{list_any}
use Rattle.std.proofs.lemmas.Bool.{false≢true}
use Rattle.coll_core.specs.Cores.{Parts, seen, setting}
use Rattle.coll_complete.specs.Requests.{is_active, is_done}
use Rattle.coll_serial.specs.declared.first.First.{First}
use Rattle.coll_serial.specs.declared.first.First.TheVariants.{At, Undefined, Unfinished}
use Rattle.coll_serial.specs.declared.part.Part.{Part}
use Rattle.coll_complete.specs.Completing.{done_positions}
use Rattle.coll_serial.specs.Lists.{CompletesOne, CompletesParts, is_undefined, position_of}
use Rattle.coll_serial.specs.Parts.{tickets_of}
use Rattle.worzsunab.specs.Listing.{CompletesLowest, CompletesSome, NoneIsActive, NoneIsDone, told_of, undefined}

pub not_of_true : (b : Bool) → true ≡ not b → b ≡ false
not_of_true true e = absurd (false≢true (sym e))
not_of_true false e = refl

pub not_of_false : (b : Bool) → false ≡ not b → b ≡ true
not_of_false true e = refl
not_of_false false e = absurd (false≢true e)

-- what a test for one tells

pub lowest_at : (rank : ℕ) (p r : Parts) (was is : List Part) (old new : List ℕ) (first : First) (i : ℕ) → first ≡ At i
    → position_of first ≡ position (is_done (seen p)) (tickets_of was)
    → IfSome (position_of first) (λ i. CompletesOne (setting p) rank (seen p) (seen r) i was is old new)
    → CompletesLowest rank p r was is old new i
lowest_at rank p r was is old new first i e lowest completes = record {
  lowest = sym lowest ∙ ap position_of e;
  completes = subst (λ (f : First). IfSome (position_of f) (λ i. CompletesOne (setting p) rank (seen p) (seen r) i was is old new)) e completes;
}

-- nothing has changed
abbrev pub Stays : Parts → Parts → List Part → List Part → List ℕ → List ℕ → Type 0
Stays p r was is old new = (r ≡ p) × (is ≡ was) × (new ≡ old)

pub stays : (p r : Parts) (was is : List Part) (old new : List ℕ) (first f : First) → first ≡ f → position_of f ≡ None
    → IfNone (position_of first) (Stays p r was is old new) → Stays p r was is old new
stays p r was is old new first f e none h =
    subst (λ (o : Option ℕ). IfNone o (Stays p r was is old new)) (ap position_of e ∙ none) h

pub none_active : (p r : Parts) (was is : List Part) (old new : List ℕ) (first : First) (told : ℕ) → first ≡ Undefined
    → is_undefined first ≡ not (list_any (is_active (seen p)) (tickets_of was))
    → IfNone (position_of first) (Stays p r was is old new) → told ≡ undefined → NoneIsActive p r was is old new told
none_active p r was is old new first told e undefined_is none told_is =
    let h = stays p r was is old new first Undefined e refl none in
    record {
      inactive = not_of_true _ (sym (ap is_undefined e) ∙ undefined_is);
      engine = h.0;
      parts = h.1;
      memory = h.2;
      told_is = told_is;
    }

pub none_done : (rank : ℕ) (p : Parts) (was : List Part) (first : First) → first ≡ Unfinished
    → is_undefined first ≡ not (list_any (is_active (seen p)) (tickets_of was))
    → position_of first ≡ position (is_done (seen p)) (tickets_of was) → NoneIsDone rank was p
none_done rank p was first e undefined_is lowest = record {
  active = not_of_false _ (sym (ap is_undefined e) ∙ undefined_is);
  none = sym lowest ∙ ap position_of e;
}

-- what holds by a flag, and by a number that may be there

pub on_true : (P : Type 0) (b : Bool) → b ≡ true → OnTrue b P → P
on_true P b e h = subst (λ b. OnTrue b P) e h

pub on_false : (P : Type 0) (b : Bool) → b ≡ false → OnFalse b P → P
on_false P b e h = subst (λ b. OnFalse b P) e h

pub some_told : (rank : ℕ) (p r : Parts) (was is : List Part) (old new : List ℕ) (found : Option ℕ) (told : ℕ)
    → told ≡ told_of found → is_some found ≡ list_any (is_active (seen p)) (tickets_of was)
    → IfNone found (Stays p r was is old new)
    → IfSome found (λ n. n ≡ length (done_positions (seen p) (tickets_of was)))
    → OnSome found (CompletesParts (setting p) rank (seen p) (seen r) was is old new)
    → NoneIsActive p r was is old new told ⊎ CompletesSome rank p r was is old new told
some_told rank p r was is old new None told e active same count completes = inl (record {
  inactive = sym active;
  engine = same.0;
  parts = same.1;
  memory = same.2;
  told_is = e;
})
some_told rank p r was is old new (Some n) told e active same count completes =
    inr (record { active = sym active; many_is = e ∙ count; completes = completes })
