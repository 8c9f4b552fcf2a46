-- What a core with its trace did, and what its caller's tally counted.
use Rattle.std.specs.Prelude.{◌≡◌, ◌+◌, ℕ, List, [], ◌++◌, length, refl}
use Rattle.std.proofs.Common.{ap, append_assoc, arith, length-append, sym, ◌∙◌}
use Rattle.std.proofs.lemmas.Grind.{flat_map-append}
use Rattle.std.proofs.lemmas.List.{append-nil}
use Rattle.coll_machine.specs.Common.{Entry, Event}
use Rattle.coll_complete.specs.Doing.{DidOn, did_more_on, did_nothing_on}
use Rattle.coll_traced.specs.Endings.{ending, endings}
use Rattle.coll_traced.specs.Traced.{Traced}

-- the core completed and freed just these, the trace has just their entries more, and the tally as many
pub record DidTraced (s : Traced) (a : ℕ) (es : List Event) (t : Traced) (b : ℕ) : Type 0 where
  pub core_did : DidOn s.core es t.core
  pub entries_are : t.entries ≡ s.entries ++ endings es
  pub counted : b ≡ a + length (endings es)
  pub waits_are : t.waits ≡ s.waits
  pub stalled_is : t.stalled ≡ s.stalled

pub did_nothing : (s : Traced) (a : ℕ) → DidTraced s a [] s a
did_nothing s a = record {
  core_did = did_nothing_on s.core;
  entries_are = sym (append-nil s.entries);
  counted = omega arith;
  waits_are = refl;
  stalled_is = refl;
}

pub did_more : (s t u : Traced) (a b c : ℕ) (es fs : List Event) → DidTraced s a es t b → DidTraced t b fs u c
    → DidTraced s a (es ++ fs) u c
did_more s t u a b c es fs h k =
    let both : endings (es ++ fs) ≡ endings es ++ endings fs = flat_map-append (λ (e : Event). ending e.call e.reply) es fs in
    let long : length (endings (es ++ fs)) ≡ length (endings es) + length (endings fs) =
    ap (λ (xs : List Entry). length xs) both ∙ length-append (endings es) (endings fs) in
    let first = h.counted in
    let second = k.counted in
    record {
      core_did = did_more_on s.core t.core u.core es fs h.core_did k.core_did;
      entries_are =
          k.entries_are
          ∙ (ap (λ (xs : List Entry). xs ++ endings fs) h.entries_are
          ∙ (append_assoc s.entries (endings es) (endings fs) ∙ ap (λ (xs : List Entry). s.entries ++ xs) (sym both)));
      counted = omega (arith, long, first, second);
      waits_are = k.waits_are ∙ h.waits_are;
      stalled_is = k.stalled_is ∙ h.stalled_is;
    }
