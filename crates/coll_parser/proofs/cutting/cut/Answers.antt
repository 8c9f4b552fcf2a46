use Rattle.std.proofs.Common.{◌≡◌, rules, tests, ℕ, not, eqb, List, ◌++◌, length, map, Bor, refl, sym, ap, ◌∙◌}
use Rattle.std.proofs.Common.{Option, Result, OnOk, MatchResult}
use Rattle.std.specs.Iterator.{Drains, Yields}
use Rattle.std.proofs.lemmas.Iterator.{YieldsList}
use Rattle.std.proofs.lemmas.Iterator.Adapters.{fact_from_extend}
use Rattle.std.proofs.lemmas.Iterator.Consumers.{YieldsList-from_filter, YieldsList-at}
use Rattle.std.proofs.lemmas.Iterator.Splits.{YieldsList-from_slice_split}
use Rattle.coll_parser.specs.Cutting.{is_blank}
use Rattle.coll_parser.specs.Code.{texts}
use Rattle.coll_parser.proofs.cutting.cut.Goals as goal

-- what was put in, where it is known first which iterator was drained
extended : {T A C E Q : Type 0} {steps : T → Option A → T → Type 0} {all : List C}
    (v : A → C) (r : Result (Unit {0}) E) (it : T) (xs : List A)
    → MatchResult r (λ done. Drains steps it xs) (λ fault. (t : T) × Yields steps it xs t)
    → YieldsList steps v it all → (map v xs ≡ all → Q) → OnOk r Q
extended v r it xs ran road then =
    fact_from_extend {B = λ other. other ≡ it} {P = λ other. other ≡ xs} v r (it, xs, refl, refl, ran)
    (λ other e. YieldsList-at e road) (λ other is e. then (ap (map v) (sym e) ∙ is))

pub returns : goal.returns
returns c =
    let ran = c.extend.ensures.ran in
    extended (λ word. word.now) c.extend.result ran.0 ran.1 ran.4
    (YieldsList-at ran.2
    (YieldsList-from_filter _ (λ word. not (eqb (length word) 0))
    (YieldsList-at c.filter.ensures.source
    (YieldsList-from_slice_split _ is_blank c.args.line.now c.split.ensures.rest c.split.ensures.done
    c.split.ensures.closure
    (λ x b q k. search (rules, tests))))
    c.filter.ensures.closure
    (λ x b q k. search (rules, tests))))
    (λ are. ap texts (ran.3.0 ∙ ap (λ (all : List (Bor (List ℕ))). all ++ ran.1) c.clear.ensures.items) ∙ are)
