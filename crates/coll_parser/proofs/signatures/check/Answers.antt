use Rattle.std.proofs.Common.{◌≡◌, false, Option, Some, None, Result, Ok, Err, refl, ap}
use Rattle.std.specs.Prelude.{MatchOption, IsOk, IsErrOf, is_none}
use Rattle.coll_kinds.specs.declared.refusal.Refusal.{Refusal}
use Rattle.coll_kinds.specs.declared.refusal.Refusal.TheVariants.{BadSignature}
use Rattle.coll_kinds.specs.declared.refusal.SignatureFault.{SignatureFault}
use Rattle.coll_kinds.specs.Checks.{broken}
use Rattle.coll_parser.specs.declared.cause.Cause.TheVariants as cause
use Rattle.coll_parser.specs.Reading.{must}
use Rattle.coll_parser.proofs.signatures.check.Goals as goal

-- what is refused breaks a rule
refused-breaks : (found : Option SignatureFault) (r : Result (Unit {0}) Refusal) (why : Refusal) → r ≡ Err why
    → MatchOption found (IsOk r) (λ rule. IsErrOf r (BadSignature rule)) → is_none found ≡ false
refused-breaks None r why e h = absurd cc
refused-breaks (Some rule) r why e h = refl

-- what isn't refused breaks none
accepted-breaks : (found : Option SignatureFault) (r : Result (Unit {0}) Refusal) (done : Unit {0}) → r ≡ Ok done
    → MatchOption found (IsOk r) (λ rule. IsErrOf r (BadSignature rule)) → found ≡ None
accepted-breaks None r done e h = refl
accepted-breaks (Some rule) r done e h = absurd cc

pub returns-in-Err : goal.returns-in-Err
returns-in-Err c =
    λ words. ap (λ holds. must holds cause.BadSignature words)
    (refused-breaks (broken c.args.sig.now c.args.n) c.check.result c.in-Err.field-0 c.in-Err.is c.check.ensures)

pub returns-in-Ok : goal.returns-in-Ok
returns-in-Ok c =
    λ words. ap (λ (found : Option SignatureFault). must (is_none found) cause.BadSignature words)
    (accepted-breaks (broken c.args.sig.now c.args.n) c.check.result c.in-Ok.field-0 c.in-Ok.is c.check.ensures)
