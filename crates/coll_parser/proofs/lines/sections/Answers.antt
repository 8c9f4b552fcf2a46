use Rattle.std.proofs.Common.{◌+◌, ap, ◌∙◌, refl}
use Rattle.std.proofs.lemmas.List.{length-append}
use Rattle.coll_parser.proofs.Lists.{AllByRecursion-push}
use Rattle.coll_parser.proofs.Keeping.{IsKept-none}
use Rattle.coll_parser.proofs.lines.sections.Goals as goal

pub loop-init : goal.loop-init
loop-init c = record { count = rw c.new-sections.ensures.items refl; kept = rw c.new-sections.ensures.items tt }

pub loop-preserved : goal.loop-preserved
loop-preserved c = record {
  count = rw c.in_ok-push.ensures.items (length-append c.loop.sections.items _ ∙ ap (λ n. n + 1) c.loop.invariant.count);
  kept = rw c.in_ok-push.ensures.items (AllByRecursion-push _ c.loop.sections.items _ c.loop.invariant.kept (IsKept-none _ c.new.ensures.items refl));
}
