use Rattle.std.proofs.Common.{◌≡◌, true, sym, ap, ◌∙◌, arith}
use Rattle.std.specs.List.{list_all}
use Rattle.coll_verdict.specs.Checking.{is_at_beginning}
use Rattle.coll_verdict.proofs.Ordered.{has_begun_so}
use Rattle.coll_cases.proofs.going.pass_all.Goals as goal

pub loop-step-init : goal.loop-step-init
loop-step-init c = λ h stood same apart.
    let yes : c.are_at_beginnings.result ≡ true = grind arith in
    let all : list_all is_at_beginning c.to_beginnings.new.ranks.items ≡ true =
    ap (list_all is_at_beginning) (sym c.as_slice.ensures.value) ∙ (sym c.are_at_beginnings.ensures ∙ yes) in
    record {
      stood = c.to_beginnings.ensures h stood;
      passes = λ rule follows g e. has_begun_so rule h c.to_beginnings.new.ranks.items all g;
    }
