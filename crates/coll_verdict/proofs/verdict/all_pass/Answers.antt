use Rattle.std.proofs.Common.{◌≡◌, true, [], sym, ap, ◌∙◌, arith}
use Rattle.std.specs.List.{list_all}
use Rattle.coll_verdict.specs.Checking.{is_at_beginning, is_at_end}
use Rattle.coll_verdict.proofs.Ordered.{has_begun_so, has_ended_so}
use Rattle.coll_verdict.proofs.verdict.all_pass.Goals as goal

pub loop-rank-init : goal.loop-rank-init
loop-rank-init c =
    let yes : c.are_at_beginnings.result ≡ true = grind arith in
    let all : list_all is_at_beginning c.args.ranks.items ≡ true =
    ap (list_all is_at_beginning) (sym c.deref.ensures.value) ∙ (sym c.are_at_beginnings.ensures ∙ yes) in
    let apart : c.are_apart.result ≡ true = grind arith in
    record {
      apart = sym c.are_apart.ensures ∙ apart;
      stood = c.requires.stood;
      passes =
          λ rule follows g e. has_begun_so rule c.args.history.now c.args.ranks.items all g;
    }

pub returns : goal.returns
returns c = λ yes.
    let all : list_all is_at_end c.loop-rank.ranks.items ≡ true = ap (list_all is_at_end) (sym c.deref-2.ensures.value) ∙ (sym c.are_at_ends.ensures ∙ yes) in
    has_ended_so c.args.library.now c.args.history.now c.loop-rank.ranks.items [] c.loop-rank.invariant.stood c.loop-rank.invariant.passes all
