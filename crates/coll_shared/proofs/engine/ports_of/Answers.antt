use Rattle.std.proofs.Common.{◌≡◌, ◌++◌, ◌∷◌, [], rules, sym, ap, ◌∙◌, arith}
use Rattle.std.proofs.lemmas.List.FromFn.{map-range_with_len_more}
use Rattle.coll_shared.specs.Ports.{opened}
use Rattle.coll_shared.proofs.engine.ports_of.Goals as goal

pub loop-rank-preserved : goal.loop-rank-preserved
loop-rank-preserved g c =
    let groups = c.args.communicators.now in
    let was = c.loop-rank.invariant in
    let one : c.new.result ≡ opened groups c.loop-rank.rank = c.new.ensures ∙ ap (λ gs. opened gs c.loop-rank.rank) c.in_ok-copy.ensures.same in (
      search rules,
      search rules,
      search rules,
      search rules,
      c.push_reserved.ensures.items
          ∙ ((λ z. was.4 z ++ one z ∷ []) ∙ sym (map-range_with_len_more (opened groups) 0 c.loop-rank.rank c.loop-rank.rank (omega arith))),
    )
