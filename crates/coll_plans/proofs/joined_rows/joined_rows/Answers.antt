-- the block lies among the corners
use Rattle.std.proofs.Common.{◌≡◌, suc, ◌+◌, ◌/◌, ◌∙◌, arith, rules}
use Rattle.coll_kinds.specs.declared.kind.Kind.TheVariants.{Allreduce}
use Rattle.coll_plans.specs.RecursiveDoublingHypercube.{dimension}
use Rattle.coll_plans.proofs.RecursiveDoublingBlocks.{is_block, span_joins}
use Rattle.coll_plans.proofs.RecursiveDoublingAllreduce.{combines_nothing}
use Rattle.coll_plans.proofs.joined_rows.joined_rows.Goals.{then-ne-via-then-ne, then-ne-via-else-ne+then-round-eq0}
use Rattle.coll_plans.proofs.joined_rows.joined_rows.Goals as goal

pub returns-then-ne-clause-none : goal.returns-then-ne-clause-none
returns-then-ne-clause-none c kind =
    combines_nothing c.args.sig.now c.args.n c.args.r c.args.round kind
    (λ i low at. elim c.then-ne.branch [
      | then-ne-via-then-ne w ↦ let other : c.args.sig.now.kind ≡ Allreduce → ⊥ = search rules in other kind
      | then-ne-via-else-ne+then-round-eq0 w ↦ omega arith
    ])

pub returns-then-step-from-clause-none : goal.returns-then-step-from-clause-none
returns-then-step-from-clause-none c kind =
    combines_nothing c.args.sig.now c.args.n c.args.r c.args.round kind
    (λ i low at. let most : c.from.result ≡ dimension c.args.n = c.from.ensures ∙ c.new-cube.ensures.dimension in omega arith)

pub lowest-requires : goal.lowest-requires
lowest-requires c =
    let block = is_block c.args.n c.args.r c.from.result c.new-cube.result.extra _ c.pow-size.result c.corner.result c.requires.member c.requires.few
    (c.from.ensures ∙ c.new-cube.ensures.dimension) c.new-cube.ensures.extra c.if-step-from.false c.pow-size.ensures c.corner.ensures.corner in
    omega (arith, block.few)

pub returns-clause-joins : goal.returns-clause-joins
returns-clause-joins c =
    let kind : c.args.sig.now.kind ≡ Allreduce = search rules in
    let round : c.args.round ≡ suc (c.args.round / 2 + c.args.round / 2) = omega arith in
    span_joins c.args.n c.args.r c.from.result c.new-cube.result.extra _ c.pow-size.result c.corner.result c.requires.member c.requires.few
    (c.from.ensures ∙ c.new-cube.ensures.dimension) c.new-cube.ensures.extra c.if-step-from.false c.pow-size.ensures c.corner.ensures.corner
    c.args.sig.now c.args.round c.lowest-first.result c.lowest.result c.requires.checked kind round c.lowest-first.ensures c.lowest.ensures

pub returns-clause-few : goal.returns-clause-few
returns-clause-few c =
    let block = is_block c.args.n c.args.r c.from.result c.new-cube.result.extra _ c.pow-size.result c.corner.result c.requires.member c.requires.few
    (c.from.ensures ∙ c.new-cube.ensures.dimension) c.new-cube.ensures.extra c.if-step-from.false c.pow-size.ensures c.corner.ensures.corner in
    omega (arith, block.rises, block.within, c.lowest-first.ensures, c.lowest.ensures)
