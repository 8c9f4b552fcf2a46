-- the rounds one after the other
use Rattle.std.proofs.Common.{◌≡◌, [], ◌∷◌, ◌++◌, sym, ap, ◌∙◌}
use Rattle.coll_trees.specs.Columns.{rounds_of}
use Rattle.coll_trees.proofs.Columns.{rounds-append}
use Rattle.coll_plans.specs.RecursiveDoubling.{give, fold_gives, pair_up, fold_joins, tell, tells, hypercube_rounds}
use Rattle.coll_plans.proofs.recursive_doubling_rounds.RecursiveDoubling.rounds.Goals as goal

pub returns-clause-ok : goal.returns-clause-ok
returns-clause-ok c =
    let first : c.in_ok-give.give ≡ give c.args.self.len c.args.self.cube.extra c.args.r =
    c.in_ok-give.ensures.ok ∙ ap (fold_gives c.args.self.len c.args.r) c.new-part.ensures in
    let second : c.in_ok-join.join ≡ pair_up c.args.self.op c.args.self.ty c.args.self.len c.args.self.cube.extra c.args.r =
    c.in_ok-join.ensures.ok ∙ ap (fold_joins c.args.self.op c.args.self.ty c.args.self.len) c.new-part.ensures in
    let last : c.in_ok-tell.tell ≡ tell c.args.self.len c.args.self.cube.extra c.args.r =
    c.in_ok-tell.ensures.ok ∙ ap (tells c.args.self.len c.args.r) c.new-part.ensures in
    let one : c.push.new.self.items ≡ c.in_ok-give.give ∷ [] =
    c.in_ok-push.ensures.items ∙ ap (λ xs. xs ++ c.in_ok-give.give ∷ []) c.in_ok-rounds.ensures.items in
    let two : c.push-2.new.self.items ≡ c.in_ok-give.give ∷ c.in_ok-join.join ∷ [] =
    c.in_ok-push-2.ensures.items ∙ ap (λ xs. xs ++ c.in_ok-join.join ∷ []) one in
    c.in_ok-push-3.ensures.items
    ∙ (ap (λ xs. xs ++ c.in_ok-tell.tell ∷ [])
    (c.in_ok-push_exchanges.ensures.ok
    ∙ ap (λ xs. xs ++ rounds_of (hypercube_rounds c.args.self.op c.args.self.ty c.args.self.len c.args.self.cube.extra 0
    c.args.self.cube.dimension) c.args.r) two)
    ∙ (ap (λ x. x ∷ c.in_ok-join.join
    ∷ (rounds_of (hypercube_rounds c.args.self.op c.args.self.ty c.args.self.len c.args.self.cube.extra 0 c.args.self.cube.dimension) c.args.r
    ++ c.in_ok-tell.tell ∷ [])) first
    ∙ (ap (λ x. give c.args.self.len c.args.self.cube.extra c.args.r ∷ x
    ∷ (rounds_of (hypercube_rounds c.args.self.op c.args.self.ty c.args.self.len c.args.self.cube.extra 0 c.args.self.cube.dimension) c.args.r
    ++ c.in_ok-tell.tell ∷ [])) second
    ∙ (ap (λ x. give c.args.self.len c.args.self.cube.extra c.args.r
    ∷ pair_up c.args.self.op c.args.self.ty c.args.self.len c.args.self.cube.extra c.args.r
    ∷ (rounds_of (hypercube_rounds c.args.self.op c.args.self.ty c.args.self.len c.args.self.cube.extra 0 c.args.self.cube.dimension) c.args.r ++ x ∷ []))
    last
    ∙ ap (λ xs. give c.args.self.len c.args.self.cube.extra c.args.r
    ∷ pair_up c.args.self.op c.args.self.ty c.args.self.len c.args.self.cube.extra c.args.r ∷ xs)
    (sym (rounds-append (hypercube_rounds c.args.self.op c.args.self.ty c.args.self.len c.args.self.cube.extra 0
    c.args.self.cube.dimension) (tell c.args.self.len c.args.self.cube.extra ∷ []) c.args.r))))))
