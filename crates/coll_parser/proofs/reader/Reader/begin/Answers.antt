use Rattle.std.proofs.Common.{◌+◌, Some, [], ◌∷◌, ◌++◌, List, ℕ, refl, ap, ◌∙◌}
use Rattle.coll_parser.specs.Code.{rows_view}
use Rattle.coll_parser.proofs.Readers.{IsReader-begun, IsStamped-begun}
use Rattle.coll_parser.proofs.reader.Reader.begin.Goals as goal

pub returns-clause-reader : goal.returns-clause-reader
returns-clause-reader c =
    let groups =
    ap rows_view (c.in_ok-push.ensures.items ∙ ap (λ (rows : List _). rows ++ c.in_ok-all_ranks.field-0 ∷ []) c.new.ensures.items)
    ∙ ap (λ (g : List ℕ). g ∷ []) c.in_ok-all_ranks.ensures in
    IsReader-begun c.args.number c.args.n c.args.self.now _ c.requires.reader c.requires.first c.requires.few
    (λ i. record { ranks = Some c.args.n; groups = groups i; opened = c.args.self.now.opened; commands = c.args.self.now.commands.items }) refl
    c.in_ok-self.ensures.count c.in_ok-self.ensures.kept

pub returns-clause-stamped : goal.returns-clause-stamped
returns-clause-stamped c = IsStamped-begun (c.args.number + 1) c.args.n _ refl c.in_ok-self-2.ensures.count c.in_ok-self-2.ensures.none
