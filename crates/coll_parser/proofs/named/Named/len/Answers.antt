use Rattle.std.proofs.Common.{◌≡◌, ap, sym, ◌∙◌}
use Rattle.std.specs.List.{range_with_len}
use Rattle.std.proofs.lemmas.List.FromFn.{length-range_with_len}
use Rattle.coll_parser.specs.Naming.{numbers}
use Rattle.coll_parser.proofs.named.Named.len.Goals as goal

pub returns-in-First : goal.returns-in-First
returns-in-First c =
    let is : c.args.self.now ≡ range_with_len 0 c.in-First.count = sym c.self.view_is ∙ ap numbers c.in-First.is in
    rw is (sym (length-range_with_len 0 c.in-First.count))
