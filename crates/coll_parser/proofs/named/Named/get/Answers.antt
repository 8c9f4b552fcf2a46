use Rattle.std.proofs.Common.{◌≡◌, ◌<◌, ap, length, sym, ◌∙◌, arith}
use Rattle.std.specs.List.{range_with_len}
use Rattle.std.proofs.lemmas.List.FromFn.{length-range_with_len, get_or-range_with_len}
use Rattle.coll_parser.specs.Naming.{numbers}
use Rattle.coll_parser.proofs.named.Named.get.Goals as goal

pub returns-in-First : goal.returns-in-First
returns-in-First c =
    let is : c.args.self.now ≡ range_with_len 0 c.in-First.field-0 = sym c.self.view_is ∙ ap numbers c.in-First.is in
    let within : c.args.index < c.in-First.field-0 = omega (arith, c.requires, ap length is, length-range_with_len 0 c.in-First.field-0) in
    let there = get_or-range_with_len 0 c.in-First.field-0 c.args.index 0 within in
    rw is (omega (arith, there))
