use Rattle.std.proofs.Common.{◌≡◌, None, sym, rules}
use Rattle.coll_kinds.proofs.Sizes.{total-none}
use Rattle.coll_kinds.proofs.signature.Signature.rows_len.Goals as goal

pub returns-then-is_none-clause-len : goal.returns-then-is_none-clause-len
returns-then-is_none-clause-len c =
    let none : c.args.self.now.each ≡ None = search rules in
    sym (total-none c.args.self.now c.args.k none)
