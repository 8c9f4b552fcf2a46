use Rattle.std.proofs.Common.{◌≤◌, ◌+◌, ◌*◌, sym, rules}
use Rattle.coll_kinds.specs.Common.{max_len, block_len, row_len, total}
use Rattle.coll_kinds.proofs.Sizes.{sizes_fit-small}
use Rattle.coll_kinds.proofs.signature.Signature.sizes_fit.Goals as goal

pub returns-then-all-le-MAX_LEN : goal.returns-then-all-le-MAX_LEN
returns-then-all-le-MAX_LEN c =
    let small : c.args.n * block_len c.args.self.now + total (row_len c.args.self.now) c.args.n ≤ max_len = search rules in
    sym (sizes_fit-small c.args.self.now c.args.n small)
