use Rattle.std.proofs.Common.{◌≡◌, ◌++◌, ◌-◌, drop, Some, ap, ◌∙◌}
use Rattle.std.specs.Prelude.{replicate}
use Rattle.byteorder.specs.Endian.{little_bytes}
use Rattle.coll_kinds.specs.Common.{width, value_of}
use Rattle.coll_kinds.proofs.Pairs.{drop-zeros, padded-bits, padded-none}
use Rattle.coll_kinds.proofs.element.read_element.Goals as goal

pub returns-in_err-bits : goal.returns-in_err-bits
returns-in_err-bits c = c.from_residual.ensures ∙ padded-none c.args.ty (value_of c.args.ty c.args.word.now) c.in_err-bits.ensures.bits

pub returns : goal.returns
returns c =
    let written : c.write_uint.new.buf ≡ little_bytes (width c.args.ty) c.in_ok-bits.bits ++ replicate (8 - width c.args.ty) 0 =
    c.write_uint.ensures ∙ (ap (λ w. little_bytes w c.in_ok-bits.bits ++ drop w (replicate 8 0)) c.width.ensures
    ∙ ap (λ zeros. little_bytes (width c.args.ty) c.in_ok-bits.bits ++ zeros) (drop-zeros c.args.ty)) in
    ap Some written ∙ padded-bits c.args.ty (value_of c.args.ty c.args.word.now) c.in_ok-bits.bits c.in_ok-bits.ensures.bits
