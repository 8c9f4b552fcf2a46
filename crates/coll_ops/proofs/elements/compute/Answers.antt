use Rattle.std.proofs.Common.{◌+◌, ◌*◌, sym, ◌∙◌, bit_and}
use Rattle.std.specs.Prelude.{bit_or, bit_xor}
use Rattle.coll_ops.proofs.Bits.{bit_and-mask}
use Rattle.coll_ops.proofs.ElementBits.{HasBits-word, cast_unsigned-sum, cast_unsigned-product}
use Rattle.coll_ops.proofs.BitOperations.{bitwise-bits, bit_and-lt, bit_or-lt, bit_xor-lt}
use Rattle.coll_ops.proofs.elements.compute.Goals as goal

pub returns-in-Sum-clause-value : goal.returns-in-Sum-clause-value
returns-in-Sum-clause-value c =
    rw (c.mask.ensures, c.in-Sum.is)
    (bit_and-mask _ (c.args.a + c.args.b) (HasBits-word c.args.ty).most ∙ sym (cast_unsigned-sum c.args.ty c.args.a c.args.b c.requires.left c.requires.right))

pub returns-in-Prod-clause-value : goal.returns-in-Prod-clause-value
returns-in-Prod-clause-value c =
    rw (c.mask-in-Prod.ensures, c.in-Prod.is)
    (bit_and-mask _ (c.args.a * c.args.b) (HasBits-word c.args.ty).most
    ∙ sym (cast_unsigned-product c.args.ty c.args.a c.args.b c.requires.left c.requires.right))

pub returns-in-Band-clause-value : goal.returns-in-Band-clause-value
returns-in-Band-clause-value c = rw c.in-Band.is (sym (bitwise-bits bit_and bit_and-lt c.args.ty c.args.a c.args.b c.requires.left c.requires.right))

pub returns-in-Bor-clause-value : goal.returns-in-Bor-clause-value
returns-in-Bor-clause-value c = rw c.in-Bor.is (sym (bitwise-bits bit_or bit_or-lt c.args.ty c.args.a c.args.b c.requires.left c.requires.right))

pub returns-in-Bor-clause-fits : goal.returns-in-Bor-clause-fits
returns-in-Bor-clause-fits c = bit_or-lt c.args.ty c.args.a c.args.b c.requires.left c.requires.right

pub returns-in-Bxor-clause-value : goal.returns-in-Bxor-clause-value
returns-in-Bxor-clause-value c = rw c.in-Bxor.is (sym (bitwise-bits bit_xor bit_xor-lt c.args.ty c.args.a c.args.b c.requires.left c.requires.right))

pub returns-in-Bxor-clause-fits : goal.returns-in-Bxor-clause-fits
returns-in-Bxor-clause-fits c = bit_xor-lt c.args.ty c.args.a c.args.b c.requires.left c.requires.right
