use Rattle.std.proofs.Common.{◌≡◌, ◌+◌, ◌-◌, ◌*◌, ◌^◌, ◌<◌, ◌%◌, take, drop, length, Some, refl, arith, sym, ◌∙◌, ap}
use Rattle.std.proofs.lemmas.Slice.{between_to_end}
use Rattle.coll_kinds.proofs.Pairs.{pair-no_comma, pair-no_value, pair-no_index, pair-read}
use Rattle.coll_kinds.proofs.element.pair_bits.Goals as goal

pub returns-in_err-comma-clause-bits : goal.returns-in_err-comma-clause-bits
returns-in_err-comma-clause-bits c = c.from_residual.ensures ∙ pair-no_comma c.args.word.now (sym c.in_err-comma.ensures.at)

pub returns-in_err-value-clause-bits : goal.returns-in_err-value-clause-bits
returns-in_err-value-clause-bits c =
    c.from_residual-in_err-value.ensures
    ∙ pair-no_value c.args.word.now (take c.in_ok-comma.comma c.args.word.now) c.in_ok-comma.comma (sym c.in_ok-comma.ensures.at)
    c.in_err-value.ensures.bits refl

pub returns-in_err-index-clause-bits : goal.returns-in_err-index-clause-bits
returns-in_err-index-clause-bits c =
    let behind = c.in_ok-comma.comma + 1 in
    c.from_residual-in_err-index.ensures
    ∙ pair-no_index c.args.word.now (take c.in_ok-comma.comma c.args.word.now)
    (take (length c.args.word.now - behind) (drop behind c.args.word.now)) c.in_ok-comma.comma c.in_ok-value.value
    (sym c.in_ok-comma.ensures.at) c.in_ok-value.ensures.bits c.in_err-index.ensures.bits refl
    (between_to_end c.args.word.now behind (length c.args.word.now) (omega arith))

pub returns-clause-bits : goal.returns-clause-bits
returns-clause-bits c =
    let behind = c.in_ok-comma.comma + 1 in
    let high : c.in_ok-index.index < 2 ^ 32 = c.in_ok-index.ensures.fit in
    let sum : c.in_ok-value.value + c.in_ok-index.index * 4294967296 % 18446744073709551616 ≡ c.in_ok-value.value + 2 ^ 32 * c.in_ok-index.index =
    omega arith in
    ap Some sum
    ∙ pair-read c.args.word.now (take c.in_ok-comma.comma c.args.word.now)
    (take (length c.args.word.now - behind) (drop behind c.args.word.now)) c.in_ok-comma.comma c.in_ok-value.value c.in_ok-index.index
    (sym c.in_ok-comma.ensures.at) c.in_ok-value.ensures.bits c.in_ok-index.ensures.bits refl
    (between_to_end c.args.word.now behind (length c.args.word.now) (omega arith))
