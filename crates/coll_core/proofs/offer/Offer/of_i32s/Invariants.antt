use Rattle.std.proofs.Common.{◌≡◌, take}
use Rattle.coll_core.specs.Numbers.{number_bytes}
use Rattle.coll_core.proofs.offer.Offer.of_i32s.Given as goal

abbrev pub invariant-loop-number : goal.invariant-loop-number
invariant-loop-number l = l.bytes.items ≡ number_bytes (take l.number-index l.numbers)
