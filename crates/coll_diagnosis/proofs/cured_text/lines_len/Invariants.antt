use Rattle.std.proofs.Common.{◌≡◌, ◌+◌, drop}
use Rattle.coll_diagnosis.specs.Cures.{lines_len}
use Rattle.coll_diagnosis.proofs.cured_text.lines_len.Given as goal

abbrev pub invariant-loop-index : goal.invariant-loop-index
invariant-loop-index l = l.index + lines_len (drop l.index l.text) l.left ≡ lines_len l.text l.initial.left
