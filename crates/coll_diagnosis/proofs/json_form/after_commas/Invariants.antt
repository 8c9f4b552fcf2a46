use Rattle.std.proofs.Common.{◌≡◌, take, flat_map}
use Rattle.std.specs.String.{string_bytes}
use Rattle.coll_diagnosis.specs.Details.{comma_rank}
use Rattle.coll_diagnosis.proofs.json_form.after_commas.Given as goal

abbrev pub invariant-loop-rank : goal.invariant-loop-rank
invariant-loop-rank l = string_bytes l.text ≡ flat_map comma_rank (take l.rank-index l.ranks)
