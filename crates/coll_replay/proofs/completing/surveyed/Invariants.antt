use Rattle.std.proofs.Common.{take}
use Rattle.coll_core.specs.Cores.{seen}
use Rattle.coll_replay.specs.Calls.{IsSurvey}
use Rattle.coll_replay.specs.Playing.{holding}
use Rattle.coll_replay.proofs.completing.surveyed.Given as goal

abbrev pub invariant-loop-index : goal.invariant-loop-index
invariant-loop-index l = IsSurvey (seen l.core) (holding l.held) (take l.index l.named) l.survey
