use Rattle.std.proofs.Common.{subst, sym}
use Rattle.coll_core.specs.Cores.{seen}
use Rattle.coll_parser.specs.declared.command.Command.{Command}
use Rattle.coll_replay.specs.Calls.{IsBlocked}
use Rattle.coll_replay.specs.Playing.{holding}
use Rattle.coll_replay.proofs.Stands.{has_pending}
use Rattle.coll_replay.proofs.standing.is_blocked.Goals as goal

pub returns-in_ok-surveyed-in-WaitAll : goal.returns-in_ok-surveyed-in-WaitAll
returns-in_ok-surveyed-in-WaitAll c = λ yes.
    subst (λ (command : Command). IsBlocked (seen c.args.core.now) (holding c.args.held.now) command) (sym c.in-WaitAll.is)
    (has_pending (seen c.args.core.now) (holding c.args.held.now) _ _ c.in_ok-surveyed-in-WaitAll.ensures yes)
