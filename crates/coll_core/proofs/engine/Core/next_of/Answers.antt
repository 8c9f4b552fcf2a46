use Rattle.std.proofs.Common.{◌∙◌, sym}
use Rattle.coll_core.proofs.between.FirstOfReady.{first_acts, first_some}
use Rattle.coll_core.proofs.engine.Core.next_of.Goals as goal

pub unreachable-requires-in-None : goal.unreachable-requires-in-None
unreachable-requires-in-None c =
    first_some _ c.args.self.now c.args.ticket c.in-Ok.request.now c.self.view_is c.self.invariant c.requires
    c.in-Ok.ensures.found (sym c.next.ensures.is ∙ c.in-None.is)

pub returns : goal.returns
returns c =
    first_acts _ c.args.self.now c.args.ticket c.in-Ok.request.now c.in-Some.action c.self.view_is c.self.invariant c.requires c.in-Ok.ensures.found
    (sym c.next.ensures.is ∙ c.in-Some.is) c.in-Some.ensures.fits
