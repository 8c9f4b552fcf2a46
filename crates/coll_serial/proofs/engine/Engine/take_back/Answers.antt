use Rattle.std.proofs.Common.{◌≡◌, Some}
use Rattle.coll_serial.specs.declared.combination.Stage.TheVariants.{Due}
use Rattle.coll_serial.proofs.Handing.{advances_returned}
use Rattle.coll_serial.proofs.engine.Engine.take_back.Goals as goal

pub returns-in-Some-Due-clause-advances : goal.returns-in-Some-Due-clause-advances
returns-in-Some-Due-clause-advances c =
    let is : c.args.combination ≡ Some (Due c.in-Some-Due.work) = cc in
    advances_returned c.self.inside.core c.args.self.now c.abandon.new.self c.self.view_is c.in-Some-Due.work c.abandon.result
    c.abandon.ensures.back c.args.combination is
