use Rattle.std.proofs.Common.{◌∙◌, refl, sym}
use Rattle.worzsunab.specs.Openings.{done, refused}
use Rattle.worzsunab.proofs.Answering.{none_of}
use Rattle.worzsunab.proofs.Coding.{coded}
use Rattle.worzsunab.proofs.wz_open.Goals as goal

pub returns-in-Ok-clause-opens : goal.returns-in-Ok-clause-opens
returns-in-Ok-clause-opens c =
    done c.in-Ok.engine.value (none_of c.args.handle.now.held.engine (sym c.is_open.ensures ∙ c.if-is_open.false)) c.put.ensures.engine
    c.put.ensures.reason c.in-Ok.ensures.idle c.in-Ok.ensures.opened refl

pub returns-in-Err-clause-opens : goal.returns-in-Err-clause-opens
returns-in-Err-clause-opens c =
    let closed = none_of c.args.handle.now.held.engine (sym c.is_open.ensures ∙ c.if-is_open.false) in
    refused c.in-Err.why closed (c.refuse.ensures.engine ∙ closed) c.refuse.ensures.reason c.in-Err.ensures.refused
    (coded c.in-Err.why c.refuse.result c.refuse.ensures.code)
