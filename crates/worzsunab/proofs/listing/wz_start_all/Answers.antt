use Rattle.std.proofs.Common.{◌∙◌, refl}
use Rattle.worzsunab.specs.Listing.{done, stopped}
use Rattle.worzsunab.proofs.Answering.{was_open}
use Rattle.worzsunab.proofs.Coding.{coded}
use Rattle.worzsunab.proofs.listing.wz_start_all.Goals as goal

pub returns-in-Ok : goal.returns-in-Ok
returns-in-Ok c =
    let p = c.deref_mut.result.now in
    let r = c.start_all-answer.new.self in
    record {
      starts = done p r (was_open c.args.handle.now.held.engine c.in-Some.engine.value p c.in-Some.ensures.found c.deref_mut.ensures.value)
          c.put.ensures.engine c.in-Ok.ensures.setting (c.put.ensures.reason ∙ c.take.ensures.reason) c.in-Ok.ensures.starts refl refl;
    }

pub returns-in-Err : goal.returns-in-Err
returns-in-Err c =
    let p = c.deref_mut.result.now in
    let r = c.start_all-answer.new.self in
    record {
      starts = stopped p r c.in-Err.stopped (was_open c.args.handle.now.held.engine c.in-Some.engine.value p c.in-Some.ensures.found c.deref_mut.ensures.value)
          (c.refuse.ensures.engine ∙ c.put.ensures.engine) c.in-Err.ensures.setting c.refuse.ensures.reason
          c.in-Err.ensures.stopped refl (coded c.in-Err.stopped.why c.refuse.result c.refuse.ensures.code);
    }
