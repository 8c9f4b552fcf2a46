use Rattle.std.proofs.Common.{◌≡◌, ◌-◌, ◌∙◌, length, arith, take, drop, ap, sym, refl}
use Rattle.std.proofs.lemmas.List.{length-drop, length-take}
use Rattle.coll_core.specs.Cores.{seen, setting}
use Rattle.coll_serial.specs.Calls.{Completes}
use Rattle.coll_serial.specs.Parts.{span_len}
use Rattle.coll_serial.specs.Tests.{is_completed}
use Rattle.coll_serial.proofs.Completing.{completed, of_count}
use Rattle.coll_serial.proofs.Finding.{unrefused}
use Rattle.coll_serial.proofs.engine.Engine.complete_part.Goals as goal

pub unreachable-requires : goal.unreachable-requires
unreachable-requires c =
    let p = c.args.part.now in
    let out = c.args.out.now in
    let b = c.span-begin.result.0 in
    let e = c.span-begin.result.1 in
    let room : length (take (e - b) (drop b out)) ≡ span_len p (length out) = simp (length-take, length-drop) (omega arith) in
    unrefused (setting c.args.self.now) (seen c.args.self.now) c.args.rank c.request-request.result p (length out)
    (length (take (e - b) (drop b out))) c.in-Err.field-0 c.request-request.ensures c.requires.accepted c.requires.fits room
    c.in-Err.ensures.refused

pub returns-in-Ok-Completed-clause-completes : goal.returns-in-Ok-Completed-clause-completes
returns-in-Ok-Completed-clause-completes c =
    let g = setting c.args.self.now in
    let m = seen c.args.self.now in
    let n = seen c.test.new.self in
    let p = c.args.part.now in
    let out = c.args.out.now in
    let b = c.span-begin.result.0 in
    let e = c.span-begin.result.1 in
    let sub = take (e - b) (drop b out) in
    let held = c.request-request.result in
    let count = c.in-Ok-Completed.count in
    let room : length sub ≡ span_len p (length out) = simp (length-take, length-drop) (omega arith) in
    completed g c.args.rank m n p c.finish.new.self held c.test.new.request out c.test.new.out sub b e count
    c.request-request.ensures c.in-Ok-Completed.ensures.request c.finish.ensures.request c.span-begin.ensures.begin
    c.span-begin.ensures.end refl
    (of_count (λ count. Completes g m c.args.rank held sub count c.test.new.out n) c.in-Ok-Completed.field-0 count
    c.in-Ok-Completed.field-0-is c.in-Ok-Completed.ensures.completes)
    room (sym c.in-Ok-Completed.ensures.completed ∙ ap is_completed c.in-Ok-Completed.field-0-is)
    c.finish.ensures.completed c.finish.ensures.count c.finish.ensures.at c.finish.ensures.room
