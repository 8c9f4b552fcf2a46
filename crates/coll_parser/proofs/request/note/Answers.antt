use Rattle.std.proofs.Common.{List, ℕ, ap, ◌∙◌}
use Rattle.coll_parser.specs.Requests.{started}
use Rattle.coll_parser.specs.Code.{request_view}
use Rattle.coll_parser.proofs.Requested.{map-changed_at}
use Rattle.coll_parser.proofs.request.note.Goals as goal

pub returns-in_ok-start-in-Start : goal.returns-in_ok-start-in-Start
returns-in_ok-start-in-Start c =
    let within = rw c.in-Start.is at c.requires.known in
    let line = c.args.issued.now.line in
    let given = ap (λ (g : List ℕ). started line g (request_view c.index_mut.result.now)) c.as_slice-in-Start.ensures in
    rw c.in-Start.is (map-changed_at request_view (started line c.in-Start.given) c.args.requests.now.items c.in-Start.req
    c.index_mut.result.now c.start-in-Start.new.self within c.index_mut.ensures.value (c.in_ok-start-in-Start.ensures ∙ given))
