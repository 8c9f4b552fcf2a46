use Rattle.std.proofs.Common.{ap, ◌∙◌}
use Rattle.coll_report.specs.Views.{trace_seen}
use Rattle.coll_traced.specs.Places.{place_in}
use Rattle.coll_traced.proofs.Places.{seen-last}
use Rattle.coll_traced.proofs.trace.Trace.last_place.Goals as goal

pub returns-in-Some : goal.returns-in-Some
returns-in-Some g c before e is =
    let entries = ap trace_seen c.deref.ensures.value ∙ ap (λ t. t.entries) c.self.view_is ∙ is in
    c.place.ensures ∙ ap place_in (seen-last c.deref.result.now before e c.in-Some.entry.now entries c.in-Some.ensures.value)
