use Rattle.std.proofs.Common.{◌≡◌, List, length, Vec, ap, ◌∙◌}
use Rattle.std.specs.Global.{Global}
use Rattle.std.specs.List.{list_all}
use Rattle.coll_parser.specs.Cutting.{lines_of}
use Rattle.coll_parser.specs.declared.request.Request as rust
use Rattle.coll_script.specs.PostingViews.{all_lists_view}
use Rattle.coll_script.specs.Matching.{mismatch, have_places, have_starts}
use Rattle.coll_script.specs.Jobs.{job_of, all_postings}
use Rattle.coll_script.proofs.Ending.{postings-view, members-view, judged-whole, IsJob-history}
use Rattle.coll_script.proofs.script.check.Goals as goal

pub all_postings-requires-clause-members : goal.all_postings-requires-clause-members
all_postings-requires-clause-members c =
    members-view c.args.history.now c.deref.result.now c.in_ok-ranks.ranks.items c.groups.result.now c.in_ok-ranks.ensures.sound
    c.deref.ensures.value c.in_ok-ranks.ensures.view c.groups.ensures.groups

pub returns-clause-job : goal.returns-clause-job
returns-clause-job c =
    let h = c.args.history.now in
    let all : all_lists_view c.in_ok-all.all.items ≡ all_postings (job_of h) =
    c.in_ok-all.ensures ∙ postings-view h c.deref.result.now c.in_ok-ranks.ranks.items c.groups.result.now c.deref.ensures.value
    c.in_ok-ranks.ensures.view c.groups.ensures.groups in
    let found : c.in_ok-line.field-0 ≡ mismatch (all_lists_view c.in_ok-all.all.items) =
    c.in_ok-line.ensures ∙ ap (λ (a : List (Vec (Vec rust.Request Global) Global)). mismatch (all_lists_view a)) c.deref-2.ensures.value in
    let places =
    c.all_have_places.ensures ∙ ap (λ (a : List (Vec (Vec rust.Request Global) Global)). list_all have_places (all_lists_view a)) c.deref-3.ensures.value in
    let starts =
    c.all_have_starts.ensures ∙ ap (λ (a : List (Vec (Vec rust.Request Global) Global)). list_all have_starts (all_lists_view a)) c.deref-4.ensures.value in
    IsJob-history h h (length (lines_of c.args.text.now)) c.in_ok-ranks.ensures.sound
    (judged-whole (length (lines_of c.args.text.now)) h (all_lists_view c.in_ok-all.all.items) c.in_ok-line.field-0
    c.all_have_places.result c.all_have_starts.result all found c.in_default.is places c.if-not-all_have_places.false starts c.if-not-all_have_starts.false)
