use Rattle.std.proofs.Common.{◌∙◌, ap, sym, cond, List, ℕ, Some}
use Rattle.coll_report.specs.declared.entry.Entry as rust
use Rattle.coll_report.specs.Views.{seen}
use Rattle.coll_run.specs.declared.index.Completion.{Completion}
use Rattle.coll_run.specs.Index.{handed_in, same}
use Rattle.coll_run.specs.Lines.{further}
use Rattle.coll_run.proofs.Indexing.{handed-updated}
use Rattle.coll_run.proofs.index.note.Goals as goal

pub returns-in_ok-insert : goal.returns-in_ok-insert
returns-in_ok-insert c = λ rank comm place start.
    let old = c.args.index.now.entries in
    let w : Completion =
    record {
      rank = c.in-Retired.rank;
      comm = c.in-Retired.comm;
      place = c.in-Retired.place;
      start =
          c.in-Retired.start;
    } in
    handed-updated old c.insert.new.self.entries w c.as_slice.result
    c.in_ok-insert.ensures.updates.0 rank comm place start
    ∙ ap (λ (bytes : List ℕ). cond (same w (record { rank = rank; comm = comm; place = place; start = start }))
    (Some bytes) (handed_in old rank comm place start))
    c.as_slice.ensures
    ∙ ap (λ (e : rust.Entry). further (seen e) (handed_in old) rank comm place start) (sym c.in-Retired.is)
