use Rattle.coll_job.proofs.viewing.pages_of.Goals as goal

pub returns : goal.returns
returns c = (c.in_ok-trace.ensures, c.in_ok-stats.ensures, c.in_ok-timeline.ensures, c.in_ok-picture.ensures, c.in_ok-page.ensures, c.in_ok-outcomes.ensures)
