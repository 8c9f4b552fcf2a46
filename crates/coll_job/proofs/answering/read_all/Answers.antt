use Rattle.coll_job.proofs.Judging.{cause-heeded}
use Rattle.coll_job.proofs.answering.read_all.Goals as goal

pub returns-clause-cause : goal.returns-clause-cause
returns-clause-cause g c =
    cause-heeded c.read_text-text.result c.args.host.now.failed c.read_text-text.new.reader.failed c.heed.new.self.failed _
    c.heed.ensures c.read_text-text.ensures.cause
