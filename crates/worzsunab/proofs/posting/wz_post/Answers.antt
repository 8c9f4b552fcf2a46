use Rattle.worzsunab.proofs.Recoding.{recoded}
use Rattle.worzsunab.proofs.posting.wz_post.Goals as goal

pub returns-in-Some-clause-answers : goal.returns-in-Some-clause-answers
returns-in-Some-clause-answers c named = (c.in-Some.sig, c.in-Some.ensures.is, recoded c.post.ensures)
