use Rattle.std.proofs.Common.{subst, sym}
use Rattle.coll_job.specs.Tasks.{name_of, AnswersText, IsAnswered, IsStatusOf}
use Rattle.coll_job.proofs.Judging.{answered-task, answers-ended, given-none, given-some}
use Rattle.coll_job.proofs.tasks.do_task.Goals as goal

pub returns-in-None-clause-answered : goal.returns-in-None-clause-answered
returns-in-None-clause-answered g c =
    let name = name_of c.args.task.file in
    let start = g.R.Read.remaining c.args.input.now.reader.now in
    let old = g.W.Write.contents c.args.output.now.stream.now in
    let new = g.W.Write.contents c.write_answer-answer.new.output.stream.now in
    let old_errors = g.E.Write.contents c.args.errors.now.stream.now in
    let early = g.E.Write.contents c.write_answer-answer.new.errors.stream.now in
    let last = g.E.Write.contents c.ended.new.errors in
    given-none c.args.task.file (IsAnswered c.args.task.way name c.ended.result start old new old_errors last)
    (answered-task c.args.task.way name c.write_answer-answer.result c.ended.result start old new old_errors early last c.ended.ensures.status
    c.ended.ensures.untold c.write_answer-answer.ensures.answered c.write_answer-answer.ensures.ends.unanswered)

pub returns-in-None-clause-status : goal.returns-in-None-clause-status
returns-in-None-clause-status g c =
    subst (IsStatusOf c.args.task.way) (sym c.ended.ensures.status) c.write_answer-answer.ensures.ends.status

pub returns-in-Some-clause-status : goal.returns-in-Some-clause-status
returns-in-Some-clause-status g c =
    subst (IsStatusOf c.args.task.way) (sym c.ended-in-Some.ensures.status) c.answer_file-answer.ensures.ends.status

pub returns-in-Some-clause-answered_file : goal.returns-in-Some-clause-answered_file
returns-in-Some-clause-answered_file g c =
    let name = name_of c.args.task.file in
    let old = g.W.Write.contents c.args.output.now.stream.now in
    let new = g.W.Write.contents c.answer_file-answer.new.output.stream.now in
    let old_errors = g.E.Write.contents c.args.errors.now.stream.now in
    let early = g.E.Write.contents c.answer_file-answer.new.errors.stream.now in
    let last = g.E.Write.contents c.ended-in-Some.new.errors in
    given-some c.args.task.file (AnswersText c.args.task.way name c.ended-in-Some.result old new old_errors last)
    (answers-ended c.args.task.way name c.answer_file-answer.result c.ended-in-Some.result old new old_errors early last c.ended-in-Some.ensures.status
    c.ended-in-Some.ensures.untold c.answer_file-answer.ensures.answered c.answer_file-answer.ensures.ends.unanswered)
