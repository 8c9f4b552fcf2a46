use Rattle.std.proofs.Common.{subst, sym}
use Rattle.coll_parser.specs.Histories.{History}
use Rattle.coll_parser.specs.Code.{history_of}
use Rattle.coll_parser.proofs.Allowed.{Allows, read-allowed}
use Rattle.coll_parser.proofs.Readers.{same-history}
use Rattle.coll_parser.proofs.reader.Reader.command.Goals as goal

pub issue-requires-clause-may : goal.issue-requires-clause-may
issue-requires-clause-may c =
    let allowed = read-allowed c.in_ok-verb.verb (history_of c.args.self.now) c.in_ok-rank.rank c.args.words.now _ c.in_ok-issued.ensures.read in
    (subst (λ (h : History). Allows h c.in_ok-rank.rank c.in_ok-issued.issued)
    (sym (same-history c.args.self.now c.command.new.reader c.in_ok-issued.ensures.same)) allowed).0

pub issue-requires-clause-room : goal.issue-requires-clause-room
issue-requires-clause-room c =
    let allowed = read-allowed c.in_ok-verb.verb (history_of c.args.self.now) c.in_ok-rank.rank c.args.words.now _ c.in_ok-issued.ensures.read in
    (subst (λ (h : History). Allows h c.in_ok-rank.rank c.in_ok-issued.issued)
    (sym (same-history c.args.self.now c.command.new.reader c.in_ok-issued.ensures.same)) allowed).1
