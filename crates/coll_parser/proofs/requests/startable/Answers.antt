use Rattle.std.proofs.Common.{◌≡◌, ◌<◌, length, Some, Ok, refl, sym, subst, ◌∙◌, arith}
use Rattle.std.specs.Prelude.{slice_get}
use Rattle.std.proofs.lemmas.Option.{slice_get_read}
use Rattle.coll_parser.specs.Histories.{issued_by}
use Rattle.coll_parser.proofs.Allowed.{next-is, request-below}
use Rattle.coll_parser.specs.Lines as lines
use Rattle.coll_parser.specs.Lines.{request_in}
use Rattle.coll_parser.proofs.Readers.{startable-not, startable-is_read}
use Rattle.coll_parser.proofs.requests.startable.Goals as goal

pub returns-then-not-is_startable : goal.returns-then-not-is_startable
returns-then-not-is_startable c = λ next h rank is.
    let count : c.len.result ≡ length c.args.section.now.entries.items = omega (arith, c.len.ensures) in
    let read = subst (λ n. lines.next (request_in n) c.args.words.now ≡ Ok (c.in_ok-q.q, c.request.new.self)) count c.in_ok-q.ensures.reads in
    startable-not next rank h c.args.section.now c.args.words.now c.in_ok-q.q c.request.new.self is read
    (λ p there. sym c.if-not-is_startable.true ∙ c.is_startable.ensures next (issued_by rank h.commands) p is there)

pub returns : goal.returns
returns c = λ next h rank is.
    let count : c.len.result ≡ length c.args.section.now.entries.items = omega (arith, c.len.ensures) in
    let read = subst (λ n. lines.next (request_in n) c.args.words.now ≡ Ok (c.in_ok-q.q, c.request.new.self)) count c.in_ok-q.ensures.reads in
    let word = next-is (request_in (length c.args.section.now.entries.items)) c.args.words.now (c.in_ok-q.q, c.request.new.self) read in
    let within : c.in_ok-q.q < length c.args.section.now.entries.items = request-below (length c.args.section.now.entries.items) word.0 c.in_ok-q.q word.1 in
    let at : slice_get c.args.section.now.entries.items c.in_ok-q.q ≡ Some c.index.result.now =
    slice_get_read c.args.section.now.entries.items (length c.args.section.now.entries.items) c.in_ok-q.q c.index.result.now refl within c.index.ensures in
    startable-is_read next rank h c.args.section.now c.args.words.now c.in_ok-q.q c.request.new.self c.index.result.now is read at
    (λ p there. sym c.if-not-is_startable.false ∙ c.is_startable.ensures next (issued_by rank h.commands) p is there)
