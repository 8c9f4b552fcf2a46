use Rattle.std.proofs.Common.{List, subst, sym}
use Rattle.coll_kinds.specs.declared.signature.Signature.{Signature}
use Rattle.coll_verdict.specs.declared.known.KnownRequest.{KnownRequest}
use Rattle.coll_verdict.specs.Code.{IsSketch}
use Rattle.coll_verdict.specs.Sketches.{making}
use Rattle.coll_verdict.proofs.Telling.{is_made}
use Rattle.coll_verdict.proofs.known.note.Goals as goal

pub returns-in-Start : goal.returns-in-Start
returns-in-Start c = λ yes k s. rw c.in-Start.is (c.start.ensures yes k s)

pub returns-in_ok-make-in-Post : goal.returns-in_ok-make-in-Post
returns-in_ok-make-in-Post c = λ yes k s.
    let made = is_made c.args.requests.now.items k c.in-Post.comm c.sig.result.now 1 s in
    let kept = subst (λ (xs : List KnownRequest). IsSketch xs (making k c.in-Post.comm c.sig.result.now 1)) (sym c.in_ok-make-in-Post.ensures) made in
    rw c.in-Post.is (subst (λ (sig : Signature). IsSketch c.make.new.requests.items (making k c.in-Post.comm sig 1)) c.sig.ensures kept)

pub returns-in_ok-make-in-Init : goal.returns-in_ok-make-in-Init
returns-in_ok-make-in-Init c = λ yes k s.
    let made = is_made c.args.requests.now.items k c.in-Init.comm c.sig-in-Init.result.now 0 s in
    let kept = subst (λ (xs : List KnownRequest). IsSketch xs (making k c.in-Init.comm c.sig-in-Init.result.now 0)) (sym c.in_ok-make-in-Init.ensures) made in
    rw c.in-Init.is (subst (λ (sig : Signature). IsSketch c.make-in-Init.new.requests.items (making k c.in-Init.comm sig 0)) c.sig-in-Init.ensures kept)

pub returns-in-Wait : goal.returns-in-Wait
returns-in-Wait c = λ yes k s. rw c.in-Wait.is (c.rest.ensures k s)

pub returns-in-WaitAll : goal.returns-in-WaitAll
returns-in-WaitAll c = λ yes k s. rw c.in-WaitAll.is (c.rest_all.ensures k s)

pub returns-in-Test : goal.returns-in-Test
returns-in-Test c = λ yes k s. rw c.in-Test.is (c.name.ensures k s)

pub returns-in-WaitAny : goal.returns-in-WaitAny
returns-in-WaitAny c = λ yes k s. rw c.in-WaitAny.is (c.name_all.ensures k s)

pub returns-in-WaitSome : goal.returns-in-WaitSome
returns-in-WaitSome c = λ yes k s. rw c.in-WaitSome.is (c.name_all-in-WaitSome.ensures k s)
