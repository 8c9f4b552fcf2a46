use Rattle.std.proofs.Common.{refl}
use Rattle.coll_parser.specs.declared.command.Command.TheVariants.{Test, WaitAny, WaitSome}
use Rattle.coll_parser.proofs.Keeping.{nothing-kept}
use Rattle.coll_parser.proofs.section.Section.note.Goals as goal

pub returns-in_ok-make-in-Post : goal.returns-in_ok-make-in-Post
returns-in_ok-make-in-Post c = λ commands is. c.in_ok-make-in-Post.ensures c.args.line commands c.args.command.now is (rw (c.in-Post.is, c.sig.ensures) refl)

pub returns-in_ok-make-in-Init : goal.returns-in_ok-make-in-Init
returns-in_ok-make-in-Init c =
    λ commands is. c.in_ok-make-in-Init.ensures c.args.line commands c.args.command.now is (rw (c.in-Init.is, c.sig-in-Init.ensures) refl)

pub returns-in-Wait : goal.returns-in-Wait
returns-in-Wait c = λ commands is. rw c.in-Wait.is (c.wait.ensures c.args.line commands is)

pub returns-in-Free : goal.returns-in-Free
returns-in-Free c = λ commands is. rw c.in-Free.is (c.free.ensures c.args.line commands is)

pub returns-in-Test : goal.returns-in-Test
returns-in-Test c =
    λ commands is. rw c.in-Test.is
    (nothing-kept c.args.line commands c.args.self.now (Test c.in-Test.field-0) refl (λ q. record { starts = refl; waits = refl; frees = refl }) is)

pub returns-in-WaitAny : goal.returns-in-WaitAny
returns-in-WaitAny c =
    λ commands is. rw c.in-WaitAny.is
    (nothing-kept c.args.line commands c.args.self.now (WaitAny c.in-WaitAny.field-0) refl (λ q. record { starts = refl; waits = refl; frees = refl }) is)

pub returns-in-WaitSome : goal.returns-in-WaitSome
returns-in-WaitSome c =
    λ commands is. rw c.in-WaitSome.is
    (nothing-kept c.args.line commands c.args.self.now (WaitSome c.in-WaitSome.field-0) refl (λ q. record { starts = refl; waits = refl; frees = refl }) is)
