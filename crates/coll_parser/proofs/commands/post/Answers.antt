use Rattle.std.proofs.Common.{List, ℕ, Ok, length, ap, refl, sym, ◌∙◌}
use Rattle.coll_kinds.specs.declared.signature.Signature.{Signature}
use Rattle.coll_parser.specs.declared.command.Command.TheVariants.{Post}
use Rattle.coll_parser.specs.Code.{history_of}
use Rattle.coll_parser.proofs.Allowed.{post-reads}
use Rattle.coll_parser.proofs.commands.post.Goals as goal

pub returns : goal.returns
returns c =
    post-reads (history_of c.args.reader.now) c.args.rank c.in_ok-comm.comm _ c.values_due-count.result c.in_ok-sig.sig
    c.in_ok-given.given.items c.args.words.now c.communicator.new.words c.signature.new.words c.values.new.words
    (rw (← c.deref.ensures.value) c.in_ok-comm.ensures) (ap length c.group_of.ensures.is ∙ rw c.deref-2.ensures.value refl)
    c.in_ok-sig.ensures (c.values_due-count.ensures ∙ rw c.deref-3.ensures.value refl) c.in_ok-given.ensures (c.in_ok-room.ensures c.values.new.words)
    ∙ ap (λ (g : List ℕ). Ok (Post c.in_ok-comm.comm c.in_ok-sig.sig g, c.values.new.words)) (sym c.from_vec.ensures)
    ∙ ap (λ (s : Signature). Ok (Post c.in_ok-comm.comm s c.from_vec.result, c.values.new.words)) (sym c.in_ok-new.ensures)
