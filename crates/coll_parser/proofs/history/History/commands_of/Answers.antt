use Rattle.std.proofs.Common.{◌≡◌, ◌<◌, ◌+◌, ◌∷◌, ◌++◌, [], ℕ, List, length, take, get_or, ap, sym, subst, ◌∙◌, arith}
use Rattle.std.specs.List.{range_with_len}
use Rattle.coll_parser.specs.declared.command.Command.{Command}
use Rattle.coll_parser.specs.declared.command.Command.TheVariants.{WaitAll}
use Rattle.coll_parser.specs.declared.issued_command.IssuedCommand.{IssuedCommand}
use Rattle.coll_parser.specs.Histories.{History, postings, issued_by}
use Rattle.coll_parser.specs.Sound.{IsHistory}
use Rattle.coll_parser.proofs.Lists.{take-all}
use Rattle.coll_parser.proofs.Commanded.{length-made-take, length-one, issued-next-own, issued-next-other, made-next}
use Rattle.coll_parser.proofs.history.History.commands_of.Goals as goal
use Rattle.coll_parser.proofs.history.History.commands_of.Goals.{then-issued-rank+in_ok-copied+in_ok-push, else-issued-rank}

pub overflow_add-made : goal.overflow_add-made
overflow_add-made c =
    let h = c.args.self.now in
    let is = subst (IsHistory 1048578) c.self.view_is c.self.invariant in
    let few = is.few_commands in
    let same : c.deref-issued-items.result.now ≡ h.commands = c.deref-issued-items.ensures.value ∙ ap (λ (x : History). x.commands) c.self.view_is in
    let count = length-made-take c.args.rank h.commands c.loop-issued.issued-index in
    let one = length-one c.issued-item.result.command in
    omega (arith, few, ap length same, count, one, c.loop-issued.invariant.made, c.made.ensures, c.loop-issued-test.true)

pub loop-issued-preserved : goal.loop-issued-preserved
loop-issued-preserved c =
    let h = c.args.self.now in
    let i = c.loop-issued.issued-index in
    let t = c.issued-item.result in
    let same : c.deref-issued-items.result.now ≡ h.commands = c.deref-issued-items.ensures.value ∙ ap (λ (x : History). x.commands) c.self.view_is in
    let lt : i < length h.commands = omega (arith, c.loop-issued-test.true, ap length same) in
    let is : t ≡ get_or h.commands i t = c.issued-item.is ∙ ap (λ (ts : List IssuedCommand). get_or ts i t) same in
    elim c.if-issued-rank.branch [
      | then-issued-rank+in_ok-copied+in_ok-push w ↦
          (let next = issued-next-own h.commands i t c.args.rank lt is w.if-issued-rank.true in
          record {
            issued = ap (λ v. v.items) w.commands-is ∙ w.in_ok-push.ensures.items
                ∙ ap (λ (cs : List Command). cs ++ w.in_ok-copied.field-0 ∷ []) c.loop-issued.invariant.issued
                ∙ ap (λ (x : Command). issued_by c.args.rank (take i h.commands) ++ x ∷ []) w.in_ok-copied.ensures ∙ sym next;
            made = w.made-is ∙ ap (λ n. n + w.made.result) c.loop-issued.invariant.made
                ∙ ap (λ n. length (postings (issued_by c.args.rank (take i h.commands))) + n) w.made.ensures
                ∙ sym (made-next (issued_by c.args.rank (take i h.commands)) t.command) ∙ ap (λ (cs : List Command). length (postings cs)) (sym next);
          })
      | else-issued-rank w ↦
          (let next = issued-next-other h.commands i t c.args.rank lt is w.if-issued-rank.false in
          record {
            issued = ap (λ v. v.items) w.commands-is ∙ c.loop-issued.invariant.issued ∙ sym next;
            made = w.made-is ∙ c.loop-issued.invariant.made ∙ ap (λ (cs : List Command). length (postings cs)) (sym next);
          })
    ]

pub returns : goal.returns
returns c =
    let h = c.args.self.now in
    let same : c.deref-issued-items.result.now ≡ h.commands = c.deref-issued-items.ensures.value ∙ ap (λ (x : History). x.commands) c.self.view_is in
    let whole : take c.loop-issued.issued-index h.commands ≡ h.commands =
    take-all h.commands c.loop-issued.issued-index (omega (arith, c.loop-issued-test.false, ap length same)) in
    let issued = c.loop-issued.invariant.issued ∙ ap (issued_by c.args.rank) whole in
    let made = c.loop-issued.invariant.made ∙ ap (λ (ts : List IssuedCommand). length (postings (issued_by c.args.rank ts))) whole in
    c.in_ok-push-2.ensures.items ∙ ap (λ (cs : List Command). cs ++ WaitAll c.first.result ∷ []) issued
    ∙ ap (λ (qs : List ℕ). issued_by c.args.rank h.commands ++ WaitAll qs ∷ []) (c.first.ensures ∙ ap (range_with_len 0) made)
