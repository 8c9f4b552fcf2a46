use Rattle.std.proofs.Common.{◌≡◌, ◌<◌, ◌+◌, List, [], ◌∷◌, ◌++◌, ℕ, length, take, ap, subst, arith}
use Rattle.coll_parser.proofs.Lists.{AllByRecursion-read, take-more, take-all}
use Rattle.coll_parser.specs.declared.section.SectionEntry.{SectionEntry}
use Rattle.coll_parser.proofs.Keeping.{AreWaited, wait_each-kept}
use Rattle.coll_parser.proofs.Waiting.{AreWaited-more}
use Rattle.coll_parser.proofs.section.Section.wait_each.Goals as goal

pub loop-index-preserved : goal.loop-index-preserved
loop-index-preserved c =
    let qs = c.args.named.now in
    let i = c.loop-index.index in
    let within : i < length qs = omega (arith, c.loop-index-test.true, c.len-index-end.ensures) in
    let below = AllByRecursion-read _ qs i 0 c.requires within in
    let known : c.get-q.result < length c.args.self.now.entries.items = rw c.get-q.ensures below in
    let named : take (i + 1) qs ≡ take i qs ++ c.get-q.result ∷ [] = rw c.get-q.ensures (take-more qs i 0 within) in
    let idle = ap (λ (p : SectionEntry). record p { since = 0 }) c.index_mut.ensures.value in
    record {
      waited = c.loop-index.invariant.waited;
      are = rw named (AreWaited-more (take i qs) c.get-q.result c.args.self.now.entries.items c.loop-index.self.entries.items _ _
          known c.loop-index.invariant.are idle);
    }

pub returns : goal.returns
returns c = λ line commands is.
    let whole : take c.loop-index.index c.args.named.now ≡ c.args.named.now =
    take-all c.args.named.now c.loop-index.index (omega (arith, c.loop-index-test.false, c.len-index-end.ensures)) in
    wait_each-kept line commands c.args.self.now c.loop-index.self c.args.named.now c.requires c.loop-index.invariant.waited
    (subst (λ (qs : List ℕ). AreWaited qs c.args.self.now.entries.items c.loop-index.self.entries.items) whole c.loop-index.invariant.are) is
