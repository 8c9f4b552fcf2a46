use Rattle.std.proofs.Common.{◌∙◌, ◌<◌, subst, length, arith, inl, refl}
use Rattle.std.proofs.lemmas.List.{take_all}
use Rattle.coll_core.specs.Communicators.{groups_seen}
use Rattle.worzsunab.proofs.Cutting.{cut_more}
use Rattle.worzsunab.proofs.Totals.{uncut-long, uncut-short}
use Rattle.worzsunab.proofs.forms.groups_of.Goals as goal

pub loop-size-preserved : goal.loop-size-preserved
loop-size-preserved c =
    cut_more c.loop-size.groups.items c.push.new.self.items c.in_ok-from_slice.field-0 c.in-Some.group.now c.in-Some.after.now c.loop-size.rest.now
    c.args.members.now c.args.sizes.now c.loop-size.size-index c.from.result c.in_ok-push.ensures.items c.in_ok-from_slice.ensures.items
    c.in-Some.ensures.cases c.from.ensures c.loop-size-test.true c.loop-size.invariant

pub returns-in_default-clause-refused : goal.returns-in_default-clause-refused
returns-in_default-clause-refused c =
    let (so_far, whole) = c.loop-size.invariant in
    inl (
      refl,
      uncut-short c.args.sizes.now c.args.members.now c.loop-size.rest.now (groups_seen c.loop-size.groups.items) c.loop-size.size-index so_far whole
          c.loop-size-test.true (subst (λ n. length c.loop-size.rest.now < n) c.from.ensures c.in_default.ensures.cases),
    )

pub returns-then-not-is_empty-clause-refused : goal.returns-then-not-is_empty-clause-refused
returns-then-not-is_empty-clause-refused c =
    let (so_far, whole) = c.loop-size.invariant in
    inl (
      refl,
      uncut-long c.args.sizes.now c.args.members.now c.loop-size.rest.now (groups_seen c.loop-size.groups.items)
          (so_far ∙ take_all c.loop-size.size-index c.args.sizes.now (omega (arith, c.loop-size-test.false))) whole
          (grind (arith, c.if-not-is_empty.ensures)),
    )
