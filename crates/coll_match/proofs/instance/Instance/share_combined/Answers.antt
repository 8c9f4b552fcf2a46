use Rattle.std.proofs.Common.{◌∙◌, ap, sym}
use Rattle.std.specs.Prelude.{is_ok}
use Rattle.coll_match.specs.Held.{Held, combined_rows, given_in}
use Rattle.coll_match.specs.Views.{held_of}
use Rattle.coll_match.proofs.CombinedRows.{combined_push, found_cell, whole_combined}
use Rattle.coll_match.proofs.instance.Instance.share_combined.Goals as goal

pub returns-in-Some-clause-cell : goal.returns-in-Some-clause-cell
returns-in-Some-clause-cell c =
    found_cell (held_of c.self.inside.shares.items) c.self.inside.combined.items c.deref.result.now c.args.of c.in-Some.cell c.args.tag.now.numbers
    c.requires.tag.0 c.deref.ensures.value c.self.invariant.1
    (c.requires.tag.1 ∙ (λ z. combined_rows (given_in (sym c.self.view_is z)) c.requires.tag.0 c.args.of)) c.in-Some.ensures

pub invariant_of-self-2 : goal.invariant_of-self-2
invariant_of-self-2 c = (
  c.self.invariant.0,
  combined_push c.self.inside.combined.items c.push.new.self.items (record { of = c.args.of; cell = c.in_ok-cell.cell })
      (held_of c.self.inside.shares.items) (is_ok c.push.result) c.push.ensures.items c.self.invariant.1
      (whole_combined (held_of c.self.inside.shares.items) c.args.of c.in_ok-cell.cell c.requires.tag.0
      (λ m low high none. c.have_given.ensures c.if-not-have_given.false m low high (ap (λ (h : Held). given_in h m) (sym c.self.view_is) ∙ none))
      (c.in_ok-cell.ensures.0 ∙ (c.requires.tag.1 ∙ (λ z. combined_rows (given_in (sym c.self.view_is z)) c.requires.tag.0 c.args.of)))),
)
