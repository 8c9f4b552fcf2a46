use Rattle.std.proofs.Common.{◌≡◌, ◌∙◌, ℕ, Vec, ap, length, sym}
use Rattle.std.proofs.lemmas.List.{length-map}
use Rattle.std.specs.Global.{Global}
use Rattle.coll_machine.specs.Runs.{opened}
use Rattle.coll_core.specs.Cores.{IsCore, Parts, seen}
use Rattle.coll_core.proofs.opening.Opened.{opened_core, have_groups}
use Rattle.coll_match.specs.Instances.{LookUps}
use Rattle.coll_core.proofs.engine.Core.open.Goals as goal

abbrev parts : goal.After-new-matches → Parts
parts c = record {
  ranks = c.args.config.ranks;
  starts = c.args.config.starts;
  trace = c.args.config.trace;
  arena = c.in_ok-arena.arena;
  queues = c.in_ok-queues.queues;
  matches = c.new-matches.result;
}

-- both from the law of an engine just opened
begun : (c : goal.After-new-matches) → IsCore (parts c) × (seen (parts c) ≡ opened)
begun c =
    let fits = c.in_ok-check.ensures.ok in
    let groups = c.in_ok-queues.ensures.groups in
    opened_core (parts c) c.args.config.slots c.len-comms.result c.args.config.wear
    c.in_ok-arena.ensures.opened fits.wear
    (ap length groups
    ∙ (length-map c.args.config.groups.items (λ (group : Vec ℕ Global). group.items) ∙ (sym c.args.config.groups.ok.0 ∙ sym c.len-comms.ensures)))
    (have_groups (parts c) c.args.config.groups.items groups fits.groups.2)
    c.in_ok-queues.ensures.posts (ap (λ (s : LookUps). s.members) c.new-matches.ensures) (ap (λ (s : LookUps). s.given) c.new-matches.ensures)
    (ap (λ (s : LookUps). s.seats) c.new-matches.ensures) (ap (λ (s : LookUps). s.mail) c.new-matches.ensures)

pub invariant_of-result : goal.invariant_of-result
invariant_of-result c = (begun c).0

pub returns-clause-idle : goal.returns-clause-idle
returns-clause-idle c = (begun c).1
