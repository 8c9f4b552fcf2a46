-- What the combination of a request reads, and whose rows it is of.
use Rattle.std.proofs.Common.{◌≡◌, ◌∙◌, ℕ, List, Option, Some, ap, subst, sym}
use Rattle.coll_kinds.specs.declared.ticket.Ticket.{Ticket}
use Rattle.coll_ops.specs.Combinations.{combination, combined}
use Rattle.coll_sched.specs.Common.{Family, Serves, Tracks, filled}
use Rattle.coll_sched.specs.Served.{listing}
use Rattle.coll_sched.proofs.Serving.{filled_bytes}
use Rattle.coll_sched.proofs.Track.{filled_fits}
use Rattle.coll_plans.specs.Joins.{AreRows, JoinsRows}
use Rattle.coll_plans.specs.Plans.{family}
use Rattle.coll_arena.specs.Lookups.{IsFirst}
use Rattle.coll_arena.specs.Slots.{home, record_in}
use Rattle.coll_machine.specs.Common.{size}
use Rattle.coll_match.specs.Instances.{given}
use Rattle.coll_refinement.specs.Requests.{Live, before, key}
use Rattle.coll_refinement.specs.Shown.{listed}
use Rattle.coll_refinement.specs.Tables.{world}
use Rattle.coll_refinement.proofs.tables.OneRequest.{serves_own, tracks_at}
use Rattle.coll_core.specs.declared.request.Request.{Request}
use Rattle.coll_core.specs.Cores.{IsCore, Parts, setting, tables}
use Rattle.coll_core.specs.Requests.{ReadsRows, shown}
use Rattle.coll_core.specs.Works.{Piece, StandsAt, result_of}
use Rattle.coll_core.proofs.between.FirstOfReady.{acting}
use Rattle.coll_core.proofs.between.LiveRequests.{live}

module _ (p : Parts) (core : IsCore p) (i : ℕ) (x : Request) (here : record_in p.arena i ≡ Some x) (on : home p.arena i ≡ 2) where
  abbrev n : ℕ
  n = size (setting p) x.comm

  abbrev f : Family
  f = family x.plan.sig n

  abbrev q : Live
  q = listed (home p.arena i) (shown x)

  there : (tables p).request i ≡ Some q
  there = live p i x here

  track : Tracks n f (world (tables p) core.sound.paths (key q))
  track = tracks_at (tables p) core.sound.paths core.sound.sound.base i q there (before q.starts)

  serves : Serves x.plan.sig n f
  serves = serves_own (tables p) core.sound.paths core.sound.sound.base i q there

  rows : AreRows x.plan.sig n (filled f (given p.matches (key (shown x))))
  rows m low = (
    filled_fits n f (world (tables p) core.sound.paths (key q)) track m low ∙ serves.takes_given m low,
    filled_bytes n f (world (tables p) core.sound.paths (key q)) track m,
  )

  reads_rows : ReadsRows (given p.matches (key (shown x))) (shown x)
  reads_rows = record {
    rows = subst (λ n. AreRows x.plan.sig n (filled (family x.plan.sig n) (given p.matches (key (shown x)))))
        (sym (core.sound.sound.base.sized i q there)) rows;
    reads = λ op ty left right into next.
        let operands = (acting p core i x here on).operands op ty left right into next in (operands.left_is, operands.right_is);
  }

-- so it is with the first of Ready
pub first_reads : (p v : Parts) (t : Ticket) (x : Request) → p ≡ v → IsCore p → IsFirst v.arena 2 t → record_in p.arena t.slot ≡ Some x
    → ReadsRows (given p.matches (key (shown x))) (shown x)
first_reads p v t x e core first here = reads_rows p core t.slot x here (ap (λ (z : Parts). home z.arena t.slot) e ∙ first.home_is)

-- and its result is that of the rows
pub is_of_rows : (gave : ℕ → Option (List ℕ)) (q : Live) (w : Piece) (first count : ℕ) → ReadsRows gave q → StandsAt q w
    → JoinsRows q.sig q.members q.member q.round first count
    → result_of w ≡ combination w.op w.ty (listing (filled (family q.sig q.members) gave) first count)
is_of_rows gave q w first count reads stands joins =
    let at = reads.reads w.op w.ty stands.left stands.right stands.into stands.next_is in
    (λ z. combined w.op w.ty ((sym stands.left_is ∙ at.0) z) ((sym stands.right_is ∙ at.1) z))
    ∙ joins (filled (family q.sig q.members) gave) q.index w.op w.ty stands.left stands.right stands.into reads.rows stands.next_is
