-- the family serves the signature, so its schedules are accepted
use Rattle.std.proofs.Common.{◌≡◌, ◌+◌, List, [], ◌∷◌, sym, ap, subst, arith, ◌∙◌}
use Rattle.coll_kinds.specs.Lengths.{row_len, total}
use Rattle.coll_sched.specs.declared.action.Action.{Action}
use Rattle.coll_sched.specs.Common.{front, Parts, IsSchedule}
use Rattle.coll_plans.specs.DirectFamilies.{allgatherv_family}
use Rattle.coll_plans.proofs.DirectAllgatherv.{allgatherv_serves, rows_small}
use Rattle.coll_plans.proofs.DirectRowRegions.{row_within}
use Rattle.coll_plans.proofs.direct_allgatherv.allgatherv.Goals as goal

pub overflow_cast-all : goal.overflow_cast-all
overflow_cast-all c =
    omega (arith, rows_small c.args.sig c.args.n c.requires.kind c.requires.checked (omega (arith, c.requires.member)), c.rows_len-all.ensures.len)

pub overflow_cast-own : goal.overflow_cast-own
overflow_cast-own c =
    omega (
      arith,
      rows_small c.args.sig c.args.n c.requires.kind c.requires.checked (omega (arith, c.requires.member)),
      row_within (row_len c.args.sig) c.args.r c.args.n c.requires.member,
      c.row_len.ensures.len,
    )

pub row_exchange-requires-clause-small : goal.row_exchange-requires-clause-small
row_exchange-requires-clause-small c = rows_small c.args.sig c.args.n c.requires.kind c.requires.checked (omega (arith, c.requires.member))

pub returns-in_err-round-clause-family : goal.returns-in_err-round-clause-family
returns-in_err-round-clause-family c = allgatherv_serves c.args.sig c.args.n c.requires.kind

pub returns-in_err-rounds-clause-family : goal.returns-in_err-rounds-clause-family
returns-in_err-rounds-clause-family c = allgatherv_serves c.args.sig c.args.n c.requires.kind

pub overflow_add-all : goal.overflow_add-all
overflow_add-all c =
    omega (
      arith,
      rows_small c.args.sig c.args.n c.requires.kind c.requires.checked (omega (arith, c.requires.member)),
      row_within (row_len c.args.sig) c.args.r c.args.n c.requires.member,
      c.rows_len-all.ensures.len,
      c.row_len.ensures.len,
    )

pub of_lawful_rounds-requires : goal.of_lawful_rounds-requires
of_lawful_rounds-requires c =
    let rounds : c.in_ok-rounds.rounds.items ≡ (allgatherv_family c.args.sig c.args.n c.args.r).rounds =
    c.in_ok-rounds.ensures.ok ∙ ap (λ (x : List Action). x ∷ []) c.in_ok-round.ensures.ok in
    let output : c.front.result ≡ front (total (row_len c.args.sig) c.args.n) = c.front.ensures ∙ ap front c.rows_len-all.ensures.len in
    let parts : ◌≡◌ {A = Parts}
    (record {
      size = c.rows_len-all.result + c.row_len.result;
      input =
          record { at = c.rows_len-all.result; len = c.row_len.result };
      output = c.front.result;
      rounds = c.in_ok-rounds.rounds.items;
    })
    (allgatherv_family c.args.sig c.args.n c.args.r) =
    λ k. record {
      size = c.rows_len-all.ensures.len k + c.row_len.ensures.len k;
      input = record { at = c.rows_len-all.ensures.len k; len = c.row_len.ensures.len k };
      output = output k;
      rounds = rounds k;
    } in
    subst IsSchedule (sym parts) ((allgatherv_serves c.args.sig c.args.n c.requires.kind).serves.lawful.schedules c.args.r c.requires.member)

pub returns-clause-family : goal.returns-clause-family
returns-clause-family c = allgatherv_serves c.args.sig c.args.n c.requires.kind
