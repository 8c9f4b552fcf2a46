use Rattle.std.proofs.Common.{◌<◌, ℕ, [], List, Vec, Option, length, ap, subst, sym, ◌∙◌}
use Rattle.std.specs.Prelude.{unwrap_or}
use Rattle.std.specs.Global.{Global}
use Rattle.std.proofs.lemmas.List.{length-map}
use Rattle.std.proofs.lemmas.List.FromFn.{length-map-range_with_len}
use Rattle.coll_ops.specs.Values.{row_of}
use Rattle.coll_parser.proofs.Lists.{slice_get-view}
use Rattle.coll_script.specs.declared.values.MemberValues.{MemberValues}
use Rattle.coll_script.specs.Outcomes.{members_view}
use Rattle.coll_script.proofs.Printed.{row_of-range}
use Rattle.coll_script.proofs.values.MemberValues.of.Goals as goal

pub returns-in-Same : goal.returns-in-Same
returns-in-Same c =
    let row = c.in-Same.value.items in
    let within : c.args.member < length (members_view c.args.self.now) = c.requires in
    let lt : c.args.member < c.in-Same.members =
    subst (λ n. c.args.member < n)
    (ap (λ (v : MemberValues). length (members_view v)) c.in-Same.is ∙ length-map-range_with_len (λ (r : ℕ). row) 0 c.in-Same.members) within in
    c.deref.ensures.value ∙ sym (row_of-range c.in-Same.members c.args.member (λ r. row) lt)
    ∙ ap (λ (v : MemberValues). row_of (members_view v) c.args.member) (sym c.in-Same.is)

pub returns-in-Each : goal.returns-in-Each
returns-in-Each c =
    let rows = c.in-Each.rows.items in
    let within : c.args.member < length (members_view c.args.self.now) = c.requires in
    let lt : c.args.member < length rows =
    subst (λ n. c.args.member < n)
    (ap (λ (v : MemberValues). length (members_view v)) c.in-Each.is ∙ length-map rows (λ (row : Vec ℕ Global). row.items)) within in
    c.deref-in-Each.ensures.value
    ∙ ap (λ (o : Option (List ℕ)). unwrap_or o [])
    (sym (slice_get-view (λ (row : Vec ℕ Global). row.items) rows c.args.member c.index.result.now lt c.index.ensures))
    ∙ ap (λ (v : MemberValues). row_of (members_view v) c.args.member) (sym c.in-Each.is)
