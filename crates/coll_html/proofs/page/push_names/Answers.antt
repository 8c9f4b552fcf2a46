use Rattle.coll_html.proofs.Joining.{named}
use Rattle.coll_html.proofs.page.push_names.Goals as goal

pub returns : goal.returns
returns c =
    named c.push_member-2.result _ _ _ _ _ _ _ c.as_bytes.ensures.value c.as_bytes-2.ensures.value
    c.in_ok-push_member.ensures c.push_member-2.ensures
