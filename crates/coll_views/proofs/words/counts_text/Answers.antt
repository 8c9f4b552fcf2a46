use Rattle.std.specs.String.{string_bytes}
use Rattle.coll_script.proofs.Loops.{flat_map_range-more}
use Rattle.coll_views.specs.Texts.{count_text}
use Rattle.coll_views.proofs.words.counts_text.Goals as goal

pub loop-member-preserved : goal.loop-member-preserved
loop-member-preserved c =
    rw c.in_ok-push_count.ensures
    (flat_map_range-more (count_text c.args.counts.now) c.args.members c.loop-member.member (string_bytes c.loop-member.text) _
    c.loop-member-test.true c.loop-member.invariant)
