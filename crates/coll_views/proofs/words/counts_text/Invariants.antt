use Rattle.std.proofs.Common.{◌≡◌, ◌-◌, ◌++◌}
use Rattle.std.specs.Prelude.{flat_map}
use Rattle.std.specs.List.{range_with_len}
use Rattle.std.specs.String.{string_bytes}
use Rattle.coll_views.specs.Texts.{count_text, counts_text}
use Rattle.coll_views.proofs.words.counts_text.Given as goal

abbrev pub invariant-loop-member : goal.invariant-loop-member
invariant-loop-member l =
    string_bytes l.text ++ flat_map (count_text l.counts) (range_with_len l.member (l.members - l.member))
    ≡ counts_text l.counts l.members
