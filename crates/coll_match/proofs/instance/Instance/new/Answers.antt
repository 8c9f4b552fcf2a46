use Rattle.std.proofs.Common.{◌∙◌, ap, refl, None, List, map}
use Rattle.std.specs.Prelude.{slice_get}
use Rattle.coll_match.specs.declared.instance.Share.{Share}
use Rattle.coll_match.specs.Held.{contribution_of, sent_of, slot_of}
use Rattle.coll_match.specs.Views.{part_of}
use Rattle.coll_match.proofs.Shares.{empty_part}
use Rattle.coll_match.proofs.instance.Instance.new.Goals as goal

pub returns-clause-given : goal.returns-clause-given
returns-clause-given c =
    λ z m. (ap (λ (shares : List Share). contribution_of (slice_get (map part_of shares) m)) c.in_ok-shares.ensures
    ∙ empty_part contribution_of None refl refl c.args.members m) z

pub returns-clause-seats : goal.returns-clause-seats
returns-clause-seats c =
    λ z m. (ap (λ (shares : List Share). slot_of (slice_get (map part_of shares) m)) c.in_ok-shares.ensures
    ∙ empty_part slot_of None refl refl c.args.members m) z

pub returns-clause-mail : goal.returns-clause-mail
returns-clause-mail c =
    λ z m. (ap (λ (shares : List Share). sent_of (slice_get (map part_of shares) m)) c.in_ok-shares.ensures
    ∙ empty_part sent_of (λ to round. None) refl refl c.args.members m) z
