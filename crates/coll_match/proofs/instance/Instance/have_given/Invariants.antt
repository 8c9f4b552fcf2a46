use Rattle.std.proofs.Common.{◌≢◌, ◌≤◌, ◌<◌, ℕ, None}
use Rattle.coll_match.specs.Held.{given_in}
use Rattle.coll_match.proofs.instance.Instance.have_given.Given as goal

-- those before have given
abbrev pub invariant-loop-member : goal.invariant-loop-member
invariant-loop-member l = (m : ℕ) → l.first ≤ m → m < l.member → given_in l.self m ≢ None
