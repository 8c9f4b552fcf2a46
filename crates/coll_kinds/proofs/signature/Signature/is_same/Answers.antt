use Rattle.std.proofs.Common.{subst, sym, ◌≡◌, IsTrue, Bool, ◌↔◌}
use Rattle.coll_kinds.proofs.Sameness.{same_signature-Decides}
use Rattle.coll_kinds.proofs.signature.Signature.is_same.Goals as goal

pub returns-clause-decides : goal.returns-clause-decides
returns-clause-decides c =
    subst (λ (b : Bool). IsTrue b ↔ (c.args.self.now ≡ c.args.other.now)) (sym c.same_signature.ensures)
    (same_signature-Decides c.args.self.now c.args.other.now)
