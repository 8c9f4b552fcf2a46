use Rattle.std.proofs.Common.{rules}
use Rattle.coll_traced.proofs.Telling.{refuses_free}
use Rattle.coll_traced.proofs.traced_core.TracedCore.freed.Goals as goal

pub returns-in_default-clause-refused : goal.returns-in_default-clause-refused
returns-in_default-clause-refused g c =
    refuses_free _ c.args.self.now c.args.mine.now c.args.rank c.args.request.now _
    (c.keeps_legal.ensures.setting, c.keeps_legal.ensures.legal, c.requires) (search rules)

pub returns-in-Ok-clause-refused : goal.returns-in-Ok-clause-refused
returns-in-Ok-clause-refused g c =
    refuses_free _ c.args.self.now c.args.mine.now c.args.rank c.args.request.now _
    (c.keeps_legal.ensures.setting, c.keeps_legal.ensures.legal, c.requires) (search rules)

pub returns-in-Err-clause-refused : goal.returns-in-Err-clause-refused
returns-in-Err-clause-refused g c =
    refuses_free _ c.args.self.now c.args.mine.now c.args.rank c.args.request.now _
    (c.keeps_legal.ensures.setting, c.keeps_legal.ensures.legal, c.requires) (search rules)
