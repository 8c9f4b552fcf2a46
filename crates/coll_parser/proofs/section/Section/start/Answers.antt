use Rattle.std.proofs.Common.{refl, ap}
use Rattle.coll_parser.specs.declared.section.SectionEntry.{SectionEntry}
use Rattle.coll_parser.specs.Code.{posting_view}
use Rattle.coll_parser.proofs.Keeping.{start-kept}
use Rattle.coll_parser.proofs.section.Section.start.Goals as goal

pub returns : goal.returns
returns c = λ commands given is.
    start-kept c.args.line c.args.q commands c.args.self.now _ _ c.index_mut.result.now c.requires is refl refl given
    (record { same = ap posting_view c.index_mut.ensures.value; freed = ap (λ (p : SectionEntry). p.freed) c.index_mut.ensures.value; since = refl })
