-- Whoever isn't a rank has no entry.
use Rattle.std.proofs.Common.{◌≡◌, ℕ, ◌<◌, ◌≤◌, cond, eqb, List, [], ◌∷◌, Some, refl, ap, subst, ◌∙◌, arith, ne_eqb}
use Rattle.coll_kinds.specs.Groups.{member_of}
use Rattle.coll_machine.specs.Common.{Setting, group, AreGroups, State, nothing, Entry, Posted, Inited, Started, Retired, Freed, posts_of, Leads, ArePosted}
use Rattle.coll_machine.proofs.Members.{member_at}
use Rattle.coll_machine.proofs.Accepted.{found_is, started_mine}
use Rattle.coll_machine.proofs.Posted.{are_nothing, are_entered}
use Rattle.coll_report.specs.Told.{StrangersAreSilent}

member_below : (g : Setting) (comm rank member : ℕ) → AreGroups g → member_of rank (group g comm) ≡ Some member → rank < g.ranks
member_below g comm rank member groups is = let m = member_at g comm rank member is in subst (λ r. r < g.ranks) m.1 ((groups comm).below member m.0)

-- another's entry is passed over
passes : (g : Setting) (r rank : ℕ) (x y : List Entry) → r < g.ranks → g.ranks ≤ rank → cond (eqb r rank) x y ≡ y
passes g r rank x y low high = ap (λ t. cond t x y) (ne_eqb r rank (λ e. absurd (omega arith)))

silent : (g : Setting) → AreGroups g → (rank : ℕ) → g.ranks ≤ rank → (es : List Entry) (s u : State) → ArePosted g s → Leads g s es u → posts_of rank es ≡ []
silent g groups rank high [] s u all l = refl
silent g groups rank high (Posted r t comm place sig bytes ∷ es) s u all l =
    passes g r rank (Posted r t comm place sig bytes ∷ posts_of rank es) (posts_of rank es) (member_below g comm r l.1.2.member groups l.1.2.member_is) high
    ∙ silent g groups rank high es l.0 u (are_entered g s l.0 (Posted r t comm place sig bytes) all l.1) l.2
silent g groups rank high (Inited r t comm place sig ∷ es) s u all l =
    passes g r rank (Inited r t comm place sig ∷ posts_of rank es) (posts_of rank es) (member_below g comm r l.1.2.member groups l.1.2.member_is) high
    ∙ silent g groups rank high es l.0 u (are_entered g s l.0 (Inited r t comm place sig) all l.1) l.2
silent g groups rank high (Started r t start bytes ∷ es) s u all l =
    let q = l.1.request in
    let mine = (started_mine g s r t bytes q l.1.is l.1.accepted).rank_is in
    let posted = all.posted t.slot q (found_is s t q l.1.is).1 in
    passes g r rank (Started r t start bytes ∷ posts_of rank es) (posts_of rank es)
    (subst (λ k. k < g.ranks) mine (member_below g q.comm q.rank q.member groups posted.member_is)) high
    ∙ silent g groups rank high es l.0 u (are_entered g s l.0 (Started r t start bytes) all l.1) l.2
silent g groups rank high (Retired r t comm place start bytes ∷ es) s u all l =
    silent g groups rank high es l.0 u (are_entered g s l.0 (Retired r t comm place start bytes) all l.1) l.2
silent g groups rank high (Freed r t ∷ es) s u all l = silent g groups rank high es l.0 u (are_entered g s l.0 (Freed r t) all l.1) l.2

pub strangers_are_silent : StrangersAreSilent
strangers_are_silent g es u groups l rank high = silent g groups rank high es nothing u (are_nothing g) l
