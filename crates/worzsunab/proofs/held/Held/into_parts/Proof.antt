-- What an open pointer owns are the parts of a box.
use Rattle.worzsunab.proofs.Words.{◌≡◌, List, [], ◌∷◌, ◌++◌, Option, true, is_some, refl, sym, subst, Val, SProp, ent, id⊢, ftrue, fsep, WpFn, ‵, raw}
use Rattle.worzsunab.proofs.Words.{◌⊛◌, ◌$◌, ◌∵◌, !, qed, move, drop, split, join, fsplit, fjoin, suffices, use1, rewrite, done, stop, fld, of_opd}
use Rattle.worzsunab.proofs.Words.{no_more, and_then, returns, enter, alloc_all, pass_all, free_all, look_at, get, get_in, sets, agg, sub, whole}
use Rattle.worzsunab.proofs.Words.{fact, tables, yes, type_at, heard, nothing, says, Stays, stay_dropped, walk_of, ends_at, Goes-dropped, D, B, word}
use Rattle.worzsunab.proofs.Words.{box_typed, box_out, box_in, proved_at}
use Rattle.coll_core.specs.Cores.{Parts}
use Rattle.worzsunab.specs.Owning.{owned}
use Rattle.worzsunab.proofs.Boxes.{Boxed, OfHeld, some_of}
use Rattle.worzsunab.specs.contracts.held.Held.{the_row}
use Rattle.worzsunab.specs.contracts.held.Held.into_parts as f
use Rattle.worzsunab.proofs.held.Held.into_parts.Statement.{statement}
use Rattle.worzsunab.proofs.held.Held.into_parts.Code as code

abbrev stayed : Stays f.ended.signature.params f.ended.kept
stayed = (stay_dropped OfHeld yes, tt)

pub into_parts_spec : {M : Type 1} → statement M
into_parts_spec 𝓤 𝓛 𝓜 𝓡 wired =
    let c = f.clauses 𝓛 𝓜.mem 𝓡.returns in let H = 𝓛.H in let 𝓣 = tables 𝓤 H 𝓜 𝓡 𝓡.env in
    proved_at 𝓛 f.ended stayed c 𝓜 𝓡 (Goes-dropped 𝓛 0 OfHeld yes (λ κs x w. refl), tt) f.Key.name code.function (code.unfolded 𝓤 H 𝓜 𝓡 wired) (λ z are.
    let h = z.0.3.0 in let Post : Val → SProp 𝓤 = (walk_of 𝓛 f.ended stayed c).post z in let Run : List Val
    → SProp 𝓤 = λ ws. WpFn 𝓤 H 𝓣.C 𝓣.Λ code.function ws Post in
    let To = type_at f.signature.result tt in
    qed 𝓛 ((‵ ftrue ⊛ ‵ (fsep (the_row.own_val h z.0.4.0) ftrue)) ∷ raw (fact 𝓤 (is_some h.engine ≡ true)) ∷ []) ∵ move !
    (1 ∷ []) $ heard ! (is_some h.engine ≡ true) (λ live.
    let w = some_of h.engine live in
    let v : D Boxed = record { ptr = h.at; alloc = h.alloc; value = w.0 } in
    let made : To.Denot = record { at = v.ptr; alloc = v.alloc; value = v.value } in
    split ! $ drop ! $ fsplit ! $ fsplit ! $ move ! (1 ∷ []) $ rewrite ! 0 (λ (o : Option Parts). ‵ (owned h.alloc h.at o)) w.1
    refl $ move ! (1 ∷ []) $ fjoin ! $ use1 𝓛 (‵ ((B Boxed).own_val v z.0.4.0)) (id⊢ 𝓤 _) $
    box_out Boxed ! v z.0.4.0
    (λ b o hv e ws fa. box_in Boxed ! v b o v.value e refl $ use1 𝓛 (‵ (To.own_val made (word Boxed hv b o ∷ []))) (id⊢ 𝓤 _) $ move ! (1 ∷ []) $ drop ! $
    let x = word Boxed hv b o in
    suffices ! (Run (x ∷ [])) (subst (λ (us : List Val). ent 𝓤 (Run (x ∷ [])) (Run us)) (sym (λ i. ws i ++ [])) (id⊢ 𝓤 (Run (x ∷ [])))) $
    enter ! 𝓣.C 𝓣.Λ code.function (x ∷ []) Post $ alloc_all ! (λ l. pass_all ! refl (box_typed Boxed hv b o fa, tt) $
    sets ! (of_opd ! (get_in ! (fld ! refl (stop !)) (sub ! 0 refl (whole !)))) refl (tt, tt) $
    sets ! (of_opd ! (get_in ! (fld ! refl (stop !)) (sub ! 1 refl (whole !)))) refl fa $ sets ! (of_opd ! (get ! refl)) refl (tt, tt) $
    sets ! (agg ! (and_then ! (get ! refl) (and_then ! (get ! refl) (no_more !)))) refl (box_typed Boxed hv b o fa) $ returns !
    (look_at ! 0 refl) $ free_all ! refl $
    suffices ! _ (ends_at 𝓛 f.ended stayed c z x made (tt, tt) (tt, tt)) $ says ! w.1 $
    nothing ! $ nothing ! $ fjoin ! $ join ! $ nothing ! $ join ! $ done !))))
