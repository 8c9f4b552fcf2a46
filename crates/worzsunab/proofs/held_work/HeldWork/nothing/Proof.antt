-- A closed pointer owns nothing.
use Rattle.worzsunab.proofs.Words.{List, [], ◌∷◌, ◌++◌, None, true, refl, sym, subst, T, Val, vstruct, of_list, SProp, ent, emp, id⊢, ftrue, fsep}
use Rattle.worzsunab.proofs.Words.{WpFn, ‵, raw, ◌⊛◌, ◌$◌, ◌∵◌, !, qed, move, drop, split, join, fsplit, fjoin, fpack, suffices, use1, feq_i, feq_l}
use Rattle.worzsunab.proofs.Words.{done, and_then, no_more, returns, enter, alloc_all, pass_all, free_all, look_at, get, sets, agg, tables, yes}
use Rattle.worzsunab.proofs.Words.{Valss, RawPtr, ptr_val, type_at, nothing, says, Stays, stay_dropped, walk_of, ends_at, Goes-dropped, handle_tells}
use Rattle.worzsunab.proofs.Words.{proved_at}
use mathlib.Core.Bool.{Bool, ◌&&◌, false}
use denote.RawPtr.{rawptr_Lawful}
use denote.Struct.Struct.{within}
use denote.Struct.Owning.{shape, to}
use Rattle.std_heap.specs.contracts.Global as heap
use Rattle.worzsunab.proofs.Boxes.{BoxedWork, OfAlloc, OfPointer}
use Rattle.worzsunab.specs.contracts.held_work.HeldWork as held
use Rattle.worzsunab.specs.contracts.held_work.HeldWork.nothing as f
use Rattle.worzsunab.proofs.held_work.HeldWork.nothing.Statement.{statement}
use Rattle.worzsunab.proofs.held_work.HeldWork.nothing.Code as code

abbrev stayed : Stays f.ended.signature.params f.ended.kept
stayed = (stay_dropped OfAlloc yes, (stay_dropped OfPointer yes, tt))

both : (x y : Bool) → T x → T y → T (x && (y && true))
both true true s t = tt
both true false s t = absurd t
both false y s t = absurd s

pub nothing_spec : {M : Type 1} → statement M
nothing_spec 𝓤 𝓛 𝓜 𝓡 wired =
    let c = f.clauses 𝓛 𝓜.mem 𝓡.returns in let H = 𝓛.H in let 𝓣 = tables 𝓤 H 𝓜 𝓡 𝓡.env in
    proved_at 𝓛 f.ended stayed c 𝓜 𝓡
    (Goes-dropped 𝓛 0 OfAlloc yes (λ κs x w. refl), (Goes-dropped 𝓛 0 OfPointer yes (λ κs x w. refl), tt)) f.Key.name
    code.function (code.unfolded 𝓤 H 𝓜 𝓡 wired) (λ z are.
    let a = z.0.3.0 in let p = z.0.3.1.0 in
    let Post : Val → SProp 𝓤 = (walk_of 𝓛 f.ended stayed c).post z in let Run : List Val → SProp 𝓤 = λ ws. WpFn 𝓤 H 𝓣.C 𝓣.Λ code.function ws Post in
    let To = type_at f.signature.result tt in
    let made : To.Denot = record { at = p; alloc = a; combination = None } in
    qed 𝓛 ((‵ ftrue ⊛ ‵ (fsep (heap.the_row.own_val a z.0.4.0) (fsep (RawPtr.own_val p z.0.4.1.0) ftrue))) ∷ raw (emp 𝓤) ∷ []) ∵ split ! $ drop ! $ fsplit ! $
    handle_tells BoxedWork.al ! a z.0.4.0 (λ hv ea fa. move ! (1 ∷ []) $ fsplit ! $ feq_l ! (λ ep. drop ! $ move ! (1 ∷ []) $ drop ! $
    let w : Val = vstruct (of_list (ptr_val p ∷ hv ∷ [])) in let g = (rawptr_Lawful 𝓛).typed p (ptr_val p ∷ []) refl in
    suffices ! (Run (hv ∷ ptr_val p ∷ []))
    (subst (λ (us : List Val). ent 𝓤 (Run (hv ∷ ptr_val p ∷ [])) (Run us)) (sym (λ i. ea i ++ (ep i ++ []))) (id⊢ 𝓤 (Run (hv ∷ ptr_val p ∷ [])))) $
    enter ! 𝓣.C 𝓣.Λ code.function (hv ∷ ptr_val p ∷ []) Post $ alloc_all ! (λ l. pass_all ! refl (fa, g) $
    sets ! (agg ! (and_then ! (get ! refl) (and_then ! (get ! refl) (no_more !)))) refl
    (both _ _ g.0.0 fa.0, (g.0.1, (fa.1, tt))) $ returns ! (look_at ! 0 refl) $ free_all ! refl $
    nothing ! $ move ! (1 ∷ []) $ fjoin ! $ feq_i ! (List Val) (ptr_val p ∷ []) (ptr_val p ∷ []) refl $ fjoin ! $ feq_i !
    (List Val) (w ∷ []) (w ∷ []) refl $ fjoin ! $
    fpack ! (Valss (RawPtr ∷ heap.the_row ∷ [])) (within (shape held.the_type) (to held.the_type made) (w ∷ [])) (ptr_val p ∷ [], (hv ∷ [], tt)) $
    nothing ! $ move ! (1 ∷ []) $ fjoin ! $ use1 𝓛 (‵ (To.own_val made (w ∷ []))) (id⊢ 𝓤 _) $
    suffices ! _ (ends_at 𝓛 f.ended stayed c z w made (tt, (tt, tt)) (tt, (tt, tt))) $ says ! refl $
    nothing ! $ nothing ! $ fjoin ! $ nothing ! $ fjoin ! $ join ! $ nothing ! $ join ! $ done !))))
