-- The columns after a move to the back or to the front of a list.
use Rattle.std.proofs.Common.{◌≡◌, ◌≢◌, ℕ, ◌+◌, ◌<◌, List, [], ◌∷◌, ◌++◌, length, sym, ap, subst, ◌∙◌, inl, inr, set, slice_index, arith}
use Rattle.std.proofs.lemmas.Bool.{cases_eq}
use Rattle.std.proofs.lemmas.List.{length-set}
use Rattle.coll_lists.specs.Columns.{Joined, Shows, len_entered}
use Rattle.coll_lists.proofs.Linking.{next_unlinked, prev_unlinked, next_linked, prev_linked}
use Rattle.coll_lists.specs.Layouts.{Layout, sequence}
use Rattle.coll_lists.specs.Moves.{taken_out, moved_back, moved_front}
use Rattle.coll_lists.proofs.Occurrences.{Moved-back, Moved-front, sequence-moved_back, sequence-moved_front, Avoids-from_times, times-taken_out}
use Rattle.coll_lists.proofs.Rings.{Avoids, same_nodes, before_r, behind_l, put_back, put_front, next-prev-to, prev-next-from, prev-to_avoids, next-from_avoids}
use Rattle.coll_lists.proofs.Showing.{Closed, Closed-set, Loose, Loose-unlinked, Shows-moved, heads_off, inserts}

-- the columns after x moved to the back of list l
pub Shows-back : (next prev list len : List ℕ) (L : Layout) → Shows next prev list len L → (x l : ℕ) → x < length list → l < length len →
    (next' prev' : List ℕ) (q : ℕ) →
    q ≡ slice_index (prev_unlinked next prev x) (length list + l) →
    next' ≡ next_linked (next_unlinked next prev x) q x (length list + l) →
    prev' ≡ prev_linked (prev_unlinked next prev x) q x (length list + l) →
    Shows next' prev' (set list x l) (len_entered len (slice_index list x) l) (moved_back x l L)
Shows-back next prev list len L s x l x_low l_low next' prev' q q_is next_is prev_is =
    let loose : Loose (next_unlinked next prev x) (prev_unlinked next prev x) list len L x = Loose-unlinked next prev list len L x s x_low in
    let lens : (length (next_unlinked next prev x) ≡ length list + length len) × (length (prev_unlinked next prev x) ≡ length list + length len) =
    (loose.next_len, loose.prev_len) in
    let ring : Joined (slice_index (next_unlinked next prev x)) (slice_index (prev_unlinked next prev x)) (length list + l)
    (taken_out x (sequence L l)) (length list + l) = loose.joined l l_low in
    let out : (k : ℕ) → Avoids x (taken_out x (sequence L k)) = λ k. Avoids-from_times x (taken_out x (sequence L k)) (times-taken_out x (sequence L k)) in
    let far : (k : ℕ) → length list + k ≢ x = λ k e. absurd (omega (arith, e)) in
    let q_x : q ≢ x = λ e. prev-to_avoids _ _ x (length list + l) (taken_out x (sequence L l)) (length list + l) (far l) (out l) ring (sym q_is ∙ e) in
    let q_prev : q < length (prev_unlinked next prev x) =
    subst (λ z. z < length (prev_unlinked next prev x)) (sym q_is) (loose.prev_in (length list + l) (omega arith)) in
    let steps = inserts (next_unlinked next prev x) (prev_unlinked next prev x) q x (length list + l) q_x (far l) (omega arith)
    (omega arith) (omega arith) (omega arith)
    (ap (slice_index (next_unlinked next prev x)) q_is ∙ next-prev-to _ _ (length list + l) (taken_out x (sequence L l)) (length list + l) ring) (sym q_is) in
    let next_n : length next' ≡ length (next_unlinked next prev x) = ap length next_is ∙ length-set _ _ _ ∙ length-set _ _ _ in
    let prev_n : length prev' ≡ length (prev_unlinked next prev x) = ap length prev_is ∙ length-set _ _ _ ∙ length-set _ _ _ in
    Shows-moved next prev list len L s x l x_low l_low (moved_back x l L) (Moved-back x l L (subst (λ z. l < z) (sym s.lists_len) l_low)) next' prev'
    (next_n ∙ length-set next _ _) (prev_n ∙ length-set prev _ _)
    (subst Closed (sym next_is)
    (Closed-set _ x _ (subst (λ z. length list + l < z) (sym (length-set _ q x)) (omega arith)) (Closed-set _ q x (omega arith) loose.next_in)))
    (subst Closed (sym prev_is) (Closed-set _ _ x (subst (λ z. x < z) (sym (length-set _ x q)) (omega arith)) (Closed-set _ x q q_prev loose.prev_in)))
    (λ k low. rw (next_is, prev_is)
    (elim (cases_eq k l) [
      | inl e ↦ subst (λ z. Joined (slice_index (next_linked (next_unlinked next prev x) q x (length list + l)))
          (slice_index (prev_linked (prev_unlinked next prev x) q x (length list + l))) (length list + z) (sequence (moved_back x l L) z) (length list + z))
          (sym e)
          (same_nodes _ _ _ _ (taken_out x (sequence L l) ++ x ∷ []) _ (sequence-moved_back x l L (subst (λ z. l < z) (sym s.lists_len) l_low))
          (put_back _ _ q x (length list + l) _ _ steps (length list + l) (taken_out x (sequence L l)) (far l) (out l)
          (heads_off next prev list len L s x (length list + l) l x_low (omega arith) l_low) ring))
      | inr ne ↦ same_nodes _ _ _ _ (taken_out x (sequence L k)) _ ((Moved-back x l L (subst (λ z. l < z) (sym s.lists_len) l_low)).others k ne)
          (before_r _ _ q x (length list + l) _ _ steps (length list + k) (taken_out x (sequence L k)) (length list + k) (far k) (far k) (out k)
          (λ e. ne (omega (arith, e))) (heads_off next prev list len L s x (length list + l) k x_low (omega arith) low) (loose.joined k low))
    ]))

-- the columns after x moved to the front of list l
pub Shows-front : (next prev list len : List ℕ) (L : Layout) → Shows next prev list len L → (x l : ℕ) → x < length list → l < length len →
    (next' prev' : List ℕ) (q : ℕ) →
    q ≡ slice_index (next_unlinked next prev x) (length list + l) →
    next' ≡ next_linked (next_unlinked next prev x) (length list + l) x q →
    prev' ≡ prev_linked (prev_unlinked next prev x) (length list + l) x q →
    Shows next' prev' (set list x l) (len_entered len (slice_index list x) l) (moved_front x l L)
Shows-front next prev list len L s x l x_low l_low next' prev' q q_is next_is prev_is =
    let loose : Loose (next_unlinked next prev x) (prev_unlinked next prev x) list len L x = Loose-unlinked next prev list len L x s x_low in
    let lens : (length (next_unlinked next prev x) ≡ length list + length len) × (length (prev_unlinked next prev x) ≡ length list + length len) =
    (loose.next_len, loose.prev_len) in
    let ring : Joined (slice_index (next_unlinked next prev x)) (slice_index (prev_unlinked next prev x)) (length list + l)
    (taken_out x (sequence L l)) (length list + l) = loose.joined l l_low in
    let out : (k : ℕ) → Avoids x (taken_out x (sequence L k)) = λ k. Avoids-from_times x (taken_out x (sequence L k)) (times-taken_out x (sequence L k)) in
    let far : (k : ℕ) → length list + k ≢ x = λ k e. absurd (omega (arith, e)) in
    let q_x : q ≢ x = λ e. next-from_avoids _ _ x (length list + l) (taken_out x (sequence L l)) (length list + l) (far l) (out l) ring (sym q_is ∙ e) in
    let q_next : q < length (next_unlinked next prev x) =
    subst (λ z. z < length (next_unlinked next prev x)) (sym q_is) (loose.next_in (length list + l) (omega arith)) in
    let steps = inserts (next_unlinked next prev x) (prev_unlinked next prev x) (length list + l) x q (far l) q_x (omega arith)
    (omega arith) (omega arith) (omega arith)
    (sym q_is) (ap (slice_index (prev_unlinked next prev x)) q_is ∙ prev-next-from _ _ (length list + l) (taken_out x (sequence L l)) (length list + l) ring) in
    let next_n : length next' ≡ length (next_unlinked next prev x) = ap length next_is ∙ length-set _ _ _ ∙ length-set _ _ _ in
    let prev_n : length prev' ≡ length (prev_unlinked next prev x) = ap length prev_is ∙ length-set _ _ _ ∙ length-set _ _ _ in
    Shows-moved next prev list len L s x l x_low l_low (moved_front x l L) (Moved-front x l L (subst (λ z. l < z) (sym s.lists_len) l_low)) next' prev'
    (next_n ∙ length-set next _ _) (prev_n ∙ length-set prev _ _)
    (subst Closed (sym next_is)
    (Closed-set _ x q (subst (λ z. q < z) (sym (length-set _ (length list + l) x)) q_next) (Closed-set _ (length list + l) x (omega arith) loose.next_in)))
    (subst Closed (sym prev_is)
    (Closed-set _ q x (subst (λ z. x < z) (sym (length-set _ x (length list + l))) (omega arith))
    (Closed-set _ x (length list + l) (omega arith) loose.prev_in)))
    (λ k low. rw (next_is, prev_is)
    (elim (cases_eq k l) [
      | inl e ↦ subst (λ z. Joined (slice_index (next_linked (next_unlinked next prev x) (length list + l) x q))
          (slice_index (prev_linked (prev_unlinked next prev x) (length list + l) x q)) (length list + z) (sequence (moved_front x l L) z) (length list + z))
          (sym e)
          (same_nodes _ _ _ _ (x ∷ taken_out x (sequence L l)) _ (sequence-moved_front x l L (subst (λ z. l < z) (sym s.lists_len) l_low))
          (put_front _ _ (length list + l) x q _ _ steps (taken_out x (sequence L l)) (length list + l) (far l) (out l)
          (heads_off next prev list len L s x (length list + l) l x_low (omega arith) l_low) ring))
      | inr ne ↦ same_nodes _ _ _ _ (taken_out x (sequence L k)) _ ((Moved-front x l L (subst (λ z. l < z) (sym s.lists_len) l_low)).others k ne)
          (behind_l _ _ (length list + l) x q _ _ steps (length list + k) (taken_out x (sequence L k)) (length list + k) (far k) (far k) (out k)
          (λ e. ne (omega (arith, e))) (heads_off next prev list len L s x (length list + l) k x_low (omega arith) low) (loose.joined k low))
    ]))
