-- What the calls read in the columns, said of the layout that clauses see.
use Rattle.std.proofs.Common.{◌≡◌, ℕ, ◌+◌, ◌<◌, List, length, Option, sym, ap, subst, ◌∙◌, get_or, slice_index, arith}
use Rattle.std.proofs.lemmas.List.{get_or_read}
use Rattle.coll_lists.specs.Columns.{Shows, node_at}
use Rattle.coll_lists.specs.Layouts.{Layout, list_of, sequence, size, times}
use Rattle.coll_lists.specs.Neighbours.{after_in, before_in, first_in, last_in}
use Rattle.coll_lists.proofs.Showing.{times-head, times-here}
use Rattle.coll_lists.proofs.Values.{Inside-times, after_in-joined, before_in-joined, first_in-joined, last_in-joined, list_of-shown, size-shown}

-- what the calls read
pub first-shown : (next prev list len : List ℕ) (L : Layout) → Shows next prev list len L → (l : ℕ) → l < length L
    → node_at (length list) (slice_index next (length list + l)) ≡ first_in (sequence L l)
first-shown next prev list len L s l low =
    let l_low : l < length len = subst (λ z. l < z) s.lists_len low in
    first_in-joined (slice_index next) (slice_index prev) (length list + l) (sequence L l) (length list + l) (length list) (omega arith)
    (Inside-times (length list) (sequence L l) (λ x high. times-head next prev list len L s x l high l_low)) (s.joined l l_low)

pub last-shown : (next prev list len : List ℕ) (L : Layout) → Shows next prev list len L → (l : ℕ) → l < length L
    → node_at (length list) (slice_index prev (length list + l)) ≡ last_in (sequence L l)
last-shown next prev list len L s l low =
    let l_low : l < length len = subst (λ z. l < z) s.lists_len low in
    last_in-joined (slice_index next) (slice_index prev) (length list + l) (sequence L l) (length list + l) (length list) (omega arith)
    (Inside-times (length list) (sequence L l) (λ x high. times-head next prev list len L s x l high l_low)) (s.joined l l_low)

pub next-shown : (next prev list len : List ℕ) (L : Layout) → Shows next prev list len L → (x : ℕ) → x < length list
    → node_at (length list) (slice_index next x) ≡ after_in x (sequence L (list_of L x))
next-shown next prev list len L s x low =
    let l_low : slice_index list x < length len = s.within x low in
    let once : times x (sequence L (slice_index list x)) ≡ 1 = times-here next prev list len L s x low in
    after_in-joined (slice_index next) (slice_index prev) x (length list + slice_index list x) (sequence L (slice_index list x))
    (length list + slice_index list x) (length list) (omega arith)
    (Inside-times (length list) (sequence L (slice_index list x)) (λ z high. times-head next prev list len L s z (slice_index list x) high l_low))
    (omega arith) (s.joined (slice_index list x) l_low)
    ∙ ap (λ l. after_in x (sequence L l)) (sym (list_of-shown next prev list len L s x low))

pub prev-shown : (next prev list len : List ℕ) (L : Layout) → Shows next prev list len L → (x : ℕ) → x < length list
    → node_at (length list) (slice_index prev x) ≡ before_in x (sequence L (list_of L x))
prev-shown next prev list len L s x low =
    let l_low : slice_index list x < length len = s.within x low in
    before_in-joined (slice_index next) (slice_index prev) x (length list + slice_index list x) (sequence L (slice_index list x))
    (length list + slice_index list x) (length list) (omega arith)
    (Inside-times (length list) (sequence L (slice_index list x)) (λ z high. times-head next prev list len L s z (slice_index list x) high l_low))
    (times-here next prev list len L s x low) (s.joined (slice_index list x) l_low)
    ∙ ap (λ l. before_in x (sequence L l)) (sym (list_of-shown next prev list len L s x low))

-- the same under the names of the code: K is what the columns show, L what clauses see
pub node_in : (next prev list len : List ℕ) (K L : Layout) → Shows next prev list len K → K ≡ L → (x : ℕ) → x < size L → x < length list
node_in next prev list len K L s e x low = subst (λ z. x < z) (ap size (sym e) ∙ size-shown next prev list len K s) low

pub list_in : (next prev list len : List ℕ) (K L : Layout) → Shows next prev list len K → K ≡ L → (l : ℕ) → l < length L → l < length len
list_in next prev list len K L s e l low = subst (λ z. l < z) (ap length (sym e) ∙ s.lists_len) low

pub reads_first : (next prev list len : List ℕ) (K L : Layout) → Shows next prev list len K → K ≡ L → (l : ℕ) → l < length L
    → (head at : ℕ) (r : Option ℕ) → head ≡ length list + l → at ≡ get_or next head at → r ≡ node_at (length list) at → r ≡ first_in (sequence L l)
reads_first next prev list len K L s e l low head at r head_is at_is r_is =
    let l_low : l < length len = list_in next prev list len K L s e l low in
    let lens : length next ≡ length list + length len = s.next_len in
    r_is ∙ ap (node_at (length list)) (get_or_read next head at (omega arith) at_is 0 ∙ ap (slice_index next) head_is)
    ∙ first-shown next prev list len K s l (subst (λ z. l < z) (ap length (sym e)) low) ∙ ap (λ z. first_in (sequence z l)) e

pub reads_last : (next prev list len : List ℕ) (K L : Layout) → Shows next prev list len K → K ≡ L → (l : ℕ) → l < length L
    → (head at : ℕ) (r : Option ℕ) → head ≡ length list + l → at ≡ get_or prev head at → r ≡ node_at (length list) at → r ≡ last_in (sequence L l)
reads_last next prev list len K L s e l low head at r head_is at_is r_is =
    let l_low : l < length len = list_in next prev list len K L s e l low in
    let lens : length prev ≡ length list + length len = s.prev_len in
    r_is ∙ ap (node_at (length list)) (get_or_read prev head at (omega arith) at_is 0 ∙ ap (slice_index prev) head_is)
    ∙ last-shown next prev list len K s l (subst (λ z. l < z) (ap length (sym e)) low) ∙ ap (λ z. last_in (sequence z l)) e

pub reads_next : (next prev list len : List ℕ) (K L : Layout) → Shows next prev list len K → K ≡ L → (x : ℕ) → x < size L
    → (at : ℕ) (r : Option ℕ) → at ≡ get_or next x at → r ≡ node_at (length list) at → r ≡ after_in x (sequence L (list_of L x))
reads_next next prev list len K L s e x low at r at_is r_is =
    let x_low : x < length list = node_in next prev list len K L s e x low in
    let lens : length next ≡ length list + length len = s.next_len in
    r_is ∙ ap (node_at (length list)) (get_or_read next x at (omega arith) at_is 0)
    ∙ next-shown next prev list len K s x x_low ∙ ap (λ z. after_in x (sequence z (list_of z x))) e

pub reads_prev : (next prev list len : List ℕ) (K L : Layout) → Shows next prev list len K → K ≡ L → (x : ℕ) → x < size L
    → (at : ℕ) (r : Option ℕ) → at ≡ get_or prev x at → r ≡ node_at (length list) at → r ≡ before_in x (sequence L (list_of L x))
reads_prev next prev list len K L s e x low at r at_is r_is =
    let x_low : x < length list = node_in next prev list len K L s e x low in
    let lens : length prev ≡ length list + length len = s.prev_len in
    r_is ∙ ap (node_at (length list)) (get_or_read prev x at (omega arith) at_is 0)
    ∙ prev-shown next prev list len K s x x_low ∙ ap (λ z. before_in x (sequence z (list_of z x))) e

pub reads_list_of : (next prev list len : List ℕ) (K L : Layout) → Shows next prev list len K → K ≡ L → (x : ℕ) → x < size L
    → (r : ℕ) → r ≡ get_or list x r → r ≡ list_of L x
reads_list_of next prev list len K L s e x low r r_is =
    let x_low : x < length list = node_in next prev list len K L s e x low in
    get_or_read list x r x_low r_is 0 ∙ sym (list_of-shown next prev list len K s x x_low) ∙ ap (λ z. list_of z x) e

pub reads_len : (next prev list len : List ℕ) (K L : Layout) → Shows next prev list len K → K ≡ L → (l : ℕ) → l < length L
    → (r : ℕ) → r ≡ get_or len l r → r ≡ length (sequence L l)
reads_len next prev list len K L s e l low r r_is =
    let l_low : l < length len = list_in next prev list len K L s e l low in
    get_or_read len l r l_low r_is 0 ∙ s.counted l l_low ∙ ap (λ z. length (sequence z l)) e
