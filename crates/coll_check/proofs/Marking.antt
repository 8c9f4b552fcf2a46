-- Whether a line after the first begins with a mark, byte by byte.
use Rattle.std.proofs.Common.{◌≡◌, ◌<◌, ◌+◌, ℕ, ◌||◌, false, List, [], ◌∷◌, length, drop, get_or, refl, add-one, drop-cons, arith}
use Rattle.coll_check.specs.Reports.{begins_line, is_marked, is_marked_later}

pub marked_at : (mark bytes : List ℕ) (i : ℕ) → i < length bytes
    → is_marked_later mark (drop i bytes) ≡ (begins_line mark (get_or bytes i 0) (drop (i + 1) bytes) || is_marked_later mark (drop (i + 1) bytes))
marked_at mark bytes i lt = rw (add-one, drop-cons bytes i 0) refl

-- no bytes have a line that does, where the mark has a byte
pub none_marked : (mark : List ℕ) → 0 < length mark → is_marked mark [] ≡ false
none_marked [] long = absurd (omega arith)
none_marked (byte ∷ mark) long = refl
