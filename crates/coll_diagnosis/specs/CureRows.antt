-- Worked rows, computed: a text with one line moved.
use Rattle.std.specs.Prelude.{◌≡◌, codes, refl}
use Rattle.coll_diagnosis.specs.Cures.{lines_len, moved_text}

-- of three lines the first is moved to the place after the second, and after the third
after_the_next : moved_text 1 2 (codes "a\nbb\nc\n") ≡ codes "bb\na\nc\n\n"
after_the_next = refl

after_the_last : moved_text 1 3 (codes "a\nbb\nc") ≡ codes "bb\nc\na\n"
after_the_last = refl

-- the second after the third
in_the_middle : moved_text 2 3 (codes "a\nbb\nc\nd") ≡ codes "a\nc\nbb\nd\n"
in_the_middle = refl

bytes_of_two_lines : lines_len (codes "a\nbb\nc") 2 ≡ 5
bytes_of_two_lines = refl
