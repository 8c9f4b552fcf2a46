-- Texts whose lines have no fault.
use Rattle.std.specs.Prelude.{ℕ, Bool, List, is_ok}
use Rattle.coll_parser.specs.Cutting.{lines_of}
use Rattle.coll_parser.specs.Histories.{beginning}
use Rattle.coll_parser.specs.Judging.{judged}

-- no line of the text has a fault; whether the requests of its ranks belong together isn't asked
abbrev pub is_accepted : List ℕ → Bool
is_accepted text = is_ok (judged 1 beginning (lines_of text))
