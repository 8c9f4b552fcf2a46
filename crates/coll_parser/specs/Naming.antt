-- The numbers of the requests that a command names.
use Rattle.std.specs.Prelude.{ℕ, List, [], ◌∷◌}
use Rattle.std.specs.List.{range_with_len}
use Rattle.coll_parser.specs.declared.named.Which.{Which}
use Rattle.coll_parser.specs.declared.named.Which.TheVariants.{One, These, First}

abbrev pub numbers : Which → List ℕ
numbers (One request) = request ∷ []
numbers (These requests) = requests.items
numbers (First count) = range_with_len 0 count
