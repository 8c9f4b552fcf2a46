-- Posting lists, without where they lie in memory.
use Rattle.std.specs.Prelude.{List, map, Vec}
use Rattle.std.specs.Global.{Global}
use Rattle.coll_parser.specs.declared.request.Request as rust
use Rattle.coll_parser.specs.Requests.{Request}
use Rattle.coll_parser.specs.Code.{request_view}

-- a member's posting list
abbrev pub list_view : List rust.Request → List Request
list_view list = map request_view list

-- those of a communicator
abbrev pub lists_view : List (Vec rust.Request Global) → List (List Request)
lists_view lists = map (λ list. list_view list.items) lists

-- those of all communicators
abbrev pub all_lists_view : List (Vec (Vec rust.Request Global) Global) → List (List (List Request))
all_lists_view all = map (λ lists. lists_view lists.items) all
