-- The page: its fixed part, and between its beginning and its end the data.
use Rattle.std.specs.Prelude.{ℕ, ◌++◌, List, codes}
use Rattle.coll_html.specs.declared.fixed.TheConstants.{FIXED_BEGIN, FIXED_END}
use Rattle.coll_html.specs.Quoted.{quoted}

-- a member of the data: its name with what stands before it, and a text
unfoldable pub member : List ℕ → List ℕ → List ℕ
member name text = name ++ quoted text

-- the fixed part before the data, and the one behind them
unfoldable pub page_begin : List ℕ
page_begin = FIXED_BEGIN.now

unfoldable pub page_end : List ℕ
page_end = FIXED_END.now

-- what the page is headed with
unfoldable pub names_text : List ℕ → List ℕ → List ℕ
names_text program file = member (codes "{\"program\":") program ++ member (codes ",\"file\":") file

-- what it shows of a run
unfoldable pub run_text : List ℕ → List ℕ → List ℕ
run_text timeline stats = member (codes ",\"timeline\":") timeline ++ member (codes ",\"stats\":") stats

-- what it shows of a deadlock
unfoldable pub explained_text : List ℕ → List ℕ
explained_text explained = member (codes ",\"explained\":") explained ++ codes "}"

-- the data, an object of JSON: the program with its subcommand, the name of the job text, the timeline, the tables, and the explanation
abbrev pub data_text : List ℕ → List ℕ → List ℕ → List ℕ → List ℕ → List ℕ
data_text program file timeline stats explained = names_text program file ++ (run_text timeline stats ++ explained_text explained)

-- the page of these
abbrev pub page_text : List ℕ → List ℕ → List ℕ → List ℕ → List ℕ → List ℕ
page_text program file timeline stats explained = page_begin ++ (data_text program file timeline stats explained ++ page_end)
