-- The text of a draft: its lines, some of them mended, and patches in place of others.
use Rattle.std.specs.Prelude.{ℕ, ◌-◌, List, [], ◌∷◌, ◌++◌, map, flat_map, take, slice_set}
use Rattle.coll_faults.specs.declared.draft.Line.{Line}
use Rattle.coll_faults.specs.declared.draft.Line.TheVariants.{Written, Mended}
use Rattle.coll_faults.specs.declared.draft.MendedText.{MendedText}
use Rattle.coll_faults.specs.declared.patch.Patch.{Patch}

-- the bytes of a line, or of the lines in its place
abbrev pub line_bytes : Line → List ℕ
line_bytes (Written bytes) = bytes.now
line_bytes (Mended bytes) = bytes.items

-- those of each line
abbrev pub lines_in : MendedText → List (List ℕ)
lines_in draft = map line_bytes draft.lines.items

-- the patch is put in place of its line, which is counted from 1 on
abbrev pub put : List (List ℕ) → Patch → List (List ℕ)
put lines patch = slice_set lines (patch.line - 1) patch.block.items

-- one patch after another is
abbrev pub put_all : List (List ℕ) → List Patch → List (List ℕ)
put_all lines [] = lines
put_all lines (patch ∷ patches) = put_all (put lines patch) patches

-- a line feed after each
abbrev pub ended_line : List ℕ → List ℕ
ended_line line = line ++ 10 ∷ []

-- the first lines of a draft as one text, with patches
abbrev pub front_of : MendedText → ℕ → List Patch → List ℕ
front_of draft last patches = flat_map ended_line (put_all (take last (lines_in draft)) patches)
