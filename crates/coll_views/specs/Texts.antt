-- Elements and signatures as text.
use Rattle.std.specs.Prelude.{ℕ, List, [], ◌++◌, flat_map, slice_index, codes, Option, Some, None, if◌then◌else◌}
use Rattle.std.specs.List.{range_with_len}
use Rattle.std.specs.Fmt.{decimal}
use Rattle.coll_kinds.specs.declared.datatype.Datatype.{Datatype}
use Rattle.coll_kinds.specs.declared.kind.Kind.TheVariants.{Barrier}
use Rattle.coll_kinds.specs.declared.kind.Kind.{Kind}
use Rattle.coll_kinds.specs.declared.operation.Op.{Op}
use Rattle.coll_kinds.specs.declared.signature.Signature.{Signature}
use Rattle.coll_kinds.specs.Common.{has_root, Element, is_pair, text_of, datatype_word, kind_word, operation_word}
use Rattle.coll_script.specs.Meaning.{elements_text}
use Rattle.coll_views.specs.declared.elements.Style.{Style}
use Rattle.coll_views.specs.declared.elements.Style.TheVariants.{Words, Json}

-- ---- elements

-- an element of a JSON array: a number, or of a pair an array
abbrev pub json_text : Datatype → Element → List ℕ
json_text ty e = if is_pair ty then codes "[" ++ (text_of e ++ codes "]") else text_of e

-- with what stands before it
abbrev pub element_text : Style → Datatype → Element → List ℕ
element_text Words ty e = codes " " ++ text_of e
element_text Json ty e = codes "," ++ json_text ty e

-- those of a row
abbrev pub row_text : Style → Datatype → List ℕ → List ℕ
row_text style ty row = elements_text (element_text style ty) ty row

-- ---- signatures

abbrev pub root_text : Signature → List ℕ
root_text sig = if has_root sig.kind then codes " " ++ decimal sig.root else []

abbrev pub operation_text : Option Op → List ℕ
operation_text None = []
operation_text (Some op) = codes " " ++ operation_word op

-- a member's count; 0 past the last one
abbrev pub count_text : List ℕ → ℕ → List ℕ
count_text counts member = codes " " ++ decimal (slice_index counts member)

abbrev pub counts_text : List ℕ → ℕ → List ℕ
counts_text counts members = flat_map (count_text counts) (range_with_len 0 members)

-- how many elements: of a block, or of each member's row
abbrev pub many_text : Option (List ℕ) → ℕ → ℕ → List ℕ
many_text None count members = codes " " ++ decimal count
many_text (Some counts) count members = counts_text counts members

abbrev pub block_text : Signature → ℕ → List ℕ
block_text sig members = codes " " ++ (datatype_word sig.ty ++ many_text sig.each sig.count members)

-- what stands after the kind; after a barrier nothing
abbrev pub after_kind : Kind → Signature → ℕ → List ℕ
after_kind Barrier sig members = []
after_kind kind sig members = root_text sig ++ (operation_text sig.op ++ block_text sig members)

abbrev pub signature_text : Signature → ℕ → List ℕ
signature_text sig members = kind_word sig.kind ++ after_kind sig.kind sig members
