-- How commands are written, and which ones a section may say next. Nothing here reads words: what is written so is read
-- so.
use Rattle.std.specs.Prelude.{◌≡◌, ◌⊎◌, ℕ, ◌+◌, ◌-◌, ◌/◌, ◌<◌, ◌≤◌, ◌^◌, Bool, true, false, not, ◌&&◌, ◌||◌, IsTrue}
use Rattle.std.specs.Prelude.{MatchBool, if◌then◌else◌, Option, Some, None}
use Rattle.std.specs.Prelude.{List, [], ◌∷◌, ◌++◌, length, take, replicate, map, flat_map, slice_get, slice_index, codes}
use Rattle.std.specs.List.{AllByRecursion, list_all, range_with_len}
use Rattle.std.specs.Fmt.{decimal}
use Rattle.coll_parser.specs.Cutting.{is_blank, is_line_feed}
use Rattle.coll_kinds.specs.declared.datatype.Datatype.{Datatype}
use Rattle.coll_kinds.specs.declared.datatype.Datatype.TheVariants.{Byte}
use Rattle.coll_kinds.specs.declared.kind.Mode.{Mode}
use Rattle.coll_kinds.specs.declared.kind.Mode.TheVariants.{Once, Persistent}
use Rattle.coll_kinds.specs.declared.operation.Op.{Op}
use Rattle.coll_kinds.specs.declared.signature.Signature.{Signature}
use Rattle.coll_kinds.specs.Common.{Element, width, element_bytes, IsElement, has_root, has_operation, is_barrier, has_counts, broken, max_ranks}
use Rattle.coll_kinds.specs.Common.{kind_word, operation_word, datatype_word, member_of, is_among}
use Rattle.coll_kinds.specs.Texts.{text_of as element_text}
use Rattle.coll_parser.specs.declared.command.Command.{Command}
use Rattle.coll_parser.specs.declared.command.Command.TheVariants.{Post, Init, Start, Wait, Test, Free}
use Rattle.coll_parser.specs.declared.command.Command.TheVariants.{WaitAny, WaitSome, WaitAll}
use Rattle.coll_parser.specs.Histories.{History, group_of, Posting, issued_by, is_startable, total}
use Rattle.coll_parser.specs.Lines.{due, made, issue}

-- ---- words

-- OP, where there is one
abbrev pub operation_words : Option Op → List (List ℕ)
operation_words None = []
operation_words (Some op) = operation_word op ∷ []

-- C0 .. C(n-1), where each of n members' elements are counted, else COUNT
abbrev pub count_words : ℕ → ℕ → Option (List ℕ) → List (List ℕ)
count_words n count None = decimal count ∷ []
count_words n count (Some counts) = map decimal (take n counts)

-- SIG, of n members
abbrev pub signature_words : ℕ → Signature → List (List ℕ)
signature_words n sig =
    kind_word sig.kind ∷ (if has_root sig.kind then decimal sig.root ∷ [] else []) ++ operation_words sig.op
    ++ (if is_barrier sig.kind then [] else datatype_word sig.ty ∷ count_words n sig.count sig.each)

-- : v ..
abbrev pub value_words : List Element → List (List ℕ)
value_words elements = codes ":" ∷ map element_text elements

-- that many values of a type, whose bytes are these
abbrev pub AreValues : Datatype → ℕ → List Element → List ℕ → Type 0
AreValues ty count elements given =
    (length elements ≡ count)
    × AllByRecursion (IsElement ty) elements
    × (given ≡ flat_map (element_bytes ty) elements)

-- what a rank gives on a communicator, as many values of the signature's type as are due
abbrev pub AreDue : History → ℕ → ℕ → Signature → List Element → List ℕ → Type 0
AreDue h rank comm sig elements given =
    AreValues sig.ty (due h.groups rank comm sig / width sig.ty) elements given

-- counts of n members, and 0 after them
pub record AreCounts (n : ℕ) (each : Option (List ℕ)) : Type 0 where
  pub counts : List ℕ
  pub count : length counts ≡ n
  pub fit : AllByRecursion (λ c. c < 2 ^ 32) counts
  pub all : each ≡ Some (counts ++ replicate (max_ranks - n) 0)

-- a signature has what its kind has words for, with n members, and fits its fields
pub record HasWords (n : ℕ) (sig : Signature) : Type 0 where
  pub root : MatchBool (has_root sig.kind) (sig.root < 256) (sig.root ≡ 0)
  pub operation : MatchBool (has_operation sig.kind) ((op : Op) × (sig.op ≡ Some op)) (sig.op ≡ None)
  pub datatype : IsTrue (is_barrier sig.kind) → sig.ty ≡ Byte
  pub count : MatchBool (is_barrier sig.kind || has_counts sig.kind) (sig.count ≡ 0) (sig.count < 2 ^ 32)
  pub each : MatchBool (has_counts sig.kind) (AreCounts n sig.each) (sig.each ≡ None)

-- ---- what a section may say

-- the number of members of a communicator
abbrev pub members : History → ℕ → ℕ
members h comm = length (group_of h.groups comm)

-- a rank may post this on a communicator of which it is a member
pub record MayPost (h : History) (rank : ℕ) (mode : Mode) (comm : ℕ) (sig : Signature) : Type 0 where
  pub small : comm < 2 ^ 64
  pub group : List ℕ
  pub known : slice_get h.groups comm ≡ Some group
  pub member : ℕ
  pub is_member : member_of rank group ≡ Some member
  pub mode_is : sig.mode ≡ mode
  pub words : HasWords (members h comm) sig
  pub checked : broken sig (length group) ≡ None
  pub room : total h.commands < 4096

-- a start or a free may name the request
pub record MayStart (h : History) (rank q : ℕ) (p : Posting) : Type 0 where
  pub small : q < 2 ^ 64
  pub posted : slice_get (made h rank) q ≡ Some p
  pub startable : IsTrue (is_startable q p (issued_by rank h.commands))

-- the rank has made the request
abbrev pub IsMade : History → ℕ → ℕ → Type 0
IsMade h rank q = (q < 2 ^ 64) × (q < length (made h rank))

-- none of these stands before, nor twice among them
abbrev pub NoneTwice : List ℕ → List ℕ → Type 0
NoneTwice before [] = Unit {0}
NoneTwice before (q ∷ qs) = (is_among q before ≡ false) × NoneTwice (before ++ q ∷ []) qs

-- a wait may name these requests
abbrev pub MayName : History → ℕ → List ℕ → Type 0
MayName h rank qs = AllByRecursion (IsMade h rank) qs × NoneTwice [] qs

-- there is at least one
abbrev pub IsSome : List ℕ → Type 0
IsSome [] = ⊥
IsSome (q ∷ qs) = Unit {0}

-- the command may be said, and is written so
abbrev pub Writes : History → ℕ → Command → List (List ℕ) → Type 0
Writes h rank (Post comm sig given) words =
    MayPost h rank Once comm sig
    × (elements : List Element)
    × AreDue h rank comm sig elements given
    × (words ≡ codes "post" ∷ decimal comm ∷ signature_words (members h comm) sig ++ value_words elements)
Writes h rank (Init comm sig) words =
    MayPost h rank Persistent comm sig
    × (words ≡ codes "init" ∷ decimal comm ∷ signature_words (members h comm) sig)
Writes h rank (Start q given) words =
    (p : Posting)
    × MayStart h rank q p
    × (elements : List Element)
    × AreDue h rank p.comm p.sig elements given
    × (words ≡ codes "start" ∷ decimal q ∷ value_words elements)
Writes h rank (Wait q) words =
    IsMade h rank q
    × (words ≡ codes "wait" ∷ decimal q ∷ [])
Writes h rank (Test q) words =
    IsMade h rank q
    × (words ≡ codes "test" ∷ decimal q ∷ [])
Writes h rank (Free q) words =
    (p : Posting)
    × MayStart h rank q p
    × (words ≡ codes "free" ∷ decimal q ∷ [])
Writes h rank (WaitAny qs) words =
    IsSome qs
    × MayName h rank qs
    × (words ≡ codes "waitany" ∷ map decimal qs)
Writes h rank (WaitSome qs) words =
    IsSome qs
    × MayName h rank qs
    × (words ≡ codes "waitsome" ∷ map decimal qs)
Writes h rank (WaitAll qs) words =
    (IsSome qs × MayName h rank qs × (words ≡ codes "waitall" ∷ map decimal qs))
    ⊎ ((qs ≡ range_with_len 0 (length (made h rank))) × (words ≡ codes "waitall" ∷ []))

-- ---- texts

-- a byte that cuts neither lines nor words
abbrev pub is_plain : ℕ → Bool
is_plain b = not (is_blank b) && not (is_line_feed b)

-- a word is cut from a line by its blanks
pub record IsWord (w : List ℕ) : Type 0 where
  pub some : 0 < length w
  pub plain : list_all is_plain w ≡ true

-- a line without words, and a comment
abbrev pub IsSkipped : List (List ℕ) → Type 0
IsSkipped [] = Unit {0}
IsSkipped (w ∷ words) = slice_index w 0 ≡ 35

-- the next line says this, and is written so
pub data Says (number : ℕ) (h : History) : List (List ℕ) → History → Type 0 where
  skipped_line :
      (words : List (List ℕ))
      → AllByRecursion IsWord words
      → IsSkipped words
      → Says number h words h
  ranks_line :
      (n : ℕ)
      → h.ranks ≡ None
      → 1 ≤ n
      → n ≤ 64
      → Says number h (codes "ranks" ∷ decimal n ∷ []) (record h { ranks = Some n; groups = range_with_len 0 n ∷ [] })
  comm_line :
      (n : ℕ) (group : List ℕ)
      → h.ranks ≡ Some n
      → n ≤ 64
      → h.opened ≡ None
      → length h.groups < 16
      → IsSome group
      → AllByRecursion (λ r. r < n) group
      → NoneTwice [] group
      → Says number h (codes "comm" ∷ map decimal group) (record h { groups = h.groups ++ group ∷ [] })
  rank_line :
      (n rank : ℕ)
      → h.ranks ≡ Some n
      → n ≤ 64
      → rank < n
      → Says number h (codes "rank" ∷ decimal rank ∷ []) (record h { opened = Some rank })
  command_line :
      (n rank : ℕ) (c : Command) (words : List (List ℕ))
      → h.ranks ≡ Some n
      → h.opened ≡ Some rank
      → Writes h rank c words
      → Says number h words (issue number rank c h)

-- the lines, of which the first has that number, say this
abbrev pub Tells : ℕ → History → List (List (List ℕ)) → History → Type 0
Tells number h [] last = last ≡ h
Tells number h (words ∷ lines) last =
    (next : History)
    × Says number h words next
    × Tells (number + 1) next lines last

-- words with a space between
abbrev pub spaced : List (List ℕ) → List ℕ
spaced [] = []
spaced (w ∷ []) = w
spaced (w ∷ v ∷ words) = w ++ 32 ∷ spaced (v ∷ words)

-- lines with a line feed after each
abbrev pub text_of : List (List (List ℕ)) → List ℕ
text_of lines = flat_map (λ words. spaced words ++ 10 ∷ []) lines
