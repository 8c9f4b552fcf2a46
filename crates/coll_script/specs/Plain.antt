-- What reading a text and answering it may end in.
use Rattle.std.specs.Prelude.{◌≡◌, List, ℕ, Bool, true, Option, IfSome, Ok, Err}
use Rattle.std.specs.Io.KnownBytes.{Appends}
use Rattle.coll_script.specs.Meaning.{meaning, HasMeaning}
use Rattle.coll_script.specs.declared.fault.JobFault.{JobFault}
use Rattle.coll_script.specs.declared.fault.JobFault.TheVariants.{Read, Write, Text, Memory}

-- the faults of reading
abbrev pub IsReadFault : JobFault → Type 0
IsReadFault Read = Unit {0}
IsReadFault Memory = Unit {0}
IsReadFault fault = ⊥

-- a read fault comes of a reader that failed, and a write fault of a writer that did
abbrev pub HasCause : JobFault → Bool → Bool → Type 0
HasCause Read reader writer = reader ≡ true
HasCause Write reader writer = writer ≡ true
HasCause fault reader writer = Unit {0}

-- the faults of a plain job; a fault of the text is the one that its definition gives, where the text is known
abbrev pub IsPlainFault : Option (List ℕ) → JobFault → Type 0
IsPlainFault input Read = Unit {0}
IsPlainFault input Write = Unit {0}
IsPlainFault input (Text fault) = IfSome input (λ text. meaning text ≡ Err fault)
IsPlainFault input Memory = Unit {0}
IsPlainFault input fault = ⊥

-- the faults of explaining or running a text: that of the text is the one that its definition gives, and only a text
-- without one is explained or run
abbrev pub IsFaultOf : List ℕ → JobFault → Type 0
IsFaultOf text Read = ⊥
IsFaultOf text Write = ⊥
IsFaultOf text (Text fault) = meaning text ≡ Err fault
IsFaultOf text Memory = Unit {0}
IsFaultOf text fault = HasMeaning text

-- the same of what is read, where the text is known
abbrev pub IsInputFault : Option (List ℕ) → JobFault → Type 0
IsInputFault input Read = Unit {0}
IsInputFault input Write = Unit {0}
IsInputFault input Memory = Unit {0}
IsInputFault input fault = IfSome input (λ text. IsFaultOf text fault)

-- the writer, which held old, holds the lines of the text's meaning after it, where the bytes are known
abbrev pub WritesMeaning : List ℕ → Option (List ℕ) → Option (List ℕ) → Type 0
WritesMeaning text old new =
    (lines : List ℕ)
    × (meaning text ≡ Ok lines)
    × Appends old new lines

-- the faults of an answer to a text
abbrev pub IsAnswerFault : List ℕ → JobFault → Type 0
IsAnswerFault text (Text fault) = meaning text ≡ Err fault
IsAnswerFault text Memory = Unit {0}
IsAnswerFault text fault = ⊥
