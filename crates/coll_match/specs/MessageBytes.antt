-- What a message shows.
use Rattle.std.specs.Prelude.{ℕ, List, Box, None, Option, Some, Vec}
use Rattle.std.specs.Global.{Global}
use Rattle.coll_ops.specs.Values.{all_rows}
use Rattle.coll_match.specs.declared.message.MessageParts.{MessageParts}
use Rattle.coll_match.specs.declared.message.MessageParts.TheVariants.{Several, Whole}

-- the pieces, one after the other
abbrev pub bytes_of : MessageParts → List ℕ
bytes_of (Whole bytes) = bytes
bytes_of (Several parts) = all_rows parts.items

-- the pieces, if there are several, else the bytes in one piece
abbrev pub message_bytes : List ℕ → Option (Box (Vec (List ℕ) Global) Global) → List ℕ
message_bytes bytes None = bytes
message_bytes bytes (Some pieces) = all_rows pieces.value.items
