-- Texts as strings of JSON.
use Rattle.std.specs.Prelude.{ℕ, ◌+◌, ◌-◌, ◌/◌, ◌%◌, ◌==◌, ◌||◌, ◌++◌, [], ◌∷◌, List, flat_map, codes, nat_lt, if◌then◌else◌}

-- the digit of a number below 16
abbrev pub hex_digit : ℕ → ℕ
hex_digit number = if nat_lt number 10 then 48 + number else 97 + (number - 10)

-- the number of a character
abbrev pub code_text : ℕ → List ℕ
code_text byte = codes "\\u00" ++ (hex_digit (byte / 16) ∷ hex_digit (byte % 16) ∷ [])

-- a byte: a quotation mark and a backslash have a backslash before them, and what can't be printed, and a <, is written as its number
abbrev pub byte_text : ℕ → List ℕ
byte_text byte =
    if byte == 34 || byte == 92 then 92 ∷ byte ∷ []
    else (if nat_lt byte 32 || byte == 60 then code_text byte else byte ∷ [])

-- a text between quotation marks
abbrev pub quoted : List ℕ → List ℕ
quoted text = codes "\"" ++ (flat_map byte_text text ++ codes "\"")
