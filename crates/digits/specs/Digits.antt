-- What text on the command line is as a number: an address in hexadecimal, 1 to 16 digits, with or without a leading 0x or 0X; a
-- count in decimal, 1 to 19 digits. Leading zeros do not count. Text is the list of its bytes.
use Rattle.std.specs.Prelude.{ℕ, suc, ◌+◌, ◌-◌, ◌*◌, Bool, true, false, ◌&&◌, ◌||◌, List, [], ◌∷◌, eqb, leb, ltb, length, drop, get_or, Option, Some, None}

-- whether n lies from low to high
abbrev pub is_between : ℕ → ℕ → ℕ → Bool
is_between low high n = leb low n && leb n high

-- the value of a digit by its byte: 0 to 9, A to F and a to f; 16 of any other byte
unfoldable pub digit_of : ℕ → ℕ
digit_of byte =
    elim (is_between 48 57 byte) [
      | true ↦ byte - 48
      | false ↦ elim (is_between 65 70 byte)
          [ true ↦ byte - 55 | false ↦ elim (is_between 97 102 byte) [ true ↦ byte - 87 | false ↦ 16 ] ]
    ]

-- the number that digits to a base make behind those read so far, which make n; none where a byte is no digit of that base
unfoldable pub digits_from : ℕ → ℕ → List ℕ → Option ℕ
digits_from base n [] = Some n
digits_from base n (byte ∷ text) =
    elim (ltb (digit_of byte) base) [ true ↦ digits_from base (base * n + digit_of byte) text | false ↦ None ]

-- the number that 1 to `most` digits make
unfoldable pub digits_of : ℕ → ℕ → List ℕ → Option ℕ
digits_of base most text = elim (is_between 1 most (length text)) [ true ↦ digits_from base 0 text | false ↦ None ]

-- how many zeros stand in front of another byte
unfoldable pub padding : List ℕ → ℕ
padding [] = 0
padding (byte ∷ []) = 0
padding (byte ∷ next ∷ text) = elim (eqb byte 48) [ true ↦ suc (padding (next ∷ text)) | false ↦ 0 ]

-- the number that 1 to `most` digits make behind their leading zeros
unfoldable pub number_of : ℕ → ℕ → List ℕ → Option ℕ
number_of base most text = digits_of base most (drop (padding text) text)

-- x or X
unfoldable pub is_x : ℕ → Bool
is_x byte = eqb byte 120 || eqb byte 88

-- whether text begins with 0x or 0X
unfoldable pub marked : List ℕ → Bool
marked text = eqb (get_or text 0 0) 48 && is_x (get_or text 1 0)

-- the hexadecimal number that text says, with or without a leading 0x or 0X
unfoldable pub hex_of : List ℕ → Option ℕ
hex_of text = elim (marked text) [ true ↦ number_of 16 16 (drop 2 text) | false ↦ number_of 16 16 text ]

-- the decimal number that text says: 19 digits make less than 2 ^ 64
unfoldable pub decimal_of : List ℕ → Option ℕ
decimal_of text = number_of 10 19 text
