-- Numbers written out as text, and what is no number: the definition computes.
-- Assumes nothing.
use mathlib.Core.Path.{◌≡◌, refl}
use mathlib.Core.List.{List, [], ◌∷◌, ◌++◌}
use Prim.Native.Nat.{ℕ, ◌-◌, ◌^◌}
use Rattle.digits.specs.Digits.{digit_of, digits_from, digits_of, padding, number_of, is_x, marked, hex_of, decimal_of}
use Rattle.std.specs.Prelude.{Some, None}

-- eight times the letter f
eight : List ℕ
eight = 102 ∷ 102 ∷ 102 ∷ 102 ∷ 102 ∷ 102 ∷ 102 ∷ 102 ∷ []

-- 1f and 0x1F are 31
plain : hex_of (49 ∷ 102 ∷ []) ≡ Some 31
unfolding digit_of digits_from digits_of padding number_of is_x marked hex_of
plain = refl

with_mark_lem : hex_of (48 ∷ 120 ∷ 49 ∷ 70 ∷ []) ≡ Some 31
unfolding digit_of digits_from digits_of padding number_of is_x marked hex_of
with_mark_lem = refl

-- the mark's letter may be a capital
with_capital : hex_of (48 ∷ 88 ∷ 49 ∷ 102 ∷ []) ≡ Some 31
unfolding digit_of digits_from digits_of padding number_of is_x marked hex_of
with_capital = refl

-- 16 digits reach the largest word, and a 17th is wrong, unless it is a zero in front
largest : hex_of (48 ∷ 120 ∷ eight ++ eight) ≡ Some (2 ^ 64 - 1)
unfolding eight digit_of digits_from digits_of padding number_of is_x marked hex_of
largest = refl

too_long : hex_of (49 ∷ eight ++ eight) ≡ None
unfolding eight digit_of digits_from digits_of padding number_of is_x marked hex_of
too_long = refl

padded : hex_of (48 ∷ 120 ∷ 48 ∷ 48 ∷ eight ++ eight) ≡ Some (2 ^ 64 - 1)
unfolding eight digit_of digits_from digits_of padding number_of is_x marked hex_of
padded = refl

zeros : hex_of (48 ∷ 48 ∷ []) ≡ Some 0
unfolding digit_of digits_from digits_of padding number_of is_x marked hex_of
zeros = refl

-- no digit at all, 0x alone, and a g
empty : hex_of [] ≡ None
unfolding digit_of digits_from digits_of padding number_of is_x marked hex_of
empty = refl

mark_alone : hex_of (48 ∷ 120 ∷ []) ≡ None
unfolding digit_of digits_from digits_of padding number_of is_x marked hex_of
mark_alone = refl

no_digit : hex_of (49 ∷ 103 ∷ []) ≡ None
unfolding digit_of digits_from digits_of padding number_of is_x marked hex_of
no_digit = refl

-- ---- decimal: 64 is 64, zeros in front do not count, and neither a letter, nor a mark, nor a 20th digit is taken

ten : List ℕ
ten = 57 ∷ 57 ∷ 57 ∷ 57 ∷ 57 ∷ 57 ∷ 57 ∷ 57 ∷ 57 ∷ 57 ∷ []

count : decimal_of (54 ∷ 52 ∷ []) ≡ Some 64
unfolding digit_of digits_from digits_of padding number_of decimal_of
count = refl

most_nines : decimal_of (48 ∷ 48 ∷ 57 ∷ 57 ∷ 57 ∷ 57 ∷ 57 ∷ 57 ∷ 57 ∷ 57 ∷ 57 ∷ ten) ≡ Some (10 ^ 19 - 1)
unfolding ten digit_of digits_from digits_of padding number_of decimal_of
most_nines = refl

no_letter : decimal_of (97 ∷ []) ≡ None
unfolding digit_of digits_from digits_of padding number_of decimal_of
no_letter = refl

no_mark : decimal_of (48 ∷ 120 ∷ 49 ∷ []) ≡ None
unfolding digit_of digits_from digits_of padding number_of decimal_of
no_mark = refl

twenty : decimal_of (ten ++ ten) ≡ None
unfolding ten digit_of digits_from digits_of padding number_of decimal_of
twenty = refl
