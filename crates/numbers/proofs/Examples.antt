-- The definitions on written-out numbers, each by computation: the readings of document 01 that a wrong program gets wrong.
-- Assumes nothing.
use mathlib.Core.Path.{◌≡◌, refl}
use mathlib.Core.Bool.{true, false}
use mathlib.Core.List.{List, [], ◌∷◌}
use Prim.Native.Nat.{ℕ, ◌-◌, ◌^◌}
use lib.IntN.{pos, negsuc}
use Rattle.std.specs.Prelude.{Some, None, Err}
use Rattle.numbers.specs.Field.{field_of}
use Rattle.numbers.specs.Signed.{signed_of}
use Rattle.numbers.specs.Start.{start_at, distance}
use Rattle.numbers.specs.Computed.Address.{address_of, window_fits, word_of}
use Rattle.numbers.specs.Computed.Number.{number_of}
use Rattle.numbers.specs.Inner.Held.{near}
use Rattle.numbers.specs.Inner.Opened.{numbers_opened}
use Rattle.numbers.specs.declared.field.NumberError.TheVariants.{Outside}
use Rattle.numbers.specs.declared.field.Order.TheVariants.{Little, Big}

-- the magic of section S, in the two orders
magic_little : field_of (0xe2 ∷ 0xde ∷ []) 0 2 Little ≡ 0xdee2
unfolding numbers_opened
magic_little = refl

magic_big : field_of (0xe2 ∷ 0xde ∷ []) 0 2 Big ≡ 0xe2de
unfolding numbers_opened
magic_big = refl

-- a number that would end one byte past the list is outside
cut : number_of (1 ∷ 2 ∷ 3 ∷ []) 0 2 Little ≡ Err Outside
unfolding numbers_opened
cut = refl

-- "Reading offset byte f0 as 240": it is -16, and in two bytes it is 240
f0_in_one : signed_of 1 0xf0 ≡ negsuc 15
unfolding numbers_opened
f0_in_one = refl

f0_in_two : signed_of 2 0xf0 ≡ pos 240
unfolding numbers_opened
f0_in_two = refl

-- the threshold of the sign: 7f is 127 and 80 is -128
seventy_f : signed_of 1 0x7f ≡ pos 127
unfolding numbers_opened
seventy_f = refl

eighty : signed_of 1 0x80 ≡ negsuc 127
unfolding numbers_opened
eighty = refl

-- a start never wraps: the field ffffffff at position 28 is 27, and 7fffffff there is past 2 ^ 31
start_below : start_at 0xffff_ffff 28 ≡ pos 27
unfolding numbers_opened
start_below = refl

start_above : start_at 0x7fff_ffff 28 ≡ pos 2147483675
unfolding numbers_opened
start_above = refl

-- "Taking PC minus section address as a wrapped signed 64-bit number": this PC lies far below the section, and wrapped it
-- would be 4096 above
far_below : distance 0xffff_ffff_ffff_f000 0 ≡ negsuc 0xffff_ffff_ffff_efff
unfolding numbers_opened
far_below = refl

far_below_held : near (distance 0xffff_ffff_ffff_f000 0) ≡ 0
unfolding numbers_opened
far_below_held = refl

-- CFA one past the last address, and one below the first, are outside
past_the_last : address_of (2 ^ 64 - 1) (pos 1) ≡ None
unfolding numbers_opened
past_the_last = refl

the_last : address_of (2 ^ 64 - 9) (pos 8) ≡ Some (2 ^ 64 - 1)
unfolding numbers_opened
the_last = refl

below_the_first : address_of 7 (negsuc 7) ≡ None
unfolding numbers_opened
below_the_first = refl

-- a word that ends with the window is inside; one byte further it is not
bytes : List ℕ
bytes = 1 ∷ 0 ∷ 0 ∷ 0 ∷ 0 ∷ 0 ∷ 0 ∷ 2 ∷ 3 ∷ []

word_at_end : word_of bytes 0x7000 0x7001 Big ≡ Some 0x203
unfolding numbers_opened bytes
word_at_end = refl

word_past_end : word_of bytes 0x7000 0x7002 Big ≡ None
unfolding numbers_opened bytes
word_past_end = refl

-- a window may end at 2 ^ 64, and not past it
ends_at_memory : window_fits bytes (2 ^ 64 - 9) ≡ true
unfolding numbers_opened bytes
ends_at_memory = refl

ends_past_memory : window_fits bytes (2 ^ 64 - 8) ≡ false
unfolding numbers_opened bytes
ends_past_memory = refl
