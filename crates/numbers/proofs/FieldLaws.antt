-- The laws of a field, each once for every width and both orders. `by_digits` is what every reader's proof cites: a field is
-- what its digits make, each digit read at its own place.
-- Assumes nothing.
use mathlib.Core.Path.{◌≡◌, refl, sym, ◌∙◌, ap}
use mathlib.Core.List.{List, [], ◌∷◌, reverse, reverse-append}
use Prim.Native.Nat.{ℕ, zero, suc, ◌+◌, ◌-◌, ◌*◌, ◌^◌, ◌≤◌, ◌<◌}
use native.Mathlib.Nat.{add-zero, pow-succ', pow-le-pow_right}
use Rattle.std.proofs.Common.{add-one}
use native.Mathlib.Omega.{arith}
use lib.Dec.{lit<}
use lib.ListN.{length, take, drop, get_or, length-drop}
use lib.Seq.{take-suc, drop-cons, get_or-drop}
use Rattle.numbers.specs.Field.{digits, number_in, field_of, byte_of}
use Rattle.numbers.specs.Inner.Digits.{digit_place}
use Rattle.numbers.specs.declared.field.Order.{Order}
use Rattle.numbers.specs.declared.field.Order.TheVariants.{Little, Big}

-- the n values of f from k on
abbrev pub values_of : (ℕ → ℕ) → ℕ → ℕ → List ℕ
values_of f zero k = []
values_of f (suc n) k = f k ∷ values_of f n (suc k)

forward : (bytes : List ℕ) (at n k : ℕ) → at + k + n ≤ length bytes → take n (drop (at + k) bytes) ≡ values_of (λ j. get_or bytes (at + j) 0) n k
forward bytes at zero k h = refl
forward bytes at (suc n) k h =
    let inside : at + k < length bytes = omega arith in
    let next : suc (at + k) ≡ at + suc k = omega arith in
    rw (drop-cons bytes (at + k) 0) (ap (λ l. get_or bytes (at + k) 0 ∷ l) (rw next (forward bytes at n (suc k) (omega arith))))

backward : (bytes : List ℕ) (at width n k : ℕ) → at + width ≤ length bytes → n + k ≡ width
    → reverse (take n (drop at bytes)) ≡ values_of (λ j. get_or bytes (at + (width - 1 - j)) 0) n k
backward bytes at width zero k h e = refl
backward bytes at width (suc n) k h e =
    let inside : n < length (drop at bytes) = simp length-drop (omega arith) in
    let place : width - 1 - k ≡ n = omega arith in
    rw (take-suc (drop at bytes) n 0, reverse-append, get_or-drop, place)
    (ap (λ l. get_or bytes (at + n) 0 ∷ l) (backward bytes at width n (suc k) h (omega arith)))

-- a field is what its digits make
pub by_digits : (bytes : List ℕ) (at width : ℕ) (order : Order) → at + width ≤ length bytes
    → field_of bytes at width order ≡ digits (values_of (λ k. get_or bytes (digit_place order at width k) 0) width 0)
unfolding field_of number_in digit_place
by_digits bytes at width Little h = ap digits (rw add-zero at (forward bytes at width 0 (omega arith)))
by_digits bytes at width Big h = ap digits (backward bytes at width width 0 h (omega arith))

-- ---- from the highest digit down

-- the digit below the k highest ones is put behind them
pub digit_more : (f : ℕ → ℕ) (k n number digit : ℕ) → k < n → number ≡ digits (values_of f k (n - k)) → digit ≡ f (n - 1 - k)
    → 256 * number + digit ≡ digits (values_of f (k + 1) (n - (k + 1)))
unfolding digits
digit_more f k n number digit h e i =
    let left : n - (k + 1) ≡ n - 1 - k = omega arith in
    let above : n - k ≡ suc (n - 1 - k) = omega arith in
    rw (left, add-one) (rw (e, i, above) (omega arith))

pub digit_below : (k number digit : ℕ) → number < 256 ^ k → digit < 256 → 256 * number + digit < 256 ^ (k + 1)
digit_below k number digit h i = rw (add-one, pow-succ') (omega arith)

-- and the number has room for it
pub digit_fits : (number k n : ℕ) → number < 256 ^ k → k < n → n ≤ 8 → 256 * number + 255 < 2 ^ 64
digit_fits number k n h i j =
    let few : k ≤ 7 = omega arith in
    let most : 256 ^ k ≤ 256 ^ 7 = pow-le-pow_right (lit< tt) few in
    omega arith

-- with all digits it is the field
pub digits_all : (bytes : List ℕ) (at width k number : ℕ) (order : Order) → at + width ≤ length bytes → k ≤ width → width ≤ k
    → number ≡ digits (values_of (λ j. get_or bytes (digit_place order at width j) 0) k (width - k))
    → number ≡ field_of bytes at width order
digits_all bytes at width k number order h i l e =
    let all : k ≡ width = omega arith in
    let none : width - k ≡ 0 = omega arith in
    rw (by_digits bytes at width order h) ((rw (none, all) at e))

-- one byte is one digit, in either order
one_digit : (bytes : List ℕ) (at : ℕ) (order : Order) → at + 1 ≤ length bytes → field_of bytes at 1 order ≡ get_or bytes at 0
unfolding digits digit_place
one_digit bytes at Little h = by_digits bytes at 1 Little h ∙ simp add-zero
one_digit bytes at Big h = by_digits bytes at 1 Big h ∙ simp add-zero

pub byte_is : (bytes : List ℕ) (at : ℕ) → at + 1 ≤ length bytes → get_or bytes at 0 ≡ byte_of bytes at
unfolding byte_of
byte_is bytes at h = sym (one_digit bytes at Little h)

pub byte_in : (bytes : List ℕ) (at : ℕ) (order : Order) → at + 1 ≤ length bytes → byte_of bytes at ≡ field_of bytes at 1 order
byte_in bytes at order h = sym (byte_is bytes at h) ∙ sym (one_digit bytes at order h)

-- ---- how large a field is

digits_below : (f : ℕ → ℕ) → ((j : ℕ) → f j < 256) → (n k : ℕ) → digits (values_of f n k) < 256 ^ n
unfolding digits
digits_below f h zero k = lit< tt
digits_below f h (suc n) k = rw pow-succ' (omega (arith, h k, digits_below f h n (suc k)))

-- a field whose bytes are below 256 is below 256 ^ width
pub field_below : (bytes : List ℕ) → ((k : ℕ) → get_or bytes k 0 < 256) → (at width : ℕ) (order : Order) → at + width ≤ length bytes
    → field_of bytes at width order < 256 ^ width
field_below bytes small at width order h =
    rw (by_digits bytes at width order h) (digits_below _ (λ j. small (digit_place order at width j)) width 0)
