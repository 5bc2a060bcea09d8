-- What the digits of a number come to: one more behind those read, how large it all gets, and what stands in front of them.
-- Assumes nothing.
use mathlib.Core.Path.{◌≡◌, refl, sym}
use mathlib.Core.Bool.{Bool, true, false, ◌&&◌}
use mathlib.Core.List.{List, [], ◌∷◌}
use Prim.Native.Nat.{ℕ, suc, ◌+◌, ◌-◌, ◌*◌, ◌^◌, ◌≤◌, ◌<◌}
use native.Mathlib.Numerals.{add-one}
use native.Mathlib.Nat.{pow-le-pow_right, pow-succ', mul-le-mul_left, mul-suc}
use native.Mathlib.Omega.{arith}
use lib.Dec.{eqb}
use lib.ListN.{length, take, drop, get_or, length-drop, drop_of_length-le}
use lib.Seq.{drop-cons, take_all}
use borrow.Author.Tests.{eq-eqb, ne_eqb, le-leb, lt-leb, lt-ltb, le-ltb}
use Rattle.digits.specs.Digits.{is_between, digit_of, digits_from, digits_of, padding, number_of, is_x, marked, hex_of}
use Rattle.std.specs.Prelude.{Some, None}

-- ---- between two bounds

pub between : (low high n : ℕ) → low ≤ n → n ≤ high → is_between low high n ≡ true
between low high n p q = rw (le-leb low n p) (le-leb n high q)

pub below : (low high n : ℕ) → n < low → is_between low high n ≡ false
below low high n p = rw (lt-leb low n p)

pub above : (low high n : ℕ) → low ≤ n → high < n → is_between low high n ≡ false
above low high n p q = rw (le-leb low n p) (lt-leb n high q)

-- ---- how many digits

module _ (base most : ℕ) (text : List ℕ) where
  pub too_few : length text < 1 → digits_of base most text ≡ None
  unfolding digits_of
  too_few p = rw (below 1 most (length text) p, digits_of)

  pub too_many : 1 ≤ length text → most < length text → digits_of base most text ≡ None
  unfolding digits_of
  too_many o p = rw (above 1 most (length text) o p, digits_of)

  pub enough : 1 ≤ length text → length text ≤ most → digits_of base most text ≡ digits_from base 0 text
  unfolding digits_of
  enough p q = rw (between 1 most (length text) p q, digits_of)

-- ---- the digits from place i on, behind those that make n

module _ (base n : ℕ) (text : List ℕ) (i : ℕ) where
  pub digits_more : (d : ℕ) → i < length text → d ≡ digit_of (get_or text i 0) → d < base
      → digits_from base n (drop i text) ≡ digits_from base (base * n + d) (drop (i + 1) text)
  unfolding digits_from
  digits_more d p e q =
      rw (add-one, e, drop-cons text i 0 p) (rw (lt-ltb (digit_of (get_or text i 0)) base (rw e at q), digits_from))

  pub digits_wrong : (d : ℕ) → i < length text → d ≡ digit_of (get_or text i 0) → base ≤ d
      → digits_from base n (drop i text) ≡ None
  unfolding digits_from
  digits_wrong d p e q =
      rw (drop-cons text i 0 p) (rw (le-ltb (digit_of (get_or text i 0)) base (rw e at q), digits_from))

  pub digits_done : length text ≤ i → digits_from base n (drop i text) ≡ Some n
  unfolding digits_from
  digits_done p = rw (drop_of_length-le text p)

-- ---- how large

-- one more digit stays below the next power
pub one_more : (base n i d : ℕ) → n < base ^ i → d < base → base * n + d < base ^ (i + 1)
one_more base n i d p q =
    let room : base * suc n ≤ base * base ^ i = mul-le-mul_left base p in
    rw (add-one, pow-succ') (omega (arith, mul-suc base n))

-- and fewer than the most digits leave room for it
pub room_for_one : (base most n i d : ℕ) → 2 ≤ base → base ^ most ≤ 2 ^ 64 → i < most → n < base ^ i → d < base → base * n + d < 2 ^ 64
room_for_one base most n i d two fits less p q =
    let next = one_more base n i d p q in
    let powers : base ^ (i + 1) ≤ base ^ most = pow-le-pow_right {n = base} (omega arith) {i = i + 1} {j = most} (omega arith) in
    omega arith

-- ---- leading zeros

-- the last byte is no leading zero
padding_last : (text : List ℕ) → length text < 2 → padding text ≡ 0
unfolding padding
padding_last [] p = refl
padding_last (byte ∷ []) p = refl
padding_last (byte ∷ next ∷ text) p = absurd (omega arith)

two_of : (text : List ℕ) → 2 ≤ length text → text ≡ get_or text 0 0 ∷ get_or text 1 0 ∷ drop 2 text
two_of [] p = absurd (omega arith)
two_of (byte ∷ []) p = absurd (omega arith)
two_of (byte ∷ next ∷ text) p = refl

padding_other : (text : List ℕ) → 2 ≤ length text → (get_or text 0 0 ≡ 48 → ⊥) → padding text ≡ 0
unfolding padding
padding_other [] p n = refl
padding_other (byte ∷ []) p n = refl
padding_other (byte ∷ next ∷ text) p n = rw (ne_eqb byte 48 n, padding)

padding_zero : (text : List ℕ) → 2 ≤ length text → get_or text 0 0 ≡ 48 → padding text ≡ suc (padding (drop 1 text))
unfolding padding
padding_zero [] p e = absurd (omega arith)
padding_zero (byte ∷ []) p e = absurd (omega arith)
padding_zero (byte ∷ next ∷ text) p e = rw (eq-eqb byte 48 e, padding)

-- no more zeros go in front than there are bytes
pub padding_within : (text : List ℕ) → padding text ≤ length text
unfolding padding
padding_within [] = omega arith
padding_within (byte ∷ []) = omega arith
padding_within (byte ∷ next ∷ text) = either (eqb byte 48) (padding_within (next ∷ text)) where
  either : (is_zero : Bool) → padding (next ∷ text) ≤ length (next ∷ text)
      → elim is_zero [ true ↦ suc (padding (next ∷ text)) | false ↦ 0 ] ≤ length (byte ∷ next ∷ text)
  either true p = omega arith
  either false p = omega arith

-- the code's part of text behind its first bytes
behind : (n : ℕ) (text : List ℕ) → take (length text - n) (drop n text) ≡ drop n text
behind n text = take_all (length text - n) (drop n text) (simp length-drop (omega arith))

-- text without its leading zeros: a zero taken off, and none left, either at the last byte or at another
pub zero_off : (text : List ℕ) → 2 ≤ length text → get_or text 0 0 ≡ 48
    → drop (padding (take (length text - 1) (drop 1 text))) (take (length text - 1) (drop 1 text)) ≡ drop (padding text) text
zero_off [] p e = absurd (omega arith)
zero_off (byte ∷ text) p e = rw (behind 1 (byte ∷ text)) (rw (padding_zero (byte ∷ text) p e) refl)

pub last_left : (text : List ℕ) → length text < 2 → text ≡ drop (padding text) text
last_left text p = rw (padding_last text p) refl

pub other_left : (text : List ℕ) → 2 ≤ length text → (get_or text 0 0 ≡ 48 → ⊥) → text ≡ drop (padding text) text
other_left text p n = rw (padding_other text p n) refl

-- ---- the leading 0x

zero_x : (text : List ℕ) → 2 ≤ length text → get_or text 0 0 ≡ 48 → is_x (get_or text 1 0) ≡ true → marked text ≡ true
unfolding marked
zero_x text p e f = rw (eq-eqb (get_or text 0 0) 48 e, marked) f

marked_hex : (text : List ℕ) → marked text ≡ true → hex_of text ≡ number_of 16 16 (take (length text - 2) (drop 2 text))
unfolding hex_of
marked_hex text e = rw (behind 2 text) (rw (e, hex_of) refl)

plain_hex : (text : List ℕ) → marked text ≡ false → hex_of text ≡ number_of 16 16 text
unfolding hex_of
plain_hex text e = rw (e, hex_of) refl

small_x : (byte : ℕ) → byte ≡ 120 → is_x byte ≡ true
unfolding is_x
small_x byte e = rw (eq-eqb byte 120 e, is_x) refl

capital_x : (byte : ℕ) → byte ≡ 88 → is_x byte ≡ true
unfolding is_x
capital_x byte e = rw e refl

no_x : (byte : ℕ) → (byte ≡ 120 → ⊥) → (byte ≡ 88 → ⊥) → is_x byte ≡ false
unfolding is_x
no_x byte m n = rw (ne_eqb byte 120 m, is_x) (ne_eqb byte 88 n)

and_false : (b : Bool) → (b && false) ≡ false
and_false true = refl
and_false false = refl

short : (text : List ℕ) → length text < 2 → marked text ≡ false
unfolding marked is_x
short [] p = refl
short (a ∷ []) p = and_false (eqb a 48)
short (a ∷ b ∷ text) p = absurd (omega arith)

module _ (text : List ℕ) where
  pub hex_small : 2 ≤ length text → get_or text 0 0 ≡ 48 → get_or text 1 0 ≡ 120
      → number_of 16 16 (take (length text - 2) (drop 2 text)) ≡ hex_of text
  hex_small p e f = sym (marked_hex text (zero_x text p e (small_x _ f)))

  pub hex_capital : 2 ≤ length text → get_or text 0 0 ≡ 48 → get_or text 1 0 ≡ 88
      → number_of 16 16 (take (length text - 2) (drop 2 text)) ≡ hex_of text
  hex_capital p e f = sym (marked_hex text (zero_x text p e (capital_x _ f)))

  -- text that is too short, that begins otherwise, or with another byte behind its 0
  pub hex_short : length text < 2 → number_of 16 16 text ≡ hex_of text
  hex_short p = sym (plain_hex text (short text p))

  pub hex_other : (get_or text 0 0 ≡ 48 → ⊥) → number_of 16 16 text ≡ hex_of text
  unfolding marked
  hex_other n = sym (plain_hex text (rw (ne_eqb (get_or text 0 0) 48 n, marked) refl))

  pub hex_unmarked : get_or text 0 0 ≡ 48 → (get_or text 1 0 ≡ 120 → ⊥) → (get_or text 1 0 ≡ 88 → ⊥)
      → number_of 16 16 text ≡ hex_of text
  unfolding marked
  hex_unmarked e m n = sym (plain_hex text (rw (eq-eqb (get_or text 0 0) 48 e, marked) (no_x _ m n)))
