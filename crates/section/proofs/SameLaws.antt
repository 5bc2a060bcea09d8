-- The decoded meaning is normalised: two decoded rows, and two decoded functions, are equal exactly when document 01 calls
-- them the same. A row is decoded from its start, base, signed bit and list of offsets alone, and tells each of these.
-- Assumes nothing.
use mathlib.Core.Path.{◌≡◌, refl, sym, ◌∙◌, ap}
use mathlib.Core.Bool.{Bool, true, false, ◌&&◌, false≢true}
use mathlib.Core.List.{List, [], ◌∷◌}
use mathlib.Core.Logic.{◌↔◌}
use Prim.Native.Nat.{ℕ, zero, suc, ◌≤◌, ◌<◌}
use native.Mathlib.Omega.{arith}
use lib.Dec.{ltb}
use lib.ListN.{length, get_or}
use borrow.Author.Tests.{ltb-true, ltb-false}
use Rattle.numbers.specs.declared.field.Order.{Order}
use Rattle.numbers.specs.declared.field.Order.TheVariants.{Little, Big}
use Rattle.numbers.specs.declared.offset.Offset.{Offset}
use Rattle.section.specs.Entry.{type_of, repeats}
use Rattle.section.specs.Header.{layout_of}
use Rattle.section.specs.Meaning.{Block, plain, repeated, area_of, shape_of, entry_in, block_of, row_place_at, row_in, function_in}
use Rattle.section.specs.Row.{info_of, base_of, count_of, offset_size_of, signed_bit, row_start, offset_in, place_in, ra_in, row_of}
use Rattle.section.specs.Same.{Allowed, offsets_in, row_offsets, SameRow, AllowedRows, SameFunction}
use Rattle.section.specs.Shape.{aarch64_shape, amd64_shape, shape}
use Rattle.section.specs.declared.entry.Entry.{Entry}
use Rattle.section.specs.declared.row.Base.{Base}
use Rattle.section.specs.declared.row.Place.{Place}
use Rattle.section.specs.declared.row.Place.TheVariants.{Register, AtOffset}
use Rattle.section.specs.declared.row.Row.{Row}
use Rattle.section.specs.declared.shape.Abi.{Abi}
use Rattle.section.specs.declared.shape.Abi.TheVariants.{Aarch64Big, Aarch64Little, Amd64}
use Rattle.section.specs.declared.shape.Shape.{Shape}
use Rattle.section.proofs.ListedLaws.{listed_length, listed_at, listed_same}

-- ---- a place, by the list of offsets

-- the place that offset k of a list names: in its register where the list has no such
place_of : List Offset → ℕ → Place
place_of [] k = Register
place_of (offset ∷ offsets) zero = AtOffset offset
place_of (offset ∷ offsets) (suc k) = place_of offsets k

place_inside : (offsets : List Offset) (k : ℕ) (d : Offset) → k < length offsets → place_of offsets k ≡ AtOffset (get_or offsets k d)
unfolding place_of
place_inside [] k d lt = absurd (omega arith)
place_inside (offset ∷ offsets) zero d lt = refl
place_inside (offset ∷ offsets) (suc k) d lt = place_inside offsets k d (omega arith)

place_past : (offsets : List Offset) (k : ℕ) → length offsets ≤ k → place_of offsets k ≡ Register
unfolding place_of
place_past [] k le = refl
place_past (offset ∷ offsets) zero le = absurd (omega arith)
place_past (offset ∷ offsets) (suc k) le = place_past offsets k (omega arith)

-- so two lists are the same that name the same places, up to a number that neither is longer than
same_places : (most : ℕ) (xs ys : List Offset) → length xs ≤ most → length ys ≤ most → ((k : ℕ) → k < most → place_of xs k ≡ place_of ys k) → xs ≡ ys
unfolding place_of
same_places most [] [] le le' same = refl
same_places most [] (y ∷ ys) le le' same = let e : Register ≡ AtOffset y = same 0 (omega arith) in cc
same_places most (x ∷ xs) [] le le' same = let e : AtOffset x ≡ Register = same 0 (omega arith) in cc
same_places zero (x ∷ xs) (y ∷ ys) le le' same = absurd (omega arith)
same_places (suc most) (x ∷ xs) (y ∷ ys) le le' same =
    let first : AtOffset x ≡ AtOffset y = same 0 (omega arith) in
    let rest : xs ≡ ys = same_places most xs ys (omega arith) (omega arith) (λ k lt. same (suc k) (omega arith)) in
    cc

-- ---- the offsets of a row

module _ (area : List ℕ) (order : Order) (info from : ℕ) where
  offsets-length : length (offsets_in area order info from) ≡ count_of info
  unfolding offsets_in
  offsets-length = listed_length (offset_in area order (offset_size_of info) from) (count_of info) 0

  offsets-at : (k : ℕ) (d : Offset) → k < count_of info → get_or (offsets_in area order info from) k d ≡ offset_in area order (offset_size_of info) from k
  unfolding offsets_in
  offsets-at = listed_at (offset_in area order (offset_size_of info) from) (count_of info)

  place-by : (k : ℕ) (test : Bool) → ltb k (count_of info) ≡ test
      → (elim test [ true ↦ AtOffset (offset_in area order (offset_size_of info) from k) | false ↦ Register ])
      ≡ place_of (offsets_in area order info from) k
  place-by k true e =
      let lt : k < count_of info = ltb-true k (count_of info) e in
      let d = offset_in area order (offset_size_of info) from k in
      sym (place_inside _ k d (rw offsets-length lt) ∙ ap AtOffset (offsets-at k d lt))
  place-by k false e = sym (place_past _ k (rw offsets-length (ltb-false k (count_of info) e)))

  place-in : (k : ℕ) → place_in area order info from k ≡ place_of (offsets_in area order info from) k
  unfolding place_in
  place-in k = place-by k (ltb k (count_of info)) refl

-- ---- a row, by its start, base, offsets and signed bit

-- RA's place: the fixed one, or the one that the second offset names
ra_from : Shape → Place → Place
ra_from shape second = elim shape.usesfixed [ true ↦ AtOffset shape.fixedra | false ↦ second ]

-- the CFA offset of no offsets at all is never used: such a count is not allowed
row_from : Shape → ℕ → Base → List Offset → Bool → Row
row_from shape start base offsets signed =
    record {
      start = start;
      base = base;
      cfa = get_or offsets 0 shape.fixedra;
      ra = ra_from shape (place_of offsets 1);
      fp = place_of offsets shape.fpindex;
      signed = signed;
    }

ra_in_lem : (area : List ℕ) (shape : Shape) (info from : ℕ)
    → ra_in area shape info from ≡ ra_from shape (place_of (offsets_in area shape.order info from) 1)
unfolding ra_in ra_from
ra_in_lem area shape info from = ap (ra_from shape) (place-in area shape.order info from 1)

row_from_lem : (area : List ℕ) (shape : Shape) (code at : ℕ) → 1 ≤ count_of (info_of area code at)
    → row_of area shape code at
    ≡ row_from shape (row_start area shape.order code at) (base_of (info_of area code at)) (row_offsets area shape.order code at)
    (shape.signs && signed_bit (info_of area code at))
unfolding row_of row_from
row_from_lem area shape code at some = simp (ra_in_lem, place-in, offsets-at)

-- ---- what a row tells of its offsets: 0 is CFA's, 1 is RA's unless RA is fixed, and one is FP's

data Told (shape : Shape) : ℕ → Type 0 where
  of_cfa : Told shape 0
  of_ra : shape.usesfixed ≡ false → Told shape 1
  of_fp : Told shape shape.fpindex

told : {shape : Shape} {k : ℕ} → Told shape k → Row → Place
told of_cfa row = AtOffset row.cfa
told (of_ra e) row = row.ra
told of_fp row = row.fp

told_is : {shape : Shape} {k : ℕ} (which : Told shape k) (start : ℕ) (base : Base) (offsets : List Offset) (signed : Bool) → 1 ≤ length offsets
    → told which (row_from shape start base offsets signed) ≡ place_of offsets k
unfolding told row_from ra_from
told_is of_cfa start base offsets signed some = sym (place_inside offsets 0 _ some)
told_is (of_ra e) start base offsets signed some = rw (e, ra_from)
told_is of_fp start base offsets signed some = refl

-- no ABI allows one that is not told
aarch64_told : (order : Order) (k : ℕ) → k < (aarch64_shape order).most → Told (aarch64_shape order) k
unfolding aarch64_shape
aarch64_told order zero lt = of_cfa
aarch64_told order (suc zero) lt = of_ra refl
aarch64_told order (suc (suc zero)) lt = of_fp
aarch64_told order (suc (suc (suc k))) lt = absurd (omega arith)

amd64_told : (k : ℕ) → k < amd64_shape.most → Told amd64_shape k
unfolding amd64_shape
amd64_told zero lt = of_cfa
amd64_told (suc zero) lt = of_fp
amd64_told (suc (suc k)) lt = absurd (omega arith)

all_told : (abi : Abi) (k : ℕ) → k < (shape abi).most → Told (shape abi) k
unfolding shape
all_told Aarch64Big = aarch64_told Big
all_told Aarch64Little = aarch64_told Little
all_told Amd64 = amd64_told

-- ---- rows

-- a bit that counts only where another is set
bit_same : (counts a b : Bool) → (counts && a ≡ counts && b) ↔ (counts ≡ true → a ≡ b)
bit_same true a b = (λ e set. e, λ same. same refl)
bit_same false a b = (λ e set. absurd (false≢true set), λ same. refl)

-- for any shape that allows no offset that is not told
by_shape : (shape : Shape) → ((k : ℕ) → k < shape.most → Told shape k) → (area : List ℕ) (code at : ℕ) (area' : List ℕ) (code' at' : ℕ)
    → Allowed shape (info_of area code at) → Allowed shape (info_of area' code' at')
    → (row_of area shape code at ≡ row_of area' shape code' at') ↔ SameRow shape area code at area' code' at'
unfolding row_from
by_shape shape all area code at area' code' at' one other =
    let row = row_from_lem area shape code at one.0 in
    let row' = row_from_lem area' shape code' at' other.0 in (
      λ e.
          let from = sym row ∙ e ∙ row' in
          record {
            start = ap (λ row. row.start) from;
            base = ap (λ row. row.base) from;
            offsets =
                same_places shape.most _ _ (rw offsets-length one.1) (rw offsets-length other.1) λ k lt.
                sym (told_is (all k lt) _ _ _ _ (rw offsets-length one.0))
                ∙ ap (told (all k lt)) from
                ∙ told_is (all k lt) _ _ _ _ (rw offsets-length other.0);
            signed = (bit_same shape.signs _ _).0 (ap (λ row. row.signed) from);
          },
      λ same. row ∙ rw (same.start, same.base, same.offsets, (bit_same shape.signs _ _).1 same.signed) (sym row'),
    )

-- two rows are decoded to equal ones exactly when they are the same
pub row_same : (abi : Abi) (area : List ℕ) (code at : ℕ) (area' : List ℕ) (code' at' : ℕ)
    → Allowed (shape abi) (info_of area code at) → Allowed (shape abi) (info_of area' code' at')
    → (row_of area (shape abi) code at ≡ row_of area' (shape abi) code' at') ↔ SameRow (shape abi) area code at area' code' at'
row_same abi = by_shape (shape abi) (all_told abi)

-- ---- functions

block_by : (a b : Bool) (m n : ℕ)
    → (◌≡◌ {A = Block} (elim a [ true ↦ repeated m | false ↦ plain ]) (elim b [ true ↦ repeated n | false ↦ plain ])) ↔ ((a ≡ b) × (a ≡ true → m ≡ n))
block_by true true m n = (λ e. (refl, λ set. cc), λ h. ap repeated (h.1 refl))
block_by true false m n = (λ e. (cc, λ set. cc), λ h. let kind = h.0 in cc)
block_by false true m n = (λ e. (cc, λ set. cc), λ h. let kind = h.0 in cc)
block_by false false m n = (λ e. (refl, λ set. cc), λ h. refl)

block_same : (one other : Entry)
    → (block_of one ≡ block_of other)
    ↔ ((repeats one.info ≡ repeats other.info) × (repeats one.info ≡ true → one.repeat ≡ other.repeat))
unfolding block_of
block_same one other = block_by (repeats one.info) (repeats other.info) one.repeat other.repeat

-- row k of function i and row k of function j, of two sections of one ABI
row_in_same : (s t : List ℕ) (i j k : ℕ) → (layout_of s).abi ≡ (layout_of t).abi
    → Allowed (shape_of s) (info_of (area_of s) (type_of (entry_in s i).info) (row_place_at s i k))
    → Allowed (shape_of t) (info_of (area_of t) (type_of (entry_in t j).info) (row_place_at t j k))
    → (row_in (area_of s) (shape_of s) (entry_in s i) k ≡ row_in (area_of t) (shape_of t) (entry_in t j) k)
    ↔ SameRow (shape_of s) (area_of s) (type_of (entry_in s i).info) (row_place_at s i k) (area_of t) (type_of (entry_in t j).info) (row_place_at t j k)
unfolding shape_of row_in
row_in_same s t i j k abi one other = rw (← abi) (row_same (layout_of s).abi _ _ _ _ _ _ one (rw (← abi) at other))

-- two functions of sections of one ABI are decoded to equal ones exactly when they are the same
pub function_same : (s t : List ℕ) (i j : ℕ) → (layout_of s).abi ≡ (layout_of t).abi → AllowedRows s i → AllowedRows t j
    → (function_in s i ≡ function_in t j) ↔ SameFunction s i t j
unfolding function_in
function_same s t i j abi one other = (
  λ e.
      let (kind, repeat) = (block_same (entry_in s i) (entry_in t j)).0 (ap (λ function. function.block) e) in
      let (count, rows) = (listed_same _ _ (entry_in s i).rows (entry_in t j).rows).0 (ap (λ function. function.rows) e) in
      record {
        start = ap (λ function. function.start) e;
        size = ap (λ function. function.size) e;
        kind = kind;
        repeat = repeat;
        count = count;
        rows = λ k lt. (row_in_same s t i j k abi (one k lt) (other k (omega arith))).0 (rows k lt);
      },
  λ same.
      cc (
        (block_same (entry_in s i) (entry_in t j)).1 (same.kind, same.repeat),
        (listed_same _ _ (entry_in s i).rows (entry_in t j).rows).1
            (same.count, λ k lt. (row_in_same s t i j k abi (one k lt) (other k (omega arith))).1 (same.rows k lt)),
      ),
)
