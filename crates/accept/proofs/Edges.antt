-- The edges of three rules. 2, over any bytes: sections of more than 16,777,216 bytes are given it, and no others. 9 and 12, each by
-- computation: row type 8 and count 9, which are 0 and 1, both allowed, to whoever leaves out the highest of their four bits.
-- Assumes nothing.
use mathlib.Core.Path.{◌≡◌, refl}
use mathlib.Core.List.{List}
use mathlib.Core.Logic.{◌↔◌}
use Prim.Native.Nat.{ℕ, ◌<◌}
use native.Mathlib.Omega.{arith}
use lib.ListN.{length, set}
use Rattle.section.specs.SectionS.{section_s}
use Rattle.accept.specs.Computed.Checks.{verdict}
use Rattle.accept.specs.Given.{number_of_rule}
use Rattle.accept.specs.declared.verdict.Rule.TheVariants.{Long}
use Rattle.accept.specs.Inner.Opened.{accept_opened}
use Rattle.accept.specs.Verdict.{Refused}
use Rattle.accept.proofs.Exactly.{given_exactly_when}

-- ---- 2: "more than 16,777,216 bytes"

pub number_2_exactly_when : (s : List ℕ) (i : ℕ) → (verdict s ≡ Refused 2 i) ↔ ((i ≡ 0) × (16777216 < length s))
unfolding number_of_rule
number_2_exactly_when s i =
    let given = given_exactly_when s Long i in (
      λ e. let (first, enough, above) = given.0 e in (first, omega arith),
      λ h. given.1 (h.0, omega arith, λ most. omega arith),
    )

pub too_long_is_2 : (s : List ℕ) → 16777216 < length s → verdict s ≡ Refused 2 0
too_long_is_2 s above = (number_2_exactly_when s 0).1 (refl, above)

pub longest_is_not_2 : (s : List ℕ) (i : ℕ) → length s ≡ 16777216 → ¬ (verdict s ≡ Refused 2 i)
longest_is_not_2 s i most e = let (first, above) = (number_2_exactly_when s i).0 e in omega arith

-- ---- 9 and 12: S with row type 8 in an entry's info byte, and with count 9 in a row's

row_type_8 : verdict (set section_s 44 0x08) ≡ Refused 9 0
unfolding accept_opened section_s
row_type_8 = refl

count_9 : verdict (set section_s 69 0x13) ≡ Refused 12 0
unfolding accept_opened section_s
count_9 = refl
