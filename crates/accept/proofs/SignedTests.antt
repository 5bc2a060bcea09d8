-- Two offsets as the code compares them: neither is below the other exactly where they are the same.
-- Assumes nothing.
use mathlib.Core.Path.{◌≡◌, ap}
use mathlib.Core.Bool.{Bool, true, false, not}
use lib.IntN.{ℤ, pos, negsuc}
use lib.Signed.{lt_z, le_z}
use mir.Syntax.{w64}
use mir.Val.{SFits, to_z, of_z}
use mir.Facts.{to_z-of_z}
use borrow.Author.Tests.{ltb-true, ltb-false, le-leb, lt-leb}

-- "below" and "not above" are opposites
turned : (a b : ℤ) (test : Bool) → lt_z a b ≡ test → le_z b a ≡ not test
turned (pos j) (pos k) true e = lt-leb k j (ltb-true j k e)
turned (pos j) (pos k) false e = le-leb k j (ltb-false j k e)
turned (pos j) (negsuc k) test e = ap not e
turned (negsuc j) (pos k) test e = ap not e
turned (negsuc j) (negsuc k) true e = lt-leb j k (ltb-true k j e)
turned (negsuc j) (negsuc k) false e = le-leb j k (ltb-false k j e)

-- the same of two that are kept as i64
pub not_above : (a b : ℤ) {test : Bool} → SFits w64 a → SFits w64 b → lt_z (to_z w64 (of_z w64 a)) (to_z w64 (of_z w64 b)) ≡ test → le_z b a ≡ not test
not_above a b {test} f g e = turned a b test (rw (to_z-of_z f, to_z-of_z g) at e)
