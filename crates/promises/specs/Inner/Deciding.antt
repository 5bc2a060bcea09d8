-- Whether two functions are equal can be decided, so that how often one stands in a list can be counted. It does not matter how: of two
-- functions there is one answer. Each type is decided by parts that give it back.
use Rattle.std.specs.Prelude.{◌≡◌, refl, Bool, true, false, ℕ, ℤ}
use Rattle.std.proofs.Common.{sym, ◌∙◌, ap}
use Rattle.std.proofs.Math.Bool.{Bool-discrete}
use mathlib.Core.HLevel.{×_discrete}
use mathlib.Core.List.{List, [], ◌∷◌, List-discrete}
use Rattle.std.proofs.Math.Decide.{ℕ_discrete}
use Rattle.std.proofs.Math.IntN.{ℤ_discrete}
use Rattle.numbers.specs.declared.offset.Offset.{Offset}
use Rattle.section.specs.Meaning.{Block, plain, repeated, Function}
use Rattle.section.specs.declared.row.Base.{Base}
use Rattle.section.specs.declared.row.Base.TheVariants.{Fp, Sp}
use Rattle.section.specs.declared.row.Place.{Place}
use Rattle.section.specs.declared.row.Place.TheVariants.{Register, AtOffset}
use Rattle.section.specs.declared.row.Row.{Row}

module _ {A B : Type 0} (parts : A → B) (whole : B → A) (back : (a : A) → whole (parts a) ≡ a) where
  decidedBy : (x y : A) → Dec (parts x ≡ parts y) → Dec (x ≡ y)
  decidedBy x y (yes e) = yes (sym (back x) ∙ ap whole e ∙ back y)
  decidedBy x y (no differ) = no (λ e. differ (ap parts e))

  pub by_parts : Discrete B → Discrete A
  by_parts decide x y = decidedBy x y (decide (parts x) (parts y))

Offset-discrete : Discrete Offset
Offset-discrete = by_parts (λ offset. offset.by) (λ by. record { by = by }) (λ offset. refl) ℤ_discrete

is_sp : Base → Bool
is_sp Fp = false
is_sp Sp = true

base_from : Bool → Base
base_from false = Fp
base_from true = Sp

base_back : (base : Base) → base_from (is_sp base) ≡ base
unfolding is_sp base_from
base_back Fp = refl
base_back Sp = refl

Base-discrete : Discrete Base
Base-discrete = by_parts is_sp base_from base_back Bool-discrete

-- a place is an offset or none, and a block a repeat size or none
offset_of_place : Place → List Offset
offset_of_place Register = []
offset_of_place (AtOffset offset) = offset ∷ []

place_from : List Offset → Place
place_from [] = Register
place_from (offset ∷ offsets) = AtOffset offset

place_back : (place : Place) → place_from (offset_of_place place) ≡ place
unfolding offset_of_place place_from
place_back Register = refl
place_back (AtOffset offset) = refl

Place-discrete : Discrete Place
Place-discrete = by_parts offset_of_place place_from place_back (List-discrete Offset-discrete)

block_size : Block → List ℕ
block_size plain = []
block_size (repeated size) = size ∷ []

block_from : List ℕ → Block
block_from [] = plain
block_from (size ∷ sizes) = repeated size

block_back : (block : Block) → block_from (block_size block) ≡ block
unfolding block_size block_from
block_back plain = refl
block_back (repeated size) = refl

Block-discrete : Discrete Block
Block-discrete = by_parts block_size block_from block_back (List-discrete ℕ_discrete)

abbrev RowParts : Type 0
RowParts = (ℕ × Base) × ((Offset × Place) × (Place × Bool))

pub Row-discrete : Discrete Row
Row-discrete =
    by_parts {B = RowParts}
    (λ row. ((row.start, row.base), ((row.cfa, row.ra), (row.fp, row.signed))))
    (λ parts.
    record {
      start = parts.0.0;
      base = parts.0.1;
      cfa = parts.1.0.0;
      ra = parts.1.0.1;
      fp = parts.1.1.0;
      signed = parts.1.1.1;
    })
    (λ row. refl)
    (×_discrete (×_discrete ℕ_discrete Base-discrete)
    (×_discrete (×_discrete Offset-discrete Place-discrete) (×_discrete Place-discrete Bool-discrete)))

abbrev FunctionParts : Type 0
FunctionParts = (ℤ × ℕ) × (Block × List Row)

pub Function-discrete : Discrete Function
Function-discrete =
    by_parts {B = FunctionParts}
    (λ f. ((f.start, f.size), (f.block, f.rows)))
    (λ parts. record { start = parts.0.0; size = parts.0.1; block = parts.1.0; rows = parts.1.1 })
    (λ f. refl)
    (×_discrete (×_discrete ℤ_discrete ℕ_discrete) (×_discrete Block-discrete (List-discrete Row-discrete)))
