-- Why an answer was given (SPECIFICATION 11.2 to 11.9): what holds of a section, a PC, a stack window, a process and registers where this
-- is the explanation, as plain propositions in the numbers that it hands out. Nothing here says how they are looked for. That they hold is
-- `explained_holds`, and that they imply the answer `explained_implies`.
use Rattle.std.specs.Prelude.{◌≡◌, Bool, true, List, ◌⊎◌, ℕ, ◌+◌, ◌-◌, ◌^◌, ◌≤◌, ◌<◌, ℤ, pos, ◌+ℤ◌, length, get_or, ◌≤ℤ◌, ◌<ℤ◌, Option, Some, None, Result, Ok, Err}
use Rattle.numbers.specs.Start.{distance}
use Rattle.numbers.specs.declared.offset.Offset.{Offset}
use Rattle.section.specs.Meaning.{shape_of}
use Rattle.section.specs.declared.row.Place.TheVariants.{Register, AtOffset}
use Rattle.section.specs.declared.row.Row.{Row}
use Rattle.accept.specs.Given.{number_of_rule}
use Rattle.accept.specs.declared.verdict.Rule.{Rule}
use Rattle.accept.specs.Given as accept
use Rattle.accept.specs.Rules.{Obeys, row_count, row_start_at}
use Rattle.lookup.specs.Cases.{Covers, NoneCovers, OnlyCovers, OffsetIs, row_of_function}
use Rattle.caller.specs.Cases.{WindowFits, ValueIs, Outside, Rule24, CfaIs, Rule26, Rule27, Asks, AsksNothing}
use Rattle.caller.specs.Frame.{base_value, caller_sp}
use Rattle.caller.specs.Signature.{mask_of, clear}
use Rattle.caller.specs.declared.registers.Process.{Process}
use Rattle.caller.specs.declared.registers.Registers.{Registers}
use Rattle.caller.specs.declared.place.Needed.{Needed}
use Rattle.caller.specs.declared.place.Needed.TheVariants.{Ra, Fp}
use Rattle.explain.specs.LookupReason.{LookupReason, LookupWhy}
use Rattle.explain.specs.LookupReason as lookup
use Rattle.explain.specs.StepReason.{StepReason, StepWhy}
use Rattle.explain.specs.StepReason as step
use Rattle.explain.specs.declared.sums.Sum.{Sum}
use Rattle.explain.specs.declared.sums.Sum.TheVariants.{At, Below, Above}
use Rattle.explain.specs.declared.why.Coverers.{Coverers}
use Rattle.explain.specs.declared.why.FoundRow.{FoundRow}
use Rattle.explain.specs.declared.why.Covered.{Covered}
use Rattle.explain.specs.declared.why.NotFound.{NotFound}
use Rattle.explain.specs.declared.why.NotFound.TheVariants as missing
use Rattle.explain.specs.declared.why.RowReason.{RowReason}
use Rattle.explain.specs.declared.why.RowReason.TheVariants as row

-- ---- rows

-- row k of function i starts there, or function i has no such row
abbrev pub StartIs : List ℕ → ℕ → ℕ → Option ℕ → Type 0
StartIs s i k (Some start) = (k < row_count s i) × (start ≡ row_start_at s i k)
StartIs s i k None = row_count s i ≤ k

-- a row that starts there starts above the offset used, and one that is missing does not count
abbrev pub AboveOffset : ℕ → Option ℕ → Type 0
AboveOffset offset (Some start) = offset < start
AboveOffset offset None = Unit {0}

-- "For a found row: the function, the offset used, the row, and the next row's start if there is one.": the function covers and no
-- other does, the row starts at or below the offset used, and the next one above it
pub record WhyFound (s : List ℕ) (d : ℤ) (found : FoundRow) : Type 0 where
  pub only : OnlyCovers s d found.function
  pub offset_is : OffsetIs s d found.function found.offset
  pub inside : found.number < row_count s found.function
  pub row_is : found.row ≡ row_of_function s found.function found.number
  pub from : row_start_at s found.function found.number ≤ found.offset
  pub next_is : StartIs s found.function (found.number + 1) found.next
  pub above : AboveOffset found.offset found.next

-- "For 23: the function, the offset used, and its first row's start or that it has no rows."
pub record WhyNoRow (s : List ℕ) (d : ℤ) (function offset : ℕ) (first : Option ℕ) : Type 0 where
  pub only : OnlyCovers s d function
  pub offset_is : OffsetIs s d function offset
  pub first_is : StartIs s function 0 first
  pub above : AboveOffset offset first

-- ---- functions

-- "For 21, in offsets from the section's first byte: the covered address nearest below PC .. with its function (lowest index on a tie),
-- or that there is none.": function i covers it, it is below d, no address behind it up to d is covered, and no lower index covers it
abbrev pub NearestBelow : List ℕ → ℤ → Option Covered → Type 0
NearestBelow s d (Some covered) =
    Covers s covered.offset.by covered.function
    × (covered.offset.by <ℤ d)
    × ((z : ℤ) → covered.offset.by <ℤ z → z ≤ℤ d → NoneCovers s z)
    × ((j : ℕ) → Covers s covered.offset.by j → covered.function ≤ j)
NearestBelow s d None = (z : ℤ) → z ≤ℤ d → NoneCovers s z

-- "and the nearest above"
abbrev pub NearestAbove : List ℕ → ℤ → Option Covered → Type 0
NearestAbove s d (Some covered) =
    Covers s covered.offset.by covered.function
    × (d <ℤ covered.offset.by)
    × ((z : ℤ) → z <ℤ covered.offset.by → d ≤ℤ z → NoneCovers s z)
    × ((j : ℕ) → Covers s covered.offset.by j → covered.function ≤ j)
NearestAbove s d None = (z : ℤ) → d ≤ℤ z → NoneCovers s z

-- z is behind the nearest address below d, and before the nearest above
abbrev pub Behind : Option Covered → ℤ → Type 0
Behind (Some covered) z = covered.offset.by <ℤ z
Behind None z = Unit {0}

abbrev pub Before : Option Covered → ℤ → Type 0
Before (Some covered) z = z <ℤ covered.offset.by
Before None z = Unit {0}

-- z is strictly between the two: above the one below d, and below the one above it; where there is none on a side, any address is
abbrev pub Between : Option Covered → Option Covered → ℤ → Type 0
Between below above z = Behind below z × Before above z

-- "For 22: the indexes of all covering functions in rising order, up to 16, and how many there are in all.": the functions that cover
-- can be numbered from 0 on, rising, each once, up to how many there are; and the indexes handed out are the first of these
-- (`told_cover`, `told_rise`, `told_or_past`)
pub record AllCovering (s : List ℕ) (d : ℤ) (coverers : Coverers) : Type 0 where
  pub nth : ℕ → ℕ
  pub covers : (k : ℕ) → k < coverers.count → Covers s d (nth k)
  pub rises : (j k : ℕ) → j < k → k < coverers.count → nth j < nth k
  pub every : (i : ℕ) → Covers s d i → (k : ℕ) × (k < coverers.count) × (nth k ≡ i)
  pub shown : (k : ℕ) → k < 16 → k < coverers.count → get_or coverers.indexes k 0 ≡ nth k

-- ---- a lookup in an accepted section

abbrev pub WhyNotFound : List ℕ → ℤ → Coverers → NotFound → Type 0
WhyNotFound s d coverers (missing.NoFunction below above) = NearestBelow s d below × NearestAbove s d above
WhyNotFound s d coverers missing.Dispute = (2 ≤ coverers.count) × AllCovering s d coverers
WhyNotFound s d coverers (missing.NoRow function offset first) = WhyNoRow s d function offset first

abbrev pub WhyLooked : List ℕ → ℤ → Coverers → Result FoundRow NotFound → Type 0
WhyLooked s d coverers (Ok found) = WhyFound s d found
WhyLooked s d coverers (Err why) = WhyNotFound s d coverers why

-- ---- a lookup

-- "a refused section explains itself by number and index": the rule of that number is the first broken one, in the entry with that index
abbrev pub WhyUnsound : List ℕ → ℕ → ℕ → Type 0
WhyUnsound s number index = (rule : Rule) × (number ≡ number_of_rule rule) × accept.Given s rule index

abbrev pub WhyReason : List ℕ → ℕ → ℕ → Coverers → LookupReason → Type 0
WhyReason s address pc coverers (lookup.Unsound number index) = WhyUnsound s number index
WhyReason s address pc coverers (lookup.Accepted why) = Obeys s × WhyLooked s (distance address pc) coverers why

abbrev pub WhyLookup : List ℕ → ℕ → ℕ → LookupWhy → Type 0
WhyLookup s address pc why = WhyReason s address pc why.coverers why.reason

-- ---- what a row comes to in a step

module _ (s stack : List ℕ) (process : Process) (registers : Registers) (r : Row) where
  -- "24 the signed bit and the mask"
  pub record WhySigned (bit : Bool) (mask : ℕ) : Type 0 where
    pub bit_is : bit ≡ r.signed
    pub mask_is : mask ≡ process.mask
    pub machine : (shape_of s).signs ≡ true
    pub set : bit ≡ true
    pub none : mask ≡ 0

  -- "25 the base register's value and the offset": their exact sum is below 0 or above 2^64 - 1
  pub record WhyCfaOutside (base : ℕ) (offset : Offset) : Type 0 where
    pub not_24 : ¬ Rule24 (shape_of s) r process
    pub base_is : base ≡ base_value registers r.base
    pub offset_is : offset ≡ r.cfa
    pub outside : ((pos base +ℤ offset.by) <ℤ pos 0) ⊎ (pos (2 ^ 64) ≤ℤ (pos base +ℤ offset.by))

  -- "26 the caller's SP and SP, and the mark"
  pub record WhyCfaLow (callersp sp first : ℕ) : Type 0 where
    pub not_24 : ¬ Rule24 (shape_of s) r process
    pub cfa : ℕ
    pub cfa_is : CfaIs registers r cfa
    pub callersp_is : callersp ≡ caller_sp cfa
    pub sp_is : sp ≡ registers.sp
    pub first_is : first ≡ registers.first
    pub low : (callersp < sp) ⊎ ((callersp ≡ sp) × (first ≡ 0))

  -- "27 that RA has no place, and the mark"
  pub record WhyRaLost (first : ℕ) : Type 0 where
    pub not_24 : ¬ Rule24 (shape_of s) r process
    pub cfa : ℕ
    pub cfa_is : CfaIs registers r cfa
    pub not_26 : ¬ Rule26 registers cfa
    pub no_place : r.ra ≡ Register
    pub first_is : first ≡ registers.first
    pub unmarked : first ≡ 0

  -- the word that is needed lies at this offset from CFA; FP's counts where RA's is inside
  abbrev pub NeededAt : Needed → ℕ → Offset → Type 0
  NeededAt Ra cfa offset = r.ra ≡ AtOffset offset
  NeededAt Fp cfa offset = (r.fp ≡ AtOffset offset) × ¬ Outside stack process.stack cfa r.ra

  -- "28 which word (RA's or FP's), CFA and the offset .., and the window's first address and length": the 8 bytes at their exact sum are
  -- not wholly inside
  pub record WhyWordOutside (word : Needed) (cfa : ℕ) (offset : Offset) (lies size : ℕ) : Type 0 where
    pub not_24 : ¬ Rule24 (shape_of s) r process
    pub cfa_is : CfaIs registers r cfa
    pub not_26 : ¬ Rule26 registers cfa
    pub not_27 : ¬ Rule27 registers r
    pub needed : NeededAt word cfa offset
    pub lies_is : lies ≡ process.stack
    pub size_is : size ≡ length stack
    pub outside : ¬ ((pos lies ≤ℤ (pos cfa +ℤ offset.by)) × (((pos cfa +ℤ offset.by) +ℤ pos 8) ≤ℤ pos (lies + size)))

  -- "A step that yields a caller explains its row .., with CFA and where RA and FP came from": each from its register, or from the word at
  -- its offset from CFA, by the row; RA as it was read
  pub record WhyCaller (caller : Registers) (cfa ra : ℕ) : Type 0 where
    pub not_24 : ¬ Rule24 (shape_of s) r process
    pub cfa_is : CfaIs registers r cfa
    pub not_26 : ¬ Rule26 registers cfa
    pub not_27 : ¬ Rule27 registers r
    pub ra_is : ValueIs stack process.stack (shape_of s).order cfa registers.lr r.ra ra
    pub pc_is : caller.pc ≡ clear (mask_of (shape_of s) r process) ra
    pub sp_is : caller.sp ≡ caller_sp cfa
    pub fp_is : ValueIs stack process.stack (shape_of s).order cfa registers.fp r.fp caller.fp
    pub lr_is : caller.lr ≡ registers.lr
    pub first_is : caller.first ≡ 0

  abbrev pub WhyRow : RowReason → Type 0
  WhyRow (row.Caller caller cfa ra) = WhyCaller caller cfa ra
  WhyRow (row.Signed bit mask) = WhySigned bit mask
  WhyRow (row.CfaOutside base offset) = WhyCfaOutside base offset
  WhyRow (row.CfaLow callersp sp first) = WhyCfaLow callersp sp first
  WhyRow (row.RaLost first) = WhyRaLost first
  WhyRow (row.WordOutside word cfa offset lies size) = WhyWordOutside word cfa offset lies size

-- ---- a step

module _ (s stack : List ℕ) (process : Process) (registers : Registers) where
  -- "41 by the two numbers added"
  pub record WhyWindow (lies size : ℕ) : Type 0 where
    pub lies_is : lies ≡ process.stack
    pub size_is : size ≡ length stack
    pub above : 2 ^ 64 < lies + size

  -- 41 and 1 to 15 are past, and "PC is the one looked up": this holds of d, by that PC
  pub record WhyAt (pc : ℕ) (Holds : ℤ → Type 0) : Type 0 where
    pub fits : WindowFits stack process
    pub obeys : Obeys s
    pub asked : Asks registers pc
    pub holds : Holds (distance process.section pc)

  -- "21 at PC 0 without the mark says just that"
  pub record WhyNothingAsked : Type 0 where
    pub fits : WindowFits stack process
    pub obeys : Obeys s
    pub nothing : AsksNothing registers

  abbrev pub WhyStepReason : Coverers → StepReason → Type 0
  WhyStepReason coverers (step.Window lies size) = WhyWindow lies size
  WhyStepReason coverers (step.Unsound number index) = WindowFits stack process × WhyUnsound s number index
  WhyStepReason coverers step.NothingAsked = WhyNothingAsked
  WhyStepReason coverers (step.NotFound pc why) = WhyAt pc (λ d. WhyNotFound s d coverers why)
  WhyStepReason coverers (step.FromRow found reason pc) =
      WhyAt pc (λ d. WhyFound s d found) × WhyRow s stack process registers found.row reason

  abbrev pub WhyStep : StepWhy → Type 0
  WhyStep why = WhyStepReason why.coverers why.reason

-- ---- the exact sum of a base and an offset, as the program says it

-- an address, or "by how much the sum is below 0 or above 2^64 - 1"
abbrev pub SumIs : ℤ → Sum → Type 0
SumIs z (At n) = (z ≡ pos n) × (n < 2 ^ 64)
SumIs z (Below n) = (z +ℤ pos n ≡ pos 0) × (0 < n)
SumIs z (Above n) = (z ≡ pos (2 ^ 64 - 1 + n)) × (0 < n)
