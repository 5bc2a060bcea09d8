-- When each answer of a step is given (SPECIFICATION 5.2 to 5.14), as plain propositions over any section, stack window and
-- registers, in document 01's words. A rule of 24 to 41 stands here as what breaks it; nothing says how a row is looked for or a
-- word is read.
use Rattle.std.specs.Prelude.{◌≡◌, List, ◌⊎◌, ℕ, ◌+◌, ◌-◌, ◌^◌, ◌≤◌, ◌<◌, ℤ, pos, ◌+ℤ◌, length, ◌≤ℤ◌, ◌<ℤ◌, Some, None}
use Rattle.numbers.specs.Field.{field_of}
use Rattle.numbers.specs.Start.{distance}
use Rattle.numbers.specs.declared.field.Order.{Order}
use Rattle.section.specs.Meaning.{shape_of}
use Rattle.section.specs.declared.row.Place.{Place}
use Rattle.section.specs.declared.row.Place.TheVariants.{Register, AtOffset}
use Rattle.section.specs.declared.row.Row.{Row}
use Rattle.section.specs.declared.shape.Abi.{Abi}
use Rattle.section.specs.declared.shape.Abi.TheVariants.{Aarch64Big, Aarch64Little}
use Rattle.section.specs.declared.shape.Shape.{Shape}
use Rattle.accept.specs.Given.{number_of_rule, BrokenFirst}
use Rattle.accept.specs.declared.verdict.Rule.{Rule}
use Rattle.accept.specs.Given as accept
use Rattle.accept.specs.Rules.{Obeys}
use Rattle.lookup.specs.Cases.{NoneCovers, SomeTwoCover, FoundCase, NoRowCase}
use Rattle.lookup.specs.Numbers.{no_function, dispute, no_row}
use Rattle.caller.specs.Frame.{asked_of, cfa_of, caller_sp}
use Rattle.caller.specs.Numbers.{Refusal, unfound, signed, cfa_outside, cfa_low, ra_lost, word_outside, number_of_refusal, StepCause, window, unsound, refused, number_of_step_cause}
use Rattle.caller.specs.Signature.{Signed, mask_of, clear}
use Rattle.caller.specs.declared.registers.Registers.{Registers}
use Rattle.caller.specs.Step.{Step}
use Rattle.caller.specs.Step.{Caller, Unsound, Refused}
use Rattle.caller.specs.declared.registers.Process.{Process}

-- ---- the stack window

-- 41: "stack address plus length above 2^64"
abbrev pub Rule41 : List ℕ → Process → Type 0
Rule41 stack process = 2 ^ 64 < process.stack + length stack

-- its contrary
abbrev pub WindowFits : List ℕ → Process → Type 0
WindowFits stack process = process.stack + length stack ≤ 2 ^ 64

-- the 8 bytes at z are "wholly inside the stack window" that lies at an address; z is any whole number
abbrev pub Inside : List ℕ → ℕ → ℤ → Type 0
Inside stack lies z = (pos lies ≤ℤ z) × ((z +ℤ pos 8) ≤ℤ pos (lies + length stack))

-- "Words are 8 bytes in the section's byte order.": the word at z is inside, and this is its value
pub record WordIs (stack : List ℕ) (lies : ℕ) (order : Order) (z : ℤ) (value : ℕ) : Type 0 where
  pub at : ℕ
  pub at_is : z ≡ pos at
  pub from : lies ≤ at
  pub to : at + 8 ≤ lies + length stack
  pub value_is : value ≡ field_of stack (at - lies) 8 order

-- ---- a saved place: "one of two kinds, in a register or at an offset from CFA"

-- what is saved there: the register's value, or the word at that offset from CFA
abbrev pub ValueIs : List ℕ → ℕ → Order → ℕ → ℕ → Place → ℕ → Type 0
ValueIs stack lies order cfa register Register value = value ≡ register
ValueIs stack lies order cfa register (AtOffset offset) value = WordIs stack lies order (pos cfa +ℤ offset.by) value

-- "a needed word .. is not wholly inside the stack window"
abbrev pub Outside : List ℕ → ℕ → ℕ → Place → Type 0
Outside stack lies cfa Register = ⊥
Outside stack lies cfa (AtOffset offset) = ¬ Inside stack lies (pos cfa +ℤ offset.by)

-- ---- the rules of a row

-- "without the first-frame mark"
abbrev pub NoMark : Registers → Type 0
NoMark registers = registers.first ≡ 0

-- AArch64, in either byte order
abbrev pub Aarch64 : Abi → Type 0
Aarch64 abi = (abi ≡ Aarch64Big) ⊎ (abi ≡ Aarch64Little)

-- 24: "AArch64 and the row's signed bit is set.", and "only when the mask is 0"; in the row's bytes `rule_24_in_bytes`
abbrev pub Rule24 : Shape → Row → Process → Type 0
Rule24 shape row process = Signed shape row × (process.mask ≡ 0)

-- "CFA is base plus first offset. 25 when outside 0 to 2^64 - 1."
abbrev pub Rule25 : Registers → Row → Type 0
Rule25 registers row = (cfa_of registers row <ℤ pos 0) ⊎ (pos (2 ^ 64) ≤ℤ cfa_of registers row)

-- its contrary, with CFA's value
abbrev pub CfaIs : Registers → Row → ℕ → Type 0
CfaIs registers row cfa = (cfa_of registers row ≡ pos cfa) × (cfa < 2 ^ 64)

-- 26: "CFA below SP, or equal to SP without the first-frame mark.", of "SP = CFA", the caller's
abbrev pub Rule26 : Registers → ℕ → Type 0
Rule26 registers cfa = (caller_sp cfa < registers.sp) ⊎ ((caller_sp cfa ≡ registers.sp) × NoMark registers)

-- 27: "AArch64, count 1, without the mark.": it is such a row that has RA in its register (`rule_27_in_bytes`)
abbrev pub Rule27 : Registers → Row → Type 0
Rule27 registers row = (row.ra ≡ Register) × NoMark registers

-- 28: "a needed word (RA first) is not wholly inside the stack window."
abbrev pub Rule28 : List ℕ → Process → Row → ℕ → Type 0
Rule28 stack process row cfa = Outside stack process.stack cfa row.ra ⊎ Outside stack process.stack cfa row.fp

-- ---- the PC asked (`asked_exactly_when`, `nowhere_exactly_when`)

-- "without the first-frame mark, look up PC minus 1; with it, PC itself."
abbrev pub Asks : Registers → ℕ → Type 0
Asks registers pc = (¬ NoMark registers × (pc ≡ registers.pc)) ⊎ (NoMark registers × (pc + 1 ≡ registers.pc))

-- "PC 0 without the mark"
abbrev pub AsksNothing : Registers → Type 0
AsksNothing registers = NoMark registers × (registers.pc ≡ 0)

-- ---- "Checks in order": what a step came to

module _ (s stack : List ℕ) (process : Process) (registers : Registers) where
  -- "41 .. Then 1 to 15. Lookup at PC.": the checks before the lookup pass, and this holds of d, "PC minus section address", with the PC
  -- asked
  pub record LookedUp (Holds : ℤ → Type 0) : Type 0 where
    pub fits : WindowFits stack process
    pub obeys : Obeys s
    pub pc : ℕ
    pub asked : asked_of registers ≡ Some pc
    pub holds : Holds (distance process.section pc)

  -- "PC 0 without the mark is answered 21, after the section checks, with no lookup made": they pass, and there is no PC to ask
  pub record NothingAsked : Type 0 where
    pub fits : WindowFits stack process
    pub obeys : Obeys s
    pub asked : asked_of registers ≡ None

  -- the lookup finds this row: of some function i, with some number k
  abbrev pub RowFound : Row → Type 0
  RowFound row = LookedUp (λ d. (i : ℕ) × (k : ℕ) × FoundCase s d row i k)

  -- the row's CFA is this: 24 and 25 are past
  pub record CfaAt (row : Row) (cfa : ℕ) : Type 0 where
    pub row_found : RowFound row
    pub not_24 : ¬ Rule24 (shape_of s) row process
    pub cfa_is : CfaIs registers row cfa

  -- "a needed word (RA first)": 26 and 27 are past
  pub record WordsAt (row : Row) (cfa : ℕ) : Type 0 where
    pub cfa_at : CfaAt row cfa
    pub not_26 : ¬ Rule26 registers cfa
    pub not_27 : ¬ Rule27 registers row

  -- ---- every number

  -- the step's own refusal of this name is the first
  abbrev pub OnRefusal : Refusal → Type 0
  OnRefusal (unfound no_function) = LookedUp (NoneCovers s) ⊎ NothingAsked
  OnRefusal (unfound dispute) = LookedUp (SomeTwoCover s)
  OnRefusal (unfound no_row) = LookedUp (λ d. (i : ℕ) × NoRowCase s d i)
  OnRefusal signed = (row : Row) × RowFound row × Rule24 (shape_of s) row process
  OnRefusal cfa_outside = (row : Row) × RowFound row × ¬ Rule24 (shape_of s) row process × Rule25 registers row
  OnRefusal cfa_low = (row : Row) × (cfa : ℕ) × CfaAt row cfa × Rule26 registers cfa
  OnRefusal ra_lost = (row : Row) × (cfa : ℕ) × CfaAt row cfa × ¬ Rule26 registers cfa × Rule27 registers row
  OnRefusal word_outside = (row : Row) × (cfa : ℕ) × WordsAt row cfa × Rule28 stack process row cfa

  -- what holds where a step gives the number of this cause
  abbrev pub OnStep : StepCause → Type 0
  OnStep window = Rule41 stack process
  OnStep (unsound rule) = WindowFits stack process × BrokenFirst s rule
  OnStep (refused refusal) = OnRefusal refusal

  -- ---- every answer

  -- "The caller has PC = RA, SP = CFA, the new FP, LR unchanged and no mark."; RA as it is read, and "has the mask's bits cleared .. ,
  -- wherever RA came from"
  pub record CallerCase (caller : Registers) : Type 0 where
    pub row : Row
    pub cfa : ℕ
    pub words_at : WordsAt row cfa
    pub ra : ℕ
    pub ra_is : ValueIs stack process.stack (shape_of s).order cfa registers.lr row.ra ra
    pub pc_is : caller.pc ≡ clear (mask_of (shape_of s) row process) ra
    pub sp_is : caller.sp ≡ caller_sp cfa
    pub fp_is : ValueIs stack process.stack (shape_of s).order cfa registers.fp row.fp caller.fp
    pub lr_is : caller.lr ≡ registers.lr
    pub first_is : caller.first ≡ 0

  -- "for 1 to 15 the entry's index"
  abbrev pub UnsoundCase : ℕ → ℕ → Type 0
  UnsoundCase number index = WindowFits stack process × (rule : Rule) × (number ≡ number_of_rule rule) × accept.Given s rule index

  -- 41, or the step's own
  abbrev pub RefusedCase : ℕ → Type 0
  RefusedCase number =
      ((number ≡ number_of_step_cause window) × Rule41 stack process)
      ⊎ ((refusal : Refusal) × (number ≡ number_of_refusal refusal) × OnRefusal refusal)

  -- what holds where this is the answer; "a refusal hands back the old ones with its number"
  abbrev pub Case : Step → Type 0
  Case (Caller caller) = CallerCase caller
  Case (Unsound old number index) = (old ≡ registers) × UnsoundCase number index
  Case (Refused old number) = (old ≡ registers) × RefusedCase number
