-- Request 05, one address asked of a section that is not checked whole. What is promised of it, as a predicate of any call that is handed a
-- section's bytes, its address and a PC; what the contract of our function allows; and the same of the flat struct that C sees. Every
-- sentence is of any bytes, accepted or not, unless it says so.
use Rattle.std.specs.Prelude.{◌≡◌, true, List, ◌⊎◌, ◌↔◌, ℕ, ◌+◌, ◌*◌, ◌≤◌, ◌<◌, length}
use borrow.Fn.Kinds.{Dens}
use contract.Lifetimes.{Lfts}
use Rattle.numbers.specs.Agree.{InSpan, AgreeOn}
use Rattle.numbers.specs.Start.{distance}
use Rattle.section.specs.Header.{layout_of}
use Rattle.section.specs.declared.row.Row.{Row}
use Rattle.accept.specs.Rules.{Obeys}
use Rattle.lookup.specs.Cases.{Covers}
use Rattle.lookup.specs.Outcome.{Answer}
use Rattle.ask.specs.AskAnswer.{AskAnswer, Found, NoFunction, NoRow}
use Rattle.ask.specs.Cases.{LandsOn, OwnRulesHold, RowCase, AskCase, OnAsk}
use Rattle.ask.specs.Numbers.{AskCause, number_of_ask_cause, ask_number, SameAnswer}
use Rattle.ask.specs.ReadBy.{Compared, ReadBy, AtMostBesideRows}
use Rattle.ask.specs.Computed.Ask.{ask_of}
use Rattle.ask.proofs.land.ask.Kinds as ask-kinds
use Rattle.ask.proofs.land.ask.Reads as ask-reads
use Rattle.suntimpani.specs.Asked.{flat_asked, read_asked}
use Rattle.suntimpani.specs.declared.flat.AnswerInC.{AnswerInC}
use Rattle.suntimpani.proofs.suntimpani_ask.Kinds as flat-kinds
use Rattle.suntimpani.proofs.suntimpani_ask.Reads as flat-reads
use Rattle.promises.specs.Calls.{Calls}
use Rattle.promises.specs.StatedContracts.{Keeps, Answered}
use Rattle.promises.specs.Demand1.{HasCause}
use Rattle.ask.specs.Told.{ask_told}
use Rattle.promises.specs.Determined.{Allows}
use Rattle.promises.specs.Exported.{FlatCalls, FlatKeeps}

-- ---- any call of this form

abbrev pub AskCall : Type 0
AskCall = List ℕ → ℕ → ℕ → AskAnswer

-- ---- what is promised of one answer

-- the number: which, exactly when, and which never
pub record NumberAsked (s : List ℕ) (address pc : ℕ) (answer : AskAnswer) : Type 0 where
  -- 1 to 8, 21, 23, 44 and 45, each exactly when its cause holds
  pub given : (cause : AskCause) → (ask_number answer ≡ number_of_ask_cause cause) ↔ OnAsk s (distance address pc) cause
  -- 0 stands for a row
  pub found : (ask_number answer ≡ 0) ↔ ((row : Row) × (i : ℕ) × (k : ℕ) × RowCase s (distance address pc) row i k)
  pub no_other : (ask_number answer ≡ 0) ⊎ HasCause number_of_ask_cause (ask_number answer)
  -- "It never answers 22", nor a rule of an entry or of the sum
  pub never_22 : ¬ (ask_number answer ≡ 22)
  pub never_9_to_15 : (n : ℕ) → 9 ≤ n → n ≤ 15 → ¬ (ask_number answer ≡ n)

-- "on a section that isn't accepted these speak only of the function landed on, if any"
pub record AnswerMeans (s : List ℕ) (address pc : ℕ) (answer : AskAnswer) : Type 0 where
  -- every answer at once, with its index, row and count
  pub case : (a : AskAnswer) → (answer ≡ a) ↔ AskCase s (distance address pc) a
  -- a row and 23: the function landed on covers and obeys 9 to 13
  pub row : (row : Row) (i k compared : ℕ) → answer ≡ Found i compared k row
      → LandsOn s (distance address pc) i × Covers s (distance address pc) i × OwnRulesHold s i
  pub no_row : (i compared : ℕ) → answer ≡ NoRow i compared
      → LandsOn s (distance address pc) i × Covers s (distance address pc) i × OwnRulesHold s i
  -- 21: there is none, or it does not cover; and no row is read
  pub no_function : (compared : ℕ) → answer ≡ NoFunction compared → (i : ℕ) → LandsOn s (distance address pc) i → ¬ Covers s (distance address pc) i
  pub rows_unread : (compared : ℕ) → answer ≡ NoFunction compared → (p : ℕ) → ReadBy s address pc p
      → InSpan 0 28 p ⊎ ((i : ℕ) × Compared s (distance address pc) i × InSpan ((layout_of s).table + 20 * i) 20 p)

-- ---- what is promised of what is read

-- "never .. reads outside the section": every place named lies in it; and at most 28 + 20 * 20 of them are not of one function's rows
pub record ReadsLittle (s : List ℕ) (address pc : ℕ) : Type 0 where
  pub inside : (p : ℕ) → ReadBy s address pc p → p < length s
  pub few : AtMostBesideRows s (distance address pc) (28 + 20 * 20)

-- "Two sections of equal length that agree on the bytes named above get the same answer for the same PC and load address."
abbrev pub Agrees : {Reply : Type 0} → (List ℕ → ℕ → ℕ → Reply) → Type 0
Agrees call =
    (s t : List ℕ) → length s ≡ length t → (address pc : ℕ) → AgreeOn (ReadBy s address pc) s t → call s address pc ≡ call t address pc

-- ---- and of a call, beside a lookup

pub record Asks (call : AskCall) (lookup : List ℕ → ℕ → ℕ → Answer) : Type 0 where
  pub number : (s : List ℕ) (address pc : ℕ) → NumberAsked s address pc (call s address pc)
  pub means : (s : List ℕ) (address pc : ℕ) → AnswerMeans s address pc (call s address pc)
  pub little : (s : List ℕ) (address pc : ℕ) → ReadsLittle s address pc
  pub agrees : Agrees call
  -- "On an accepted sorted section its row, refusal and count equal the full answer."
  pub as_lookup : (s : List ℕ) → Obeys s → (layout_of s).sorted ≡ true → (address pc : ℕ) → SameAnswer (call s address pc) (lookup s address pc)

-- ---- the contract

-- what the call answers is what the contract of our function allows, and nothing else of it is known
abbrev pub KeepsAsk : AskCall → Type 0
KeepsAsk call =
    (κs : Lfts 1) (a : Dens κs ask-kinds.ps)
    → Answered ask_told (λ z. Allows ask-kinds.ps ask-kinds.r ask-reads.Learnt κs a z (tt, (tt, (tt, tt)))) (call a.0.now a.1.0 a.1.1.0)

abbrev pub AskPromised : Type 0
AskPromised = (call : AskCall) (calls : Calls) → KeepsAsk call → Keeps calls → Asks call calls.lookup

-- ---- through the struct of C

abbrev pub FlatAskCall : Type 0
FlatAskCall = List ℕ → ℕ → ℕ → AnswerInC

-- what the contract of our exported function names
unfoldable pub exported_ask : FlatAskCall
exported_ask s address pc = flat_asked (ask_of s address pc)

-- what the structs stand for
abbrev pub read_ask : FlatAskCall → AskCall
read_ask flat s address pc = read_asked (flat s address pc)

pub record FlatAsks (flat : FlatAskCall) (lookup : List ℕ → ℕ → ℕ → AnswerInC) : Type 0 where
  -- nothing else stands in a struct: a field without meaning in a case is 0
  pub flattened : (s : List ℕ) (address pc : ℕ) → flat s address pc ≡ flat_asked (read_ask flat s address pc)
  -- its number and what it means, of the answer that the struct stands for
  pub number : (s : List ℕ) (address pc : ℕ) → NumberAsked s address pc (read_ask flat s address pc)
  pub means : (s : List ℕ) (address pc : ℕ) → AnswerMeans s address pc (read_ask flat s address pc)
  -- the same struct
  pub agrees : Agrees flat
  pub as_lookup : (s : List ℕ) → Obeys s → (layout_of s).sorted ≡ true → (address pc : ℕ) → flat s address pc ≡ lookup s address pc

abbrev pub KeepsFlatAsk : FlatAskCall → Type 0
KeepsFlatAsk flat =
    (κs : Lfts 1) (a : Dens κs flat-kinds.ps)
    → Allows flat-kinds.ps flat-kinds.r flat-reads.Learnt κs a (flat a.0.now a.1.0 a.1.1.0) (tt, (tt, (tt, tt)))

abbrev pub FlatAskPromised : Type 0
FlatAskPromised = (flat : FlatAskCall) (calls : FlatCalls) → KeepsFlatAsk flat → FlatKeeps calls → FlatAsks flat calls.lookup
