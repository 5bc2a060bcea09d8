-- What is promised of a function by its index holds of every call that keeps the contract of our exported function, and of no other call:
-- calls that meet it answer alike, on every input.
-- Assumes nothing.
use mathlib.Core.Path.{◌≡◌, refl, sym, ◌∙◌, ap, subst, fun_ext}
use mathlib.Core.Bool.{Bool, true, false, false≢true}
use mathlib.Core.List.{List, []}
use mathlib.Core.Logic.{◌⊎◌, inl, inr, ⊎_elim}
use Prim.Native.Nat.{ℕ}
use native.Mathlib.Decide.{ℕ_discrete}
use native.Mathlib.Omega.{arith}
use lib.Dec.{ltb}
use lib.IntN.{ℤ, pos, ◌+ℤ◌}
use lib.Signed.{◌≤ℤ◌, ◌<ℤ◌}
use borrow.Author.Tests.{ltb-true, lt-ltb}
use Rattle.section.specs.Entry.{repeats}
use Rattle.section.specs.Header.{layout_of}
use Rattle.section.specs.Meaning.{plain, repeated, entry_in, block_of}
use Rattle.section.specs.declared.entry.Entry.{Entry}
use Rattle.accept.specs.Given.{number_of_rule, HeaderBreaks}
use Rattle.accept.specs.Rules.{function_count, row_count, Obeys}
use Rattle.accept.specs.Computed.Checks.{header_fault}
use Rattle.accept.specs.Fault.{Fault, Sound, Breaks}
use Rattle.accept.proofs.CauseLaws.{rules_distinct, due_exactly_when}
use Rattle.accept.proofs.Exactly.{header_exactly_when}
use Rattle.accept.proofs.HeaderLaws.{number_of_fault, breaks_not_obeys, fault_due, fault_makes, fault_none}
use Rattle.listing.specs.Described.{Described, Unknown, Function}
use Rattle.listing.specs.Functions.{kind_of, rows_place, facts_of, described_in, described_by, described_of}
use Rattle.lookup.specs.Cases.{Covers}
use Rattle.suntimpani.specs.Flat.{kind_number, repeat_of, no_function, flat_facts, flat_function}
use Rattle.suntimpani.specs.declared.functions.FunctionInC.{FunctionInC}
use Rattle.promises.specs.FunctionCall.{FunctionCall, exported_function, HasFunction, NumberTold, EntryTold, NothingTold, TellsFunctions, KeepsFunction, FunctionPromised}
use Rattle.promises.specs.Inner.Lent.{lent}
use Rattle.promises.proofs.ContractLaws.{somewhere}

-- ---- the block of an entry, by its bit

is_repeated : (entry : Entry) → repeats entry.info ≡ true → block_of entry ≡ repeated entry.repeat
unfolding block_of
is_repeated entry set = rw (set, block_of) refl

is_plain : (entry : Entry) → repeats entry.info ≡ false → block_of entry ≡ plain
unfolding block_of
is_plain entry unset = rw (unset, block_of) refl

-- ---- what our exported function answers: the entry's facts where there is such a function, and elsewhere a number alone

module _ (s : List ℕ) (index : ℕ) where
  -- what is said of the index by the test of it
  abbrev by_test : Bool → Described
  by_test below = elim below [ true ↦ Function (facts_of s index) | false ↦ Unknown ]

  answers : {fault : Fault} → header_fault s ≡ fault → exported_function s index ≡ flat_function (described_by fault s index)
  unfolding exported_function described_of
  answers is = ap (λ fault. flat_function (described_by fault s index)) is

  number_is : (exported_function s index).number ≡ number_of_fault (header_fault s)
  unfolding exported_function described_of described_by described_in flat_function flat_facts no_function number_of_fault
  number_is = by (header_fault s)
    where
      inside : (b : Bool) → (flat_function (by_test b)).number ≡ 0
      inside true = refl
      inside false = refl

      by : (fault : Fault) → (flat_function (described_by fault s index)).number ≡ number_of_fault fault
      by Sound = inside (ltb index (layout_of s).functions)
      by (Breaks number) = refl

  abbrev KnownHere : Type 0
  KnownHere = HasFunction s index × (exported_function s index ≡ flat_facts (facts_of s index))

  abbrev UnknownHere : Type 0
  UnknownHere = (¬ HasFunction s index) × (number : ℕ) × (exported_function s index ≡ no_function number)

  known-or-not : KnownHere ⊎ UnknownHere
  unfolding described_by described_in flat_function function_count
  known-or-not = by (header_fault s) refl
    where
      inside : header_fault s ≡ Sound → (b : Bool) → ltb index (layout_of s).functions ≡ b → KnownHere ⊎ UnknownHere
      inside sound true is = inl (((header_exactly_when s).0 sound, ltb-true _ _ is), answers sound ∙ ap (λ b. flat_function (by_test b)) is)
      inside sound false is =
          inr ((λ has. false≢true (sym is ∙ lt-ltb _ _ has.1)), 0, answers sound ∙ ap (λ b. flat_function (by_test b)) is)

      by : (fault : Fault) → header_fault s ≡ fault → KnownHere ⊎ UnknownHere
      by Sound is = inside is (ltb index (layout_of s).functions) refl
      by (Breaks number) is = inr ((λ has. breaks_not_obeys s number is has.0), number, answers is)

  number-told : NumberTold s (exported_function s index)
  number-told =
      rw number_is
      (record {
        given = due_exactly_when number_of_rule rules_distinct _ (HeaderBreaks s) (fault_due s) (fault_makes s);
        none = fault_none s;
        no_other = ⊎_elim inl (λ due. inr (due.0, due.1)) (fault_due s);
        at_most_8 = ⊎_elim (λ none. omega (arith, none)) (λ due. omega (arith, due.1, due.2.0)) (fault_due s);
      })

  entry_told : exported_function s index ≡ flat_facts (facts_of s index) → EntryTold s index (exported_function s index)
  unfolding flat_facts facts_of rows_place kind_of kind_number repeat_of row_count
  entry_told is =
      rw is
      (record {
        start = refl;
        size = refl;
        rows = refl;
        repeated = λ set. let block = is_repeated (entry_in s index) set in (rw block, rw block);
        plain = λ unset. let block = is_plain (entry_in s index) unset in (rw block, rw block);
      })

  nothing-told : (number : ℕ) → exported_function s index ≡ no_function number → NothingTold (exported_function s index)
  unfolding no_function
  nothing-told number is =
      rw is (record { known = refl; start = refl; size = refl; rows = refl; repeated = refl; repeat = refl })

-- ---- so it meets what is promised

pub exported_tells : TellsFunctions exported_function
unfolding flat_facts no_function
exported_tells =
    record {
      number = number-told;
      known = λ s index.
          ⊎_elim
          (λ here. (λ one. here.0, λ has. ap (λ (told : FunctionInC). told.known) here.1))
          (λ not-here. ((λ one. absurd (omega (arith, one, ap (λ (told : FunctionInC). told.known) not-here.2))), λ has. absurd (not-here.0 has)))
          (known-or-not s index);
      told = λ s index has.
          ⊎_elim (λ here. entry_told s index here.1) (λ not-here. absurd (not-here.0 has)) (known-or-not s index);
      untold = λ s index hasnt.
          ⊎_elim (λ here. absurd (hasnt here.0)) (λ not-here. nothing-told s index not-here.1 not-here.2) (known-or-not s index);
    }

-- ---- the contract

pub function_kept : KeepsFunction exported_function
unfolding exported_function
function_kept κs a = refl

-- a call that keeps it is ours
kept_is_exported : (call : FunctionCall) → KeepsFunction call → call ≡ exported_function
unfolding exported_function
kept_is_exported call keeps = fun_ext λ s. fun_ext λ index. keeps ([], tt) (lent somewhere s, (index, tt))

pub function_promised : FunctionPromised
function_promised call keeps = subst TellsFunctions (sym (kept_is_exported call keeps)) exported_tells

-- ---- and no other call meets it

module _ (one other : FunctionCall) (first : TellsFunctions one) (second : TellsFunctions other) (s : List ℕ) (index : ℕ) where
  same_number : (one s index).number ≡ (other s index).number
  same_number =
      let by_one = first.number s index in
      let by-other = second.number s index in
      ⊎_elim
      (λ none. none ∙ sym (by-other.none.1 (by_one.none.0 none)))
      (λ cause. let (rule, is) = cause in is ∙ sym ((by-other.given rule).1 ((by_one.given rule).0 is)))
      by_one.no_other

  abbrev SameBlock : Type 0
  SameBlock = ((one s index).repeated ≡ (other s index).repeated) × ((one s index).repeat ≡ (other s index).repeat)

  same_block : EntryTold s index (one s index) → EntryTold s index (other s index) → SameBlock
  same_block t u = by (repeats (entry_in s index).info) refl
    where
      by : (bit : Bool) → repeats (entry_in s index).info ≡ bit → SameBlock
      by true set = ((t.repeated set).0 ∙ sym (u.repeated set).0, (t.repeated set).1 ∙ sym (u.repeated set).1)
      by false unset = ((t.plain unset).0 ∙ sym (u.plain unset).0, (t.plain unset).1 ∙ sym (u.plain unset).1)

  same_known : (one s index).known ≡ 1 → one s index ≡ other s index
  same_known is i =
      let has = (first.known s index).0 is in
      let t = first.told s index has in
      let u = second.told s index has in
      record {
        number = same_number i;
        known = (is ∙ sym ((second.known s index).1 has)) i;
        start = (t.start ∙ sym u.start) i;
        size = (t.size ∙ sym u.size) i;
        rows = (t.rows ∙ sym u.rows) i;
        repeated = (same_block t u).0 i;
        repeat = (same_block t u).1 i;
      }

  same-unknown : ¬ ((one s index).known ≡ 1) → one s index ≡ other s index
  same-unknown isnt i =
      let hasnt : ¬ HasFunction s index = λ has. isnt ((first.known s index).1 has) in
      let t = first.untold s index hasnt in
      let u = second.untold s index hasnt in
      record {
        number = same_number i;
        known = (t.known ∙ sym u.known) i;
        start = (t.start ∙ sym u.start) i;
        size = (t.size ∙ sym u.size) i;
        rows = (t.rows ∙ sym u.rows) i;
        repeated = (t.repeated ∙ sym u.repeated) i;
        repeat = (t.repeat ∙ sym u.repeat) i;
      }

  pub functions_told_alike : one s index ≡ other s index
  functions_told_alike = by (ℕ_discrete (one s index).known 1)
    where
      by : Dec ((one s index).known ≡ 1) → one s index ≡ other s index
      by (yes is) = same_known is
      by (no isnt) = same-unknown isnt

pub function_ours_alone : (call : FunctionCall) → TellsFunctions call → call ≡ exported_function
function_ours_alone call tells = fun_ext λ s. fun_ext λ index. functions_told_alike call exported_function tells exported_tells s index

-- ---- what it is for: the function that covers a PC of an accepted section, by its index, is told with bounds that hold the PC

pub covering_function_told : (call : FunctionCall) → TellsFunctions call → (s : List ℕ) → Obeys s → (d : ℤ) (i : ℕ) → Covers s d i
    → ((call s i).known ≡ 1) × ((call s i).start ≤ℤ d) × (d <ℤ ((call s i).start +ℤ pos (call s i).size))
covering_function_told call tells s obeys d i covers =
    let has : HasFunction s i = (obeys.header, covers.0) in
    let entry = tells.told s i has in
    ((tells.known s i).1 has, rw entry.start covers.1, rw (entry.start, entry.size) covers.2)
