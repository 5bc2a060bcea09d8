-- What an asked address rests on decides its answer: two sections of one length that agree on the bytes that the request names (`ReadBy`)
-- get the same answer, count included, whatever else they hold and whether or not they are accepted. Assumes nothing.
use mathlib.Core.Path.{◌≡◌, refl, sym, ◌∙◌, ap}
use mathlib.Core.List.{List}
use Prim.Native.Nat.{ℕ, zero, suc, ◌+◌, ◌*◌, ◌≤◌, ◌<◌}
use native.Mathlib.Omega.{arith}
use lib.Dec.{ltb}
use lib.IntN.{ℤ}
use lib.ListN.{length, take, drop, length-drop, drop_of_length-le}
use lib.Seq.{drop-drop}
use borrow.Author.Tests.{ltb-true, ltb-false}
use Rattle.numbers.specs.Agree.{InSpan, AgreeOn}
use Rattle.numbers.specs.Start.{distance}
use Rattle.section.specs.Entry.{type_of}
use Rattle.section.specs.Header.{layout_of}
use Rattle.section.specs.Meaning.{area_of, shape_of, entry_in, function_in, functions_of}
use Rattle.section.specs.Row.{row_length}
use Rattle.section.specs.declared.entry.Entry.{Entry}
use Rattle.section.specs.declared.shape.Shape.{Shape}
use Rattle.section.proofs.PartAgreement.{order_agrees, layout_agrees, shape_agrees, entry_agrees}
use Rattle.accept.specs.Rules.{function_count, row_count, row_length_at, Rule9, Rule10, Rule11First}
use Rattle.accept.specs.Tried.{TriedAt}
use Rattle.accept.specs.Computed.Checks.{first_bad, and_then, header_fault, entry_tests, entry_fault}
use Rattle.accept.specs.Fault.{Fault, Sound, Breaks}
use Rattle.accept.proofs.Exactly.{header_exactly_when, row_exactly_when}
use Rattle.accept.proofs.FaultLaws.{table_sound}
use Rattle.accept.proofs.RuleLaws.{entry_table}
use Rattle.accept.proofs.TriedAgreement.{header_fault_agrees, entry_fault_agrees}
use Rattle.lookup.specs.Halving.{starts_at_most, landing}
use Rattle.lookup.specs.Scanned.{LookedAt}
use Rattle.lookup.specs.Computed.Covering.{covers}
use Rattle.lookup.specs.Computed.Rows.{offset_within, row_for}
use Rattle.lookup.proofs.CaseLaws.{functions_at, functions_count}
use Rattle.lookup.proofs.CoveringLaws.{by_value}
use Rattle.lookup.proofs.ScanAgreement.{looked_at_in_rows, last_row_agrees}
use Rattle.ask.specs.Cases.{CanBeAsked, LandsIn, OwnRulesHold, compared_in}
use Rattle.ask.specs.ReadBy.{Compared, ReadAt, of_header, of_entry, of_row, ReadBy}
use Rattle.ask.specs.Computed.Ask.{checked_row, in_function, where_landed, ask_of}
use Rattle.ask.proofs.CaseLaws.{landed_there, set_covers, own_rules, ask_broken, ask_unsorted, ask_landed}
use Rattle.ask.proofs.ComparedLaws.{compared_within, landed_compared, landing_agrees}

-- past the end of two lists of one length there is nothing in either
past_end : (s t : List ℕ) (p : ℕ) → length s ≡ length t → length s ≤ p → take 1 (drop p s) ≡ take 1 (drop p t)
past_end s t p long past =
    ap (take 1) (drop_of_length-le s past ∙ sym (drop_of_length-le t {i = p} (omega arith)))

-- where an entry breaks something before its rows, that is its fault
own_fault : (area : List ℕ) (shape : Shape) (entry : Entry) {number : ℕ} → first_bad (entry_tests area entry) ≡ Breaks number
    → entry_fault area shape entry ≡ Breaks number
unfolding entry_fault and_then
own_fault area shape entry is = rw is

-- of the row area only its length counts for that
own_alike : (area other : List ℕ) (entry : Entry) → length area ≡ length other → first_bad (entry_tests area entry) ≡ first_bad (entry_tests other entry)
unfolding entry_tests
own_alike area other entry long = rw long

module _ (s t : List ℕ) (address pc : ℕ) (long : length s ≡ length t) (same : AgreeOn (ReadBy s address pc) s t) where
  abbrev d : ℤ
  d = distance address pc

  -- ---- the header

  header-same : AgreeOn (InSpan 0 28) s t
  header-same p said =
      by_value (ltb p (length s))
      (λ e. same p (of_header said (ltb-true p (length s) e)))
      (λ e. past_end s t p long (ltb-false p (length s) e))

  one-layout : layout_of s ≡ layout_of t
  one-layout = layout_agrees s t header-same

  one-count : function_count s ≡ function_count t
  unfolding function_count
  one-count = ap (λ layout. layout.functions) one-layout

  one-header : header_fault s ≡ header_fault t
  one-header = header_fault_agrees s t long header-same

  -- ---- the entries compared, and where the halving lands

  module _ (asked : CanBeAsked s) where
    also-asked : CanBeAsked t
    also-asked =
        ((header_exactly_when t).0 (sym one-header ∙ (header_exactly_when s).1 asked.0), sym (ap (λ layout. layout.sorted) one-layout) ∙ asked.1)

    compared-there : (i : ℕ) → Compared s d i → i < function_count s
    compared-there i member = rw (← functions_count s) (compared_within d (functions_of s) i member)

    one_entry : (i : ℕ) → Compared s d i → entry_in s i ≡ entry_in t i
    unfolding entry_in
    one_entry i member =
        rw (← one-layout, ← order_agrees s t header-same)
        (entry_agrees s t _ ((layout_of s).table + 20 * i) (λ p said. same p (of_entry asked i member said)))

    one-start : (i : ℕ) → Compared s d i → (function_in s i).start ≡ (function_in t i).start
    unfolding function_in
    one-start i member = rw (one_entry i member, one-layout)

    one-cover : (i : ℕ) → Compared s d i → covers d (function_in s i) ≡ covers d (function_in t i)
    unfolding covers function_in
    one-cover i member = rw (one_entry i member, one-layout)

    one-landing : landing d (functions_of s) ≡ landing d (functions_of t)
    unfolding starts_at_most
    one-landing =
        landing_agrees d (functions_of s) (functions_of t) (functions_count s ∙ one-count ∙ sym (functions_count t)) λ i member.
        let inside = compared-there i member in
        rw (functions_at s i inside, functions_at t i (rw one-count at inside), one-start i member)

    -- ---- the rows of the function landed on, where it covers

    as_long : length (area_of s) ≡ length (area_of t)
    unfolding area_of
    as_long = simp length-drop (rw (one-layout, long))

    -- places of the row area of which each that lies in the section is read
    area_same : (P : ℕ → Type 0) → ((p : ℕ) → P p → (layout_of s).area + p < length s → ReadAt s d ((layout_of s).area + p)) → AgreeOn P (area_of s) (area_of t)
    unfolding area_of
    area_same P reads p said =
        let place = (layout_of s).area + p in
        rw (← one-layout, drop-drop p (layout_of s).area s, drop-drop p (layout_of s).area t)
        (by_value (ltb place (length s))
        (λ e. same place (reads p said (ltb-true place (length s) e)))
        (λ e. past_end s t place long (ltb-false place (length s) e)))

    module _ (i : ℕ) (lands : LandsIn s d i) where
      member : Compared s d i
      member = landed_compared d (functions_of s) i lands.landed

      abbrev code : ℕ
      code = type_of (entry_in s i).info

      abbrev Tried : ℕ → Type 0
      Tried = TriedAt (area_of s) (shape_of s) code (entry_in s i).first (entry_in s i).rows

      -- what is tried of the rows is read
      tried-read : Rule9 s i → Rule10 s i → Rule11First s i → (p : ℕ) → Tried p → (layout_of s).area + p < length s
          → ReadAt s d ((layout_of s).area + p)
      unfolding row_count row_length_at row_length
      tried-read rule9 rule10 first p tried inside =
          of_row i tried.row lands
          (record { rule9 = rule9; rule10 = rule10; first = first; inside = tried.tried.0; earlier = λ j lt. (row_exactly_when s i j).0 (tried.tried.1 j lt) })
          (omega (arith, tried.span.0), omega (arith, tried.span.1))
          inside

      -- 9 to 13: the entry by itself, and the rows that are tried
      one-fault : entry_fault (area_of s) (shape_of s) (entry_in s i) ≡ entry_fault (area_of t) (shape_of t) (entry_in t i)
      one-fault = rw (← shape_agrees s t header-same, ← one_entry i member) (by (first_bad (entry_tests (area_of s) (entry_in s i))) refl)
        where
          by : (fault : Fault) → first_bad (entry_tests (area_of s) (entry_in s i)) ≡ fault
              → entry_fault (area_of s) (shape_of s) (entry_in s i) ≡ entry_fault (area_of t) (shape_of s) (entry_in s i)
          by Sound is =
              let own = (table_sound (entry_table s i)).0 is in
              entry_fault_agrees (area_of s) (area_of t) (shape_of s) (entry_in s i) as_long (area_same Tried (tried-read own.0 own.1.0 own.1.1.0))
          by (Breaks number) is = own_fault (area_of s) (shape_of s) (entry_in s i) is ∙ sym (own_fault (area_of t) (shape_of s) (entry_in s i) (sym (own_alike (area_of s) (area_of t) (entry_in s i) as_long) ∙ is))

      one-offset : offset_within d (function_in s i) ≡ offset_within d (function_in t i)
      unfolding offset_within function_in
      one-offset = rw (one_entry i member, one-layout)

      abbrev Looked : ℕ → Type 0
      Looked = LookedAt (area_of s) (shape_of s).order code (entry_in s i).first (entry_in s i).rows (offset_within d (function_in s i))

      -- what the scan looks at is read, since every row obeys
      looked-read : OwnRulesHold s i → (p : ℕ) → Looked p → (layout_of s).area + p < length s → ReadAt s d ((layout_of s).area + p)
      unfolding row_count row_length_at
      looked-read sound p looked inside =
          let (k, lt, span) = looked_at_in_rows p looked in
          of_row i k lands
          (record { rule9 = sound.rule9; rule10 = sound.rule10; first = sound.first; inside = lt; earlier = λ j less. sound.rows j (omega arith) })
          (omega (arith, span.0), omega (arith, span.1))
          inside

      one_row : entry_fault (area_of s) (shape_of s) (entry_in s i) ≡ Sound → row_for d (function_in s i) ≡ row_for d (function_in t i)
      unfolding row_for function_in
      one_row sound =
          let also : entry_fault (area_of t) (shape_of s) (entry_in s i) ≡ Sound
          = rw (shape_agrees s t header-same, one_entry i member) (sym one-fault ∙ sound) in
          rw (← one-offset, ← shape_agrees s t header-same, ← one_entry i member)
          (last_row_agrees (area_of s) (area_of t) (shape_of s) (entry_in s i) (offset_within d (function_in s i)) sound also
          (area_same Looked (looked-read ((own_rules s i).0 sound))))

      one_inside : (compared : ℕ) → in_function s d i compared ≡ in_function t d i compared
      unfolding in_function checked_row
      one_inside compared = by (entry_fault (area_of s) (shape_of s) (entry_in s i)) refl
        where
          by : (fault : Fault) → entry_fault (area_of s) (shape_of s) (entry_in s i) ≡ fault → in_function s d i compared ≡ in_function t d i compared
          by Sound is = rw (is, sym one-fault ∙ is, one_row is)
          by (Breaks number) is = rw (is, sym one-fault ∙ is)

    one-where : (compared low : ℕ) → (landing d (functions_of s)).low ≡ low → where_landed s d compared low ≡ where_landed t d compared low
    unfolding where_landed
    one-where compared zero is = refl
    one-where compared (suc i) is =
        let alike = one-cover i (landed_compared d (functions_of s) i is) in
        by_value (covers d (function_in s i))
        (λ set.
        let lands : LandsIn s d i = record { asked = asked; landed = is; covered = set_covers s d i (landed_there s d i is) set } in
        rw (set, where_landed) (rw (sym alike ∙ set, where_landed) (one_inside i lands compared)))
        (λ unset. rw (unset, where_landed) (rw (sym alike ∙ unset, where_landed)))

    one-asked : ask_of s address pc ≡ ask_of t address pc
    one-asked =
        ask_landed s address pc asked
        ∙ one-where (compared_in s d) (landing d (functions_of s)).low refl
        ∙ ap (λ l. where_landed t d l.compared l.low) one-landing
        ∙ sym (ask_landed t address pc also-asked)

  -- "Two sections of equal length that agree on the bytes named above get the same answer for the same PC and load address."
  pub ask_agrees : ask_of s address pc ≡ ask_of t address pc
  ask_agrees = by (header_fault s) refl
    where
      by : (fault : Fault) → header_fault s ≡ fault → ask_of s address pc ≡ ask_of t address pc
      by (Breaks number) is = ask_broken s address pc number is ∙ sym (ask_broken t address pc number (sym one-header ∙ is))
      by Sound is =
          let obeys = (header_exactly_when s).0 is in
          by_value (layout_of s).sorted
          (λ set. one-asked (obeys, set))
          (λ unset.
          ask_unsorted s address pc obeys unset
          ∙ sym (ask_unsorted t address pc ((header_exactly_when t).0 (sym one-header ∙ is)) (sym (ap (λ layout. layout.sorted) one-layout) ∙ unset)))
