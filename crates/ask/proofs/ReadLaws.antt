-- How much an asked address rests on: every place lies in the section, where 21 is answered none is of a row, and besides one function's rows
-- there are at most 28 + 20 * 20 of them. Assumes nothing.
use mathlib.Core.Path.{◌≡◌, refl, sym, ◌∙◌}
use mathlib.Core.Bool.{true≢false}
use mathlib.Core.List.Memᴰ
use mathlib.Core.List.{List, [], ◌∷◌, ◌++◌, Memᴰ}
use mathlib.Core.Logic.{◌⊎◌, inl, inr, ⊎_elim}
use Prim.Native.Nat.{ℕ, zero, suc, ◌+◌, ◌*◌, ◌≤◌, ◌<◌}
use native.Mathlib.Nat.{eq-or-lt_of_le}
use native.Mathlib.Omega.{arith}
use lib.IntN.{ℤ}
use lib.ListN.{length, length-append}
use Rattle.numbers.specs.Agree.{InSpan}
use Rattle.numbers.specs.Start.{distance}
use Rattle.section.specs.Header.{layout_of}
use Rattle.section.specs.Meaning.{listed, functions_of}
use Rattle.section.proofs.ListedLaws.{listed_length}
use Rattle.accept.specs.Rules.{function_count}
use Rattle.accept.specs.Computed.Checks.{header_fault}
use Rattle.accept.specs.Fault.{Fault, Sound, Breaks}
use Rattle.accept.proofs.AcceptedLaws.{few_functions, area_inside, entry_inside}
use Rattle.accept.proofs.Exactly.{header_exactly_when}
use Rattle.accept.proofs.HeaderLaws.{breaks_not_obeys}
use Rattle.lookup.proofs.CaseLaws.{functions_count}
use Rattle.lookup.proofs.CoveringLaws.{by_value}
use Rattle.lookup.proofs.HalvingLaws.{count_twenty}
use Rattle.ask.specs.AskAnswer.{NoFunction}
use Rattle.ask.specs.Cases.{CanBeAsked}
use Rattle.ask.specs.Compared.{entries_compared}
use Rattle.ask.specs.ReadBy.{Compared, ReadAt, of_header, of_entry, of_row, ReadBy, InLandedRows, AtMostBesideRows}
use Rattle.ask.specs.Computed.Ask.{ask_of}
use Rattle.ask.proofs.ComparedLaws.{as_many_compared, compared_within}
use Rattle.ask.proofs.Exactly.{no_function_means}

-- ---- inside

module _ (s : List ℕ) (address pc : ℕ) where
  abbrev d : ℤ
  d = distance address pc

  -- it never "reads outside the section, accepted or not"
  pub read_inside : (p : ℕ) → ReadBy s address pc p → p < length s
  read_inside p (of_header span lt) = lt
  read_inside p (of_entry asked i member span) =
      let there : i < function_count s = rw (← functions_count s) (compared_within d (functions_of s) i member) in
      omega (arith, span.1, entry_inside asked.0 i there, area_inside asked.0)
  read_inside p (of_row i k lands reached span lt) = lt

  -- 21 says nothing of rows: none is read
  pub no_row_read : (compared : ℕ) → ask_of s address pc ≡ NoFunction compared → (p : ℕ) → ReadBy s address pc p
      → InSpan 0 28 p ⊎ ((i : ℕ) × Compared s d i × InSpan ((layout_of s).table + 20 * i) 20 p)
  no_row_read compared is p (of_header span lt) = inl span
  no_row_read compared is p (of_entry asked i member span) = inr (i, member, span)
  no_row_read compared is p (of_row i k lands reached span lt) =
      absurd (no_function_means s address pc compared is i lands.landed lands.covered)

-- ---- how many

-- the places of a span
abbrev span_of : ℕ → ℕ → List ℕ
span_of from width = listed (λ p. p) width from

in_span : (width from p : ℕ) → InSpan from width p → Memᴰ p (span_of from width)
unfolding listed
in_span zero from p span = absurd (omega (arith, span.0, span.1))
in_span (suc width) from p span =
    ⊎_elim
    (λ is. Memᴰ.head (sym is))
    (λ past. Memᴰ.tail (in_span width (suc from) p (past, omega (arith, span.1))))
    (eq-or-lt_of_le span.0)

-- of entries with these indexes
entry_places : ℕ → List ℕ → List ℕ
entry_places table [] = []
entry_places table (i ∷ is) = span_of (table + 20 * i) 20 ++ entry_places table is

entries_long : (table : ℕ) (is : List ℕ) → length (entry_places table is) ≡ 20 * length is
unfolding entry_places
entries_long table [] = refl
entries_long table (i ∷ is) =
    length-append (span_of (table + 20 * i) 20) (entry_places table is)
    ∙ rw (listed_length (λ p. p) 20 (table + 20 * i), entries_long table is) (omega arith)

in_entries : (table : ℕ) (is : List ℕ) (i p : ℕ) → Memᴰ i is → InSpan (table + 20 * i) 20 p → Memᴰ p (entry_places table is)
unfolding entry_places
in_entries table [] i p member span = absurd (Memᴰ.not-nil member)
in_entries table (j ∷ is) i p member span =
    ⊎_elim
    (λ same. Memᴰ.append_left (entry_places table is) (in_span 20 (table + 20 * j) p (rw same at span)))
    (λ later. Memᴰ.append_right (span_of (table + 20 * j) 20) (in_entries table is i p later span))
    (Memᴰ.cases_cons member)

module _ (s : List ℕ) (d : ℤ) where
  abbrev header_and_entries : List ℕ
  header_and_entries = span_of 0 28 ++ entry_places (layout_of s).table (entries_compared d (functions_of s))

  at-most-twenty : CanBeAsked s → length (entries_compared d (functions_of s)) ≤ 20
  at-most-twenty asked =
      rw (as_many_compared d (functions_of s)) (count_twenty d (functions_of s) (rw functions_count (few_functions asked.0)))

  few-places : CanBeAsked s → length header_and_entries ≤ 28 + 20 * 20
  few-places asked =
      rw (
        length-append (span_of 0 28) (entry_places (layout_of s).table (entries_compared d (functions_of s))),
        listed_length (λ p. p) 28 0,
        entries_long (layout_of s).table (entries_compared d (functions_of s)),
      )
      (omega (arith, at-most-twenty asked))

  when-asked : CanBeAsked s → AtMostBesideRows s d (28 + 20 * 20)
  when-asked asked = record { places = header_and_entries; few = few-places asked; all = all }
    where
      all : (p : ℕ) → ReadAt s d p → Memᴰ p header_and_entries ⊎ InLandedRows s d p
      all p (of_header span lt) = inl (Memᴰ.append_left _ (in_span 28 0 p span))
      all p (of_entry asked i member span) = inl (Memᴰ.append_right (span_of 0 28) (in_entries (layout_of s).table _ i p member span))
      all p (of_row i k lands reached span lt) = inr (i, k, lands, reached, span)

  -- where nothing is compared, the header alone
  when-not : ¬ CanBeAsked s → AtMostBesideRows s d (28 + 20 * 20)
  when-not not-asked = record { places = span_of 0 28; few = rw (listed_length (λ p. p) 28 0) (omega arith); all = all }
    where
      all : (p : ℕ) → ReadAt s d p → Memᴰ p (span_of 0 28) ⊎ InLandedRows s d p
      all p (of_header span lt) = inl (in_span 28 0 p span)
      all p (of_entry asked i member span) = absurd (not-asked asked)
      all p (of_row i k lands reached span lt) = absurd (not-asked lands.asked)

  -- at most 28 + 20 * 20 bytes and one function's rows
  pub at_most_428 : AtMostBesideRows s d (28 + 20 * 20)
  at_most_428 = by (header_fault s) refl
    where
      by : (fault : Fault) → header_fault s ≡ fault → AtMostBesideRows s d (28 + 20 * 20)
      by Sound is =
          by_value (layout_of s).sorted
          (λ set. when-asked ((header_exactly_when s).0 is, set))
          (λ unset. when-not (λ asked. true≢false (sym asked.1 ∙ unset)))
      by (Breaks number) is = when-not (λ asked. breaks_not_obeys s number is asked.0)
