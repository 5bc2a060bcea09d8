-- What is promised of the rows that are passed says something: section S and S with another offset in its first row agree on what a lookup
-- in the second row looks at, so they answer it alike; and they answer a lookup in the first row differently.
-- Assumes nothing.
use mathlib.Core.Path.{◌≡◌, refl, sym, ◌∙◌, ap}
use mathlib.Core.List.{List}
use Prim.Native.Nat.{ℕ, zero, suc, ◌+◌, ◌-◌, ◌≤◌, ◌<◌}
use native.Mathlib.Omega.{arith}
use lib.Dec.{ltb}
use lib.IntN.{ℤ}
use lib.ListN.{take, drop, set}
use lib.Seq.{drop-set-lt, drop-set-add, take-set-le}
use borrow.Author.Tests.{ltb-true, ltb-false}
use Rattle.numbers.specs.Start.{distance}
use Rattle.numbers.specs.Inner.Held.{natural}
use Rattle.section.specs.Entry.{type_of}
use Rattle.section.specs.Meaning.{area_of, shape_of, entry_in}
use Rattle.section.specs.SectionS.{section_s}
use Rattle.accept.specs.Rules.{function_count}
use Rattle.accept.specs.Computed.Checks.{verdict}
use Rattle.accept.specs.Verdict.{Accepted}
use Rattle.lookup.specs.Cases.{Covers, OffsetIs}
use Rattle.lookup.specs.Scanned.{start_in, LookAlike, LookedAt, of_passed, of_found, of_stop}
use Rattle.lookup.specs.Computed.Answers.{lookup_of}
use Rattle.lookup.specs.Outcome.{Outcome}
use Rattle.lookup.specs.Outcome.{Found, Unsound, NoFunction, Dispute, NoRow}
use Rattle.lookup.specs.Inner.Opened.{lookup_opened}
use Rattle.lookup.proofs.AnswerAgreement.{answer_agrees}
use Rattle.lookup.proofs.CoveringLaws.{by_value}
use Rattle.lookup.proofs.OffsetWithinLaws.{offset_unique}
use Rattle.promises.specs.PassedRows.{other_offset_s}

-- a byte that is set changes no other
elsewhere : (bytes : List ℕ) (i p a : ℕ) → ¬ (p ≡ i) → take 1 (drop p bytes) ≡ take 1 (drop p (set bytes i a))
elsewhere bytes i p a other =
    by_value (ltb i p)
    (λ e. sym (ap (take 1) (drop-set-lt p bytes i a (ltb-true i p e))))
    (λ e.
    let back : p ≤ i = ltb-false i p e in
    let there : i ≡ p + (i - p) = omega arith in
    sym
    (ap (λ n. take 1 (drop p (set bytes n a))) there
    ∙ ap (take 1) (drop-set-add p bytes (i - p) a)
    ∙ take-set-le 1 (drop p bytes) (i - p) a (omega arith)))

-- the PC is the first of the second row
abbrev d : ℤ
d = distance 0x400000 0x401004

accepted : verdict section_s ≡ Accepted
unfolding lookup_opened section_s
accepted = refl

also : verdict other_offset_s ≡ Accepted
unfolding lookup_opened section_s other_offset_s
also = refl

abbrev Looked : ℕ → ℕ → ℕ → Type 0
Looked i o p = LookedAt (area_of section_s) (shape_of section_s).order (type_of (entry_in section_s i).info) (entry_in section_s i).first (entry_in section_s i).rows o p

-- both rows of the first function start at or below o, which is 4
starts : (k : ℕ) → k < 2
    → start_in (area_of section_s) (shape_of section_s).order (type_of (entry_in section_s 0).info) (entry_in section_s 0).first k ≤ 4
unfolding lookup_opened section_s
starts zero lt = omega arith
starts (suc zero) lt = omega arith
starts (suc (suc k)) lt = absurd (omega arith)

offset_four : {o : ℕ} → OffsetIs section_s d 0 o → o ≡ 4
unfolding lookup_opened section_s
offset_four offset = offset_unique offset

-- byte 2 of the row area, the first row's offset, is not looked at
not_looked_at : (i o p : ℕ) → Covers section_s d i → OffsetIs section_s d i o → Looked i o p → ¬ (p ≡ 2)
unfolding lookup_opened section_s function_count
not_looked_at zero o p covered offset (of_passed zero row span) is = let below : p < 2 = span.1 in omega arith
not_looked_at zero o p covered offset (of_passed (suc zero) row span) is = let from : 3 ≤ p = span.0 in omega arith
not_looked_at zero o p covered offset (of_passed (suc (suc k)) row span) is = let inside : suc (suc k) < 2 = row.0 in omega arith
not_looked_at zero o p covered offset (of_found zero last span) is =
    let both = last.1 1 (omega arith, λ j le. rw (offset_four offset) (starts j (omega arith))) in
    omega arith
not_looked_at zero o p covered offset (of_found (suc zero) last span) is = let from : 3 ≤ p = span.0 in omega arith
not_looked_at zero o p covered offset (of_found (suc (suc k)) last span) is = let inside : suc (suc k) < 2 = last.0.0 in omega arith
not_looked_at zero o p covered offset (of_stop zero stop span) is = let above : o < 0 = stop.1 in omega arith
not_looked_at zero o p covered offset (of_stop (suc zero) stop span) is =
    let above : o < 4 = stop.1 in
    omega (arith, offset_four offset)
not_looked_at zero o p covered offset (of_stop (suc (suc k)) stop span) is = let inside : suc (suc k) < 2 = stop.0 in omega arith
not_looked_at (suc zero) o p covered offset looked is = absurd covered.1.le
not_looked_at (suc (suc i)) o p covered offset looked is = let inside : suc (suc i) < 2 = covered.0 in omega arith

in_area : (p : ℕ) → ¬ (p ≡ 2) → take 1 (drop p (area_of section_s)) ≡ take 1 (drop p (area_of other_offset_s))
unfolding lookup_opened section_s other_offset_s
in_area p other = elsewhere (area_of section_s) 2 p 0x20 other

pub other_offset_alike : LookAlike section_s other_offset_s d
unfolding lookup_opened section_s other_offset_s
other_offset_alike =
    record {
      header = λ p said. elsewhere section_s 70 p 0x20 (λ is. let below : p < 28 = said.1 in omega arith);
      table = λ p said. elsewhere section_s 70 p 0x20 (λ is. let below : p < 68 = said.1 in omega arith);
      rows = λ i o covered offset p looked. in_area p (not_looked_at i o p covered offset looked);
    }

-- so a lookup in the second row is answered alike
pub other_offset_same : lookup_of section_s 0x400000 0x401004 ≡ lookup_of other_offset_s 0x400000 0x401004
other_offset_same = answer_agrees section_s other_offset_s accepted also 0x400000 0x401004 other_offset_alike

-- and one in the first row is not: CFA is SP + 8, and SP + 32
told : Outcome → ℕ
told (Found row function number) = natural row.cfa.by
told (Unsound number index) = 0
told NoFunction = 0
told (Dispute first second) = 0
told (NoRow function) = 0

pub other_offset_counts : ¬ (lookup_of section_s 0x400000 0x401003 ≡ lookup_of other_offset_s 0x400000 0x401003)
unfolding lookup_opened section_s other_offset_s told
other_offset_counts e = let both : ◌≡◌ {A = ℕ} 8 32 = ap (λ answer. told answer.outcome) e in omega arith
