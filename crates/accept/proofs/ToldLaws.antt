-- What the code answers is known from what it tells: no two answers tell the same.
-- Assumes nothing.
use mathlib.Core.Path.{◌≡◌, refl, ◌∙◌, ap}
use Prim.Native.Nat.{ℕ}
use native.Mathlib.Omega.{arith}
use Rattle.std.proofs.Common.{Result, Ok, Err}
use Rattle.accept.specs.Told.{fault_told, rows_told, verdict_told}
use Rattle.accept.specs.declared.verdict.Refusal.{Refusal}
use Rattle.accept.specs.declared.verdict.Rule.{Rule}
use Rattle.accept.proofs.Exactly.{by_number}

pub fault_told_once : (a b : Result (Unit {0}) Rule) → fault_told a ≡ fault_told b → a ≡ b
fault_told_once (Ok done) (Ok over) e = refl
fault_told_once (Ok done) (Err rule) e = cc
fault_told_once (Err rule) (Ok done) e = cc
fault_told_once (Err rule) (Err other) e = ap Err (by_number rule other cc)

pub rows_told_once : {A : Type 0} (a b : Result A Rule) → rows_told a ≡ rows_told b → a ≡ b
rows_told_once a b e = grind (arith, by_number)

abbrev refused : Rule → ℕ → Result (Unit {0}) Refusal
refused rule index = Err (record { rule = rule; index = index })

pub verdict_told_once : (a b : Result (Unit {0}) Refusal) → verdict_told a ≡ verdict_told b → a ≡ b
verdict_told_once (Ok done) (Ok over) e = refl
verdict_told_once (Ok done) (Err refusal) e = cc
verdict_told_once (Err refusal) (Ok done) e = cc
verdict_told_once (Err refusal) (Err other) e =
    let rule : refusal.rule ≡ other.rule = by_number refusal.rule other.rule cc in
    let index : refusal.index ≡ other.index = cc in
    ap (λ rule. refused rule refusal.index) rule ∙ ap (refused other.rule) index
