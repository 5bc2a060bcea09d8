-- Whether d, as it is held, is within a function: how far it is past the start tells, by one comparison with the size.
-- Assumes nothing.
use mathlib.Core.Path.{◌≡◌, sym, ◌∙◌}
use mathlib.Core.Bool.{true, false, ◌&&◌}
use Prim.Native.Nat.{ℕ, ◌+◌, ◌-◌, ◌^◌, ◌≤◌, ◌<◌}
use native.Mathlib.Omega.{arith}
use lib.Dec.{leb, ltb}
use lib.IntN.{ℤ, pos, ◌+ℤ◌, ◌-ℤ◌}
use lib.Signed.{le_z, lt_z}
use borrow.Author.Tests.{leb-true, leb-false, ltb-true, ltb-false}
use Rattle.std.specs.Prelude.{Some, None}
use Rattle.numbers.specs.Inner.Held.{natural, Held, Near}
use Rattle.numbers.proofs.HeldLaws.{from_start, before_start, before_end, from_end, offset_in_lem}
use Rattle.section.specs.Meaning.{Function}
use Rattle.lookup.specs.Computed.Covering.{covers}
use Rattle.lookup.specs.Inner.Search.{past_start, past_in}
use Rattle.lookup.proofs.CoveringLaws.{by_value}

pub past_from : (h n : ℕ) → leb h n ≡ true → past_start h n ≡ n - h
unfolding past_start
past_from h n e = rw (e, past_start)

pub past_before : (h n : ℕ) → leb h n ≡ false → past_start h n ≡ n + 2 ^ 64 - h
unfolding past_start
past_before h n e = rw (e, past_start)

module _ {start d : ℤ} {h n : ℕ} (held : Held start h) (near : Near d n) (size : ℕ) (small : size < 2 ^ 32) where
  pub inside : past_start h n < size → (le_z start d && lt_z d (start +ℤ pos size)) ≡ true
  inside lt =
      by_value (leb h n)
      (λ e.
      let from : h ≤ n = leb-true h n e in
      rw (from_start held near from) (before_end size held near small (omega (arith, past_from h n e))))
      (λ e. absurd (omega (arith, past_before h n e, held.room, leb-false h n e)))

  pub outside : size ≤ past_start h n → (le_z start d && lt_z d (start +ℤ pos size)) ≡ false
  outside le =
      by_value (leb h n)
      (λ e.
      let from : h ≤ n = leb-true h n e in
      rw (from_start held near from) (from_end size held near small (omega (arith, past_from h n e))))
      (λ e. rw (before_start held near (leb-false h n e)))

  pub within : ltb (past_start h n) size ≡ (le_z start d && lt_z d (start +ℤ pos size))
  within =
      by_value (ltb (past_start h n) size)
      (λ e. e ∙ sym (inside (ltb-true _ _ e)))
      (λ e. e ∙ sym (outside (ltb-false _ _ e)))

-- ---- how far it is past the start of a function that covers

module _ (f : Function) {d : ℤ} {h n : ℕ} (held : Held f.start h) (near : Near d n) (small : f.size < 2 ^ 32) where
  pub past_by : past_start h n < f.size → Some (past_start h n) ≡ past_in d f
  unfolding past_in covers natural
  past_by lt =
      let set : covers d f ≡ true = inside held near f.size small lt in
      by_value (leb h n)
      (λ e.
      let from : h ≤ n = leb-true h n e in
      let past : d -ℤ f.start ≡ pos (n - h) = offset_in_lem f.size held near small from (omega (arith, past_from h n e)) in
      rw (set, past_in) (rw (past, past_from h n e)))
      (λ e. absurd (omega (arith, past_before h n e, held.room, leb-false h n e)))

  pub past_none : f.size ≤ past_start h n → None ≡ past_in d f
  unfolding past_in covers
  past_none le = let unset : covers d f ≡ false = outside held near f.size small le in rw (unset, past_in)
