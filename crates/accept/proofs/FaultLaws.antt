-- How the tests are joined: what a table of tests, two faults one after the other, and the first fault of many come to.
-- Assumes nothing.
use mathlib.Core.Path.{◌≡◌, refl, sym, ◌∙◌, ap, subst}
use mathlib.Core.Bool.{Bool}
use mathlib.Core.List.{List, [], ◌∷◌}
use mathlib.Core.Logic.Iff
use mathlib.Core.Logic.{◌⊎◌, inl, inr, ◌↔◌, ⊎_elim}
use Prim.Native.Nat.{ℕ, zero, suc, ◌+◌, ◌-◌, ◌≤◌, ◌<◌}
use native.Mathlib.Nat.{eq-or-lt_of_le}
use native.Mathlib.Omega.{arith}
use Rattle.accept.specs.Computed.Checks.{first_bad, and_then, given_at, then_try, first_of, fault_of}
use Rattle.accept.specs.Fault.{Fault, Sound, Breaks}
use Rattle.accept.specs.Verdict.{Verdict, Accepted, Refused}
use Rattle.accept.proofs.Decides.{Decides, passes, fails, by_test_lem}

pub sound_or_breaks : {number : ℕ} → Sound ≡ Breaks number → ⊥
sound_or_breaks e = let z : ◌≡◌ {A = ℕ} 0 1 = cc in omega arith

pub accepted_or_refused : {number index : ℕ} → Accepted ≡ Refused number index → ⊥
accepted_or_refused e = let z : ◌≡◌ {A = ℕ} 0 1 = cc in omega arith

breaks_same : {m n : ℕ} → Breaks m ≡ Breaks n → m ≡ n
breaks_same e = cc

-- ---- a table of tests

-- each test of a table decides the rule at its place of a list of rules
pub data Table : List (Bool × ℕ) → List (Type 0) → Type 1 where
  end : Table [] []
  line : {test : Bool} {number : ℕ} {tests : List (Bool × ℕ)} {P : Type 0} {rules : List (Type 0)} → Decides test P → Table tests rules
      → Table ((test, number) ∷ tests) (P ∷ rules)

abbrev pub AllHold : List (Type 0) → Type 0
AllHold [] = Unit
AllHold (P ∷ rules) = P × AllHold rules

-- the rule whose test has this number is broken, and all before it hold
abbrev pub FirstBroken : List (Bool × ℕ) → List (Type 0) → ℕ → Type 0
FirstBroken [] rules number = ⊥
FirstBroken (test ∷ tests) [] number = ⊥
FirstBroken (test ∷ tests) (P ∷ rules) number = ((number ≡ test.1) × ¬ P) ⊎ (P × FirstBroken tests rules number)

module _ {test : Bool} {P : Type 0} (number : ℕ) (tests : List (Bool × ℕ)) (d : Decides test P) where
  table-stop : ¬ P → first_bad ((test, number) ∷ tests) ≡ Breaks number
  unfolding first_bad
  table-stop bad = rw (fails d bad)

  table-next : P → first_bad ((test, number) ∷ tests) ≡ first_bad tests
  unfolding first_bad
  table-next good = rw (passes d good)

pub table_sound : {tests : List (Bool × ℕ)} {rules : List (Type 0)} → Table tests rules → (first_bad tests ≡ Sound) ↔ AllHold rules
unfolding first_bad
table_sound end = (λ e. tt, λ u. refl)
table_sound (line {number = n} {tests = tests} d rest) = (
  λ e.
      by_test_lem d
      (λ bad. absurd (sound_or_breaks (sym e ∙ table-stop n tests d bad)))
      (λ good. (good, (table_sound rest).0 (sym (table-next n tests d good) ∙ e))),
  λ h. table-next n tests d h.0 ∙ (table_sound rest).1 h.1,
)

pub table_breaks : {tests : List (Bool × ℕ)} {rules : List (Type 0)} → Table tests rules → (number : ℕ)
    → (first_bad tests ≡ Breaks number) ↔ FirstBroken tests rules number
unfolding first_bad
table_breaks end number = (λ e. sound_or_breaks e, λ h. absurd h)
table_breaks (line {number = n} {tests = tests} d rest) number = (
  λ e.
      by_test_lem d
      (λ bad. inl (breaks_same (sym e ∙ table-stop n tests d bad), bad))
      (λ good. inr (good, (table_breaks rest number).0 (sym (table-next n tests d good) ∙ e))),
  ⊎_elim
      (λ h. table-stop n tests d h.1 ∙ ap Breaks (sym h.0))
      (λ h. table-next n tests d h.0 ∙ (table_breaks rest number).1 h.1),
)

-- ---- two faults, one after the other

pub and_sound : (fault next : Fault) → (and_then fault next ≡ Sound) ↔ ((fault ≡ Sound) × (next ≡ Sound))
unfolding and_then
and_sound Sound next = (λ e. (refl, e), λ h. h.1)
and_sound (Breaks number) next = (λ e. absurd (sound_or_breaks (sym e)), λ h. absurd (sound_or_breaks (sym h.0)))

pub and_breaks : (fault next : Fault) (number : ℕ)
    → (and_then fault next ≡ Breaks number) ↔ ((fault ≡ Breaks number) ⊎ ((fault ≡ Sound) × (next ≡ Breaks number)))
unfolding and_then
and_breaks Sound next number = (λ e. inr (refl, e), ⊎_elim (λ e. absurd (sound_or_breaks e)) (λ h. h.1))
and_breaks (Breaks other) next number = (inl, ⊎_elim (λ e. e) (λ h. absurd (sound_or_breaks (sym h.0))))

pub try_accepted : (verdict next : Verdict) → (then_try verdict next ≡ Accepted) ↔ ((verdict ≡ Accepted) × (next ≡ Accepted))
unfolding then_try
try_accepted Accepted next = (λ e. (refl, e), λ h. h.1)
try_accepted (Refused number index) next = (λ e. absurd (accepted_or_refused (sym e)), λ h. absurd (accepted_or_refused (sym h.0)))

pub try_refused : (verdict next : Verdict) (number index : ℕ)
    → (then_try verdict next ≡ Refused number index) ↔ ((verdict ≡ Refused number index) ⊎ ((verdict ≡ Accepted) × (next ≡ Refused number index)))
unfolding then_try
try_refused Accepted next number index = (λ e. inr (refl, e), ⊎_elim (λ e. absurd (accepted_or_refused e)) (λ h. h.1))
try_refused (Refused m i) next number index = (inl, ⊎_elim (λ e. e) (λ h. absurd (accepted_or_refused (sym h.0))))

-- ---- a fault with its index, and without

pub at_accepted : (index : ℕ) (fault : Fault) → (given_at index fault ≡ Accepted) ↔ (fault ≡ Sound)
unfolding given_at
at_accepted index Sound = (λ e. refl, λ e. refl)
at_accepted index (Breaks number) = (λ e. absurd (accepted_or_refused (sym e)), λ e. absurd (sound_or_breaks (sym e)))

pub at_refused : (index : ℕ) (fault : Fault) (number i : ℕ) → (given_at index fault ≡ Refused number i) ↔ ((fault ≡ Breaks number) × (i ≡ index))
unfolding given_at
at_refused index Sound number i = (λ e. absurd (accepted_or_refused e), λ h. absurd (sound_or_breaks h.0))
at_refused index (Breaks other) number i = (λ e. (cc, cc), λ h. let (same, at) = h in cc)

pub fault_sound : (verdict : Verdict) → (fault_of verdict ≡ Sound) ↔ (verdict ≡ Accepted)
unfolding fault_of
fault_sound Accepted = (λ e. refl, λ e. refl)
fault_sound (Refused number index) = (λ e. absurd (sound_or_breaks (sym e)), λ e. absurd (accepted_or_refused (sym e)))

pub fault_breaks : (verdict : Verdict) (number : ℕ) → (fault_of verdict ≡ Breaks number) ↔ ((index : ℕ) × (verdict ≡ Refused number index))
unfolding fault_of
fault_breaks Accepted number = (λ e. absurd (sound_or_breaks e), λ h. absurd (accepted_or_refused h.1))
fault_breaks (Refused other index) number = (λ e. (index, cc), λ h. let (i, e) = h in cc)

-- ---- the first fault of many: one turn

pub first_next : (fault : ℕ → Fault) (left k : ℕ) → fault k ≡ Sound → first_of fault (suc left) k ≡ first_of fault left (suc k)
unfolding first_of given_at then_try
first_next fault left k e = rw e

pub first_stop : (fault : ℕ → Fault) (left k : ℕ) {number : ℕ} → fault k ≡ Breaks number → first_of fault (suc left) k ≡ Refused number k
unfolding first_of given_at then_try
first_stop fault left k e = rw e

-- the same of a loop that is at k of `count`: it goes on, stops, or is at its end
pub left_goes_on : (fault : ℕ → Fault) (count k : ℕ) → k < count → fault k ≡ Sound → first_of fault (count - k) k ≡ first_of fault (count - suc k) (suc k)
left_goes_on fault count k lt e =
    let left : count - k ≡ suc (count - suc k) = omega arith in
    rw left (first_next fault (count - suc k) k e)

pub left_stops : (fault : ℕ → Fault) (count k : ℕ) {number : ℕ} → k < count → fault k ≡ Breaks number → first_of fault (count - k) k ≡ Refused number k
left_stops fault count k lt e =
    let left : count - k ≡ suc (count - suc k) = omega arith in
    rw left (first_stop fault (count - suc k) k e)

pub left_ends : (fault : ℕ → Fault) (count k : ℕ) → count ≤ k → first_of fault (count - k) k ≡ Accepted
unfolding first_of
left_ends fault count k le =
    let left : count - k ≡ 0 = omega arith in
    rw left

-- ---- and all turns, from k on

accepted_all : (fault : ℕ → Fault) (count k : ℕ) → first_of fault count k ≡ Accepted → (i : ℕ) → k ≤ i → i < k + count → fault i ≡ Sound
unfolding first_of
accepted_all fault zero k e i le lt = absurd (omega arith)
accepted_all fault (suc left) k e i le lt =
    let (here, rest) = (try_accepted (given_at k (fault k)) (first_of fault left (suc k))).0 e in
    ⊎_elim
    (λ same. subst (λ j. fault j ≡ Sound) same ((at_accepted k (fault k)).0 here))
    (λ later. accepted_all fault left (suc k) rest i later (omega arith))
    (eq-or-lt_of_le le)

all_accepted : (fault : ℕ → Fault) (count k : ℕ) → ((i : ℕ) → k ≤ i → i < k + count → fault i ≡ Sound) → first_of fault count k ≡ Accepted
unfolding first_of
all_accepted fault zero k all = refl
all_accepted fault (suc left) k all =
    first_next fault left k (all k (omega arith) (omega arith)) ∙ all_accepted fault left (suc k) (λ i le lt. all i (omega arith) (omega arith))

pub first_accepted : (fault : ℕ → Fault) (count k : ℕ)
    → (first_of fault count k ≡ Accepted) ↔ ((i : ℕ) → k ≤ i → i < k + count → fault i ≡ Sound)
first_accepted fault count k = (accepted_all fault count k, all_accepted fault count k)

-- thing i is the first, from `from` on, that has a fault
pub record FirstBreak (fault : ℕ → Fault) (from count number i : ℕ) : Type 0 where
  pub after : from ≤ i
  pub inside : i < from + count
  pub breaks : fault i ≡ Breaks number
  pub earlier : (j : ℕ) → from ≤ j → j < i → fault j ≡ Sound

-- one more thing before it, without a fault
one_before : {fault : ℕ → Fault} {k left number i : ℕ} → fault k ≡ Sound → FirstBreak fault (suc k) left number i
    → FirstBreak fault k (suc left) number i
one_before {fault} {k} {left} {number} {i} here first =
    record {
      after = omega arith;
      inside = omega arith;
      breaks = first.breaks;
      earlier = λ j le lt. ⊎_elim (λ same. subst (λ j. fault j ≡ Sound) same here) (λ later. first.earlier j later lt) (eq-or-lt_of_le le);
    }

refused_first : (fault : ℕ → Fault) (count k number i : ℕ) → first_of fault count k ≡ Refused number i → FirstBreak fault k count number i
unfolding first_of
refused_first fault zero k number i e = absurd (accepted_or_refused e)
refused_first fault (suc left) k number i e =
    ⊎_elim
    (λ here.
    let (breaks, same) = (at_refused k (fault k) number i).0 here in
    record { after = omega arith; inside = omega arith; breaks = rw same breaks; earlier = λ j le lt. absurd (omega arith) })
    (λ later. one_before ((at_accepted k (fault k)).0 later.0) (refused_first fault left (suc k) number i later.1))
    ((try_refused (given_at k (fault k)) (first_of fault left (suc k)) number i).0 e)

first_refuses : (fault : ℕ → Fault) (count k number i : ℕ) → FirstBreak fault k count number i → first_of fault count k ≡ Refused number i
first_refuses fault zero k number i first = absurd (omega arith)
first_refuses fault (suc left) k number i first =
    ⊎_elim
    (λ same. rw (← same) (first_stop fault left k (rw same first.breaks)))
    (λ later.
    first_next fault left k (first.earlier k (omega arith) later)
    ∙ first_refuses fault left (suc k) number i
    (record
    { after = later; inside = omega arith; breaks = first.breaks; earlier = λ j le lt. first.earlier j (omega arith) lt }))
    (eq-or-lt_of_le first.after)

pub first_refused : (fault : ℕ → Fault) (count k number i : ℕ) → (first_of fault count k ≡ Refused number i) ↔ FirstBreak fault k count number i
first_refused fault count k number i = (refused_first fault count k number i, first_refuses fault count k number i)

-- ---- all turns, from 0 on, where P says what a thing without a fault is like

module _ {P : ℕ → Type 0} (fault : ℕ → Fault) (count : ℕ) (means : (i : ℕ) → (fault i ≡ Sound) ↔ P i) where
  pub each_sound : (first_of fault count 0 ≡ Accepted) ↔ ((i : ℕ) → i < count → P i)
  each_sound =
      Iff.trans (first_accepted fault count 0)
      (λ all i lt. (means i).0 (all i (omega arith) (omega arith)), λ all i le lt. (means i).1 (all i (omega arith)))

  pub one_breaks : (number i : ℕ) → i < count → fault i ≡ Breaks number → ((j : ℕ) → j < i → P j) → first_of fault count 0 ≡ Refused number i
  one_breaks number i inside breaks earlier =
      (first_refused fault count 0 number i).1
      (record { after = omega arith; inside = omega arith; breaks = breaks; earlier = λ j le lt. (means j).1 (earlier j lt) })
