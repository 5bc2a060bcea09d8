-- What an explanation says holds, case by case: of the section, the PC, the stack window, the process and the registers that are handed in.
-- Assumes nothing.
use mathlib.Core.Path.{◌≡◌, refl, sym, ◌∙◌, ap}
use mathlib.Core.Bool.{true, false}
use mathlib.Core.List.{List}
use mathlib.Core.Logic.{⊎_elim}
use Prim.Native.Nat.{ℕ, ◌+◌, ◌^◌, ◌≤◌, ◌<◌}
use native.Mathlib.Omega.{arith}
use lib.Dec.{ltb}
use lib.IntN.{ℤ}
use lib.ListN.{length}
use borrow.Author.Tests.{ltb-true, ltb-false}
use Rattle.std.specs.Prelude.{Option, Some, None, Result, Ok, Err}
use Rattle.numbers.specs.Start.{distance}
use Rattle.numbers.specs.Computed.Address.{in_memory, window_fits}
use Rattle.numbers.specs.declared.field.Order.{Order}
use Rattle.numbers.specs.declared.offset.Offset.{Offset}
use Rattle.section.specs.Meaning.{area_of, shape_of, entry_in, function_in, functions_of}
use Rattle.section.specs.declared.row.Place.{Place}
use Rattle.section.specs.declared.row.Place.TheVariants.{AtOffset}
use Rattle.section.specs.declared.row.Row.{Row}
use Rattle.accept.specs.Rules.{row_count, row_start_at}
use Rattle.accept.specs.Computed.Checks.{verdict}
use Rattle.accept.specs.Verdict.{Verdict}
use Rattle.accept.specs.Verdict as verdict
use Rattle.accept.proofs.Exactly.{accepted_exactly_when, refused_by_a_rule}
use Rattle.lookup.specs.Computed.Answers.{with_row, with_cover, outcome}
use Rattle.lookup.specs.Computed.Covering.{covering, cover_of}
use Rattle.lookup.specs.Computed.Rows.{offset_within, row_for}
use Rattle.lookup.specs.Outcome as outcome
use Rattle.lookup.specs.declared.rows.Hit.{Hit}
use Rattle.lookup.specs.declared.search.Cover.{Cover}
use Rattle.lookup.specs.declared.search.Cover.TheVariants.{Nobody, One, Two}
use Rattle.lookup.proofs.CaseLaws.{functions_at, functions_count, outcome_exactly_when}
use Rattle.lookup.proofs.CoveringLaws.{by_value}
use Rattle.lookup.proofs.LookLaws.{only_one}
use Rattle.lookup.proofs.OffsetWithinLaws.{offset_unique}
use Rattle.caller.specs.Cases.{WindowFits, ValueIs, Outside, Rule24, Rule25, CfaIs, Rule26, Rule27}
use Rattle.caller.specs.Frame.{asked_of, base_value, cfa_of, caller_sp}
use Rattle.caller.specs.Signature.{mask_of}
use Rattle.caller.specs.Computed.Caller.{is_maskless, is_low, spot_of, is_lost}
use Rattle.caller.specs.declared.registers.Process.{Process}
use Rattle.caller.specs.declared.registers.Registers.{Registers}
use Rattle.caller.proofs.Asked.{asked_exactly_when, nowhere_exactly_when}
use Rattle.caller.proofs.TestLaws.{fits_shows, maskless_shows, low_shows, lost_shows, in_memory_lem, out_of_memory, memory_decided}
use Rattle.caller.specs.declared.place.Needed.{Needed}
use Rattle.caller.specs.declared.place.Needed.TheVariants.{Ra, Fp}
use Rattle.explain.specs.Why.{StartIs, AboveOffset, WhyFound, WhyNoRow, NearestBelow, NearestAbove, AllCovering, WhyLooked, WhyUnsound, WhyLookup, WhySigned, WhyCfaOutside, WhyCfaLow, WhyRaLost, NeededAt, WhyWordOutside, WhyRow, WhyWindow, WhyAt, WhyNothingAsked, WhyStepReason, WhyStep}
use Rattle.explain.specs.Computed.Coverers.{no_coverers, coverers_in}
use Rattle.explain.specs.Computed.Lookup.{start_in, by_scan, in_function, alone_why, no_function_why, by_cover, looked_of, why_after, lookup_why}
use Rattle.explain.specs.Computed.Nearest.{nearest_in}
use Rattle.explain.specs.Computed.Step.{fetched_of, outside_why, caller_why, with_ra, from_words, from_high, from_cfa_why, by_address, from_row_why, by_reason, by_looked, unlooked_why, asked_why, checked_why, step_why}
use Rattle.explain.specs.declared.nearby.Side.TheVariants.{Below, Above}
use Rattle.explain.specs.declared.why.Coverers.{Coverers}
use Rattle.explain.specs.declared.why.FoundRow.{FoundRow}
use Rattle.explain.proofs.FetchLaws.{fetch_decided, not_outside}
use Rattle.explain.proofs.GatherLaws.{all_covering}
use Rattle.explain.proofs.NearestLaws.{nearest_below, nearest_above}
use Rattle.explain.specs.declared.why.NotFound.{NotFound}

-- ---- rows

module _ (s : List ℕ) (i k : ℕ) where
  start_is : StartIs s i k (start_in (area_of s) (shape_of s) (entry_in s i) k)
  unfolding start_in row_count row_start_at
  start_is =
      by_value (ltb k (entry_in s i).rows)
      (λ e. rw (e, start_in) (ltb-true k (entry_in s i).rows e, refl))
      (λ e. rw (e, start_in) (ltb-false k (entry_in s i).rows e))

  start_above : (o : ℕ) → (k < row_count s i → o < row_start_at s i k) → AboveOffset o (start_in (area_of s) (shape_of s) (entry_in s i) k)
  unfolding start_in row_count row_start_at
  start_above o above =
      by_value (ltb k (entry_in s i).rows)
      (λ e. rw (e, start_in) (above (ltb-true k (entry_in s i).rows e)))
      (λ e. rw (e, start_in) tt)

-- ---- a lookup in an accepted section

module _ (s : List ℕ) (accepted : verdict s ≡ verdict.Accepted) (d : ℤ) where
  -- 21
  pub no_function_holds : cover_of (covering d (functions_of s)) ≡ Nobody → NearestBelow s d (nearest_in s Below d) × NearestAbove s d (nearest_in s Above d)
  unfolding outcome with_cover
  no_function_holds e =
      let none = (outcome_exactly_when s d accepted outcome.NoFunction).0 (ap (with_cover d (functions_of s)) e) in
      (nearest_below s d none, nearest_above s d none)

  -- 22: there are two, and so the number is two or more
  pub dispute_holds : (i j : ℕ) → cover_of (covering d (functions_of s)) ≡ Two i j → (2 ≤ (coverers_in s d).count) × AllCovering s d (coverers_in s d)
  unfolding outcome with_cover
  dispute_holds i j e =
      let (less, here, there, least) = (outcome_exactly_when s d accepted (outcome.Dispute i j)).0 (ap (with_cover d (functions_of s)) e) in
      let all = all_covering s d in
      let (m, first, is) = all.every i here in
      let (n, second, also) = all.every j there in
      let apart : ¬ (m ≡ n) = λ same. let clash : i ≡ j = sym is ∙ ap all.nth same ∙ also in omega arith in
      (omega arith, all)

  module _ (i : ℕ) (e : cover_of (covering d (functions_of s)) ≡ One i) where
    abbrev used : ℕ
    used = offset_within d (function_in s i)

    scanned : {scan : Option Hit} → row_for d (function_in s i) ≡ scan → outcome d (functions_of s) ≡ with_row i scan
    unfolding outcome with_cover
    scanned is =
        let inside = rw functions_count at (only_one d (functions_of s) i e).0 in
        ap (with_cover d (functions_of s)) e ∙ ap (λ f. with_row i (row_for d f)) (functions_at s i inside) ∙ ap (with_row i) is

    -- a found row
    pub found_holds : (row : Row) (k : ℕ) → row_for d (function_in s i) ≡ Some (record { row = row; number = k })
        → WhyFound s d
        (record { row = row; function = i; number = k; offset = used; next = start_in (area_of s) (shape_of s) (entry_in s i) (k + 1) })
    unfolding with_row
    found_holds row k is =
        let case = (outcome_exactly_when s d accepted (outcome.Found row i k)).0 (scanned is) in
        let same = offset_unique case.offset_is in
        record {
          only = case.only;
          offset_is = rw (← same) case.offset_is;
          inside = case.last.0.0;
          row_is = case.row_is;
          from = rw (← same) case.last.0.1;
          next_is = start_is s i (k + 1);
          above = rw (← same)
              (start_above s i (k + 1) case.offset λ inside.
              let late : ¬ (row_start_at s i (k + 1) ≤ case.offset) = λ le. omega (arith, case.last.1 (k + 1) (inside, le)) in
              omega arith);
        }

    -- 23
    pub no_row_holds : row_for d (function_in s i) ≡ None → WhyNoRow s d i used (start_in (area_of s) (shape_of s) (entry_in s i) 0)
    unfolding with_row
    no_row_holds is =
        let case = (outcome_exactly_when s d accepted (outcome.NoRow i)).0 (scanned is) in
        let same = offset_unique case.offset_is in
        record {
          only = case.only;
          offset_is = rw (← same) case.offset_is;
          first_is = start_is s i 0;
          above = rw (← same)
              (start_above s i 0 case.offset λ inside.
              let late : ¬ (row_start_at s i 0 ≤ case.offset) = λ le. case.none 0 (inside, le) in
              omega arith);
        }

    function-holds : WhyLooked s d no_coverers (in_function s d i)
    unfolding in_function by_scan
    function-holds = by-scan (row_for d (function_in s i)) refl
      where
        by-scan : (scan : Option Hit) → row_for d (function_in s i) ≡ scan
            → WhyLooked s d no_coverers (by_scan (area_of s) (shape_of s) (entry_in s i) i used scan)
        by-scan None is = no_row_holds is
        by-scan (Some hit) is = found_holds hit.row hit.number is

  pub looked_holds : WhyLooked s d (looked_of s d).coverers (looked_of s d).looked
  unfolding looked_of by_cover alone_why no_function_why
  looked_holds = by-cover (cover_of (covering d (functions_of s))) refl
    where
      by-cover : (cover : Cover) → cover_of (covering d (functions_of s)) ≡ cover
          → WhyLooked s d (by_cover s d cover).coverers (by_cover s d cover).looked
      by-cover Nobody e = no_function_holds e
      by-cover (One i) e = function-holds i e
      by-cover (Two i j) e = dispute_holds i j e

-- ---- a lookup

module _ (s : List ℕ) where
  -- 1 to 15
  pub unsound_holds : (number index : ℕ) → verdict s ≡ verdict.Refused number index → WhyUnsound s number index
  unsound_holds number index e = refused_by_a_rule s number index e

  -- every case of a lookup at once
  pub lookup_explained_holds : (address pc : ℕ) → WhyLookup s address pc (lookup_why s address pc)
  unfolding lookup_why why_after
  lookup_explained_holds address pc = by-verdict (verdict s) refl
    where
      by-verdict : (v : Verdict) → verdict s ≡ v
          → WhyLookup s address pc (why_after v (looked_of s (distance address pc)))
      by-verdict verdict.Accepted e = ((accepted_exactly_when s).0 e, looked_holds s e (distance address pc))
      by-verdict (verdict.Refused number index) e = unsound_holds number index e

-- ---- what a row comes to

module _ (s stack : List ℕ) (process : Process) (registers : Registers) (r : Row) (fits : WindowFits stack process) where
  -- 24
  pub signed_holds : is_maskless (shape_of s) r process ≡ true → WhySigned s stack process registers r r.signed process.mask
  signed_holds e =
      let (signed, none) = (maskless_shows (shape_of s) r process).holds e in
      record { bit_is = refl; mask_is = refl; machine = signed.0; set = signed.1; none = none }

  module _ (unset : ¬ Rule24 (shape_of s) r process) where
    -- 25
    pub cfa_outside_holds : Rule25 registers r → WhyCfaOutside s stack process registers r (base_value registers r.base) r.cfa
    unfolding cfa_of
    cfa_outside_holds out = record { not_24 = unset; base_is = refl; offset_is = refl; outside = out }

    module _ (cfa : ℕ) (is : CfaIs registers r cfa) where
      -- 26
      pub cfa_low_holds : Rule26 registers cfa → WhyCfaLow s stack process registers r (caller_sp cfa) registers.sp registers.first
      cfa_low_holds low =
          record { not_24 = unset; cfa = cfa; cfa_is = is; callersp_is = refl; sp_is = refl; first_is = refl; low = low }

      module _ (high : ¬ Rule26 registers cfa) where
        -- 27
        pub ra_lost_holds : Rule27 registers r → WhyRaLost s stack process registers r registers.first
        ra_lost_holds lost =
            record {
              not_24 = unset;
              cfa = cfa;
              cfa_is = is;
              not_26 = high;
              no_place = lost.0;
              first_is = refl;
              unmarked = lost.1;
            }

        module _ (kept : ¬ Rule27 registers r) where
          abbrev order : Order
          order = (shape_of s).order

          -- 28
          pub word_outside_holds : (word : Needed) (offset : Offset) (place : Place) → place ≡ AtOffset offset
              → Outside stack process.stack cfa place → NeededAt s stack process registers r word cfa offset
              → WhyWordOutside s stack process registers r word cfa offset process.stack (length stack)
          word_outside_holds word offset place at out needed =
              record {
                not_24 = unset;
                cfa_is = is;
                not_26 = high;
                not_27 = kept;
                needed = needed;
                lies_is = refl;
                size_is = refl;
                outside = rw at at out;
              }

          -- the caller
          pub caller_holds : (ra fp : ℕ) → ValueIs stack process.stack order cfa registers.lr r.ra ra
              → ValueIs stack process.stack order cfa registers.fp r.fp fp
              → WhyRow s stack process registers r (caller_why registers (mask_of (shape_of s) r process) cfa ra fp)
          unfolding caller_why
          caller_holds ra fp ra_is fp_is =
              record {
                not_24 = unset;
                cfa_is = is;
                not_26 = high;
                not_27 = kept;
                ra_is = ra_is;
                pc_is = refl;
                sp_is = refl;
                fp_is = fp_is;
                lr_is = refl;
                first_is = refl;
              }

          words-hold : WhyRow s stack process registers r
              (from_words registers stack process.stack (mask_of (shape_of s) r process) cfa
              (fetched_of stack process.stack order cfa registers.lr r.ra) (fetched_of stack process.stack order cfa registers.fp r.fp))
          unfolding from_words with_ra outside_why
          words-hold =
              ⊎_elim
              (λ ra.
              let (value, there, e) = ra in
              ⊎_elim
              (λ fp. let (other, also, f) = fp in rw (e, f) (caller_holds value other there also))
              (λ fp.
              let (offset, at, out, f) = fp in
              rw (e, f)
              (word_outside_holds Fp offset r.fp at out (at, not_outside stack process.stack order cfa registers.lr r.ra value there)))
              (fetch_decided stack process.stack order cfa registers.fp fits r.fp))
              (λ ra. let (offset, at, out, e) = ra in rw e (word_outside_holds Ra offset r.ra at out at))
              (fetch_decided stack process.stack order cfa registers.lr fits r.ra)

        high-holds : WhyRow s stack process registers r (from_high (shape_of s) stack process registers r cfa)
        unfolding from_high
        high-holds =
            let lost = lost_shows registers cfa r.ra in
            by_value (is_lost registers (spot_of cfa r.ra))
            (λ e. rw (e, from_high) (ra_lost_holds (lost.holds e)))
            (λ e. rw (e, from_high) (words-hold (lost.broken e)))

      cfa-holds : WhyRow s stack process registers r (from_cfa_why (shape_of s) stack process registers r cfa)
      unfolding from_cfa_why
      cfa-holds =
          let low = low_shows registers cfa in
          by_value (is_low registers (caller_sp cfa))
          (λ e. rw (e, from_cfa_why) (cfa_low_holds (low.holds e)))
          (λ e. rw (e, from_cfa_why) (high-holds (low.broken e)))

    address-holds : WhyRow s stack process registers r (by_address (shape_of s) stack process registers r (in_memory (cfa_of registers r)))
    unfolding by_address
    address-holds =
        ⊎_elim
        (λ h. let (cfa, is, lt) = h in rw (in_memory_lem (cfa_of registers r) cfa is lt) (cfa-holds cfa (is, lt)))
        (λ out. rw (out_of_memory (cfa_of registers r) out) (cfa_outside_holds out))
        (memory_decided (cfa_of registers r))

  row-holds : WhyRow s stack process registers r (from_row_why (shape_of s) stack process registers r)
  unfolding from_row_why
  row-holds =
      by_value (is_maskless (shape_of s) r process)
      (λ e. rw (e, from_row_why) (signed_holds e))
      (λ e. rw (e, from_row_why) (address-holds ((maskless_shows (shape_of s) r process).broken e)))

-- ---- a step

module _ (s stack : List ℕ) (process : Process) (registers : Registers) where
  -- 41
  pub window_holds : window_fits stack process.stack ≡ false → WhyWindow s stack process registers process.stack (length stack)
  window_holds e =
      let past : ¬ (process.stack + length stack ≤ 2 ^ 64) = (fits_shows stack process).broken e in
      record { lies_is = refl; size_is = refl; above = omega arith }

  module _ (fits : WindowFits stack process) (accepted : verdict s ≡ verdict.Accepted) where
    -- 21 at PC 0 without the mark
    pub nothing_asked_holds : asked_of registers ≡ None → WhyNothingAsked s stack process registers
    nothing_asked_holds e =
        record { fits = fits; obeys = (accepted_exactly_when s).0 accepted; nothing = (nowhere_exactly_when registers).0 e }

    module _ (pc : ℕ) (e : asked_of registers ≡ Some pc) where
      -- 21 to 23, and the row found, at the PC looked up
      pub at_holds : {P : ℤ → Type 0} → P (distance process.section pc) → WhyAt s stack process registers pc P
      at_holds h = record { fits = fits; obeys = (accepted_exactly_when s).0 accepted; asked = (asked_exactly_when registers pc).0 e; holds = h }

      by-looked : (coverers : Coverers) (why : Result FoundRow NotFound) → WhyLooked s (distance process.section pc) coverers why
          → WhyStepReason s stack process registers coverers (by_reason (shape_of s) stack process registers pc why)
      unfolding by_reason
      by-looked coverers (Err why) h = at_holds h
      by-looked coverers (Ok found) h = (at_holds h, row-holds s stack process registers found.row fits)

    asked-holds : (asked : Option ℕ) → asked_of registers ≡ asked → WhyStep s stack process registers (asked_why s stack process registers asked)
    unfolding asked_why unlooked_why by_looked
    asked-holds None e = nothing_asked_holds e
    asked-holds (Some pc) e = by-looked pc e _ _ (looked_holds s accepted (distance process.section pc))

  -- every case of a step at once
  pub step_explained_holds : WhyStep s stack process registers (step_why s stack process registers)
  unfolding step_why checked_why unlooked_why
  step_explained_holds =
      by_value (window_fits stack process.stack)
      (λ e. rw (e, step_why) (by-verdict ((fits_shows stack process).holds e) (verdict s) refl))
      (λ e. rw (e, step_why) (window_holds e))
    where
      by-verdict : WindowFits stack process → (v : Verdict) → verdict s ≡ v
          → WhyStep s stack process registers (checked_why s stack process registers v)
      by-verdict fits verdict.Accepted e = asked-holds fits e (asked_of registers) refl
      by-verdict fits (verdict.Refused number index) e = (fits, unsound_holds s number index e)

-- ---- both: what an explanation says holds

pub explained_holds :
    ((s : List ℕ) (address pc : ℕ) → WhyLookup s address pc (lookup_why s address pc))
    × ((s stack : List ℕ) (process : Process) (registers : Registers) → WhyStep s stack process registers (step_why s stack process registers))
explained_holds = (lookup_explained_holds, step_explained_holds)
