-- Two sections that list the same functions and differ in everything that doesn't count, and one that does not list the same, by
-- computation on their bytes.
-- Assumes nothing.
use mathlib.Core.Path.{◌≡◌, refl, sym, ◌∙◌, ap}
use mathlib.Core.Bool.{true, false}
use mathlib.Core.HLevel.{⊥_prop}
use mathlib.Core.List.Memᴰ
use mathlib.Core.List.Perm
use mathlib.Core.List.{List, [], ◌∷◌, count, mem-cons_self}
use mathlib.Core.Logic.{∥∥₁_elim, ⊎_elim}
use Prim.Native.Nat.{ℕ}
use native.Mathlib.Omega.{arith}
use lib.ListN.{length}
use Rattle.numbers.specs.Inner.Held.{natural}
use Rattle.section.specs.Header.{marks_of, layout_of}
use Rattle.section.specs.Meaning.{Function, function_in, functions_of}
use Rattle.section.specs.SectionS.{section_s}
use Rattle.section.specs.declared.row.Row.{Row}
use Rattle.accept.specs.Rules.{row_info_at}
use Rattle.accept.specs.Computed.Checks.{verdict}
use Rattle.accept.specs.Verdict.{Accepted}
use Rattle.lookup.specs.Inner.Opened.{lookup_opened}
use Rattle.promises.specs.Demand3.{Alike}
use Rattle.promises.specs.Listings.{plain_function, repeated_function, shifted_function, sorted_listing, other_listing, changed_listing, shuffled_s, zero_rowless, zero_with_row, sized_entry, zero_listing, zeros_listed, zeros_exchanged, uncounted}
use Rattle.promises.specs.SameFunctions.{SameFunctions}
use Rattle.promises.specs.Computed.Ours.{ours}
use Rattle.promises.specs.Inner.Deciding.{Function-discrete}
use Rattle.promises.proofs.OrderLaws.{same_reordered}

-- ---- all three are accepted

pub sorted_accepted : verdict sorted_listing ≡ Accepted
unfolding lookup_opened sorted_listing
sorted_accepted = refl

pub other_accepted : verdict other_listing ≡ Accepted
unfolding lookup_opened other_listing
other_accepted = refl

pub changed_accepted : verdict changed_listing ≡ Accepted
unfolding lookup_opened other_listing changed_listing
changed_accepted = refl

-- ---- what they list

pub sorted_lists : functions_of sorted_listing ≡ plain_function ∷ repeated_function ∷ []
unfolding lookup_opened sorted_listing plain_function repeated_function
sorted_lists = refl

pub other_lists : functions_of other_listing ≡ repeated_function ∷ plain_function ∷ []
unfolding lookup_opened other_listing plain_function repeated_function
other_lists = refl

pub changed_lists : functions_of changed_listing ≡ shifted_function ∷ plain_function ∷ []
unfolding lookup_opened other_listing changed_listing plain_function shifted_function
changed_lists = refl

pub functions_differ : ¬ (plain_function ≡ repeated_function)
unfolding plain_function repeated_function
functions_differ e = let size : ◌≡◌ {A = ℕ} 0x20 0x100 = ap (λ f. f.size) e in omega arith

-- CFA's offset in the first row
first_offset : List Row → ℕ
first_offset [] = 0
first_offset (row ∷ rows) = natural row.cfa.by

shifted_differs : ¬ (repeated_function ≡ shifted_function)
unfolding repeated_function shifted_function first_offset natural
shifted_differs e = let offset : ◌≡◌ {A = ℕ} 16 24 = ap (λ f. first_offset f.rows) e in omega arith

-- ---- whether they list the same functions

-- the first two functions in the other order
exchanged : {s t : List ℕ} (f g : Function) (more : List Function) → (marks_of s).abi ≡ (marks_of t).abi → functions_of s ≡ f ∷ g ∷ more
    → functions_of t ≡ g ∷ f ∷ more
    → SameFunctions s t
exchanged f g more machine lists lists' =
    record {
      machine = machine;
      often = λ h.
          ap (count Function-discrete h) lists
          ∙ Perm.count-eq Function-discrete (Perm.swap g f more) h
          ∙ sym (ap (count Function-discrete h) lists');
    }

pub listings_same : SameFunctions sorted_listing other_listing
unfolding lookup_opened sorted_listing other_listing
listings_same = exchanged plain_function repeated_function [] refl sorted_lists other_lists

-- the repeated function is none of the two that the changed section lists
pub listings_differ : ¬ SameFunctions other_listing changed_listing
listings_differ same =
    ∥∥₁_elim ((Perm.mem_iff (rw (other_lists, changed_lists) at (same_reordered same))).0 mem-cons_self) ⊥_prop λ place.
    ⊎_elim shifted_differs (λ later. functions_differ (sym (Memᴰ.eq_of_singleton later))) (Memᴰ.cases_cons place)

pub sorted_differs : ¬ SameFunctions sorted_listing changed_listing
sorted_differs same =
    listings_differ
    (record {
      machine = sym listings_same.machine ∙ same.machine;
      often = λ f. sym (listings_same.often f) ∙ same.often f;
    })

-- ---- the two that list the same differ in what doesn't count

-- sorted or not, starts relative to their own fields or not, and an auxiliary header or none
pub headers_differ :
    ((layout_of sorted_listing).sorted ≡ true)
    × ((layout_of other_listing).sorted ≡ false)
    × ((layout_of sorted_listing).relative ≡ false)
    × ((layout_of other_listing).relative ≡ true)
    × ((marks_of sorted_listing).auxiliary ≡ 0)
    × ((marks_of other_listing).auxiliary ≡ 3)
unfolding lookup_opened sorted_listing other_listing
headers_differ = (refl, refl, refl, refl, refl, refl)

-- the plain function is entry 0 of the one and entry 1 of the other
pub plain_entries_differ :
    (uncounted sorted_listing 0 ≡ record { type = 0; size = 0; key = false; padding = 0; first = 0; repeat = 0 })
    × (uncounted other_listing 1 ≡ record { type = 1; size = 1; key = true; padding = 0xcafe; first = 16; repeat = 7 })
unfolding lookup_opened row_info_at sorted_listing other_listing uncounted
plain_entries_differ = (refl, refl)

-- the repeated function is entry 1 of the one and entry 0 of the other; its repeat size counts
pub repeated_entries_differ :
    (uncounted sorted_listing 1 ≡ record { type = 0; size = 0; key = false; padding = 0; first = 8; repeat = 16 })
    × (uncounted other_listing 0 ≡ record { type = 2; size = 2; key = true; padding = 0xbeef; first = 2; repeat = 16 })
unfolding lookup_opened row_info_at sorted_listing other_listing uncounted
repeated_entries_differ = (refl, refl)

-- ---- section S

s_accepted : verdict section_s ≡ Accepted
unfolding lookup_opened section_s
s_accepted = refl

pub shuffled_accepted : verdict shuffled_s ≡ Accepted
unfolding lookup_opened shuffled_s
shuffled_accepted = refl

s_lists : functions_of section_s ≡ function_in section_s 0 ∷ function_in section_s 1 ∷ []
unfolding lookup_opened section_s
s_lists = refl

shuffled_lists : functions_of shuffled_s ≡ function_in section_s 1 ∷ function_in section_s 0 ∷ []
unfolding lookup_opened section_s shuffled_s
shuffled_lists = refl

pub shuffled_same : SameFunctions section_s shuffled_s
unfolding lookup_opened section_s shuffled_s
shuffled_same = exchanged (function_in section_s 0) (function_in section_s 1) [] refl s_lists shuffled_lists

-- ---- two sorted sections that list the same functions in different orders

pub zeros_accepted : (verdict zeros_listed ≡ Accepted) × (verdict zeros_exchanged ≡ Accepted)
unfolding lookup_opened zero_rowless zero_with_row sized_entry zero_listing zeros_listed zeros_exchanged
zeros_accepted = (refl, refl)

pub zeros_sorted : ((layout_of zeros_listed).sorted ≡ true) × ((layout_of zeros_exchanged).sorted ≡ true)
unfolding lookup_opened zero_rowless zero_with_row sized_entry zero_listing zeros_listed zeros_exchanged
zeros_sorted = (refl, refl)

-- the first function of the one is not the first of the other
pub zeros_order_differs : ¬ (function_in zeros_listed 0 ≡ function_in zeros_exchanged 0)
unfolding lookup_opened zero_rowless zero_with_row sized_entry zero_listing zeros_listed zeros_exchanged
zeros_order_differs e = let rows : ◌≡◌ {A = ℕ} 0 1 = ap (λ f. length f.rows) e in omega arith

listed_zeros : functions_of zeros_listed ≡ function_in zeros_listed 0 ∷ function_in zeros_listed 1 ∷ function_in zeros_listed 2 ∷ []
unfolding lookup_opened zero_rowless zero_with_row sized_entry zero_listing zeros_listed
listed_zeros = refl

exchanged_zeros : functions_of zeros_exchanged ≡ function_in zeros_listed 1 ∷ function_in zeros_listed 0 ∷ function_in zeros_listed 2 ∷ []
unfolding lookup_opened zero_rowless zero_with_row sized_entry zero_listing zeros_listed zeros_exchanged
exchanged_zeros = refl

pub zeros_same : SameFunctions zeros_listed zeros_exchanged
unfolding lookup_opened zero_rowless zero_with_row sized_entry zero_listing zeros_listed zeros_exchanged
zeros_same = exchanged (function_in zeros_listed 0) (function_in zeros_listed 1) (function_in zeros_listed 2 ∷ []) refl listed_zeros exchanged_zeros

-- ---- so there are sections of which demand 3 speaks: one sorted and one not, on each machine, and two sorted ones in different orders

pub listings_alike : Alike ours sorted_listing other_listing
unfolding ours
listings_alike = record { accepted = sorted_accepted; also = other_accepted; same = listings_same }

pub shuffled_alike : Alike ours section_s shuffled_s
unfolding ours
shuffled_alike = record { accepted = s_accepted; also = shuffled_accepted; same = shuffled_same }

pub zeros_alike : Alike ours zeros_listed zeros_exchanged
unfolding ours
zeros_alike = record { accepted = zeros_accepted.0; also = zeros_accepted.1; same = zeros_same }
