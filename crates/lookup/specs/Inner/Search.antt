-- How it is looked for: a section that is not sorted is scanned, a sorted one is halved, and the rows of one function are walked
-- until one starts too late. Defined on any list of functions and any rows; on an accepted section it comes to what `covering`
-- and `last_row` say (`halving_finds_covering`, `stop_last`).
use Rattle.std.specs.Prelude.{ℕ, zero, suc, ◌+◌, ◌-◌, ◌^◌, Bool, true, false, List, leb, ℤ, ◌-ℤ◌, get_or, Option, Some, None}
use Rattle.numbers.specs.Inner.Held.{natural}
use Rattle.numbers.specs.declared.field.Order.{Order}
use Rattle.section.specs.Meaning.{Function}
use Rattle.section.specs.Row.{offsets_length, row_place, row_start}
use Rattle.lookup.specs.Halving.{empty_function, landing, compared}
use Rattle.lookup.specs.Computed.Covering.{covers, covering, cover_of}
use Rattle.lookup.specs.declared.rows.Stop.{Stop}
use Rattle.lookup.specs.declared.rows.Told.{Told}
use Rattle.lookup.specs.declared.search.Cover.{Cover}
use Rattle.lookup.specs.declared.search.Cover.TheVariants.{Nobody, One}
use Rattle.lookup.specs.declared.search.Search.{Search}

-- ---- functions

-- how far d is past a start, as both are held: before the start it is 2 ^ 64 less what is missing, farther than any size
unfoldable pub past_start : ℕ → ℕ → ℕ
past_start start d = elim (leb start d) [ true ↦ d - start | false ↦ d + 2 ^ 64 - start ]

-- how far d is past the start of a function, where it covers
unfoldable pub past_in : ℤ → Function → Option ℕ
past_in d f = elim (covers d f) [ true ↦ Some (natural (d -ℤ f.start)) | false ↦ None ]

-- the first index, of `left` from i on, of which a test is true, and one past the last where there is none
unfoldable pub first_where : (ℕ → Bool) → ℕ → ℕ → ℕ
first_where test zero i = i
first_where test (suc left) i = elim (test i) [ true ↦ i | false ↦ first_where test left (suc i) ]

-- whether the function landed on, the one before `low`, covers
unfoldable pub landed_on : ℤ → List Function → ℕ → Cover
landed_on d functions zero = Nobody
landed_on d functions (suc i) = elim (covers d (get_or functions i empty_function)) [ true ↦ One i | false ↦ Nobody ]

unfoldable pub cover_by : Bool → ℤ → List Function → Cover
cover_by sorted d functions =
    elim sorted [ true ↦ landed_on d functions (landing d functions).low | false ↦ cover_of (covering d functions) ]

unfoldable pub search_of : Bool → ℤ → List Function → Search
search_of sorted d functions = record { cover = cover_by sorted d functions; compared = compared sorted d functions }

-- ---- rows

-- how many rows, from number k on, start at or below o before the first that does not
unfoldable pub leading : (ℕ → ℕ) → ℕ → ℕ → ℕ → ℕ
leading start o zero k = k
leading start o (suc left) k = elim (leb (start k) o) [ true ↦ leading start o left (suc k) | false ↦ k ]

-- where the scan of `count` rows stops: how many start at or below o, and the place of the last of them
unfoldable pub stop_of : List ℕ → Order → ℕ → ℕ → ℕ → ℕ → Stop
stop_of area order code first count o =
    let rows = leading (λ k. row_start area order code (row_place area code first k)) o count 0 in
    record { rows = rows; place = row_place area code first (rows - 1) }

-- whether the row at `at` starts at or below o
unfoldable pub starts_by : List ℕ → Order → ℕ → ℕ → ℕ → Bool
starts_by area order code o at = leb (row_start area order code at) o

-- the length of every row that has this info byte, told beside it
unfoldable pub told_by : ℕ → ℕ → Told
told_by code info = record { info = info; length = 2 ^ code + 1 + offsets_length info }
