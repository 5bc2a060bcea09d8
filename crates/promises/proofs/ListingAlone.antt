-- What is promised of a listing and of its readers leaves no choice: a listing that meets it is ours on every section, and readers that meet
-- it yield what ours do, call by call.
-- Assumes nothing.
use mathlib.Core.Path.{◌≡◌, refl, sym, ◌∙◌, ap, fun_ext}
use mathlib.Core.List.{List, [], ◌∷◌, ◌++◌, map}
use mathlib.Core.Logic.{⊎_elim}
use Prim.Native.Nat.{ℕ, zero, suc, ◌+◌, ◌≤◌, ◌<◌}
use native.Mathlib.Omega.{arith}
use borrow.Author.Tests.{eq-eqb, ne_eqb}
use Rattle.section.specs.Meaning.{Function, listed, function_in, functions_of}
use Rattle.accept.specs.Rules.{function_count, Obeys}
use Rattle.accept.proofs.Exactly.{Refusal, obeys_or_refusal}
use Rattle.listing.specs.Listing.{Listing, refused, lines, function_line_of, lines_of_function, lines_of, listing_of, function_lines, rows_ahead, rows_below}
use Rattle.listing.specs.declared.lines.FunctionLine.{FunctionLine}
use Rattle.listing.specs.declared.lines.Line.{Line}
use Rattle.listing.specs.declared.lines.Line.TheVariants.{OfFunction, OfRow}
use Rattle.promises.specs.ListingCall.{LinesSay, Lists, RowCalls, place_after, ReadsRows, LineCalls, line_after, ReadsLines}
use Rattle.promises.specs.Computed.OurReaders.{our_rows, our_lines}
use Rattle.promises.proofs.ListingKept.{listing_lists, reads_rows, reads_lines, with_or_without}

-- ---- lines past the rows that they begin with

past_rows : List Line → List Line
past_rows [] = []
past_rows (OfFunction first ∷ rest) = OfFunction first ∷ rest
past_rows (OfRow first ∷ rest) = past_rows rest

rows_then : (all : List Line) → all ≡ map OfRow (rows_ahead all) ++ past_rows all
unfolding rows_ahead past_rows
rows_then [] = refl
rows_then (OfFunction first ∷ rest) = refl
rows_then (OfRow first ∷ rest) = ap (λ more. OfRow first ∷ more) (rows_then rest)

none_past : (all : List Line) → rows_ahead (past_rows all) ≡ []
unfolding rows_ahead past_rows
none_past [] = refl
none_past (OfFunction first ∷ rest) = refl
none_past (OfRow first ∷ rest) = none_past rest

functions_past : (all : List Line) → function_lines (past_rows all) ≡ function_lines all
unfolding function_lines past_rows
functions_past [] = refl
functions_past (OfFunction first ∷ rest) = refl
functions_past (OfRow first ∷ rest) = functions_past rest

below_past : (i : ℕ) (all : List Line) → rows_below i (past_rows all) ≡ rows_below i all
unfolding rows_below past_rows
below_past i [] = refl
below_past i (OfFunction first ∷ rest) = refl
below_past i (OfRow first ∷ rest) = below_past i rest

-- ---- what is said of lines is said of one list alone

below_own : (first : FunctionLine) (rest : List Line) (k : ℕ) → first.index ≡ k → rows_below k (OfFunction first ∷ rest) ≡ rows_ahead rest
unfolding rows_below
below_own first rest k is = rw (eq-eqb first.index k is, rows_below)

below_other : (first : FunctionLine) (rest : List Line) (i : ℕ) → (first.index ≡ i → ⊥) → rows_below i (OfFunction first ∷ rest) ≡ rows_below i rest
unfolding rows_below
below_other first rest i isnt = rw (ne_eqb first.index i isnt, rows_below)

abbrev Below : (ℕ → Function) → ℕ → ℕ → List Line → Type 0
Below f n k all = (i : ℕ) → k ≤ i → i < k + n → rows_below i all ≡ (f i).rows

abbrev line_of : (ℕ → Function) → ℕ → FunctionLine
line_of f i = function_line_of i (f i)

index_of : (first : FunctionLine) (f : ℕ → Function) (k : ℕ) → first ≡ line_of f k → first.index ≡ k
unfolding function_line_of
index_of first f k is = ap (λ (line : FunctionLine). line.index) is

head_is : (first : FunctionLine) (others : List FunctionLine) (f : ℕ → Function) (n k : ℕ)
    → first ∷ others ≡ listed (line_of f) (suc n) k → (first ≡ line_of f k) × (others ≡ listed (line_of f) n (suc k))
unfolding listed
head_is first others f n k is = (cc, cc)

not_cons : {A : Type 0} (x : A) (xs : List A) → x ∷ xs ≡ [] → ⊥
not_cons x xs is = let z : ◌≡◌ {A = ℕ} 0 1 = cc in omega arith

joined : (f : ℕ → Function) (n k : ℕ) (first : FunctionLine) (rest : List Line) → first ≡ line_of f k → rows_ahead rest ≡ (f k).rows
    → past_rows rest ≡ lines_of (suc k) (listed f n (suc k)) → OfFunction first ∷ rest ≡ lines_of k (listed f (suc n) k)
unfolding lines_of lines_of_function listed
joined f n k first rest head own later =
    ap (λ more. OfFunction first ∷ more) (rows_then rest) ∙ rw (head, own, later)

these_lines : (f : ℕ → Function) (n k : ℕ) (all : List Line) → rows_ahead all ≡ [] → function_lines all ≡ listed (line_of f) n k → Below f n k all
    → all ≡ lines_of k (listed f n k)
unfolding function_lines rows_ahead lines_of listed
these_lines f zero k [] first functions below = refl
these_lines f zero k (OfFunction line ∷ rest) first functions below = absurd (not_cons line (function_lines rest) functions)
these_lines f zero k (OfRow row ∷ rest) first functions below = absurd (not_cons row (rows_ahead rest) first)
these_lines f (suc n) k [] first functions below = absurd (not_cons (line_of f k) (listed (line_of f) n (suc k)) (sym functions))
these_lines f (suc n) k (OfRow row ∷ rest) first functions below = absurd (not_cons row (rows_ahead rest) first)
these_lines f (suc n) k (OfFunction line ∷ rest) first functions below =
    let both = head_is line (function_lines rest) f n k functions in
    let at = index_of line f k both.0 in
    let own = sym (below_own line rest k at) ∙ below k (omega arith) (omega arith) in
    let others : Below f n (suc k) (past_rows rest) = λ i low high.
    below_past i rest ∙ sym (below_other line rest i (λ is. omega (arith, is, at))) ∙ below i (omega arith) (omega arith) in
    joined f n k line rest both.0 own (these_lines f n (suc k) (past_rows rest) (none_past rest) (functions_past rest ∙ both.1) others)

pub lines_alone : (s : List ℕ) (all : List Line) → LinesSay s all → all ≡ lines_of 0 (functions_of s)
unfolding functions_of function_count
lines_alone s all say =
    these_lines (function_in s) (function_count s) 0 all say.first say.functions (λ i low high. say.rows i (omega arith))

-- ---- so a listing that meets it is ours

pub listing_ours_alone : (listing : List ℕ → Listing) → Lists listing → listing ≡ listing_of
listing_ours_alone listing lists = fun_ext λ s. ⊎_elim (accepted s) (broken s) (obeys_or_refusal s)
  where
    accepted : (s : List ℕ) → Obeys s → listing s ≡ listing_of s
    accepted s obeys =
        let (all, is, say) = lists.accepts s obeys in
        let (ours, are, said) = listing_lists.accepts s obeys in
        is ∙ ap lines (lines_alone s all say ∙ sym (lines_alone s ours said)) ∙ sym are

    broken : (s : List ℕ) → Refusal s → listing s ≡ listing_of s
    broken s given = (lists.refuses s given.0 given.1).1 given.2 ∙ sym ((listing_lists.refuses s given.0 given.1).1 given.2)

-- ---- and readers yield alike

pub rows_yielded_alike : (calls : RowCalls) → ReadsRows calls → (s : List ℕ) (i k : ℕ)
    → calls.next s (place_after calls s i k) ≡ our_rows.next s (place_after our_rows s i k)
rows_yielded_alike calls reads s i k =
    let theirs = reads.yields s i in
    let ours = reads_rows.yields s i in
    ⊎_elim (λ has. theirs.rows has k ∙ sym (ours.rows has k)) (λ w. theirs.none w.not k ∙ sym (ours.none w.not k)) (with_or_without s i)

pub lines_yielded_alike : (calls : LineCalls) → ReadsLines listing_of calls → (s : List ℕ) (k : ℕ)
    → line_after calls s (calls.start s) k ≡ line_after our_lines s (our_lines.start s) k
lines_yielded_alike calls reads s k = by (listing_of s) refl
  where
    by : (listing : Listing) → listing_of s ≡ listing → line_after calls s (calls.start s) k ≡ line_after our_lines s (our_lines.start s) k
    by (lines all) is = reads.yields s all is k ∙ sym (reads_lines.yields s all is k)
    by (refused number index) is = reads.none s number index is k ∙ sym (reads_lines.none s number index is k)
