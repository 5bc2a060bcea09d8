-- The lent buffer: what words written from a place on leave of it, for any words and any place.
-- Assumes nothing.
use mathlib.Core.Path.{◌≡◌, refl, sym, ◌∙◌, ap}
use mathlib.Core.List.{List, [], ◌∷◌, ◌++◌, append_assoc}
use Prim.Native.Nat.{ℕ, zero, suc, ◌+◌, ◌*◌, ◌-◌, ◌≤◌, ◌<◌}
use native.Mathlib.Numerals.{add-one}
use native.Mathlib.Omega.{arith}
use lib.ListN.{get_or-append, length, get_or, take, drop, set, length-append, length-take, length-drop, take-append-drop}
use lib.Seq.{take_at, drop_at, drop-append_seam, get_or-drop, drop-drop, sets-eq}
use Rattle.trace.specs.Cases.{no_frame}
use Rattle.trace.specs.Frames.{words_of, all_words, over}
use Rattle.trace.specs.Inner.Writing.{put}
use Rattle.trace.specs.declared.answer.Frame.{Frame}

-- ---- over, and put

pub over_length : (words old : List ℕ) → length words ≤ length old → length (over words old) ≡ length old
unfolding over
over_length words old fits = simp (length-append, length-drop) (omega arith)

pub put_length : (old : List ℕ) (at : ℕ) (words : List ℕ) → at + length words ≤ length old → length (put old at words) ≡ length old
unfolding put over
put_length old at words fits = simp (length-append, length-take, length-drop) (omega arith)

pub put_first : (old words : List ℕ) → put old 0 words ≡ over words old
unfolding put
put_first old words = refl

pub put_none : (old : List ℕ) (at : ℕ) → put old at [] ≡ old
unfolding put over
put_none old at = take-append-drop at old

-- words, and then more after them
pub put_more : (old : List ℕ) (at : ℕ) (words more : List ℕ) → at + length words ≤ length old
    → put (put old at words) (at + length words) more ≡ put old at (words ++ more)
unfolding put over
put_more old at words more fits =
    let before = take at old in
    let after = drop at old in
    let left = drop (length words) after in
    let seam : length (before ++ words) ≡ at + length words = simp (length-append, length-take) (omega arith) in
    let parted : put old at words ≡ (before ++ words) ++ left = sym (append_assoc before words left) in
    let kept : drop (length more) left ≡ drop (length (words ++ more)) after =
    drop-drop (length more) (length words) after ∙ ap (λ n. drop n after) (sym (length-append words more)) in
    ap (λ b. put b (at + length words) more) parted
    ∙ ap (λ l. l ++ over more (drop (at + length words) ((before ++ words) ++ left))) (take_at (before ++ words) left (at + length words) seam)
    ∙ ap (λ l. (before ++ words) ++ over more l) (drop_at (before ++ words) left (at + length words) seam)
    ∙ ap (λ l. (before ++ words) ++ (more ++ l)) kept
    ∙ simp append_assoc

-- the words written, and those after them
pub over_first : (words old : List ℕ) (j : ℕ) → j < length words → get_or (over words old) j 0 ≡ get_or words j 0
unfolding over
over_first words old j lt = get_or-append words (drop (length words) old) 0 j lt

pub over_after : (words old : List ℕ) → drop (length words) (over words old) ≡ drop (length words) old
unfolding over
over_after words old = drop-append_seam words (drop (length words) old)

pub over_kept : (words old : List ℕ) (j : ℕ) → length words ≤ j → get_or (over words old) j 0 ≡ get_or old j 0
over_kept words old j le =
    let past : j ≡ length words + (j - length words) = omega arith in
    rw past
    (sym (get_or-drop (length words) (over words old) (j - length words) 0)
    ∙ ap (λ l. get_or l (j - length words) 0) (over_after words old)
    ∙ get_or-drop (length words) old (j - length words) 0)

-- ---- one frame

-- the three stores of a frame
pub three_sets : (old : List ℕ) (at : ℕ) (frame : Frame) → at + 3 ≤ length old
    → set (set (set old at frame.cfa) (at + 1) frame.ra) (at + 2) frame.fp ≡ put old at (words_of frame)
unfolding put over words_of
three_sets old at frame fits =
    ap (λ k. set (set (set old at frame.cfa) k frame.ra) (at + 2) frame.fp) (add-one at)
    ∙ ap (λ k. set (set (set old at frame.cfa) (suc at) frame.ra) k frame.fp) (omega arith)
    ∙ sets-eq (words_of frame) old at fits
    ∙ append_assoc (take at old) (words_of frame) (drop (at + 3) old)
    ∙ ap (λ l. take at old ++ (words_of frame ++ l)) (sym (drop-drop 3 at old))

-- ---- all frames

pub all_length : (frames : List Frame) → length (all_words frames) ≡ 3 * length frames
unfolding all_words words_of
all_length [] = refl
all_length (frame ∷ frames) = omega (arith, all_length frames)

-- the words of frame k, from word 3 k on
pub all_at : (frames : List Frame) (k : ℕ) → k < length frames
    → (get_or (all_words frames) (3 * k) 0 ≡ (get_or frames k no_frame).cfa)
    × (get_or (all_words frames) (3 * k + 1) 0 ≡ (get_or frames k no_frame).ra)
    × (get_or (all_words frames) (3 * k + 2) 0 ≡ (get_or frames k no_frame).fp)
unfolding all_words words_of
all_at [] k lt = absurd (omega arith)
all_at (frame ∷ frames) zero lt = (refl, refl, refl)
all_at (frame ∷ frames) (suc k) lt =
    let (cfa, ra, fp) = all_at frames k (omega arith) in
    let past : (i : ℕ) → 3 * suc k + i ≡ suc (suc (suc (3 * k + i))) = λ i. omega arith in
    let first : 3 * suc k ≡ suc (suc (suc (3 * k))) = omega arith in
    let words = all_words (frame ∷ frames) in
    (ap (λ j. get_or words j 0) first ∙ cfa, ap (λ j. get_or words j 0) (past 1) ∙ ra, ap (λ j. get_or words j 0) (past 2) ∙ fp)
