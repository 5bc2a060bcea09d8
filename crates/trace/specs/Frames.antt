-- The limit in force (SPECIFICATION 6.1), a frame and its words (SPECIFICATION 6.5), and what a trace leaves of the lent buffer
-- (SPECIFICATION 6.9).
use Rattle.std.specs.Prelude.{ℕ, true, false, List, [], ◌∷◌, ◌++◌, eqb, length, drop}
use Rattle.caller.specs.Frame.{cfa_of_sp}
use Rattle.caller.specs.declared.registers.Registers.{Registers}
use Rattle.trace.specs.declared.answer.Frame.{Frame}
use Rattle.trace.specs.Ending.{Traced}

-- request 06, "Limit 0 should mean 128", where document 01 had 64; "otherwise 1 to 256": the limit in force
unfoldable pub in_force : ℕ → ℕ
in_force limit = elim (eqb limit 0) [ true ↦ 128 | false ↦ limit ]

-- "CFA, RA, FP each": the frame of a step that yields these registers; they have "PC = RA", the SP that CFA gives, and "the new FP"
unfoldable pub frame_of : Registers → Frame
frame_of caller = record { cfa = cfa_of_sp caller.sp; ra = caller.pc; fp = caller.fp }

unfoldable pub words_of : Frame → List ℕ
words_of frame = frame.cfa ∷ frame.ra ∷ frame.fp ∷ []

-- "The walk starts with the mark set"
unfoldable pub with_mark : Registers → Registers
with_mark registers = record { pc = registers.pc; sp = registers.sp; fp = registers.fp; lr = registers.lr; first = 1 }

-- the words of all frames, one frame after the other
unfoldable pub all_words : List Frame → List ℕ
all_words [] = []
all_words (frame ∷ frames) = words_of frame ++ all_words frames

-- "Words after the written frames keep what they held."
unfoldable pub over : List ℕ → List ℕ → List ℕ
over words old = words ++ drop (length words) old

-- what a trace replies with: the answer, and the words of the buffer at exit
pub record TraceReply : Type 0 where
  pub answer : Traced
  pub words : List ℕ

unfoldable pub traced_as : Traced → List ℕ → TraceReply
traced_as answer words = record { answer = answer; words = words }
