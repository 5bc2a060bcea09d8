-- Each public function of `stored` determines its reply: two that its own contract allows for the same bytes are equal.
-- Assumes nothing.
use mathlib.Core.Path.{refl, sym, ◌∙◌}
use Rattle.stored.proofs.start_in.Kinds as start_in-kinds
use Rattle.stored.proofs.start_in.Reads as start_in-reads
use Rattle.stored.proofs.word_in.Kinds as word_in-kinds
use Rattle.stored.proofs.word_in.Reads as word_in-reads
use Rattle.promises.specs.Determined.{Determined}

pub word_in_determined : Determined word_in-kinds.ps word_in-kinds.r word_in-reads.Learnt
word_in_determined κs a z z' w w' p q = (p ∙ sym q, refl)

-- a process and registers are what they hold, so that two with equal parts are equal
pub start_in_determined : Determined start_in-kinds.ps start_in-kinds.r start_in-reads.Learnt
start_in_determined κs a z z' w w' p q = (
  λ i. (
    record {
      section = (p.0 ∙ sym q.0) i;
      stack = (p.1.0 ∙ sym q.1.0) i;
      mask = (p.1.1.0 ∙ sym q.1.1.0) i;
    },
    record {
      pc = (p.1.1.1.0 ∙ sym q.1.1.1.0) i;
      sp = (p.1.1.1.1.0 ∙ sym q.1.1.1.1.0) i;
      fp = (p.1.1.1.1.1.0 ∙ sym q.1.1.1.1.1.0) i;
      lr = (p.1.1.1.1.1.1.0 ∙ sym q.1.1.1.1.1.1.0) i;
      first = (p.1.1.1.1.1.1.1 ∙ sym q.1.1.1.1.1.1.1) i;
    },
  ),
  refl,
)
