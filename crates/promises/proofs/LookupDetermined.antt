-- Every public function of `lookup` determines its reply: two replies that its own contract allows for one input are equal.
-- Assumes nothing.
use mathlib.Core.Path.{refl, sym, ◌∙◌}
use Rattle.lookup.proofs.look.block_offset.Kinds as block_offset-kinds
use Rattle.lookup.proofs.look.block_offset.Reads as block_offset-reads
use Rattle.lookup.proofs.look.look.Kinds as look-kinds
use Rattle.lookup.proofs.look.look.Reads as look-reads
use Rattle.lookup.proofs.look.lookup.Kinds as lookup-kinds
use Rattle.lookup.proofs.look.lookup.Reads as lookup-reads
use Rattle.lookup.proofs.look.reached_in.Kinds as reached_in-kinds
use Rattle.lookup.proofs.look.reached_in.Reads as reached_in-reads
use Rattle.lookup.proofs.rows.scan_rows.Kinds as scan_rows-kinds
use Rattle.lookup.proofs.rows.scan_rows.Reads as scan_rows-reads
use Rattle.lookup.proofs.search.past_in.Kinds as past_in-kinds
use Rattle.lookup.proofs.search.past_in.Reads as past_in-reads
use Rattle.lookup.proofs.search.find.Kinds as find-kinds
use Rattle.lookup.proofs.search.find.Reads as find-reads
use Rattle.lookup.proofs.search.land.Kinds as land-kinds
use Rattle.lookup.proofs.search.land.Reads as land-reads
use Rattle.lookup.proofs.table.entry_in.Kinds as entry_in-kinds
use Rattle.lookup.proofs.table.entry_in.Reads as entry_in-reads
use Rattle.lookup.proofs.ToldLaws.{answer_told_once}
use Rattle.lookup.proofs.ToldLaws.{lookup_told_once}
use Rattle.promises.specs.Determined.{Determined}

pub block_offset_determined : Determined block_offset-kinds.ps block_offset-kinds.r block_offset-reads.Learnt
block_offset_determined κs a z z' w w' p q = (p ∙ sym q, refl)

pub look_determined : Determined look-kinds.ps look-kinds.r look-reads.Learnt
look_determined κs a z z' w w' p q = (answer_told_once _ _ (p ∙ sym q), refl)

pub lookup_determined : Determined lookup-kinds.ps lookup-kinds.r lookup-reads.Learnt
lookup_determined κs a z z' w w' p q = (lookup_told_once _ _ (p ∙ sym q), refl)

pub reached_in_determined : Determined reached_in-kinds.ps reached_in-kinds.r reached_in-reads.Learnt
reached_in_determined κs a z z' w w' p q = (p ∙ sym q, refl)

pub scan_rows_determined : Determined scan_rows-kinds.ps scan_rows-kinds.r scan_rows-reads.Learnt
scan_rows_determined κs a z z' w w' p q = (p ∙ sym q, refl)

pub land_determined : Determined land-kinds.ps land-kinds.r land-reads.Learnt
land_determined κs a z z' w w' p q = (p.0 ∙ sym q.0, refl)

pub past_in_determined : Determined past_in-kinds.ps past_in-kinds.r past_in-reads.Learnt
past_in_determined κs a z z' w w' p q = (p ∙ sym q, refl)

pub find_determined : Determined find-kinds.ps find-kinds.r find-reads.Learnt
find_determined κs a z z' w w' p q = (p ∙ sym q, refl)

pub entry_in_determined : Determined entry_in-kinds.ps entry_in-kinds.r entry_in-reads.Learnt
entry_in_determined κs a z z' w w' p q = (p ∙ sym q, refl)
