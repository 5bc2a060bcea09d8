-- Every public function of `accept` determines its reply: two replies that its own contract allows for one input are equal.
-- Assumes nothing.
use mathlib.Core.Path.{refl, sym, ◌∙◌}
use Rattle.accept.proofs.entry_check.check_entry.Kinds as check_entry-kinds
use Rattle.accept.proofs.entry_check.check_entry.Reads as check_entry-reads
use Rattle.accept.proofs.entry_check.check_own.Kinds as check_own-kinds
use Rattle.accept.proofs.entry_check.check_own.Reads as check_own-reads
use Rattle.accept.proofs.entry_check.wrong_entry_info.Kinds as wrong_entry_info-kinds
use Rattle.accept.proofs.entry_check.wrong_entry_info.Reads as wrong_entry_info-reads
use Rattle.accept.proofs.entry_check.wrong_repeat.Kinds as wrong_repeat-kinds
use Rattle.accept.proofs.entry_check.wrong_repeat.Reads as wrong_repeat-reads
use Rattle.accept.proofs.header_check.check_header.Kinds as check_header-kinds
use Rattle.accept.proofs.header_check.check_header.Reads as check_header-reads
use Rattle.accept.proofs.row_check.pass_row.Kinds as pass_row-kinds
use Rattle.accept.proofs.row_check.pass_row.Reads as pass_row-reads
use Rattle.accept.proofs.row_check.check_rows.Kinds as check_rows-kinds
use Rattle.accept.proofs.row_check.check_rows.Reads as check_rows-reads
use Rattle.accept.proofs.section_check.check.Kinds as check-kinds
use Rattle.accept.proofs.section_check.check.Reads as check-reads
use Rattle.accept.proofs.ToldLaws.{fault_told_once, rows_told_once, verdict_told_once}
use Rattle.accept.proofs.verdict.Rule.number.Kinds as Rule_number-kinds
use Rattle.accept.proofs.verdict.Rule.number.Reads as Rule_number-reads
use Rattle.promises.specs.Determined.{Determined}

pub wrong_entry_info_determined : Determined wrong_entry_info-kinds.ps wrong_entry_info-kinds.r wrong_entry_info-reads.Learnt
wrong_entry_info_determined κs a z z' w w' p q = (p ∙ sym q, refl)

pub wrong_repeat_determined : Determined wrong_repeat-kinds.ps wrong_repeat-kinds.r wrong_repeat-reads.Learnt
wrong_repeat_determined κs a z z' w w' p q = (p ∙ sym q, refl)

pub check_own_determined : Determined check_own-kinds.ps check_own-kinds.r check_own-reads.Learnt
check_own_determined κs a z z' w w' p q = (fault_told_once _ _ (p ∙ sym q), refl)

pub check_entry_determined : Determined check_entry-kinds.ps check_entry-kinds.r check_entry-reads.Learnt
check_entry_determined κs a z z' w w' p q = (fault_told_once _ _ (p ∙ sym q), refl)

pub check_header_determined : Determined check_header-kinds.ps check_header-kinds.r check_header-reads.Learnt
check_header_determined κs a z z' w w' p q = (fault_told_once _ _ (p ∙ sym q), refl)

pub pass_row_determined : Determined pass_row-kinds.ps pass_row-kinds.r pass_row-reads.Learnt
pass_row_determined κs a z z' w w' p q = (rows_told_once _ _ (p ∙ sym q), refl)

pub check_rows_determined : Determined check_rows-kinds.ps check_rows-kinds.r check_rows-reads.Learnt
check_rows_determined κs a z z' w w' p q = (fault_told_once _ _ (p ∙ sym q), refl)

pub check_determined : Determined check-kinds.ps check-kinds.r check-reads.Learnt
check_determined κs a z z' w w' p q = (verdict_told_once _ _ (p ∙ sym q), refl)

pub Rule_number_determined : Determined Rule_number-kinds.ps Rule_number-kinds.r Rule_number-reads.Learnt
Rule_number_determined κs a z z' w w' p q = (p ∙ sym q, refl)
