-- `search::past_in` compares with the start and the size of entry i.
-- Assumes nothing.
use native.Mathlib.Omega.{arith}
use mathlib.Core.Path.{sym}
use Rattle.section.specs.Meaning.{function_in}
use Rattle.lookup.proofs.search.past_in.Goals as goal

pub rank_at-start-requires : goal.rank_at-start-requires
rank_at-start-requires c = rw c.table_in-table.ensures.layout c.requires.1

pub overflow_add-start : goal.overflow_add-start
overflow_add-start c = omega (arith, c.rank_at-start.ensures.room)

pub size_at-requires : goal.size_at-requires
size_at-requires c = rw c.table_in-table.ensures.layout c.requires.1

pub returns : goal.returns
unfolding function_in
returns c =
    c.past_within.ensures _ _ (rw c.table_in-table.ensures.section at c.rank_at-start.ensures) (record { is = c.near_of.ensures })
    (sym (rw c.table_in-table.ensures.section at c.size_at.ensures))
