-- `search::land` halves by the distance.
-- Assumes nothing.
use Rattle.lookup.proofs.search.land.Goals as goal

pub returns : goal.returns
returns c =
    record {
      value = rw c.table_in.ensures.section at (c.halve.ensures.value _ (record { is = c.near_of.ensures }));
      range = rw c.table_in.ensures.layout at c.halve.ensures.range;
    }
