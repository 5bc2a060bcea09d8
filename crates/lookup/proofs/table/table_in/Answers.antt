-- `table::table_in` reads the byte order of a section whose header is sound.
-- Assumes nothing.
use Rattle.lookup.proofs.TableLaws.{header_obeys}
use Rattle.lookup.proofs.table.table_in.Goals as goal

pub order_at-requires : goal.order_at-requires
order_at-requires c = (header_obeys c.requires).rule1
