-- `function::described_in` reads the entry of an index below the number of functions: it is there.
-- Assumes nothing.
use Rattle.listing.proofs.FunctionLaws.{entry_there}
use Rattle.listing.proofs.function.described_in.Goals as goal

pub facts_at-requires : goal.facts_at-requires
facts_at-requires c = entry_there _ _ c.requires.0 c.requires.1 _ c.if-index-layout.true
