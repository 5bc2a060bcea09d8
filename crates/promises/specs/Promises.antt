-- What is promised, whole: the three demands, of any four calls that keep the contracts of our public functions.
use Rattle.promises.specs.Calls.{Calls}
use Rattle.promises.specs.StatedContracts.{Keeps}
use Rattle.promises.specs.Demand1.{Demand1}
use Rattle.promises.specs.Demand2.{Demand2}
use Rattle.promises.specs.Demand3.{Demand3}

pub record Demands (calls : Calls) : Type 0 where
  pub demand_1 : Demand1 calls
  pub demand_2 : Demand2 calls
  pub demand_3 : Demand3 calls

abbrev pub Promised : Type 0
Promised = (calls : Calls) → Keeps calls → Demands calls
