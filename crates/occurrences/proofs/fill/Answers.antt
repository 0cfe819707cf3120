-- `fill` meets its contract: an index of no rows is all zeros, and each turn adds a row.
use Rattle.occurrences.proofs.ByNumber.{index-none}
use Rattle.occurrences.proofs.fill.Goals as goal

pub loop-r-init : goal.loop-r-init
loop-r-init c = index-none
