-- `add` meets its contract: two stores after the rows.
use native.Mathlib.Omega.{arith}
use lib.ListN.{length-set}
use Rattle.drat.proofs.Present.{one_more}
use Rattle.drat.proofs.rup.add.Goals as goal

pub bounds-words-count-2 : goal.bounds-words-count-2
bounds-words-count-2 c = simp length-set (omega arith)

pub returns : goal.returns
returns c = one_more c.args.words.now c.args.count c.args.row.positive c.args.row.negative c.requires
