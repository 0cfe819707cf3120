-- `count` meets its contract: as many as the rows ask for, or all.
use Rattle.occurrences.proofs.Storing.{all_asked, all-given}
use native.Mathlib.Omega.{arith}
use Rattle.occurrences.proofs.count.Goals as goal

pub returns-then-asked-words : goal.returns-then-asked-words
returns-then-asked-words c =
    record { upper_bound = omega arith; value = all_asked _ _ c.if-asked-words.true }

pub returns : goal.returns
returns c =
    record { upper_bound = omega arith; value = all-given _ _ c.if-asked-words.false }
