-- `is_deletion` meets its contract: fewer than two bytes have no `d` and space.
use Rattle.drat_line.proofs.Reading.{short_deletion}
use Rattle.drat_line.proofs.is_deletion.Goals as goal

pub returns-then-part-lt2 : goal.returns-then-part-lt2
returns-then-part-lt2 c = short_deletion c.args.part.now c.if-part-lt2.true
