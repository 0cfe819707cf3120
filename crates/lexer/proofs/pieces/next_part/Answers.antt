-- `next_part` meets its contract: the first piece starts at the place that `skip` gives.
use Rattle.std.proofs.Common.{◌∙◌}
use Rattle.lexer.proofs.Cuts.{first_piece, part_starts}
use Rattle.lexer.proofs.pieces.next_part.Goals as goal

pub returns : goal.returns
returns c = c.piece_at.ensures ∙ rw c.skip.ensures (first_piece _ _ _ _ _ (part_starts _ _ _))
