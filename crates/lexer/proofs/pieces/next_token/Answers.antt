-- `next_token` meets its contract: the first token starts at the place that `token_start` gives.
use Rattle.std.proofs.Common.{◌∙◌}
use Rattle.lexer.proofs.Cuts.{first_piece}
use Rattle.lexer.proofs.Tokens.{token_starts}
use Rattle.lexer.proofs.pieces.next_token.Goals as goal

pub returns : goal.returns
returns c = c.piece_at.ensures ∙ rw c.token_start.ensures (first_piece _ _ _ _ _ (token_starts _ _))
