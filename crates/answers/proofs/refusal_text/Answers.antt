-- `refusal_text` meets its contract: what is appended to the refusal's line has room.
use Rattle.answers.proofs.Composing.{refusal_composed}
use Rattle.answers.proofs.refusal_text.Goals as goal

pub returns : goal.returns
returns c =
    refusal_composed c.args.given c.refused_line.result c.append.result c.refused_line.ensures c.append.ensures
