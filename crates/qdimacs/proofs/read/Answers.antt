-- `read` meets its contract: the header's refusal or its n and m lead where the definition's do.
use mathlib.Core.Path.{sym, ap, ◌∙◌}
use Rattle.refusals.proofs.Outcomes.{passed_on}
use Rattle.dimacs.proofs.Texts.{limits}
use Rattle.qdimacs.specs.Text.{game_text}
use Rattle.qdimacs.specs.TurnsInWords.{quantified}
use Rattle.qdimacs.proofs.Games.{overlong, by_header, quantified-said}
use Rattle.qdimacs.proofs.read.Goals as goal

pub returns-then-text-gt65536 : goal.returns-then-text-gt65536
returns-then-text-gt65536 c =
    let text = c.args.text.now in
    let proved = quantified-said (game_text text) (sym (ap quantified (overlong text c.if-text-gt65536.true))) in
    record { value = proved.0; outcome_value = proved.1 }

pub returns-in_err-n : goal.returns-in_err-n
returns-in_err-n c =
    let text = c.args.text.now in
    rw (passed_on _ _ c.from_residual.ensures.1)
    (let proved = quantified-said (game_text text)
    (sym (ap quantified (by_header text c.if-text-gt65536.false c.read_header-header.result c.read_header-header.ensures.value _ c.in_err-n.was))) in
    record { value = proved.0; outcome_value = proved.1 })

pub read_game-requires : goal.read_game-requires
read_game-requires c =
    let proved = limits 1 c.args.text.now c.read_header-header.result c.read_header-header.ensures.value _ _ c.in_ok-n.was in
    record { n_le_most_variables = proved.0; m_le_most_rows = proved.1 }

pub returns : goal.returns
returns c =
    let text = c.args.text.now in
    let proved = quantified-said (game_text text)
    (c.read_game.ensures
    ∙ sym (ap quantified (by_header text c.if-text-gt65536.false c.read_header-header.result c.read_header-header.ensures.value _ c.in_ok-n.was))) in
    record { value = proved.0; outcome_value = proved.1 }
