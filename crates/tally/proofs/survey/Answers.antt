-- `survey` meets its contract, word by word.
use Rattle.tally.proofs.SeenLaws.{survey_is}
use Rattle.tally.proofs.survey.Goals as goal

pub returns : goal.returns
returns c =
    let x = c.args in
    survey_is x.words.now x.index.now x.rows x.t x.f c.rows_left-w0.ensures c.rows_left-w1.ensures c.rows_left-w2.ensures
    c.rows_left-w3.ensures
    c.rows_left-w4.ensures c.rows_left-w5.ensures c.gather.ensures
