-- `check_buffers` meets its contract: each test of the code is a check of the definition, in its order.
use Rattle.columns.proofs.Buffers.{refuse_variables, refuse_rows, refuse_buffer, take-sizes}
use Rattle.columns.proofs.check_buffers.Goals as goal

pub returns-then-n : goal.returns-then-n
returns-then-n c = let a = c.args in refuse_variables a.n a.rows a.words a.space c.if-n.true

pub returns-then-rows-gt-ROWS : goal.returns-then-rows-gt-ROWS
returns-then-rows-gt-ROWS c = let a = c.args in refuse_rows a.n a.rows a.words a.space c.if-n.false c.if-rows-gt-ROWS.true

pub returns-then-words-rows : goal.returns-then-words-rows
returns-then-words-rows c = let a = c.args in refuse_buffer a.n a.rows a.words a.space c.if-n.false
    c.if-rows-gt-ROWS.false c.if-words-rows.true

pub returns : goal.returns
returns c = let a = c.args in take-sizes a.n a.rows a.words a.space c.if-n.false
    c.if-rows-gt-ROWS.false c.if-words-rows.false
