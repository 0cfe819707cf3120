-- `check_shape` meets its contract: each test of the code is a check of the definition, in its order.
use native.Mathlib.Omega.{arith}
use Rattle.page.proofs.Shapes.{small_product, refuse_product, refuse_pilots, refuse_watches, refuse_size, take_shape}
use Rattle.page.proofs.check_shape.Goals as goal

pub returns-then-pilots-gt32 : goal.returns-then-pilots-gt32
returns-then-pilots-gt32 c = let a = c.args in refuse_pilots a.n a.pilots a.watches a.size c.requires.0 c.requires.1 (omega arith)

pub returns-then-watches-gt32 : goal.returns-then-watches-gt32
returns-then-watches-gt32 c = let a = c.args in refuse_watches a.n a.pilots a.watches a.size c.requires.0 c.requires.1
    c.if-watches-gt32.true

pub overflow_mul-pilots : goal.overflow_mul-pilots
overflow_mul-pilots c = let a = c.args in let p = small_product a.pilots a.watches (omega arith) (omega arith) in omega arith

pub returns-then-pilots-watches : goal.returns-then-pilots-watches
returns-then-pilots-watches c = let a = c.args in refuse_product a.n a.pilots a.watches a.size c.if-pilots-watches.true

pub returns-then-size-pilots : goal.returns-then-size-pilots
returns-then-size-pilots c = let a = c.args in refuse_size a.n a.pilots a.watches a.size c.if-pilots-watches.false
    c.if-size-pilots.true

pub returns : goal.returns
returns c = let a = c.args in take_shape a.n a.pilots a.watches a.size c.if-pilots-watches.false
    c.if-size-pilots.false
