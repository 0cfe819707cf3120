-- `along` meets its contract: the closure computes each slot, and each product and sum fits.
use Rattle.std.proofs.Common.{◌+◌, ◌*◌, get_or, arith, rules}
use Rattle.std.proofs.iter.Serving.{serving}
use Rattle.words.proofs.Calls.{given_by_calls}
use Rattle.generator.proofs.Steps.{step_fits, sum_fits, along-each}
use Rattle.generator.proofs.cells.along.Goals as goal

pub from_fn-requires : goal.from_fn-requires
from_fn-requires c =
    let s = c.args in
    let step = step_fits s.slots s.steps s.i c.requires.0 c.requires.1 c.requires.2 (omega arith) (omega arith) in
    let all = sum_fits s.slots s.steps s.i c.requires.0 c.requires.1 c.requires.2 (omega arith) (omega arith) in
    grind (serving, step, all)

pub returns : goal.returns
returns c =
    let s = c.args in
    let made = given_by_calls _ 0 (λ k. get_or s.slots k 0 + get_or s.steps k 0 * s.i) (λ k y q m. search rules) c.from_fn.ensures.items in
    along-each s.slots s.steps _ s.i (omega arith) (omega (arith, c.from_fn.ensures.items.long)) (λ k l. made k (omega arith))
