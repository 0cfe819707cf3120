-- `layout_reading` meets its contract: by what its calls give; m bounds the lanes of the tree.
use borrow.Author.Rules.{rules}
use Prim.Native.Nat.{◌+◌, ◌*◌, ◌/◌, ◌≤◌}
use native.Mathlib.Omega.{arith}
use Rattle.sections.proofs.Bounds.{lanes_few}
use Rattle.sections.proofs.layout_reading.Goals as goal
use Rattle.sections.proofs.layout_reading.Goals.{After-digits_to}

-- so many lanes of two rows
pairs-few : (c : After-digits_to) → (1 + 8 * (3 + c.args.b)) * (c.args.m / 2) ≤ 49725
pairs-few c =
    lanes_few c.args.n c.args.m c.args.b c.requires.0 c.requires.1 c.requires.2 (c.args.m / 2) (omega (arith, c.requires.1))

-- and of two lanes
nodes-few : (c : After-digits_to) → (1 + 8 * (3 + c.args.b)) * c.less-nodes.result ≤ 49725
nodes-few c =
    lanes_few c.args.n c.args.m c.args.b c.requires.0 c.requires.1 c.requires.2 c.less-nodes.result
    (omega (arith, c.requires.1, c.less.ensures, c.less-nodes.ensures))

pub overflow_mul-result : goal.overflow_mul-result
overflow_mul-result c =
    search (rules, pairs-few c)

pub overflow_add-result-2 : goal.overflow_add-result-2
overflow_add-result-2 c =
    search (rules, pairs-few c)

pub overflow_mul-result-2 : goal.overflow_mul-result-2
overflow_mul-result-2 c =
    search (rules, nodes-few c)

pub overflow_add-result-3 : goal.overflow_add-result-3
overflow_add-result-3 c = search (rules, pairs-few c, nodes-few c)

pub returns : goal.returns
returns c =
    record { value = rw (c.digits_to.ensures.value, c.less-nodes.ensures, c.less.ensures); pairs_bound = omega (arith, pairs-few c, nodes-few c) }
