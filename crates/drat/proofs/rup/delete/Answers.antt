-- `delete` meets its contract: the row at its place is left out, or there is none.
use mathlib.Core.Path.{ap, ◌∙◌}
use Prim.Native.Nat.{ℕ}
use lib.ListN.{get_or}
use native.Mathlib.Omega.{arith}
use Rattle.drat.proofs.Present.{deleted_none, deleted_one, gap_closed}
use Rattle.drat.proofs.rup.delete.Goals as goal

pub returns-in_default-clause-result_after : goal.returns-in_default-clause-result_after
returns-in_default-clause-result_after c =
    let a = c.args in
    deleted_none a.clause a.words.now a.count a.count (rw c.in_default.is at c.find_row.ensures.value) (omega arith)

pub returns-clause-result_after : goal.returns-clause-result_after
returns-clause-result_after c =
    let a = c.args in
    let at = c.in-Some.at in
    deleted_one a.clause a.words.now a.count at (rw c.in-Some.is at c.find_row.ensures.value) c.copy_within.new.self
    (gap_closed a.words.now c.copy_within.new.self at a.count (rw c.in-Some.is at c.find_row.ensures.in_rows) (λ j b. c.copy_within.ensures.by_index.1 j 0 b)
    (λ j b d. c.copy_within.ensures.by_index.0 j 0 b (omega arith) ∙ ap (λ (n : ℕ). get_or a.words.now n 0) (omega arith)))
