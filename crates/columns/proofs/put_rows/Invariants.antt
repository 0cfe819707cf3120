-- `put_rows` meets its contract. The loop's invariant: the words below the index are those of the rows.
use Rattle.std.proofs.Common.{◌≡◌, ℕ, ◌<◌, [], get_or, ◌/◌, ◌%◌}
use Rattle.columns.proofs.put_rows.Given as goal

abbrev pub invariant-loop-x : goal.invariant-loop-x
invariant-loop-x l = (j : ℕ) → j < l.x → get_or l.word-items j 0 ≡ get_or (get_or l.rows (j % 2) []) (j / 2) 0
