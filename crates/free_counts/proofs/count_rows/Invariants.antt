-- `count_rows` meets its contract. The loop's invariant: the bytes below the index are their rows' counts.
use Rattle.std.proofs.Common.{◌≡◌, ℕ, ◌<◌, get_or}
use Rattle.tables.specs.Rows.{row_at, free_literals}
use Rattle.free_counts.proofs.count_rows.Given as goal

abbrev pub invariant-loop-i : goal.invariant-loop-i
invariant-loop-i l = (k : ℕ) → k < l.i → get_or l.count-items k 0 ≡ free_literals 32 (row_at l.words k) l.t l.f
