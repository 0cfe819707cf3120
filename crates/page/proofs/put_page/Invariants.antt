-- `put_page` meets its contract. The loop's invariant: the bytes below the index are those of their lines.
use Rattle.std.proofs.Common.{◌≡◌, ℕ, ◌<◌, ◌/◌, ◌%◌, get_or}
use Rattle.page.specs.Page.{pilot_line}
use Rattle.page.proofs.put_page.Given as goal

abbrev pub invariant-loop-q : goal.invariant-loop-q
invariant-loop-q l = (k : ℕ) → k < l.q → get_or l.byte-items k 0 ≡ get_or (pilot_line l.watches l.model (k / 80)) (k % 80) 0
