-- What the search for the lowest row holds while it goes.
use Rattle.std.specs.Prelude.{ℕ, cond, eqb}

-- the number found; where it is 0, another
abbrev pub found_or : ℕ → ℕ → ℕ
found_or found other = cond (eqb found 0) other found
