-- A line as code reads it, with words of 32 bits. No entry's contract rests on this file.
use Rattle.std.specs.Prelude.{ℕ, Bool, true, false, cond, List, ltb}
use Rattle.clauses.specs.Clauses.{Reading, clause, ended, unreadable}
use Rattle.drat_line.specs.declared.Said.{Said}
use Rattle.drat_line.specs.declared.Said.TheVariants.{Malformed}
use Rattle.drat_line.specs.Lines.{line_said}

-- whether no clause is left
abbrev pub is_ended : Reading → Bool
is_ended (clause ls from to rest) = false
is_ended ended = true
is_ended unreadable = false

-- what a line says; malformed where n is above 32
abbrev pub line_held : ℕ → List ℕ → Said
line_held n line = cond (ltb 32 n) Malformed (line_said n line)
